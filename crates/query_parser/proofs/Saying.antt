-- What lists of trees say, tree by tree.
use Rattle.std.proofs.Common.{◌≡◌, ℕ, ◌+◌, ◌<◌, List, [], ◌∷◌, ◌++◌, length, get_or, take, zero}
use Rattle.std.proofs.Common.{suc, Vec, Global, refl, sym, subst, arith}
use Rattle.std.proofs.lemmas.List.{take_more}
use Rattle.language_base.specs.declared.span.Span.{Span}
use Rattle.query_trees.specs.declared.tree.Tree as tree
use Rattle.query_trees.specs.declared.tree.Tree.{Tree}
use Rattle.query_trees.specs.Trees as trees
use Rattle.query_trees.specs.Trees.{tree_before, trees_of}
use Rattle.query_forms.specs.Terms as plain
use Rattle.query_forms.specs.Terms.{AreOf, Say, bytes_at}
use Rattle.query_tokens.specs.declared.token.Token.{Token}
use Rattle.query_parser.specs.declared.term.Terms.{Terms}
use Rattle.query_trees.proofs.Rows.{tree_before-Call}
use Rattle.query_parser.proofs.Rows.{call_before}
use Rattle.query_parser.specs.declared.term.Term as term
use Rattle.query_parser.specs.declared.term.Term.{Term}
use Rattle.query_parser.specs.Plain.{term_before, terms_of}
use Rattle.query_parser.specs.Sayable.{AreSayable}

module _ (text : List ℕ) where
  -- the tree alone says the term alone
  abbrev SaysOne : Tree → Term → Type 0
  SaysOne tree term = Say text (tree_before tree trees.none) (term_before term plain.none)

  -- a tree and those after it say a term and those after it
  say_both : (tree : Tree) (term : Term) (rest : trees.Trees) (more : plain.Terms) →
      SaysOne tree term → Say text rest more
      → Say text (tree_before tree rest) (term_before term more)
  say_both (tree.Leaf token) (term.Word bytes span) rest more one others =
      (one.0, one.1, one.2, others)
  say_both (tree.Leaf token) (term.Number value span) rest more one others =
      (one.0, one.1, one.2, others)
  say_both (tree.Leaf token) (term.Text bytes span) rest more one others =
      (one.0, one.1, one.2, others)
  say_both (tree.Leaf token) (term.Call' head shape row span) rest more one others = absurd one
  say_both (tree.Call' head shape row span) (term.Word bytes place) rest more one others =
      absurd one
  say_both (tree.Call' head shape row span) (term.Number value place) rest more one others =
      absurd one
  say_both (tree.Call' head shape row span) (term.Text bytes place) rest more one others =
      absurd one
  say_both (tree.Call' head shape row span) (term.Call' word form inner place) rest
      more one others =
      (one.0, one.1, one.2, others)

  -- and each by itself
  say_each : (tree : Tree) (term : Term) (rest : trees.Trees) (more : plain.Terms) →
      Say text (tree_before tree rest) (term_before term more)
      → SaysOne tree term × Say text rest more
  say_each (tree.Leaf token) (term.Word bytes span) rest more both =
      ((both.0, both.1, both.2, tt), both.3)
  say_each (tree.Leaf token) (term.Number value span) rest more both =
      ((both.0, both.1, both.2, tt), both.3)
  say_each (tree.Leaf token) (term.Text bytes span) rest more both =
      ((both.0, both.1, both.2, tt), both.3)
  say_each (tree.Leaf token) (term.Call' head shape row span) rest more both = absurd both
  say_each (tree.Call' head shape row span) (term.Word bytes place) rest more both = absurd both
  say_each (tree.Call' head shape row span) (term.Number value place) rest more both = absurd both
  say_each (tree.Call' head shape row span) (term.Text bytes place) rest more both = absurd both
  say_each (tree.Call' head shape row span) (term.Call' word form inner place) rest more both =
      ((both.0, both.1, both.2, tt), both.3)

  -- no tree says no term
  say_nothing : (tree : Tree) (rest : trees.Trees) → Say text (tree_before tree rest) plain.none → ⊥
  say_nothing (tree.Leaf token) rest never = never
  say_nothing (tree.Call' head shape row span) rest never = never

  -- and no term is said by none
  said_by_none : (term : Term) (more : plain.Terms)
      → Say text trees.none (term_before term more) → ⊥
  said_by_none (term.Word bytes span) more never = never
  said_by_none (term.Number value span) more never = never
  said_by_none (term.Text bytes span) more never = never
  said_by_none (term.Call' word form inner place) more never = never

  -- a tree and a term are added at the end
  say_pushed : (trees : List Tree) (terms : List Term) (tree : Tree) (term : Term) →
      Say text (trees_of trees) (terms_of terms) → SaysOne tree term →
      Say text (trees_of (trees ++ tree ∷ [])) (terms_of (terms ++ term ∷ []))
  say_pushed [] [] tree term before one = one
  say_pushed [] (other ∷ terms) tree term before one =
      absurd (said_by_none other (terms_of terms) before)
  say_pushed (first ∷ trees) [] tree term before one =
      absurd (say_nothing first (trees_of trees) before)
  say_pushed (first ∷ trees) (other ∷ terms) tree term before one =
      let each = say_each first other (trees_of trees) (terms_of terms) before in
      say_both first other _ _ each.0 (say_pushed trees terms tree term each.1 one)

  -- the step of a loop over trees
  pub say_more : (trees : List Tree) (terms now : List Term) (tree : Tree) (term : Term) (index : ℕ)
      → index < length trees →
      tree ≡ get_or trees index tree → now ≡ terms ++ term ∷ [] →
      Say text (trees_of (take index trees)) (terms_of terms) → SaysOne tree term →
      Say text (trees_of (take (index + 1) trees)) (terms_of now)
  say_more trees terms now tree term index lt is pushed before one =
      rw (pushed, take_more trees index tree lt, ← is)
      (say_pushed (take index trees) terms tree term before one)

  -- a first tree, and those after it
  tokens_first : (first : Tree) (rest : trees.Trees) → AreOf text (tree_before first rest) →
      AreOf text (tree_before first trees.none) × AreOf text rest
  tokens_first (tree.Leaf token) rest all = ((all.0, tt), all.1)
  tokens_first (tree.Call' head shape row span) rest all = ((all.0, all.1, tt), all.2)

  -- each tree by itself
  pub tokens_at : (list : List Tree) (one : Tree) (index : ℕ) → index < length list
      → one ≡ get_or list index one →
      AreOf text (trees_of list) → AreOf text (tree_before one trees.none)
  tokens_at [] one index lt is all = absurd (omega arith)
  tokens_at (first ∷ rest) one zero lt is all = rw is (tokens_first first (trees_of rest) all).0
  tokens_at (first ∷ rest) one (suc index) lt is all =
      tokens_at rest one index (omega arith) is (tokens_first first (trees_of rest) all).1

  -- the arguments of a call
  pub tokens_inside : (branch : Tree) (head : Token) (arguments : Vec Tree Global) (span : Span) →
      branch ≡ tree.Call head arguments span → AreOf text (tree_before branch trees.none) →
      AreOf text (trees_of arguments.items)
  tokens_inside branch head arguments span is all =
      let whole = subst (λ (t : Tree). AreOf text (tree_before t trees.none)) is all in
      (subst (AreOf text) (tree_before-Call head arguments span trees.none) whole).1

  -- a first tree, and those after it
  sayable_first : (first : Tree) (rest : trees.Trees) → AreSayable text (tree_before first rest) →
      AreSayable text (tree_before first trees.none) × AreSayable text rest
  sayable_first (tree.Leaf token) rest all = ((all.0, tt), all.1)
  sayable_first (tree.Call' head shape row span) rest all = ((all.0, tt), all.1)

  -- each tree by itself
  pub sayable_at : (list : List Tree) (one : Tree) (index : ℕ) → index < length list
      → one ≡ get_or list index one →
      AreSayable text (trees_of list) → AreSayable text (tree_before one trees.none)
  sayable_at [] one index lt is all = absurd (omega arith)
  sayable_at (first ∷ rest) one zero lt is all = rw is (sayable_first first (trees_of rest) all).0
  sayable_at (first ∷ rest) one (suc index) lt is all =
      sayable_at rest one index (omega arith) is (sayable_first first (trees_of rest) all).1

  -- the arguments of a call
  pub sayable_inside : (branch : Tree) (head : Token) (arguments : Vec Tree Global) (span : Span) →
      branch ≡ tree.Call head arguments span → AreSayable text (tree_before branch trees.none) →
      AreSayable text (trees_of arguments.items)
  sayable_inside branch head arguments span is all =
      let whole = subst (λ (t : Tree). AreSayable text (tree_before t trees.none)) is all in
      (subst (AreSayable text) (tree_before-Call head arguments span trees.none) whole).0

  -- a call of tokens says a call of terms
  pub say_call : (branch : Tree) (head : Token) (arguments : Vec Tree Global) (span : Span)
      (word : List ℕ) (inner : Terms) →
      branch ≡ tree.Call head arguments span → word ≡ bytes_at text head.span →
      Say text (trees_of arguments.items) (terms_of inner.terms.items)
      → SaysOne branch (term.Call word inner span)
  say_call branch head arguments span word inner is written say =
      let whole : Say text (trees.call head (trees_of arguments.items) span trees.none)
      (plain.call word (terms_of inner.terms.items) span plain.none) = (written, refl, say, tt) in
      let of_tree = subst (λ (t : trees.Trees). Say text t
      (plain.call word (terms_of inner.terms.items) span plain.none))
      (sym (tree_before-Call head arguments span trees.none)) whole in
      let of_term = subst (Say text (tree_before (tree.Call head arguments span) trees.none))
      (sym (call_before word inner span plain.none)) of_tree in
      subst (λ (t : Tree). SaysOne t (term.Call word inner span)) (sym is) of_term
