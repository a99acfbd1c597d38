-- A loop over places and trees: what is left of both decides.
use Rattle.std.proofs.Common.{◌≡◌, ◌≤◌, ◌<◌, ◌+◌, ℕ, List, [], ◌∷◌, Option, Some, None, sym, ap}
use Rattle.std.proofs.Common.{◌∙◌, arith}
use Rattle.language_base.specs.declared.span.Span.{Span}
use Rattle.query_trees.specs.declared.tree.Tree.{Tree}
use Rattle.query_trees.specs.Trees as trees
use Rattle.query_trees.specs.Trees.{tree_before, trees_of, first_of_two}
use Rattle.query_forms.specs.declared.term_place.TermPlace.{TermPlace}
use Rattle.query_forms.specs.Terms.{Terms, AreOf, Say}
use Rattle.query_forms.specs.Forms.{first_unfit}
use Rattle.query_forms.proofs.Parts.{alone, after, say_alone, say_after, first_unfit_parts}
use Rattle.query_forms.proofs.Parts.{of_alone, of_after, weight, weight_before}

-- of these places and trees, those are left, and the first unfit term is among what they say
pub record Left (text : List ℕ) (places left_places : List TermPlace)
    (list left : List Tree) : Type 0 where
  pub of_text : AreOf text (trees_of left)
  pub lighter : weight (trees_of left) ≤ weight (trees_of list)
  pub same : (terms : Terms) → Say text (trees_of list) terms → (rest : Terms)
      × Say text (trees_of left) rest × (first_unfit places terms ≡ first_unfit left_places rest)

-- the answer at one tree
abbrev pub Answers : List ℕ → TermPlace → Tree → Option Span → Type 0
Answers text place tree answer =
    (terms : Terms) → Say text (tree_before tree trees.none) terms
    → answer ≡ first_unfit (place ∷ []) terms

-- the first unfit term is the next, or among those after it
at_next : (text : List ℕ) (place : TermPlace)
    (places : List TermPlace) (tree : Tree) (list : List Tree) (answer : Option Span)
    → Answers text place tree answer → (rest : Terms) → Say text (trees_of (tree ∷ list)) rest
    → first_unfit (place ∷ places) rest ≡ first_of_two answer (first_unfit places (after rest))
at_next text place places tree list answer answers rest say =
    first_unfit_parts place places rest
    ∙ ap (λ first. first_of_two first (first_unfit places (after rest)))
    (sym (answers (alone rest) (say_alone text tree (trees_of list) rest say)))

-- the next fits
pub Left-next : (text : List ℕ) (places : List TermPlace) (place : TermPlace)
    (others : List TermPlace) (list : List Tree) (tree : Tree) (left : List Tree)
    → Left text places (place ∷ others) list (tree ∷ left) → Answers text place tree None
    → Left text places others list left
Left-next text places place others list tree left had fits = record {
  of_text = of_after text tree (trees_of left) had.of_text;
  lighter = let lighter = had.lighter in omega (arith, weight_before tree (trees_of left));
  same = λ terms say. let rest = had.same terms say in (
    after rest.0,
    say_after text tree (trees_of left) rest.0 rest.1,
    rest.2 ∙ at_next text place others tree left None fits rest.0 rest.1,
  );
}

-- the next is of the text
pub Left-of_text : (text : List ℕ) (places left_places : List TermPlace) (list : List Tree)
    (tree : Tree) (left : List Tree) → Left text places left_places list (tree ∷ left)
    → AreOf text (tree_before tree trees.none)
Left-of_text text places left_places list tree left had =
    of_alone text tree (trees_of left) had.of_text

-- and lighter than all together
pub Left-lighter : (text : List ℕ) (places left_places : List TermPlace) (list : List Tree)
    (tree : Tree) (left : List Tree) → Left text places left_places list (tree ∷ left)
    → weight (tree_before tree trees.none) < weight (trees_of list) + 1
Left-lighter text places left_places list tree left had = let lighter = had.lighter in
    omega (arith, weight_before tree (trees_of left))

-- the next is unfit, or something in it
pub Left-found : (text : List ℕ) (places : List TermPlace) (place : TermPlace)
    (others : List TermPlace) (list : List Tree) (tree : Tree) (left : List Tree) (span : Span)
    → Left text places (place ∷ others) list (tree ∷ left) → Answers text place tree (Some span)
    → (terms : Terms) → Say text (trees_of list) terms → Some span ≡ first_unfit places terms
Left-found text places place others list tree left span had unfit terms say =
    let rest = had.same terms say in
    sym (rest.2 ∙ at_next text place others tree left (Some span) unfit rest.0 rest.1)
