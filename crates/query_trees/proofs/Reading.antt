-- Terms, read one after the other.
use Rattle.std.proofs.Common.{◌≡◌, ℕ, ◌+◌, ◌==◌, length, nat_lt, Bool, true, false, cond, List, []}
use Rattle.std.proofs.Common.{◌∷◌, ◌++◌, Option, Some, None, Ok, Err, refl, sym, ap, ◌∙◌, subst}
use Rattle.std.proofs.Common.{⊎_elim}
use Rattle.std.proofs.Math.Dec.{eqb-suc-zero}
use Rattle.language_base.specs.Limits.{max_level}
use Rattle.language_base.specs.declared.span.Span.{Span}
use Rattle.query_tokens.specs.declared.token.Token.{Token}
use Rattle.query_tokens.specs.declared.token.TokenKind.TheVariants.{Close, Comma}
use Rattle.query_trees.specs.declared.stop.TreeStop.{TreeStop}
use Rattle.query_trees.specs.declared.stop.TreeStop.TheVariants.{NoList, Deep, Memory}
use Rattle.query_trees.specs.declared.tree.Tree.{Tree}
use Rattle.query_trees.specs.Terms.{AreTerms}
use Rattle.query_trees.specs.Trees.{Trees, none, leaf, call, tree_before, trees_of, first_of_two}
use Rattle.query_trees.specs.Trees.{first_deep}
use Rattle.query_trees.proofs.Firsts.{no_two, first-in_call, first-term}
use Rattle.query_trees.specs.Reads.{ReadsFirst, NextIs, AreInCall, after_first, deep_in_first}
use Rattle.query_trees.specs.Reads.{AreRead}

-- terms without tokens are none
no-terms : (trees : Trees) (tokens : List Token) → AreTerms trees tokens
    → tokens ≡ [] → trees ≡ none
no-terms none tokens are e = refl
no-terms (leaf token rest) tokens (others, split, is_leaf, are) e = absurd (cc)
no-terms (call head arguments span rest) tokens (others, c, are) e =
    let split = c.split in absurd (cc)

-- too deep in the first, or else after it: where there is none
deep-none : (b : Bool) → None ≡ first_of_two (cond b None None) None
deep-none true = refl
deep-none false = refl

-- in a leaf
deep-leaf : (b : Bool) (span : Span) (rest : Option Span)
    → cond b (Some span) rest ≡ first_of_two (cond b (Some span) None) rest
deep-leaf true span rest = refl
deep-leaf false span rest = refl

-- in a call
deep-call :
    (b : Bool) (span : Span) (inner rest : Option Span)
    → cond b (Some span) (first_of_two inner rest) ≡ first_of_two (cond b (Some span) inner) rest
deep-call true span inner rest = refl
deep-call false span inner rest = refl

-- in any
first_deep-first :
    (level : ℕ) (trees : Trees)
    → first_deep level trees
    ≡ first_of_two (deep_in_first level trees) (first_deep level (after_first trees))
first_deep-first level none = deep-none (nat_lt max_level level)
first_deep-first level (leaf token rest) =
    deep-leaf (nat_lt max_level level) token.span (first_deep level rest)
first_deep-first level (call head arguments span rest) =
    deep-call (nat_lt max_level level) span (first_deep (level + 1) arguments)
    (first_deep level rest)

-- the terms of a list, and then others
pub trees_before : List Tree → Trees → Trees
trees_before [] rest = rest
trees_before (tree ∷ trees) rest = tree_before tree (trees_before trees rest)

-- one more in the list
trees_before-push :
    (trees : List Tree) (tree : Tree) (rest : Trees)
    → trees_before (trees ++ tree ∷ []) rest ≡ trees_before trees (tree_before tree rest)
unfolding trees_before
trees_before-push [] tree rest = refl
trees_before-push (x ∷ trees) tree rest = ap (tree_before x) (trees_before-push trees tree rest)

-- no others
trees_before-none : (trees : List Tree) → trees_before trees none ≡ trees_of trees
unfolding trees_before
trees_before-none [] = refl
trees_before-none (x ∷ trees) = ap (tree_before x) (trees_before-none trees)

-- of these terms of this level the list is read, and others are left; none that is read is too deep
pub record AreLeft (level : ℕ) (read : List Tree) (trees left : Trees) : Type 0 where
  pub split : trees ≡ trees_before read left
  pub deep : first_deep level trees ≡ first_deep level left

-- at the start
pub left-all : (level : ℕ) (trees : Trees) → AreLeft level [] trees trees
unfolding trees_before
left-all level trees = record { split = refl; deep = refl }

-- one more
left-next :
    (level : ℕ) (read : List Tree) (trees left : Trees) (tree : Tree)
    → AreLeft level read trees left → left ≡ tree_before tree (after_first left)
    → deep_in_first level left ≡ None → AreLeft level (read ++ tree ∷ []) trees (after_first left)
left-next level read trees left tree are is deep = record {
  split = are.split
      ∙ (ap (trees_before read) is ∙ sym (trees_before-push read tree (after_first left)));
  deep = are.deep ∙ (first_deep-first level left
      ∙ ap (λ (d : Option Span). first_of_two d (first_deep level (after_first left))) deep);
}

-- the next is too deep
left-deep :
    (level : ℕ) (read : List Tree) (trees left : Trees) (span : Span)
    → AreLeft level read trees left → deep_in_first level left ≡ Some span
    → first_deep level trees ≡ Some span
left-deep level read trees left span are deep =
    are.deep ∙ (first_deep-first level left
    ∙ ap (λ (d : Option Span). first_of_two d (first_deep level (after_first left))) deep)

-- all are read
left-none :
    (level : ℕ) (read : List Tree) (trees left : Trees)
    → AreLeft level read trees left → left ≡ none
    → (trees ≡ trees_of read) × (first_deep level trees ≡ None)
left-none level read trees left are e = (
  are.split ∙ (ap (trees_before read) e ∙ trees_before-none read),
  are.deep ∙ ap (first_deep level) e,
)

-- whatever arguments the tokens are, the list is read of them, and others are left in
-- the tokens now
abbrev pub LeftInCall : ℕ → List Tree → List Token → List Token → Type 0
LeftInCall level read tokens now =
    (trees : Trees) (others : List Token) → AreInCall trees tokens others
    → (left : Trees) × AreInCall left now others × AreLeft level read trees left

-- the same of terms outside of calls
abbrev pub LeftOutside : List Tree → List Token → List Token → Type 0
LeftOutside read tokens now =
    (trees : Trees) → AreTerms trees tokens
    → (left : Trees) × AreTerms left now × AreLeft 1 read trees left

-- a comma follows
pub in_call-next :
    (level : ℕ) (read : List Tree) (tokens now mid rest : List Token) (tree : Tree) (comma : Token)
    → LeftInCall level read tokens now → ReadsFirst level now mid (Ok tree) → mid ≡ comma ∷ rest
    → NextIs Comma mid → LeftInCall level (read ++ tree ∷ []) tokens rest
in_call-next level read tokens now mid rest tree comma left reads split is trees others are =
    let l = left trees others are in
    let first = first-in_call l.0 now others l.1 in
    let got = reads l.0 first.after first.first in
    let next = left-next level read trees l.0 tree l.2 got.0 got.2 in
    ⊎_elim
    (λ end.
    absurd (no_two Close Comma others (λ k. cc) end.2 (subst (NextIs Comma) (got.1 ∙ end.1) is)))
    (λ more. let e : rest ≡ more.1 = cc (got.1, more.2, split) in (
      after_first l.0,
      subst (λ (x : List Token). AreInCall (after_first l.0) x others) (sym e) more.4,
      next,
    ))
    first.follows

-- no comma follows
pub in_call-end :
    (level : ℕ) (read : List Tree) (tokens now mid : List Token) (tree : Tree)
    → LeftInCall level read tokens now → ReadsFirst level now mid (Ok tree) → (NextIs Comma mid → ⊥)
    → (trees : Trees) (others : List Token) → AreInCall trees tokens others
    → (trees ≡ trees_of (read ++ tree ∷ [])) × (mid ≡ others) × (first_deep level trees ≡ None)
in_call-end level read tokens now mid tree left reads no_comma trees others are =
    let l = left trees others are in
    let first = first-in_call l.0 now others l.1 in
    let got = reads l.0 first.after first.first in
    let next = left-next level read trees l.0 tree l.2 got.0 got.2 in
    ⊎_elim
    (λ end. let all = left-none level (read ++ tree ∷ []) trees (after_first l.0) next end.0 in
    (all.0, got.1 ∙ end.1, all.1))
    (λ more. absurd (no_comma (subst (NextIs Comma) (sym (got.1 ∙ more.2)) more.3)))
    first.follows

-- an argument is not read
pub in_call-err :
    (level : ℕ) (read : List Tree) (tokens now mid : List Token) (stop : TreeStop)
    → LeftInCall level read tokens now → ReadsFirst level now mid (Err stop)
    → (trees : Trees) (others : List Token) → AreInCall trees tokens others
    → AreRead level trees others mid (Err stop)
in_call-err level read tokens now mid (NoList span) left reads trees others are =
    let l = left trees others are in
    let first = first-in_call l.0 now others l.1 in
    reads l.0 first.after first.first
in_call-err level read tokens now mid (Deep span) left reads trees others are =
    let l = left trees others are in
    let first = first-in_call l.0 now others l.1 in
    left-deep level read trees l.0 span l.2 (reads l.0 first.after first.first)
in_call-err level read tokens now mid Memory left reads trees others are = tt

-- one more term outside of calls
pub outside-next :
    (read : List Tree) (tokens now mid : List Token) (tree : Tree)
    → LeftOutside read tokens now → ReadsFirst 1 now mid (Ok tree) → (now ≡ [] → ⊥)
    → LeftOutside (read ++ tree ∷ []) tokens mid
outside-next read tokens now mid tree left reads some trees are =
    let l = left trees are in
    let first = first-term l.0 now l.1 some in
    let got = reads l.0 first.after first.first in (
      after_first l.0,
      subst (AreTerms (after_first l.0)) (sym got.1) first.are,
      left-next 1 read trees l.0 tree l.2 got.0 got.2,
    )

-- all of them
pub outside-end :
    (read : List Tree) (tokens now : List Token) → LeftOutside read tokens now → now ≡ []
    → (trees : Trees) → AreTerms trees tokens
    → (trees ≡ trees_of read) × (now ≡ []) × (first_deep 1 trees ≡ None)
outside-end read tokens now left end trees are =
    let l = left trees are in
    let all = left-none 1 read trees l.0 l.2 (no-terms l.0 now l.1 end) in
    (all.0, end, all.1)

-- a term is not read
pub outside-err :
    (read : List Tree) (tokens now mid : List Token) (stop : TreeStop)
    → LeftOutside read tokens now → ReadsFirst 1 now mid (Err stop) → (now ≡ [] → ⊥)
    → (trees : Trees) → AreTerms trees tokens → AreRead 1 trees [] mid (Err stop)
outside-err read tokens now mid (NoList span) left reads some trees are =
    let l = left trees are in
    let first = first-term l.0 now l.1 some in
    reads l.0 first.after first.first
outside-err read tokens now mid (Deep span) left reads some trees are =
    let l = left trees are in
    let first = first-term l.0 now l.1 some in
    left-deep 1 read trees l.0 span l.2 (reads l.0 first.after first.first)
outside-err read tokens now mid Memory left reads some trees are = tt

-- a list whose length is not 0 is not empty
pub some-tokens : (tokens : List Token) → false ≡ (length tokens == 0) → tokens ≡ [] → ⊥
some-tokens [] test e = absurd (cc)
some-tokens (token ∷ rest) test e = absurd (cc)

-- a list whose length is 0 is empty
pub no-tokens : (tokens : List Token) → true ≡ (length tokens == 0) → tokens ≡ []
no-tokens [] test = refl
no-tokens (token ∷ rest) test = let e = eqb-suc-zero (length rest) in absurd (cc)
