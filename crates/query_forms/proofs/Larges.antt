-- A loop over trees for the first large number: what is left decides.
use Rattle.std.proofs.Common.{◌≡◌, ◌≤◌, ◌<◌, ◌+◌, ℕ, List, ◌∷◌, length, get_or, drop, Option, Some}
use Rattle.std.proofs.Common.{None, refl, sym, ap, ◌∙◌, subst, arith}
use Rattle.std.proofs.lemmas.List.{drop_more}
use Rattle.language_base.specs.declared.span.Span.{Span}
use Rattle.query_tokens.specs.declared.token.Token.{Token}
use Rattle.query_trees.specs.declared.tree.Tree.{Tree}
use Rattle.query_trees.specs.Trees as trees
use Rattle.query_trees.specs.Trees.{Trees, tree_before, trees_of, first_of_two}
use Rattle.query_forms.specs.Terms.{Terms, none, word, number, string, call, AreOf, Say}
use Rattle.query_forms.specs.File.{is_within, first_large}
use Rattle.query_forms.proofs.Parts.{alone, after, say_alone, say_after, of_alone, of_after, weight}
use Rattle.query_forms.proofs.Parts.{weight_before, two_of_test, first_of_two-None}

-- the first large number is in the first term, or in those after it
large_parts : (terms : Terms)
    → first_large terms ≡ first_of_two (first_large (alone terms)) (first_large (after terms))
large_parts none = refl
large_parts (word bytes span rest) = refl
large_parts (number value span rest) = two_of_test (is_within value) span (first_large rest)
large_parts (string bytes span rest) = refl
large_parts (call head arguments span rest) =
    ap (λ first. first_of_two first (first_large rest)) (sym (first_of_two-None _))

nothing_large : (text : List ℕ) (rest : Terms) → Say text trees.none rest → first_large rest ≡ None
nothing_large text none say = refl
nothing_large text (word bytes span rest) say = absurd say
nothing_large text (number value span rest) say = absurd say
nothing_large text (string bytes span rest) say = absurd say
nothing_large text (call head arguments span rest) say = absurd say

-- a call has the first large number of its arguments
pub call_large : (text : List ℕ) (head : Token) (inner : Trees) (span : Span) (answer : Option Span)
    → ((terms : Terms) → Say text inner terms → answer ≡ first_large terms) → (terms : Terms)
    → Say text (trees.call head inner span trees.none) terms → answer ≡ first_large terms
call_large text head inner span answer inside none say = absurd say
call_large text head inner span answer inside (word bytes at rest) say = absurd say
call_large text head inner span answer inside (number value at rest) say = absurd say
call_large text head inner span answer inside (string bytes at rest) say = absurd say
call_large text head inner span answer inside (call bytes arguments at rest) say =
    inside arguments say.2
    ∙ sym (ap (first_of_two (first_large arguments)) (nothing_large text rest say.3)
    ∙ first_of_two-None _)

-- of these trees, those are left, and the first large number is in what they say
pub record Left (text : List ℕ) (list left : List Tree) : Type 0 where
  pub of_text : AreOf text (trees_of left)
  pub lighter : weight (trees_of left) ≤ weight (trees_of list)
  pub same : (terms : Terms) → Say text (trees_of list) terms → (rest : Terms)
      × Say text (trees_of left) rest × (first_large terms ≡ first_large rest)

-- the tree at an index is the next
pub Left-at : (text : List ℕ) (list : List Tree) (i : ℕ) (tree : Tree)
    → Left text list (drop i list) → i < length list → tree ≡ get_or list i tree
    → Left text list (tree ∷ drop (i + 1) list)
Left-at text list i tree had within is =
    subst (Left text list)
    (drop_more list i tree within ∙ ap (λ t. t ∷ drop (i + 1) list) (sym is)) had

-- the next is of the text
pub Left-of_text : (text : List ℕ) (list : List Tree) (tree : Tree) (left : List Tree)
    → Left text list (tree ∷ left) → AreOf text (tree_before tree trees.none)
Left-of_text text list tree left had = of_alone text tree (trees_of left) had.of_text

-- and lighter than all together
pub Left-lighter : (text : List ℕ) (list : List Tree) (tree : Tree) (left : List Tree)
    → Left text list (tree ∷ left)
    → weight (tree_before tree trees.none) < weight (trees_of list) + 1
Left-lighter text list tree left had = let lighter = had.lighter in
    omega (arith, weight_before tree (trees_of left))

at_next : (text : List ℕ) (tree : Tree) (left : List Tree) (answer : Option Span)
    → ((terms : Terms) → Say text (tree_before tree trees.none) terms → answer ≡ first_large terms)
    → (rest : Terms) → Say text (trees_of (tree ∷ left)) rest
    → first_large rest ≡ first_of_two answer (first_large (after rest))
at_next text tree left answer answers rest say =
    large_parts rest
    ∙ ap (λ first. first_of_two first (first_large (after rest)))
    (sym (answers (alone rest) (say_alone text tree (trees_of left) rest say)))

-- the next has none
pub Left-next : (text : List ℕ) (list : List Tree) (tree : Tree) (left : List Tree)
    → Left text list (tree ∷ left)
    → ((terms : Terms) → Say text (tree_before tree trees.none) terms → None ≡ first_large terms)
    → Left text list left
Left-next text list tree left had small = record {
  of_text = of_after text tree (trees_of left) had.of_text;
  lighter = let lighter = had.lighter in omega (arith, weight_before tree (trees_of left));
  same = λ terms say. let rest = had.same terms say in (
    after rest.0,
    say_after text tree (trees_of left) rest.0 rest.1,
    rest.2 ∙ at_next text tree left None small rest.0 rest.1,
  );
}

-- the next has one
pub Left-found : (text : List ℕ) (list : List Tree) (tree : Tree) (left : List Tree) (span : Span)
    → Left text list (tree ∷ left) → ((terms : Terms) → Say text (tree_before tree trees.none) terms
    → Some span ≡ first_large terms) → (terms : Terms) → Say text (trees_of list) terms
    → Some span ≡ first_large terms
Left-found text list tree left span had large terms say =
    let rest = had.same terms say in
    sym (rest.2 ∙ at_next text tree left (Some span) large rest.0 rest.1)
