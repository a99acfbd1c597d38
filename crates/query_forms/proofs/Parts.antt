-- A list of terms in two parts: the first by itself, and those after it.
use Rattle.std.proofs.Common.{◌≡◌, ℕ, ◌+◌, Bool, true, false, cond, List, [], ◌∷◌, Option, Some}
use Rattle.std.proofs.Common.{None, refl, sym, ap, arith}
use Rattle.language_base.specs.declared.span.Span.{Span}
use Rattle.query_trees.specs.declared.tree.Tree.{Tree, Leaf, Call'}
use Rattle.query_trees.specs.Trees as trees
use Rattle.query_trees.specs.Trees.{Trees, tree_before, first_of_two}
use Rattle.query_forms.specs.declared.term_place.TermPlace.{TermPlace}
use Rattle.query_forms.specs.Terms.{Terms, none, word, number, string, call, AreOf, Say}
use Rattle.query_forms.specs.Forms.{fits_word, fits_number, fits_string, first_unfit}

-- the first of the terms by itself
abbrev pub alone : Terms → Terms
alone none = none
alone (word bytes span rest) = word bytes span none
alone (number value span rest) = number value span none
alone (string bytes span rest) = string bytes span none
alone (call head arguments span rest) = call head arguments span none

-- the terms after the first
abbrev pub after : Terms → Terms
after none = none
after (word bytes span rest) = rest
after (number value span rest) = rest
after (string bytes span rest) = rest
after (call head arguments span rest) = rest

-- a tree before others says the first term
pub say_alone : (text : List ℕ) (tree : Tree) (others : Trees) (terms : Terms)
    → Say text (tree_before tree others) terms
    → Say text (tree_before tree trees.none) (alone terms)
say_alone text (Leaf token) others none say = say
say_alone text (Leaf token) others (word bytes span rest) say = (say.0, say.1, say.2, tt)
say_alone text (Leaf token) others (number value span rest) say = (say.0, say.1, say.2, tt)
say_alone text (Leaf token) others (string bytes span rest) say = (say.0, say.1, say.2, tt)
say_alone text (Leaf token) others (call head arguments span rest) say = say
say_alone text (Call' first shape row place) others none say = say
say_alone text (Call' first shape row place) others (word bytes span rest) say = say
say_alone text (Call' first shape row place) others (number value span rest) say = say
say_alone text (Call' first shape row place) others (string bytes span rest) say = say
say_alone text (Call' first shape row place) others (call head arguments span rest) say =
    (say.0, say.1, say.2, tt)

-- and the others say the terms after it
pub say_after : (text : List ℕ) (tree : Tree) (others : Trees) (terms : Terms)
    → Say text (tree_before tree others) terms → Say text others (after terms)
say_after text (Leaf token) others none say = absurd say
say_after text (Leaf token) others (word bytes span rest) say = say.3
say_after text (Leaf token) others (number value span rest) say = say.3
say_after text (Leaf token) others (string bytes span rest) say = say.3
say_after text (Leaf token) others (call head arguments span rest) say = absurd say
say_after text (Call' first shape row place) others none say = absurd say
say_after text (Call' first shape row place) others (word bytes span rest) say = absurd say
say_after text (Call' first shape row place) others (number value span rest) say = absurd say
say_after text (Call' first shape row place) others (string bytes span rest) say = absurd say
say_after text (Call' first shape row place) others (call head arguments span rest) say = say.3

pub two_of_test : (fits : Bool) (span : Span) (others : Option Span)
    → cond fits others (Some span) ≡ first_of_two (cond fits None (Some span)) others
two_of_test true span others = refl
two_of_test false span others = refl

pub first_of_two-None : (first : Option Span) → first_of_two first None ≡ first
first_of_two-None None = refl
first_of_two-None (Some span) = refl

-- the first unfit term is the first, or else the first unfit one after it
pub first_unfit_parts : (place : TermPlace) (places : List TermPlace) (terms : Terms)
    → first_unfit (place ∷ places) terms
    ≡ first_of_two (first_unfit (place ∷ []) (alone terms)) (first_unfit places (after terms))
first_unfit_parts place [] none = refl
first_unfit_parts place (following ∷ places) none = refl
first_unfit_parts place places (word bytes span rest) =
    two_of_test (fits_word place bytes) span (first_unfit places rest)
first_unfit_parts place places (number value span rest) =
    two_of_test (fits_number place value) span (first_unfit places rest)
first_unfit_parts place places (string bytes span rest) =
    two_of_test (fits_string place) span (first_unfit places rest)
first_unfit_parts place places (call head arguments span rest) =
    ap (λ first. first_of_two first (first_unfit places rest)) (sym (first_of_two-None _))

-- a tree that is of the text, before others, is so by itself
pub of_alone : (text : List ℕ) (tree : Tree) (others : Trees) → AreOf text (tree_before tree others)
    → AreOf text (tree_before tree trees.none)
of_alone text (Leaf token) others are = (are.0, tt)
of_alone text (Call' first shape row place) others are = (are.0, are.1, tt)

-- and the others are of the text
pub of_after : (text : List ℕ) (tree : Tree) (others : Trees) → AreOf text (tree_before tree others)
    → AreOf text others
of_after text (Leaf token) others are = are.1
of_after text (Call' first shape row place) others are = are.2

-- more than the arguments of a call have
abbrev pub weight : Trees → ℕ
weight trees.none = 0
weight (trees.leaf token rest) = weight rest + 1
weight (trees.call head arguments span rest) = weight arguments + weight rest + 2

-- a tree and those after it
pub weight_before : (tree : Tree) (others : Trees)
    → weight (tree_before tree others) ≡ weight (tree_before tree trees.none) + weight others
weight_before (Leaf token) others = omega arith
weight_before (Call' first shape row place) others = omega arith
