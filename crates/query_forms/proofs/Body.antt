-- A loop over top terms: what is left decides.
use Rattle.std.proofs.Common.{◌≡◌, ℕ, ◌-◌, ◌≤◌, Bool, true, false, cond, ◌&&◌, ◌==◌, nat_le, List}
use Rattle.std.proofs.Common.{[], ◌∷◌, length, codes, Option, Some, None, refl, sym, ap, ◌∙◌, subst}
use Rattle.std.proofs.Common.{arith}
use Rattle.std.proofs.lemmas.Bool.Decides.{nat_tests}
use Rattle.std.proofs.lemmas.List.{length-replicate}
use Rattle.std.specs.Option.{option_or}
use Rattle.std.specs.Str.{bytes_eq}
use Rattle.language_base.specs.declared.span.Span.{Span}
use Rattle.query_trees.specs.declared.tree.Tree.{Tree, Leaf, Call'}
use Rattle.query_trees.specs.Trees as trees
use Rattle.query_trees.specs.Trees.{Trees, tree_before, trees_of, first_of_two}
use Rattle.query_forms.specs.declared.term_place.TermPlace.TheVariants.{Column, Query, Name}
use Rattle.query_forms.specs.Terms.{Terms, none, word, number, string, call, count_of, AreOf, Say}
use Rattle.query_forms.specs.Forms.{first_unfit}
use Rattle.query_forms.specs.File.{first_place, is_let, unfit_body, unfit_file}
use Rattle.query_forms.specs.Tops.{is_call, stream_places, unfit_call, unfit_stream}
use Rattle.query_forms.proofs.Parts.{alone, after, say_alone, say_after, of_alone, of_after}

-- std's word for the first of two
pub option_or_is : (first others : Option Span) → option_or first others ≡ first_of_two first others
option_or_is None others = refl
option_or_is (Some span) others = refl

-- some tree says some term
some_term : (text : List ℕ) (tree : Tree) (others : Trees)
    → Say text (tree_before tree others) none → ⊥
some_term text (Leaf token) others say = say
some_term text (Call' first shape row place) others say = say

some_said : (text : List ℕ) (tree : Tree) (others : Trees) (terms : Terms)
    → Say text (tree_before tree others) terms → terms ≡ none → ⊥
some_said text tree others terms say is =
    some_term text tree others (subst (Say text (tree_before tree others)) is say)

two_of_test : (test : Bool) (first others : Option Span) (span : Span)
    → cond test (first_of_two first others) (Some span)
    ≡ first_of_two (cond test first (Some span)) others
two_of_test true first others span = refl
two_of_test false first others span = refl

two_of_tests : (name low high count : Bool) (first others : Option Span) (span : Span)
    → (low ≡ true → count ≡ true)
    → cond ((name && low) && high) (first_of_two first others) (Some span)
    ≡ first_of_two (cond (low && high) (cond (name && count) first (Some span)) (Some span)) others
two_of_tests true true high count first others span same =
    rw (same refl) (two_of_test high first others span)
two_of_tests true false high count first others span same = refl
two_of_tests false true true count first others span same = refl
two_of_tests false true false count first others span same = refl
two_of_tests false false high count first others span same = refl

-- at `main`
pub main_parts : (end : ℕ) (terms : Terms) → (terms ≡ none → ⊥)
    → is_call (codes "main") 1 (alone terms) ≡ true
    → unfit_body end terms ≡ first_of_two (unfit_call (codes "main") (Query ∷ []) (alone terms))
    (first_place (after terms))
main_parts end none some is = absurd (some refl)
main_parts end (word bytes span rest) some is = absurd (cc)
main_parts end (number value span rest) some is = absurd (cc)
main_parts end (string bytes span rest) some is = absurd (cc)
main_parts end (call head arguments span rest) some is = rw is

-- at another top term, which is to be a `let`
pub let_parts : (end : ℕ) (terms : Terms) → (terms ≡ none → ⊥)
    → is_call (codes "main") 1 (alone terms) ≡ false → unfit_body end terms ≡ first_of_two
    (unfit_call (codes "let") (Name ∷ Query ∷ []) (alone terms)) (unfit_body end (after terms))
let_parts end none some is = absurd (some refl)
let_parts end (word bytes span rest) some is = refl
let_parts end (number value span rest) some is = refl
let_parts end (string bytes span rest) some is = refl
let_parts end (call head arguments span rest) some is =
    rw is (two_of_test (is_let head (count_of arguments))
    (first_unfit (Name ∷ Query ∷ []) arguments) (unfit_body end rest) span)

le_of_test : (count : ℕ) → nat_le 2 count ≡ true → 2 ≤ count
le_of_test count some = grind (arith, nat_tests)

count_fits : (count : ℕ) → nat_le 2 count ≡ true → (count == length (stream_places count)) ≡ true
count_fits count some =
    let length_is : length (stream_places count) ≡ count =
    omega (arith, length-replicate (count - 1) Column, le_of_test count some) in
    rw length_is (grind (arith, nat_tests))

-- at the stream
pub stream_parts : (end : ℕ) (terms : Terms) → (terms ≡ none → ⊥) → unfit_file end terms
    ≡ first_of_two (unfit_stream (alone terms)) (unfit_body end (after terms))
stream_parts end none some = absurd (some refl)
stream_parts end (word bytes span rest) some = refl
stream_parts end (number value span rest) some = refl
stream_parts end (string bytes span rest) some = refl
stream_parts end (call head arguments span rest) some =
    two_of_tests (bytes_eq head (codes "stream")) (nat_le 2 (count_of arguments))
    (nat_le (count_of arguments) 33)
    (count_of arguments == length (stream_places (count_of arguments)))
    (first_unfit (stream_places (count_of arguments)) arguments) (unfit_body end rest) span
    (count_fits (count_of arguments))

-- of these trees, those are left, and the first unfit term is among what they say
pub record Rest (text : List ℕ) (end : ℕ) (list left : List Tree) : Type 0 where
  pub of_text : AreOf text (trees_of left)
  pub same : (terms : Terms) → Say text (trees_of list) terms → (rest : Terms)
      × Say text (trees_of left) rest × (unfit_body end terms ≡ unfit_body end rest)

-- the next is of the text
pub Rest-of_text : (text : List ℕ) (end : ℕ) (list : List Tree) (tree : Tree) (left : List Tree)
    → Rest text end list (tree ∷ left) → AreOf text (tree_before tree trees.none)
Rest-of_text text end list tree left had = of_alone text tree (trees_of left) had.of_text

-- the next is `main`
pub Rest-main : (text : List ℕ) (end : ℕ) (list : List Tree) (tree : Tree) (left : List Tree)
    (unfit place answer : Option Span) → Rest text end list (tree ∷ left)
    → ((terms : Terms) → Say text (tree_before tree trees.none) terms
    → true ≡ is_call (codes "main") 1 terms)
    → ((terms : Terms) → Say text (tree_before tree trees.none) terms
    → unfit ≡ unfit_call (codes "main") (Query ∷ []) terms)
    → ((terms : Terms) → Say text (trees_of left) terms → place ≡ first_place terms)
    → answer ≡ first_of_two unfit place
    → (terms : Terms) → Say text (trees_of list) terms → answer ≡ unfit_body end terms
Rest-main text end list tree left unfit place answer had is inside after_it answers terms say =
    let rest = had.same terms say in
    let first = say_alone text tree (trees_of left) rest.0 rest.1 in
    let others = say_after text tree (trees_of left) rest.0 rest.1 in
    answers ∙ ap (λ found. first_of_two found place) (inside (alone rest.0) first)
    ∙ ap (λ found. first_of_two (unfit_call (codes "main") (Query ∷ []) (alone rest.0)) found)
    (after_it (after rest.0) others)
    ∙ sym (rest.2 ∙ main_parts end rest.0 (some_said text tree (trees_of left) rest.0 rest.1)
    (sym (is (alone rest.0) first)))

-- the first unfit term is in the next, or in those after it
at_let : (text : List ℕ) (end : ℕ) (tree : Tree) (left : List Tree) (unfit : Option Span)
    → ((terms : Terms) → Say text (tree_before tree trees.none) terms
    → false ≡ is_call (codes "main") 1 terms)
    → ((terms : Terms) → Say text (tree_before tree trees.none) terms
    → unfit ≡ unfit_call (codes "let") (Name ∷ Query ∷ []) terms)
    → (rest : Terms) → Say text (trees_of (tree ∷ left)) rest
    → unfit_body end rest ≡ first_of_two unfit (unfit_body end (after rest))
at_let text end tree left unfit other inside rest say =
    let first = say_alone text tree (trees_of left) rest say in
    let_parts end rest (some_said text tree (trees_of left) rest say)
    (sym (other (alone rest) first))
    ∙ ap (λ found. first_of_two found (unfit_body end (after rest)))
    (sym (inside (alone rest) first))

-- the next is no `main`, and is unfit or has something unfit in it
pub Rest-found : (text : List ℕ) (end : ℕ) (list : List Tree) (tree : Tree) (left : List Tree)
    (span : Span) → Rest text end list (tree ∷ left)
    → ((terms : Terms) → Say text (tree_before tree trees.none) terms
    → false ≡ is_call (codes "main") 1 terms)
    → ((terms : Terms) → Say text (tree_before tree trees.none) terms
    → Some span ≡ unfit_call (codes "let") (Name ∷ Query ∷ []) terms)
    → (terms : Terms) → Say text (trees_of list) terms → Some span ≡ unfit_body end terms
Rest-found text end list tree left span had other inside terms say =
    let rest = had.same terms say in
    sym (rest.2 ∙ at_let text end tree left (Some span) other inside rest.0 rest.1)

-- the next is a `let`
pub Rest-next : (text : List ℕ) (end : ℕ) (list : List Tree) (tree : Tree) (left : List Tree)
    → Rest text end list (tree ∷ left)
    → ((terms : Terms) → Say text (tree_before tree trees.none) terms
    → false ≡ is_call (codes "main") 1 terms)
    → ((terms : Terms) → Say text (tree_before tree trees.none) terms
    → None ≡ unfit_call (codes "let") (Name ∷ Query ∷ []) terms)
    → Rest text end list left
Rest-next text end list tree left had other inside = record {
  of_text = of_after text tree (trees_of left) had.of_text;
  same = λ terms say. let rest = had.same terms say in (
    after rest.0,
    say_after text tree (trees_of left) rest.0 rest.1,
    rest.2 ∙ at_let text end tree left None other inside rest.0 rest.1,
  );
}

-- no stream stands first
pub file_found : (text : List ℕ) (end : ℕ) (list : List Tree) (tree : Tree) (left : List Tree)
    (span : Span) → list ≡ tree ∷ left
    → ((terms : Terms) → Say text (tree_before tree trees.none) terms
    → Some span ≡ unfit_stream terms)
    → (terms : Terms) → Say text (trees_of list) terms → Some span ≡ unfit_file end terms
file_found text end list tree left span is unfit terms say =
    let whole = subst (λ l. Say text (trees_of l) terms) is say in
    sym (stream_parts end terms (some_said text tree (trees_of left) terms whole)
    ∙ ap (λ found. first_of_two found (unfit_body end (after terms)))
    (sym (unfit (alone terms) (say_alone text tree (trees_of left) terms whole))))

-- after a stream the rest decides
pub file_read : (text : List ℕ) (end : ℕ) (list : List Tree) (tree : Tree) (left : List Tree)
    (body : Option Span) → list ≡ tree ∷ left
    → ((terms : Terms) → Say text (tree_before tree trees.none) terms → None ≡ unfit_stream terms)
    → ((terms : Terms) → Say text (trees_of left) terms → body ≡ unfit_body end terms)
    → (terms : Terms) → Say text (trees_of list) terms → body ≡ unfit_file end terms
file_read text end list tree left body is fits at_body terms say =
    let whole = subst (λ l. Say text (trees_of l) terms) is say in
    at_body (after terms) (say_after text tree (trees_of left) terms whole)
    ∙ sym (stream_parts end terms (some_said text tree (trees_of left) terms whole)
    ∙ ap (λ found. first_of_two found (unfit_body end (after terms)))
    (sym (fits (alone terms) (say_alone text tree (trees_of left) terms whole))))

-- the first of the trees is of the text
pub file_first_of_text : (text : List ℕ) (list : List Tree) (tree : Tree) (left : List Tree)
    → list ≡ tree ∷ left → AreOf text (trees_of list) → AreOf text (tree_before tree trees.none)
file_first_of_text text list tree left is are =
    of_alone text tree (trees_of left) (subst (λ l. AreOf text (trees_of l)) is are)

-- and the others are
pub file_rest_of_text : (text : List ℕ) (list : List Tree) (tree : Tree) (left : List Tree)
    → list ≡ tree ∷ left → AreOf text (trees_of list) → AreOf text (trees_of left)
file_rest_of_text text list tree left is are =
    of_after text tree (trees_of left) (subst (λ l. AreOf text (trees_of l)) is are)
