-- What the tables say of the calls that they find.
use Rattle.std.proofs.Common.{◌≡◌, ℕ, ◌==◌, ◌&&◌, Bool, true, false, cond, List, [], ◌∷◌, length}
use Rattle.std.proofs.Common.{map, Option, Some, None, refl, sym, ap, ◌∙◌, subst}
use Rattle.std.specs.List.{AllByRecursion}
use Rattle.std.specs.Str.{bytes_eq}
use Rattle.std.proofs.lemmas.Slice.Eq.{bytes_eq-Decides}
use Rattle.query_forms.specs.declared.term_place.TermPlace.{TermPlace}
use Rattle.query_forms.specs.Forms.{Form, forms_at, places_in}
use Rattle.query_parser.specs.declared.term.Term.{Term}
use Rattle.query_syntax.specs.Fits.{AllFit, HasForm}
use Rattle.query_syntax.specs.Rows.{Row, head_in, rows_of}
use Rattle.query_syntax.proofs.Fitting.{both_tests}

-- the forms of calls that have these words, and arguments at these places
abbrev pub forms_of : {H : Type 0} → (H → List ℕ) → (H → List TermPlace) → List H → List Form
forms_of word_of places_of heads =
    map (λ head. record { head = word_of head; arguments = places_of head }) heads

module _ (H : Type 0) (word_of : H → List ℕ) (places_of : H → List TermPlace) where
  -- what a call is, among these
  abbrev pub named : List H → List ℕ → ℕ → Option H
  named heads word count = head_in (rows_of word_of places_of heads) word count

  -- the places of the form that it has among these
  abbrev pub placed : List H → List ℕ → ℕ → Option (List TermPlace)
  placed heads word count = places_in (forms_of word_of places_of heads) word count

  -- what is found has the word, and its places are those of the first such form
  abbrev pub Found : List H → List ℕ → ℕ → H → Type 0
  Found heads word count head =
      (word ≡ word_of head) × (placed heads word count ≡ Some (places_of head))

  -- at one of them
  found_at : (first : H) (rest : List H) (word : List ℕ) (count : ℕ) (head : H) (test : Bool)
      → (bytes_eq (word_of first) word && (length (places_of first) == count)) ≡ test
      → cond test (Some first) (named rest word count) ≡ Some head
      → (named rest word count ≡ Some head → Found rest word count head)
      → Found (first ∷ rest) word count head
  found_at first rest word count head true passes found after =
      let same : first ≡ head = cc in
      let written = (bytes_eq-Decides (word_of first) word).0
      (both_tests (bytes_eq (word_of first) word) _ passes).0 in
      (sym written ∙ ap word_of same, rw passes (ap Some (ap places_of same)))
  found_at first rest word count head false passes found after =
      let there = after found in
      (there.0, rw passes there.1)

  found_in : (heads : List H) (word : List ℕ) (count : ℕ) (head : H)
      → named heads word count ≡ Some head → Found heads word count head
  found_in [] word count head found = absurd (cc)
  found_in (first ∷ rest) word count head found =
      found_at first rest word count head
      (bytes_eq (word_of first) word && (length (places_of first) == count)) refl found
      (λ there. found_in rest word count head there)

  -- where nothing is found there is no form
  missing_in : (heads : List H) (word : List ℕ) (count : ℕ) → named heads word count ≡ None
      → placed heads word count ≡ None
  missing_in [] word count missing = refl
  missing_in (first ∷ rest) word count missing =
      missing_at (bytes_eq (word_of first) word && (length (places_of first) == count)) missing
      (missing_in rest word count)
    where
      missing_at : (test : Bool) → cond test (Some first) (named rest word count) ≡ None
          → (named rest word count ≡ None → placed rest word count ≡ None)
          → cond test (Some (places_of first)) (placed rest word count) ≡ None
      missing_at true none after = absurd (cc)
      missing_at false none after = after none

  module _ (place : TermPlace) (heads : List H) (word : List ℕ) (arguments : List Term) where
    -- a call with a form is found, and its arguments stand at the places of what it is
    pub head_found : (head : H) → forms_of word_of places_of heads ≡ forms_at place
        → HasForm place word arguments → Some head ≡ named heads word (length arguments)
        → (word ≡ word_of head) × AllFit (places_of head) arguments
    head_found head table has found =
        let at = found_in heads word (length arguments) head (sym found) in
        let places : Some has.places ≡ Some (places_of head) =
        sym has.form ∙ ap (λ forms. places_in forms word (length arguments)) (sym table) ∙ at.1 in
        let same : has.places ≡ places_of head = cc in
        (at.0, subst (λ ps. AllFit ps arguments) same has.fit)

    -- so nothing else is
    pub head_missing : forms_of word_of places_of heads ≡ forms_at place
        → HasForm place word arguments → None ≡ named heads word (length arguments) → ⊥
    head_missing table has missing =
        let none = missing_in heads word (length arguments) (sym missing) in
        let some = has.form ∙ refl in
        let at : placed heads word (length arguments) ≡ Some has.places =
        ap (λ forms. places_in forms word (length arguments)) table ∙ some in
        absurd (cc)

-- what is found is what one of the rows is
pub one_of_rows : {H : Type 0} (P : H → Type 0) (rows : List (Row H)) (word : List ℕ)
    (count : ℕ) (head : H) → AllByRecursion (λ (row : Row H). P row.is) rows
    → head_in rows word count ≡ Some head → P head
one_of_rows {H} P [] word count head all found = absurd (cc)
one_of_rows {H} P (first ∷ rest) word count head all found =
    at_first (bytes_eq first.word word && (first.count == count)) found
    (λ after. one_of_rows P rest word count head all.1 after)
  where
    at_first : (test : Bool) → cond test (Some first.is) (head_in rest word count) ≡ Some head
        → (head_in rest word count ≡ Some head → P head) → P head
    at_first true here later = let same : first.is ≡ head = cc in subst P same all.0
    at_first false after later = later after

-- where a place has one form of a call, a call with a form has that one
pub one_form : (place : TermPlace) (written : List ℕ) (places : List TermPlace) (word : List ℕ)
    (arguments : List Term) → record { head = written; arguments = places } ∷ [] ≡ forms_at place
    → HasForm place word arguments → (word ≡ written) × AllFit places arguments
one_form place written places word arguments table has =
    by_head (head_in (rows_of (λ _. written) (λ _. places) heads) word (length arguments)) refl
  where
    heads : List (Unit {0})
    heads = tt ∷ []

    by_head : (head : Option (Unit {0}))
        → head ≡ head_in (rows_of (λ _. written) (λ _. places) heads) word (length arguments)
        → (word ≡ written) × AllFit places arguments
    by_head None missing = absurd (head_missing (Unit {0}) (λ _. written) (λ _. places) place heads
        word arguments table has missing)
    by_head (Some head) found =
        head_found (Unit {0}) (λ _. written) (λ _. places) place heads word arguments head
        table has found

-- a form that is found is that of a call that is found
pub form_found : (H : Type 0) (word_of : H → List ℕ) (places_of : H → List TermPlace)
    (heads : List H) (word : List ℕ) (count : ℕ) (places : List TermPlace)
    → places_in (forms_of word_of places_of heads) word count ≡ Some places
    → (head : H) × (word ≡ word_of head) × (places ≡ places_of head)
form_found H word_of places_of heads word count places found =
    by_head (head_in (rows_of word_of places_of heads) word count) refl
  where
    by_head : (head : Option H) → head_in (rows_of word_of places_of heads) word count ≡ head
        → (head : H) × (word ≡ word_of head) × (places ≡ places_of head)
    by_head None missing =
        let none = missing_in H word_of places_of heads word count missing in absurd (cc)
    by_head (Some head) is =
        let at = found_in H word_of places_of heads word count head is in
        let some = at.1 in
        (head, at.0, cc)
