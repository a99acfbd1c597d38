-- The forms and numbers of terms do not depend on their places.
use Rattle.std.proofs.Common.{◌≡◌, ℕ, ◌+◌, List, [], ◌∷◌, Option, Some, None, refl, ap, ◌∙◌}
use Rattle.language_base.specs.declared.span.Span.{Span}
use Rattle.query_forms.specs.declared.term_place.TermPlace.{TermPlace}
use Rattle.query_forms.specs.Terms.{Terms, none, word, number, string, call, count_of}
use Rattle.query_forms.specs.Forms.{places_of, fits_word, fits_number, fits_string, unfit_in}
use Rattle.query_forms.specs.Forms.{first_unfit}
use Rattle.query_forms.specs.File.{first_place, is_within, first_large}
use Rattle.query_parser.specs.Printing.{nowhere, unplaced}
use Rattle.query_parser.proofs.OptionCases.{Some-no_none, first_of_two-none, first_of_two-both}
use Rattle.query_parser.proofs.OptionCases.{chosen-none, chosen-both}
use Rattle.query_parser.proofs.PrintedLayout.{printed, inner_at, close_at, placed}

-- the terms themselves are the same
pub unplaced-placed : (terms : Terms) (gap at : ℕ) → unplaced (placed gap at terms) ≡ unplaced terms
unplaced-placed none gap at = refl
unplaced-placed (word bytes span rest) gap at = ap (word bytes nowhere) (unplaced-placed rest gap _)
unplaced-placed (number value span rest) gap at =
    ap (number value nowhere) (unplaced-placed rest gap _)
unplaced-placed (string bytes span rest) gap at =
    ap (string bytes nowhere) (unplaced-placed rest gap _)
unplaced-placed (call head arguments span rest) gap at =
    ap (λ l. call head l nowhere
    (unplaced (placed gap (close_at at head (printed arguments) + 1 + gap) rest)))
    (unplaced-placed arguments 2 (inner_at at head))
    ∙ ap (call head (unplaced arguments) nowhere) (unplaced-placed rest gap _)

-- and as many
pub count_of-placed : (terms : Terms) (gap at : ℕ) → count_of (placed gap at terms) ≡ count_of terms
count_of-placed none gap at = refl
count_of-placed (word bytes span rest) gap at = ap (λ n. n + 1) (count_of-placed rest gap _)
count_of-placed (number value span rest) gap at = ap (λ n. n + 1) (count_of-placed rest gap _)
count_of-placed (string bytes span rest) gap at = ap (λ n. n + 1) (count_of-placed rest gap _)
count_of-placed (call head arguments span rest) gap at =
    ap (λ n. n + 1) (count_of-placed rest gap _)

-- none is too large
pub first_large-placed : (terms : Terms) (gap at : ℕ) → first_large terms ≡ None
    → first_large (placed gap at terms) ≡ None
first_large-placed none gap at within = refl
first_large-placed (word bytes span rest) gap at within = first_large-placed rest gap _ within
first_large-placed (number value span rest) gap at within =
    let parts = chosen-none (is_within value) (first_large rest) span within in
    chosen-both (is_within value) _ _ parts.0 (first_large-placed rest gap _ parts.1)
first_large-placed (string bytes span rest) gap at within = first_large-placed rest gap _ within
first_large-placed (call head arguments span rest) gap at within =
    let parts = first_of_two-none (first_large arguments) (first_large rest) within in
    first_of_two-both _ _ (first_large-placed arguments 2 (inner_at at head) parts.0)
    (first_large-placed rest gap _ parts.1)

-- what is inside a call fits at another place too
unfit_in-none : (forms : Option (List TermPlace)) (span other : Span)
    (inside others : List TermPlace → Option Span)
    → ((places : List TermPlace) → inside places ≡ None → others places ≡ None)
    → unfit_in forms span inside ≡ None → unfit_in forms other others ≡ None
unfit_in-none None span other inside others fits e = absurd (Some-no_none span e)
unfit_in-none (Some places) span other inside others fits e = fits places e

-- terms that have their forms
pub first_unfit-placed : (terms : Terms) (places : List TermPlace) (gap at : ℕ)
    → first_unfit places terms ≡ None → first_unfit places (placed gap at terms) ≡ None
first_unfit-placed none [] gap at fit = refl
first_unfit-placed none (place ∷ places) gap at fit = refl
first_unfit-placed (word bytes span rest) [] gap at fit = refl
first_unfit-placed (word bytes span rest) (place ∷ places) gap at fit =
    let parts = chosen-none (fits_word place bytes) (first_unfit places rest) span fit in
    chosen-both (fits_word place bytes) _ _ parts.0 (first_unfit-placed rest places gap _ parts.1)
first_unfit-placed (number value span rest) [] gap at fit = refl
first_unfit-placed (number value span rest) (place ∷ places) gap at fit =
    let parts = chosen-none (fits_number place value) (first_unfit places rest) span fit in
    chosen-both (fits_number place value) _ _ parts.0 (first_unfit-placed rest places gap _ parts.1)
first_unfit-placed (string bytes span rest) [] gap at fit = refl
first_unfit-placed (string bytes span rest) (place ∷ places) gap at fit =
    let parts = chosen-none (fits_string place) (first_unfit places rest) span fit in
    chosen-both (fits_string place) _ _ parts.0 (first_unfit-placed rest places gap _ parts.1)
first_unfit-placed (call head arguments span rest) [] gap at fit = refl
first_unfit-placed (call head arguments span rest) (place ∷ places) gap at fit =
    let inner = inner_at at head in
    let parts = first_of_two-none _ (first_unfit places rest) fit in
    first_of_two-both _ _
    (rw (count_of-placed arguments 2 inner)
    (unfit_in-none (places_of place head (count_of arguments)) span _
    (λ p. first_unfit p arguments) _ (λ p. first_unfit-placed arguments p 2 inner) parts.0))
    (first_unfit-placed rest places gap _ parts.1)

-- there is no further term
pub first_place-placed : (terms : Terms) (gap at : ℕ) → first_place terms ≡ None
    → first_place (placed gap at terms) ≡ None
first_place-placed none gap at e = refl
first_place-placed (word bytes span rest) gap at e = absurd (Some-no_none span e)
first_place-placed (number value span rest) gap at e = absurd (Some-no_none span e)
first_place-placed (string bytes span rest) gap at e = absurd (Some-no_none span e)
first_place-placed (call head arguments span rest) gap at e = absurd (Some-no_none span e)
