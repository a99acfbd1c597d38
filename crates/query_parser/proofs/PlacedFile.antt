-- The form of a file does not depend on the places of its terms.
use Rattle.std.proofs.Common.{◌≡◌, ℕ, ◌+◌, ◌-◌, Bool, true, false, cond, [], ◌∷◌, Option, Some}
use Rattle.std.proofs.Common.{None, replicate}
use Rattle.language_base.specs.declared.span.Span.{Span}
use Rattle.query_trees.specs.Trees.{first_of_two}
use Rattle.query_forms.specs.declared.term_place.TermPlace.TheVariants.{Mode, Column, Query, Name}
use Rattle.query_forms.specs.Terms.{Terms, none, word, number, string, call, count_of}
use Rattle.query_forms.specs.Forms.{first_unfit}
use Rattle.query_forms.specs.File.{at_end, first_place, is_stream, is_let, is_main, unfit_body}
use Rattle.query_forms.specs.File.{unfit_file}
use Rattle.query_parser.proofs.OptionCases.{Some-no_none, first_of_two-none, first_of_two-both}
use Rattle.query_parser.proofs.OptionCases.{chosen-none, chosen-both}
use Rattle.query_parser.proofs.PrintedLayout.{printed, inner_at, close_at, placed}
use Rattle.query_parser.proofs.PlacedForms.{count_of-placed, first_unfit-placed, first_place-placed}

-- one of two tests passed, and what follows it is none
tests-none : (first second : Bool) (one two one' two' : Option Span) (span span' : Span)
    → (one ≡ None → one' ≡ None) → (two ≡ None → two' ≡ None)
    → cond first one (cond second two (Some span)) ≡ None
    → cond first one' (cond second two' (Some span')) ≡ None
tests-none true second one two one' two' span span' to_one to_two e = to_one e
tests-none false true one two one' two' span span' to_one to_two e = to_two e
tests-none false false one two one' two' span span' to_one to_two e = absurd (Some-no_none span e)

-- both of two are none at other places too
both-none : (one two one' two' : Option Span) → (one ≡ None → one' ≡ None)
    → (two ≡ None → two' ≡ None) → first_of_two one two ≡ None → first_of_two one' two' ≡ None
both-none one two one' two' to_one to_two e =
    let parts = first_of_two-none one two e in
    first_of_two-both one' two' (to_one parts.0) (to_two parts.1)

-- lets and then `main`
unfit_body-placed : (terms : Terms) (end other gap at : ℕ) → unfit_body end terms ≡ None
    → unfit_body other (placed gap at terms) ≡ None
unfit_body-placed none end other gap at fit = absurd (Some-no_none (at_end end) fit)
unfit_body-placed (word bytes span rest) end other gap at fit = absurd (Some-no_none span fit)
unfit_body-placed (number value span rest) end other gap at fit = absurd (Some-no_none span fit)
unfit_body-placed (string bytes span rest) end other gap at fit = absurd (Some-no_none span fit)
unfit_body-placed (call head arguments span rest) end other gap at fit =
    let inner = inner_at at head in
    let next = close_at at head (printed arguments) + 1 + gap in
    rw (count_of-placed arguments 2 inner) (tests-none
    (is_main head (count_of arguments)) (is_let head (count_of arguments)) _ _ _ _ span _
    (both-none (first_unfit (Query ∷ []) arguments) (first_place rest) _ _
    (first_unfit-placed arguments (Query ∷ []) 2 inner) (first_place-placed rest gap next))
    (both-none (first_unfit (Name ∷ Query ∷ []) arguments) (unfit_body end rest) _ _
    (first_unfit-placed arguments (Name ∷ Query ∷ []) 2 inner)
    (unfit_body-placed rest end other gap next))
    fit)

-- a whole file
pub unfit_file-placed : (terms : Terms) (end other gap at : ℕ) → unfit_file end terms ≡ None
    → unfit_file other (placed gap at terms) ≡ None
unfit_file-placed none end other gap at fit = absurd (Some-no_none (at_end end) fit)
unfit_file-placed (word bytes span rest) end other gap at fit = absurd (Some-no_none span fit)
unfit_file-placed (number value span rest) end other gap at fit = absurd (Some-no_none span fit)
unfit_file-placed (string bytes span rest) end other gap at fit = absurd (Some-no_none span fit)
unfit_file-placed (call head arguments span rest) end other gap at fit =
    let inner = inner_at at head in
    let next = close_at at head (printed arguments) + 1 + gap in
    let places = Mode ∷ replicate (count_of arguments - 1) Column in
    let parts = chosen-none (is_stream head (count_of arguments)) _ span fit in
    rw (count_of-placed arguments 2 inner)
    (chosen-both (is_stream head (count_of arguments)) _ _ parts.0
    (both-none (first_unfit places arguments) (unfit_body end rest) _ _
    (first_unfit-placed arguments places 2 inner)
    (unfit_body-placed rest end other gap next) parts.1))

-- a file fits wherever its text ends
unfit_body-end : (terms : Terms) (end other : ℕ) → unfit_body end terms ≡ None
    → unfit_body other terms ≡ None
unfit_body-end none end other fit = absurd (Some-no_none (at_end end) fit)
unfit_body-end (word bytes span rest) end other fit = absurd (Some-no_none span fit)
unfit_body-end (number value span rest) end other fit = absurd (Some-no_none span fit)
unfit_body-end (string bytes span rest) end other fit = absurd (Some-no_none span fit)
unfit_body-end (call head arguments span rest) end other fit =
    tests-none (is_main head (count_of arguments)) (is_let head (count_of arguments))
    _ _ _ _ span span (λ e. e)
    (both-none (first_unfit (Name ∷ Query ∷ []) arguments) (unfit_body end rest) _ _ (λ e. e)
    (unfit_body-end rest end other))
    fit

-- so does a whole file
pub unfit_file-end : (terms : Terms) (end other : ℕ) → unfit_file end terms ≡ None
    → unfit_file other terms ≡ None
unfit_file-end none end other fit = absurd (Some-no_none (at_end end) fit)
unfit_file-end (word bytes span rest) end other fit = absurd (Some-no_none span fit)
unfit_file-end (number value span rest) end other fit = absurd (Some-no_none span fit)
unfit_file-end (string bytes span rest) end other fit = absurd (Some-no_none span fit)
unfit_file-end (call head arguments span rest) end other fit =
    let parts = chosen-none (is_stream head (count_of arguments)) _ span fit in
    chosen-both (is_stream head (count_of arguments)) _ _ parts.0
    (both-none (first_unfit (Mode ∷ replicate (count_of arguments - 1) Column) arguments)
    (unfit_body end rest) _ _ (λ e. e) (unfit_body-end rest end other) parts.1)
