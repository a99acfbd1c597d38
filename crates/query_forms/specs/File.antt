-- Statement. The form of a whole file, and the numbers in it.
use Rattle.std.specs.Prelude.{ℕ, ◌+◌, ◌-◌, ◌^◌, ℤ, pos, negsuc, Bool, ◌&&◌, ◌==◌, List, [], ◌∷◌}
use Rattle.std.specs.Prelude.{nat_le, nat_lt, codes, replicate, Option, Some, None, if◌then◌else◌}
use Rattle.std.specs.Str.{bytes_eq}
use Rattle.language_base.specs.Limits.{max_columns}
use Rattle.language_base.specs.declared.span.Span.{Span}
use Rattle.query_trees.specs.Trees.{first_of_two}
use Rattle.query_forms.specs.declared.term_place.TermPlace.TheVariants.{Mode, Column, Query, Name}
use Rattle.query_forms.specs.Terms.{Terms, none, word, number, string, call, count_of}
use Rattle.query_forms.specs.Forms.{first_unfit}

-- the empty place at the end of the text
abbrev pub at_end : ℕ → Span
at_end end = record { from = end; to = end }

-- the place of the first of the terms, if there is one
abbrev pub first_place : Terms → Option Span
first_place none = None
first_place (word bytes span rest) = Some span
first_place (number value span rest) = Some span
first_place (string bytes span rest) = Some span
first_place (call head arguments span rest) = Some span

-- `stream` with a mode and 1 to `max_columns` columns
abbrev pub is_stream : List ℕ → ℕ → Bool
is_stream head count =
    bytes_eq head (codes "stream") && nat_le 2 count && nat_le count (max_columns + 1)

-- `let` with a name and a query
abbrev pub is_let : List ℕ → ℕ → Bool
is_let head count = bytes_eq head (codes "let") && (count == 2)

-- `main` with a query
abbrev pub is_main : List ℕ → ℕ → Bool
is_main head count = bytes_eq head (codes "main") && (count == 1)

-- the first unfit term of a list that is lets and then `main`, and nothing more
abbrev pub unfit_body : ℕ → Terms → Option Span
unfit_body end none = Some (at_end end)
unfit_body end (call head arguments span rest) =
    if is_main head (count_of arguments)
    then first_of_two (first_unfit (Query ∷ []) arguments) (first_place rest)
    else if is_let head (count_of arguments)
    then first_of_two (first_unfit (Name ∷ Query ∷ []) arguments) (unfit_body end rest)
    else Some span
unfit_body end terms = first_place terms

-- The place of the first term, in text order, that keeps the list from being a file: `stream`, any
-- number of lets, and `main`. Where a top term is missing, the end of the text.
abbrev pub unfit_file : ℕ → Terms → Option Span
unfit_file end none = Some (at_end end)
unfit_file end (call head arguments span rest) =
    if is_stream head (count_of arguments)
    then first_of_two (first_unfit (Mode ∷ replicate (count_of arguments - 1) Column) arguments)
    (unfit_body end rest)
    else Some span
unfit_file end terms = first_place terms

-- the number is from -2^63 to 2^63-1
abbrev pub is_within : ℤ → Bool
is_within (pos n) = nat_lt n (2 ^ 63)
is_within (negsuc n) = nat_lt n (2 ^ 63)

-- the place of the first number, in text order, that is not
abbrev pub first_large : Terms → Option Span
first_large none = None
first_large (word bytes span rest) = first_large rest
first_large (number value span rest) = if is_within value then first_large rest else Some span
first_large (string bytes span rest) = first_large rest
first_large (call head arguments span rest) =
    first_of_two (first_large arguments) (first_large rest)
