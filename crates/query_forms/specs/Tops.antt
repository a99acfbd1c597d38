-- For the prover. The top terms of a file, each by itself.
use Rattle.std.specs.Prelude.{ℕ, ◌+◌, ◌-◌, Bool, false, ◌&&◌, ◌==◌, List, ◌∷◌, length, replicate}
use Rattle.std.specs.Prelude.{codes, nat_le, Option, if◌then◌else◌}
use Rattle.std.specs.Str.{bytes_eq}
use Rattle.language_base.specs.Limits.{max_columns}
use Rattle.language_base.specs.declared.span.Span.{Span}
use Rattle.query_forms.specs.declared.term_place.TermPlace.{TermPlace}
use Rattle.query_forms.specs.declared.term_place.TermPlace.TheVariants.{Mode, Column}
use Rattle.query_forms.specs.Terms.{Terms, none, call, count_of}
use Rattle.query_forms.specs.Forms.{first_unfit}
use Rattle.query_forms.specs.File.{first_place}

-- the first term is a call of this word with this many arguments
abbrev pub is_call : List ℕ → ℕ → Terms → Bool
is_call name count (call head arguments span rest) =
    bytes_eq head name && (count_of arguments == count)
is_call name count _ = false

-- the arguments of the first term
abbrev pub arguments_in : Terms → Terms
arguments_in (call head arguments span rest) = arguments
arguments_in _ = none

-- the first unfit term in the first, which is to be a call of this word with arguments
-- at these places
abbrev pub unfit_call : List ℕ → List TermPlace → Terms → Option Span
unfit_call name places terms =
    if is_call name (length places) terms then first_unfit places (arguments_in terms)
    else first_place terms

-- the places of this many arguments of a `stream`
abbrev pub stream_places : ℕ → List TermPlace
stream_places count = Mode ∷ replicate (count - 1) Column

-- the first unfit term in the first, which is to be a `stream` with a mode and 1 to
-- `max_columns` columns
abbrev pub unfit_stream : Terms → Option Span
unfit_stream terms =
    let count = count_of (arguments_in terms) in
    if nat_le 2 count && nat_le count (max_columns + 1)
    then unfit_call (codes "stream") (stream_places count) terms
    else first_place terms
