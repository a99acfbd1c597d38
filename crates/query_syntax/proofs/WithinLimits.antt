-- The stream of a file keeps to the limits.
use Rattle.std.proofs.Common.{◌≡◌, ℕ, pos, ◌+◌, ◌-◌, ◌≤◌, ◌&&◌, nat_le, List, [], ◌∷◌, length}
use Rattle.std.proofs.Common.{replicate, codes, Option, None, refl, ap, ◌∙◌, arith}
use Rattle.std.specs.List.{AllByRecursion}
use Rattle.std.specs.Str.{bytes_eq}
use Rattle.std.proofs.lemmas.Bool.Decides.{nat_tests}
use Rattle.language_base.specs.Limits.{max_columns}
use Rattle.language_base.specs.declared.span.Span.{Span}
use Rattle.query_trees.specs.Trees.{first_of_two}
use Rattle.query_forms.specs.declared.term_place.TermPlace.TheVariants as place
use Rattle.query_forms.specs.Terms.{Terms, none, number, count_of}
use Rattle.query_forms.specs.File.{is_stream, unfit_body, unfit_file}
use Rattle.query_forms.specs.Forms.{first_unfit, is_digits, places_of, unfit_in}
use Rattle.query_parser.proofs.OptionCases.{chosen-none, first_of_two-none}
use Rattle.query_syntax.specs.declared.leaf.Name.{Name}
use Rattle.query_syntax.specs.declared.stream.Column.{Column}
use Rattle.query_syntax.specs.declared.stream.Kind.{Kind}
use Rattle.query_syntax.specs.declared.stream.Kind.TheVariants.{Int, Text, Fixed}
use Rattle.query_syntax.specs.declared.stream.Mode.{Mode}
use Rattle.query_syntax.specs.declared.stream.Mode.TheVariants.{Plain, Header}
use Rattle.query_syntax.specs.Files.{all_before, column_before, kind_before, let_before}
use Rattle.query_syntax.specs.Files.{main_before, mode_before, program_terms}
use Rattle.query_syntax.specs.Limits.{HasDigits, IsWithin}
use Rattle.query_syntax.specs.Programs.{Program}
use Rattle.query_syntax.specs.Written.{name_before}
use Rattle.query_syntax.proofs.Fitting.{both_tests}

-- columns are as many terms
columns_count : (columns : List Column)
    → count_of (all_before column_before columns none) ≡ length columns
columns_count [] = refl
columns_count (column ∷ columns) = omega (arith, columns_count columns)

-- and the mode is one more
stream_count : (mode : Mode) (rest : Terms) → count_of (mode_before mode rest) ≡ count_of rest + 1
stream_count (Plain span) rest = refl
stream_count (Header span) rest = refl

-- a mode that fits is before terms that fit
mode_fits : (mode : Mode) (n : ℕ) (rest : Terms)
    → first_unfit (place.Mode ∷ replicate n place.Column) (mode_before mode rest) ≡ None
    → first_unfit (replicate n place.Column) rest ≡ None
mode_fits (Plain span) n rest fit = fit
mode_fits (Header span) n rest fit = fit

-- a kind that fits
kind_digits : (kind : Kind) → first_unfit (place.Kind ∷ []) (kind_before kind none) ≡ None
    → HasDigits kind
kind_digits (Int span) fit = tt
kind_digits (Text span) fit = tt
kind_digits (Fixed digits span) fit =
    let inside = first_of_two-none
    (first_unfit (place.Digits ∷ []) (number (pos digits.count) digits.span none)) None fit in
    let passed = chosen-none (is_digits (pos digits.count)) None digits.span inside.0 in
    let tests = both_tests (nat_le 1 digits.count) (nat_le digits.count 9) passed.0 in
    ((let t = tests.0 in grind (arith, nat_tests)), (let t = tests.1 in grind (arith, nat_tests)))

-- what is unfit in a column
abbrev unfit_column : Name → Kind → Span → Option Span
unfit_column name kind span = unfit_in (places_of place.Column (codes "col")
    (count_of (name_before name (kind_before kind none)))) span
    (λ inner. first_unfit inner (name_before name (kind_before kind none)))

-- where nothing is, its kind fits
column_fits : (name : Name) (kind : Kind) (span : Span) → unfit_column name kind span ≡ None
    → first_unfit (place.Kind ∷ []) (kind_before kind none) ≡ None
column_fits name (Int at) span fit = fit
column_fits name (Text at) span fit = fit
column_fits name (Fixed digits at) span fit = fit

-- columns that fit
columns_digits : (columns : List Column)
    → first_unfit (replicate (length columns) place.Column) (all_before column_before columns none)
    ≡ None → AllByRecursion (λ (column : Column). HasDigits column.kind) columns
columns_digits [] fit = tt
columns_digits (column ∷ columns) fit =
    let parts = first_of_two-none (unfit_column column.name column.kind column.span)
    (first_unfit (replicate (length columns) place.Column) (all_before column_before columns none))
    fit in (
      kind_digits column.kind (column_fits column.name column.kind column.span parts.0),
      columns_digits columns parts.1,
    )

-- the stream of a file
pub stream_within : (end : ℕ) (program : Program) → unfit_file end (program_terms program) ≡ None
    → IsWithin program.stream
stream_within end program fit =
    let stream = program.stream in
    let columns = all_before column_before stream.columns none in
    let arguments = mode_before stream.mode columns in
    let count = count_of arguments in
    let body = all_before let_before program.lets (main_before program.main none) in
    let inside = chosen-none (is_stream (codes "stream") count)
    (first_of_two (first_unfit (place.Mode ∷ replicate (count - 1) place.Column) arguments)
    (unfit_body end body)) stream.span fit in
    let parts =
    first_of_two-none (first_unfit (place.Mode ∷ replicate (count - 1) place.Column) arguments)
    (unfit_body end body) inside.1 in
    let tests = both_tests (bytes_eq (codes "stream") (codes "stream") && nat_le 2 count)
    (nat_le count (max_columns + 1)) inside.0 in
    let some = both_tests (bytes_eq (codes "stream") (codes "stream")) (nat_le 2 count) tests.0 in
    let two : 2 ≤ count = let t = some.1 in grind (arith, nat_tests) in
    let most : count ≤ max_columns + 1 = let t = tests.1 in grind (arith, nat_tests) in
    let many : count ≡ length stream.columns + 1 =
    stream_count stream.mode columns ∙ ap (λ n. n + 1) (columns_count stream.columns) in
    let less : count - 1 ≡ length stream.columns = omega (arith, many) in
    let fits = mode_fits stream.mode (count - 1) columns parts.0 in
    record {
      some = omega (arith, two, many);
      few = omega (arith, most, many);
      digits = columns_digits stream.columns (rw less at fits);
    }
