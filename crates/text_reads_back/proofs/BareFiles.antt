-- The same of whole files.
use Rattle.std.proofs.Common.{◌≡◌, List, [], ◌∷◌, map, codes, refl, ap, ◌∙◌}
use Rattle.query_forms.specs.Terms.{Terms, none, call}
use Rattle.query_parser.specs.Printing.{nowhere, unplaced}
use Rattle.query_syntax.specs.Files.{all_before, column_before, kind_before, let_before, main_before}
use Rattle.query_syntax.specs.Files.{mode_before, program_terms}
use Rattle.query_syntax.specs.Programs.{Let, Main, Program}
use Rattle.query_syntax.specs.Written.{name_before}
use Rattle.query_syntax.specs.declared.stream.Column.{Column}
use Rattle.query_syntax.specs.declared.stream.Kind.{Kind}
use Rattle.query_syntax.specs.declared.stream.Kind.TheVariants as kind
use Rattle.query_syntax.specs.declared.stream.Mode.{Mode}
use Rattle.query_syntax.specs.declared.stream.Mode.TheVariants as mode
use Rattle.text_reads_back.proofs.Bare.{bare_column, bare_kind, bare_let, bare_main, bare_mode}
use Rattle.text_reads_back.proofs.Bare.{bare_name, bare_program}
use Rattle.text_reads_back.proofs.BareTerms.{query_bare}

mode_bare : (x : Mode) (rest : Terms)
    → mode_before (bare_mode x) (unplaced rest) ≡ unplaced (mode_before x rest)
mode_bare (mode.Plain span) rest = refl
mode_bare (mode.Header span) rest = refl

kind_bare : (x : Kind) → kind_before (bare_kind x) none ≡ unplaced (kind_before x none)
kind_bare (kind.Int span) = refl
kind_bare (kind.Text span) = refl
kind_bare (kind.Fixed digits span) = refl

columns_bare : (columns : List Column) → all_before column_before (map bare_column columns) none
    ≡ unplaced (all_before column_before columns none)
columns_bare [] = refl
columns_bare (column ∷ columns) =
    let kinds = kind_bare column.kind in
    let others = columns_bare columns in
    λ i. call (codes "col") (name_before (bare_name column.name) (kinds i)) nowhere (others i)

lets_bare : (lets : List Let) (rest : Terms)
    → all_before let_before (map bare_let lets) (unplaced rest)
    ≡ unplaced (all_before let_before lets rest)
lets_bare [] rest = refl
lets_bare (one ∷ lets) rest =
    let query = query_bare one.query none in
    let others = lets_bare lets rest in
    λ i. call (codes "let") (name_before (bare_name one.name) (query i)) nowhere (others i)

main_bare : (main : Main) → main_before (bare_main main) none ≡ unplaced (main_before main none)
main_bare main = ap (λ t. call (codes "main") t nowhere none) (query_bare main.query none)

pub program_bare : (program : Program)
    → program_terms (bare_program program) ≡ unplaced (program_terms program)
program_bare program =
    let arguments = ap (mode_before (bare_mode program.stream.mode))
    (columns_bare program.stream.columns)
    ∙ mode_bare program.stream.mode (all_before column_before program.stream.columns none) in
    let body = ap (all_before let_before (map bare_let program.lets)) (main_bare program.main)
    ∙ lets_bare program.lets (main_before program.main none) in
    λ i. call (codes "stream") (arguments i) nowhere (body i)
