-- The lets and the main query of a file have such parts, and the names of its columns are words.
use Rattle.std.proofs.Common.{◌≡◌, ℕ, ◌-◌, ◌==◌, Bool, true, false, cond, List, [], ◌∷◌, map}
use Rattle.std.proofs.Common.{replicate, Option, None, codes, arith, ap}
use Rattle.std.specs.List.{AllByRecursion}
use Rattle.item_schema.specs.declared.column.Column as schema
use Rattle.language_base.specs.declared.span.Span.{Span}
use Rattle.query_forms.specs.declared.term_place.TermPlace.TheVariants as place
use Rattle.query_forms.specs.File.{is_let, is_stream, unfit_body}
use Rattle.query_forms.specs.Forms.{first_unfit}
use Rattle.query_forms.specs.Terms.{Terms, count_of, none}
use Rattle.query_trees.specs.Trees.{first_of_two}
use Rattle.query_parser.specs.Printing.{IsFile}
use Rattle.query_parser.proofs.OptionCases.{chosen-none, first_of_two-none}
use Rattle.query_resolver.specs.Layouts.{column_of}
use Rattle.query_syntax.specs.declared.stream.Column.{Column}
use Rattle.query_syntax.specs.declared.stream.Mode.{Mode}
use Rattle.query_syntax.specs.declared.stream.Mode.TheVariants.{Plain, Header}
use Rattle.query_syntax.specs.Files.{all_before, column_before, kind_before, let_before}
use Rattle.query_syntax.specs.Files.{main_before, mode_before, program_terms}
use Rattle.query_syntax.specs.Programs.{Let, Main, Program}
use Rattle.query_syntax.specs.Written.{name_before, query_before}
use Rattle.query_tokens.specs.Raw.{IsWord}
use Rattle.rewritten_texts.proofs.Parts.{HasParts, HaveParts}
use Rattle.rewritten_texts.proofs.SaidQueries.{query_count, stands_query}
use Rattle.rewritten_texts.proofs.Taken.{AreSaid, take_call, take_word}

-- the columns of a stream
after_mode : (mode : Mode) (rest : Terms) → AreSaid 2 (mode_before mode rest) → AreSaid 2 rest
after_mode (Plain span) rest said = (take_word 2 rest span (codes "plain") said).others
after_mode (Header span) rest said = (take_word 2 rest span (codes "header") said).others

are_words : (columns : List Column) → AreSaid 2 (all_before column_before columns none)
    → AllByRecursion (λ (column : schema.Column). IsWord column.name) (map column_of columns)
are_words [] said = tt
are_words (column ∷ columns) said =
    let taken = take_call 2 (all_before column_before columns none) column.span (codes "col")
    (name_before column.name (kind_before column.kind none)) said in
    let named = take_word 3 (kind_before column.kind none) column.name.span column.name.bytes
    taken.inner in
    (named.word, are_words columns taken.others)

-- where a test passes, nothing that follows it is unfit
where_passed : (test : Bool) (one other : Option Span) → test ≡ true → cond test one other ≡ None
    → one ≡ None
where_passed true one other is fit = fit
where_passed false one other is fit = absurd (cc)

-- the main query
main_parts : (end : ℕ) (main : Main) → AreSaid 1 (main_before main none)
    → unfit_body end (main_before main none) ≡ None → HasParts main.query
main_parts end main said fit =
    let arguments = query_before main.query none in
    let taken = take_call 1 none main.span (codes "main") arguments said in
    let one : (count_of arguments == 1) ≡ true = ap (λ n. n == 1) (query_count main.query none) in
    let whole = where_passed (count_of arguments == 1) _ _ one fit in
    let parts = first_of_two-none (first_unfit (place.Query ∷ []) arguments) None whole in
    (stands_query main.query 2 [] none (omega arith)
    (record { said = taken.inner; fit = parts.0 })).parts

-- and the lets before it
pub record BodyParts (lets : List Let) (main : Main) : Type 0 where
  pub of_lets : HaveParts lets
  pub of_main : HasParts main.query

body_parts : (end : ℕ) (lets : List Let) (main : Main)
    → AreSaid 1 (all_before let_before lets (main_before main none))
    → unfit_body end (all_before let_before lets (main_before main none)) ≡ None
    → BodyParts lets main
body_parts end [] main said fit = record { of_lets = tt; of_main = main_parts end main said fit }
body_parts end (one ∷ lets) main said fit =
    let rest = all_before let_before lets (main_before main none) in
    let arguments = name_before one.name (query_before one.query none) in
    let taken = take_call 1 rest one.span (codes "let") arguments said in
    let named = take_word 2 (query_before one.query none) one.name.span one.name.bytes
    taken.inner in
    let form = chosen-none (is_let (codes "let") (count_of arguments)) _ one.span fit in
    let parts = first_of_two-none (first_unfit (place.Name ∷ place.Query ∷ []) arguments)
    (unfit_body end rest) form.1 in
    let others = body_parts end lets main taken.others parts.1 in record {
      of_lets = (
        (stands_query one.query 2 [] none (omega arith)
            (record { said = named.others; fit = parts.0 })).parts,
        others.of_lets,
      );
      of_main = others.of_main;
    }

-- a whole file
pub record IsSaidFile (program : Program) : Type 0 where
  pub words : AllByRecursion (λ (column : schema.Column). IsWord column.name)
      (map column_of program.stream.columns)
  pub body : BodyParts program.lets program.main

pub file_said : (program : Program) → IsFile (program_terms program) → IsSaidFile program
file_said program is =
    let stream = program.stream in
    let columns = all_before column_before stream.columns none in
    let arguments = mode_before stream.mode columns in
    let count = count_of arguments in
    let body = all_before let_before program.lets (main_before program.main none) in
    let taken = take_call 1 body stream.span (codes "stream") arguments
    (record { writable = is.writable; within = is.within }) in
    let form = chosen-none (is_stream (codes "stream") count)
    (first_of_two (first_unfit (place.Mode ∷ replicate (count - 1) place.Column) arguments)
    (unfit_body 0 body)) stream.span is.fit in
    let parts = first_of_two-none
    (first_unfit (place.Mode ∷ replicate (count - 1) place.Column) arguments)
    (unfit_body 0 body) form.1 in record {
      words = are_words stream.columns (after_mode stream.mode columns taken.inner);
      body = body_parts 0 program.lets program.main taken.others parts.1;
    }
