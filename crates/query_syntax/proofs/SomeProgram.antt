-- The terms of a file are written by a program.
use Rattle.std.proofs.Common.{◌≡◌, ℕ, zero, suc, ◌+◌, ◌-◌, ◌≤◌, ◌==◌, ◌&&◌, nat_le, Bool, true}
use Rattle.std.proofs.Common.{false, cond, List, [], ◌∷◌, length, replicate, codes, Some, None}
use Rattle.std.proofs.Common.{refl, ap, ◌∙◌, arith}
use Rattle.std.specs.Str.{bytes_eq}
use Rattle.std.proofs.lemmas.Bool.Decides.{nat_tests}
use Rattle.std.proofs.lemmas.List.{length-replicate}
use Rattle.std.proofs.lemmas.Slice.Eq.{bytes_eq-Decides}
use Rattle.language_base.specs.Limits.{max_columns}
use Rattle.language_base.specs.declared.span.Span.{Span}
use Rattle.query_trees.specs.Trees.{first_of_two}
use Rattle.query_forms.specs.declared.term_place.TermPlace.TheVariants as place
use Rattle.query_forms.specs.Terms.{Terms, none, word, number, string, call, count_of}
use Rattle.query_forms.specs.File.{first_place, is_stream, is_let, is_main, unfit_body, unfit_file}
use Rattle.query_forms.specs.Forms.{first_unfit}
use Rattle.query_parser.proofs.OptionCases.{Some-no_none, chosen-none, first_of_two-none}
use Rattle.query_syntax.specs.declared.stream.Column.{Column}
use Rattle.query_syntax.specs.Files.{all_before, column_before, let_before, main_before}
use Rattle.query_syntax.specs.Files.{mode_before, program_terms}
use Rattle.query_syntax.specs.Programs.{Let, Main, Program}
use Rattle.query_syntax.specs.Written.{name_before, query_before}
use Rattle.query_syntax.proofs.Fitting.{both_tests}
use Rattle.query_syntax.proofs.SomeTrees.{AreTrees, some_trees}

-- where no term is first there is none
no_first : (terms : Terms) → first_place terms ≡ None → terms ≡ none
no_first none is = refl
no_first (word bytes span rest) is = absurd (Some-no_none span is)
no_first (number value span rest) is = absurd (Some-no_none span is)
no_first (string bytes span rest) is = absurd (Some-no_none span is)
no_first (call head arguments span rest) is = absurd (Some-no_none span is)

-- a head word and a number of arguments that were asked for
named : (head written : List ℕ) (n count : ℕ) → (bytes_eq head written && (n == count)) ≡ true
    → (head ≡ written) × (n ≡ count)
named head written n count is =
    let tests = both_tests (bytes_eq head written) (n == count) is in
    ((bytes_eq-Decides head written).0 tests.0, (let t = tests.1 in grind (arith, nat_tests)))

-- lets and a main query are written so
abbrev HasBody : Terms → Type 0
HasBody terms =
    (lets : List Let) × (main : Main) × (terms ≡ all_before let_before lets (main_before main none))

-- the main query
main_body : (head : List ℕ) (arguments : Terms) (span : Span) (rest : Terms)
    → is_main head (count_of arguments) ≡ true
    → first_of_two (first_unfit (place.Query ∷ []) arguments) (first_place rest) ≡ None
    → HasBody (call head arguments span rest)
main_body head arguments span rest is fit =
    let parts = first_of_two-none (first_unfit (place.Query ∷ []) arguments)
    (first_place rest) fit in
    let names = named head (codes "main") (count_of arguments) 1 is in
    by_trees (some_trees (place.Query ∷ []) arguments names.1 parts.0) names.0
    (no_first rest parts.1)
  where
    by_trees : AreTrees (place.Query ∷ []) arguments → head ≡ codes "main" → rest ≡ none
        → HasBody (call head arguments span rest)
    by_trees (_, (query, is-query), end) is-head is-rest = (
      [],
      record { query = query; span = span },
      λ i. call (is-head i) ((is-query ∙ ap (query_before query) end) i) span (is-rest i),
    )

-- a let before others
let_body : (head : List ℕ) (arguments : Terms) (span : Span) (rest : Terms)
    → is_let head (count_of arguments) ≡ true
    → first_unfit (place.Name ∷ place.Query ∷ []) arguments ≡ None → HasBody rest
    → HasBody (call head arguments span rest)
let_body head arguments span rest is fit (lets, main, is-rest) =
    let names = named head (codes "let") (count_of arguments) 2 is in
    by_trees (some_trees (place.Name ∷ place.Query ∷ []) arguments names.1 fit) names.0
  where
    by_trees : AreTrees (place.Name ∷ place.Query ∷ []) arguments → head ≡ codes "let"
        → HasBody (call head arguments span rest)
    by_trees (_, (name, is-name), (_, (query, is-query), end)) is-head = (
      record { name = name; query = query; span = span } ∷ lets,
      main,
      λ i. call (is-head i)
          ((is-name ∙ ap (name_before name) (is-query ∙ ap (query_before query) end)) i)
          span (is-rest i),
    )

-- either
top_body : (end : ℕ) (head : List ℕ) (arguments : Terms) (span : Span) (rest : Terms)
    (main one : Bool) → is_main head (count_of arguments) ≡ main
    → is_let head (count_of arguments) ≡ one
    → cond main (first_of_two (first_unfit (place.Query ∷ []) arguments) (first_place rest))
    (cond one (first_of_two (first_unfit (place.Name ∷ place.Query ∷ []) arguments)
    (unfit_body end rest)) (Some span)) ≡ None
    → (unfit_body end rest ≡ None → HasBody rest) → HasBody (call head arguments span rest)
top_body end head arguments span rest true one is is-let fit body =
    main_body head arguments span rest is fit
top_body end head arguments span rest false true is is-let fit body =
    let parts = first_of_two-none (first_unfit (place.Name ∷ place.Query ∷ []) arguments)
    (unfit_body end rest) fit in
    let_body head arguments span rest is-let parts.0 (body parts.1)
top_body end head arguments span rest false false is is-let fit body =
    absurd (Some-no_none span fit)

some_body : (end : ℕ) (terms : Terms) → unfit_body end terms ≡ None → HasBody terms
some_body end none fit = absurd (Some-no_none _ fit)
some_body end (word bytes span rest) fit = absurd (Some-no_none span fit)
some_body end (number value span rest) fit = absurd (Some-no_none span fit)
some_body end (string bytes span rest) fit = absurd (Some-no_none span fit)
some_body end (call head arguments span rest) fit =
    top_body end head arguments span rest (is_main head (count_of arguments))
    (is_let head (count_of arguments)) refl refl fit (some_body end rest)

-- columns, one after the other
some_columns : (n : ℕ) (terms : Terms) → AreTrees (replicate n place.Column) terms
    → (columns : List Column) × (terms ≡ all_before column_before columns none)
some_columns zero terms is = ([], is)
some_columns (suc n) terms (rest, (column, is-column), others) =
    let more = some_columns n rest others in
    (column ∷ more.0, is-column ∙ ap (column_before column) more.1)

-- as many places as a stream has arguments
stream_count : (n : ℕ) → nat_le 2 n ≡ true
    → n ≡ length (place.Mode ∷ replicate (n - 1) place.Column)
stream_count n some =
    let two : 2 ≤ n = grind (arith, nat_tests) in
    omega (arith, two, length-replicate (n - 1) place.Column)

-- terms that are a file are those of some program
pub some_program : (end : ℕ) (terms : Terms) → unfit_file end terms ≡ None
    → (program : Program) × (terms ≡ program_terms program)
some_program end none fit = absurd (Some-no_none _ fit)
some_program end (word bytes span rest) fit = absurd (Some-no_none span fit)
some_program end (number value span rest) fit = absurd (Some-no_none span fit)
some_program end (string bytes span rest) fit = absurd (Some-no_none span fit)
some_program end (call head arguments span rest) fit =
    let places = place.Mode ∷ replicate (count_of arguments - 1) place.Column in
    let inside = chosen-none (is_stream head (count_of arguments))
    (first_of_two (first_unfit places arguments) (unfit_body end rest)) span fit in
    let parts = first_of_two-none (first_unfit places arguments) (unfit_body end rest) inside.1 in
    let tests = both_tests (bytes_eq head (codes "stream") && nat_le 2 (count_of arguments))
    (nat_le (count_of arguments) (max_columns + 1)) inside.0 in
    let names = both_tests (bytes_eq head (codes "stream"))
    (nat_le 2 (count_of arguments)) tests.0 in
    by_trees (some_trees places arguments (stream_count (count_of arguments) names.1) parts.0)
    ((bytes_eq-Decides head (codes "stream")).0 names.0) (some_body end rest parts.1)
  where
    by_trees : AreTrees (place.Mode ∷ replicate (count_of arguments - 1) place.Column) arguments
        → head ≡ codes "stream" → HasBody rest
        → (program : Program) × (call head arguments span rest ≡ program_terms program)
    by_trees (after, (mode, is-mode), others) is-head (lets, main, is-rest) =
        let columns = some_columns (count_of arguments - 1) after others in (
          record {
            stream = record { mode = mode; columns = columns.0; span = span };
            lets = lets;
            main = main;
          },
          λ i. call (is-head i) ((is-mode ∙ ap (mode_before mode) columns.1) i) span (is-rest i),
        )
