-- The terms of a whole file.
use Rattle.std.proofs.Common.{◌≡◌, ◌≤◌, ◌<◌, ℕ, ◌+◌, ◌-◌, ◌^◌, true, List, [], ◌∷◌, length, map, codes}
use Rattle.std.proofs.Common.{replicate, None, refl, ap, ◌∙◌, arith}
use Rattle.std.specs.List.{AllByRecursion}
use Rattle.std.proofs.lemmas.Bool.Decides.{nat_tests}
use Rattle.std.proofs.lemmas.List.{length-replicate}
use Rattle.item_schema.specs.Layout.{IsLayout, Layout}
use Rattle.language_base.specs.Limits.{max_columns}
use Rattle.query_forms.specs.File.{first_large, is_stream, unfit_body, unfit_file}
use Rattle.query_forms.specs.Forms.{first_unfit}
use Rattle.query_forms.specs.declared.term_place.TermPlace.TheVariants as place
use Rattle.query_forms.specs.Terms.{Terms, none, call, count_of}
use Rattle.query_parser.specs.Printing.{AreWritable, IsFile, nowhere}
use Rattle.query_syntax.specs.Files.{all_before, column_before, let_before, main_before, mode_before}
use Rattle.query_syntax.specs.Files.{program_terms}
use Rattle.query_syntax.specs.Programs.{Program}
use Rattle.query_syntax.specs.Queries.{Query}
use Rattle.query_syntax.specs.Written.{name_before, query_before}
use Rattle.query_text.specs.Lets.{let_at}
use Rattle.query_text.specs.Names.{let_name, named}
use Rattle.query_text.specs.Programs.{column_tree, lets_from, mode_tree, stream_tree}
use Rattle.query_tokens.specs.Raw.{IsWord}
use Rattle.query_trees.specs.Trees.{first_of_two}
use Rattle.text_reads_back.proofs.Fitted.{Stands, before, no_term, some_term, word_stands}
use Rattle.text_reads_back.proofs.KnownWords.{known}
use Rattle.text_reads_back.proofs.LetNames.{let_name_is_word}
use Rattle.text_reads_back.proofs.StreamTerms.{stream_stands}

-- lets and then the main query
record IsBody (terms : Terms) : Type 0 where
  writable : AreWritable 1 terms
  fit : (end : ℕ) → unfit_body end terms ≡ None
  within : first_large terms ≡ None

-- a query stands where a let or `main` has one
abbrev pub CanStand : Query → Type 0
CanStand query = (rest : Terms) → Stands 2 place.Query (query_before query rest) rest

-- the name of a let stands there
pub name_stands : (at : ℕ) → at < 2 ^ 32 → CanStand (let_at at)
name_stands at small rest =
    word_stands 2 place.Query (let_name at) rest nowhere (omega arith) (let_name_is_word at small) refl

main_is : (query : Query) → CanStand query
    → IsBody (main_before (record { query = query; span = nowhere }) none)
main_is query stands =
    let all = before 2 place.Query [] (query_before query none) none (stands none) (no_term 2) in
    record {
      writable = (
        omega arith,
        known (codes "main") refl,
        some_term (query_before query none)
            (omega (arith, all.count)),
        all.writable,
        tt,
      );
      fit = λ end. rw (all.count) (ap (λ o. first_of_two o None) all.fit);
      within = ap (λ o. first_of_two o None) all.within;
    }

let_is : (at : ℕ) (query : Query) (rest : Terms) → at < 2 ^ 32 → CanStand query → IsBody rest
    → IsBody (let_before (record { name = named (let_name at); query = query; span = nowhere }) rest)
let_is at query rest small stands body =
    let all = before 2 place.Name (place.Query ∷ []) (name_before (named (let_name at))
    (query_before query none)) (query_before query none)
    (word_stands 2 place.Name (let_name at) (query_before query none) nowhere (omega arith)
    (let_name_is_word at small) refl)
    (before 2 place.Query [] (query_before query none) none (stands none) (no_term 2)) in
    record {
      writable = (
        omega arith,
        known (codes "let") refl,
        some_term
            (name_before (named (let_name at)) (query_before query none)) (omega (arith, all.count)),
        all.writable,
        body.writable,
      );
      fit = λ end. rw (all.count)
          (ap (λ o. first_of_two o (unfit_body end rest)) all.fit ∙ body.fit end);
      within = ap (λ o. first_of_two o (first_large rest)) all.within ∙ body.within;
    }

lets_are : (at : ℕ) (queries : List Query) (rest : Terms) → at + length queries < 2 ^ 32
    → AllByRecursion CanStand queries → IsBody rest
    → IsBody (all_before let_before (lets_from at queries) rest)
lets_are at [] rest small stand body = body
lets_are at (query ∷ queries) rest small stand body =
    let_is at query (all_before let_before (lets_from (at + 1) queries) rest) (omega (arith, small))
    stand.0 (lets_are (at + 1) queries rest (omega (arith, small)) stand.1 body)

-- a stream with its columns, and what stands after it
stream_fits : (n : ℕ) (arguments rest : Terms) (end : ℕ) → count_of arguments ≡ n + 1 → 1 ≤ n
    → n ≤ max_columns → first_unfit (place.Mode ∷ replicate n place.Column) arguments ≡ None
    → unfit_body end rest ≡ None
    → unfit_file end (call (codes "stream") arguments nowhere rest) ≡ None
stream_fits n arguments rest end count some few fit body =
    let test : is_stream (codes "stream") (n + 1) ≡ true = grind (arith, nat_tests) in
    let less : n + 1 - 1 ≡ n = omega arith in
    rw (count, test, less) (ap (λ o. first_of_two o (unfit_body end rest)) fit ∙ body)

-- a file with these lets, and one of them as the main query
abbrev pub file_of : Layout → List Query → ℕ → Program
file_of layout queries at = record {
  stream = stream_tree layout;
  lets = lets_from 0 queries;
  main = record { query = let_at at; span = nowhere };
}

pub file_is : (layout : Layout) (queries : List Query) (at : ℕ)
    → AllByRecursion (λ column. IsWord column.name) layout.columns → IsLayout layout.columns
    → length queries < 2 ^ 32 → AllByRecursion CanStand queries → at < 2 ^ 32
    → IsFile (program_terms (file_of layout queries at))
file_is layout queries at words is few stand small =
    let rest = all_before let_before (lets_from 0 queries)
    (main_before (record { query = let_at at; span = nowhere }) none) in
    let body : IsBody rest = lets_are 0 queries
    (main_before (record { query = let_at at; span = nowhere }) none)
    (omega (arith, few)) stand (main_is (let_at at) (name_stands at small)) in
    let arguments = mode_before (mode_tree layout.has_header)
    (all_before column_before (map column_tree layout.columns) none) in
    let all = stream_stands layout words is in
    let long = length-replicate (length layout.columns) place.Column in
    record {
      writable = (
        omega arith,
        known (codes "stream") refl,
        some_term arguments (omega (arith, all.count)),
        all.writable,
        body.writable,
      );
      fit = stream_fits (length layout.columns) arguments rest 0 (omega (arith, all.count, long))
          is.some is.few all.fit (body.fit 0);
      within = ap (λ o. first_of_two o (first_large rest)) all.within ∙ body.within;
    }
