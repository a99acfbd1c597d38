-- The stream of a file is written as a term that can stand there.
use Rattle.std.proofs.Common.{◌≡◌, ℕ, pos, ◌&&◌, Bool, true, false, List, [], ◌∷◌, length}
use Rattle.std.proofs.Common.{map, codes, nat_le, replicate, refl, arith}
use Rattle.std.specs.List.{AllByRecursion, list_all}
use Rattle.std.proofs.lemmas.Bool.{and_parts}
use Rattle.std.proofs.lemmas.Bool.Decides.{nat_tests}
use Rattle.item_schema.specs.Layout.{IsLayout, Layout, has_digits}
use Rattle.item_schema.specs.declared.column.Column.{Column}
use Rattle.item_schema.specs.declared.column.Kind as kinds
use Rattle.item_schema.specs.declared.column.Kind.TheVariants.{Int, Fixed, Text, Number, Table}
use Rattle.query_forms.specs.declared.term_place.TermPlace.TheVariants as place
use Rattle.query_forms.specs.File.{is_within}
use Rattle.query_forms.specs.Terms.{Terms, none}
use Rattle.query_parser.specs.Printing.{nowhere}
use Rattle.query_syntax.specs.Files.{all_before, column_before, kind_before, mode_before}
use Rattle.query_text.specs.Programs.{column_tree, kind_tree, mode_tree}
use Rattle.query_tokens.specs.Raw.{IsWord}
use Rattle.text_reads_back.proofs.Fitted.{StandAll, Stands, before, call_of_one, call_of_two}
use Rattle.text_reads_back.proofs.Fitted.{no_term, number_stands, word_stands}
use Rattle.text_reads_back.proofs.KnownWords.{known}

mode_stands : (has_header : Bool) (rest : Terms)
    → Stands 2 place.Mode (mode_before (mode_tree has_header) rest) rest
mode_stands true rest = word_stands 2 place.Mode (codes "header") rest nowhere (omega arith)
    (known (codes "header") refl) refl
mode_stands false rest = word_stands 2 place.Mode (codes "plain") rest nowhere (omega arith)
    (known (codes "plain") refl) refl

kind_stands : (kind : kinds.Kind) → has_digits kind ≡ true
    → Stands 3 place.Kind (kind_before (kind_tree kind) none) none
kind_stands Int has =
    word_stands 3 place.Kind (codes "int") none nowhere (omega arith)
    (known (codes "int") refl) refl
kind_stands (Fixed digits) has =
    call_of_one 3 place.Kind (codes "fixed") none nowhere place.Digits _ refl refl
    (omega arith)
    (number_stands 4 place.Digits (pos digits) none nowhere (omega arith) (small digits has) has)
  where
    small : (n : ℕ) → (nat_le 1 n && nat_le n 9) ≡ true → is_within (pos n) ≡ true
    small n has =
        let parts = and_parts (nat_le 1 n) (nat_le n 9) has in
        grind (arith, nat_tests, parts.1)
kind_stands Text has =
    word_stands 3 place.Kind (codes "text") none nowhere (omega arith)
    (known (codes "text") refl) refl
kind_stands Number has =
    word_stands 3 place.Kind (codes "int") none nowhere (omega arith)
    (known (codes "int") refl) refl
kind_stands Table has =
    word_stands 3 place.Kind (codes "int") none nowhere (omega arith)
    (known (codes "int") refl) refl

column_stands : (column : Column) (rest : Terms) → IsWord column.name
    → has_digits column.kind ≡ true
    → Stands 2 place.Column (column_before (column_tree column) rest) rest
column_stands column rest is has =
    call_of_two 2 place.Column (codes "col") rest nowhere place.Name place.Kind _
    (kind_before (kind_tree column.kind) none) refl refl (omega arith)
    (word_stands 3 place.Name column.name (kind_before (kind_tree column.kind) none) nowhere
    (omega arith) is refl)
    (kind_stands column.kind has)

columns_stand : (columns : List Column) → AllByRecursion (λ column. IsWord column.name) columns
    → list_all (λ column. has_digits column.kind) columns ≡ true
    → StandAll 2 (replicate (length columns) place.Column)
    (all_before column_before (map column_tree columns) none)
columns_stand [] words have = no_term 2
columns_stand (column ∷ columns) words have =
    let parts = and_parts (has_digits column.kind)
    (list_all (λ column. has_digits column.kind) columns) have in
    before 2 place.Column (replicate (length columns) place.Column) _ _
    (column_stands column (all_before column_before (map column_tree columns) none) words.0 parts.0)
    (columns_stand columns words.1 parts.1)

-- the arguments of the stream
pub stream_stands : (layout : Layout) → AllByRecursion (λ column. IsWord column.name) layout.columns
    → IsLayout layout.columns
    → StandAll 2 (place.Mode ∷ replicate (length layout.columns) place.Column)
    (mode_before (mode_tree layout.has_header)
    (all_before column_before (map column_tree layout.columns) none))
stream_stands layout words is =
    before 2 place.Mode (replicate (length layout.columns) place.Column) _ _
    (mode_stands layout.has_header (all_before column_before (map column_tree layout.columns) none))
    (columns_stand layout.columns words is.digits)
