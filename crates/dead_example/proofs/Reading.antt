-- The lines of items are read to the items.
use Rattle.std.proofs.Common.{ℕ, List, [], ◌∷◌, refl, sym, subst}
use Rattle.std.specs.Prelude.{IsTrue, map}
use Rattle.std.specs.List.{list_all}
use Rattle.std.proofs.lemmas.Bool.{and_parts}
use Rattle.item_schema.specs.Layout.{are_columns}
use Rattle.item_schema.specs.declared.column.Column.{Column}
use Rattle.rate_expr.specs.Words.{Word, IsWordOf}
use Rattle.item_lines.specs.Lines.{is_shown, line_of}
use Rattle.item_lines.proofs.LineReading.{line_is_read}
use Rattle.dead_example.specs.Endings.{AreLinesOf, AreRead}

module _ (columns : List Column) (are : IsTrue (are_columns columns)) where
  read_each : (word : Word) → IsWordOf columns word
      → IsTrue (list_all is_shown (map (line_of columns) word))
      → AreRead columns (map (line_of columns) word) word
  read_each [] is shown = refl
  read_each (item ∷ word) is shown =
      let parts = and_parts (is_shown (line_of columns item))
      (list_all is_shown (map (line_of columns) word)) shown in
      let first = line_is_read columns item are is.0 parts.0 in
      let others = read_each word is.1 parts.1 in cc

pub read_all : (columns : List Column) (word : Word) (lines : List (List ℕ))
    → IsTrue (are_columns columns) → IsWordOf columns word → AreLinesOf columns word lines
    → AreRead columns lines word
read_all columns word lines are is of =
    subst (λ (l : List (List ℕ)). AreRead columns l word) (sym of.lines_are)
    (read_each columns are word is
    (subst (λ (l : List (List ℕ)). IsTrue (list_all is_shown l)) of.lines_are of.shown))
