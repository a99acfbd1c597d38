-- Items of cells, and their lines.
use Rattle.std.proofs.Common.{◌≡◌, ◌∙◌, ℕ, Bool, true, false, List, [], ◌∷◌, ◌++◌, length}
use Rattle.std.proofs.Common.{refl, sym, ap, subst, suc}
use Rattle.std.specs.Prelude.{IsTrue, IfOk, IfSome, Option, Some, None, Result, Ok, Err, map}
use Rattle.std.specs.Prelude.{if◌then◌else◌}
use Rattle.std.specs.List.{list_all}
use Rattle.std.proofs.lemmas.List.Folds.{list_all-append}
use Rattle.value_ops.specs.declared.field.Field.{Field}
use Rattle.item_schema.specs.declared.column.Column.{Column}
use Rattle.predicate_cells.specs.Cells.{Partition, IsIn}
use Rattle.rate_expr.specs.Rates.{Regex}
use Rattle.rate_expr.specs.Words.{Word, IsWordOf}
use Rattle.dead_words.specs.Outlooks.{AreIn, GoOnBelow, IsShortestEnd}
use Rattle.item_lines.specs.Lines.{is_shown, line_of, shown_line}
use Rattle.dead_example.specs.Endings.{AreLinesOf}
use Rattle.dead_example.specs.Rates.{AreLinesIn, IsEndOfRate, IsLineIn}

-- items of cells are items of the stream, as many as there are cells
items_in : (cells : Partition) (places : List ℕ) (word : Word) → AreIn cells places word
    → IsWordOf cells.layout.columns word
items_in cells [] [] are = tt
items_in cells [] (item ∷ word) are = absurd are
items_in cells (place ∷ places) [] are = absurd are
items_in cells (place ∷ places) (item ∷ word) are =
    (are.0.0, items_in cells places word are.1)

as_many : (cells : Partition) (places : List ℕ) (word : Word) → AreIn cells places word
    → length places ≡ length word
as_many cells [] [] are = refl
as_many cells [] (item ∷ word) are = absurd are
as_many cells (place ∷ places) [] are = absurd are
as_many cells (place ∷ places) (item ∷ word) are =
    ap suc (as_many cells places word are.1)

-- one more cell and an item of it
one_more : (cells : Partition) (places : List ℕ) (word : Word) (place : ℕ) (item : List Field)
    → AreIn cells places word → IsIn cells place item
    → AreIn cells (places ++ place ∷ []) (word ++ item ∷ [])
one_more cells [] [] place item are is = (is, tt)
one_more cells [] (x ∷ word) place item are is = absurd are
one_more cells (p ∷ places) [] place item are is = absurd are
one_more cells (p ∷ places) (x ∷ word) place item are is =
    (are.0, one_more cells places word place item are.1 is)

map_more : (columns : List Column) (word : Word) (item : List Field)
    → map (line_of columns) (word ++ item ∷ [])
    ≡ map (line_of columns) word ++ line_of columns item ∷ []
map_more columns [] item = refl
map_more columns (x ∷ word) item =
    ap (λ (l : List (List ℕ)). line_of columns x ∷ l) (map_more columns word item)

all_more : (lines : List (List ℕ)) (line : List ℕ) → IsTrue (list_all is_shown lines)
    → IsTrue (is_shown line) → IsTrue (list_all is_shown (lines ++ line ∷ []))
all_more lines line are is = rw (list_all-append is_shown lines (line ∷ []), are, is) refl

-- a line more
pub lines_more : (cells : Partition) (places : List ℕ) (lines : List (List ℕ)) (place : ℕ)
    (line : List ℕ) → AreLinesIn cells places lines → IsLineIn cells place line
    → AreLinesIn cells (places ++ place ∷ []) (lines ++ line ∷ [])
lines_more cells places lines place line are is = record {
  word = are.word ++ is.item ∷ [];
  items = one_more cells places are.word place is.item are.items is.cell;
  lines_are = record {
    lines_are = ap (λ (l : List (List ℕ)). l ++ line ∷ []) are.lines_are.lines_are
        ∙ ap (λ (l : List ℕ). map (line_of cells.layout.columns) are.word ++ l ∷ []) is.line_is
        ∙ sym (map_more cells.layout.columns are.word is.item);
    shown = all_more lines line are.lines_are.shown is.shown;
  };
}

-- no lines
pub lines_none : (cells : Partition) → AreLinesIn cells [] []
lines_none cells = record {
  word = [];
  items = tt;
  lines_are = record { lines_are = refl; shown = refl };
}

-- the lines of items of cells that are an end
pub ending_lines : (cells : Partition) (rate : Regex) (places : List ℕ) (lines : List (List ℕ))
    → IsShortestEnd cells rate places → AreLinesIn cells places lines
    → (word : Word) × IsEndOfRate cells.layout.columns rate word
    × AreLinesOf cells.layout.columns word lines
ending_lines cells rate places lines end are = (
  are.word,
  record {
    items = items_in cells places are.word are.items;
    dead = end.dead are.word are.items;
    shortest = subst (λ (n : ℕ). GoOnBelow cells.layout.columns rate n)
        (as_many cells places are.word are.items) end.shortest;
  },
  are.lines_are,
)

-- a line that is shown is one of an item
line_is : (cells : Partition) (place : ℕ) (item : List Field) → IsIn cells place item
    → (b : Bool) → is_shown (line_of cells.layout.columns item) ≡ b
    → IfSome (if b then Some (line_of cells.layout.columns item) else None) (IsLineIn cells place)
line_is cells place item in' true is =
    record { item = item; cell = in'; line_is = refl; shown = is }
line_is cells place item in' false is = tt

pub line_found : {E : Type 0} (cells : Partition) (place : ℕ) (item : List Field)
    → IsIn cells place item → (result : Result (Option (List ℕ)) E)
    → IfOk result (λ found. found ≡ shown_line cells.layout.columns item)
    → IfOk result (λ found. IfSome found (IsLineIn cells place))
line_found cells place item in' (Ok found) is =
    subst (λ (f : Option (List ℕ)). IfSome f (IsLineIn cells place)) (sym is)
    (line_is cells place item in' (is_shown (line_of cells.layout.columns item)) refl)
line_found cells place item in' (Err e) is = tt
