use Rattle.std.proofs.Common.{◌≡◌, ℕ, ◌<◌, List, ◌++◌, length, nat_le, false, OnOk, refl, subst}
use Rattle.std.proofs.Common.{arith}
use Rattle.std.proofs.lemmas.Bool.Decides.{nat_tests}
use Rattle.item_schema.specs.declared.column.Column.{Column}
use Rattle.rate_expr.specs.Words.{Word}
use Rattle.drawn_example.specs.Drawings.{rows_of, some_rows, window_from, window_to}
use Rattle.drawn_example.specs.Drawn.{cells_in, columns_in}
use Rattle.drawn_example.proofs.rows.push_rows.Goals as goal

-- the rows of a long word
long_rows : (columns : List Column) (cells : ℕ → List ℕ) (items : Word) (place : ℕ)
    → 16 < length items → some_rows columns cells (window_from (length items) place)
    (window_to (length items) place) items ≡ rows_of columns cells place items
long_rows columns cells items place long =
    let more : nat_le (length items) 16 ≡ false = grind (arith, nat_tests) in
    rw more refl

-- the same of the items in memory, and of a window around the place
rows_around : (columns : List Column) (cells : ℕ → List ℕ) (items kept : Word)
    (from to place parted : ℕ) → kept ≡ items → 16 < length kept
    → from ≡ window_from (length kept) place → to ≡ window_to (length kept) place
    → place ≡ parted → some_rows columns cells from to kept ≡ rows_of columns cells parted items
rows_around columns cells items kept from to place parted same long is_from is_to is_place =
    let long_too = subst (λ (word : Word). 16 < length word) same long in
    rw (is_from, is_to, is_place, same) (long_rows columns cells items parted long_too)

pub returns : goal.returns
returns c =
    let drawing = c.args.drawing.now in
    let place =
    rw (c.as_slice.ensures, c.first.ensures, c.as_slice-2.ensures, c.second.ensures) at
    c.parting-place.ensures
    in
    subst (λ (text : List ℕ). OnOk c.push_some.result
    (c.push_some.new.shown.items ≡ c.args.shown.now.items ++ text))
    (rows_around (columns_in drawing) (cells_in drawing) drawing.example.now.items
    c.items-items.result.now _ _ _ _ c.items-items.ensures (omega arith)
    c.window_at-window.ensures.from c.window_at-window.ensures.to place)
    c.push_some.ensures
