-- One more column: what it adds to a product of counts, and to a cell.
use Rattle.std.proofs.Common.{◌≡◌, ℕ, ◌+◌, ◌*◌, ◌<◌, ◌≤◌, List, [], ◌∷◌, length, drop, get_or, zero}
use Rattle.std.proofs.Common.{suc, refl, drop-drop, sym, ap, ◌∙◌, mul_assoc, mul_comm, take, ◌++◌}
use Rattle.std.proofs.Common.{◌/◌, ◌%◌, append_assoc, pos, arith}
use Rattle.std.specs.Prelude.{slice_get}
use Rattle.std.specs.Option.{option_map_or}
use Rattle.std.proofs.Math.Nat.{le-mul_of_pos_right}
use Rattle.std.proofs.lemmas.List.{at_drop_more}
use Rattle.std.proofs.lemmas.Nat.{div-mul-add, div_below}
use Rattle.value_ops.specs.declared.field.Field.TheVariants as field
use Rattle.value_ops.specs.declared.field.Field.{Field}
use Rattle.predicate_cells.specs.Ranks.{Ranks, count_in, class_in, field_in, cells_in, cell_in}
use Rattle.predicate_cells.specs.Samples.{sample_of}
use Rattle.predicate_cells.proofs.RanksBelow.{rank_below, cells_positive, cell_in_below}

-- a factor is at most the product and what is added
factor_le : (n width rest total : ℕ) → 0 < width → n * width + rest ≡ total → n ≤ total
factor_le n width rest total positive e = omega (arith, le-mul_of_pos_right n positive)

-- a cell is the first digit and the others
first_digit : (ranks : Ranks) (others : List Ranks) (fields : List Field)
    → cell_in (ranks ∷ others) fields ≡ option_map_or (class_in ranks) (slice_get fields 0) 0
    * cells_in others + cell_in others (drop 1 fields)
first_digit ranks others [] = by others
  where
    by : (columns : List Ranks) → 0 ≡ 0 * cells_in columns + cell_in columns []
    by [] = refl
    by (c ∷ cs) = omega arith
first_digit ranks others (f ∷ fs) = refl

slice_get-drop : {A : Type 0} (xs : List A) (i : ℕ) → slice_get (drop i xs) 0 ≡ slice_get xs i
slice_get-drop [] zero = refl
slice_get-drop [] (suc i) = refl
slice_get-drop (x ∷ xs) zero = refl
slice_get-drop (x ∷ xs) (suc i) = slice_get-drop xs i

regroup : (cell count digit width rest : ℕ)
    → (cell * count + digit) * width + rest ≡ cell * (count * width) + (digit * width + rest)
regroup cell count digit width rest = omega arith

-- some class is there
count_positive : (ranks : Ranks) → 0 < count_in ranks
count_positive ranks =
    let below = rank_below ranks.starts ranks.texts ranks.kind (field.Int (pos 0)) in omega arith

-- the product of the columns is that of two parts
product-take-drop : (columns : List Ranks) (i : ℕ)
    → cells_in (take i columns) * cells_in (drop i columns) ≡ cells_in columns
product-take-drop columns zero = omega arith
product-take-drop [] (suc i) = omega arith
product-take-drop (ranks ∷ others) (suc i) =
    mul_assoc _ _ _ ∙ ap (λ n. count_in ranks * n) (product-take-drop others i)

-- neither of which makes more cells
pub take_le : (columns : List Ranks) (i : ℕ) → cells_in (take i columns) ≤ cells_in columns
take_le columns i = factor_le _ (cells_in (drop i columns)) 0 _ (cells_positive (drop i columns))
    (omega (arith, product-take-drop columns i))

pub drop_le : (columns : List Ranks) (i : ℕ) → cells_in (drop i columns) ≤ cells_in columns
drop_le columns i =
    factor_le _ (cells_in (take i columns)) 0 _ (cells_positive (take i columns)) (omega (
      arith,
      product-take-drop columns i,
      mul_comm (cells_in (take i columns)) (cells_in (drop i columns)),
    ))

-- the column at an index, as the code reads it
module _ (columns : List Ranks) (i : ℕ) (ranks : Ranks) (lt : i < length columns)
    (is : ranks ≡ get_or columns i ranks) where
  at_column : {A : Type 0} (F : List Ranks → A)
      → F (drop i columns) ≡ F (ranks ∷ drop (i + 1) columns)
  at_column F = at_drop_more F columns i ranks lt ∙ ap (λ r. F (r ∷ drop (i + 1) columns)) (sym is)

  -- the product continues
  pub product_more : (count : ℕ) → count * cells_in (drop i columns) ≡ cells_in columns
      → (count * count_in ranks) * cells_in (drop (i + 1) columns) ≡ cells_in columns
  product_more count e = mul_assoc _ _ _ ∙ sym (ap (λ n. count * n) (at_column cells_in)) ∙ e

  -- and grows
  pub product_le : (count : ℕ) → count * cells_in (drop i columns) ≡ cells_in columns
      → count * count_in ranks ≤ cells_in columns
  product_le count e = factor_le _ (cells_in (drop (i + 1) columns)) 0 _
      (cells_positive (drop (i + 1) columns)) (omega (arith, product_more count e))

  -- the cell continues
  pub cell_more : (fields : List Field) (cell : ℕ)
      → cell * cells_in (drop i columns) + cell_in (drop i columns) (drop i fields)
      ≡ cell_in columns fields
      → (cell * count_in ranks + option_map_or (class_in ranks) (slice_get fields i) 0)
      * cells_in (drop (i + 1) columns) + cell_in (drop (i + 1) columns) (drop (i + 1) fields)
      ≡ cell_in columns fields
  cell_more fields cell e =
      let others = drop (i + 1) columns in
      let digits = at_column (λ rs. cell_in rs (drop i fields))
      ∙ first_digit ranks others (drop i fields) in
      let total =
      rw (at_column cells_in, digits, slice_get-drop fields i, drop-drop 1 i fields) at e in
      regroup cell (count_in ranks) _ (cells_in others) _ ∙ total

  -- and stays below the count
  pub cell_le : (fields : List Field) (cell : ℕ)
      → cell * cells_in (drop i columns) + cell_in (drop i columns) (drop i fields)
      ≡ cell_in columns fields
      → cell * count_in ranks + option_map_or (class_in ranks) (slice_get fields i) 0
      < cells_in columns
  cell_le fields cell e =
      omega (
        arith,
        factor_le _ _ _ _ (cells_positive (drop (i + 1) columns)) (cell_more fields cell e),
        cell_in_below columns fields,
      )

  -- a class of the column has no more cells than all columns
  pub block_le : count_in ranks * cells_in (drop (i + 1) columns) ≤ cells_in columns
  block_le = rw (← at_column cells_in) (drop_le columns i)

  -- the cells of the columns that follow
  pub width_more : (width : ℕ) → width ≡ cells_in (drop i columns)
      → width / count_in ranks ≡ cells_in (drop (i + 1) columns)
  width_more width e =
      let rest = cells_in (drop (i + 1) columns) in
      let whole : width ≡ rest * count_in ranks + 0 =
      omega (arith, e, at_column cells_in, mul_comm (count_in ranks) rest) in
      rw whole (div-mul-add rest (count_in ranks) 0 (count_positive ranks))

  -- a digit of a cell is a class
  pub digit_below : (width cell : ℕ) → width ≡ cells_in (drop i columns) → cell < width
      → cell / cells_in (drop (i + 1) columns) < count_in ranks
  digit_below width cell e lt =
      div_below cell (cells_in (drop (i + 1) columns)) (count_in ranks)
      (cells_positive (drop (i + 1) columns)) (omega (arith, e, at_column cells_in))

  -- and has the first field of what is left of the sample
  pub sample_more : (fields : List Field) (cell : ℕ) (whole : List Field)
      → fields ++ sample_of (drop i columns) cell ≡ whole
      → (fields ++ field_in ranks (cell / cells_in (drop (i + 1) columns)) ∷ [])
      ++ sample_of (drop (i + 1) columns) (cell % cells_in (drop (i + 1) columns)) ≡ whole
  sample_more fields cell whole e = append_assoc fields _ _
      ∙ ap (λ rest. fields ++ rest) (sym (at_column (λ rs. sample_of rs cell))) ∙ e
