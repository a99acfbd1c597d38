-- Lists of truths, joined and negated, and what a test says of rows that show one column.
use Rattle.std.proofs.Common.{◌≡◌, ℕ, zero, suc, ◌<◌, Bool, false, List, [], ◌∷◌, ◌++◌, map, length}
use Rattle.std.proofs.Common.{get_or, replicate, Option, None, Some, refl, sym, ap, ap₂, ◌∙◌}
use Rattle.std.proofs.Common.{ext_get_or, arith}
use Rattle.std.specs.Prelude.{slice_get}
use Rattle.std.specs.List.{zip}
use Rattle.std.proofs.lemmas.List.{length-map, get_or-map}
use Rattle.std.proofs.lemmas.Slice.Zip.{length-zip, get_or-zip}
use Rattle.value_ops.specs.declared.field.Field.{Field}
use Rattle.predicates.specs.Predicates.{Predicate, any, eq, ne, lt, le, gt, ge, between}
use Rattle.predicates.specs.Predicates.{eq_text, ne_text, is_num, conjunction, disjunction}
use Rattle.predicates.specs.Predicates.{negation}
use Rattle.predicate_cells.specs.Samples.{row_of, blank}
use Rattle.predicates.specs.Truth.{holds}

module _ (join : Bool → Bool → Bool) where
  -- a list is two joined ones where it is so at each place
  pub joined_lists : (xs ys zs : List Bool) → length zs ≡ length xs → length ys ≡ length xs
      → ((k : ℕ) → k < length xs → get_or zs k false ≡ join (get_or xs k false) (get_or ys k false))
      → zs ≡ map (λ p. join p.0 p.1) (zip xs ys)
  joined_lists xs ys zs same others each =
      ext_get_or false zs _
      (omega (arith, length-map (zip xs ys) (λ (p : Bool × Bool). join p.0 p.1), length-zip xs ys))
      (λ i lt. each i (omega arith) ∙ sym (get_or-map (λ (p : Bool × Bool). join p.0 p.1)
      (zip xs ys) i (false, false) false (omega (arith, length-zip xs ys))
      ∙ ap (λ (p : Bool × Bool). join p.0 p.1)
      (get_or-zip xs ys i (false, false) (omega arith) (omega arith))))

  -- two lists of truths of the same elements
  pub joined_truths : {A : Type 0} (f g : A → Bool) (xs : List A)
      → map (λ p. join p.0 p.1) (zip (map f xs) (map g xs)) ≡ map (λ x. join (f x) (g x)) xs
  joined_truths f g [] = refl
  joined_truths f g (x ∷ xs) = ap (λ ys. join (f x) (g x) ∷ ys) (joined_truths f g xs)

pub map-same : {A B : Type 0} (f g : A → B) → ((x : A) → f x ≡ g x) → (xs : List A)
    → map f xs ≡ map g xs
map-same f g same [] = refl
map-same f g same (x ∷ xs) = ap₂ (λ y ys. y ∷ ys) (same x) (map-same f g same xs)

-- the row shows what was found in the column
after_blanks : (column : ℕ) (field : Field)
    → slice_get (replicate column blank ++ field ∷ []) column ≡ Some field
after_blanks zero field = refl
after_blanks (suc column) field = after_blanks column field

pub row_shows : (column : ℕ) (found : Option Field) → slice_get (row_of column found) column ≡ found
row_shows column None = refl
row_shows column (Some field) = after_blanks column field

-- the predicate is a test of the column
abbrev pub IsTest : ℕ → Predicate → Type 0
IsTest column any = ⊥
IsTest column (eq tested n) = tested ≡ column
IsTest column (ne tested n) = tested ≡ column
IsTest column (lt tested n) = tested ≡ column
IsTest column (le tested n) = tested ≡ column
IsTest column (gt tested n) = tested ≡ column
IsTest column (ge tested n) = tested ≡ column
IsTest column (between tested low high) = tested ≡ column
IsTest column (eq_text tested text) = tested ≡ column
IsTest column (ne_text tested text) = tested ≡ column
IsTest column (is_num tested) = tested ≡ column
IsTest column (conjunction first second) = ⊥
IsTest column (disjunction first second) = ⊥
IsTest column (negation inner) = ⊥

-- and says the same of the row
pub test_of_row : (column : ℕ) (pred : Predicate) → IsTest column pred → (item : List Field)
    → holds pred (row_of column (slice_get item column)) ≡ holds pred item
test_of_row column (eq tested n) is item = rw (is, row_shows column (slice_get item column)) refl
test_of_row column (ne tested n) is item = rw (is, row_shows column (slice_get item column)) refl
test_of_row column (lt tested n) is item = rw (is, row_shows column (slice_get item column)) refl
test_of_row column (le tested n) is item = rw (is, row_shows column (slice_get item column)) refl
test_of_row column (gt tested n) is item = rw (is, row_shows column (slice_get item column)) refl
test_of_row column (ge tested n) is item = rw (is, row_shows column (slice_get item column)) refl
test_of_row column (between tested low high) is item =
    rw (is, row_shows column (slice_get item column)) refl
test_of_row column (eq_text tested text) is item =
    rw (is, row_shows column (slice_get item column)) refl
test_of_row column (ne_text tested text) is item =
    rw (is, row_shows column (slice_get item column)) refl
test_of_row column (is_num tested) is item = rw (is, row_shows column (slice_get item column)) refl
test_of_row column pred is item = absurd is
