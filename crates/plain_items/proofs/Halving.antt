-- What halving finds: the number of a side of zero that is nearest to it.
use Rattle.std.proofs.Common.{◌≡◌, ℕ, zero, suc, ◌+◌, ◌≤◌, ◌<◌, ℤ, pos, negsuc, neg_ℤ, true, List}
use Rattle.std.proofs.Common.{⊎_elim, refl, arith}
use Rattle.std.specs.Prelude.{int_le, unsigned_abs, slice_set}
use Rattle.std.proofs.lemmas.Bool.{cases_lt}
use Rattle.std.proofs.lemmas.Int.{ints}
use Rattle.value_ops.specs.declared.field.Field.{Field}
use Rattle.predicate_cells.specs.Cells.{Partition, IsIn}
use Rattle.plain_items.specs.Becoming.{number_field, with_sign}
use Rattle.plain_items.specs.declared.replacement.Form.{Form}
use Rattle.plain_items.proofs.Fields.{between}

pub abs_with_sign : (number : ℤ) (n : ℕ) → unsigned_abs (with_sign number n) ≡ n
abs_with_sign (pos _) n = refl
abs_with_sign (negsuc _) zero = refl
abs_with_sign (negsuc _) (suc n) = refl

pub with_own_sign : (number : ℤ) → with_sign number (unsigned_abs number) ≡ number
with_own_sign (pos n) = refl
with_own_sign (negsuc n) = refl

pub with_sign_zero : (number : ℤ) → with_sign number 0 ≡ pos 0
with_sign_zero (pos n) = refl
with_sign_zero (negsuc n) = refl

le_pos : (m n : ℕ) → m ≤ n → int_le (pos m) (pos n) ≡ true
le_pos m n le = grind (arith, ints)

le_neg : (m n : ℕ) → m ≤ n → int_le (neg_ℤ (pos n)) (neg_ℤ (pos m)) ≡ true
le_neg m n le = grind (arith, ints)

neg_le_pos : (m n : ℕ) → int_le (neg_ℤ (pos m)) (pos n) ≡ true
neg_le_pos m n = grind (arith, ints)

module _ (cells : Partition) (cell : ℕ) (item : List Field) (column : ℕ) (form : Form) where
  abbrev Stays : ℤ → Type 0
  Stays n = IsIn cells cell (slice_set item column (number_field form n))

  within : (low mid high : ℤ) → int_le low mid ≡ true → int_le mid high ≡ true → Stays low
      → Stays high → Stays mid
  within low mid high le ge a b =
      between cells.preds form 0 cells.layout.columns item column low mid high cell le ge a b

  above : (outside inside : ℕ) → outside < inside → Stays (pos inside) → (Stays (pos outside) → ⊥)
      → (n : ℤ) → Stays n → inside ≤ outside + 1 → inside ≤ unsigned_abs n
  above outside inside lt has not (pos m) stays le = ⊎_elim (λ more. omega arith)
      (λ less. absurd (not (within (pos m) (pos outside) (pos inside) (le_pos m outside less)
      (le_pos outside inside (omega arith)) stays has)))
      (cases_lt outside m)
  above outside inside lt has not (negsuc m) stays le =
      absurd (not (within (negsuc m) (pos outside) (pos inside) (neg_le_pos (suc m) outside)
      (le_pos outside inside (omega arith)) stays has))

  below : (outside inside : ℕ) → outside < inside → Stays (neg_ℤ (pos inside))
      → (Stays (neg_ℤ (pos outside)) → ⊥) → (n : ℤ) → Stays n → inside ≤ outside + 1
      → inside ≤ unsigned_abs n
  below outside inside lt has not (pos m) stays le =
      absurd (not (within (neg_ℤ (pos inside)) (neg_ℤ (pos outside)) (pos m)
      (le_neg outside inside (omega arith)) (neg_le_pos outside m) has stays))
  below outside inside lt has not (negsuc m) stays le = ⊎_elim (λ more. omega arith)
      (λ less. absurd (not (within (neg_ℤ (pos inside)) (neg_ℤ (pos outside)) (negsuc m)
      (le_neg outside inside (omega arith)) (le_neg (suc m) outside less) has stays)))
      (cases_lt outside (suc m))

  -- where the number of a magnitude stays and that of the one before does not, none that is
  -- nearer to zero stays
  pub nearest : (number : ℤ) (outside inside : ℕ) → outside < inside → inside ≤ outside + 1
      → Stays (with_sign number inside) → (Stays (with_sign number outside) → ⊥)
      → (n : ℤ) → Stays n → inside ≤ unsigned_abs n
  nearest (pos _) outside inside lt le has not n stays = above outside inside lt has not n stays le
  nearest (negsuc _) outside inside lt le has not n stays =
      below outside inside lt has not n stays le
