-- The set of the flags that are set.
use Rattle.std.proofs.Common.{◌≡◌, ℕ, zero, suc, ◌+◌, ◌<◌, ◌≤◌, Bool, true, false, not, ◌↔◌, List}
use Rattle.std.proofs.Common.{[], ◌∷◌, length, Option, Some, None, Less, nat_cmp, refl, sym, ap}
use Rattle.std.proofs.Common.{◌∙◌, true≢false, add-zero, arith}
use Rattle.std.specs.Prelude.{IsTrue, slice_get}
use Rattle.std.specs.List.{All, AllByRecursion, Contains, list_any}
use Rattle.std.specs.List.Sorted.{IsStrictlyIncreasing, IsStrictlySortedBy}
use Rattle.std.proofs.lemmas.Bool.Decides.{nat_tests}
use Rattle.std.proofs.lemmas.Option.{slice_get_within}
use Rattle.std.proofs.lemmas.List.Elements.{Contains-get_or}
use Rattle.std.proofs.Math.Nat.{zero-add}
use Rattle.std.proofs.lemmas.Map.Keys.{IsStrictlyIncreasing-from_sorted}
use Rattle.predicate_cells.specs.CellSets.{flagged_from}
use Rattle.predicates.specs.Truth.{passes}
use Rattle.predicate_cells.proofs.AllMembers.{all_each}

-- a member of a list is one of a longer list
contains_more : (x y : ℕ) (xs : List ℕ) → Contains xs y → Contains (x ∷ xs) y
contains_more x y xs (k, lt, is) = (suc k, omega arith, is)

-- a number is a member where its flag is set
pub flagged : (at : ℕ) (flags : List Bool) (cell : ℕ) → slice_get flags cell ≡ Some true
    → Contains (flagged_from at flags) (at + cell)
flagged at [] cell e = absurd cc
flagged at (true ∷ flags) zero e = rw add-zero (0, omega arith, refl)
flagged at (false ∷ flags) zero e = absurd cc
flagged at (true ∷ flags) (suc cell) e =
    let same : at + suc cell ≡ at + 1 + cell = omega arith in
    rw same (contains_more at _ _ (flagged (at + 1) flags cell e))
flagged at (false ∷ flags) (suc cell) e = let same : at + suc cell ≡ at + 1 + cell = omega arith in
    rw same (flagged (at + 1) flags cell e)

-- and only there
pub flag_of : (at : ℕ) (flags : List Bool) (n : ℕ) → Contains (flagged_from at flags) n
    → (cell : ℕ) × (n ≡ at + cell) × (slice_get flags cell ≡ Some true)
flag_of at [] n (k, lt, is) = absurd (omega arith)
flag_of at (true ∷ flags) n (zero, lt, is) = (0, omega arith, refl)
flag_of at (true ∷ flags) n (suc k, lt, is) =
    let later = flag_of (at + 1) flags n (k, omega arith, is) in
    (suc later.0, omega arith, later.2)
flag_of at (false ∷ flags) n has =
    let later = flag_of (at + 1) flags n has in
    (suc later.0, omega arith, later.2)

-- the members are not below the first number
from_first : (at first : ℕ) (flags : List Bool) → first ≤ at
    → AllByRecursion (λ n. first ≤ n) (flagged_from at flags)
from_first at first [] le = tt
from_first at first (true ∷ flags) le = (le, from_first (at + 1) first flags (omega arith))
from_first at first (false ∷ flags) le = from_first (at + 1) first flags (omega arith)

above_less : (at n : ℕ) → at + 1 ≤ n → nat_cmp at n ≡ Less
above_less at n le = grind (arith, nat_tests)

rising_flags : (at : ℕ) (flags : List Bool) → IsStrictlySortedBy nat_cmp (flagged_from at flags)
unfolding IsStrictlySortedBy
rising_flags at [] = tt
rising_flags at (true ∷ flags) = (
  all_each (λ n. at + 1 ≤ n) (λ n. nat_cmp at n ≡ Less) (above_less at) _
      (from_first (at + 1) (at + 1) flags (omega arith)),
  rising_flags (at + 1) flags,
)
rising_flags at (false ∷ flags) = rising_flags (at + 1) flags

-- and they rise
pub flags_rise : (flags : List Bool) → IsStrictlyIncreasing (flagged_from 0 flags)
flags_rise flags = IsStrictlyIncreasing-from_sorted _ (rising_flags 0 flags)

-- the members are those whose flags are set
pub set_flag : (flags : List Bool) (cell : ℕ) → slice_get flags cell ≡ Some true
    → Contains (flagged_from 0 flags) cell
set_flag flags cell e = rw zero-add at (flagged 0 flags cell e)

pub flag_set : (flags : List Bool) (cell : ℕ) → Contains (flagged_from 0 flags) cell
    → slice_get flags cell ≡ Some true
flag_set flags cell has =
    let found = flag_of 0 flags cell has in
    let same : cell ≡ found.0 = omega (arith, found.1) in
    rw same found.2

-- and below the number of flags
pub flags_below : (flags : List Bool) → All (λ n. n < length flags) (flagged_from 0 flags)
flags_below flags k d lt =
    slice_get_within flags _ true (flag_set flags _ (Contains-get_or _ k d lt))

some_true : (found : Option Bool) → passes (λ flag. flag) found ≡ true → found ≡ Some true
some_true None e = absurd (true≢false (sym e))
some_true (Some true) e = refl
some_true (Some false) e = absurd (true≢false (sym e))

-- a flag that is read, or none past the end
pub read_flag : (flags : List Bool) (cell : ℕ) (read : Bool)
    → read ≡ passes (λ flag. flag) (slice_get flags cell)
    → IsTrue read ↔ Contains (flagged_from 0 flags) cell
read_flag flags cell read e = (
  λ t. set_flag flags cell (some_true (slice_get flags cell) (sym e ∙ t)),
  λ has. e ∙ ap (passes (λ flag. flag)) (flag_set flags cell has),
)

-- no flag is set
pub no_flag : (test : Bool → Bool) → test true ≡ true → test false ≡ false
    → (at : ℕ) (flags : List Bool)
    → IsTrue (not (list_any test flags)) ↔ (flagged_from at flags ≡ [])
no_flag test t f at [] = (λ e. refl, λ e. refl)
no_flag test t f at (true ∷ flags) = rw t (λ e. absurd (true≢false (sym e)), λ e. absurd cc)
no_flag test t f at (false ∷ flags) = rw f (no_flag test t f (at + 1) flags)
