-- Positions that decide the targets of letters.
use Rattle.std.proofs.Common.{◌≡◌, ℕ, ◌<◌, ◌≤◌, ◌↔◌, ◌⊎◌, List, length, slice_index}
use Rattle.std.proofs.Common.{arith, subst, sym, inl, inr}
use Rattle.std.proofs.lemmas.Option.{slice_get_within}
use Rattle.std.specs.List.{Contains}
use Rattle.rate_expr.specs.Sets.{Has, IsLowest}
use Rattle.rate_expr.proofs.MaskMembers.{has_zero}
use Rattle.rate_equal.specs.Holding.{AreRows, AreTwins, HaveSameRow}
use Rattle.rate_equal.specs.Patterns.{AreCommon, DecideAll, HaveSame}
use Rattle.rate_equal.specs.Reach.{max_reach}
use Rattle.rate_equal.specs.declared.letters.Letter.{Letter}
use Rattle.rate_equal.specs.declared.pattern.Position.TheVariants.{First, Second}
use Rattle.rate_equal.proofs.Finding.{stands_at}
use Rattle.rate_equal.proofs.Holding.{low_or_left}
use Rattle.rate_equal.proofs.Patterns.{at_or_not, same_ways}
use Rattle.rate_equal.proofs.SameRows.{letter_twin}

module _ (twins : List ℕ) (mask : ℕ) where
  -- the position or one of its twins was found
  abbrev pub IsPicked : ℕ → ℕ → Type 0
  IsPicked found position = (twin : ℕ) × Has found twin
      × ((twin ≡ position) ⊎ Has (slice_index twins position) twin)

  -- each position of the mask is left, or it or a twin was found
  pub record IsPicking (rest found : ℕ) : Type 0 where
    pub left : (position : ℕ) → Has rest position → Has mask position
    pub picked : (position : ℕ) → Has mask position → Has rest position ⊎ IsPicked found position

  -- all are left
  pub picking_begun : IsPicking mask 0
  picking_begun = record { left = λ position has. has; picked = λ position has. inl has }

  -- one is found for the lowest
  pub picking_next : (rest after found found' low : ℕ) → IsPicking rest found
      → IsLowest rest low
      → ((other : ℕ) → Has after other ↔ (Has rest other × (IsLowest rest other → ⊥)))
      → ((position : ℕ) → Has found position → Has found' position) → IsPicked found' low
      → IsPicking after found'
  picking_next rest after found found' low before is exact kept lowest = record {
    left = λ position has. before.left position ((exact position).0 has).0;
    picked = λ position has. elim (before.picked position has) [
      | inr (twin, there, how) ↦ inr (twin, kept twin there, how)
      | inl waits ↦ elim (low_or_left rest low after position is exact waits) [
        | inr still ↦ inl still
        | inl here ↦ inr (subst (IsPicked found') (sym here) lowest)
      ]
    ];
  }

  -- none is left
  pub picking_all : (found : ℕ) → IsPicking 0 found → (position : ℕ) → Has mask position
      → IsPicked found position
  picking_all found all position has = elim (all.picked position has) [
    | inl waits ↦ absurd (has_zero position waits)
    | inr is ↦ is
  ]

module _ (of : Letter → ℕ) (rows : List ℕ) (letters : List Letter)
    (are_rows : AreRows of rows letters (length letters)) (few : length letters ≤ max_reach) where
  -- a letter has a position where it has one with the same row
  alike : (one other : ℕ) → HaveSameRow rows rows one other → (letter : Letter)
      → Contains letters letter → Has (of letter) one → Has (of letter) other
  alike one other same letter c has =
      let (place, at) = stands_at letters letter c in
      let within = slice_get_within letters place letter at in
      let below : place < max_reach = omega (arith, within, few) in
      (are_rows.only place other letter below at
      ((same place below).0 (are_rows.has place one letter within at has))).1

  -- so letters that have the same of one of each twins have the same of all
  pub same_of_all : (twins : List ℕ) → AreTwins rows rows twins → (mask found : ℕ)
      → ((position : ℕ) → Has mask position → IsPicked twins mask found position)
      → (one other : Letter) → Contains letters one → Contains letters other
      → ((position : ℕ) → Has found position → Has (of one) position ↔ Has (of other) position)
      → (position : ℕ) → Has mask position → Has (of one) position ↔ Has (of other) position
  same_of_all twins are mask found picked one other c c' same position on =
      let (twin, there, how) = picked position on in elim how [
        | inl here ↦ subst (λ (p : ℕ). Has (of one) p ↔ Has (of other) p) here (same twin there)
        | inr is ↦
            let row = are position twin is in
            let back : HaveSameRow rows rows position twin =
            λ place lt. ((row place lt).1, (row place lt).0) in (
              λ has. alike twin position row other c'
                  ((same twin there).0 (alike position twin back one c has)),
              λ has. alike twin position row one c
                  ((same twin there).1 (alike position twin back other c' has)),
            )
      ]

module _ (first second like_first like_second twins : List ℕ) (letters : List Letter)
    (in_first : AreRows (λ l. l.first) first letters (length letters))
    (in_second : AreRows (λ l. l.second) second letters (length letters))
    (few : length letters ≤ max_reach) (same_first : AreTwins first first like_first)
    (same_second : AreTwins second second like_second) (across : AreTwins first second twins)
    (common : ℕ × ℕ) (always : AreCommon letters common) (ways asked : ℕ × ℕ)
    (exact : (position : ℕ) → Has asked.0 position
    ↔ (Has ways.0 position × (Has common.0 position → ⊥)))
    (exact' : (position : ℕ) → Has asked.1 position
    ↔ (Has ways.1 position × (Has common.1 position → ⊥)))
    (one_each two_each left : ℕ)
    (picked : (position : ℕ) → Has asked.0 position
    → IsPicked like_first asked.0 one_each position)
    (picked' : (position : ℕ) → Has asked.1 position
    → IsPicked like_second asked.1 two_each position)
    (sorted : (position : ℕ) → Has two_each position → Has left position
    ⊎ ((twin : ℕ) × Has one_each twin × Has (slice_index twins position) twin)) where
  -- letters that have the same of one of each twins lead to the same pair
  pub decisive_all : DecideAll letters ways (one_each, left)
  decisive_all one other c c' same = same_ways ways one other all
    where
      of_first : (position : ℕ) → Has asked.0 position
          → Has one.first position ↔ Has other.first position
      of_first = same_of_all (λ l. l.first) first letters in_first few like_first same_first asked.0
          one_each picked one other c c' (λ position on. same (First position) on)

      of_each : (position : ℕ) → Has two_each position
          → Has one.second position ↔ Has other.second position
      of_each position on = elim (sorted position on) [
        | inl apart ↦ same (Second position) apart
        | inr (twin, on', is) ↦
            let row = across position twin is in
            let of_one = letter_twin first second letters in_first in_second few twin
            position row one c in
            let of_other = letter_twin first second letters in_first in_second few twin
            position row other c' in
            let both = same (First twin) on' in (
              λ has. of_other.1 (both.0 (of_one.0 has)),
              λ has. of_one.1 (both.1 (of_other.0 has)),
            )
      ]

      of_second : (position : ℕ) → Has asked.1 position
          → Has one.second position ↔ Has other.second position
      of_second = same_of_all (λ l. l.second) second letters in_second few like_second same_second
          asked.1 two_each picked' one other c c' of_each

      all : HaveSame ways one other
      all (First position) on = elim (at_or_not common (First position)) [
        | inl each ↦ (
          λ has. (always other c').0 position each,
          λ has. (always one c).0 position each,
        )
        | inr none ↦ of_first position ((exact position).1 (on, none))
      ]
      all (Second position) on = elim (at_or_not common (Second position)) [
        | inl each ↦ (
          λ has. (always other c').1 position each,
          λ has. (always one c).1 position each,
        )
        | inr none ↦ of_second position ((exact' position).1 (on, none))
      ]
