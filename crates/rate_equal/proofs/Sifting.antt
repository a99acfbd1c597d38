-- Which letters are in all rows of some positions, and in none of others.
use Rattle.std.proofs.Common.{◌≡◌, ℕ, ◌+◌, ◌*◌, ◌/◌, ◌%◌, ◌^◌, ◌-◌, ◌<◌, ◌≤◌, ◌∙◌, ◌↔◌, ◌⊎◌, List}
use Rattle.std.proofs.Common.{Some, bit_and, get_or, length, slice_get, ap, arith, sym, subst, inl}
use Rattle.std.proofs.Common.{inr}
use Rattle.std.proofs.lemmas.Bool.{cases_lt}
use Rattle.std.proofs.lemmas.Option.{slice_get-get_or, slice_get_within}
use Rattle.std.proofs.lemmas.Nat.Bits.{bit_at_ones}
use Rattle.std.specs.List.{Contains}
use Rattle.rate_expr.specs.Sets.{Has, IsLowest}
use Rattle.rate_expr.proofs.MaskMembers.{has_zero}
use Rattle.rate_expr.proofs.MaskSets.{has-and, has-and_both, has-below}
use Rattle.rate_equal.specs.Holding.{AreRows, HasRow, IsInRows}
use Rattle.rate_equal.specs.Patterns.{HasAt, IsLike, positions_of}
use Rattle.rate_equal.specs.PlaceSets.{block_count}
use Rattle.rate_equal.specs.Reach.{max_reach}
use Rattle.rate_equal.specs.declared.letters.Letter.{Letter}
use Rattle.rate_equal.specs.declared.pattern.Pattern.{Pattern}
use Rattle.rate_equal.specs.declared.pattern.Position.{Position}
use Rattle.rate_equal.specs.declared.pattern.Position.TheVariants.{First, Second}
use Rattle.rate_equal.proofs.Added.{contains_found}
use Rattle.rate_equal.proofs.Finding.{stands_at}
use Rattle.rate_equal.proofs.Holding.{low_or_left}

module _ (rows : List ℕ) (mask block some : ℕ) where
  -- the place is in the rows of the positions but for those that are left
  abbrev IsInOthers : ℕ → ℕ → Type 0
  IsInOthers rest place =
      (position : ℕ) → Has mask position → Has rest position ⊎ HasRow rows position place

  -- of the bits of some those were found that are in the rows of the positions that are not left
  pub record IsCutting (rest found : ℕ) : Type 0 where
    pub left : (position : ℕ) → Has rest position → Has mask position
    pub found_in : (place : ℕ) → place / 128 ≡ block → Has found (place % 128)
        → Has some (place % 128) × IsInOthers rest place
    pub whole : (place : ℕ) → place / 128 ≡ block → Has some (place % 128) → IsInOthers rest place
        → Has found (place % 128)

  -- all are left
  pub cutting_begun : IsCutting mask some
  cutting_begun = record {
    left = λ position has. has;
    found_in = λ place here has. (has, λ position on. inl on);
    whole = λ place here has others. has;
  }

  -- the lowest of them
  pub cutting_next : (rest low after word found : ℕ) → IsCutting rest found → IsLowest rest low
      → ((other : ℕ) → Has after other ↔ (Has rest other × (IsLowest rest other → ⊥)))
      → word ≡ get_or rows (low * block_count + block) 0 → IsCutting after (bit_and found word)
  cutting_next rest low after word found before is exact read = record {
    left = λ position has. before.left position ((exact position).0 has).0;
    found_in = λ place here has.
        let (was, bit) = has-and found word (place % 128) has in
        let (in_some, others) = before.found_in place here was in (
          in_some,
          λ position on. elim (others position on) [
            | inr row ↦ inr row
            | inl waits ↦ elim (low_or_left rest low after position is exact waits) [
              | inr still ↦ inl still
              | inl lowest ↦ inr (subst (λ (p : ℕ). HasRow rows p place) (sym lowest)
                  (record { bit = subst (λ (m : ℕ). Has m (place % 128)) (same place here) bit }))
            ]
          ],
        );
    whole = λ place here in_some others.
        has-and_both found word (place % 128)
        (before.whole place here in_some (λ position on. elim (others position on) [
          | inl still ↦ inl ((exact position).0 still).0
          | inr row ↦ inr row
        ]))
        (elim (others low (before.left low is.has)) [
          | inl still ↦ absurd (((exact low).0 still).1 is)
          | inr row ↦ subst (λ (m : ℕ). Has m (place % 128)) (sym (same place here)) row.bit
        ]);
  }
    where
      same : (place : ℕ) → place / 128 ≡ block
          → word ≡ get_or rows (low * block_count + place / 128) 0
      same place here = read ∙ ap (λ (b : ℕ). get_or rows (low * block_count + b) 0) (sym here)

  -- the bits that were found are those that are in all rows
  abbrev IsCut : ℕ → Type 0
  IsCut found = (place : ℕ) → place / 128 ≡ block
      → Has found (place % 128) ↔ (Has some (place % 128) × IsInRows rows mask place)

  -- none is left
  pub cutting_all : (found : ℕ) → IsCutting 0 found → IsCut found
  cutting_all found all place here = (
    λ has. let (in_some, others) = all.found_in place here has in (
      in_some,
      λ position on. elim (others position on) [
        | inl waits ↦ absurd (has_zero position waits)
        | inr row ↦ row
      ],
    ),
    λ (in_some, in_rows). all.whole place here in_some (λ position on. inr (in_rows position on)),
  )

  -- or nothing was found
  pub cutting_none : (rest : ℕ) → IsCutting rest 0 → IsCut 0
  cutting_none rest none place here = (
    λ has. absurd (has_zero (place % 128) has),
    λ (in_some, in_rows). none.whole place here in_some (λ position on. inr (in_rows position on)),
  )

module _ (first second : List ℕ) (letters : List Letter)
    (in_first : AreRows (λ l. l.first) first letters (length letters))
    (in_second : AreRows (λ l. l.second) second letters (length letters))
    (few : length letters ≤ max_reach) (pattern : Pattern) (place : ℕ) (letter : Letter)
    (at : slice_get letters place ≡ Some letter) where
  within : place < length letters
  within = slice_get_within letters place letter at

  -- the place of a letter is in the row of a position where the letter has it
  row_first : (position : ℕ) → HasRow first position place ↔ Has letter.first position
  row_first position = (
    λ row. (in_first.only place position letter (omega (arith, within, few)) at row).1,
    λ has. in_first.has place position letter within at has,
  )

  row_second : (position : ℕ) → HasRow second position place ↔ Has letter.second position
  row_second position = (
    λ row. (in_second.only place position letter (omega (arith, within, few)) at row).1,
    λ has. in_second.has place position letter within at has,
  )

  -- the place is in all rows of the one masks and in none of the others
  abbrev IsSifted : Type 0
  IsSifted = (IsInRows first pattern.has.0 place × IsInRows second pattern.has.1 place)
      × (((position : ℕ) → Has pattern.lacks.0 position → HasRow first position place → ⊥)
      × ((position : ℕ) → Has pattern.lacks.1 position → HasRow second position place → ⊥))

  -- so is it where the letter is of the pattern
  pub sifted_like : IsSifted → IsLike pattern letter
  sifted_like ((one, two), (not_one, not_two)) = record { has = has; lacks = lacks }
    where
      has : (position : Position) → HasAt pattern.has position
          → HasAt (positions_of letter) position
      has (First position) on = (row_first position).0 (one position on)
      has (Second position) on = (row_second position).0 (two position on)

      lacks : (position : Position) → HasAt pattern.lacks position
          → HasAt (positions_of letter) position → ⊥
      lacks (First position) on is = not_one position on ((row_first position).1 is)
      lacks (Second position) on is = not_two position on ((row_second position).1 is)

  pub like_sifted : IsLike pattern letter → IsSifted
  like_sifted like = (
    (
      λ position on. (row_first position).1 (like.has (First position) on),
      λ position on. (row_second position).1 (like.has (Second position) on),
    ),
    (
      λ position on row. like.lacks (First position) on ((row_first position).0 row),
      λ position on row. like.lacks (Second position) on ((row_second position).0 row),
    ),
  )

  module _ (block one both lacked also kept result : ℕ) (here : place / 128 ≡ block)
      (cut : IsCut first pattern.has.0 block (2 ^ 128 - 1) one)
      (cut' : IsCut second pattern.has.1 block one both) where
    both_cut : Has both (place % 128)
        ↔ (IsInRows first pattern.has.0 place × IsInRows second pattern.has.1 place)
    both_cut = (
      λ has. let (there, two) = (cut' place here).0 has in (((cut place here).0 there).1, two),
      λ (in_one, in_two). (cut' place here).1
          ((cut place here).1 (bit_at_ones 128 (place % 128) (omega arith), in_one), in_two),
    )

    -- where no bit is in all rows, the letter is not of the pattern
    pub none_like : both ≡ 0 → Has 0 (place % 128) ↔ IsLike pattern letter
    none_like none = (
      λ has. absurd (has_zero (place % 128) has),
      λ like. subst (λ (m : ℕ). Has m (place % 128)) none (both_cut.1 (like_sifted like).0),
    )

    module _ (has_lacked : (position other : ℕ) → Has pattern.lacks.0 position → other / 128 ≡ block
        → HasRow first position other → Has lacked (other % 128))
        (only_lacked : (other : ℕ) → other / 128 ≡ block → Has lacked (other % 128)
        → (position : ℕ) × Has pattern.lacks.0 position × HasRow first position other)
        (has_also : (position other : ℕ) → Has pattern.lacks.1 position → other / 128 ≡ block
        → HasRow second position other → Has also (other % 128))
        (only_also : (other : ℕ) → other / 128 ≡ block → Has also (other % 128)
        → (position : ℕ) × Has pattern.lacks.1 position × HasRow second position other)
        (without : (position : ℕ)
        → Has kept position ↔ (Has both position × (Has lacked position → ⊥)))
        (without' : (position : ℕ)
        → Has result position ↔ (Has kept position × (Has also position → ⊥))) where
      -- a bit of the rest is that of a letter of the pattern
      pub some_like : Has result (place % 128) ↔ IsLike pattern letter
      some_like = (
        λ has.
            let (stays, none') = (without' (place % 128)).0 has in
            let (in_both, none) = (without (place % 128)).0 stays in
            sifted_like (
              both_cut.0 in_both,
              (
                λ position on row. none (has_lacked position place on here row),
                λ position on row. none' (has_also position place on here row),
              ),
            ),
        λ like.
            let (rows, (none, none')) = like_sifted like in
            (without' (place % 128)).1 (
              (without (place % 128)).1 (
                both_cut.1 rows,
                λ in_lacked. let (position, on, row) = only_lacked place here in_lacked in
                    none position on row,
              ),
              λ in_also. let (position, on, row) = only_also place here in_also in
                  none' position on row,
            ),
      )

-- the bits are those of the letters of the pattern whose places are in the block
abbrev pub AreOfPattern : List Letter → Pattern → ℕ → ℕ → Type 0
AreOfPattern letters pattern block bits = (place : ℕ) (letter : Letter) → place / 128 ≡ block
    → slice_get letters place ≡ Some letter → Has bits (place % 128) ↔ IsLike pattern letter

module _ (letters : List Letter) (pattern : Pattern) (block bits : ℕ) where
  -- no bits
  pub zero_none : bits ≡ 0 → AreOfPattern letters pattern block bits → (place : ℕ) (letter : Letter)
      → place / 128 ≡ block → slice_get letters place ≡ Some letter → IsLike pattern letter → ⊥
  zero_none zero are place letter here at like =
      has_zero (place % 128)
      (subst (λ (m : ℕ). Has m (place % 128)) zero ((are place letter here at).1 like))

  module _ (low : ℕ) (is : IsLowest bits low) (are : AreOfPattern letters pattern block bits) where
    -- the letter of the lowest one
    pub low_like : bits < 2 ^ 128 → block * 128 + low < length letters → (letter : Letter)
        → letter ≡ get_or letters (block * 128 + low) letter
        → Contains letters letter × IsLike pattern letter
    low_like fits within letter read =
        let at = slice_get-get_or letters (block * 128 + low) letter within ∙ ap Some (sym read) in
        let below = has-below bits 128 low fits is.has in
        let in_block : (block * 128 + low) / 128 ≡ block = omega (arith, below) in
        let the_bit : low ≡ (block * 128 + low) % 128 = omega (arith, below) in (
          contains_found letters (block * 128 + low) letter at,
          (are (block * 128 + low) letter in_block at).0
              (subst (λ (p : ℕ). Has bits p) the_bit is.has),
        )

    -- none stands there
    pub low_none : length letters ≤ block * 128 + low → (place : ℕ) (letter : Letter)
        → place / 128 ≡ block → slice_get letters place ≡ Some letter → IsLike pattern letter → ⊥
    low_none past place letter here at like =
        let least = is.least (place % 128) ((are place letter here at).1 like) in
        let within = slice_get_within letters place letter at in
        absurd (omega (arith, least, within, here, past))

-- no letter of the blocks below is of the pattern
abbrev pub NoneBelow : List Letter → Pattern → ℕ → Type 0
NoneBelow letters pattern block = (place : ℕ) (letter : Letter) → place / 128 < block
    → slice_get letters place ≡ Some letter → IsLike pattern letter → ⊥

-- nor of one more
pub none_next : (letters : List Letter) (pattern : Pattern) (block : ℕ)
    → NoneBelow letters pattern block
    → ((place : ℕ) (letter : Letter) → place / 128 ≡ block → slice_get letters place ≡ Some letter
    → IsLike pattern letter → ⊥) → NoneBelow letters pattern (block + 1)
none_next letters pattern block below here place letter lt at like =
    elim (cases_lt (place / 128) block) [
      | inl less ↦ below place letter less at like
      | inr most ↦ here place letter (omega (arith, lt, most)) at like
    ]

-- nor any
pub none_all : (letters : List Letter) (pattern : Pattern) (block : ℕ) → length letters ≤ max_reach
    → block_count ≤ block → NoneBelow letters pattern block → (letter : Letter)
    → Contains letters letter → IsLike pattern letter → ⊥
none_all letters pattern block few enough none letter c like =
    let (place, at) = stands_at letters letter c in
    let within = slice_get_within letters place letter at in
    none place letter (omega (arith, within, few, enough)) at like
