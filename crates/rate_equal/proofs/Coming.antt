-- Which pairs are due at which places: where letters lead, and what known targets have in common
-- with the ways.
use Rattle.std.proofs.Common.{◌≡◌, ℕ, ◌+◌, ◌*◌, ◌/◌, ◌%◌, ◌^◌, ◌<◌, ◌≤◌, ◌∙◌, ◌↔◌, ◌⊎◌, List, None}
use Rattle.std.proofs.Common.{Some, bit_and, get_or, length, slice_get, slice_index, ap, arith}
use Rattle.std.proofs.Common.{refl, sym, subst, inl, inr}
use Rattle.std.proofs.lemmas.Option.{none-some, same_Some, slice_get-get_or, slice_get_within}
use Rattle.std.specs.Int.{bit_not, w128}
use Rattle.std.specs.List.{Contains}
use Rattle.rate_expr.specs.Sets.{Has, IsLowest}
use Rattle.rate_expr.specs.declared.state.State.TheVariants.{Initial}
use Rattle.rate_expr.proofs.MaskSets.{has-and}
use Rattle.rate_equal.specs.Added.{AreAdded, HasPair}
use Rattle.rate_equal.specs.Narrowed.{AreStatesWithin, narrowed}
use Rattle.rate_equal.specs.PlaceSets.{AddsBlock, HasPlace, IsIn}
use Rattle.rate_equal.specs.Reach.{max_reach}
use Rattle.rate_equal.specs.Targets.{AreAlong, HasThose, IsTarget, target}
use Rattle.rate_equal.specs.declared.letters.Letter.{Letter}
use Rattle.rate_equal.specs.declared.pair.Pair.{Pair}
use Rattle.rate_equal.proofs.Added.{added_more, added_none, contains_found, found_before}
use Rattle.rate_equal.proofs.Added.{found_grown, grown_none, length_grown, pair_kept}
use Rattle.rate_equal.proofs.Narrowed.{HasWithin, is_target_within, narrowed_within}
use Rattle.rate_equal.proofs.PlaceSets.{bit_place, has-without, with-or-without}
use Rattle.rate_equal.proofs.Stepping.{IsOnTheWay, way_block, way_low, way_next}

-- the letter at one of the places leads to the pair
abbrev pub Comes : List Letter → ℕ × ℕ → (ℕ → Type 0) → ℕ → Pair → Type 0
Comes letters ways at place pair =
    (letter : Letter) × at place × (slice_get letters place ≡ Some letter)
    × (target ways letter ≡ pair)

-- some letter leads to what the pair at one of the places has in common with the ways
abbrev pub Narrows : List Letter → ℕ × ℕ → List Pair → (ℕ → Type 0) → ℕ → Pair → Type 0
Narrows letters ways old at place pair = (to : Pair) × at place × (slice_get old place ≡ Some to)
    × (narrowed ways to ≡ pair) × IsTarget letters ways pair

-- a place of a set is in the mask of its block
pub is_in : (places : List ℕ) (block mask place : ℕ) → mask ≡ slice_index places block
    → HasPlace places place → place / 128 ≡ block → IsIn block mask place
is_in places block mask place is has here = (
  here,
  subst (λ (m : ℕ). Has m (place % 128))
      (ap (λ (i : ℕ). slice_index places i) here ∙ sym is) has.bit,
)

-- where the letter at a place leads, a letter leads
pub is_target : (letters : List Letter) (ways : ℕ × ℕ) (letter : Letter) (place : ℕ)
    → slice_get letters place ≡ Some letter → (pair : Pair) → target ways letter ≡ pair
    → IsTarget letters ways pair
is_target letters ways letter place found pair same =
    (letter, contains_found letters place letter found, same)

-- something stands below the end of a list
pub none_below : (pairs : List Pair) (place : ℕ) → place < length pairs
    → slice_get pairs place ≡ None → ⊥
none_below pairs place within none =
    let nowhere : Pair = record { first = Initial; second = Initial } in
    none-some (get_or pairs place nowhere) (sym none ∙ slice_get-get_or pairs place nowhere within)

module _ (letters : List Letter) (ways : ℕ × ℕ) (old : List Pair) (held : List ℕ) where
  -- the pairs that are due were added along the ways, but for those that are still to come
  abbrev pub IsAlong : (ℕ → Pair → Type 0) → (ℕ → Type 0) → List Pair → List ℕ → Type 0
  IsAlong due comes new places =
      IsOnTheWay (IsTarget letters ways) (AreStatesWithin ways) old held due comes new places

  -- the letter at the lowest bit that is left
  pub letter_next : (at : ℕ → Type 0) (block rest low after : ℕ) (letter : Letter)
      (mid new : List Pair) (between places : List ℕ)
      → IsAlong (Comes letters ways at) (IsIn block rest) mid between → IsLowest rest low
      → ((other : ℕ) → Has after other ↔ (Has rest other × (IsLowest rest other → ⊥)))
      → slice_get letters (block * 128 + low) ≡ Some letter
      → AreAdded (λ other. target ways letter ≡ other) (λ other. target ways letter ≡ other) mid
      between new places → HasPair new places (target ways letter)
      → IsAlong (Comes letters ways at) (IsIn block after) new places
  letter_next at block rest low after letter mid new between places before is exact
      found added there =
      way_low (IsTarget letters ways) (AreStatesWithin ways) old held (Comes letters ways at)
      (λ other. target ways letter ≡ other) (λ other. target ways letter ≡ other) mid
      new between places (is_target letters ways letter (block * 128 + low) found)
      (λ pair same. is_target_within letters ways pair
      (is_target letters ways letter (block * 128 + low) found pair same))
      added block rest low after before is exact
      (λ pair (other, on, found', leads). subst (λ q. HasPair new places q)
      (ap (λ (l : Letter). target ways l) (same_Some letter other (sym found ∙ found')) ∙ leads)
      there)

  -- no letter is there
  pub letter_none : (at : ℕ → Type 0) (block rest low after : ℕ) (mid : List Pair)
      (between : List ℕ) → IsAlong (Comes letters ways at) (IsIn block rest) mid between
      → length mid ≤ max_reach → IsLowest rest low
      → ((other : ℕ) → Has after other ↔ (Has rest other × (IsLowest rest other → ⊥)))
      → slice_get letters (block * 128 + low) ≡ None
      → IsAlong (Comes letters ways at) (IsIn block after) mid between
  letter_none at block rest low after mid between before few is exact none =
      way_low (IsTarget letters ways) (AreStatesWithin ways) old held (Comes letters ways at)
      (IsTarget letters ways) (AreStatesWithin ways) mid mid between between
      (λ pair of. of) (λ pair of. of)
      (added_none (IsTarget letters ways) (AreStatesWithin ways) mid between few) block rest low
      after before is exact
      (λ pair (other, on, found', leads). absurd (none-some other (sym none ∙ found')))

  -- the letters of one block more
  pub letters_next : (left : List ℕ) (block mask : ℕ) (mid new : List Pair)
      (between places : List ℕ)
      → IsAlong (Comes letters ways (HasPlace left)) (λ place. block ≤ place / 128) mid between
      → mask ≡ slice_index left block → AreAlong letters ways mid between new places
      → HasThose letters (IsIn block mask) ways new places
      → IsAlong (Comes letters ways (HasPlace left)) (λ place. block + 1 ≤ place / 128) new places
  letters_next left block mask mid new between places before is added whole =
      way_block (IsTarget letters ways) (AreStatesWithin ways) old held
      (Comes letters ways (HasPlace left)) (IsTarget letters ways) (AreStatesWithin ways) mid new
      between places (λ pair of. of) (λ pair of. of) added block before
      (λ place pair here (letter, has, found, leads). subst (λ q. HasPair new places q) leads
      (whole place letter (is_in left block mask place is has here) found))

  -- where a letter leads, and the letters that lead there
  pub look_next : (left left' : List ℕ) (start : List ℕ) (letter : Letter) (mid new : List Pair)
      (between places : List ℕ)
      → IsAlong (Comes letters ways (HasPlace start)) (HasPlace left) mid between
      → Contains letters letter
      → AreAdded (λ other. target ways letter ≡ other) (λ other. target ways letter ≡ other) mid
      between new places → HasPair new places (target ways letter)
      → ((place : ℕ) (other : Letter) → HasPlace left place → slice_get letters place ≡ Some other
      → HasPlace left' place ⊎ (target ways other ≡ target ways letter))
      → IsAlong (Comes letters ways (HasPlace start)) (HasPlace left') new places
  look_next left left' start letter mid new between places before of added there passes =
      way_next (IsTarget letters ways) (AreStatesWithin ways) old held
      (Comes letters ways (HasPlace start)) (λ other. target ways letter ≡ other)
      (λ other. target ways letter ≡ other) (HasPlace left) (HasPlace left')
      mid new between places before (λ pair same. (letter, of, same))
      (λ pair same. is_target_within letters ways pair (letter, of, same)) added
      (λ place pair (other, on, found, leads) waits. elim (passes place other waits found) [
        | inl still ↦ inl still
        | inr same ↦ inr (subst (λ q. HasPair new places q) (sym same ∙ leads) there)
      ])

  module _ (start left mid_places : List ℕ) (mid new : List Pair) (places : List ℕ)
      (before : IsAlong (Comes letters ways (HasPlace start)) (HasPlace left) mid mid_places)
      (added : AreAlong letters ways mid mid_places new places) where
    -- those that are left were added too
    pub along_all : AreAlong letters ways old held new places
    along_all = added_more (IsTarget letters ways) (AreStatesWithin ways) (IsTarget letters ways)
        (AreStatesWithin ways) old mid held mid_places before.added (λ pair of. of) (λ pair of. of)
        new places added

    -- so all are there
    pub those_all : HasThose letters (HasPlace left) ways new places
        → HasThose letters (HasPlace start) ways new places
    those_all those place letter at found =
        elim (before.done place (target ways letter) (letter, at, found, refl)) [
          | inl waits ↦ those place letter waits found
          | inr ready ↦ pair_kept (IsTarget letters ways) (AreStatesWithin ways) mid new
              mid_places places (target ways letter) added ready
        ]

  -- the pair at the lowest bit that is left, narrowed
  pub narrow_low : (at : ℕ → Type 0) (block rest low after : ℕ) (to : Pair) (mid new : List Pair)
      (between places : List ℕ)
      → IsAlong (Narrows letters ways old at) (IsIn block rest) mid between
      → IsLowest rest low
      → ((other : ℕ) → Has after other ↔ (Has rest other × (IsLowest rest other → ⊥)))
      → slice_get mid (block * 128 + low) ≡ Some to → block * 128 + low < length old
      → AreAlong letters ways mid between new places
      → (IsTarget letters ways (narrowed ways to) → HasPair new places (narrowed ways to))
      → IsAlong (Narrows letters ways old at) (IsIn block after) new places
  narrow_low at block rest low after to mid new between places before is exact found
      within added there =
      way_low (IsTarget letters ways) (AreStatesWithin ways) old held (Narrows letters ways old at)
      (IsTarget letters ways) (AreStatesWithin ways) mid new between places (λ pair of. of)
      (λ pair of. of) added block rest low after before is exact
      (λ pair (other, on, found', same, led).
      let was = found_before old mid (block * 128 + low) to before.added.grown within found in
      let one : narrowed ways to ≡ pair =
      ap (λ q. narrowed ways q) (same_Some to other (sym was ∙ found')) ∙ same in
      subst (λ q. HasPair new places q) one
      (there (subst (λ q. IsTarget letters ways q) (sym one) led)))

  -- pairs of a block are narrowed where they lose something, and others kept as they are
  module _ (near : List ℕ) (near_ways : ℕ × ℕ) (within : HasWithin old near near_ways)
      (block all losing : ℕ) (fits : all < 2 ^ 128) (fits_losing : losing < 2 ^ 128)
      (is : all ≡ slice_index near block) where
    -- the bits of those that are narrowed
    abbrev mask : ℕ
    mask = bit_and all losing

    -- and of those that are kept
    abbrev keep : ℕ
    keep = bit_and all (bit_not w128 losing)

    -- the place of a bit of the block
    there_at : (position : ℕ) → Has all position → HasPlace near (block * 128 + position)
    there_at position has = bit_place near block all position fits is has

    module _ (mid : List Pair) (between : List ℕ)
        (before : IsAlong (Narrows letters ways old (HasPlace near)) (λ place. block ≤ place / 128)
        mid between) where
      -- it is the place of a pair
      pub bit_within : (position : ℕ) → Has mask position → block * 128 + position < length mid
      bit_within position has =
          let (pair, found, on) =
          within (block * 128 + position) (there_at position (has-and all losing position has).0) in
          let lt = slice_get_within old (block * 128 + position) pair found in
          omega (arith, length_grown old mid before.added.grown)

      module _ (same : (position : ℕ) (pair : Pair) → Has all position → (Has losing position → ⊥)
          → slice_get old (block * 128 + position) ≡ Some pair → narrowed ways pair ≡ pair) where
        -- a pair of the block that is kept is within the ways
        kept_pair : (place : ℕ) → place / 128 ≡ block → Has keep (place % 128)
            → (pair : Pair) × (slice_get mid place ≡ Some pair) × (narrowed ways pair ≡ pair)
        kept_pair place here bit =
            let at : block * 128 + place % 128 ≡ place = omega arith in
            let (has, lost) = has-without all losing (place % 128) fits fits_losing bit in
            let (pair, found, on) = within (block * 128 + place % 128)
            (there_at (place % 128) has) in (
              pair,
              found_grown old mid place pair before.added.grown
                  (subst (λ (p : ℕ). slice_get old p ≡ Some pair) at found),
              same (place % 128) pair has lost found,
            )

        module _ (between' : List ℕ) (adds : AddsBlock between between' block keep) where
          -- those that are kept
          kept_added : AreAlong letters ways mid between mid between'
          kept_added = record {
            grown = grown_none mid;
            each = λ pair c. inl c;
            few = before.added.few;
            kept = λ place has. (adds place).1 (inl has);
            more = λ place has. elim ((adds place).0 has) [
              | inl was ↦ inl was
              | inr (here, bit) ↦
                  let (pair, found, one) = kept_pair place here bit in
                  inr (pair, found, subst (AreStatesWithin ways) one (narrowed_within ways pair))
            ];
          }

          module _ (new : List Pair) (places : List ℕ)
              (added : AreAlong letters ways mid between' new places)
              (whole : (place : ℕ) (pair : Pair) → IsIn block mask place
              → slice_get mid place ≡ Some pair → IsTarget letters ways (narrowed ways pair)
              → HasPair new places (narrowed ways pair)) where
            -- a pair of the block
            in_block : (place : ℕ) (to : Pair) → HasPlace near place → place / 128 ≡ block
                → slice_get old place ≡ Some to → IsTarget letters ways (narrowed ways to)
                → HasPair new places (narrowed ways to)
            in_block place to has here found led =
                let bit = (is_in near block all place is has here).1 in
                let in_mid = found_grown old mid place to before.added.grown found in
                elim (with-or-without all losing (place % 128) fits fits_losing bit) [
                  | inl lost ↦ whole place to (here, lost) in_mid led
                  | inr kept ↦
                      let (other, found', one) = kept_pair place here kept in
                      let alike : other ≡ to = same_Some other to (sym found' ∙ in_mid) in
                      pair_kept (IsTarget letters ways) (AreStatesWithin ways) mid
                      new between' places (narrowed ways to) added
                      (subst (λ q. HasPair mid between' (narrowed ways q)) alike (record {
                        place = place;
                        found = found' ∙ ap Some (sym one);
                        has = (adds place).1 (inr (here, kept));
                      }))
                ]

            -- one more block
            pub narrow_next : IsAlong (Narrows letters ways old (HasPlace near))
                (λ place. block + 1 ≤ place / 128) new places
            narrow_next = way_block (IsTarget letters ways) (AreStatesWithin ways) old held
                (Narrows letters ways old (HasPlace near)) (IsTarget letters ways)
                (AreStatesWithin ways) mid new between places (λ pair of. of) (λ pair of. of)
                (added_more (IsTarget letters ways) (AreStatesWithin ways) (IsTarget letters ways)
                (AreStatesWithin ways) mid mid between between' kept_added
                (λ pair of. of) (λ pair of. of) new places added)
                block before
                (λ place pair here (to, has, found, one, led). subst (λ q. HasPair new places q) one
                (in_block place to has here found
                (subst (λ q. IsTarget letters ways q) (sym one) led)))
