-- The masks of a rate have no positions but its own.
use Rattle.std.proofs.Common.{ℕ, ◌+◌, ◌^◌, ◌<◌, ◌≤◌, ◌==◌, Bool, true, false, List, [], ◌∷◌, ◌++◌}
use Rattle.std.proofs.Common.{length, arith}
use Rattle.std.proofs.lemmas.Nat.{or_lt, pow_pos, pow_below}
use Rattle.std.proofs.Math.Pow.{pow_mono}
use Rattle.std.specs.Int.{bit_at}
use Rattle.std.specs.List.{AllByRecursion}
use Rattle.rate_expr.specs.Parts.{with_if, part_of, all_linked, follow_of}
use Rattle.rate_expr.specs.Rates.{Regex, empty, one, sequence, choice, star, size_of, preds_of}
use Rattle.rate_expr.specs.Sets.{AreSets}
use Rattle.rate_expr.proofs.Follows.{length-follow_of}
use Rattle.rate_expr.proofs.Meetings.{length-preds_of}
use Rattle.rate_expr.proofs.SetsOf.{sets_of}

-- a mask with another stays below the same bound
pub with_if_below : (k mask : ℕ) (test : Bool) (other : ℕ) → mask < 2 ^ k → other < 2 ^ k
    → with_if mask test other < 2 ^ k
with_if_below k mask true other below also = or_lt k mask other below also
with_if_below k mask false other below also = below

-- a bound may be raised
pub raised : (mask j k : ℕ) → j ≤ k → mask < 2 ^ j → mask < 2 ^ k
raised mask j k le below = let higher : 2 ^ j ≤ 2 ^ k = pow_mono le in omega arith

-- words of the rate begin and end at its positions
part_below : (rate : Regex) (base k : ℕ) → base + size_of rate ≤ k
    → ((part_of rate base).first < 2 ^ k) × ((part_of rate base).last < 2 ^ k)
part_below empty base k le = (pow_pos k, pow_pos k)
part_below (one pred) base k le = let below = pow_below base k (omega arith) in (below, below)
part_below (sequence first second) base k le =
    let x = part_of first base in
    let y = part_of second (base + size_of first) in
    let left = part_below first base k (omega arith) in
    let right = part_below second (base + size_of first) k (omega arith) in (
      with_if_below k x.first x.nullable y.first left.0 right.0,
      with_if_below k y.last y.nullable x.last right.1 left.1,
    )
part_below (choice first second) base k le =
    let x = part_of first base in
    let y = part_of second (base + size_of first) in
    let left = part_below first base k (omega arith) in
    let right = part_below second (base + size_of first) k (omega arith) in
    (or_lt k x.first y.first left.0 right.0, or_lt k x.last y.last left.1 right.1)
part_below (star inner) base k le = part_below inner base k le

-- linked ones too
pub linked_below : (from to at k : ℕ) (masks : List ℕ)
    → to < 2 ^ k → AllByRecursion (λ mask. mask < 2 ^ k) masks
    → AllByRecursion (λ mask. mask < 2 ^ k) (all_linked from to at masks)
linked_below from to at k [] below all = tt
linked_below from to at k (mask ∷ masks) below (first, all) = (
  with_if_below k mask (bit_at from at == 1) to first below,
  linked_below from to (at + 1) k masks below all,
)

-- and one more after them
more_below : (k : ℕ) (masks : List ℕ) (mask : ℕ)
    → mask < 2 ^ k → AllByRecursion (λ mask. mask < 2 ^ k) masks
    → AllByRecursion (λ mask. mask < 2 ^ k) (masks ++ mask ∷ [])
more_below k [] mask below all = (below, tt)
more_below k (first ∷ masks) mask below (at, all) = (at, more_below k masks mask below all)

-- words of the rate continue at its positions
follow_below : (rate : Regex) (before : List ℕ) (k : ℕ)
    → length before + size_of rate ≤ k → AllByRecursion (λ mask. mask < 2 ^ k) before
    → AllByRecursion (λ mask. mask < 2 ^ k) (follow_of rate before)
follow_below empty before k le all = all
follow_below (one pred) before k le all = more_below k before 0 (pow_pos k) all
follow_below (sequence first second) before k le all =
    let middle = length before + size_of first in
    let long = length-follow_of first before in
    linked_below (part_of first (length before)).last (part_of second middle).first 0 k
    (follow_of second (follow_of first before)) (part_below second middle k (omega arith)).0
    (follow_below second (follow_of first before) k (omega arith)
    (follow_below first before k (omega arith) all))
follow_below (choice first second) before k le all =
    let long = length-follow_of first before in
    follow_below second (follow_of first before) k (omega arith)
    (follow_below first before k (omega arith) all)
follow_below (star inner) before k le all =
    linked_below (part_of inner (length before)).last (part_of inner (length before)).first 0 k
    (follow_of inner before) (part_below inner (length before) k le).0
    (follow_below inner before k le all)

-- the sets of a rate with at most 128 positions
pub are_sets : (rate : Regex) → size_of rate ≤ 128 → AreSets (sets_of rate)
are_sets rate few =
    let long = length-preds_of rate in
    let ends = part_below rate 0 (length (preds_of rate)) (omega arith) in
    record {
      few = omega arith;
      each = let masks = length-follow_of rate [] in omega arith;
      first = ends.0;
      last = ends.1;
      follow = follow_below rate [] (length (preds_of rate)) (omega arith) tt;
    }
