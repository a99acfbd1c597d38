-- For the prover. The sets of a rate, put together from those of its parts.
use Rattle.std.specs.Prelude.{◌+◌, ◌^◌, ◌==◌, ◌&&◌, ◌||◌, ℕ, Bool, true, false, if◌then◌else◌, List}
use Rattle.std.specs.Prelude.{[], ◌∷◌, ◌++◌, bit_or, length}
use Rattle.std.specs.Int.{bit_at}
use Rattle.rate_expr.specs.declared.part.Part.{Part}
use Rattle.rate_expr.specs.Rates.{Regex, empty, one, sequence, choice, star, size_of}

-- the mask, with the positions of another if the test holds
abbrev pub with_if : ℕ → Bool → ℕ → ℕ
with_if mask test other = if test then bit_or mask other else mask

-- the empty word alone
abbrev pub of_empty : Part
of_empty = record { nullable = true; first = 0; last = 0 }

-- one item at a position
abbrev pub of_one : ℕ → Part
of_one position = record { nullable = false; first = 2 ^ position; last = 2 ^ position }

-- a word of the first and then one of the second
abbrev pub of_sequence : Part → Part → Part
of_sequence a b = record {
  nullable = a.nullable && b.nullable;
  first = with_if a.first a.nullable b.first;
  last = with_if b.last b.nullable a.last;
}

-- a word of either
abbrev pub of_choice : Part → Part → Part
of_choice a b = record {
  nullable = a.nullable || b.nullable;
  first = bit_or a.first b.first;
  last = bit_or a.last b.last;
}

-- words one after the other
abbrev pub of_star : Part → Part
of_star a = record { nullable = true; first = a.first; last = a.last }

-- where words of the rate begin and end, with its positions numbered from `base` on
abbrev pub part_of : Regex → ℕ → Part
part_of empty base = of_empty
part_of (one pred) base = of_one base
part_of (sequence first second) base =
    of_sequence (part_of first base) (part_of second (base + size_of first))
part_of (choice first second) base =
    of_choice (part_of first base) (part_of second (base + size_of first))
part_of (star inner) base = of_star (part_of inner base)

-- the follow mask of a position, with the positions of `to` added if the position is in `from`
abbrev pub linked : ℕ → ℕ → ℕ → ℕ → ℕ
linked from to position mask = with_if mask (bit_at from position == 1) to

-- the same for the masks of all positions from `position` on
abbrev pub all_linked : ℕ → ℕ → ℕ → List ℕ → List ℕ
all_linked from to position [] = []
all_linked from to position (mask ∷ masks) =
    linked from to position mask ∷ all_linked from to (position + 1) masks

-- the follow masks of other positions, and after them those of the positions of the rate
abbrev pub follow_of : Regex → List ℕ → List ℕ
follow_of empty before = before
follow_of (one pred) before = before ++ 0 ∷ []
follow_of (sequence first second) before =
    let middle = length before + size_of first in
    all_linked (part_of first (length before)).last (part_of second middle).first 0
    (follow_of second (follow_of first before))
follow_of (choice first second) before = follow_of second (follow_of first before)
follow_of (star inner) before =
    let part = part_of inner (length before) in
    all_linked part.last part.first 0 (follow_of inner before)
