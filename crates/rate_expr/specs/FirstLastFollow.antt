-- Statement. The first, last and follow sets of a rate, as a textbook has them. The positions are
-- the predicates, numbered from left to right, so that in a sequence and in a choice those of the
-- second part come after those of the first.
use Rattle.std.specs.Prelude.{◌≡◌, ◌+◌, ◌⊎◌, ◌↔◌, ℕ, true}
use Rattle.rate_expr.specs.Paths.{Follows}
use Rattle.rate_expr.specs.Rates.{Regex, empty, one, sequence, choice, star, size_of, preds_of}
use Rattle.rate_expr.specs.Sets.{Sets, Has}

-- the empty word is a word of the rate
abbrev pub IsNullable : Regex → Type 0
IsNullable empty = Unit {0}
IsNullable (one pred) = ⊥
IsNullable (sequence first second) = IsNullable first × IsNullable second
IsNullable (choice first second) = IsNullable first ⊎ IsNullable second
IsNullable (star inner) = Unit {0}

-- words of the rate begin at the position, where its positions are numbered from `base` on
abbrev pub IsFirst : Regex → ℕ → ℕ → Type 0
IsFirst empty base position = ⊥
IsFirst (one pred) base position = base ≡ position
IsFirst (sequence first second) base position = IsFirst first base position
    ⊎ (IsNullable first × IsFirst second (base + size_of first) position)
IsFirst (choice first second) base position = IsFirst first base position
    ⊎ IsFirst second (base + size_of first) position
IsFirst (star inner) base position = IsFirst inner base position

-- words of the rate end at the position
abbrev pub IsLast : Regex → ℕ → ℕ → Type 0
IsLast empty base position = ⊥
IsLast (one pred) base position = base ≡ position
IsLast (sequence first second) base position = (IsLast first base position × IsNullable second)
    ⊎ IsLast second (base + size_of first) position
IsLast (choice first second) base position = IsLast first base position
    ⊎ IsLast second (base + size_of first) position
IsLast (star inner) base position = IsLast inner base position

-- in words of the rate, the position `next` may follow the position `before`
abbrev pub IsFollowedBy : Regex → ℕ → ℕ → ℕ → Type 0
IsFollowedBy empty base before next = ⊥
IsFollowedBy (one pred) base before next = ⊥
IsFollowedBy (sequence first second) base before next =
    (IsFollowedBy first base before next ⊎ IsFollowedBy second (base + size_of first) before next)
    ⊎ (IsLast first base before × IsFirst second (base + size_of first) next)
IsFollowedBy (choice first second) base before next =
    IsFollowedBy first base before next ⊎ IsFollowedBy second (base + size_of first) before next
IsFollowedBy (star inner) base before next = IsFollowedBy inner base before next
    ⊎ (IsLast inner base before × IsFirst inner base next)

-- the sets are those of the rate, where its positions are numbered from 0 on
pub record AreSetsOf (sets : Sets) (rate : Regex) : Type 0 where
  pub nullable : (sets.nullable ≡ true) ↔ IsNullable rate
  pub first : (position : ℕ) → Has sets.first position ↔ IsFirst rate 0 position
  pub last : (position : ℕ) → Has sets.last position ↔ IsLast rate 0 position
  pub follow : (before next : ℕ) → Follows sets before next ↔ IsFollowedBy rate 0 before next
  pub preds : sets.preds ≡ preds_of rate
