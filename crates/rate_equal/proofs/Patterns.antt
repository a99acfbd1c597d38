-- What letters have in common by what they have of positions.
use Rattle.std.proofs.Common.{◌≡◌, ℕ, ◌^◌, ◌<◌, ◌≤◌, ◌↔◌, ◌⊎◌, List, bit_or, length}
use Rattle.std.proofs.Common.{ap, arith, rules, sym, subst, inl, inr}
use Rattle.std.proofs.lemmas.Bool.Decides.{eqb_tells}
use Rattle.std.specs.Int.{bit_at}
use Rattle.std.specs.List.{Contains}
use Rattle.rate_expr.specs.Sets.{Has, IsLowest}
use Rattle.rate_expr.specs.declared.state.State.TheVariants.{At}
use Rattle.rate_expr.proofs.MaskMembers.{has_first, has_one, has_only_one, has_or, has_second}
use Rattle.rate_expr.proofs.MaskSets.{has-below}
use Rattle.rate_equal.specs.Added.{AreAdded}
use Rattle.rate_equal.specs.Narrowed.{AreStatesWithin}
use Rattle.rate_equal.specs.Patterns.{Decide, HasAt, HaveSame, HaveSameAt, IsLike, IsRest}
use Rattle.rate_equal.specs.Patterns.{positions_of}
use Rattle.rate_equal.specs.Reach.{max_reach}
use Rattle.rate_equal.specs.Targets.{AreAlong, IsTarget, target}
use Rattle.rate_equal.specs.declared.pair.Pair.{Pair}
use Rattle.rate_equal.specs.declared.letters.Letter.{Letter}
use Rattle.rate_equal.specs.declared.pattern.Pattern.{Pattern}
use Rattle.rate_equal.specs.declared.pattern.Position.{Position}
use Rattle.rate_equal.specs.declared.pattern.Position.TheVariants.{First, Second}
use Rattle.rate_equal.proofs.Added.{added_more, added_none}
use Rattle.rate_equal.proofs.Narrowed.{is_target_within}
use Rattle.rate_equal.proofs.Holding.{low_or_left}
use Rattle.rate_equal.proofs.Lettering.{same_on}

-- the number of a position
abbrev place_of : Position → ℕ
place_of (First place) = place
place_of (Second place) = place

-- no position is of both automata
First-not-Second : (place other : ℕ) → First place ≡ Second other → ⊥
First-not-Second place other same = search rules

-- masks have a position or not
pub at_or_not : (masks : ℕ × ℕ) (position : Position)
    → HasAt masks position ⊎ (HasAt masks position → ⊥)
at_or_not masks (First position) = elim (eqb_tells (bit_at masks.0 position) 1) [
  | inl (test, one) ↦ inl one
  | inr (test, other) ↦ inr other
]
at_or_not masks (Second position) = elim (eqb_tells (bit_at masks.1 position) 1) [
  | inl (test, one) ↦ inl one
  | inr (test, other) ↦ inr other
]

-- the lowest position of the first mask, and the others
pub rest_first : (masks : ℕ × ℕ) (low after : ℕ) → masks.0 < 2 ^ 128 → IsLowest masks.0 low
    → ((other : ℕ) → Has after other ↔ (Has masks.0 other × (IsLowest masks.0 other → ⊥)))
    → after < masks.0 → IsRest masks (First low) (after, masks.1)
rest_first masks low after fits is exact smaller = record {
  fits = has-below masks.0 128 low fits is.has;
  each = each;
  smaller = omega (arith, smaller);
}
  where
    each : (other : Position) → HasAt masks other
        → (First low ≡ other) ⊎ HasAt (after, masks.1) other
    each (First position) has = elim (low_or_left masks.0 low after position is exact has) [
      | inl here ↦ inl (ap First (sym here))
      | inr left ↦ inr left
    ]
    each (Second position) has = inr has

-- that of the second
pub rest_second : (masks : ℕ × ℕ) (low after : ℕ) → masks.1 < 2 ^ 128 → IsLowest masks.1 low
    → ((other : ℕ) → Has after other ↔ (Has masks.1 other × (IsLowest masks.1 other → ⊥)))
    → after < masks.1 → IsRest masks (Second low) (masks.0, after)
rest_second masks low after fits is exact smaller = record {
  fits = has-below masks.1 128 low fits is.has;
  each = each;
  smaller = omega (arith, smaller);
}
  where
    each : (other : Position) → HasAt masks other
        → (Second low ≡ other) ⊎ HasAt (masks.0, after) other
    each (Second position) has = elim (low_or_left masks.1 low after position is exact has) [
      | inl here ↦ inl (ap Second (sym here))
      | inr left ↦ inr left
    ]
    each (First position) has = inr has

-- one more position of the first mask
pub with_first : (masks : ℕ × ℕ) (place : ℕ) (other : Position)
    → HasAt (bit_or masks.0 (2 ^ place), masks.1) other
    ↔ (HasAt masks other ⊎ (First place ≡ other))
with_first masks place (First position) = (
  λ has. elim (has_or masks.0 (2 ^ place) position has) [
    | inl was ↦ inl was
    | inr one ↦ inr (ap First (has_only_one place position one))
  ],
  λ either. elim either [
    | inl was ↦ has_first masks.0 (2 ^ place) position was
    | inr here ↦ has_second masks.0 (2 ^ place) position
        (subst (λ (p : ℕ). Has (2 ^ place) p) (ap (λ (p : Position). place_of p) here)
        (has_one place))
  ],
)
with_first masks place (Second position) = (
  λ has. inl has,
  λ either. elim either [
    | inl was ↦ was
    | inr here ↦ absurd (First-not-Second place position here)
  ],
)

-- and of the second
pub with_second : (masks : ℕ × ℕ) (place : ℕ) (other : Position)
    → HasAt (masks.0, bit_or masks.1 (2 ^ place)) other
    ↔ (HasAt masks other ⊎ (Second place ≡ other))
with_second masks place (Second position) = (
  λ has. elim (has_or masks.1 (2 ^ place) position has) [
    | inl was ↦ inl was
    | inr one ↦ inr (ap Second (has_only_one place position one))
  ],
  λ either. elim either [
    | inl was ↦ has_first masks.1 (2 ^ place) position was
    | inr here ↦ has_second masks.1 (2 ^ place) position
        (subst (λ (p : ℕ). Has (2 ^ place) p) (ap (λ (p : Position). place_of p) here)
        (has_one place))
  ],
)
with_second masks place (First position) = (
  λ has. inl has,
  λ either. elim either [
    | inl was ↦ was
    | inr here ↦ absurd (First-not-Second position place (sym here))
  ],
)

-- letters that have the same of all positions on the ways lead to the same pair
pub same_ways : (ways : ℕ × ℕ) (one other : Letter) → HaveSame ways one other
    → target ways one ≡ target ways other
same_ways ways one other same = λ j. record {
  first = ap At (same_on ways.0 one.first other.first (λ position on. same (First position) on)) j;
  second =
      ap At (same_on ways.1 one.second other.second (λ position on. same (Second position) on)) j;
}

-- two letters have the same at a position, or one has it alone
pub same_or_not : (position : Position) (one other : Letter)
    → HaveSameAt position one other ⊎ (HaveSameAt position one other → ⊥)
same_or_not position one other = elim (at_or_not (positions_of one) position) [
  | inl has ↦ elim (at_or_not (positions_of other) position) [
    | inl has' ↦ inl (λ is. has', λ is. has)
    | inr lacks' ↦ inr (λ same. lacks' (same.0 has))
  ]
  | inr lacks ↦ elim (at_or_not (positions_of other) position) [
    | inl has' ↦ inr (λ same. lacks (same.1 has'))
    | inr lacks' ↦ inl (λ is. absurd (lacks is), λ is. absurd (lacks' is))
  ]
]

-- two that differ there from one have the same
pub both_differ : (position : Position) (letter one other : Letter)
    → (HaveSameAt position letter one → ⊥) → (HaveSameAt position letter other → ⊥)
    → HaveSameAt position one other
both_differ position letter one other differ differ' = elim (same_or_not position one other) [
  | inl same ↦ same
  | inr apart ↦ elim (at_or_not (positions_of letter) position) [
    | inl has ↦ (
      λ is. absurd (differ (λ h. is, λ h. has)),
      λ is. absurd (differ' (λ h. is, λ h. has)),
    )
    | inr lacks ↦ elim (at_or_not (positions_of one) position) [
      | inr lacks' ↦ absurd (differ (λ is. absurd (lacks is), λ is. absurd (lacks' is)))
      | inl has ↦ elim (at_or_not (positions_of other) position) [
        | inr lacks' ↦ absurd (differ' (λ is. absurd (lacks is), λ is. absurd (lacks' is)))
        | inl has' ↦ (λ is. has', λ is. has)
      ]
    ]
  ]
]

module _ (pattern having lacking : Pattern) (position : Position) (letter : Letter)
    (has_it : (other : Letter)
    → IsLike having other ↔ (IsLike pattern other × HasAt (positions_of other) position))
    (lacks_it : (other : Letter) → IsLike lacking other
    ↔ (IsLike pattern other × (HasAt (positions_of other) position → ⊥))) where
  -- those of the letters of a pattern that are like one at a position, and the others
  abbrev Parts : Pattern → Pattern → Type 0
  Parts same apart = ((other : Letter)
      → IsLike same other ↔ (IsLike pattern other × HaveSameAt position letter other))
      × ((other : Letter)
      → IsLike apart other ↔ (IsLike pattern other × (HaveSameAt position letter other → ⊥)))

  pub parts_having : HasAt (positions_of letter) position → Parts having lacking
  parts_having has = (
    λ other. (
      λ like. let (is, there) = (has_it other).0 like in (is, (λ h. there, λ h. has)),
      λ (is, same). (has_it other).1 (is, same.0 has),
    ),
    λ other. (
      λ like. let (is, none) = (lacks_it other).0 like in (is, λ same. none (same.0 has)),
      λ (is, differ). (lacks_it other).1 (is, λ there. differ (λ h. there, λ h. has)),
    ),
  )

  pub parts_lacking : (HasAt (positions_of letter) position → ⊥) → Parts lacking having
  parts_lacking lacks = (
    λ other. (
      λ like. let (is, none) = (lacks_it other).0 like in
          (is, (λ h. absurd (lacks h), λ h. absurd (none h))),
      λ (is, same). (lacks_it other).1 (is, λ there. lacks (same.1 there)),
    ),
    λ other. (
      λ like. let (is, there) = (has_it other).0 like in (is, λ same. lacks (same.1 there)),
      λ (is, differ). (has_it other).1 (
        is,
        elim (at_or_not (positions_of other) position) [
          | inl there ↦ there
          | inr none ↦ absurd (differ (λ h. absurd (lacks h), λ h. absurd (none h)))
        ],
      ),
    ),
  )

module _ (letters : List Letter) (ways : ℕ × ℕ) (pattern : Pattern) (masks : ℕ × ℕ)
    (decide : Decide letters ways pattern masks) (position : Position) (rest : ℕ × ℕ)
    (is_rest : IsRest masks position rest) where
  -- of letters that have the same at the position the rest decides
  rest_decides : (part : Pattern) → ((letter : Letter) → IsLike part letter → IsLike pattern letter)
      → ((one other : Letter) → IsLike part one → IsLike part other → HaveSameAt position one other)
      → Decide letters ways part rest
  rest_decides part wider alike one other c c' like like' same =
      decide one other c c' (wider one like) (wider other like')
      (λ at on. elim (is_rest.each at on) [
        | inr more ↦ same at more
        | inl here ↦ subst (λ (p : Position). HaveSameAt p one other) here
            (alike one other like like')
      ])

  module _ (letter : Letter) (part : Pattern) where
    pub same_decides :
        ((other : Letter)
        → IsLike part other ↔ (IsLike pattern other × HaveSameAt position letter other))
        → Decide letters ways part rest
    same_decides exact =
        rest_decides part (λ other like. ((exact other).0 like).0) (λ one other like like'.
        let same = ((exact one).0 like).1 in
        let same' = ((exact other).0 like').1 in (λ h. same'.0 (same.1 h), λ h. same.0 (same'.1 h)))

    pub apart_decides :
        ((other : Letter)
        → IsLike part other ↔ (IsLike pattern other × (HaveSameAt position letter other → ⊥)))
        → Decide letters ways part rest
    apart_decides exact =
        rest_decides part (λ other like. ((exact other).0 like).0) (λ one other like like'.
        both_differ position letter one other ((exact one).0 like).1 ((exact other).0 like').1)

-- letters of a pattern of which nothing is to be asked lead to one pair
pub none_asked : (letters : List Letter) (ways : ℕ × ℕ) (pattern : Pattern) (masks : ℕ × ℕ)
    → Decide letters ways pattern masks → ((position : Position) → HasAt masks position → ⊥)
    → (one other : Letter) → Contains letters one → Contains letters other → IsLike pattern one
    → IsLike pattern other → target ways one ≡ target ways other
none_asked letters ways pattern masks decide none one other c c' like like' =
    decide one other c c' like like' (λ position on. absurd (none position on))

-- where a letter leads was added
pub target_added : (letters : List Letter) (ways : ℕ × ℕ) (letter : Letter) (old new : List Pair)
    (held places : List ℕ) → length old ≤ max_reach → Contains letters letter
    → AreAdded (λ other. target ways letter ≡ other) (λ other. target ways letter ≡ other)
    old held new places → AreAlong letters ways old held new places
target_added letters ways letter old new held places few c added =
    added_more (IsTarget letters ways) (AreStatesWithin ways) (λ other. target ways letter ≡ other)
    (λ other. target ways letter ≡ other) old old held held
    (added_none (IsTarget letters ways) (AreStatesWithin ways) old held few)
    (λ pair same. (letter, c, same))
    (λ pair same. is_target_within letters ways pair (letter, c, same)) new places added
