-- Letters that stand for others with the same positions.
use Rattle.std.proofs.Common.{◌≡◌, ℕ, ◌+◌, ◌<◌, ◌≤◌, ◌&&◌, ◌∙◌, ◌↔◌, List, IsTrue, bit_and}
use Rattle.std.proofs.Common.{get_or, length, nat_eq, ap, arith, rules, sym, subst, inl, inr}
use Rattle.std.proofs.lemmas.Bool.{cases_lt}
use Rattle.std.proofs.lemmas.List.{get_or_default}
use Rattle.std.specs.List.{Contains}
use Rattle.rate_expr.specs.Sets.{Has}
use Rattle.rate_expr.proofs.MaskSets.{has-and}
use Rattle.rate_equal.specs.Added.{AreAdded}
use Rattle.rate_equal.specs.Free.{AreFree, IsMet, IsWithout}
use Rattle.rate_equal.specs.Patterns.{Decide, HasAt, IsLike}
use Rattle.rate_equal.specs.Reach.{max_reach}
use Rattle.rate_equal.specs.Targets.{AreAlong, IsTarget, target}
use Rattle.rate_equal.specs.declared.letters.Letter.{Letter}
use Rattle.rate_equal.specs.declared.pair.Pair.{Pair}
use Rattle.rate_equal.specs.declared.pattern.Pattern.{Pattern}
use Rattle.rate_equal.specs.declared.pattern.Position.{Position}
use Rattle.rate_equal.specs.declared.pattern.Position.TheVariants.{First, Second}
use Rattle.rate_equal.proofs.Patterns.{same_ways, target_added}

-- a letter stands for itself
pub met_itself : (letters : List Letter) (letter : Letter) → Contains letters letter
    → IsMet letters letter
met_itself letters letter c = record {
  other = letter;
  is_letter = c;
  same = λ position. (λ has. has, λ has. has);
}

-- the positions that are left of both masks are those of the letter without the others
pub left_of_both : (letter other : Letter) (gone : ℕ × ℕ)
    → ((position : ℕ) → Has other.first position
    ↔ (Has letter.first position × (Has gone.0 position → ⊥)))
    → ((position : ℕ) → Has other.second position
    ↔ (Has letter.second position × (Has gone.1 position → ⊥)))
    → IsWithout gone letter other
left_of_both letter other gone exact exact' (First position) = exact position
left_of_both letter other gone exact exact' (Second position) = exact' position

-- a letter without free positions stands for a letter too
pub met_without : (letters : List Letter) (gone : ℕ × ℕ) (letter other : Letter)
    → AreFree letters gone → IsMet letters letter → IsWithout gone letter other
    → IsMet letters other
met_without letters gone letter other free met without =
    let there = free.each met.other met.is_letter in record {
      other = there.other;
      is_letter = there.is_letter;
      same = λ position. (
        λ has.
            let (before, stays) = (without position).0 has in
            (there.without position).1 ((met.same position).0 before, stays),
        λ has.
            let (before, stays) = (there.without position).0 has in
            (without position).1 ((met.same position).1 before, stays),
      );
    }

module _ (letters : List Letter) (ways : ℕ × ℕ) (letter : Letter) (met : IsMet letters letter) where
  -- its target is that of the letter for which it stands
  pub met_target : target ways met.other ≡ target ways letter
  met_target = same_ways ways met.other letter
      (λ position on. ((met.same position).1, (met.same position).0))

  -- so it is the target of a letter
  pub met_is_target : (pair : Pair) → target ways letter ≡ pair → IsTarget letters ways pair
  met_is_target pair same = (met.other, met.is_letter, met_target ∙ same)

  -- where no position is asked, letters of the pattern have its target
  pub met_decides : (pattern : Pattern) (asked : ℕ × ℕ) → Decide letters ways pattern asked
      → IsLike pattern letter → ((position : Position) → HasAt asked position → ⊥)
      → (other : Letter) → Contains letters other → IsLike pattern other
      → target ways letter ≡ target ways other
  met_decides pattern asked decide like none other c like' =
      sym met_target ∙ decide met.other other met.is_letter c
      (record {
        has = λ position on. (met.same position).0 (like.has position on);
        lacks = λ position on there. like.lacks position on ((met.same position).1 there);
      })
      like' (λ position on. absurd (none position on))

  -- only the target of a letter was added
  pub met_added : (old new : List Pair) (held places : List ℕ) → length old ≤ max_reach
      → AreAdded (λ other. target ways letter ≡ other) (λ other. target ways letter ≡ other)
      old held new places
      → AreAlong letters ways old held new places
  met_added old new held places few added =
      target_added letters ways met.other old new held places few met.is_letter
      (subst (λ (p : Pair). AreAdded (λ other. p ≡ other) (λ other. p ≡ other)
      old held new places) (sym met_target) added)

-- letters are the same if all their parts are
pub same_letter : (one other : Letter) → IsTrue (nat_eq one.missed other.missed
    && (nat_eq one.first other.first && nat_eq one.second other.second)) → one ≡ other
same_letter one other is = search rules

-- of the positions that the letters before one have, those that it has too
pub common_next : (letters : List Letter) (at : ℕ) (common : ℕ × ℕ)
    → ((k : ℕ) (d : Letter) → k < at
    → ((position : ℕ) → Has common.0 position → Has (get_or letters k d).first position)
    × ((position : ℕ) → Has common.1 position → Has (get_or letters k d).second position))
    → (e : Letter) → (k : ℕ) (d : Letter) → at < length letters → k < at + 1
    → ((position : ℕ) → Has (bit_and common.0 (get_or letters at e).first) position
    → Has (get_or letters k d).first position)
    × ((position : ℕ) → Has (bit_and common.1 (get_or letters at e).second) position
    → Has (get_or letters k d).second position)
common_next letters at common before e k d within lt = elim (cases_lt k at) [
  | inl less ↦ (
    λ position has. (before k d less).0 position (has-and common.0 _ position has).0,
    λ position has. (before k d less).1 position (has-and common.1 _ position has).0,
  )
  | inr most ↦
      let here : at ≡ k = omega (arith, lt, most) in
      let same : get_or letters at e ≡ get_or letters k d =
      get_or_default letters at e d within ∙ ap (λ (p : ℕ). get_or letters p d) here in (
        λ position has. subst (λ (l : Letter). Has l.first position) same
            (has-and common.0 _ position has).1,
        λ position has. subst (λ (l : Letter). Has l.second position) same
            (has-and common.1 _ position has).1,
      )
]
