-- Positions that letters can lack, one after the other and all together.
use Rattle.std.proofs.Common.{◌≡◌, ℕ, zero, suc, ◌++◌, [], ◌∷◌, ◌+◌, ◌∙◌, arith, get_or}
use Rattle.std.proofs.Common.{length, ◌<◌, List, bit_or, ap, subst, inl, inr}
use Rattle.std.proofs.lemmas.Bool.{cases_lt}
use Rattle.std.proofs.lemmas.List.{get_or_default}
use Rattle.std.proofs.lemmas.List.Elements.{All-append}
use Rattle.std.specs.List.{All, Contains}
use Rattle.rate_expr.proofs.MaskMembers.{has_first, has_or, has_second, has_zero}
use Rattle.rate_equal.specs.Free.{AreAllFree, AreFree, CanLack, HasOther, IsWithout}
use Rattle.rate_equal.specs.Patterns.{HasAt, positions_of}
use Rattle.rate_equal.specs.declared.letters.Letter.{Letter}
use Rattle.rate_equal.specs.declared.pattern.Position.{Position}
use Rattle.rate_equal.specs.declared.pattern.Position.TheVariants.{First, Second}

-- no positions are free
pub none_free : (letters : List Letter) → AreFree letters (0, 0)
none_free letters = record {
  each = λ letter c. record { other = letter; is_letter = c; without = same letter };
}
  where
    same : (letter : Letter) → IsWithout (0, 0) letter letter
    same letter (First position) =
        (λ has. (has, λ zero. has_zero position zero), λ (has, none). has)
    same letter (Second position) =
        (λ has. (has, λ zero. has_zero position zero), λ (has, none). has)

-- two sets of free positions are free together
pub both_free : (letters : List Letter) (one other : ℕ × ℕ) → AreFree letters one
    → AreFree letters other → AreFree letters (bit_or one.0 other.0, bit_or one.1 other.1)
both_free letters one other free free' = record {
  each = λ letter c.
      let mid = free.each letter c in
      let last = free'.each mid.other mid.is_letter in record {
        other = last.other;
        is_letter = last.is_letter;
        without = both letter last.other mid.other mid.without last.without;
      };
}
  where
    both : (letter last mid : Letter) → IsWithout one letter mid → IsWithout other mid last
        → IsWithout (bit_or one.0 other.0, bit_or one.1 other.1) letter last
    both letter last mid without without' (First position) = (
      λ has.
          let (in_mid, none') = (without' (First position)).0 has in
          let (there, none) = (without (First position)).0 in_mid in (
            there,
            λ either. elim (has_or one.0 other.0 position either) [
              | inl gone ↦ none gone
              | inr gone ↦ none' gone
            ],
          ),
      λ (there, none). (without' (First position)).1 (
        (without (First position)).1 (there, λ gone. none (has_first one.0 other.0 position gone)),
        λ gone. none (has_second one.0 other.0 position gone),
      ),
    )
    both letter last mid without without' (Second position) = (
      λ has.
          let (in_mid, none') = (without' (Second position)).0 has in
          let (there, none) = (without (Second position)).0 in_mid in (
            there,
            λ either. elim (has_or one.1 other.1 position either) [
              | inl gone ↦ none gone
              | inr gone ↦ none' gone
            ],
          ),
      λ (there, none). (without' (Second position)).1 (
        (without (Second position)).1 (there, λ gone. none (has_first one.1 other.1 position gone)),
        λ gone. none (has_second one.1 other.1 position gone),
      ),
    )

-- a letter that has none of the positions is itself without them
pub apart_other : (letters : List Letter) (letter : Letter) (gone : ℕ × ℕ) → Contains letters letter
    → ((position : Position) → HasAt gone position → HasAt (positions_of letter) position → ⊥)
    → HasOther letters gone letter
apart_other letters letter gone c apart = record {
  other = letter;
  is_letter = c;
  without = λ position. (λ has. (has, λ on. apart position on has), λ (has, none). has);
}

-- one letter more that can lack them
pub others_next : (letters : List Letter) (gone : ℕ × ℕ) (at : ℕ) (e : Letter)
    → ((k : ℕ) (d : Letter) → k < at → HasOther letters gone (get_or letters k d))
    → at < length letters → HasOther letters gone (get_or letters at e)
    → (k : ℕ) (d : Letter) → k < at + 1 → HasOther letters gone (get_or letters k d)
others_next letters gone at e before within one k d lt = elim (cases_lt k at) [
  | inl less ↦ before k d less
  | inr most ↦
      let here : at ≡ k = omega (arith, lt, most) in
      subst (HasOther letters gone)
      (get_or_default letters at e d within ∙ ap (λ (p : ℕ). get_or letters p d) here) one
]

-- free positions that have all that is to be lacked and none of the ways
pub free_lack : (letters : List Letter) (free lost ways : ℕ × ℕ) → AreFree letters free
    → ((position : Position) → HasAt lost position → HasAt free position)
    → ((position : Position) → HasAt free position → HasAt ways position → ⊥)
    → CanLack letters lost ways
free_lack letters free lost ways are wider apart letter c =
    let there = are.each letter c in (
      there.other,
      there.is_letter,
      (λ position on. (
        λ has. (there.without position).1 (has, λ gone. apart position gone on),
        λ has. ((there.without position).0 has).0,
      )),
      λ position gone has. ((there.without position).0 has).1 (wider position gone),
    )

-- free positions after others
pub free_pushed : (letters : List Letter) (free : List (ℕ × ℕ)) (more : ℕ × ℕ)
    → AreAllFree letters free → AreFree letters more → AreAllFree letters (free ++ more ∷ [])
free_pushed letters free more all one = All-append (AreFree letters) free (more ∷ []) all alone
  where
    alone : All (AreFree letters) (more ∷ [])
    alone zero d lt = one
    alone (suc k) d lt = absurd (omega (arith, lt))
