-- Rates whose positions are first, last and follow each other alike.
use Rattle.std.proofs.Common.{◌≡◌, ◌⊎◌, ◌∙◌, ◌++◌, ℕ, ◌+◌, inl, inr, refl, sym, ap₂, subst}
use Rattle.std.proofs.Common.{⊎_elim, arith, append_assoc}
use Rattle.rate_expr.specs.FirstLastFollow.{AreSetsOf, IsFirst, IsFollowedBy, IsLast, IsNullable}
use Rattle.rate_expr.specs.Rates.{Regex, choice, sequence, star, preds_of, size_of}
use Rattle.rate_expr.specs.Sets.{Sets}

-- the sets of the first rate are in those of the second, wherever positions are numbered from
pub record AreWithin (r s : Regex) : Type 0 where
  pub nullable : IsNullable r → IsNullable s
  pub first : (base position : ℕ) → IsFirst r base position → IsFirst s base position
  pub last : (base position : ℕ) → IsLast r base position → IsLast s base position
  pub follow : (base before next : ℕ) → IsFollowedBy r base before next
      → IsFollowedBy s base before next
  pub size : size_of r ≡ size_of s

-- and the other way round, with the same predicates
pub record HaveSameSets (r s : Regex) : Type 0 where
  pub there : AreWithin r s
  pub back : AreWithin s r
  pub preds : preds_of r ≡ preds_of s

within_itself : (r : Regex) → AreWithin r r
within_itself r = record {
  nullable = λ is. is;
  first = λ base position is. is;
  last = λ base position is. is;
  follow = λ base before next is. is;
  size = refl;
}

within_twice : (r s t : Regex) → AreWithin r s → AreWithin s t → AreWithin r t
within_twice r s t a b = record {
  nullable = λ is. b.nullable (a.nullable is);
  first = λ base position is. b.first base position (a.first base position is);
  last = λ base position is. b.last base position (a.last base position is);
  follow = λ base before next is. b.follow base before next (a.follow base before next is);
  size = a.size ∙ b.size;
}

-- the positions of a second part come after those of the first
module _ (s s' : Regex) (b : AreWithin s s') (m n : ℕ) (same : m ≡ n) where
  later_first : (base position : ℕ) → IsFirst s (base + m) position
      → IsFirst s' (base + n) position
  later_first base position is =
      subst (λ size. IsFirst s' (base + size) position) same (b.first (base + m) position is)

  later_last : (base position : ℕ) → IsLast s (base + m) position → IsLast s' (base + n) position
  later_last base position is =
      subst (λ size. IsLast s' (base + size) position) same (b.last (base + m) position is)

  later_follow : (base before next : ℕ) → IsFollowedBy s (base + m) before next
      → IsFollowedBy s' (base + n) before next
  later_follow base before next is =
      subst (λ size. IsFollowedBy s' (base + size) before next) same
      (b.follow (base + m) before next is)

either : {A B C D : Type 0} → (A → C) → (B → D) → A ⊎ B → C ⊎ D
either left right = ⊎_elim (λ a. inl (left a)) (λ b. inr (right b))

sequence_within : (r r' s s' : Regex) → AreWithin r r' → AreWithin s s'
    → AreWithin (sequence r s) (sequence r' s')
sequence_within r r' s s' a b =
    let m = size_of r in
    let n = size_of r' in record {
      nullable = λ (one, other). (a.nullable one, b.nullable other);
      first = λ base position. either (a.first base position)
          (λ (none, is). (a.nullable none, later_first s s' b m n a.size base position is));
      last = λ base position. either
          (λ (is, none). (a.last base position is, b.nullable none))
          (later_last s s' b m n a.size base position);
      follow = λ base before next. either
          (either (a.follow base before next) (later_follow s s' b m n a.size base before next))
          (λ (one, other). (a.last base before one, later_first s s' b m n a.size base next other));
      size = ap₂ ◌+◌ a.size b.size;
    }

choice_within : (r r' s s' : Regex) → AreWithin r r' → AreWithin s s'
    → AreWithin (choice r s) (choice r' s')
choice_within r r' s s' a b =
    let m = size_of r in
    let n = size_of r' in record {
      nullable = either a.nullable b.nullable;
      first = λ base position. either (a.first base position)
          (later_first s s' b m n a.size base position);
      last = λ base position. either (a.last base position)
          (later_last s s' b m n a.size base position);
      follow = λ base before next. either (a.follow base before next)
          (later_follow s s' b m n a.size base before next);
      size = ap₂ ◌+◌ a.size b.size;
    }

star_within : (r r' : Regex) → AreWithin r r' → AreWithin (star r) (star r')
star_within r r' a = record {
  nullable = λ is. is;
  first = a.first;
  last = a.last;
  follow = λ base before next. either (a.follow base before next)
      (λ (one, other). (a.last base before one, a.first base next other));
  size = a.size;
}

-- three alternatives, grouped in two ways
right_first : {A B C C' : Type 0} → (C → C') → (A ⊎ B) ⊎ C → A ⊎ (B ⊎ C')
right_first moved (inl (inl a)) = inl a
right_first moved (inl (inr b)) = inr (inl b)
right_first moved (inr c) = inr (inr (moved c))

left_first : {A B C C' : Type 0} → (C → C') → A ⊎ (B ⊎ C) → (A ⊎ B) ⊎ C'
left_first moved (inl a) = inl (inl a)
left_first moved (inr (inl b)) = inl (inr b)
left_first moved (inr (inr c)) = inr (moved c)

module _ (r s t : Regex) where
  -- where the positions of the third begin
  third : (base : ℕ) → base + (size_of r + size_of s) ≡ base + size_of r + size_of s
  third base = omega arith

  turned_there : AreWithin (choice (choice r s) t) (choice r (choice s t))
  turned_there = record {
    nullable = right_first (λ is. is);
    first = λ base position. right_first (subst (λ at. IsFirst t at position) (third base));
    last = λ base position. right_first (subst (λ at. IsLast t at position) (third base));
    follow = λ base before next.
        right_first (subst (λ at. IsFollowedBy t at before next) (third base));
    size = omega arith;
  }

  turned_back : AreWithin (choice r (choice s t)) (choice (choice r s) t)
  turned_back = record {
    nullable = left_first (λ is. is);
    first = λ base position. left_first (subst (λ at. IsFirst t at position) (sym (third base)));
    last = λ base position. left_first (subst (λ at. IsLast t at position) (sym (third base)));
    follow = λ base before next.
        left_first (subst (λ at. IsFollowedBy t at before next) (sym (third base)));
    size = omega arith;
  }

  pub same_turned : HaveSameSets (choice (choice r s) t) (choice r (choice s t))
  same_turned = record {
    there = turned_there;
    back = turned_back;
    preds = append_assoc (preds_of r) (preds_of s) (preds_of t);
  }

pub same_itself : (r : Regex) → HaveSameSets r r
same_itself r = record { there = within_itself r; back = within_itself r; preds = refl }

pub same_twice : (r s t : Regex) → HaveSameSets r s → HaveSameSets s t → HaveSameSets r t
same_twice r s t a b = record {
  there = within_twice r s t a.there b.there;
  back = within_twice t s r b.back a.back;
  preds = a.preds ∙ b.preds;
}

module _ (r r' s s' : Regex) (a : HaveSameSets r r') (b : HaveSameSets s s') where
  pub same_sequence : HaveSameSets (sequence r s) (sequence r' s')
  same_sequence = record {
    there = sequence_within r r' s s' a.there b.there;
    back = sequence_within r' r s' s a.back b.back;
    preds = ap₂ ◌++◌ a.preds b.preds;
  }

  pub same_choice : HaveSameSets (choice r s) (choice r' s')
  same_choice = record {
    there = choice_within r r' s s' a.there b.there;
    back = choice_within r' r s' s a.back b.back;
    preds = ap₂ ◌++◌ a.preds b.preds;
  }

pub same_star : (r r' : Regex) → HaveSameSets r r' → HaveSameSets (star r) (star r')
same_star r r' a = record {
  there = star_within r r' a.there;
  back = star_within r' r a.back;
  preds = a.preds;
}

-- sets of the one rate are sets of the other
pub sets_of_both : (sets : Sets) (r s : Regex) → HaveSameSets r s → AreSetsOf sets s
    → AreSetsOf sets r
sets_of_both sets r s same are = record {
  nullable = (
    (λ is. same.back.nullable (are.nullable.0 is)),
    (λ is. are.nullable.1 (same.there.nullable is)),
  );
  first = λ position. (
    (λ is. same.back.first 0 position ((are.first position).0 is)),
    (λ is. (are.first position).1 (same.there.first 0 position is)),
  );
  last = λ position. (
    (λ is. same.back.last 0 position ((are.last position).0 is)),
    (λ is. (are.last position).1 (same.there.last 0 position is)),
  );
  follow = λ before next. (
    (λ is. same.back.follow 0 before next ((are.follow before next).0 is)),
    (λ is. (are.follow before next).1 (same.there.follow 0 before next is)),
  );
  preds = are.preds ∙ sym same.preds;
}
