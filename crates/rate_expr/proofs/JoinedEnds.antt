-- Where words of a rate begin and end, from where those of its parts do.
use Rattle.std.proofs.Common.{◌≡◌, ◌⊎◌, inl, inr, ℕ, ◌+◌, ◌^◌, ◌<◌, ◌≤◌, ◌↔◌, Bool, true, bit_or}
use Rattle.std.proofs.Common.{refl, subst}
use Rattle.rate_expr.specs.declared.part.Part.{Part}
use Rattle.rate_expr.specs.FirstLastFollow.{IsNullable, IsFirst, IsLast}
use Rattle.rate_expr.specs.Joined.{moved, part_moved}
use Rattle.rate_expr.specs.Parts.{with_if, of_choice, of_sequence, of_star}
use Rattle.rate_expr.specs.Rates.{Regex, sequence, choice, star, size_of}
use Rattle.rate_expr.specs.Sets.{Has}
use Rattle.rate_expr.proofs.MaskMembers.{has_or, has_first, has_second, has_kept, has_more}
use Rattle.rate_expr.proofs.MaskMembers.{has_no_more}
use Rattle.rate_expr.proofs.Moved.{IsMoved, is_moved}
use Rattle.rate_expr.proofs.Renumbered.{IsFrom, first_from, last_from}
use Rattle.rate_expr.proofs.Textbook.{test_either, test_both}

-- the part says where words of the rate begin and end, with its positions numbered from a number on
pub record AreEnds (base : ℕ) (part : Part) (rate : Regex) : Type 0 where
  pub nullable : (part.nullable ≡ true) ↔ IsNullable rate
  pub first : (n : ℕ) → Has part.first n ↔ IsFirst rate base n
  pub last : (n : ℕ) → Has part.last n ↔ IsLast rate base n

-- a mask that is moved has what is numbered higher by this much
has_from : (count mask other : ℕ) (Is : ℕ → ℕ → Type 0) → IsMoved count mask other
    → ((n : ℕ) → Has mask n ↔ Is 0 n) → ((m : ℕ) → Is count m ↔ IsFrom Is count m)
    → (m : ℕ) → Has other m ↔ Is count m
has_from count mask other Is is same higher m = (there, back)
  where
    there : Has other m → Is count m
    there has = let n = is.only m has in (higher m).1 (n.0, n.1, (same n.0).0 n.2)

    back : Is count m → Has other m
    back holds =
        let n = (higher m).0 holds in
        subst (λ (k : ℕ). Has other k) n.1 (is.each n.0 ((same n.0).1 n.2))

-- so do the ends of a part
pub ends_higher : (count long : ℕ) (part : Part) (rate : Regex) → part.first < 2 ^ long
    → part.last < 2 ^ long → count + long ≤ 128 → AreEnds 0 part rate
    → AreEnds count (part_moved count part) rate
ends_higher count long part rate first last few ends = record {
  nullable = ends.nullable;
  first = has_from count part.first (moved count part.first) (IsFirst rate)
      (is_moved count part.first long first few) ends.first (first_from rate count);
  last = has_from count part.last (moved count part.last) (IsLast rate)
      (is_moved count part.last long last few) ends.last (last_from rate count);
}

-- two masks together have what either has
has_either : (m n k : ℕ) (P Q : Type 0) → Has m k ↔ P → Has n k ↔ Q
    → Has (bit_or m n) k ↔ (P ⊎ Q)
has_either m n k P Q of_m of_n = (λ has. there (has_or m n k has), back)
  where
    there : Has m k ⊎ Has n k → P ⊎ Q
    there (inl has) = inl (of_m.0 has)
    there (inr has) = inr (of_n.0 has)

    back : P ⊎ Q → Has (bit_or m n) k
    back (inl holds) = has_first m n k (of_m.1 holds)
    back (inr holds) = has_second m n k (of_n.1 holds)

-- a mask with another under a test has what that has where the test holds
has_with : (m : ℕ) (test : Bool) (n k : ℕ) (P Q N : Type 0) → (test ≡ true) ↔ N
    → Has m k ↔ P → Has n k ↔ Q → Has (with_if m test n) k ↔ (P ⊎ (N × Q))
has_with m test n k P Q N decided of_m of_n = (λ has. there (has_no_more m test n k has), back)
  where
    there : Has m k ⊎ (test ≡ true) × Has n k → P ⊎ (N × Q)
    there (inl has) = inl (of_m.0 has)
    there (inr (holds, has)) = inr (decided.0 holds, of_n.0 has)

    back : P ⊎ (N × Q) → Has (with_if m test n) k
    back (inl holds) = has_kept m test n k (of_m.1 holds)
    back (inr (is, holds)) = has_more m test n k (decided.1 is) (of_n.1 holds)

-- the same said the other way round
turned : (X P Q N : Type 0) → X ↔ (P ⊎ (N × Q)) → X ↔ ((Q × N) ⊎ P)
turned X P Q N same = (λ x. there (same.0 x), λ holds. same.1 (back holds))
  where
    there : P ⊎ (N × Q) → (Q × N) ⊎ P
    there (inl p) = inr p
    there (inr (n, q)) = inl (q, n)

    back : (Q × N) ⊎ P → P ⊎ (N × Q)
    back (inl (q, n)) = inr (n, q)
    back (inr p) = inl p

pub choice_ends : (base : ℕ) (x y : Part) (r s : Regex) → AreEnds base x r
    → AreEnds (base + size_of r) y s → AreEnds base (of_choice x y) (choice r s)
choice_ends base x y r s one other = record {
  nullable =
      test_either x.nullable y.nullable (IsNullable r) (IsNullable s) one.nullable other.nullable;
  first = λ n. has_either x.first y.first n (IsFirst r base n) (IsFirst s (base + size_of r) n)
      (one.first n) (other.first n);
  last = λ n. has_either x.last y.last n (IsLast r base n) (IsLast s (base + size_of r) n)
      (one.last n) (other.last n);
}

pub sequence_ends : (base : ℕ) (x y : Part) (r s : Regex) → AreEnds base x r
    → AreEnds (base + size_of r) y s → AreEnds base (of_sequence x y) (sequence r s)
sequence_ends base x y r s one other = record {
  nullable =
      test_both x.nullable y.nullable (IsNullable r) (IsNullable s) one.nullable other.nullable;
  first = λ n. has_with x.first x.nullable y.first n
      (IsFirst r base n) (IsFirst s (base + size_of r) n) (IsNullable r)
      one.nullable (one.first n) (other.first n);
  last = λ n. turned (Has (with_if y.last y.nullable x.last) n)
      (IsLast s (base + size_of r) n) (IsLast r base n) (IsNullable s)
      (has_with y.last y.nullable x.last n
      (IsLast s (base + size_of r) n) (IsLast r base n) (IsNullable s)
      other.nullable (other.last n) (one.last n));
}

pub star_ends : (base : ℕ) (x : Part) (r : Regex) → AreEnds base x r
    → AreEnds base (of_star x) (star r)
star_ends base x r ends =
    record { nullable = (λ is. tt, λ is. refl); first = ends.first; last = ends.last }
