-- Where words begin and end: masks as the states' numbers.
use Rattle.std.proofs.Common.{◌≡◌, ◌⊎◌, inl, inr, ℕ, ◌+◌, ◌^◌, ◌&&◌, ◌||◌, ◌↔◌, Bool, true, bit_or}
use Rattle.std.proofs.Common.{refl, sym, ap, ◌∙◌}
use Rattle.rate_expr.specs.declared.part.Part.{Part}
use Rattle.rate_expr.specs.Parts as parts
use Rattle.rate_expr.specs.Parts.{part_of, with_if}
use Rattle.rate_expr.specs.Rates.{Regex, empty, one, sequence, choice, star, size_of}
use Rattle.rate_expr.specs.Sets.{Has}
use Rattle.rate_expr.proofs.Automata as automata
use Rattle.rate_expr.proofs.Automata.{Automaton, automaton_of}
use Rattle.rate_expr.proofs.MaskMembers.{has_zero, has_one, has_only_one, has_or, has_first}
use Rattle.rate_expr.proofs.MaskMembers.{has_second, has_kept, has_more, has_no_more}
use Rattle.rate_expr.proofs.Numbers.{either_number, number_of}

-- the mask has the numbers of these states, and no others
pub record AreIn (A : Type 0) (number : A → ℕ) (P : A → Type 0) (mask : ℕ) : Type 0 where
  pub each : (p : A) → P p → Has mask (number p)
  pub only : (n : ℕ) → Has mask n → (p : A) × (number p ≡ n) × P p

-- the part says where words of the automaton begin and end
pub record IsPart (a : Automaton) (number : a.State → ℕ) (part : Part) : Type 0 where
  pub nullable : part.nullable ≡ a.nullable
  pub first : AreIn a.State number a.First part.first
  pub last : AreIn a.State number a.Last part.last

-- the states of the first where words of a sequence begin, and those of the second after
-- the empty word
first_of_two : (a b : Automaton) (f : a.State → ℕ) (g : b.State → ℕ) (m n : ℕ) (test : Bool)
    → test ≡ a.nullable → AreIn a.State f a.First m → AreIn b.State g b.First n
    → AreIn (a.State ⊎ b.State) (either_number a.State b.State f g) (automata.of_sequence a b).First
    (with_if m test n)
first_of_two a b f g m n test same in_m in_n =
    record { each = each; only = λ k has. found k (has_no_more m test n k has) }
  where
    each : (p : a.State ⊎ b.State) → (automata.of_sequence a b).First p
        → Has (with_if m test n) (either_number a.State b.State f g p)
    each (inl p) first = has_kept m test n (f p) (in_m.each p first)
    each (inr q) (nullable, first) = has_more m test n (g q) (same ∙ nullable) (in_n.each q first)

    found : (k : ℕ) → Has m k ⊎ (test ≡ true) × Has n k → (p : a.State ⊎ b.State)
        × (either_number a.State b.State f g p ≡ k) × (automata.of_sequence a b).First p
    found k (inl has) = let p = in_m.only k has in (inl p.0, p.1, p.2)
    found k (inr (holds, has)) = let q = in_n.only k has in (inr q.0, q.1, (sym same ∙ holds, q.2))

-- the states of the second where words of a sequence end, and those of the first before
-- the empty word
last_of_two : (a b : Automaton) (f : a.State → ℕ) (g : b.State → ℕ) (m n : ℕ) (test : Bool)
    → test ≡ b.nullable → AreIn a.State f a.Last m → AreIn b.State g b.Last n
    → AreIn (a.State ⊎ b.State) (either_number a.State b.State f g) (automata.of_sequence a b).Last
    (with_if n test m)
last_of_two a b f g m n test same in_m in_n =
    record { each = each; only = λ k has. found k (has_no_more n test m k has) }
  where
    each : (p : a.State ⊎ b.State) → (automata.of_sequence a b).Last p
        → Has (with_if n test m) (either_number a.State b.State f g p)
    each (inl p) (last, nullable) = has_more n test m (f p) (same ∙ nullable) (in_m.each p last)
    each (inr q) last = has_kept n test m (g q) (in_n.each q last)

    found : (k : ℕ) → Has n k ⊎ (test ≡ true) × Has m k → (p : a.State ⊎ b.State)
        × (either_number a.State b.State f g p ≡ k) × (automata.of_sequence a b).Last p
    found k (inl has) = let q = in_n.only k has in (inr q.0, q.1, q.2)
    found k (inr (holds, has)) = let p = in_m.only k has in (inl p.0, p.1, (p.2, sym same ∙ holds))

-- states of either of two
in_either : (A B : Type 0) (f : A → ℕ) (g : B → ℕ) (P : A → Type 0) (Q : B → Type 0)
    (R : A ⊎ B → Type 0) (m n : ℕ) → ((p : A) → R (inl p) ↔ P p) → ((q : B) → R (inr q) ↔ Q q)
    → AreIn A f P m → AreIn B g Q n → AreIn (A ⊎ B) (either_number A B f g) R (bit_or m n)
in_either A B f g P Q R m n left right in_m in_n =
    record { each = each; only = λ k has. found k (has_or m n k has) }
  where
    each : (p : A ⊎ B) → R p → Has (bit_or m n) (either_number A B f g p)
    each (inl p) holds = has_first m n (f p) (in_m.each p ((left p).0 holds))
    each (inr q) holds = has_second m n (g q) (in_n.each q ((right q).0 holds))

    found : (k : ℕ) → Has m k ⊎ Has n k → (p : A ⊎ B) × (either_number A B f g p ≡ k) × R p
    found k (inl has) = let p = in_m.only k has in (inl p.0, p.1, (left p.0).1 p.2)
    found k (inr has) = let q = in_n.only k has in (inr q.0, q.1, (right q.0).1 q.2)

-- what is said is said
pub as_it_is : (P : Type 0) → P ↔ P
as_it_is P = (λ p. p, λ p. p)

-- a sequence of two parts
sequence_part : (a b : Automaton) (f : a.State → ℕ) (g : b.State → ℕ) (x y : Part)
    → IsPart a f x → IsPart b g y
    → IsPart (automata.of_sequence a b) (either_number a.State b.State f g) (parts.of_sequence x y)
sequence_part a b f g x y of_x of_y = record {
  nullable = ap (λ t. t && y.nullable) of_x.nullable ∙ ap (λ t. a.nullable && t) of_y.nullable;
  first = first_of_two a b f g x.first y.first x.nullable of_x.nullable of_x.first of_y.first;
  last = last_of_two a b f g x.last y.last y.nullable of_y.nullable of_x.last of_y.last;
}

-- a choice of two
choice_part : (a b : Automaton) (f : a.State → ℕ) (g : b.State → ℕ) (x y : Part)
    → IsPart a f x → IsPart b g y
    → IsPart (automata.of_choice a b) (either_number a.State b.State f g) (parts.of_choice x y)
choice_part a b f g x y of_x of_y = record {
  nullable = ap (λ t. t || y.nullable) of_x.nullable ∙ ap (λ t. a.nullable || t) of_y.nullable;
  first =
      in_either a.State b.State f g a.First b.First (automata.of_choice a b).First x.first y.first
      (λ p. as_it_is (a.First p)) (λ q. as_it_is (b.First q)) of_x.first of_y.first;
  last = in_either a.State b.State f g a.Last b.Last (automata.of_choice a b).Last x.last y.last
      (λ p. as_it_is (a.Last p)) (λ q. as_it_is (b.Last q)) of_x.last of_y.last;
}

-- one position
in_one : (position : ℕ) → AreIn (Unit {0}) (λ p. position) (λ p. Unit {0}) (2 ^ position)
in_one position = record {
  each = λ p holds. has_one position;
  only = λ n has. (tt, has_only_one position n has, tt);
}

-- none
in_none : (number : ⊥ → ℕ) → AreIn ⊥ number (λ p. ⊥) 0
in_none number = record { each = λ p holds. absurd p; only = λ n has. absurd (has_zero n has) }

-- the part of a rate is that of its automaton
pub is_part : (rate : Regex) (base : ℕ)
    → IsPart (automaton_of rate) (number_of rate base) (part_of rate base)
is_part empty base =
    record { nullable = refl; first = in_none (λ p. base); last = in_none (λ p. base) }
is_part (one pred) base = record { nullable = refl; first = in_one base; last = in_one base }
is_part (sequence first second) base =
    sequence_part (automaton_of first) (automaton_of second) (number_of first base)
    (number_of second (base + size_of first))
    (part_of first base) (part_of second (base + size_of first)) (is_part first base)
    (is_part second (base + size_of first))
is_part (choice first second) base =
    choice_part (automaton_of first) (automaton_of second) (number_of first base)
    (number_of second (base + size_of first))
    (part_of first base) (part_of second (base + size_of first)) (is_part first base)
    (is_part second (base + size_of first))
is_part (star inner) base =
    let is = is_part inner base in record { nullable = refl; first = is.first; last = is.last }
