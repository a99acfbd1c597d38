-- What two tests that agree or differ say of their facts.
use Rattle.std.proofs.Common.{◌≡◌, ◌↔◌, Bool, true, false, not, refl}
use Rattle.std.proofs.Math.Bool.{beq}
use Rattle.std.specs.Prelude.{IsTrue, MatchBool}

-- tests that differ are of facts that do not agree, and others of facts that do
pub agree_or_not : {P Q : Type 0} (a b : Bool) → IsTrue a ↔ P → IsTrue b ↔ Q
    → MatchBool (not (beq a b)) (P ↔ Q → ⊥) (P ↔ Q)
agree_or_not true true p q = (λ x. q.0 refl, λ y. p.0 refl)
agree_or_not true false p q = λ same. let never = q.1 (same.0 (p.0 refl)) in absurd (cc)
agree_or_not false true p q = λ same. let never = p.1 (same.1 (q.0 refl)) in absurd (cc)
agree_or_not false false p q = (
  λ x. let never = p.1 x in absurd (cc),
  λ y. let never = q.1 y in absurd (cc),
)

-- so where the test says no, they agree
pub agree_if_not : (P Q : Type 0) (test : Bool) → MatchBool test P Q → test ≡ false → Q
agree_if_not P Q true either is = absurd (cc)
agree_if_not P Q false either is = either
