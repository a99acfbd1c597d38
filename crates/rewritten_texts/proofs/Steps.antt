-- What holds of the value after a step that did not stop.
use Rattle.std.proofs.Common.{◌≡◌, Bool, true, false, Option, None, Some, Result, Ok, Err, IfOk}
use Rattle.std.proofs.Common.{refl, subst}
use Rattle.language_base.specs.declared.refusal.Refusal.{Refusal}
use Rattle.language_base.specs.declared.rule.Rule.{Rule}
use Rattle.language_base.specs.declared.rule.Rule.TheVariants.{Name}
use Rattle.language_base.specs.declared.span.Span.{Span}
use Rattle.query_resolver.specs.Steps.{◌>>=◌, because, found, provided, unless}

module _ {A B : Type 0} (P : B → Type 0) where
  -- the step had a value
  pub after_step : (first : Result A Refusal) (next : A → Result B Refusal)
      → ((value : A) → first ≡ Ok value → IfOk (next value) P) → IfOk (first >>= next) P
  after_step (Ok value) next each = each value refl
  after_step (Err why) next each = tt

  -- what was looked for was found
  pub after_found : (span : Span) (one : Option A) (next : A → Result B Refusal)
      → ((value : A) → one ≡ Some value → IfOk (next value) P)
      → IfOk (found Name span one >>= next) P
  after_found span (Some value) next each = each value refl
  after_found span None next each = tt

module _ {B : Type 0} (P : B → Type 0) where
  -- the test was passed
  pub after_test : (rule : Rule) (span : Span) (passes : Bool) (next : Unit {0} → Result B Refusal)
      → (passes ≡ true → IfOk (next tt) P) → IfOk (provided rule span passes >>= next) P
  after_test rule span true next each = each refl
  after_test rule span false next each = tt

  -- there was no such place
  pub after_none : (rule : Rule) (place : Option Span) (next : Unit {0} → Result B Refusal)
      → (place ≡ None → IfOk (next tt) P) → IfOk (because rule (unless place) >>= next) P
  after_none rule None next each = each refl
  after_none rule (Some span) next each = tt

-- the same where no step follows
pub test_passed : (rule : Rule) (span : Span) (passes : Bool)
    → IfOk (provided rule span passes) (λ done. passes ≡ true)
test_passed rule span true = refl
test_passed rule span false = tt

pub none_there : (rule : Rule) (place : Option Span)
    → IfOk (because rule (unless place)) (λ done. place ≡ None)
none_there rule None = refl
none_there rule (Some span) = tt

-- of a step that had a value
pub of_step : {A : Type 0} (P : A → Type 0) (made : Result A Refusal) (value : A)
    → made ≡ Ok value → IfOk made P → P value
of_step {A} P made value is holds = subst (λ (r : Result A Refusal). IfOk r P) is holds

-- what follows from it
pub weaker : {A : Type 0} (made : Result A Refusal) (P Q : Type 0) → (P → Q)
    → IfOk made (λ value. P) → IfOk made (λ value. Q)
weaker (Ok value) P Q each holds = each holds
weaker (Err why) P Q each holds = tt

-- two facts of one value
pub both_hold : {A : Type 0} (made : Result A Refusal) (P Q : A → Type 0) → IfOk made P
    → IfOk made Q → IfOk made (λ value. P value × Q value)
both_hold (Ok value) P Q one other = (one, other)
both_hold (Err why) P Q one other = tt
