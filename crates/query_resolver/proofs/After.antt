-- What holds of the value after two steps.
use Rattle.std.proofs.Common.{◌≡◌, Result, Ok, Err, IfOk, subst}
use Rattle.query_resolver.specs.Steps.{◌>>=◌}

-- where it holds after each value of the first step
pub after_any : {A B E : Type 0} (P : B → Type 0) (first : Result A E) (next : A → Result B E)
    → ((value : A) → IfOk (next value) P) → IfOk (first >>= next) P
after_any P (Ok value) next each = each value
after_any P (Err why) next each = tt

-- where it holds after each value of the first step of which it holds
pub after : {A E : Type 0} (P : A → Type 0) (first : Result A E) (next : A → Result A E)
    → IfOk first P → ((value : A) → P value → IfOk (next value) P) → IfOk (first >>= next) P
after P (Ok value) next holds each = each value holds
after P (Err why) next holds each = tt

-- where it holds after each value of the first step of which something else holds
pub after_such : {A B E : Type 0} (P : A → Type 0) (Q : B → Type 0) (first : Result A E)
    (next : A → Result B E) → IfOk first P → ((value : A) → P value → IfOk (next value) Q)
    → IfOk (first >>= next) Q
after_such P Q (Ok value) next holds each = each value holds
after_such P Q (Err why) next holds each = tt

-- it holds of a value that is there
pub of_value : {A E : Type 0} (P : A → Type 0) (found : Result A E) (value : A)
    → found ≡ Ok value → IfOk found P → P value
of_value {A} {E} P found value is holds = subst (λ (r : Result A E). IfOk r P) is holds
