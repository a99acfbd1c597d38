-- What follows from answers of tests and of calls.
use Rattle.std.proofs.Common.{◌≡◌, Bool, true, false, Result, Ok, Err, IfOk, IfErr}
use Rattle.std.specs.Prelude.{MatchBool}

pub answered_true : (b : Bool) (P Q : Type 0) → b ≡ true → MatchBool b P Q → P
answered_true true P Q is holds = holds
answered_true false P Q is holds = absurd (cc)

pub answered_false : (b : Bool) (P Q : Type 0) → b ≡ false → MatchBool b P Q → Q
answered_false true P Q is holds = absurd (cc)
answered_false false P Q is holds = holds

-- what follows from what an answer gives
pub answered_ok : {T E : Type 0} (r : Result T E) (P Q : T → Type 0) → IfOk r P
    → ((x : T) → P x → Q x) → IfOk r Q
answered_ok (Ok x) P Q given then = then x given
answered_ok (Err e) P Q given then = tt

pub answered_err : {T E : Type 0} (r : Result T E) (P Q : E → Type 0) → IfErr r P
    → ((e : E) → P e → Q e) → IfErr r Q
answered_err (Ok x) P Q given then = tt
answered_err (Err e) P Q given then = then e given
