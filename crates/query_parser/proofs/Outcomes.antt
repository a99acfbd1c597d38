-- What the outcome of a call says, said otherwise.
use Rattle.std.specs.Prelude.{IfErr, Result, Ok, Err}

-- where it is an error
pub err_map : {A E : Type 0} (P Q : E → Type 0) → ((error : E) → P error → Q error)
    → (result : Result A E) → IfErr result P → IfErr result Q
err_map P Q more (Ok value) is = tt
err_map P Q more (Err error) is = more error is
