-- What holds of a result where it is there.
use Rattle.std.proofs.Common.{Ok, Err}
use Rattle.std.specs.Prelude.{IfOk, Result}

pub where_ok : {T E : Type 0} → (result : Result T E) (P Q : T → Type 0)
    → ((x : T) → P x → Q x) → IfOk result P → IfOk result Q
where_ok (Ok x) P Q each is = each x is
where_ok (Err e) P Q each is = tt
