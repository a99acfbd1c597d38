-- The same query in a call, and results that are as good.
use Rattle.std.proofs.Common.{◌≡◌, Result, Ok, Err, ap, sym}
use Rattle.std.specs.Prelude.{IfOk}
use Rattle.query_model.specs.declared.query.Query.{Query}
use Rattle.query_model.specs.Queries.{plain_of}

-- what a reference leads to
pub same_query : (x y : Query) → x ≡ y → plain_of y.shape ≡ plain_of x.shape
same_query x y same = ap (λ (query : Query). plain_of query.shape) (sym same)

pub where_ok : {T E : Type 0} → (result : Result T E) (P Q : T → Type 0)
    → ((x : T) → P x → Q x) → IfOk result P → IfOk result Q
where_ok (Ok x) P Q each is = each x is
where_ok (Err e) P Q each is = tt
