-- What is kept, as that of the query that was asked for.
use Rattle.std.proofs.Common.{◌≡◌, ◌∙◌, ◌-◌, ◌^◌, ℕ, ap, min, sym}
use Rattle.query_model.specs.Queries.{Qre}
use Rattle.eval_nodes.specs.declared.node.State.{State}
use Rattle.eval_nodes.specs.Counts.{stored_in}
use Rattle.eval_nodes.specs.Plain.{holding_of, seen_of}

pub stored_as : (q q' : Qre) (state : State) (size : ℕ) → q' ≡ q
    → size ≡ min (stored_in seen_of q (holding_of state)) (2 ^ 64 - 1)
    → size ≡ min (stored_in seen_of q' (holding_of state)) (2 ^ 64 - 1)
stored_as q q' state size same is =
    is ∙ ap (λ (x : Qre). min (stored_in seen_of x (holding_of state)) (2 ^ 64 - 1)) (sym same)
