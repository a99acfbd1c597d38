-- A copy of a node, as one for the query that was asked for.
use Rattle.std.proofs.Common.{◌≡◌, Result, Ok, Err, sym, subst}
use Rattle.std.specs.Prelude.{IfOk}
use Rattle.std.specs.declared.alloc.AllocError.{AllocError}
use Rattle.query_model.specs.Queries.{Qre}
use Rattle.eval_nodes.specs.declared.node.Node.{Node}
use Rattle.eval_nodes.specs.declared.progress.Progress.{Progress}
use Rattle.eval_nodes.specs.Copies.{IsCopy}
use Rattle.eval_nodes.specs.Holdings.{Holding}
use Rattle.eval_nodes.specs.Plain.{holding_of, seen_of}

pub copied_for : (q q' : Qre) (old : Holding Progress) (P : Node → Type 0)
    → ((copy : Node) → P copy → IsCopy seen_of q old (holding_of copy.state)) → q' ≡ q
    → (result : Result Node AllocError) → IfOk result P
    → IfOk result (λ copy. IsCopy seen_of q' old (holding_of copy.state))
copied_for q q' old P each same (Ok copy) is =
    subst (λ (x : Qre). IsCopy seen_of x old (holding_of copy.state)) (sym same) (each copy is)
copied_for q q' old P each same (Err e) is = tt
