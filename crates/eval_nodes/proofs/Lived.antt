-- What a node in memory says of its starts.
use Rattle.std.proofs.Common.{◌≡◌, ◌∙◌, ◌↔◌, ℕ, Bool, false, IsTrue, ap, refl, sym, subst}
use Rattle.std.specs.Prelude.{ℤ}
use Rattle.query_model.specs.Queries.{Qre, eps}
use Rattle.eval_nodes.specs.declared.node.State.{State}
use Rattle.eval_nodes.specs.Holdings.{Holding, atom_held}
use Rattle.eval_nodes.specs.Live.{live_of}
use Rattle.eval_nodes.specs.Plain.{holding_of, seen_of}
use Rattle.eval_nodes.specs.Starts.{IsLive}
use Rattle.eval_nodes.specs.Lives.{Lives}
use Rattle.eval_nodes.proofs.Living.{living}

pub lives_read : (q : Qre) (state : State) (start : ℕ) (live : Bool)
    → live ≡ live_of q (holding_of state) start → Lives seen_of q (holding_of state) start live
lives_read q state start live read = λ standing columns word starts clear is positions rep.
    subst (λ (b : Bool). IsTrue b ↔ IsLive columns q word starts start) (sym read)
    (living seen_of standing columns q (holding_of state) word starts start
    clear is positions rep)

-- what is read for the query of the operands
pub read_as : (q q' : Qre) (state : State) (start : ℕ) (live : Bool) → q' ≡ q
    → live ≡ live_of q (holding_of state) start → live ≡ live_of q' (holding_of state) start
read_as q q' state start live same read =
    read ∙ ap (λ (x : Qre). live_of x (holding_of state) start) (sym same)

-- nothing continues for the empty word
pub none_empty : {R : Type 0} (number : ℤ) (holding : Holding R) (start : ℕ)
    → false ≡ live_of (eps number) holding start
none_empty number (atom_held found) start = refl
none_empty number holding start = refl
