use Rattle.std.proofs.Common.{None, ap, refl}
use Rattle.query_model.specs.Queries.{atom}
use Rattle.eval_nodes.specs.declared.node.State.TheViews.{out-State, roll-State}
use Rattle.eval_nodes.specs.Holdings.{atom_held}
use Rattle.eval_nodes.specs.Plain.{holding_of, seen_of}
use Rattle.node_copies.proofs.Cleared.{cleared_as}
use Rattle.node_copies.proofs.Clearing.{clear_atom}
use Rattle.node_copies.proofs.empty_nodes.clear_atom.Goals as goal

pub returns-in-Atom : goal.returns-in-Atom
unfolding roll-State out-State denote.Hole.Carrier.roll denote.Hole.Carrier.out
returns-in-Atom c = λ pred e.
    let s = c.in-Atom in
    cleared_as (atom pred e) _ (atom_held s.found) _ (atom_held None) _ refl
    (ap holding_of s.is) (rw s.is refl) (clear_atom seen_of pred e s.found)
