use Rattle.std.proofs.Common.{Some, ap, refl}
use Rattle.eval_nodes.specs.Holdings.{atom_held}
use Rattle.eval_nodes.specs.Plain.{holding_of}
use Rattle.eval_nodes.specs.declared.node.State.TheViews.{out-State, roll-State}
use Rattle.step_laws.proofs.Arms.{started_as}
use Rattle.step_laws.proofs.PlainArms.{atom_starts}
use Rattle.eval_tree.proofs.atom.start_atom.Goals as goal

pub returns : goal.returns
unfolding roll-State out-State denote.Hole.Carrier.roll denote.Hole.Carrier.out
returns c =
    let s = c.in-Atom in
    λ pred e. started_as _ _ _ _ (atom_held (Some c.args.at)) _ c.args.at _ _ refl
    (ap holding_of s.is) (rw s.is refl) refl (atom_starts pred e _ c.args.at)
