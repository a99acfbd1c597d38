use Rattle.std.proofs.Common.{◌≡◌, ◌++◌, take, drop, length, ap, arith}
use Rattle.std.proofs.lemmas.Grind.{common_steps}
use Rattle.std.specs.List.{Contains}
use Rattle.symbolic_nfa.proofs.Meeting.{met-added, met-all, kept_decided}
use Rattle.symbolic_nfa.proofs.met_positions.met_by_cells.Goals as goal

pub mask-meeting-requires : goal.mask-meeting-requires
mask-meeting-requires c =
    kept_decided (λ pred. Contains c.args.cells.now.preds pred) _ _ _ _ c.preds-preds.ensures.listed
    c.preds-preds.ensures.shared c.requires (rw c.distinct-in-places.ensures at c.get.ensures)

pub places-preserved : goal.places-preserved
places-preserved c =
    let vec = c.places.met in
    let masks = c.add.new.masks in
    let whole : take vec.len (masks ++ drop (length masks) vec.items) ≡ masks =
    grind (arith, common_steps) in
    rw whole (met-added _ _ _ _ _ _ _ _ _ c.preds-preds.ensures.listed c.places.invariant
    (rw c.distinct-in-places.ensures at c.get.ensures) c.positions_of.ensures
    c.mask-meeting.ensures.met
    (rw (← c.deref_mut.ensures.value) c.add.ensures))

pub returns-clause-met : goal.returns-clause-met
returns-clause-met c =
    met-all _ _ _ _ _ c.preds-preds.ensures.listed c.preds-preds.ensures.shared c.places.invariant
    (omega (arith, c.len-place-end.ensures, ap length c.distinct.ensures))
