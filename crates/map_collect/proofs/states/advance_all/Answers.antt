use Rattle.std.proofs.Common.{◌<◌, ◌∙◌, length, refl, sym, ap, arith, slice_index_or}
use Rattle.predicate_cells.specs.Cells.{cell_of}
use Rattle.map_collect.specs.Tracks.{Advances}
use Rattle.map_collect.proofs.Advanced.{advanced_all, advanced_next, state_read, states_with}
use Rattle.map_collect.proofs.states.advance_all.Goals as goal

pub step-track-requires-clause-state : goal.step-track-requires-clause-state
step-track-requires-clause-state g c =
    state_read c.args.nfa.now.sets c.tracks.tracks c.tracks.track-index c.track-item.result
    c.tracks.invariant.1 (let below = c.tracks-test.true in omega (arith, below))

pub tracks-preserved : goal.tracks-preserved
tracks-preserved g c =
    let sets = c.args.nfa.now.sets in
    let item = c.args.item.now in
    let below : c.tracks.track-index < length c.tracks.tracks = omega (arith, c.tracks-test.true) in
    let old = slice_index_or c.tracks.tracks c.tracks.track-index c.track-item.result in
    let cell = sym (c.of-cell.ensures.cell ∙ ap (λ cells. cell_of cells item) c.cells.ensures) in
    let steps : Advances sets item old
    (record { start = old.start; state = c.step-track.result; keys = old.keys })
    = record {
      state = c.step-track.ensures.steps item (c.requires.item, cell);
      start = refl;
      keys = refl;
    } in (
      advanced_next sets item c.tracks.track-index _ c.tracks.tracks c.track-item.result _
          c.tracks.invariant.0 below steps,
      states_with sets c.tracks.tracks c.tracks.track-index _ c.tracks.invariant.1
          c.step-track.ensures.state,
    )

pub returns-clause-advanced : goal.returns-clause-advanced
returns-clause-advanced g c =
    advanced_all c.args.nfa.now.sets c.args.item.now c.tracks.track-index _ _ c.tracks.invariant.0
    (let over = c.tracks-test.false in omega (arith, over))
