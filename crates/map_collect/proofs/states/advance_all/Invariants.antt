use Rattle.map_collect.specs.Tracks.{AreStates}
use Rattle.map_collect.proofs.Advanced.{AdvancedBelow}
use Rattle.map_collect.proofs.states.advance_all.Given as goal

-- the item has led on the states below the index
abbrev pub invariant-tracks : goal.invariant-tracks
invariant-tracks g l =
    AdvancedBelow l.fn.nfa.sets l.fn.item l.track-index l.fn.tracks l.tracks
    × AreStates l.fn.nfa.sets l.tracks
