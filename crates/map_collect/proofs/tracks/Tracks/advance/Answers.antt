use Rattle.std.proofs.Common.{sym, subst}
use Rattle.map_collect.specs.Tracks.{AllAdvance, AreTracks}
use Rattle.map_collect.proofs.Advanced.{advanced_back, AreTracks-advanced}
use Rattle.map_collect.proofs.tracks.Tracks.advance.Goals as goal

pub invariant_of-self : goal.invariant_of-self
invariant_of-self g c =
    let sets = c.self.inside.nfa.sets in
    let item = c.args.item.now in
    let now = c.advance_all.new.tracks in
    let all : AllAdvance sets item c.self.inside.tracks.items now
    = subst (λ tracks. AllAdvance sets item tracks now) c.deref_mut.ensures.value
    c.advance_all.ensures.advanced in
    subst (λ tracks. AreTracks sets tracks)
    (sym (advanced_back sets item c.self.inside.tracks.items now _ c.self.inside.tracks.ok.0 all))
    (AreTracks-advanced sets item _ now all c.advance_all.ensures.states c.self.invariant)
