use Rattle.std.proofs.Common.{subst}
use Rattle.rate_expr.specs.declared.state.State.TheVariants.{Initial}
use Rattle.symbolic_nfa.specs.Automata.{Automaton}
use Rattle.symbolic_nfa.specs.States.{Extends}
use Rattle.map_collect.specs.Tracks.{starts_of}
use Rattle.step_laws.proofs.CollectBegun.{place_test}
use Rattle.eval_tree.proofs.collect.can_track.Goals as goal

pub returns-then-extends : goal.returns-then-extends
returns-then-extends c =
    let all = c.args.tracks.now in
    place_test c.place.result c.is_none.result (Extends all.nfa Initial) (starts_of all.tracks)
    c.args.at c.is_none.ensures
    (subst (λ (nfa : Automaton). Extends nfa Initial) c.nfa.ensures
    (c.extends.ensures.0 c.if-extends.true))
    c.place.ensures.there c.place.ensures.none
