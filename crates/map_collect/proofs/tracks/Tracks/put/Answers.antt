use Rattle.std.proofs.Common.{sym, subst}
use Rattle.std.specs.List.{Contains}
use Rattle.rate_expr.specs.After.{IsStateOf}
use Rattle.map_collect.specs.Tracks.{starts_of}
use Rattle.map_collect.proofs.Starts.{AreTracks-more}
use Rattle.map_collect.proofs.tracks.Tracks.put.Goals as goal

pub invariant_of-self-2 : goal.invariant_of-self-2
invariant_of-self-2 g c =
    AreTracks-more _ _ _ (record { start = c.args.start; state = c.args.state; keys = c.args.keys })
    c.in_ok-push.ensures.items c.self.invariant
    (subst (λ seen. Contains (starts_of seen.tracks) c.args.start → ⊥) (sym c.self.view_is)
    c.requires.fresh)
    (subst (λ seen. IsStateOf seen.nfa.sets c.args.state) (sym c.self.view_is) c.requires.state)
