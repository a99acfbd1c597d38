use Rattle.std.proofs.Common.{◌↔◌, IsTrue, subst}
use Rattle.map_collect.specs.Tracks.{IsLiveAmong}
use Rattle.map_collect.proofs.tracks.Tracks.is_live.Goals as goal

pub returns : goal.returns
returns g c =
    subst (λ seen. IsTrue c.is_any_live.result ↔ IsLiveAmong seen.nfa seen.tracks c.args.start)
    c.self.view_is
    (subst
    (λ tracks. IsTrue c.is_any_live.result ↔ IsLiveAmong c.self.inside.nfa tracks c.args.start)
    c.deref.ensures.value c.is_any_live.ensures)
