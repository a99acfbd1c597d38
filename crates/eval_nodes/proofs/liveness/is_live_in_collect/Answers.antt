use Rattle.std.proofs.Common.{◌∙◌, ap, sym}
use Rattle.query_model.specs.Queries.{collect}
use Rattle.eval_nodes.specs.declared.progress.Progress.{Progress}
use Rattle.eval_nodes.specs.Holdings.{Holding}
use Rattle.eval_nodes.specs.Live.{live_of}
use Rattle.eval_nodes.specs.Plain.{holding_of}
use Rattle.eval_nodes.proofs.HeldTracks.{tracked_is}
use Rattle.eval_nodes.proofs.CollectLiving.{place_read}
use Rattle.eval_nodes.proofs.liveness.is_live_in_collect.Goals as goal

pub returns-in-Collect : goal.returns-in-Collect
returns-in-Collect c = λ chosen sync rate inner.
    let s = c.in-Collect in
    place_read s.tracks.tracks c.args.start c.place.result c.is_some.result c.is_some.ensures
    c.place.ensures.there c.place.ensures.none
    ∙ sym (ap (λ (h : Holding Progress). live_of (collect chosen sync rate inner) h c.args.start)
    (ap holding_of s.is ∙ tracked_is s.tracks _))
