use Rattle.std.proofs.Common.{inl, refl, rules}
use Rattle.rate_expr.specs.Words.{Word}
use Rattle.query_model.specs.Monitors.{monitor_of}
use Rattle.query_model.specs.Queries.{plain_of}
use Rattle.runner_snapshot.specs.Saved.{snapshot_of}
use Rattle.stream_run.specs.Outside.{outside}
use Rattle.stream_run.specs.Sessions.{origin_of}
use Rattle.stream_run.specs.declared.status.Status.TheVariants.{Done}
use Rattle.saved_run.proofs.Carrying.{advances_all, saved_from}
use Rattle.saved_run.proofs.Keeping.{kept_so}
use Rattle.saved_run.proofs.Restoring.{ended_from, ended_none, session_origin}
use Rattle.saved_run.proofs.advancing.advance.Goals as goal

pub returns-in-Done-clause-advanced : goal.returns-in-Done-clause-advanced
returns-in-Done-clause-advanced g c =
    let at = outside g.S.Source.left g.S.Source.ends g.W.Sink.taken in
    let old = at c.args.items.now c.args.out.now in
    let mid = at c.run_on.new.items c.run_on.new.out in
    let on = c.args.checked.now in
    let monitor = monitor_of on in
    let snapshot = snapshot_of c.args.saved.now in
    let query = plain_of on.main.shape in
    let fits = g.R.Keepable.fits on.layout.columns query in
    let means = g.R.Keepable.means on.layout.columns query in
    let follows = g.R.Follower.follows in
    let laws = g.met.R.Keepable c.lifetimes (search rules) in
    let near = laws.fits_early on.layout.columns query snapshot.dump c.in-Ok.ensures.fit in
    let first = c.in-Ok.follower in
    let session = c.resume-session.result in
    let is = session_origin session (record {
      checked = c.args.checked;
      follower = first;
      began = c.began.result;
    }) snapshot.began c.resume-session.ensures.session c.began.ensures in
    let restored =
    λ (word : Word) (stands : means snapshot.dump word). c.in-Ok.ensures.word word stands near in
    let ended = ended_from follows means on snapshot first restored (origin_of session) is old mid
    Done c.in-Done.ensures.ended in
    advances_all fits means monitor snapshot old mid (g.W.Sink.taken c.append.new.out)
    c.in-Ok.ensures.fit ended c.snapshot_after.result c.append.result
    (kept_so _ _ (λ bytes saved. saved_from follows means on snapshot first restored
    (origin_of session) is c.run_on.new.session old.left (c.in-Done.ensures.after refl)
    c.text.result.now bytes c.text.ensures saved) c.snapshot_after.result
    c.snapshot_after.ensures)
    c.append.ensures.written

pub returns-clause-advanced : goal.returns-clause-advanced
returns-clause-advanced g c =
    let on = c.args.checked.now in
    inl (ended_none (g.R.Keepable.means on.layout.columns (plain_of on.main.shape)) (monitor_of on)
    (snapshot_of c.args.saved.now)
    (outside g.S.Source.left g.S.Source.ends g.W.Sink.taken c.args.items.now c.args.out.now))
