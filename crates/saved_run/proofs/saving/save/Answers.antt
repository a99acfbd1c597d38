use Rattle.std.proofs.Common.{ap, refl}
use Rattle.query_model.specs.Queries.{plain_of}
use Rattle.stream_run.specs.Outside.{outside}
use Rattle.stream_run.specs.Sessions.{origin_of}
use Rattle.saved_run.proofs.Keeping.{kept_so}
use Rattle.saved_run.proofs.Savings.{saved_for, saves_all}
use Rattle.saved_run.proofs.saving.save.Goals as goal

pub returns-in-Done-clause-saved : goal.returns-in-Done-clause-saved
returns-in-Done-clause-saved g c =
    let at = outside g.S.Source.left g.S.Source.ends g.W.Sink.taken in
    let on = c.args.checked.now in
    let text = c.args.text.now in
    let means = g.R.Keepable.means on.layout.columns (plain_of on.main.shape) in
    let follows = g.R.Follower.follows in
    saves_all means text on.layout (at c.args.items.now c.args.out.now)
    (at c.run_on.new.items c.write_snapshot.new.out) c.in-Done.ensures.ended.0
    c.snapshot_after.result c.write_snapshot.result
    (kept_so _ _ (saved_for follows means on c.args.follower (origin_of c.begin-session.result)
    (ap origin_of c.begin-session.ensures) c.requires.word c.run_on.new.session text
    (g.S.Source.left c.args.items.now) (c.in-Done.ensures.after refl)) c.snapshot_after.result
    c.snapshot_after.ensures)
    c.write_snapshot.ensures.written
