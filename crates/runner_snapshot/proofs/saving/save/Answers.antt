use Rattle.std.proofs.Common.{◌≡◌, ◌≤◌, ◌^◌, ◌∙◌, List, ap, arith, rules, subst}
use Rattle.std.proofs.lemmas.Result.{IfOk-weaker}
use Rattle.item_schema.specs.declared.column.Column.{Column}
use Rattle.query_model.specs.Queries.{Qre}
use Rattle.runner_snapshot.specs.Bytes.{snapshot_bytes, snapshot_with}
use Rattle.runner_snapshot.specs.Dumps.{Runner, position_of}
use Rattle.runner_snapshot.specs.Plain.{plain_runner}
use Rattle.runner_snapshot.proofs.Kept.{kept_again}
use Rattle.runner_snapshot.proofs.saving.save.Goals as goal

pub returns-clause-spelled : goal.returns-clause-spelled
returns-clause-spelled g c =
    let one = c.args.runner.now in
    let kept = g.R.Keepable in
    let laws = g.met.R.Keepable c.lifetimes (search rules) in
    let dump = kept.stands one in
    let text = c.args.text.now in
    let same : plain_runner c.deref.result.now ≡ dump =
    ap plain_runner (c.deref.ensures ∙ c.in_ok-kept.ensures.ok) ∙ c.in_ok-dump.ensures in
    IfOk-weaker c.snapshot.result _ _
    (λ bytes saved on word checked query columns follows near.
    let means = subst (λ (q : Qre). kept.means on.layout.columns q dump word) query
    (subst (λ (cs : List Column). kept.means cs (g.R.Follower.query one) dump word) columns
    (laws.stands_after one word follows)) in
    let at = laws.stands_at one in
    let close : position_of dump ≤ 2 ^ 62 = omega (arith, at, near) in
    kept_again (snapshot_with text c.args.began dump) bytes
    (saved.0 ∙ ap (λ (d : Runner). snapshot_bytes (snapshot_with text c.args.began d)) same) saved.1
    c.requires.text
    (laws.fits_spelled on dump checked (laws.means_fit on dump word checked means close)))
    c.snapshot.ensures.saved
