use Rattle.std.proofs.Common.{Bool, List, ◌∙◌, ap, rules, subst}
use Rattle.std.proofs.lemmas.Result.{IfOk-weaker}
use Rattle.item_schema.specs.declared.column.Column.{Column}
use Rattle.query_model.specs.Checked.{CheckedQuery}
use Rattle.query_model.specs.Queries.{Qre, plain_of}
use Rattle.saved_run.specs.Kept.{AreSavedOf, IsKept}
use Rattle.saved_run.proofs.Keeping.{kept_of}
use Rattle.saved_run.proofs.session_snapshot.snapshot_after.Goals as goal

-- the follower and the flag are those that the session shows
pub returns : goal.returns
returns g c =
    let one = c.follower.result.now in
    let on = c.args.checked.now in
    let text = c.args.text.now in
    let kept = g.R.Keepable in
    let base = g.R.Follower in
    let laws = g.met.R.Keepable c.lifetimes (search rules) in
    let dump = kept.stands one in
    let query = ap base.query c.follower.ensures ∙ c.requires.ready.query_is
    ∙ ap (λ (o : CheckedQuery). plain_of o.main.shape) c.requires.same in
    let columns = ap base.columns c.follower.ensures ∙ c.requires.ready.columns_are
    ∙ ap (λ (o : CheckedQuery). o.layout.columns) c.requires.same in
    let means = kept.means on.layout.columns (plain_of on.main.shape) in
    let made = kept_of means (base.follows one) (base.position one) dump text c.began.result
    (λ word follows. subst (λ (q : Qre). kept.means on.layout.columns q dump word) query
    (subst (λ (cs : List Column). kept.means cs (base.query one) dump word) columns
    (laws.stands_after one word follows)))
    (λ word follows. g.met.R.Follower.at_end one word follows) c.save.result c.save.ensures.saved
    (IfOk-weaker c.save.result _ _ (λ bytes spelled word follows near.
    spelled on word c.schema-schema.ensures.checked query columns follows near)
    c.save.ensures.spelled)
    c.save.ensures.stopped in
    let flagged = subst (λ (b : Bool). IsKept (AreSavedOf means (base.follows one) text b)
    c.save.result) c.began.ensures made in
    subst (λ (f : g.row.R.Denot). IsKept
    (AreSavedOf means (base.follows f) text c.args.session.now.began) c.save.result)
    c.follower.ensures flagged
