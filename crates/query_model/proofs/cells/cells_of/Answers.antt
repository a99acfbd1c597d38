use Rattle.std.proofs.Common.{sym, subst}
use Rattle.std.proofs.lemmas.Result.{IfOk-weaker, on_ok_weaker}
use Rattle.predicate_cells.specs.Cells.{Partition}
use Rattle.query_model.specs.Queries.{plain_of}
use Rattle.query_model.specs.Sizes.{predicates_of}
use Rattle.query_model.specs.Members.{HaveSameMembers, StandOnce}
use Rattle.query_model.proofs.SameMembers.{all_fit_alike, few_alike, many_alike, none_stands}
use Rattle.query_model.proofs.cells.cells_of.Goals as goal

pub new-requires : goal.new-requires
new-requires c =
    let same = (rw c.new-preds.ensures at c.in_ok-add_those_of.ensures).members in
    all_fit_alike _ _ same c.args.schema.now.columns c.requires

pub returns-clause-members : goal.returns-clause-members
returns-clause-members c =
    let same = (rw c.new-preds.ensures at c.in_ok-add_those_of.ensures).members in
    let preds = predicates_of (plain_of c.args.query.now.shape) in
    IfOk-weaker c.new.result _ _
    (λ cells is. subst (λ (p : Partition). HaveSameMembers p.preds preds) (sym is) same)
    c.new.ensures.ok

pub returns-clause-few : goal.returns-clause-few
returns-clause-few c =
    let same = (rw c.new-preds.ensures at c.in_ok-add_those_of.ensures).members in
    on_ok_weaker c.new.result (few_alike _ _ same c.args.schema.now.columns) c.new.ensures.few

pub returns-clause-too_many : goal.returns-clause-too_many
returns-clause-too_many c = λ many.
    let same = (rw c.new-preds.ensures at c.in_ok-add_those_of.ensures).members in
    many_alike _ _ same c.args.schema.now.columns (c.new.ensures.too_many many)

pub returns-clause-once : goal.returns-clause-once
returns-clause-once c =
    let once = (rw c.new-preds.ensures at c.in_ok-add_those_of.ensures).once none_stands in
    IfOk-weaker c.new.result _ _
    (λ cells is. subst (λ (p : Partition). StandOnce p.preds) (sym is) once) c.new.ensures.ok
