use Rattle.std.proofs.lemmas.Result.{IfErr-weaker, on_ok_weaker}
use Rattle.query_model.specs.Rules.{bound}
use Rattle.type_checker.proofs.Ruled.{fed_by, on_values, unfed_by}
use Rattle.type_checker.proofs.roots.fed.Goals as goal

pub returns-in_ok-fed_rule-in-Bound-clause-kept : goal.returns-in_ok-fed_rule-in-Bound-clause-kept
returns-in_ok-fed_rule-in-Bound-clause-kept c =
    rw c.in-Bound.is (on_ok_weaker c.keep.result (λ none r are.
    fed_by bound c.args.cells.now.value.layout.columns r _
    (on_values c.args.second c.args.cells.now.value _ c.in_ok-second-in-Bound.ensures _
    c.in_ok-fed_rule-in-Bound.ensures r are) none)
    c.keep.ensures.kept)

pub returns-in_ok-fed_rule-in-Bound-clause-refused :
    goal.returns-in_ok-fed_rule-in-Bound-clause-refused
returns-in_ok-fed_rule-in-Bound-clause-refused c =
    rw c.in-Bound.is (IfErr-weaker c.keep.result _ _ (λ stop broken r are.
    unfed_by bound c.args.cells.now.value.layout.columns r _
    (on_values c.args.second c.args.cells.now.value _ c.in_ok-second-in-Bound.ensures _
    c.in_ok-fed_rule-in-Bound.ensures r are)
    c.args.span stop broken) c.keep.ensures.refused)
