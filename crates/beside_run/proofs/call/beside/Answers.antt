use Rattle.std.proofs.Common.{refl, sym, ap, subst, length, ◌∙◌}
use Rattle.std.specs.List.{AllByRecursion}
use Rattle.query_compiler.specs.Compiled.{KeepsRules}
use Rattle.beside_run.specs.Call.{accepts}
use Rattle.beside_run.specs.Compiling.{monitors_of}
use Rattle.beside_run.proofs.Outcomes.{asked_so, carried_for, has_queries, stopped_so, usage_fails}
use Rattle.beside_run.proofs.Stops.{all_keep, as_many}
use Rattle.beside_run.proofs.call.beside.Goals as goal

pub returns-in_default-clause-query_faults : goal.returns-in_default-clause-query_faults
returns-in_default-clause-query_faults g c = usage_fails _ _

pub carry_out-requires-clause-queries : goal.carry_out-requires-clause-queries
carry_out-requires-clause-queries g c =
    let q = g.Q.Source in
    has_queries c.in-Some.command (length c.deref.result.now) (length c.args.queries.now)
    (ap length c.deref.ensures.value
    ∙ as_many q.left q.ends _ _ c.in-Ok.compiled.items c.in-Ok.ensures.compiled)
    c.in-Some.ensures.queries

pub carry_out-requires-clause-keep : goal.carry_out-requires-clause-keep
carry_out-requires-clause-keep g c =
    let q = g.Q.Source in
    subst (λ qs. AllByRecursion KeepsRules (monitors_of qs)) (sym c.deref.ensures.value)
    (all_keep q.left q.ends _ _ (monitors_of c.in-Ok.compiled.items) c.in-Ok.ensures.compiled)

pub returns-in-Ok-clause-outcome : goal.returns-in-Ok-clause-outcome
returns-in-Ok-clause-outcome g c =
    let q = g.Q.Source in
    asked_so q.left q.ends _ _ c.in-Some.command _ _ _ _
    (sym c.in-Some.is ∙ c.command_of.ensures.command)
    (accepts (monitors_of c.in-Ok.compiled.items) c.in-Ok.ensures.compiled
    (carried_for c.in-Some.command _ _ c.deref.ensures.value _ _ _ c.carry_out.ensures.carried))

pub returns-in-Err-clause-outcome : goal.returns-in-Err-clause-outcome
returns-in-Err-clause-outcome g c =
    let q = g.Q.Source in
    asked_so q.left q.ends _ _ c.in-Some.command _ _ _ _
    (sym c.in-Some.is ∙ c.command_of.ensures.command)
    (stopped_so q.left q.ends _ _ _ c.in-Err.stop _ _ _ c.in-Err.ensures.stopped
    c.end_for.ensures.ends refl)
