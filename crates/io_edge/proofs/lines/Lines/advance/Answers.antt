use Rattle.std.proofs.Common.{rules, ◌≡◌, Result, Err, ◌∙◌}
use Rattle.std.proofs.lemmas.Result.{err_from_is_err_and}
use Rattle.std.specs.Result.{IsErrOf}
use Rattle.io_edge.specs.declared.lines.LineStop.{LineStop}
use Rattle.io_edge.specs.declared.lines.LineStop.TheVariants.{Failed, Limit}
use Rattle.io_edge.proofs.Readings.{Answers-from_cut, Takes-turn, Goes-at_limit, Goes-quiet}
use Rattle.io_edge.proofs.Readings.{Reaches-end}
use Rattle.io_edge.proofs.lines.Lines.advance.Goals as goal

pub returns-in-Some-clause-line : goal.returns-in-Some-clause-line
returns-in-Some-clause-line g c =
    let takes = c.more.invariant.takes in
    (takes.got, takes.consumed, Answers-from_cut _ _ _ takes.got _ takes.goes c.in-Some.ensures)

pub returns-in-Some-clause-again : goal.returns-in-Some-clause-again
returns-in-Some-clause-again g c =
    let now = c.more.invariant in
    record {
      end = λ met. cc (now.takes.goes.not_met, met);
      limit = λ _ no_lf full.
          absurd (Goes-at_limit _ _ _ _ _ now.takes.goes c.in-Some.ensures now.few no_lf full);
    }

-- what a step stopped by is returned, and is not a fault where it is the limit
not_failed : {T U : Type 0} (result : Result T LineStop) (stop why : LineStop)
    → result ≡ Err stop → stop ≡ why → IsErrOf {T = U} (Err why) Limit → IsErrOf result Failed → ⊥
not_failed result stop why is same limit failed = cc (is, same, limit, failed)

pub returns-in_err-refill-clause-quiet : goal.returns-in_err-refill-clause-quiet
returns-in_err-refill-clause-quiet g c =
    let now = c.more.invariant in
    let full = Goes-quiet _ _ _ _ now.takes.goes c.in_default.ensures now.few in
    let p = err_from_is_err_and c.from_residual.result c.from_residual.ensures.1 in
    λ quiet. (
      c.in_err-refill.ensures.quiet (full quiet) ∙ now.quiet quiet,
      not_failed _ _ _ p.1 p.2 (c.in_err-refill.ensures.limit.1 (full quiet)),
    )

pub returns-then-branch-eq0-clause-line : goal.returns-then-branch-eq0-clause-line
returns-then-branch-eq0-clause-line g c =
    let takes = Takes-turn _ _ _ _ _ _ _ c.more.invariant.takes c.in_default.ensures
    c.in_ok-refill.ensures.bytes in
    (takes.got, takes.consumed, Reaches-end _ _ _ takes.got c.end.result takes.goes c.end.ensures)

pub returns-then-branch-eq0-clause-quiet : goal.returns-then-branch-eq0-clause-quiet
returns-then-branch-eq0-clause-quiet g c =
    let now = c.more.invariant in
    let full = Goes-quiet _ _ _ _ now.takes.goes c.in_default.ensures now.few in
    λ quiet. absurd (cc (c.in_ok-refill.ensures.limit.1 (full quiet)))

pub more-preserved : goal.more-preserved
more-preserved g c =
    let now = c.more.invariant in
    let full = Goes-quiet _ _ _ _ now.takes.goes c.in_default.ensures now.few in
    record {
      takes = Takes-turn _ _ _ _ _ _ _ now.takes c.in_default.ensures c.in_ok-refill.ensures.bytes;
      few = search rules;
      no_end = search rules;
      no_fault = search rules;
      quiet = λ quiet. cc (c.in_ok-refill.ensures.limit.1 (full quiet));
    }
