use Rattle.std.proofs.Common.{set, ◌<◌, [], length, arith}
use Rattle.std.proofs.lemmas.Result.{err_from_is_err_and}
use Rattle.beside_lines.proofs.InTurn.{turn_next, turns_all}
use Rattle.beside_run.specs.Compiling.{Adds, IsStopAt}
use Rattle.beside_run.proofs.Stops.{are_queries, err_so, fails_at, fails_too}
use Rattle.beside_run.proofs.Stops.{none_failed, stops_at}
use Rattle.beside_run.specs.Queries.{StopsAt}
use Rattle.beside_run.proofs.queries.compile_all.Goals as goal

pub queries-preserved : goal.queries-preserved
queries-preserved g c =
    let q = g.Q.Source in
    let nows = c.queries.queries in
    let k = c.queries.query-index in
    let below = c.queries-test.true in
    let inside : k < length nows = omega (arith, below) in
    turn_next (Adds q.left q.ends q.faults) k c.args.queries.now nows _ _ _ c.query-item.result
    c.compile_next.new.query c.queries.invariant inside c.in_ok-compile_next.ensures.compiled

pub returns-clause-compiled : goal.returns-clause-compiled
returns-clause-compiled g c =
    let q = g.Q.Source in
    are_queries q.left q.ends q.faults c.args.queries.now c.queries.queries _
    (turns_all (Adds q.left q.ends q.faults) c.queries.query-index c.args.queries.now
    c.queries.queries _ _ c.queries.invariant
    (let over = c.queries-test.false in omega (arith, over)))

pub returns-clause-faults : goal.returns-clause-faults
returns-clause-faults g c =
    let q = g.Q.Source in
    record {
      by_one = λ failed. absurd (cc);
      else_same = λ never. none_failed q.left q.ends q.faults c.args.queries.now c.queries.queries
          [] _
          (turns_all (Adds q.left q.ends q.faults) c.queries.query-index c.args.queries.now
          c.queries.queries _ _ c.queries.invariant
          (let over = c.queries-test.false in omega (arith, over)));
    }

pub returns-in_err-compile_next-clause-stopped : goal.returns-in_err-compile_next-clause-stopped
returns-in_err-compile_next-clause-stopped g c =
    let q = g.Q.Source in
    let nows = c.queries.queries in
    let k = c.queries.query-index in
    let below = c.queries-test.true in
    let inside : k < length nows = omega (arith, below) in
    let p = err_from_is_err_and c.from_residual.result c.from_residual.ensures.1 in
    err_so c.from_residual.result p.0 _
    (λ why. StopsAt q.left q.ends (IsStopAt q.left q.ends why) c.args.queries.now
    (set nows k c.compile_next.new.query)) p.1 p.2
    (stops_at q.left q.ends q.faults c.query-item.result c.compile_next.new.query
    (IsStopAt q.left q.ends _) k c.args.queries.now nows _ _ c.queries.invariant inside
    c.in_err-compile_next.ensures.stopped)

pub returns-in_err-compile_next-clause-faults : goal.returns-in_err-compile_next-clause-faults
returns-in_err-compile_next-clause-faults g c =
    let q = g.Q.Source in
    let nows = c.queries.queries in
    let k = c.queries.query-index in
    let below = c.queries-test.true in
    let inside : k < length nows = omega (arith, below) in
    let p = err_from_is_err_and c.from_residual.result c.from_residual.ensures.1 in
    let same = fails_too c.from_residual.result c.compile_next.result p.0 _ p.1 p.2
    c.in_err-compile_next.was in
    fails_at q.left q.ends q.faults c.query-item.result c.compile_next.new.query _ _ same.0 same.1 k
    c.args.queries.now nows _ _ c.queries.invariant inside c.compile_next.ensures.cause
