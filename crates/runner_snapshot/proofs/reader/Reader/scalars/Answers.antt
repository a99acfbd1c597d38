use Rattle.std.proofs.lemmas.Result.{err_from_is_err_and}
use Rattle.runner_snapshot.specs.Reading.{repeat_at, scalar_at}
use Rattle.runner_snapshot.proofs.Repeating.{ends, goes_on, is_done}
use Rattle.runner_snapshot.proofs.reader.Reader.scalars.Goals as goal

pub returns-in_err-scalar : goal.returns-in_err-scalar
returns-in_err-scalar c =
    let p = err_from_is_err_and c.from_residual.result c.from_residual.ensures.1 in
    rw (p.1, p.2) (ends scalar_at c.in_err-scalar.field-0.0 c.scalars.scalars.items c.args.count
    c.scalars.counter c.scalars.self.rest.now
    (repeat_at scalar_at c.args.count c.args.self.now.rest.now) c.scalars-test.true
    c.in_err-scalar.ensures c.scalars.invariant)

pub scalars-preserved : goal.scalars-preserved
scalars-preserved c =
    rw c.in_ok-push.ensures.items (goes_on scalar_at c.scalars.scalars.items c.args.count
    c.scalars.counter c.scalars.self.rest.now c.in_ok-scalar.scalar c.scalar.new.self.rest.now
    (repeat_at scalar_at c.args.count c.args.self.now.rest.now) c.scalars-test.true
    c.in_ok-scalar.ensures c.scalars.invariant)

pub returns : goal.returns
returns c =
    is_done scalar_at c.scalars.scalars.items c.args.count c.scalars.counter
    c.scalars.self.rest.now (repeat_at scalar_at c.args.count c.args.self.now.rest.now)
    c.scalars-test.false c.scalars.invariant
