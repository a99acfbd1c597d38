use Rattle.std.proofs.lemmas.Result.{err_from_is_err_and}
use Rattle.runner_snapshot.specs.Reading.{repeat_at, waiting_at}
use Rattle.runner_snapshot.proofs.Repeating.{counted_done, counted_ends, goes_on}
use Rattle.runner_snapshot.proofs.reader.Reader.entries.Goals as goal

pub returns-in_err-inner : goal.returns-in_err-inner
returns-in_err-inner c =
    let p = err_from_is_err_and c.from_residual-in_err-inner.result
    c.from_residual-in_err-inner.ensures.1 in
    rw (p.1, p.2) (counted_ends waiting_at c.in_err-inner.field-0.0 c.entries.entries
    c.in_ok-count.count c.entries.counter c.args.self.now.rest.now c.count.new.self.rest.now
    c.entries.self.rest.now c.in_ok-count.ensures c.entries-test.true c.in_err-inner.ensures
    c.entries.invariant)

pub entries-preserved : goal.entries-preserved
entries-preserved c =
    rw c.in_ok-push.ensures.ok (goes_on waiting_at c.entries.entries c.in_ok-count.count
    c.entries.counter c.entries.self.rest.now (record {
      inner = c.in_ok-inner.inner;
      outer = c.in_ok-inner.outer;
      value = c.in_ok-inner.value;
    }) c.waiting.new.self.rest.now
    (repeat_at waiting_at c.in_ok-count.count c.count.new.self.rest.now) c.entries-test.true
    c.in_ok-inner.ensures c.entries.invariant)

pub returns : goal.returns
returns c =
    counted_done waiting_at c.entries.entries c.in_ok-count.count c.entries.counter
    c.args.self.now.rest.now c.count.new.self.rest.now c.entries.self.rest.now
    c.in_ok-count.ensures c.entries-test.false c.entries.invariant
