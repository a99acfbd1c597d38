use Rattle.std.proofs.Common.{arith}
use Rattle.std.proofs.lemmas.Result.{err_from_is_err_and}
use Rattle.runner_snapshot.specs.Saved.{snapshot_of}
use Rattle.runner_snapshot.proofs.Stopped.{nothing_left, some_left, spelled, trailing, unread}
use Rattle.runner_snapshot.proofs.reading.read_saved.Goals as goal

pub returns-in_err-saved-clause-stopped : goal.returns-in_err-saved-clause-stopped
returns-in_err-saved-clause-stopped c =
    let p = err_from_is_err_and c.from_residual.result c.from_residual.ensures.1 in
    rw (p.1, p.2) (unread c.in_err-saved.field-0.0 c.args.bytes.now c.in-Some.rest.now
    c.if-bytes-gt-MAX_SNAPSHOT.false c.in-Some.ensures.some c.in_err-saved.ensures)

pub returns-then-not-is_empty-clause-stopped : goal.returns-then-not-is_empty-clause-stopped
returns-then-not-is_empty-clause-stopped c =
    trailing c.args.bytes.now c.in-Some.rest.now c.body.new.self.rest.now
    (snapshot_of c.in_ok-saved.saved) c.if-bytes-gt-MAX_SNAPSHOT.false c.in-Some.ensures.some
    c.in_ok-saved.ensures
    (some_left c.body.new.self.rest.now c.is_empty.result c.is_empty.ensures
    c.if-not-is_empty.true)

pub returns-clause-read : goal.returns-clause-read
returns-clause-read c =
    spelled c.args.bytes.now c.in-Some.rest.now c.body.new.self.rest.now
    (snapshot_of c.in_ok-saved.saved) (λ i. omega (arith, c.type_inv.bytes i))
    c.in-Some.ensures.some c.in_ok-saved.ensures
    (nothing_left c.body.new.self.rest.now c.is_empty.result c.is_empty.ensures
    c.if-not-is_empty.false)
