use Rattle.std.proofs.Common.{arith}
use Rattle.query_parser.specs.Reading.{long, token}
use Rattle.query_parser.proofs.Faults.{fault_within}
use Rattle.query_parser.proofs.reader.tokens_of.Goals as goal

pub returns-then-text-gt-MAX_TEXT-clause-stopped : goal.returns-then-text-gt-MAX_TEXT-clause-stopped
returns-then-text-gt-MAX_TEXT-clause-stopped c =
    rw c.refused.ensures (record { is = long c.if-text-gt-MAX_TEXT.true; before = tt })

pub overflow_add-span : goal.overflow_add-span
overflow_add-span c =
    let fault = rw c.in-Err-Fault.field-0-is at c.in-Err-Fault.ensures.stopped in
    let within = fault_within 0 c.args.text.now fault.0 c.in-Err-Fault.place fault.1 in
    omega arith

pub returns-in-Err-Fault-clause-stopped : goal.returns-in-Err-Fault-clause-stopped
returns-in-Err-Fault-clause-stopped c =
    let fault = rw c.in-Err-Fault.field-0-is at c.in-Err-Fault.ensures.stopped in
    rw c.refused-in-Err-Fault.ensures (record {
      is = token fault.0 c.in-Err-Fault.place c.if-text-gt-MAX_TEXT.false fault.1;
      before = tt;
    })
