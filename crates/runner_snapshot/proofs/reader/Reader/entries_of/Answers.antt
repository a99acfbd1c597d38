use Rattle.runner_snapshot.specs.Reading.{more_entries_at, scalar_at, text_at}
use Rattle.runner_snapshot.proofs.Added.{table_goes_on}
use Rattle.runner_snapshot.proofs.Repeating.{pair_reads}
use Rattle.runner_snapshot.proofs.reader.Reader.entries_of.Goals as goal

pub entries-preserved : goal.entries-preserved
entries-preserved c = (
  c.in_ok-add_entry.ensures.names,
  rw c.in_ok-add_entry.ensures.entry.1 (table_goes_on c.entries.table c.in_ok-key.key.now
      c.in_ok-scalar.scalar c.args.count c.entries.counter c.entries.self.rest.now
      c.scalar.new.self.rest.now
      (more_entries_at c.args.table.now c.args.count c.args.self.now.rest.now) c.entries-test.true
      (pair_reads text_at scalar_at c.entries.self.rest.now c.in_ok-key.key.now
      c.text.new.self.rest.now c.in_ok-scalar.scalar c.scalar.new.self.rest.now
      c.in_ok-key.ensures c.in_ok-scalar.ensures)
      c.in_ok-add_entry.ensures.entry.0 c.entries.invariant.1),
)
