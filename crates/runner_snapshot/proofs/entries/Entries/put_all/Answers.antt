use Rattle.std.proofs.Common.{◌++◌}
use Rattle.runner_snapshot.specs.Bytes.{in_eight, value_bytes, waiting_bytes}
use Rattle.runner_snapshot.proofs.Taken.{gets_both, put_next}
use Rattle.runner_snapshot.proofs.entries.Entries.put_all.Goals as goal

pub entries-preserved : goal.entries-preserved
entries-preserved g c =
    let got = g.O.Output.got in
    let entry = c.entry-item.result in
    put_next got waiting_bytes c.args.entries.now c.entries.entry-index entry c.args.out.now
    c.entries.out c.put_value.new.out c.entries-test.true c.entry-item.is c.entries.invariant
    (gets_both got _ _ _ (in_eight entry.inner ++ in_eight entry.outer) (value_bytes entry.value)
    (gets_both got _ _ _ (in_eight entry.inner) (in_eight entry.outer) c.in_ok-put_number.ensures
    c.in_ok-put_number-2.ensures) c.in_ok-put_value.ensures)
