use Rattle.std.proofs.Common.{ℕ, List, length}
use Rattle.value_ops.specs.declared.scalar.Scalar.{Scalar}
use Rattle.runner_snapshot.specs.Bytes.{entry_bytes, in_four, scalar_bytes, text_bytes}
use Rattle.runner_snapshot.proofs.Taken.{gets_both, pair_read, put_more}
use Rattle.runner_snapshot.proofs.value_bytes.put_table.Goals as goal

pub entries-preserved : goal.entries-preserved
entries-preserved g c =
    let got = g.O.Output.got in
    let key = c.key.result.now in
    let scalar = c.value.result in
    let entry : List ℕ × Scalar = (key, scalar) in (
      put_more got entry_bytes c.args.table.now c.entries.i entry
          (in_four (length c.args.table.now)) c.args.out.now c.entries.out c.put_scalar.new.out
          (pair_read c.args.table.now c.entries.i key scalar c.key.ensures c.value.ensures)
          c.entries.invariant.0
          (gets_both got _ _ _ (text_bytes key) (scalar_bytes scalar) c.in_ok-put_text.ensures
          c.in_ok-put_scalar.ensures),
      c.len-i-end.ensures,
    )
