use Rattle.std.proofs.Common.{[], ◌∷◌, length}
use Rattle.runner_snapshot.specs.Bytes.{scalar_bytes}
use Rattle.runner_snapshot.proofs.Taken.{put_more}
use Rattle.runner_snapshot.proofs.value_bytes.put_parts.Goals as goal

pub parts-preserved : goal.parts-preserved
parts-preserved g c = (
  put_more g.O.Output.got scalar_bytes c.args.parts.now c.parts.place c.part.result
      (length c.args.parts.now ∷ []) c.args.out.now c.parts.out c.put_scalar.new.out
      c.part.ensures c.parts.invariant.0 c.in_ok-put_scalar.ensures,
  c.len-place-end.ensures.len,
)
