-- A key that is not the first begins where the one before ends.
use Rattle.std.proofs.Common.{arith}
use Rattle.value_ops.proofs.KeyBytesLaws.{start_at}
use Rattle.value_ops.proofs.entries.key_start.Goals as goal

pub returns : goal.returns
returns c = start_at c.args.entries.now c.args.i _ (omega arith) c.requires
