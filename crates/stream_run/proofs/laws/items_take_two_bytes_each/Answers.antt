use Rattle.stream_run.proofs.FewItems.{items-few}
use Rattle.stream_run.proofs.laws.items_take_two_bytes_each.Goals as goal

pub returns : goal.returns
returns c = record { few = items-few }
