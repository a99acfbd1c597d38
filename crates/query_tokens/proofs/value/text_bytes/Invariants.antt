use Rattle.std.proofs.Common.{◌-◌, length}
use Rattle.query_tokens.proofs.TextBytes.{Remains}
use Rattle.query_tokens.proofs.value.text_bytes.Given as goal

abbrev pub invariant-parts : goal.invariant-parts
invariant-parts l = Remains l.raw l.at l.bytes.items

abbrev pub decreases-parts : goal.decreases-parts
decreases-parts l = length l.raw - l.at
