use Rattle.item_drill.proofs.DrilledBytes.{bytes_have_lines}
use Rattle.item_drill.proofs.laws.drilled_bytes_have_lines.Goals as goal

pub returns : goal.returns
returns c = bytes_have_lines
