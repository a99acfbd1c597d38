use Rattle.item_drill.proofs.Readings.{line_has_item}
use Rattle.item_drill.proofs.laws.drilled_lines_have_items.Goals as goal

pub returns : goal.returns
returns c = line_has_item
