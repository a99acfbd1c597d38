use Rattle.item_lines.proofs.LineReading.{line_is_read}
use Rattle.item_lines.proofs.laws.shown_lines_are_read_to_their_items.Goals as goal

pub returns : goal.returns
returns c = line_is_read
