use Rattle.line_reader.proofs.Items.{item_is_of}
use Rattle.line_reader.proofs.laws.lines_have_items_of_their_columns.Goals as goal

pub returns : goal.returns
returns c = item_is_of
