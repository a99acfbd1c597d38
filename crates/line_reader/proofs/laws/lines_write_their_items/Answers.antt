use Rattle.line_reader.proofs.WrittenItems.{item_is_written, written_is_item}
use Rattle.line_reader.proofs.laws.lines_write_their_items.Goals as goal

pub returns : goal.returns
returns c columns line fields =
    (item_is_written columns line fields, written_is_item columns line fields)
