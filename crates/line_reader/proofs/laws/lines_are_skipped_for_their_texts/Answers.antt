use Rattle.line_reader.proofs.SkippedLines.{item_skips, skips_item}
use Rattle.line_reader.proofs.laws.lines_are_skipped_for_their_texts.Goals as goal

pub returns : goal.returns
returns c columns line skip =
    (item_skips columns line skip, skips_item columns line skip.cause skip.column)
