-- A record reads the left value as its parts do.
use Rattle.std.proofs.Common.{◌∙◌, ap, sym, arith}
use Rattle.query_rewrite.specs.Counting.{reading_of}
use Rattle.expressions.proofs.RecordParts.{plain_record}
use Rattle.query_rewrite.proofs.Measures.{weight_of}
use Rattle.query_rewrite.proofs.reading.+reading.Goals as goal

pub reading_of-returns-in-Rec : goal.reading_of-returns-in-Rec
reading_of-returns-in-Rec t c =
    c.reading_of_all.ensures
    ∙ ap reading_of (sym (plain_record c.args.value.now c.in-Rec.parts c.as_slice.result.now
    c.in-Rec.is c.as_slice.ensures.parts))

pub reading_of-reading_of_all-requires : goal.reading_of-reading_of_all-requires
reading_of-reading_of_all-requires t c =
    let same = ap weight_of (plain_record c.args.value.now c.in-Rec.parts c.as_slice.result.now
    c.in-Rec.is c.as_slice.ensures.parts) in
    (omega (arith, same, c.decreases), tt)
