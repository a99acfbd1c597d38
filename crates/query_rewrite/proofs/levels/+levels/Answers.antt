-- A record has one level more than its parts.
use Rattle.std.proofs.Common.{◌-◌, ap, arith}
use Rattle.query_rewrite.specs.Counting.{levels_with}
use Rattle.expressions.proofs.RecordParts.{plain_record}
use Rattle.query_rewrite.proofs.Measures.{weight_of}
use Rattle.query_rewrite.proofs.levels.+levels.Goals as goal

pub levels_of-returns-in-Rec : goal.levels_of-returns-in-Rec
levels_of-returns-in-Rec t c =
    let same = ap (levels_with c.args.left) (plain_record c.args.value.now c.in-Rec.parts
    c.as_slice.result.now c.in-Rec.is c.as_slice.ensures.parts) in
    omega (arith, same, c.most_levels.ensures, c.saturating_add-in-Rec.ensures)

pub levels_of-most_levels-requires : goal.levels_of-most_levels-requires
levels_of-most_levels-requires t c =
    let same = ap weight_of (plain_record c.args.value.now c.in-Rec.parts c.as_slice.result.now
    c.in-Rec.is c.as_slice.ensures.parts) in
    (omega (arith, same, c.decreases), tt)
