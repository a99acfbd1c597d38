use Rattle.std.proofs.Common.{take}
use Rattle.rate_expr.specs.Words.{IsWordOf}
use Rattle.separating_word.specs.Separations.{AreRead}
use Rattle.separating_word.proofs.line_value.items_of.Given as goal

-- the items of the lines so far
abbrev pub invariant-lines : goal.invariant-lines
invariant-lines l = AreRead l.schema.columns (take l.line-index l.lines) l.items.items
    × IsWordOf l.schema.columns l.items.items
