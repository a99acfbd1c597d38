use Rattle.std.proofs.Common.{◌≡◌, drop}
use Rattle.explanation.specs.Nearest.{nearest_in, shown_rows}
use Rattle.explanation.proofs.suggestion.nearest_in.Given as goal

-- the rows that are left decide
abbrev pub invariant-rows : goal.invariant-rows
invariant-rows l =
    nearest_in (shown_rows l.rows) l.word ≡ nearest_in (shown_rows (drop l.row-index l.rows)) l.word
