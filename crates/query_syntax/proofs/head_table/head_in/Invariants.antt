use Rattle.std.proofs.Common.{◌≡◌, map, drop}
use Rattle.query_syntax.specs.Rows.{head_in}
use Rattle.query_syntax.specs.ShownRows.{shown}
use Rattle.query_syntax.proofs.head_table.head_in.Given as goal

-- the rows that are left decide
abbrev pub invariant-rows : goal.invariant-rows
invariant-rows g l =
    head_in (map shown l.rows) l.word l.count
    ≡ head_in (map shown (drop l.head-index l.rows)) l.word l.count
