use Rattle.std.proofs.Common.{◌≡◌, ◌++◌, take}
use Rattle.report_writer.specs.Texts.{entries_text}
use Rattle.report_writer.proofs.table_text.push_table.Given as goal

-- the brace and the entries so far
abbrev pub invariant-places : goal.invariant-places
invariant-places l =
    l.text.items ≡ l.initial.text.items ++ entries_text (take l.place l.fn.table)
