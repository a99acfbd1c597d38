use Rattle.std.proofs.Common.{◌≡◌, ◌++◌, codes, take}
use Rattle.std.specs.List.{join_by}
use Rattle.view_texts.specs.Values.{entry_text}
use Rattle.view_texts.proofs.table_text.push_table.Given as goal

-- the entries so far
abbrev pub invariant-places : goal.invariant-places
invariant-places l =
    l.text.items ≡ l.initial.text.items
    ++ join_by (entry_text l.fn.notation l.fn.digits) (codes ",") (take l.place l.fn.table)
