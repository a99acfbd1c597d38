use Rattle.std.proofs.Common.{◌≡◌, ◌++◌, take}
use Rattle.item_drill.specs.Lines.{names_of, row_of}
use Rattle.item_drill.proofs.drill.push_names.Given as goal

-- the names so far
abbrev pub invariant-names : goal.invariant-names
invariant-names l =
    l.text.items ≡ l.initial.text.items ++ row_of (names_of (take l.place l.columns))
