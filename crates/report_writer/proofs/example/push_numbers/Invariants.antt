use Rattle.std.proofs.Common.{◌≡◌, ◌++◌, codes, take}
use Rattle.std.specs.List.{flat_map}
use Rattle.std.specs.Prelude.{decimal}
use Rattle.report_writer.proofs.Joined.{marked}
use Rattle.report_writer.proofs.example.push_numbers.Given as goal

-- the first number and those after it so far, each with its space
abbrev pub invariant-others : goal.invariant-others
invariant-others l =
    l.text.items
    ≡ l.initial.text.items ++ flat_map (marked decimal (codes " ")) (take l.number-index l.others)
