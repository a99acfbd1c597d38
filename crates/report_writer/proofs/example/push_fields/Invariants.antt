use Rattle.std.proofs.Common.{◌≡◌, ◌++◌, codes, take}
use Rattle.std.specs.List.{flat_map}
use Rattle.report_writer.specs.Examples.{field_text}
use Rattle.report_writer.proofs.Joined.{marked}
use Rattle.report_writer.proofs.example.push_fields.Given as goal

-- the first field and those after it so far, each with its comma
abbrev pub invariant-others : goal.invariant-others
invariant-others l =
    l.text.items
    ≡ l.initial.text.items ++ flat_map (marked field_text (codes ",")) (take l.field-index l.others)
