use Rattle.std.proofs.Common.{◌≡◌, ◌++◌, take}
use Rattle.report_writer.specs.Texts.{parts_text}
use Rattle.report_writer.proofs.record_text.push_record.Given as goal

-- the parenthesis and the parts so far
abbrev pub invariant-places : goal.invariant-places
invariant-places l =
    l.text.items ≡ l.initial.text.items ++ parts_text (take l.place l.fn.parts)
