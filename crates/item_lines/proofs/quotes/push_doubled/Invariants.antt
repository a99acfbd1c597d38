use Rattle.std.proofs.Common.{◌≡◌, ◌++◌, take}
use Rattle.std.specs.List.{flat_map}
use Rattle.item_lines.specs.Lines.{byte_text}
use Rattle.item_lines.proofs.quotes.push_doubled.Given as goal

-- the bytes so far
abbrev pub invariant-bytes : goal.invariant-bytes
invariant-bytes l =
    l.line.items ≡ l.initial.line.items ++ flat_map byte_text (take l.byte-index l.text)
