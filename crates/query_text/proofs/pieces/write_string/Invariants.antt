use Rattle.std.proofs.Common.{◌≡◌, ◌++◌, take}
use Rattle.std.specs.List.{flat_map}
use Rattle.query_parser.specs.Printing.{byte_text}
use Rattle.query_text.proofs.pieces.write_string.Given as goal

-- the bytes so far are written
abbrev pub invariant-bytes : goal.invariant-bytes
invariant-bytes l =
    l.text.items ≡ l.initial.text.items ++ flat_map byte_text (take l.byte-index l.bytes)
