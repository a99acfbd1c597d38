use Rattle.std.proofs.Common.{◌≡◌, ◌++◌, take}
use Rattle.std.specs.Prelude.{map}
use Rattle.place_in_text.specs.Shown.{shown_byte}
use Rattle.place_in_text.proofs.shown_bytes.push_shown.Given as goal

-- the bytes so far
abbrev pub invariant-bytes : goal.invariant-bytes
invariant-bytes l =
    l.text.items ≡ l.initial.text.items ++ map shown_byte (take l.byte-index l.bytes)
