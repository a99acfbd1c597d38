use Rattle.std.proofs.Common.{◌≡◌, ◌++◌, take}
use Rattle.joined_texts.specs.Joining.{escaped}
use Rattle.joined_texts.proofs.joined.push_text.Given as goal

-- the bytes so far
abbrev pub invariant-bytes : goal.invariant-bytes
invariant-bytes l =
    l.bytes.items ≡ l.initial.bytes.items ++ escaped (take l.byte-index l.text)
