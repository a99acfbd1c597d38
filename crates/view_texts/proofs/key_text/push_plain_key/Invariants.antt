use Rattle.std.proofs.Common.{◌≡◌, ◌++◌, take}
use Rattle.std.specs.List.{flat_map}
use Rattle.report_writer.specs.Texts.{byte_text}
use Rattle.view_texts.proofs.key_text.push_plain_key.Given as goal

-- the bytes so far
abbrev pub invariant-bytes : goal.invariant-bytes
invariant-bytes l =
    l.text.items ≡ l.initial.text.items ++ flat_map byte_text (take l.byte-index l.key)
