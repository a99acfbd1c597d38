use Rattle.std.proofs.Common.{◌≡◌, ◌++◌, take}
use Rattle.std.specs.List.{flat_map}
use Rattle.view_texts.specs.Cells.{tsv_byte}
use Rattle.view_texts.proofs.delimited.push_tsv.Given as goal

-- the bytes so far
abbrev pub invariant-bytes : goal.invariant-bytes
invariant-bytes l =
    l.text.items ≡ l.initial.text.items ++ flat_map tsv_byte (take l.byte-index l.cell)
