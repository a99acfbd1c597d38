use Rattle.std.proofs.Common.{◌≡◌, ◌+◌, ◌≤◌, false, [], drop, length, take}
use Rattle.std.specs.List.{list_any}
use Rattle.line_reader.specs.CutLines.{is_break, texts_at, texts_in}
use Rattle.line_reader.proofs.cut_line.commas.Given as goal

-- the commas so far and the texts that are left, and no line break
abbrev pub invariant-loop-byte : goal.invariant-loop-byte
invariant-loop-byte l = record {
  counted : l.commas + length (texts_at l.place [] (drop l.byte-index l.line))
      ≡ length (texts_in l.line);
  few : l.commas ≤ l.byte-index;
  none : list_any is_break (take l.byte-index l.line) ≡ false;
}
