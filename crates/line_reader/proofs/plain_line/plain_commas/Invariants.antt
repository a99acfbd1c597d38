use Rattle.std.proofs.Common.{◌≡◌, ◌≤◌, false, take, count_by}
use Rattle.std.specs.List.{list_any}
use Rattle.line_reader.specs.CutLines.{is_comma}
use Rattle.line_reader.specs.LineParts.{is_special}
use Rattle.line_reader.proofs.plain_line.plain_commas.Given as goal

-- the commas so far, and no special byte
abbrev pub invariant-loop-byte : goal.invariant-loop-byte
invariant-loop-byte l = record {
  counted : l.commas ≡ count_by is_comma (take l.byte-index l.line);
  few : l.commas ≤ l.byte-index;
  none : list_any is_special (take l.byte-index l.line) ≡ false;
}
