use Rattle.std.proofs.Common.{◌≡◌, ◌+◌, length, vec_len}
use Rattle.std.specs.List.{slice_split}
use Rattle.std.specs.Option.{option_copied}
use Rattle.line_reader.specs.CutLines.{is_comma}
use Rattle.line_reader.specs.LineParts.{split_of}
use Rattle.line_reader.specs.Reading.{fields_of, read_on}
use Rattle.line_reader.proofs.plain_line.plain_fields.Given as goal

-- the fields so far, and the texts that are left
abbrev pub invariant-texts : goal.invariant-texts
invariant-texts l = record {
  read : fields_of 1 l.schema.columns (slice_split is_comma l.line)
      ≡ read_on l.schema.columns l.fields.items (split_of (option_copied l.rest));
  left : vec_len l.fields + length (split_of (option_copied l.rest)) ≡ length l.schema.columns;
}

-- each turn takes one text
abbrev pub decreases-texts : goal.decreases-texts
decreases-texts l = length (split_of (option_copied l.rest))
