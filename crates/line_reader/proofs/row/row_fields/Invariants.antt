use Rattle.std.proofs.Common.{◌≡◌, drop, vec_len}
use Rattle.csv.specs.Records as csv
use Rattle.line_reader.specs.Reading.{fields_of, read_on}
use Rattle.line_reader.proofs.row.row_fields.Given as goal

-- the fields so far, and the texts that are left
abbrev pub invariant-loop-index : goal.invariant-loop-index
invariant-loop-index l = record {
  read : fields_of 1 l.schema.columns (csv.fields_of l.row)
      ≡ read_on l.schema.columns l.fields.items (drop l.index (csv.fields_of l.row));
  count : vec_len l.fields ≡ l.index;
}
