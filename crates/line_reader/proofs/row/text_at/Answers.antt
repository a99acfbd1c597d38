use Rattle.std.proofs.Common.{sym, ap, ◌∙◌, option_map}
use Rattle.csv.specs.Records.{fields_of}
use Rattle.line_reader.proofs.Fields.{drop-field_at, some_field}
use Rattle.line_reader.proofs.row.text_at.Goals as goal

pub unwrap-requires : goal.unwrap-requires
unwrap-requires c =
    some_field (fields_of c.args.row.now) c.args.index c.get.result c.requires c.get.ensures.value

pub returns : goal.returns
returns c =
    drop-field_at (fields_of c.args.row.now) c.args.index c.unwrap.result.now c.requires
    (sym c.get.ensures.value ∙ ap (option_map (λ text. text.now)) c.unwrap.ensures)
