use Rattle.std.proofs.Common.{◌∙◌, sym}
use Rattle.value_ops.specs.declared.field.Field.TheVariants.{Int}
use Rattle.line_reader.proofs.NumberLines.{decimal_item, if_number, whole_item}
use Rattle.line_reader.proofs.number_line.number_in.Goals as goal

pub returns-in-Int : goal.returns-in-Int
returns-in-Int c =
    if_number _ _ _
    (λ number is. whole_item c.args.column.now c.args.line.now (Int number) c.in-Int.is
    (sym c.int_field.ensures ∙ is)) c.number_of.ensures

pub returns-in-Fixed : goal.returns-in-Fixed
returns-in-Fixed c =
    if_number _ _ _
    (λ number is. decimal_item c.args.column.now c.in-Fixed.places c.args.line.now (Int number)
    c.in-Fixed.is (sym c.fixed_field.ensures ∙ is)) c.number_of-in-Fixed.ensures
