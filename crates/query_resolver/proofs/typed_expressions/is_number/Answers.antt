use Rattle.std.proofs.Common.{sym}
use Rattle.expressions.specs.Expressions.{plain_of}
use Rattle.expressions.specs.Shown.{shown_types}
use Rattle.value_ops.specs.declared.value.ValueType.TheVariants.{Number}
use Rattle.query_resolver.proofs.WellTyped.{is_number_true, no_number, record_is_no_number}
use Rattle.query_resolver.proofs.WellTyped.{table_is_no_number}
use Rattle.query_resolver.proofs.typed_expressions.is_number.Goals as goal

pub returns-in-Some-Number : goal.returns-in-Some-Number
returns-in-Some-Number c =
    sym (is_number_true (shown_types c.args.types.now) (plain_of c.args.value.now)
    (rw c.in-Some-Number.field-0-is at c.in-Some-Number.ensures.some))

pub returns-in-Some-Rec : goal.returns-in-Some-Rec
returns-in-Some-Rec c =
    let types = shown_types c.args.types.now in
    let value = plain_of c.args.value.now in
    sym (no_number types value c.requires
    (record_is_no_number types value _ (rw c.in-Some-Rec.field-0-is at c.in-Some-Rec.ensures.some)))

pub returns-in-Some-Table : goal.returns-in-Some-Table
returns-in-Some-Table c =
    let types = shown_types c.args.types.now in
    let value = plain_of c.args.value.now in
    sym (no_number types value c.requires
    (table_is_no_number types value
    (rw c.in-Some-Table.field-0-is at c.in-Some-Table.ensures.some)))

pub returns-in-None : goal.returns-in-None
returns-in-None c =
    sym (no_number (shown_types c.args.types.now) (plain_of c.args.value.now) c.requires
    (c.in-None.ensures.none Number))
