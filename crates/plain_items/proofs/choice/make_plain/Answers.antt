use Rattle.std.proofs.Common.{◌∙◌, ◌≤◌, None, ap, length, refl, sym}
use Rattle.std.proofs.lemmas.Bool.{ltb-false}
use Rattle.std.proofs.lemmas.Option.{slice_get_past}
use Rattle.value_ops.specs.declared.field.Field.TheVariants as field
use Rattle.value_ops.specs.declared.value.Value.TheVariants as value
use Rattle.plain_items.proofs.Becomes.{becomes_nothing, becomes_text, found_in}
use Rattle.plain_items.proofs.choice.make_plain.Goals as goal

pub returns-in_ok-put_text-in-Some-Text : goal.returns-in_ok-put_text-in-Some-Text
returns-in_ok-put_text-in-Some-Text c =
    let found = c.in-Some-Text in
    becomes_text c.args.cells.now c.args.item.now c.args.column _ _ _ c.requires
    (found_in _ _ c.args.column _ _ c.fields.ensures found.ensures.lookup.3.0 found.ensures.lookup.1
    found.field-0-is)
    c.in_ok-put_text-in-Some-Text.ensures

pub returns-in-Some-Val-Scalar-Overflow : goal.returns-in-Some-Val-Scalar-Overflow
returns-in-Some-Val-Scalar-Overflow c =
    let found = c.in-Some-Val-Scalar-Overflow in
    becomes_nothing c.args.cells.now c.args.item.now c.args.column _ c.requires
    (found_in _ _ c.args.column _ _ c.fields.ensures found.ensures.lookup.3.0 found.ensures.lookup.1
    (found.field-0-is ∙ ap field.Val (found.field-0-0-is ∙ ap value.Scalar found.field-0-0-0-is)))
    refl refl

pub returns-in-Some-Val-Scalar-DivZero : goal.returns-in-Some-Val-Scalar-DivZero
returns-in-Some-Val-Scalar-DivZero c =
    let found = c.in-Some-Val-Scalar-DivZero in
    becomes_nothing c.args.cells.now c.args.item.now c.args.column _ c.requires
    (found_in _ _ c.args.column _ _ c.fields.ensures found.ensures.lookup.3.0 found.ensures.lookup.1
    (found.field-0-is ∙ ap field.Val (found.field-0-0-is ∙ ap value.Scalar found.field-0-0-0-is)))
    refl refl

pub returns-in-Some-Val-Rec : goal.returns-in-Some-Val-Rec
returns-in-Some-Val-Rec c =
    let found = c.in-Some-Val-Rec in
    becomes_nothing c.args.cells.now c.args.item.now c.args.column _ c.requires
    (found_in _ _ c.args.column _ _ c.fields.ensures found.ensures.lookup.3.0 found.ensures.lookup.1
    (found.field-0-is ∙ ap field.Val found.field-0-0-is)) refl refl

pub returns-in-Some-Val-Table : goal.returns-in-Some-Val-Table
returns-in-Some-Val-Table c =
    let found = c.in-Some-Val-Table in
    becomes_nothing c.args.cells.now c.args.item.now c.args.column _ c.requires
    (found_in _ _ c.args.column _ _ c.fields.ensures found.ensures.lookup.3.0 found.ensures.lookup.1
    (found.field-0-is ∙ ap field.Val found.field-0-0-is)) refl refl

pub returns-in-None : goal.returns-in-None
returns-in-None c =
    let past : length c.fields.result.now ≤ c.args.column =
    ltb-false _ _ (sym c.in-None.ensures.lookup.0) in
    let none = slice_get_past c.fields.result.now c.args.column past in
    becomes_nothing c.args.cells.now c.args.item.now c.args.column None c.requires
    (rw c.fields.ensures at none) refl refl
