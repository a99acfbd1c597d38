use Rattle.std.proofs.Common.{◌≡◌, List, [], sym, ◌∙◌, ◌∷◌, ap, subst, of_z, to_z, rules, w64}
use Rattle.std.specs.Prelude.{ℤ, FitsSigned, Ok}
use Rattle.std.proofs.lemmas.Int.{to_z-of_z}
use Rattle.value_ops.specs.declared.field.Field.{Field}
use Rattle.std.proofs.lemmas.Result.{IfOk-weaker}
use Rattle.value_ops.specs.declared.field.Field.TheVariants.{Int}
use Rattle.value_ops.proofs.Texts.{text_from_bytes}
use Rattle.item_schema.specs.Items.{IsItemOf}
use Rattle.line_reader.proofs.Items.{item_is_of}
use Rattle.line_reader.proofs.item_reader.read_item.Goals as goal

-- the item of the number, which is in range
pub item_of_number : (item : List Field) (number : ℤ) → FitsSigned w64 number
    → item ≡ Int (to_z w64 (of_z w64 number)) ∷ [] → item ≡ Int number ∷ []
item_of_number item number fits is =
    let same : to_z w64 (of_z w64 number) ≡ number = to_z-of_z w64 number fits in
    is ∙ ap (λ (n : ℤ). Int n ∷ []) same

pub returns-in-Some-clause-item : goal.returns-in-Some-clause-item
returns-in-Some-clause-item c =
    c.in-Some.ensures
    ∙ ap Ok
    (sym (item_of_number c.from_field.result c.in-Some.number (search rules) c.from_field.ensures))

pub returns-in-Some-clause-of_schema : goal.returns-in-Some-clause-of_schema
returns-in-Some-clause-of_schema c =
    subst (IsItemOf c.args.schema.now.columns)
    (sym (item_of_number c.from_field.result c.in-Some.number (search rules) c.from_field.ensures))
    (item_is_of c.args.schema.now.columns c.args.line.now (Int c.in-Some.number ∷ [])
    (text_from_bytes c.args.line.now c.type_inv.line) c.in-Some.ensures)

pub returns-in-None-clause-of_schema : goal.returns-in-None-clause-of_schema
returns-in-None-clause-of_schema c =
    let bytes = text_from_bytes c.args.line.now c.type_inv.line in
    IfOk-weaker c.line_item.result _ _
    (λ item is. item_is_of c.args.schema.now.columns c.args.line.now item bytes is)
    c.line_item.ensures.item
