-- The expression is the record of its parts.
use Rattle.std.proofs.Common.{◌≡◌, IfOk, List, subst, sym}
use Rattle.expressions.specs.Expressions.{Expression}
use Rattle.expressions.proofs.RecordParts.{plain_record}
use Rattle.answer_units.specs.ExpressionScales.{scales_of, shown_names}
use Rattle.answer_units.specs.declared.scale.Scale.{Scale}
use Rattle.answer_units.proofs.RecordScales.{scales_of_list}
use Rattle.answer_units.proofs.names.Names.scales.Goals as goal

pub returns-in-Rec : goal.returns-in-Rec
returns-in-Rec c =
    subst (λ (plain : Expression). IfOk c.of_parts.result
    (λ scales. scales.items ≡ scales_of (shown_names c.args.self.now) plain))
    (sym (plain_record c.args.value.now c.in-Rec.parts c.as_slice.result.now c.in-Rec.is
    c.as_slice.ensures.parts))
    (subst (λ (all : List Scale). IfOk c.of_parts.result (λ scales. scales.items ≡ all))
    (scales_of_list (shown_names c.args.self.now) c.as_slice.result.now)
    c.of_parts.ensures)
