-- As wide as it has parts.
use Rattle.std.proofs.Common.{◌≡◌, ◌∙◌, List, [], ◌∷◌, length, refl, ap, sym, arith}
use Rattle.expressions.specs.declared.expr.Expr.{Expr}
use Rattle.expressions.specs.Expressions.{count_of, plain_parts}
use Rattle.expressions.proofs.RecordParts.{plain_record}
use Rattle.query_model.specs.Bounds.{width_with}
use Rattle.memory_bound.proofs.bounds.width_with.Goals as goal

as_many : (parts : List Expr) → count_of (plain_parts parts) ≡ length parts
as_many [] = refl
as_many (first ∷ rest) = omega (arith, as_many rest)

pub returns-in-Rec : goal.returns-in-Rec
returns-in-Rec c =
    sym (ap (width_with c.args.left c.args.right)
    (plain_record c.args.value.now c.in-Rec.parts c.as_slice.result.now c.in-Rec.is
    c.as_slice.ensures.parts)
    ∙ as_many c.as_slice.result.now)
