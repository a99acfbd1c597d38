-- The scales of the parts of a record, by the list of its parts.
use Rattle.std.proofs.Common.{◌≡◌, List, [], ◌∷◌, map, refl, ap}
use Rattle.expressions.specs.declared.expr.Expr.{Expr}
use Rattle.expressions.specs.Expressions.{plain_of, plain_parts}
use Rattle.answer_units.specs.ExpressionScales.{Names, part_scales, scale_of}
use Rattle.answer_units.specs.declared.scale.Scale.{Scale}

-- each part has its scale
pub scales_of_list : (names : Names) (parts : List Expr)
    → map (λ part. scale_of names (plain_of part)) parts ≡ part_scales names (plain_parts parts)
scales_of_list names [] = refl
scales_of_list names (part ∷ parts) =
    ap (λ (rest : List Scale). scale_of names (plain_of part) ∷ rest) (scales_of_list names parts)
