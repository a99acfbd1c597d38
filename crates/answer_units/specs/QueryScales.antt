-- Statement. How many digits after the point the numbers have that a query gives.
use Rattle.std.specs.Prelude.{List, [], ◌∷◌, map}
use Rattle.std.specs.List.{zip}
use Rattle.expressions.specs.Expressions.{Expression}
use Rattle.query_model.specs.Queries.{Qre, atom, eps, choice, split, iter, combine, apply, compose}
use Rattle.query_model.specs.Queries.{collect}
use Rattle.answer_units.specs.ExpressionScales.{names_of, scale_of, scales_of}
use Rattle.answer_units.specs.Scales.{alike}
use Rattle.answer_units.specs.declared.scale.Scale.{Scale}
use Rattle.answer_units.specs.declared.scale.Scale.TheVariants.{Any}

-- the scales of a value that is one of two
abbrev pub each_alike : List Scale → List Scale → List Scale
each_alike first second = map (λ pair. alike pair.0 pair.1) (zip first second)

-- what an expression gives for the value so far of a fold, and for the value of a piece
abbrev pub step_scale : Expression → List Scale → Scale → Scale
step_scale expression piece so_far = scale_of (names_of [] (so_far ∷ []) piece) expression

-- The scale of a fold that begins with a constant: what its expression gives then, which is to be
-- the same after each further piece.
abbrev pub fold_scale : Expression → List Scale → Scale
fold_scale expression piece =
    let once : Scale = step_scale expression piece Any in
    alike once (step_scale expression piece once)

-- the scales of the values of a query, from those of the columns
abbrev pub query_scales : List Scale → Qre → List Scale
query_scales columns (atom pred expression) = scales_of (names_of columns [] []) expression
query_scales columns (eps number) = Any ∷ []
query_scales columns (choice f g) = each_alike (query_scales columns f) (query_scales columns g)
query_scales columns (split f g expression) =
    scales_of (names_of [] (query_scales columns f) (query_scales columns g)) expression
query_scales columns (iter f number expression) =
    fold_scale expression (query_scales columns f) ∷ []
query_scales columns (combine f g expression) =
    scales_of (names_of [] (query_scales columns f) (query_scales columns g)) expression
query_scales columns (apply f expression) =
    scales_of (names_of [] (query_scales columns f) []) expression
query_scales columns (compose f g) = query_scales (query_scales columns f) g
query_scales columns (collect chosen sync rate f) = query_scales columns f
