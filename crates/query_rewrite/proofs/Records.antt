-- The parts of a record, each reduced or filled.
use Rattle.std.proofs.Common.{◌≡◌, ◌∙◌, ◌≤◌, ℕ, List, [], ◌∷◌, length, map, take, refl, ap}
use Rattle.std.proofs.lemmas.List.{take_all}
use Rattle.expressions.specs.declared.expr.Expr.{Expr, Rec}
use Rattle.expressions.specs.Expressions.{Expression, rec, more, all_of, plain_of, plain_parts}
use Rattle.expressions.proofs.RecordParts.{rec_of}
use Rattle.query_rewrite.specs.Filling.{each_filled, filled}
use Rattle.query_rewrite.specs.Reducing.{each_reduced, reduced}

each_of : (parts : List Expr)
    → all_of (map (λ part. reduced (plain_of part)) parts) ≡ each_reduced (plain_parts parts)
each_of [] = refl
each_of (first ∷ rest) = ap (more (reduced (plain_of first))) (each_of rest)

-- all parts reduced make the reduced record
pub reduced_all : (parts made shown : List Expr) (i : ℕ) → length parts ≤ i → shown ≡ made
    → map plain_of made ≡ map (λ part. reduced (plain_of part)) (take i parts)
    → plain_of (Rec shown) ≡ rec (each_reduced (plain_parts parts))
reduced_all parts made shown i end is so_far =
    rec_of shown
    ∙ ap (λ (es : List Expr). rec (plain_parts es)) is
    ∙ ap (λ (es : List Expression). rec (all_of es))
    (so_far ∙ ap (map (λ (part : Expr). reduced (plain_of part))) (take_all i parts end))
    ∙ ap rec (each_of parts)

each_with : (inner : Expression) (parts : List Expr)
    → all_of (map (λ part. filled inner (plain_of part)) parts)
    ≡ each_filled inner (plain_parts parts)
each_with inner [] = refl
each_with inner (first ∷ rest) = ap (more (filled inner (plain_of first))) (each_with inner rest)

-- all parts filled make the filled record
pub filled_all : (inner : Expression) (parts made shown : List Expr) (i : ℕ) → length parts ≤ i
    → shown ≡ made → map plain_of made ≡ map (λ part. filled inner (plain_of part)) (take i parts)
    → plain_of (Rec shown) ≡ rec (each_filled inner (plain_parts parts))
filled_all inner parts made shown i end is so_far =
    rec_of shown
    ∙ ap (λ (es : List Expr). rec (plain_parts es)) is
    ∙ ap (λ (es : List Expression). rec (all_of es))
    (so_far ∙ ap (map (λ (part : Expr). filled inner (plain_of part))) (take_all i parts end))
    ∙ ap rec (each_with inner parts)
