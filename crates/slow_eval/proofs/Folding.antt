-- A fold over pieces is one over all but the last, and then the last.
use Rattle.std.proofs.Common.{append_assoc, append-nil, ◌≡◌, ◌++◌, ◌∙◌, List, [], ◌∷◌, Some, refl}
use Rattle.std.proofs.Common.{sym, subst, ap, ◌⊎◌, inl, inr}
use Rattle.value_ops.specs.declared.value.Value.{Value}
use Rattle.expressions.specs.Expressions.{Expression}
use Rattle.rate_expr.specs.Words.{Word, join}
use Rattle.query_model.specs.Denotation.{Folds, on_both}

-- one more piece
pub fold_more : (D : Word → Value → Type 0) (expression : Expression)
    (pieces : List Word) (last : Word) (so_far x y v : Value) → Folds D expression so_far pieces x
    → D last y → on_both expression x y ≡ Some v → Folds D expression so_far (pieces ++ last ∷ []) v
fold_more D expression [] last so_far x y v folds den gives =
    (y, v, den, subst (λ a. on_both expression a y ≡ Some v) folds gives, refl)
fold_more D expression (piece ∷ pieces) last so_far x y v (z, next, first, made, folds) den gives =
    (z, next, first, made, fold_more D expression pieces last next x y v folds den gives)

-- a fold over all but the last piece, the value of the last, and what they give
abbrev pub IsFoldedOn : (Word → Value → Type 0) → Expression → Value → List Word → Word
    → Value → Type 0
IsFoldedOn D expression so_far pieces last v =
    (x : Value) × (y : Value) × Folds D expression so_far pieces x × D last y
    × (on_both expression x y ≡ Some v)

pub fold_less : (D : Word → Value → Type 0) (expression : Expression)
    (pieces : List Word) (last : Word) (so_far v : Value)
    → Folds D expression so_far (pieces ++ last ∷ []) v
    → IsFoldedOn D expression so_far pieces last v
fold_less D expression [] last so_far v (y, next, den, gives, folds) =
    (so_far, y, refl, den, subst (λ n. on_both expression so_far y ≡ Some n) (sym folds) gives)
fold_less D expression (piece ∷ pieces) last so_far v (z, next, first, made, folds) =
    let less = fold_less D expression pieces last next v folds in
    (less.0, less.1, (z, next, first, made, less.2), less.3, less.4)

-- the words one after the other
pub join_more : (pieces : List Word) (last : Word)
    → join (pieces ++ last ∷ []) ≡ join pieces ++ last
join_more [] last = append-nil last
join_more (piece ∷ pieces) last =
    ap (λ u. piece ++ u) (join_more pieces last) ∙ sym (append_assoc piece (join pieces) last)

-- there is a last piece, or none at all
pub last_piece : (pieces : List Word)
    → (pieces ≡ []) ⊎ ((front : List Word) × (last : Word) × (pieces ≡ front ++ last ∷ []))
last_piece [] = inl refl
last_piece (piece ∷ pieces) =
    elim (last_piece pieces) [
      | inl none ↦ inr ([], piece, ap (λ ps. piece ∷ ps) none)
      | inr (front, last, all) ↦ inr (piece ∷ front, last, ap (λ ps. piece ∷ ps) all)
    ]
