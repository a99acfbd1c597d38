-- Where a start that can continue does so: in a piece that is not ended, or after pieces that are.
use Rattle.std.proofs.Common.{◌≡◌, ℕ, ◌+◌, ◌∙◌, List, [], ◌∷◌, ◌++◌, drop, length, sym, ap, subst}
use Rattle.std.proofs.Common.{append-nil, ◌⊎◌, inl, inr}
use Rattle.std.specs.Prelude.{ℤ}
use Rattle.std.specs.List.{Contains}
use Rattle.expressions.specs.Expressions.{Expression}
use Rattle.item_schema.specs.declared.column.Column.{Column}
use Rattle.rate_expr.specs.Language.{In}
use Rattle.rate_expr.specs.Readings.{HasExtension}
use Rattle.rate_expr.specs.Words.{Word, IsWordOf}
use Rattle.rate_expr.proofs.Wording.{comparable, word_parts}
use Rattle.query_model.specs.Queries.{Qre, split, iter}
use Rattle.query_model.specs.Rates.{rate_of}
use Rattle.eval_nodes.specs.Starts.{ArePositions, IsLive, IsPiece}
use Rattle.eval_nodes.proofs.Chains.{crossed}
use Rattle.eval_nodes.proofs.Pieces.{split_piece}

-- a right piece continues from a position after a left piece of the start
abbrev pub ContinuesAt : List Column → Qre → Qre → Word → List ℕ → ℕ → ℕ → Type 0
ContinuesAt columns f g word starts start at =
    (piece : Word) × Contains starts start × IsPiece word start piece at
    × In (rate_of f) piece × HasExtension columns (rate_of g) (drop at word)

abbrev pub ContinuesRight : List Column → Qre → Qre → Word → List ℕ → ℕ → Type 0
ContinuesRight columns f g word starts start =
    (at : ℕ) × ContinuesAt columns f g word starts start at

-- a split continues in its left piece or in its right one
pub live_split : (columns : List Column) (f g : Qre) (e : Expression) (word : Word)
    (starts : List ℕ) (start : ℕ) → IsWordOf columns word → ArePositions word starts
    → IsLive columns (split f g e) word starts start
    → IsLive columns f word starts start ⊎ ContinuesRight columns f g word starts start
live_split columns f g e word starts start is positions
    (there, (item, more, more_is, (u, v, whole, in_f, in_g))) =
    elim (comparable (drop start word) (item ∷ more) u v whole) [
      | inl (t, longer, rest) ↦ left t longer rest
      | inr (t, longer, rest) ↦
          let cut = split_piece word start u t (positions start there) longer in
          inr (
            start + length u,
            (
              u,
              there,
              cut.0,
              in_f,
              (
                item,
                more,
                more_is,
                subst (In (rate_of g)) (rest ∙ ap (λ w. w ++ item ∷ more) (sym cut.1)) in_g,
              ),
            ),
          )
    ]
  where
    left : (t : Word) → u ≡ drop start word ++ t → item ∷ more ≡ t ++ v
        → IsLive columns f word starts start ⊎ ContinuesRight columns f g word starts start
    left [] longer rest =
        let same : u ≡ drop start word = longer ∙ append-nil (drop start word) in
        let cut = split_piece word start u [] (positions start there)
        (sym same ∙ sym (append-nil u)) in
        inr (
          start + length u,
          (
            u,
            there,
            cut.0,
            in_f,
            (
              item,
              more,
              more_is,
              subst (In (rate_of g)) (sym rest ∙ ap (λ w. w ++ item ∷ more) (sym cut.1)) in_g,
            ),
          ),
        )
    left (x ∷ t) longer rest =
        let parts = word_parts columns (x ∷ t) v (subst (IsWordOf columns) rest more_is) in
        inl (there, (x, t, parts.0, subst (In (rate_of f)) longer in_f))

-- an iter continues in the piece after some that are ended
pub live_iter : (columns : List Column) (f : Qre) (number : ℤ) (e : Expression) (word : Word)
    (starts : List ℕ) (start : ℕ) → ArePositions word starts
    → IsLive columns (iter f number e) word starts start
    → ContinuesRight columns (iter f number e) f word starts start
live_iter columns f number e word starts start positions
    (there, (item, more, more_is, (pieces, whole, each))) =
    let (first, second, same, in_pieces, continues) =
    crossed columns (rate_of f) pieces (drop start word) item more more_is whole each in
    let cut = split_piece word start first second (positions start there) same in (
      start + length first,
      (
        first,
        there,
        cut.0,
        in_pieces,
        subst (HasExtension columns (rate_of f)) (sym cut.1) continues,
      ),
    )
