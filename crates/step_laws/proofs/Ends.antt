-- Where left pieces end: before the end of the word, and with those that end there.
use Rattle.std.proofs.Common.{◌≡◌, ◌≤◌, ◌<◌, ◌↔◌, ℕ, ◌∙◌, List, [], ◌∷◌, ◌++◌, drop, length, sym}
use Rattle.std.proofs.Common.{subst, arith, ◌⊎◌, inl, inr, eq-or-lt_of_le}
use Rattle.std.specs.List.{Contains}
use Rattle.std.proofs.lemmas.List.Elements.{Contains-append_left, Contains-push}
use Rattle.std.proofs.lemmas.List.Elements.{Contains-push_cases}
use Rattle.value_ops.specs.declared.field.Field.{Field}
use Rattle.rate_expr.specs.Words.{Word}
use Rattle.eval_nodes.specs.Represents.{AreReached}
use Rattle.eval_nodes.specs.Starts.{IsPiece}
use Rattle.eval_nodes.proofs.Pieces.{empty_is, end_is, end_piece, length_more, piece_less}
use Rattle.eval_nodes.proofs.Pieces.{piece_more}

-- the positions before the end of the word at which pieces of the set end
abbrev pub AreReachedBefore : (Word → Type 0) → Word → List ℕ → List ℕ → Type 0
AreReachedBefore A word starts ends = (end : ℕ) → Contains ends end
    ↔ ((start : ℕ) × (piece : Word) × Contains starts start × IsPiece word start piece end
    × (end < length word) × A piece)

-- no piece to the end is in the set
abbrev pub NoneAtEnd : (Word → Type 0) → Word → List ℕ → Type 0
NoneAtEnd A word starts = (start : ℕ) → Contains starts start → A (drop start word) → ⊥

pub before_end : (word : Word) (end : ℕ) → end ≤ length word
    → (end < length word) ⊎ (end ≡ length word)
before_end word end inside = less end (length word) inside
  where
    less : (m n : ℕ) → m ≤ n → (m < n) ⊎ (m ≡ n)
    less m n le = elim (eq-or-lt_of_le le) [
      | inl same ↦ inr same
      | inr below ↦ inl below
    ]

-- one more item
pub reached_more : (A : Word → Type 0) (word : Word) (item : List Field) (starts ends : List ℕ)
    → AreReached A word starts ends → AreReachedBefore A (word ++ item ∷ []) starts ends
reached_more A word item starts ends reached = λ end. (
  λ there. let (start, piece, from, is, in_a) = (reached end).0 there in
      let inside = is.inside in
      let more = length_more word item in (
        start,
        piece,
        from,
        piece_more word item start end piece is,
        omega (arith, inside, more),
        in_a,
      ),
  λ (start, piece, from, is, below, in_a).
      let more = length_more word item in
      (reached end).1 (
        start,
        piece,
        from,
        piece_less word item start end piece is (omega (arith, below, more)),
        in_a,
      ),
)

pub reached_all : (A : Word → Type 0) (word : Word) (starts ends : List ℕ)
    → AreReachedBefore A word starts ends → NoneAtEnd A word starts → AreReached A word starts ends
reached_all A word starts ends before none = λ end. (
  λ there. let (start, piece, from, is, below, in_a) = (before end).0 there in
      (start, piece, from, is, in_a),
  λ (start, piece, from, is, in_a). elim (before_end word end is.inside) [
    | inl below ↦ (before end).1 (start, piece, from, is, below, in_a)
    | inr last ↦ absurd (none start from (subst A (end_is word start end piece is last) in_a))
  ],
)

pub reached_end : (A : Word → Type 0) (word : Word) (starts ends : List ℕ) (begun : ℕ)
    → AreReachedBefore A word starts ends → Contains starts begun → begun ≤ length word
    → A (drop begun word) → AreReached A word starts (ends ++ length word ∷ [])
reached_end A word starts ends begun before there inside in_a = λ end. (
  λ among. elim (Contains-push_cases ends (length word) end among) [
    | inl old ↦ let (start, piece, from, is, below, in_b) = (before end).0 old in
        (start, piece, from, is, in_b)
    | inr last ↦ (
      begun,
      drop begun word,
      there,
      subst (IsPiece word begun (drop begun word)) last (end_piece word begun inside),
      in_a,
    )
  ],
  λ (start, piece, from, is, in_b). elim (before_end word end is.inside) [
    | inl below ↦ Contains-append_left ends (length word ∷ []) end
        ((before end).1 (start, piece, from, is, below, in_b))
    | inr last ↦ subst (Contains (ends ++ length word ∷ [])) (sym last)
        (Contains-push ends (length word))
  ],
)

-- a new start at the end, which has no piece in the set, or the empty one
pub reached_same : (A : Word → Type 0) (word : Word) (starts ends : List ℕ) (at : ℕ)
    → at ≡ length word → (A [] → ⊥) → AreReached A word starts ends
    → AreReached A word (starts ++ at ∷ []) ends
reached_same A word starts ends at last none reached = λ end. (
  λ there. let (start, piece, from, is, in_a) = (reached end).0 there in
      (start, piece, Contains-append_left starts (at ∷ []) start from, is, in_a),
  λ (start, piece, from, is, in_a). elim (Contains-push_cases starts at start from) [
    | inl old ↦ (reached end).1 (start, piece, old, is, in_a)
    | inr new ↦ absurd (none (subst A (empty_is word start end piece is (sym new ∙ last)).0 in_a))
  ],
)

pub reached_new : (A : Word → Type 0) (word : Word) (starts ends : List ℕ) (at : ℕ)
    → at ≡ length word → NoneAtEnd A word starts → AreReached A word starts ends
    → AreReachedBefore A word (starts ++ at ∷ []) ends
reached_new A word starts ends at last none reached = λ end. (
  λ there. let (start, piece, from, is, in_a) = (reached end).0 there in
      elim (before_end word end is.inside) [
        | inl below ↦
            (start, piece, Contains-append_left starts (at ∷ []) start from, is, below, in_a)
        | inr same ↦ absurd (none start from (subst A (end_is word start end piece is same) in_a))
      ],
  λ (start, piece, from, is, below, in_a). elim (Contains-push_cases starts at start from) [
    | inl old ↦ (reached end).1 (start, piece, old, is, in_a)
    | inr new ↦ let same = (empty_is word start end piece is (sym new ∙ last)).1 in
        absurd (omega (arith, new, last, below, same))
  ],
)
