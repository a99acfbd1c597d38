-- Starts of operands are apart where those of the query are.
use Rattle.std.proofs.Common.{◌≡◌, ℕ, ◌∙◌, List, ◌++◌, drop, length, sym, ap, subst, arith}
use Rattle.std.proofs.Common.{append_assoc, inl, inr}
use Rattle.std.specs.List.{Contains}
use Rattle.expressions.specs.Expressions.{Expression}
use Rattle.item_schema.specs.declared.column.Column.{Column}
use Rattle.rate_expr.specs.Language.{In}
use Rattle.rate_expr.specs.Words.{Word, IsWordOf}
use Rattle.query_model.specs.Queries.{Qre, choice, split, combine}
use Rattle.query_model.specs.Rates.{rate_of}
use Rattle.query_model.specs.Rules.{bound, IsClear}
use Rattle.eval_nodes.specs.Starts.{AreApart, IsPiece}
use Rattle.eval_nodes.proofs.Pieces.{piece_continues, word_after, word_join}
use Rattle.eval_nodes.proofs.SomeWords.{some_word}

-- a piece in the rate of a query, from a start to the position
abbrev pub IsReached : Qre → Word → List ℕ → ℕ → Type 0
IsReached f word starts end = (start : ℕ) × (piece : Word) × Contains starts start
    × IsPiece word start piece end × In (rate_of f) piece

pub apart_first : (columns : List Column) (f g : Qre) (word : Word) (starts : List ℕ)
    → AreApart columns (choice f g) word starts → AreApart columns f word starts
apart_first columns f g word starts apart = λ i j more is first second a b.
    apart i j more is first second (inl a) (inl b)

pub apart_second : (columns : List Column) (f g : Qre) (word : Word) (starts : List ℕ)
    → AreApart columns (choice f g) word starts → AreApart columns g word starts
apart_second columns f g word starts apart = λ i j more is first second a b.
    apart i j more is first second (inr a) (inr b)

-- the operands of a combine have the same words
pub apart_same : (columns : List Column) (f g : Qre) (e : Expression) (word : Word)
    (starts : List ℕ) → IsClear bound columns (combine f g e) → IsWordOf columns word
    → AreApart columns (combine f g e) word starts → AreApart columns g word starts
apart_same columns f g e word starts clear is apart = λ i j more more_is first second a b.
    apart i j more more_is first second
    ((clear.3 (drop i word ++ more)
    (word_join columns (drop i word) more (word_after columns word i is) more_is)).1 a)
    ((clear.3 (drop j word ++ more)
    (word_join columns (drop j word) more (word_after columns word j is) more_is)).1 b)

-- a word of the right rate carries a clash of left pieces on
pub apart_left : (columns : List Column) (f g : Qre) (e : Expression) (word : Word)
    (starts : List ℕ) → IsClear bound columns g → AreApart columns (split f g e) word starts
    → AreApart columns f word starts
apart_left columns f g e word starts clear apart = λ i j more is first second a b.
    let last = some_word bound columns g clear in
    apart i j (more ++ last.0) (word_join columns more last.0 is last.1) first second
    (drop i word ++ more, last.0, sym (append_assoc (drop i word) more last.0), a, last.2)
    (drop j word ++ more, last.0, sym (append_assoc (drop j word) more last.0), b, last.2)

-- right pieces come from one start, and there is one split
pub apart_right : (columns : List Column) (f g : Qre) (e : Expression) (word : Word)
    (starts ends : List ℕ) → IsClear bound columns (split f g e) → IsWordOf columns word
    → AreApart columns (split f g e) word starts
    → ((end : ℕ) → Contains ends end → IsReached f word starts end) → AreApart columns g word ends
apart_right columns f g e word starts ends clear is apart reached =
    λ j k more more_is first second a b.
    let (i, u, from, piece, in_f) = reached j first in
    let (i', u', from', piece', in_f') = reached k second in
    let whole = piece_continues word i j u more piece in
    let whole' = piece_continues word i' k u' more piece' in
    let same : i ≡ i' = apart i i' more more_is from from'
    (u, drop j word ++ more, whole, in_f, a) (u', drop k word ++ more, whole', in_f', b) in
    let both : u ++ (drop j word ++ more) ≡ u' ++ (drop k word ++ more) =
    sym whole ∙ ap (λ at. drop at word ++ more) same ∙ whole' in
    let words = word_join columns (drop i word) more (word_after columns word i is) more_is in
    let firsts : u ≡ u' = clear.3 u (drop j word ++ more) u' (drop k word ++ more)
    (subst (IsWordOf columns) whole words) in_f a in_f' b both in
    let ends_at = piece.end in
    let ends_at' = piece'.end in
    let lengths = ap length firsts in
    omega (arith, same, ends_at, ends_at', lengths)
