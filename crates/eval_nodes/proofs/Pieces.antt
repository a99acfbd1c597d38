-- Pieces of words, and how they stay where one more item goes by.
use Rattle.std.proofs.Common.{◌≡◌, ◌≤◌, ℕ, ◌+◌, ◌-◌, ◌∙◌, List, [], ◌∷◌, ◌++◌, drop, take, length}
use Rattle.std.proofs.Common.{refl, sym, ap, subst, arith, append_assoc, append-nil, length-append}
use Rattle.std.proofs.Common.{length-drop, drop-drop, take-append-drop}
use Rattle.std.proofs.lemmas.List.{append_cancel_right, drop-append-le, drop_all, drop_at}
use Rattle.value_ops.specs.declared.field.Field.{Field}
use Rattle.item_schema.specs.declared.column.Column.{Column}
use Rattle.rate_expr.specs.Words.{Word, IsWordOf}
use Rattle.rate_expr.proofs.Wording.{word_parts}
use Rattle.eval_nodes.specs.Starts.{IsPiece}

-- one more item
pub length_more : (word : Word) (item : List Field) → length (word ++ item ∷ []) ≡ length word + 1
length_more word item = length-append word (item ∷ [])

-- no item is after the end
pub after_end : (word : Word) (at : ℕ) → at ≡ length word → drop at word ≡ []
after_end word at end = drop_all at word (omega (arith, end))

-- an empty word after a position: it is the end
pub at_end : (word : Word) (at : ℕ) → at ≤ length word → drop at word ≡ [] → at ≡ length word
at_end word at inside none =
    let count : length (drop at word) ≡ length word - at = length-drop at word in
    let empty : length (drop at word) ≡ 0 = ap length none in
    omega (arith, inside, count, empty)

pub drop_more : (word : Word) (item : List Field) (at : ℕ) → at ≤ length word
    → drop at (word ++ item ∷ []) ≡ drop at word ++ item ∷ []
drop_more word item at inside = drop-append-le at word (item ∷ []) inside

-- what is after a piece, with more after it
pub piece_continues : (word : Word) (from to : ℕ) (piece more : Word) → IsPiece word from piece to
    → drop from word ++ more ≡ piece ++ (drop to word ++ more)
piece_continues word from to piece more is =
    ap (λ u. u ++ more) is.cut ∙ append_assoc piece (drop to word) more

pub begins_inside : (word : Word) (from to : ℕ) (piece : Word) → IsPiece word from piece to
    → from ≤ length word
begins_inside word from to piece is = let end = is.end in let inside = is.inside in
    omega (arith, end, inside)

pub piece_more : (word : Word) (item : List Field) (from to : ℕ) (piece : Word)
    → IsPiece word from piece to → IsPiece (word ++ item ∷ []) from piece to
piece_more word item from to piece is =
    let inside = is.inside in
    let more = length_more word item in
    record {
      end = is.end;
      inside = omega (arith, inside, more);
      cut = drop_more word item from (begins_inside word from to piece is)
          ∙ piece_continues word from to piece (item ∷ []) is
          ∙ ap (λ u. piece ++ u) (sym (drop_more word item to inside));
    }

pub piece_less : (word : Word) (item : List Field) (from to : ℕ) (piece : Word)
    → IsPiece (word ++ item ∷ []) from piece to → to ≤ length word → IsPiece word from piece to
piece_less word item from to piece is inside =
    let end = is.end in
    let first : from ≤ length word = omega (arith, end, inside) in
    let same : drop from word ++ item ∷ [] ≡ (piece ++ drop to word) ++ item ∷ [] =
    sym (drop_more word item from first) ∙ is.cut
    ∙ ap (λ u. piece ++ u) (drop_more word item to inside)
    ∙ sym (append_assoc piece (drop to word) (item ∷ [])) in
    record {
      end = end;
      inside = inside;
      cut = append_cancel_right (drop from word) (piece ++ drop to word) (item ∷ []) same;
    }

-- the piece to the end
pub end_piece : (word : Word) (from : ℕ) → from ≤ length word
    → IsPiece word from (drop from word) (length word)
end_piece word from inside =
    let count : length (drop from word) ≡ length word - from = length-drop from word in
    record {
      end = omega (arith, inside, count);
      inside = omega arith;
      cut = sym (append-nil (drop from word))
          ∙ ap (λ u. drop from word ++ u) (sym (after_end word (length word) refl));
    }

pub end_is : (word : Word) (from to : ℕ) (piece : Word) → IsPiece word from piece to
    → to ≡ length word → piece ≡ drop from word
end_is word from to piece is end =
    sym (append-nil piece) ∙ ap (λ u. piece ++ u) (sym (after_end word to end)) ∙ sym is.cut

-- the piece from the end is empty
pub empty_is : (word : Word) (from to : ℕ) (piece : Word) → IsPiece word from piece to
    → from ≡ length word → (piece ≡ []) × (to ≡ from)
empty_is word from to piece is end =
    let ends = is.end in
    let inside = is.inside in
    let none : length piece ≡ 0 = omega (arith, ends, inside, end) in
    (nothing piece none, omega (arith, ends, none))
  where
    nothing : (u : Word) → length u ≡ 0 → u ≡ []
    nothing [] none = refl
    nothing (x ∷ u) none = absurd (omega (arith, none))

-- what is after a position in two parts
pub split_piece : (word : Word) (from : ℕ) (first second : Word) → from ≤ length word
    → drop from word ≡ first ++ second
    → IsPiece word from first (from + length first) × (drop (from + length first) word ≡ second)
split_piece word from first second inside whole =
    let count : length (drop from word) ≡ length word - from = length-drop from word in
    let both : length (drop from word) ≡ length first + length second =
    ap length whole ∙ length-append first second in
    let rest : drop (from + length first) word ≡ second =
    sym (drop-drop (length first) from word) ∙ ap (drop (length first)) whole
    ∙ drop_at first second (length first) refl in (
      record {
        end = refl;
        inside = omega (arith, inside, count, both);
        cut = whole ∙ ap (λ u. first ++ u) (sym rest);
      },
      rest,
    )

-- a last item
pub one_item : (word : Word) (item other : List Field) → word ++ item ∷ [] ≡ other ∷ []
    → (word ≡ []) × (item ≡ other)
one_item [] item other same = (refl, cc)
one_item (x ∷ word) item other same =
    let longer = ap length same in
    let count = length-append word (item ∷ []) in
    absurd (omega (arith, longer, count))

-- an item is not the empty word, and before a last item there is none
pub some_item : (word : Word) (item : List Field) (more : Word) → word ++ item ∷ more ≡ [] → ⊥
some_item [] item more same = cc
some_item (x ∷ word) item more same = cc

pub none_before : (word : Word) (item other : List Field) (more : Word)
    → word ++ item ∷ more ≡ other ∷ [] → word ≡ []
none_before [] item other more same = refl
none_before (x ∷ word) item other more same =
    let tails : word ++ item ∷ more ≡ [] = cc in absurd (some_item word item more tails)

-- parts of words of a stream, and two one after the other
pub word_after : (columns : List Column) (word : Word) (at : ℕ) → IsWordOf columns word
    → IsWordOf columns (drop at word)
word_after columns word at is =
    (word_parts columns (take at word) (drop at word)
    (subst (IsWordOf columns) (sym (take-append-drop at word)) is)).1

pub word_join : (columns : List Column) (u v : Word) → IsWordOf columns u → IsWordOf columns v
    → IsWordOf columns (u ++ v)
word_join columns [] v first second = second
word_join columns (x ∷ u) v first second = (first.0, word_join columns u v first.1 second)

-- a piece of a word of the stream
pub word_piece : (columns : List Column) (word : Word) (from to : ℕ) (piece : Word)
    → IsWordOf columns word → IsPiece word from piece to → IsWordOf columns piece
word_piece columns word from to piece is cut =
    (word_parts columns piece (drop to word)
    (subst (IsWordOf columns) cut.cut (word_after columns word from is))).0
