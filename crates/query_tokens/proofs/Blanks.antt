-- The length of the blank at the front of bytes.
use Rattle.std.proofs.Common.{◌≡◌, ℕ, suc, ◌+◌, ◌≢◌, ◌⊎◌, inl, inr, Bool, true, false, cond, ◌==◌}
use Rattle.std.proofs.Common.{List, [], ◌∷◌, ◌++◌, length, All, refl, sym, ap, ◌∙◌, subst, one-add}
use Rattle.std.proofs.Common.{zero-add, add-zero, arith}
use Rattle.std.specs.List.{flat_map, AllByRecursion}
use Rattle.std.proofs.lemmas.Bool.Decides.{nat_tests}
use Rattle.std.proofs.lemmas.Grind.{common_steps}
use Rattle.std.proofs.lemmas.List.{append_assoc, append-nil, length-append}
use Rattle.std.proofs.lemmas.List.Elements.{All-nil, All-cons, All-head, All-tail}
use Rattle.query_tokens.specs.Raw.{is_space, IsBlankPiece, IsBlank, IsBlankToEnd, BeginsNoBlank}
use Rattle.query_tokens.specs.Front.{IsBlankLength}

-- how many bytes at the front are blank, where a comment may be under way
abbrev pub blank_from : Bool → List ℕ → ℕ
blank_from in_comment [] = 0
blank_from true (byte ∷ rest) = suc (blank_from (cond (byte == 10) false true) rest)
blank_from false (byte ∷ rest) =
    cond (byte == 35) (suc (blank_from true rest))
    (cond (is_space byte) (suc (blank_from false rest)) 0)

-- no bytes are blank
IsBlank-nil : IsBlank []
IsBlank-nil = record { pieces = []; each = tt; whole = refl }

-- a piece before blank
IsBlank-cons : (piece blank : List ℕ) → IsBlankPiece piece → IsBlank blank
    → IsBlank (piece ++ blank)
IsBlank-cons piece blank is_piece is_blank = record {
  pieces = piece ∷ is_blank.pieces;
  each = (is_piece, is_blank.each);
  whole = ap (λ b. piece ++ b) is_blank.whole;
}

-- a piece before blank that goes to the end
IsBlankToEnd-cons : (piece bytes : List ℕ) → IsBlankPiece piece → IsBlankToEnd bytes
    → IsBlankToEnd (piece ++ bytes)
IsBlankToEnd-cons piece bytes is_piece to_end = record {
  front = piece ++ to_end.front;
  blank = IsBlank-cons piece to_end.front is_piece to_end.blank;
  last = elim to_end.last [
    | inl all ↦ inl (ap (λ b. piece ++ b) all)
    | inr rest ↦ inr (
      rest.0,
      rest.1,
      ap (λ b. piece ++ b) rest.2 ∙ sym (append_assoc piece to_end.front (35 ∷ rest.0)),
    )
  ];
}

-- a piece makes the blank longer
IsBlankLength-cons : (piece bytes : List ℕ) (len : ℕ) → IsBlankPiece piece → IsBlankLength bytes len
    → IsBlankLength (piece ++ bytes) (length piece + len)
IsBlankLength-cons piece bytes len is_piece (inl (all, to_end)) =
    inl (
      ap (λ n. length piece + n) all ∙ sym (length-append piece bytes),
      IsBlankToEnd-cons piece bytes is_piece to_end,
    )
IsBlankLength-cons piece bytes len is_piece (inr up_to) = inr (record {
  blank = piece ++ up_to.blank;
  rest = up_to.rest;
  split = ap (λ b. piece ++ b) up_to.split ∙ sym (append_assoc piece up_to.blank up_to.rest);
  is_blank = IsBlank-cons piece up_to.blank is_piece up_to.is_blank;
  no_blank = up_to.no_blank;
  is = ap (λ n. length piece + n) up_to.is ∙ sym (length-append piece up_to.blank);
})

-- a comment that goes to the end
comment_to_end : (comment : List ℕ) → All (λ b. b ≢ 10) comment
    → IsBlankLength (35 ∷ comment) (suc (length comment))
comment_to_end comment no_lf =
    inl (refl, record { front = []; blank = IsBlank-nil; last = inr (comment, no_lf, refl) })

-- the comment ends at an LF and blank of some length follows
pub record Ended (comment bytes : List ℕ) (len : ℕ) : Type 0 where
  pub rest : List ℕ
  pub more : ℕ
  pub split : bytes ≡ comment ++ 10 ∷ rest
  pub blank : IsBlankLength rest more
  pub is : len ≡ length comment + 1 + more

-- the rest of a comment, and the blank after it
abbrev pub InComment : List ℕ → ℕ → Type 0
InComment bytes len = (comment : List ℕ) × All (λ b. b ≢ 10) comment
    × (((bytes ≡ comment) × (len ≡ length bytes)) ⊎ Ended comment bytes len)

-- a byte more of the comment
InComment-cons : (byte : ℕ) (bytes : List ℕ) (len : ℕ) → byte ≢ 10 → InComment bytes len
    → InComment (byte ∷ bytes) (suc len)
InComment-cons byte bytes len other (comment, no_lf, inl (all, is)) = (
  byte ∷ comment,
  All-cons (λ b. b ≢ 10) byte comment other no_lf,
  inl (ap (λ b. byte ∷ b) all, ap suc is),
)
InComment-cons byte bytes len other (comment, no_lf, inr ended) = (
  byte ∷ comment,
  All-cons (λ b. b ≢ 10) byte comment other no_lf,
  inr (record {
    rest = ended.rest;
    more = ended.more;
    split = ap (λ b. byte ∷ b) ended.split;
    blank = ended.blank;
    is = omega (arith, ended.is);
  }),
)

-- the LF ends the comment
InComment-lf : (byte : ℕ) (bytes : List ℕ) (len : ℕ) → byte ≡ 10 → IsBlankLength bytes len
    → InComment (byte ∷ bytes) (suc len)
InComment-lf byte bytes len lf blank = (
  [],
  All-nil (λ b. b ≢ 10),
  inr (record {
    rest = bytes;
    more = len;
    split = rw lf refl;
    blank = blank;
    is = omega arith;
  }),
)

-- a `#` begins a comment
begun : (byte : ℕ) (bytes : List ℕ) (len : ℕ) → byte ≡ 35 → InComment bytes len
    → IsBlankLength (byte ∷ bytes) (suc len)
begun byte bytes len hash (comment, no_lf, inl (all, is)) =
    rw (hash, is, all) (comment_to_end comment no_lf)
begun byte bytes len hash (comment, no_lf, inr ended) =
    let piece = 35 ∷ comment ++ 10 ∷ [] in
    let split : byte ∷ bytes ≡ piece ++ ended.rest =
    rw (hash, ended.split) (sym (append_assoc (35 ∷ comment) (10 ∷ []) ended.rest)) in
    let long : suc len ≡ length piece + ended.more =
    rw (length-append (35 ∷ comment) (10 ∷ [])) (omega (arith, ended.is)) in
    let made = IsBlankLength-cons piece ended.rest ended.more
    (inr (comment, no_lf, refl)) ended.blank in
    subst (λ b. IsBlankLength b (suc len)) (sym split)
    (subst (λ n. IsBlankLength (piece ++ ended.rest) n) (sym long) made)

-- what `blank_from` counts
abbrev pub Counts : Bool → List ℕ → ℕ → Type 0
Counts true bytes len = InComment bytes len
Counts false bytes len = IsBlankLength bytes len

pub counts : (in_comment : Bool) (bytes : List ℕ)
    → Counts in_comment bytes (blank_from in_comment bytes)
counts true [] = ([], All-nil (λ b. b ≢ 10), inl (refl, refl))
counts false [] = inl (refl, record { front = []; blank = IsBlank-nil; last = inl refl })
counts true (byte ∷ rest) =
    at_byte byte rest (byte == 10) refl (counts true rest) (counts false rest)
  where
    at_byte : (byte : ℕ) (rest : List ℕ) (lf : Bool) → (byte == 10) ≡ lf
        → InComment rest (blank_from true rest) → IsBlankLength rest (blank_from false rest)
        → InComment (byte ∷ rest) (suc (blank_from (cond lf false true) rest))
    at_byte byte rest true is on off = InComment-lf byte rest _ (grind (arith, nat_tests)) off
    at_byte byte rest false is on off = InComment-cons byte rest _ (grind (arith, nat_tests)) on
counts false (byte ∷ rest) =
    at_byte byte rest (byte == 35) (is_space byte) refl refl (counts true rest) (counts false rest)
  where
    at_byte : (byte : ℕ) (rest : List ℕ) (hash space : Bool)
        → (byte == 35) ≡ hash → is_space byte ≡ space → InComment rest (blank_from true rest)
        → IsBlankLength rest (blank_from false rest) → IsBlankLength (byte ∷ rest)
        (cond hash (suc (blank_from true rest)) (cond space (suc (blank_from false rest)) 0))
    at_byte byte rest true space h s on off = begun byte rest _ (grind (arith, nat_tests)) on
    at_byte byte rest false true h s on off =
        rw one-add at (IsBlankLength-cons (byte ∷ []) rest _ (inl (byte, s, refl)) off)
    at_byte byte rest false false h s on off = inr (record {
      blank = [];
      rest = byte ∷ rest;
      split = refl;
      is_blank = IsBlank-nil;
      no_blank = (s, grind (arith, nat_tests));
      is = refl;
    })

-- blank at the front is counted whole
comment_counts : (comment rest : List ℕ) → All (λ b. b ≢ 10) comment
    → blank_from true (comment ++ 10 ∷ rest) ≡ length comment + suc (blank_from false rest)
comment_counts [] rest no_lf = sym (zero-add (suc (blank_from false rest)))
comment_counts (b ∷ comment) rest no_lf =
    let other : (b == 10) ≡ false =
    let h = All-head (λ c. c ≢ 10) b comment no_lf in grind (arith, nat_tests) in
    let more = comment_counts comment rest (All-tail (λ c. c ≢ 10) b comment no_lf) in
    rw other (omega (arith, more))

piece_counts : (piece rest : List ℕ) → IsBlankPiece piece
    → blank_from false (piece ++ rest) ≡ length piece + blank_from false rest
piece_counts piece rest (inl (byte, space, is)) =
    let other : (byte == 35) ≡ false = grind (arith, common_steps) in
    let count : blank_from false (byte ∷ rest) ≡ 1 + blank_from false rest =
    rw (other, space, one-add) refl in
    rw is count
piece_counts piece rest (inr (comment, no_lf, is)) =
    let whole : piece ++ rest ≡ 35 ∷ (comment ++ 10 ∷ rest) =
    rw is (append_assoc (35 ∷ comment) (10 ∷ []) rest) in
    let long : length piece ≡ suc (length comment) + 1 =
    rw is (length-append (35 ∷ comment) (10 ∷ [])) in
    let count = comment_counts comment rest no_lf in
    ap (blank_from false) whole ∙ omega (arith, count, long)

pieces_count : (pieces : List (List ℕ)) (rest : List ℕ) → AllByRecursion IsBlankPiece pieces
    → blank_from false (flat_map (λ piece. piece) pieces ++ rest)
    ≡ length (flat_map (λ piece. piece) pieces) + blank_from false rest
pieces_count [] rest each = sym (zero-add (blank_from false rest))
pieces_count (piece ∷ pieces) rest each =
    let others = flat_map (λ piece. piece) pieces in
    rw (append_assoc, length-append)
    (piece_counts piece (others ++ rest) each.0
    ∙ ap (λ n. length piece + n) (pieces_count pieces rest each.1) ∙ omega arith)

pub blank_counts : (blank rest : List ℕ) → IsBlank blank
    → blank_from false (blank ++ rest) ≡ length blank + blank_from false rest
blank_counts blank rest is = rw is.whole (pieces_count is.pieces rest is.each)

-- a byte that is no blank ends it
pub no_blank_counts : (rest : List ℕ) → BeginsNoBlank rest → blank_from false rest ≡ 0
no_blank_counts [] none = absurd none
no_blank_counts (b ∷ rest) none =
    let other : (b == 35) ≡ false = grind (arith, nat_tests) in
    rw (other, none.0) refl

-- a comment that is not ended counts to the end
open_comment_counts : (comment : List ℕ) → All (λ b. b ≢ 10) comment
    → blank_from true comment ≡ length comment
open_comment_counts [] no_lf = refl
open_comment_counts (b ∷ comment) no_lf =
    let other : (b == 10) ≡ false =
    let h = All-head (λ c. c ≢ 10) b comment no_lf in grind (arith, nat_tests) in
    rw other (ap suc (open_comment_counts comment (All-tail (λ c. c ≢ 10) b comment no_lf)))

-- and so does blank to the end
pub to_end_counts : (bytes : List ℕ) → IsBlankToEnd bytes → blank_from false bytes ≡ length bytes
to_end_counts bytes to_end = elim to_end.last [
  | inl all ↦
      let front = blank_counts to_end.front [] to_end.blank in
      rw all (rw (append-nil, add-zero) at front)
  | inr rest ↦
      let front = blank_counts to_end.front (35 ∷ rest.0) to_end.blank in
      let comment = open_comment_counts rest.0 rest.1 in
      let long : length bytes ≡ length to_end.front + suc (length rest.0) =
      ap length rest.2 ∙ length-append to_end.front (35 ∷ rest.0) in
      ap (blank_from false) rest.2 ∙ omega (arith, front, comment, long)
]

-- the blank before a byte that is none is counted
pub up_to_counts : (bytes blank rest : List ℕ) → bytes ≡ blank ++ rest → IsBlank blank
    → BeginsNoBlank rest → blank_from false bytes ≡ length blank
up_to_counts bytes blank rest split is_blank no_blank =
    ap (blank_from false) split ∙ blank_counts blank rest is_blank
    ∙ ap (λ n. length blank + n) (no_blank_counts rest no_blank) ∙ add-zero (length blank)
