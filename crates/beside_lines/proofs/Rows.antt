-- The rows of a text.
use Rattle.std.proofs.Common.{◌≡◌, ℕ, ◌==◌, not, Bool, true}
use Rattle.std.proofs.Common.{false, cond, List, [], ◌∷◌, ◌++◌}
use Rattle.std.proofs.Common.{refl, sym, ap, ◌∙◌, append_assoc, append-nil, arith}
use Rattle.std.specs.List.{list_all}
use Rattle.std.proofs.lemmas.Bool.{and_from, and_parts}
use Rattle.std.proofs.lemmas.Bool.Decides.{nat_tests}
use Rattle.std.proofs.lemmas.List.Folds.{list_all-append}
use Rattle.beside_lines.specs.AfterTabs.{rows, rows_from}
use Rattle.beside_lines.proofs.HighBytes.{AreHigh, is_high}

-- no end of a line
abbrev pub is_inside : ℕ → Bool
is_inside byte = not (byte == 10)

-- bytes of one line
abbrev pub AreInside : List ℕ → Type 0
AreInside bytes = list_all is_inside bytes ≡ true

-- such bytes one after the other
pub inside_both : (front rest : List ℕ) → AreInside front → AreInside rest
    → AreInside (front ++ rest)
inside_both front rest are others =
    list_all-append is_inside front rest
    ∙ and_from (list_all is_inside front) (list_all is_inside rest) are others

high_inside : (byte : ℕ) → is_high byte ≡ true → is_inside byte ≡ true
high_inside byte is = grind (arith, nat_tests)

pub all_inside : (bytes : List ℕ) → AreHigh bytes → AreInside bytes
all_inside [] are = refl
all_inside (byte ∷ bytes) are =
    let parts = and_parts (is_high byte) (list_all is_high bytes) are in
    and_from (is_inside byte) (list_all is_inside bytes) (high_inside byte parts.0)
    (all_inside bytes parts.1)

not_end : (byte : ℕ) → is_inside byte ≡ true → (byte == 10) ≡ false
not_end byte is = at (byte == 10) is
  where
    at : (b : Bool) → not b ≡ true → b ≡ false
    at true is = sym is
    at false is = refl

-- a row, an LF and more is the row before the rows of the rest
rows_after : (start row rest : List ℕ) → AreInside row
    → rows_from start (row ++ 10 ∷ rest) ≡ (start ++ row) ∷ rows rest
rows_after start [] rest are = ap (λ (s : List ℕ). s ∷ rows rest) (sym (append-nil start))
rows_after start (byte ∷ row) rest are =
    let parts = and_parts (is_inside byte) (list_all is_inside row) are in
    ap (λ (b : Bool). cond b (start ∷ rows (row ++ 10 ∷ rest))
    (rows_from (start ++ byte ∷ []) (row ++ 10 ∷ rest))) (not_end byte parts.0)
    ∙ rows_after (start ++ byte ∷ []) row rest parts.1
    ∙ ap (λ (s : List ℕ). s ∷ rows rest) (append_assoc start (byte ∷ []) row)

pub first_row : (row rest : List ℕ) → AreInside row → rows (row ++ 10 ∷ rest) ≡ row ∷ rows rest
first_row row rest are = rows_after [] row rest are
