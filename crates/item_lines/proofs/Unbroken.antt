-- A line that is shown has no end of a line in it.
use Rattle.std.proofs.Common.{◌≡◌, ℕ, suc, ◌<◌, ◌≤◌, inl, inr, Bool, true, false, not, nat_lt, List}
use Rattle.std.proofs.Common.{[], ◌∷◌, length, get_or, refl, sym, subst, ◌∙◌, append-nil, arith}
use Rattle.std.specs.Char.{is_control}
use Rattle.std.specs.List.{list_any}
use Rattle.std.specs.Str.{chars, is_utf8}
use Rattle.std.proofs.lemmas.Bool.{and_parts, cases_lt, or_from, or_parts}
use Rattle.std.proofs.lemmas.Bool.Decides.{nat_tests}
use Rattle.std.proofs.lemmas.List.Folds.{list_any-append}
use Rattle.std.proofs.lemmas.Str.{IsUtf8-from_is_utf8, encodes-chars, inside_one}
use lib.Utf8.{encode, encodes}
use Rattle.line_reader.specs.CutLines.{is_break}
use Rattle.item_lines.specs.Lines.{is_plain, is_shown}

-- none of the bytes ends a line
no_breaks : (bytes : List ℕ) → ((k : ℕ) → k < length bytes → is_break (get_or bytes k 0) ≡ false)
    → list_any is_break bytes ≡ false
no_breaks [] each = refl
no_breaks (byte ∷ bytes) each =
    or_from (is_break byte) (list_any is_break bytes) (each 0 (omega arith))
    (no_breaks bytes (λ k below. each (suc k) (omega arith)))

low_byte : (byte : ℕ) → is_control byte ≡ false → is_break byte ≡ false
low_byte byte quiet = grind (arith, nat_tests)

high_byte : (byte : ℕ) → 128 ≤ byte → is_break byte ≡ false
high_byte byte high = grind (arith, nat_tests)

-- nor does a character that is no control character
char_unbroken : (c : ℕ) → is_control c ≡ false → list_any is_break (encode c) ≡ false
char_unbroken c quiet = no_breaks (encode c) byte_of
  where
    byte_of : (k : ℕ) → k < length (encode c) → is_break (get_or (encode c) k 0) ≡ false
    byte_of k below = elim (cases_lt (get_or (encode c) k 0) 128) [
      | inl low ↦
          let same : c ≡ get_or (encode c) k 0 =
          inside_one c [] (encode c) k (sym (append-nil (encode c))) below low in
          low_byte (get_or (encode c) k 0) (subst (λ (x : ℕ). is_control x ≡ false) same quiet)
      | inr high ↦ high_byte (get_or (encode c) k 0) high
    ]

text_unbroken : (cs : List ℕ) → list_any is_control cs ≡ false
    → list_any is_break (encodes cs) ≡ false
text_unbroken [] quiet = refl
text_unbroken (c ∷ cs) quiet =
    let parts = or_parts (is_control c) (list_any is_control cs) quiet in
    list_any-append is_break (encode c) (encodes cs)
    ∙ or_from (list_any is_break (encode c)) (list_any is_break (encodes cs))
    (char_unbroken c parts.0) (text_unbroken cs parts.1)

-- nor a plain line
plain_unbroken : (line : List ℕ) → is_plain line ≡ true → list_any is_break line ≡ false
plain_unbroken line plain =
    let parts = and_parts (is_utf8 line) (not (list_any is_control (chars line))) plain in
    subst (λ (bytes : List ℕ). list_any is_break bytes ≡ false)
    (encodes-chars line (IsUtf8-from_is_utf8 line parts.0))
    (text_unbroken (chars line) (is_false (list_any is_control (chars line)) parts.1))
  where
    is_false : (b : Bool) → not b ≡ true → b ≡ false
    is_false true is = sym is
    is_false false is = refl

pub shown_unbroken : (line : List ℕ) → is_shown line ≡ true → list_any is_break line ≡ false
shown_unbroken line shown =
    plain_unbroken line (and_parts (not (nat_lt 96 (length line))) (is_plain line) shown).1
