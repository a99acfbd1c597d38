-- The parts of a string: where a part ends, and the parts that printing gives.
use Rattle.std.proofs.Common.{◌≡◌, ◌<◌, inl, inr, ℕ, ◌+◌, ◌*◌, ◌/◌, ◌%◌, Bool, true, false, cond}
use Rattle.std.proofs.Common.{◌||◌, eqb, leb, List, [], ◌∷◌, ◌++◌, get_or, drop, refl, sym, ap, ◌∙◌}
use Rattle.std.proofs.Common.{subst, arith, append_assoc}
use Rattle.std.proofs.lemmas.Bool.{false≢true, leb-true, eqb-false, ne_eqb, le-ltb, lt-ltb}
use Rattle.std.proofs.lemmas.Bool.{and_parts, or_parts, cond_both, cases_lt}
use Rattle.std.proofs.lemmas.List.Elements.{All-head, All-tail}
use Rattle.std.specs.Prelude.{All, codes}
use Rattle.std.specs.List.{flat_map}
use Rattle.std.specs.Char.{digit_value}
use Rattle.query_tokens.specs.Raw.{IsPlain, IsPart, plain, quote, backslash, code, AreParts}
use Rattle.query_tokens.specs.Raw.{IsString}
use Rattle.query_parser.specs.Printing.{hex_digit, byte_text, string_text}

-- how many bytes the part has that bytes begin with
abbrev part_length : List ℕ → ℕ
part_length bytes =
    cond (eqb (get_or bytes 0 0) 92) (cond (eqb (get_or bytes 1 0) 120) 4 2) 1

-- the bytes after the first part
abbrev after_part : List ℕ → List ℕ
after_part bytes = drop (part_length bytes) bytes

-- a byte that stands for itself is no backslash
IsPlain-not_backslash : (byte : ℕ) → IsPlain byte → eqb byte 92 ≡ false
IsPlain-not_backslash byte (inl low) = ne_eqb byte 92 low.3
IsPlain-not_backslash byte (inr high) = ne_eqb byte 92 (λ e. omega (arith, e, high))

-- what stands after a part is found from its bytes alone
after_part-is : (part : List ℕ) (byte : ℕ) (rest : List ℕ) → IsPart part byte
    → after_part (part ++ rest) ≡ rest
after_part-is part byte rest (plain b is) =
    ap (λ t. drop (cond t (cond (eqb (get_or rest 0 0) 120) 4 2) 1) (b ∷ rest))
    (IsPlain-not_backslash b is)
after_part-is part byte rest quote = refl
after_part-is part byte rest backslash = refl
after_part-is part byte rest (code high low is_high is_low) = refl

-- a part does not begin with a quote
part-no_quote : (part : List ℕ) (byte : ℕ) (rest more : List ℕ) → IsPart part byte
    → part ++ rest ≡ 34 ∷ more → ⊥
part-no_quote part byte rest more (plain b (inl low)) e = low.2 (ap (λ l. get_or l 0 0) e)
part-no_quote part byte rest more (plain b (inr high)) e =
    let same : b ≡ 34 = ap (λ l. get_or l 0 0) e in
    omega (arith, same, high)
part-no_quote part byte rest more quote e =
    let same : ◌≡◌ {A = ℕ} 92 34 = ap (λ l. get_or l 0 0) e in
    omega (arith, same)
part-no_quote part byte rest more backslash e =
    let same : ◌≡◌ {A = ℕ} 92 34 = ap (λ l. get_or l 0 0) e in
    omega (arith, same)
part-no_quote part byte rest more (code high low is_high is_low) e =
    let same : ◌≡◌ {A = ℕ} 92 34 = ap (λ l. get_or l 0 0) e in
    omega (arith, same)

-- parts end at the first quote that is no part of them
pub parts-one_end : (bytes others parts ends more : List ℕ) → AreParts parts bytes
    → AreParts ends others → parts ++ 34 ∷ more ≡ ends ++ 34 ∷ [] → more ≡ []
parts-one_end [] [] parts ends more are end e =
    ap (drop 1) (ap (λ l. l ++ 34 ∷ more) (sym are) ∙ e ∙ ap (λ l. l ++ 34 ∷ []) end)
parts-one_end [] (x ∷ others) parts ends more are (part, rest, split, is, end) e =
    absurd (part-no_quote part x (rest ++ 34 ∷ []) more is
    (sym (append_assoc part rest (34 ∷ [])) ∙ ap (λ l. l ++ 34 ∷ []) (sym split) ∙ sym e
    ∙ ap (λ l. l ++ 34 ∷ more) are))
parts-one_end (x ∷ bytes) [] parts ends more (part, rest, split, is, are) end e =
    absurd (part-no_quote part x (rest ++ 34 ∷ more) [] is
    (sym (append_assoc part rest (34 ∷ more)) ∙ ap (λ l. l ++ 34 ∷ more) (sym split) ∙ e
    ∙ ap (λ l. l ++ 34 ∷ []) end))
parts-one_end (x ∷ bytes) (y ∷ others) parts ends more (part, rest, split, is, are)
    (part', rest', split', is', end) e =
    parts-one_end bytes others rest rest' more are end
    (sym (after_part-is part x (rest ++ 34 ∷ more) is)
    ∙ ap after_part
    (sym (append_assoc part rest (34 ∷ more)) ∙ ap (λ l. l ++ 34 ∷ more) (sym split) ∙ e
    ∙ ap (λ l. l ++ 34 ∷ []) split' ∙ append_assoc part' rest' (34 ∷ []))
    ∙ after_part-is part' y (rest' ++ 34 ∷ []) is')

-- the digits of printing have their values
hex_digit-value : (digit : ℕ) → digit < 16 → digit_value (hex_digit digit) ≡ digit
hex_digit-value digit small =
    elim (cases_lt digit 10) [
      | inl low ↦ rw (
        lt-ltb digit 10 low,
        le-ltb (48 + digit) 48 (omega arith),
        lt-ltb (48 + digit) 58 (omega (arith, low)),
      )
          (omega arith)
      | inr high ↦ rw (
        le-ltb digit 10 high,
        le-ltb (55 + digit) 48 (omega arith),
        le-ltb (55 + digit) 58 (omega (arith, high)),
        le-ltb (55 + digit) 65 (omega (arith, high)),
        lt-ltb (55 + digit) 91 (omega (arith, small)),
      ) (omega arith)
    ]

-- a choice that is not false
not_chosen : (test : Bool) → cond test false true ≡ true → test ≡ false
not_chosen true e = absurd (false≢true e)
not_chosen false e = refl

-- a byte that is printed as it is stands for itself
plain-part : (byte : ℕ) → leb 32 byte ≡ true → leb byte 126 ≡ true
    → (eqb byte 34 || eqb byte 92) ≡ false → IsPart (byte ∷ []) byte
plain-part byte low high none =
    let apart = or_parts (eqb byte 34) (eqb byte 92) none in
    plain byte (inl (
      leb-true 32 byte low,
      leb-true byte 126 high,
      eqb-false byte 34 apart.0,
      eqb-false byte 92 apart.1,
    ))

-- the two digits of a byte stand for it
code-part : (byte : ℕ) → byte < 256
    → IsPart (92 ∷ 120 ∷ hex_digit (byte / 16) ∷ hex_digit (byte % 16) ∷ []) byte
code-part byte small =
    let high_small : byte / 16 < 16 = omega (arith, small) in
    let low_small : byte % 16 < 16 = omega arith in
    let high = hex_digit-value (byte / 16) high_small in
    let low = hex_digit-value (byte % 16) low_small in
    let is = code (hex_digit (byte / 16)) (hex_digit (byte % 16)) (rw high high_small)
    (rw low low_small) in
    let value : 16 * digit_value (hex_digit (byte / 16)) + digit_value (hex_digit (byte % 16))
    ≡ byte =
    rw (high, low) (omega arith) in
    subst (λ b. IsPart (92 ∷ 120 ∷ hex_digit (byte / 16) ∷ hex_digit (byte % 16) ∷ []) b) value is

-- the text of a byte is a part that stands for it
byte_text-part : (byte : ℕ) → byte < 256 → IsPart (byte_text byte) byte
byte_text-part byte small =
    cond_both _ (byte ∷ []) (codes "\\x" ++ hex_digit (byte / 16) ∷ hex_digit (byte % 16) ∷ [])
    (λ l. IsPart l byte)
    (λ e. let both = and_parts _ _ e in let range = and_parts _ _ both.0 in
    plain-part byte range.0 range.1 (not_chosen _ both.1))
    (λ e. code-part byte small)

-- and the text of bytes is parts that stand for them
bytes_text-parts : (bytes : List ℕ) → All (λ byte. byte < 256) bytes
    → AreParts (flat_map byte_text bytes) bytes
bytes_text-parts [] small = refl
bytes_text-parts (byte ∷ bytes) small = (
  byte_text byte,
  flat_map byte_text bytes,
  refl,
  byte_text-part byte (All-head (λ b. b < 256) byte bytes small),
  bytes_text-parts bytes (All-tail (λ b. b < 256) byte bytes small),
)

-- a printed string is a string
pub string_text-is : (bytes : List ℕ) → All (λ byte. byte < 256) bytes
    → IsString (string_text bytes) bytes
string_text-is bytes small = record {
  parts = flat_map byte_text bytes;
  quoted = refl;
  stand = bytes_text-parts bytes small;
}
