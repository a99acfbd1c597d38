-- The first byte of a token shows its kind.
use Rattle.std.proofs.Common.{◌≡◌, ℕ, ◌<◌, Bool, true, false, cond, ◌||◌, ◌==◌, List, [], ◌∷◌, ◌++◌}
use Rattle.std.proofs.Common.{length, drop, Option, Some, None, refl, ap, rules, arith}
use Rattle.std.specs.Char.{digit_value, is_ascii_digit}
use Rattle.std.specs.Str.Parse.{IsNumeral, without_leading_sign}
use Rattle.std.proofs.lemmas.Bool.Decides.{nat_tests}
use Rattle.std.proofs.lemmas.Grind.{common_steps}
use Rattle.std.proofs.lemmas.Str.Parse.{digit_from_value}
use Rattle.query_tokens.specs.declared.token.TokenKind.{TokenKind}
use Rattle.query_tokens.specs.declared.token.TokenKind.TheVariants.{Word, Number, Text, Open, Close}
use Rattle.query_tokens.specs.declared.token.TokenKind.TheVariants.{Comma}
use Rattle.query_tokens.specs.Raw.{is_word_start, is_word_byte, IsRaw}
use Rattle.query_tokens.specs.Front.{is_number_start, kind_of, kind_at, sign_len}

-- the choice of a kind by tests
abbrev pick : Bool → Bool → Bool → Bool → Bool → Bool → Option TokenKind
pick open' close comma quote number word =
    cond open' (Some Open) (cond close (Some Close) (cond comma (Some Comma)
    (cond quote (Some Text) (cond number (Some Number) (cond word (Some Word) None)))))

-- a word's first byte may begin a word
picks_word : (a b c d e f : Bool) → pick a b c d e f ≡ Some Word → f ≡ true
picks_word true b c d e f is = absurd (cc)
picks_word false true c d e f is = absurd (cc)
picks_word false false true d e f is = absurd (cc)
picks_word false false false true e f is = absurd (cc)
picks_word false false false false true f is = absurd (cc)
picks_word false false false false false true is = refl
picks_word false false false false false false is = absurd (cc)

pub word_first : (byte : ℕ) → kind_of byte ≡ Some Word → is_word_start byte ≡ true
word_first byte is = picks_word (byte == 40) (byte == 41) (byte == 44) (byte == 34)
    (is_number_start byte) (is_word_start byte) is

-- a string's first byte is a quote
picks_text : (a b c d e f : Bool) → pick a b c d e f ≡ Some Text → d ≡ true
picks_text true b c d e f is = absurd (cc)
picks_text false true c d e f is = absurd (cc)
picks_text false false true d e f is = absurd (cc)
picks_text false false false true e f is = refl
picks_text false false false false true f is = absurd (cc)
picks_text false false false false false true is = absurd (cc)
picks_text false false false false false false is = absurd (cc)

pub text_first : (byte : ℕ) → kind_of byte ≡ Some Text → byte ≡ 34
text_first byte is =
    let quote = picks_text (byte == 40) (byte == 41) (byte == 44) (byte == 34)
    (is_number_start byte) (is_word_start byte) is in
    grind (arith, nat_tests)

-- what may begin a word may stand in it
pub start_is_byte : (byte : ℕ) → is_word_start byte ≡ true → is_word_byte byte ≡ true
start_is_byte byte start = grind (arith, common_steps)

-- a word's first byte begins no other token
word_kind : (byte : ℕ) → is_word_start byte ≡ true → kind_of byte ≡ Some Word
word_kind byte start = grind (arith, common_steps)

-- what may begin a number begins no other token
number_kind : (byte : ℕ) → is_number_start byte ≡ true → kind_of byte ≡ Some Number
number_kind byte start = grind (arith, common_steps)

-- a sign or none is left out by its length
pub without_sign : (bytes : List ℕ) → without_leading_sign bytes ≡ drop (sign_len bytes) bytes
without_sign [] = refl
without_sign (b ∷ bytes) = by_tests (b == 45) (b == 43)
  where
    by_tests : (minus plus : Bool)
        → cond minus (drop 1 (b ∷ bytes)) (drop (cond plus 1 0) (b ∷ bytes))
        ≡ drop (cond (plus || minus) 1 0) (b ∷ bytes)
    by_tests true true = refl
    by_tests true false = refl
    by_tests false true = refl
    by_tests false false = refl

-- a digit in base ten
pub digit_passes : (byte : ℕ) → digit_value byte < 10 → is_ascii_digit byte ≡ true
digit_passes byte digit =
    let range = digit_from_value byte digit in
    grind (arith, common_steps)

pub digit_from_test : (byte : ℕ) → is_ascii_digit byte ≡ true → digit_value byte < 10
digit_from_test byte passes = grind (arith, common_steps)

-- a number begins as numbers do
number_first : (byte : ℕ) (rest : List ℕ) → IsNumeral 10 (without_leading_sign (byte ∷ rest))
    → is_number_start byte ≡ true
number_first byte rest numeral =
    by_tests (byte == 43) (byte == 45) refl refl (rw (without_sign (byte ∷ rest)) at numeral)
  where
    by_tests : (plus minus : Bool) → (byte == 43) ≡ plus
        → (byte == 45) ≡ minus → IsNumeral 10 (drop (cond (plus || minus) 1 0) (byte ∷ rest))
        → ((plus || minus) || is_ascii_digit byte) ≡ true
    by_tests true minus p m numeral = refl
    by_tests false true p m numeral = refl
    by_tests false false p m numeral = digit_passes byte numeral.1.0

-- the first byte of a token shows its kind
pub raw_kind : (kind : TokenKind) (raw : List ℕ) → IsRaw kind raw → kind_at raw ≡ Some kind
raw_kind Word [] is_raw = absurd is_raw
raw_kind Word (byte ∷ raw) is_raw = word_kind byte (search (rules, is_raw.0))
raw_kind Number [] is_raw = absurd (omega arith)
raw_kind Number (byte ∷ raw) is_raw = number_kind byte (number_first byte raw is_raw)
raw_kind Text raw is_raw = ap kind_at is_raw.1.quoted
raw_kind Open raw is_raw = ap kind_at is_raw
raw_kind Close raw is_raw = ap kind_at is_raw
raw_kind Comma raw is_raw = ap kind_at is_raw

-- a token is some bytes
pub raw_not_empty : (kind : TokenKind) (raw : List ℕ) → IsRaw kind raw → 0 < length raw
raw_not_empty kind [] is_raw =
    let none : kind_at [] ≡ None = refl in
    absurd (cc (raw_kind kind [] is_raw))
raw_not_empty kind (byte ∷ raw) is_raw = omega arith

-- and they show it whatever follows
pub raw_kind_at : (kind : TokenKind) (raw beyond : List ℕ) → IsRaw kind raw
    → kind_at (raw ++ beyond) ≡ Some kind
raw_kind_at kind [] beyond is_raw = absurd (omega (arith, raw_not_empty kind [] is_raw))
raw_kind_at kind (byte ∷ raw) beyond is_raw = raw_kind kind (byte ∷ raw) is_raw
