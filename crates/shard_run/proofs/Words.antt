-- The words of the command line, and the number of shards that one of them writes.
use Rattle.std.proofs.Common.{◌≡◌, ◌<◌, ◌≤◌, ◌^◌, ◌&&◌, ℕ, Bool, true, false, nat_le, nat_lt}
use Rattle.std.proofs.Common.{List, [], ◌∷◌, length, get_or, map, None, Result, Err, refl}
use Rattle.std.proofs.Common.{ap, subst, arith, rules}
use Rattle.std.specs.Char.{is_ascii_digit}
use Rattle.std.specs.List.{list_all}
use Rattle.std.specs.Result.{OkIff}
use Rattle.std.specs.Str.Parse.{ParsesUnsigned, digits_value}
use Rattle.std.proofs.lemmas.Bool.Decides.{nat_tests}
use Rattle.std.proofs.lemmas.Str.Parse.{IsDigitsTest, IsNumeralModel, numerals_by_value}
use Rattle.std.proofs.lemmas.Str.Parse.{parse_digits}
use Rattle.shard_run.specs.Commands.{command_of, max_shards, piece_of, shards_in}

-- two words
pub two_words : {S : Type 0} (f : S → List ℕ) (words : List S) (word : S) → length words ≡ 2
    → word ≡ get_or words 0 word → piece_of (f word) ≡ command_of (map f words)
two_words f [] word long is = absurd (omega arith)
two_words f (a ∷ []) word long is = absurd (omega arith)
two_words f (a ∷ b ∷ []) word long is = ap (λ w. piece_of (f w)) is
two_words f (a ∷ b ∷ c ∷ words) word long is = absurd (omega arith)

-- the digits of a word, and their number
decides_digits : IsDigitsTest (λ digits. list_all is_ascii_digit digits ≡ true)
decides_digits = search rules

digits_are : IsNumeralModel (λ digits. list_all is_ascii_digit digits ≡ true) (digits_value 10)
digits_are = numerals_by_value _ decides_digits

-- the result of reading digits is their number, if it fits
parsed : {E : Type 0} (word : List ℕ) (result : Result ℕ E) → list_all is_ascii_digit word ≡ true
    → ParsesUnsigned 32 10 word result
    → OkIff result ((0 < length word) × (digits_value 10 word < 2 ^ 32)) (digits_value 10 word)
parsed word result are parses = parse_digits digits_are 32 word result parses are

-- a test that fails for its last parts
fails : (a b c d : Bool) → (c ≡ true → d ≡ true → ⊥) → (a && b && c && d) ≡ false
fails false b c d never = refl
fails true false c d never = refl
fails true true false d never = refl
fails true true true false never = refl
fails true true true true never = absurd (never refl refl)

-- digits whose number is 0 or too great, or does not fit
shards_none : (word : List ℕ)
    → (0 < digits_value 10 word → digits_value 10 word ≤ max_shards → ⊥)
    → None ≡ shards_in word
shards_none word never =
    let fail = fails (nat_le (length word) 7) (list_all is_ascii_digit word)
    (nat_lt 0 (digits_value 10 word)) (nat_le (digits_value 10 word) max_shards)
    (λ above below. never (grind (arith, nat_tests, above)) (grind (arith, nat_tests, below))) in
    rw fail refl

-- no digits have no number
no_digits : (word : List ℕ) → 0 < digits_value 10 word → 0 < length word
no_digits [] some = absurd (omega arith)
no_digits (digit ∷ word) some = omega arith

-- so what is not read
pub shards_unread : {E : Type 0} (word : List ℕ) (result : Result ℕ E) (error : E)
    → list_all is_ascii_digit word ≡ true → ParsesUnsigned 32 10 word result → result ≡ Err error
    → None ≡ shards_in word
shards_unread {E} word result error are parses is =
    let none = subst (λ (r : Result ℕ E). OkIff r
    ((0 < length word) × (digits_value 10 word < 2 ^ 32)) (digits_value 10 word)) is
    (parsed word result are parses) in
    shards_none word (λ some below. none (no_digits word some, omega arith))
