-- The words of the command line, and the places that they write.
use Rattle.std.proofs.Common.{◌≡◌, ◌<◌, ◌≤◌, ◌^◌, ℕ, true, false, nat_le, nat_lt}
use Rattle.std.proofs.Common.{List, [], ◌∷◌, length, get_or, map, Some, Result, Ok, Err, refl}
use Rattle.std.proofs.Common.{ap, arith, rules}
use Rattle.std.specs.Char.{is_ascii_digit}
use Rattle.std.specs.List.{list_all}
use Rattle.std.specs.Result.{OkIff, result_ok}
use Rattle.std.specs.Str.Parse.{ParsesUnsigned, digits_value}
use Rattle.std.proofs.lemmas.Bool.Decides.{nat_tests}
use Rattle.std.proofs.lemmas.Str.Parse.{IsDigitsTest, IsNumeralModel, digits_value_short}
use Rattle.std.proofs.lemmas.Str.Parse.{numerals_by_value, parse_digits}
use Rattle.expand_run.specs.Commands.{command_of, place_in, question_of}

-- two words
pub two_words : {S : Type 0} (f : S → List ℕ) (words : List S) (word : S) → length words ≡ 2
    → word ≡ get_or words 0 word → question_of (f word) ≡ command_of (map f words)
two_words f [] word long is = absurd (omega arith)
two_words f (a ∷ []) word long is = absurd (omega arith)
two_words f (a ∷ b ∷ []) word long is = ap (λ w. question_of (f w)) is
two_words f (a ∷ b ∷ c ∷ words) word long is = absurd (omega arith)

-- the digits of a word, and their number
decides_digits : IsDigitsTest (λ digits. list_all is_ascii_digit digits ≡ true)
decides_digits = search rules

digits_are : IsNumeralModel (λ digits. list_all is_ascii_digit digits ≡ true) (digits_value 10)
digits_are = numerals_by_value _ decides_digits

-- a place that is read, or that is not written
pub place_read : {E : Type 0} (word : List ℕ) (result : Result ℕ E) → length word ≤ 7
    → list_all is_ascii_digit word ≡ true → ParsesUnsigned 32 10 word result
    → result_ok result ≡ place_in word
place_read {E} word result short are parses =
    at result (parse_digits digits_are 32 word result parses are)
  where
    small : digits_value 10 word < 2 ^ 32
    small = let seven = digits_value_short digits_are word 7 are short in omega arith

    at : (result : Result ℕ E)
        → OkIff result ((0 < length word) × (digits_value 10 word < 2 ^ 32)) (digits_value 10 word)
        → result_ok result ≡ place_in word
    at (Ok place) (within, same) =
        let some : nat_lt 0 (length word) ≡ true = grind (arith, nat_tests, within.0) in
        let fits : nat_le (length word) 7 ≡ true = grind (arith, nat_tests, short) in
        rw (some, fits, are) (ap Some same)
    at (Err error) none =
        let empty : nat_lt 0 (length word) ≡ false = grind (arith, nat_tests, none, small) in
        rw empty refl
