-- The words of the command line, and the numbers that they write.
use Rattle.std.proofs.Common.{◌≡◌, ◌≢◌, ◌<◌, ◌≤◌, ◌^◌, ◌&&◌, ℕ, Bool, true, false, nat_le, nat_lt}
use Rattle.std.proofs.Common.{List, [], ◌∷◌, length, get_or, map, Some, None, Result, Ok, Err, refl}
use Rattle.std.proofs.Common.{ap, subst, ◌∙◌, arith, rules}
use Rattle.std.specs.Char.{is_ascii_digit}
use Rattle.std.specs.List.{list_all}
use Rattle.std.specs.Result.{OkIff}
use Rattle.std.specs.Str.Parse.{ParsesUnsigned, digits_value}
use Rattle.std.proofs.lemmas.Bool.Decides.{nat_tests}
use Rattle.std.proofs.lemmas.Str.Parse.{IsDigitsTest, IsNumeralModel, numerals_by_value}
use Rattle.std.proofs.lemmas.Str.Parse.{parse_digits}
use Rattle.sqre_run.specs.Commands.{command_of, drill_of, number_in, question_of, run_of}

-- two words
pub two_words : {S : Type 0} (f : S → List ℕ) (words : List S) (word : S) → length words ≡ 2
    → word ≡ get_or words 0 word → question_of (f word) ≡ command_of (map f words)
two_words f [] word long is = absurd (omega arith)
two_words f (a ∷ []) word long is = absurd (omega arith)
two_words f (a ∷ b ∷ []) word long is = ap (λ w. question_of (f w)) is
two_words f (a ∷ b ∷ c ∷ words) word long is = absurd (omega arith)

-- three
pub three_words : {S : Type 0} (f : S → List ℕ) (words : List S) (word : S) → length words ≡ 3
    → word ≡ get_or words 0 word → run_of (f word) ≡ command_of (map f words)
three_words f [] word long is = absurd (omega arith)
three_words f (a ∷ []) word long is = absurd (omega arith)
three_words f (a ∷ b ∷ []) word long is = absurd (omega arith)
three_words f (a ∷ b ∷ c ∷ []) word long is = ap (λ w. run_of (f w)) is
three_words f (a ∷ b ∷ c ∷ d ∷ words) word long is = absurd (omega arith)

-- four
pub four_words : {S : Type 0} (f : S → List ℕ) (words : List S) (word count seed : S)
    → length words ≡ 4 → word ≡ get_or words 0 word → count ≡ get_or words 2 count
    → seed ≡ get_or words 3 seed → drill_of (f word) (f count) (f seed) ≡ command_of (map f words)
four_words f [] word count seed long is is_count is_seed = absurd (omega arith)
four_words f (a ∷ []) word count seed long is is_count is_seed = absurd (omega arith)
four_words f (a ∷ b ∷ []) word count seed long is is_count is_seed = absurd (omega arith)
four_words f (a ∷ b ∷ c ∷ []) word count seed long is is_count is_seed = absurd (omega arith)
four_words f (a ∷ b ∷ c ∷ d ∷ []) word count seed long is is_count is_seed =
    ap (λ w. drill_of (f w) (f count) (f seed)) is
    ∙ ap (λ w. drill_of (f a) (f w) (f seed)) is_count
    ∙ ap (λ w. drill_of (f a) (f c) (f w)) is_seed
four_words f (a ∷ b ∷ c ∷ d ∷ e ∷ words) word count seed long is is_count is_seed =
    absurd (omega arith)

-- and any other number of words
pub other_words : {S : Type 0} (f : S → List ℕ) (words : List S) → length words ≢ 2
    → length words ≢ 3 → length words ≢ 4 → None ≡ command_of (map f words)
other_words f [] two three four = refl
other_words f (a ∷ []) two three four = refl
other_words f (a ∷ b ∷ []) two three four = absurd (two refl)
other_words f (a ∷ b ∷ c ∷ []) two three four = absurd (three refl)
other_words f (a ∷ b ∷ c ∷ d ∷ []) two three four = absurd (four refl)
other_words f (a ∷ b ∷ c ∷ d ∷ e ∷ words) two three four = refl

-- the digits of a word, and their number
decides_digits : IsDigitsTest (λ digits. list_all is_ascii_digit digits ≡ true)
decides_digits = search rules

digits_are : IsNumeralModel (λ digits. list_all is_ascii_digit digits ≡ true) (digits_value 10)
digits_are = numerals_by_value _ decides_digits

-- a number that is read
pub number_read : {E : Type 0} (digits greatest number : ℕ) (word : List ℕ) (result : Result ℕ E)
    → length word ≤ digits → list_all is_ascii_digit word ≡ true → ParsesUnsigned 64 10 word result
    → result ≡ Ok number → number ≤ greatest → Some number ≡ number_in digits greatest word
number_read {E} digits greatest number word result short are parses is few =
    let parsed : OkIff result ((0 < length word) × (digits_value 10 word < 2 ^ 64))
    (digits_value 10 word) =
    parse_digits digits_are 64 word result parses are
    in
    at (subst (λ (r : Result ℕ E). OkIff r ((0 < length word) × (digits_value 10 word < 2 ^ 64))
    (digits_value 10 word)) is parsed)
  where
    at : ((0 < length word) × (digits_value 10 word < 2 ^ 64)) × (number ≡ digits_value 10 word)
        → Some number ≡ number_in digits greatest word
    at (within, same) =
        let some : nat_lt 0 (length word) ≡ true = grind (arith, nat_tests, within.0) in
        let fits : nat_le (length word) digits ≡ true = grind (arith, nat_tests, short) in
        let below : nat_le (digits_value 10 word) greatest ≡ true =
        grind (arith, nat_tests, few, same) in
        rw (some, fits, are, below) (ap Some same)

-- a test that fails for its first or its last part
fails : (a b c d : Bool) → (a ≡ true → d ≡ true → ⊥) → (a && b && c && d) ≡ false
fails false b c d never = refl
fails true false c d never = refl
fails true true false d never = refl
fails true true true false never = refl
fails true true true true never = absurd (never refl refl)

-- a word that is not read, or a number that is too great
pub number_none : {E : Type 0} (digits greatest : ℕ) (word : List ℕ) (result : Result ℕ E)
    (error : E) → greatest < 2 ^ 64 → list_all is_ascii_digit word ≡ true
    → ParsesUnsigned 64 10 word result → result ≡ Err error → None ≡ number_in digits greatest word
number_none {E} digits greatest word result error bound are parses is =
    let parsed : OkIff result ((0 < length word) × (digits_value 10 word < 2 ^ 64))
    (digits_value 10 word) =
    parse_digits digits_are 64 word result parses are
    in
    let none = subst (λ (r : Result ℕ E). OkIff r
    ((0 < length word) × (digits_value 10 word < 2 ^ 64)) (digits_value 10 word)) is parsed in
    let fail = fails (nat_lt 0 (length word)) (nat_le (length word) digits)
    (list_all is_ascii_digit word) (nat_le (digits_value 10 word) greatest)
    (λ some below. none (grind (arith, nat_tests, some), grind (arith, nat_tests, below, bound)))
    in
    rw fail refl
