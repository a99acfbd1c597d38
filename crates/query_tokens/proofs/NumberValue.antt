-- What `parse` reads of a number's bytes.
use Rattle.std.proofs.Common.{◌≡◌, ℕ, ℤ, Bool, true, false, cond, ◌==◌, List, [], ◌∷◌, drop, Result}
use Rattle.std.proofs.Common.{Ok, Err, refl, arith, FitsSigned, w64}
use Rattle.std.specs.Option.{SomeIff}
use Rattle.std.specs.Result.{result_ok}
use Rattle.std.specs.Str.{IsAscii, IsUtf8}
use Rattle.std.specs.Str.Parse.{AllDigits, IsNumeral, ParsesSigned, without_leading_sign}
use Rattle.std.specs.Str.Parse.{signed_digits_value}
use Rattle.std.proofs.lemmas.Bool.Decides.{nat_tests}
use Rattle.std.proofs.lemmas.Str.{IsUtf8-from_ascii}
use Rattle.std.proofs.lemmas.Str.Ascii.{IsAscii-nil, IsAscii-cons}
use Rattle.std.proofs.lemmas.Str.Parse.{digit_from_value}

-- digits are ASCII
digits_ascii : (digits : List ℕ) → AllDigits 10 digits → IsAscii digits
digits_ascii [] all = IsAscii-nil
digits_ascii (c ∷ cs) all =
    IsAscii-cons c cs (omega (arith, digit_from_value c all.0)) (digits_ascii cs all.1)

-- and so is a sign before them
signed_ascii : (c : ℕ) (cs : List ℕ) (minus plus : Bool) → (c == 45) ≡ minus → (c == 43) ≡ plus
    → AllDigits 10 (cond minus (drop 1 (c ∷ cs)) (drop (cond plus 1 0) (c ∷ cs))) → IsAscii (c ∷ cs)
signed_ascii c cs true plus m p all =
    IsAscii-cons c cs (grind (arith, nat_tests)) (digits_ascii cs all)
signed_ascii c cs false true m p all =
    IsAscii-cons c cs (grind (arith, nat_tests)) (digits_ascii cs all)
signed_ascii c cs false false m p all = digits_ascii (c ∷ cs) all

-- a number's bytes are a text
pub numeral_is_text : (raw : List ℕ) → IsNumeral 10 (without_leading_sign raw) → IsUtf8 raw
numeral_is_text [] numeral = IsUtf8-from_ascii [] IsAscii-nil
numeral_is_text (c ∷ cs) numeral =
    IsUtf8-from_ascii (c ∷ cs) (signed_ascii c cs (c == 45) (c == 43) refl refl numeral.1)

-- what is read of them is their value
pub value_of_parsed : {E : Type 0} (raw : List ℕ) (r : Result ℤ E)
    → IsNumeral 10 (without_leading_sign raw) → ParsesSigned w64 10 raw r
    → SomeIff (result_ok r) (FitsSigned w64 (signed_digits_value 10 raw))
    (signed_digits_value 10 raw)
value_of_parsed raw (Ok value) numeral parses = (parses.0.1, parses.1)
value_of_parsed raw (Err error) numeral parses = λ fits. parses (numeral, fits)
