-- The names of lets are words, and each let has its own.
use Rattle.std.proofs.Common.{◌≡◌, ◌<◌, ℕ, zero, suc, ◌+◌, ◌%◌, ◌^◌, true, [], ◌∷◌, codes, refl, ◌∙◌}
use Rattle.std.proofs.Common.{arith}
use Rattle.std.specs.Fmt.{decimal}
use Rattle.std.specs.List.{list_all}
use Rattle.std.proofs.lemmas.Bool.{and_from}
use Rattle.std.proofs.lemmas.Fmt.{decimal_by_steps, decimal_injective}
use Rattle.std.proofs.lemmas.List.{append_cancel_left}
use Rattle.std.proofs.lemmas.List.Folds.{list_all-append}
use Rattle.query_text.specs.Names.{let_name}
use Rattle.query_tokens.specs.Raw.{IsWord, is_word_byte}
use Rattle.text_reads_back.proofs.KnownWords.{known}

-- a digit
pub digit_is : (n : ℕ) → n < 10 → is_word_byte (48 + n) ≡ true
digit_is zero small = refl
digit_is (suc zero) small = refl
digit_is (suc (suc zero)) small = refl
digit_is (suc (suc (suc zero))) small = refl
digit_is (suc (suc (suc (suc zero)))) small = refl
digit_is (suc (suc (suc (suc (suc zero))))) small = refl
digit_is (suc (suc (suc (suc (suc (suc zero)))))) small = refl
digit_is (suc (suc (suc (suc (suc (suc (suc zero))))))) small = refl
digit_is (suc (suc (suc (suc (suc (suc (suc (suc zero)))))))) small = refl
digit_is (suc (suc (suc (suc (suc (suc (suc (suc (suc zero))))))))) small = refl
digit_is (suc (suc (suc (suc (suc (suc (suc (suc (suc (suc n)))))))))) small =
    absurd (omega (arith, small))

-- digits are bytes of words
digits_are : (n : ℕ) → n < 2 ^ 64 → list_all is_word_byte (decimal n) ≡ true
digits_are = decimal_by_steps (λ n digits. list_all is_word_byte digits ≡ true)
    (λ n small. and_from (is_word_byte (48 + n)) true (digit_is n small) refl)
    (λ n digits large all. list_all-append is_word_byte digits ((48 + n % 10) ∷ [])
    ∙ and_from (list_all is_word_byte digits) (list_all is_word_byte ((48 + n % 10) ∷ [])) all
    (and_from (is_word_byte (48 + n % 10)) true (digit_is (n % 10) (omega arith)) refl))

pub let_name_is_word : (at : ℕ) → at < 2 ^ 32 → IsWord (let_name at)
let_name_is_word at small = known (let_name at) (digits_are (at + 1) (omega (arith, small)))

-- different lets have different names
pub let_names_apart : (at other : ℕ) → at < 2 ^ 32 → other < 2 ^ 32 → let_name at ≡ let_name other
    → at ≡ other
let_names_apart at other small less same =
    let digits : decimal (at + 1) ≡ decimal (other + 1) =
    append_cancel_left (codes "q") (decimal (at + 1)) (decimal (other + 1)) same in
    let next = decimal_injective (at + 1) (other + 1) (omega (arith, small)) (omega (arith, less))
    digits in
    omega (arith, next)
