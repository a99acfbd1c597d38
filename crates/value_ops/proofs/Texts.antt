-- Which lists are texts.
use Rattle.std.proofs.Common.{ℕ, ◌<◌, nat_lt, List, [], ◌∷◌, get_or, Fits, refl, w8, arith}
use Rattle.std.specs.List.{AllByRecursion}
use Rattle.std.proofs.lemmas.List.Sums.{list_all-from_AllPass}
use Rattle.std.proofs.lemmas.List.{get_or_default}
use Rattle.std.proofs.lemmas.Bool.{and_from, and_parts}
use Rattle.std.proofs.lemmas.Bool.Decides.{nat_tests}
use Rattle.value_ops.specs.Texts.{IsText, are_bytes}

-- numbers that fit 8 bits are those of a text
pub text_from_bytes : (bytes : List ℕ) → ((k : ℕ) → Fits w8 (get_or bytes k 0)) → IsText bytes
text_from_bytes bytes fit =
    list_all-from_AllPass (λ b. nat_lt b 256)
    bytes (λ k d within. let below : get_or bytes k 0 < 256 = omega (arith, fit k) in
    grind (arith, nat_tests, get_or_default bytes k d 0 within))

-- each number of a text is a byte
pub bytes_of_text : (numbers : List ℕ) → IsText numbers → AllByRecursion (λ n. n < 256) numbers
bytes_of_text [] text = tt
bytes_of_text (n ∷ numbers) text =
    let parts = and_parts (nat_lt n 256) (are_bytes numbers) text in
    (grind (arith, nat_tests, parts.0), bytes_of_text numbers parts.1)

-- and bytes are a text
pub text_of_bytes : (numbers : List ℕ) → AllByRecursion (λ n. n < 256) numbers → IsText numbers
text_of_bytes [] all = refl
text_of_bytes (n ∷ numbers) all =
    let below = all.0 in
    and_from (nat_lt n 256) (are_bytes numbers) (grind (arith, nat_tests))
    (text_of_bytes numbers all.1)
