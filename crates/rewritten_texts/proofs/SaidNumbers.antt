-- Numbers in range have 64 bits, and bytes are a text.
use Rattle.std.proofs.Common.{◌≡◌, ◌<◌, ℕ, ℤ, pos, negsuc, true, List, All, FitsSigned, w64, arith}
use Rattle.std.proofs.lemmas.Bool.Decides.{nat_tests}
use Rattle.std.proofs.lemmas.List.Elements.{recursion_from_All}
use Rattle.query_forms.specs.File.{is_within}
use Rattle.value_ops.specs.Texts.{IsText}
use Rattle.value_ops.proofs.Texts.{text_of_bytes}

pub number_fits : (number : ℤ) → is_within number ≡ true → FitsSigned w64 number
number_fits (pos n) within = grind (arith, nat_tests)
number_fits (negsuc n) within = grind (arith, nat_tests)

pub text_of : (bytes : List ℕ) → All (λ byte. byte < 256) bytes → IsText bytes
text_of bytes are = text_of_bytes bytes (recursion_from_All (λ byte. byte < 256) bytes are)
