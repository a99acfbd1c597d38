-- Numbers of 64 bits are in range, and texts are of bytes.
use Rattle.std.proofs.Common.{◌≡◌, ◌<◌, ℕ, ℤ, pos, negsuc, true, List, All, FitsSigned, w64, arith}
use Rattle.std.proofs.lemmas.Bool.Decides.{nat_tests}
use Rattle.query_forms.specs.File.{is_within}
use Rattle.query_model.proofs.Keys.{all_elements}
use Rattle.value_ops.specs.Texts.{IsText}
use Rattle.value_ops.proofs.Texts.{bytes_of_text}

pub number_within : (number : ℤ) → FitsSigned w64 number → is_within number ≡ true
number_within (pos n) fits = grind (arith, nat_tests)
number_within (negsuc n) fits = grind (arith, nat_tests)

pub bytes_of : (text : List ℕ) → IsText text → All (λ byte. byte < 256) text
bytes_of text is = all_elements (λ byte. byte < 256) text (bytes_of_text text is)
