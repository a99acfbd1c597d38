-- Numbers as they are printed.
use Rattle.std.proofs.Common.{◌≡◌, ◌≢◌, ℕ, suc, ◌^◌, ℤ, pos, negsuc, neg_ℤ, true, List, [], ◌∷◌}
use Rattle.std.proofs.Common.{refl, ap, ◌∙◌, subst, arith}
use Rattle.std.proofs.lemmas.Bool.{ne_eqb, ltb-true}
use Rattle.std.proofs.lemmas.Str.Parse.{digit_from_value}
use Rattle.std.proofs.lemmas.Fmt.{decimal_is_IsNumeral}
use Rattle.std.specs.Fmt.{decimal, signed_decimal}
use Rattle.std.specs.Str.Parse.{IsNumeral, digits_value, without_leading_sign, signed_digits_value}
use Rattle.query_tokens.specs.declared.token.TokenKind.TheVariants.{Number}
use Rattle.query_tokens.specs.Raw.{IsLongest}
use Rattle.query_forms.specs.File.{is_within}
use Rattle.query_parser.proofs.LongestTokens.{EndToken, longest-ended}

-- a number as it stands before bytes that end it
pub longest-number : (raw rest : List ℕ) → IsNumeral 10 (without_leading_sign raw) → EndToken rest
    → IsLongest Number raw rest
longest-number [] rest is ends = absurd (omega (arith, is.0))
longest-number (first ∷ tail) rest is ends =
    longest-ended Number first tail rest is (no_quote is) ends
  where
    no_quote : IsNumeral 10 (without_leading_sign (first ∷ tail)) → first ≢ 34
    no_quote numeral e =
        let begins : IsNumeral 10 (without_leading_sign (34 ∷ tail)) =
        subst (λ b. IsNumeral 10 (without_leading_sign (b ∷ tail))) e numeral in
        omega (arith, begins.1.0)

-- digits have no sign
digits-no_sign : (digits : List ℕ) → IsNumeral 10 digits
    → (without_leading_sign digits ≡ digits)
    × (signed_digits_value 10 digits ≡ pos (digits_value 10 digits))
digits-no_sign [] is = absurd (omega (arith, is.0))
digits-no_sign (first ∷ tail) is =
    let range = digit_from_value first is.1.0 in
    let no_minus = ne_eqb first 45 (λ e. omega (arith, e, range.0)) in
    let no_plus = ne_eqb first 43 (λ e. omega (arith, e, range.0)) in
    (rw (no_minus, no_plus) refl, rw (no_minus, no_plus) refl)

-- a number in range is printed as a number that reads back
pub signed_decimal-is : (value : ℤ) → is_within value ≡ true
    → IsNumeral 10 (without_leading_sign (signed_decimal value))
    × (signed_digits_value 10 (signed_decimal value) ≡ value)
signed_decimal-is (pos n) within =
    let small = ltb-true n (2 ^ 63) within in
    let numeral = decimal_is_IsNumeral n (omega (arith, small)) in
    let same = digits-no_sign (decimal n) numeral.0 in
    (rw same.0 numeral.0, same.1 ∙ ap pos numeral.1)
signed_decimal-is (negsuc n) within =
    let small = ltb-true n (2 ^ 63) within in
    let numeral = decimal_is_IsNumeral (suc n) (omega (arith, small)) in
    (numeral.0, ap (λ m. neg_ℤ (pos m)) numeral.1)
