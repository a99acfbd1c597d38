-- The part that bytes begin with is the one that `part_of` finds, and no other.
use Rattle.std.proofs.Common.{◌≡◌, ℕ, ◌+◌, ◌*◌, Bool, true, false, cond, ◌||◌, ◌==◌, nat_lt, List}
use Rattle.std.proofs.Common.{[], ◌∷◌, ◌++◌, length, Option, Some, None, ◌⊎◌, inl, inr, refl, arith}
use Rattle.std.specs.Char.{digit_value}
use Rattle.std.proofs.lemmas.Bool.Decides.{nat_tests}
use Rattle.std.proofs.lemmas.Grind.{common_steps}
use Rattle.query_tokens.specs.Raw.{IsPlain, IsHex, IsPart}
use Rattle.query_tokens.specs.Raw.IsPart.{plain, quote, backslash, code}
use Rattle.query_tokens.specs.StringParts.{hex_of, byte_of, code_of, coded, escape_of, is_plain}
use Rattle.query_tokens.specs.StringParts.{part_of}

-- which branch gave the value
pub branch_taken : {A : Type 0} (test : Bool) (x y : Option A) (z : A) → cond test x y ≡ Some z
    → ((test ≡ true) × (x ≡ Some z)) ⊎ ((test ≡ false) × (y ≡ Some z))
branch_taken true x y z is = inl (refl, is)
branch_taken false x y z is = inr (refl, is)

-- a digit has its value
hex_value : (digit : ℕ) → IsHex digit → hex_of digit ≡ Some (digit_value digit)
hex_value digit hex =
    let below : nat_lt (digit_value digit) 16 ≡ true = grind (arith, nat_tests) in
    rw below refl

-- and what has a value is a digit
hex_digit : (digit value : ℕ) → hex_of digit ≡ Some value
    → IsHex digit × (value ≡ digit_value digit)
hex_digit digit value is =
    elim (branch_taken (nat_lt (digit_value digit) 16) (Some (digit_value digit)) None value is) [
      | inl taken ↦ (grind (arith, nat_tests), cc)
      | inr other ↦ absurd (cc)
    ]

-- a part that stands at the front is found
pub part_is_found : (part beyond : List ℕ) (byte : ℕ) → IsPart part byte
    → part_of (part ++ beyond) ≡ Some (byte, length part)
part_is_found _ beyond _ (plain byte (inl seen)) = grind (arith, common_steps)
part_is_found _ beyond _ (plain byte (inr high)) = grind (arith, common_steps)
part_is_found _ beyond _ quote = refl
part_is_found _ beyond _ backslash = refl
part_is_found _ beyond _ (code high low h l) = rw (hex_value high h, hex_value low l) refl

-- what is found stands at the front
pub record Fronts (bytes : List ℕ) (found : ℕ × ℕ) : Type 0 where
  pub part : List ℕ
  pub beyond : List ℕ
  pub split : bytes ≡ part ++ beyond
  pub is_part : IsPart part found.0
  pub len : found.1 ≡ length part

-- one byte that stands for itself is a plain part
plain_from_test : (byte : ℕ) → is_plain byte ≡ true → IsPlain byte
plain_from_test byte passes = grind (arith, common_steps)

-- digits after `\x`
code_found : (rest : List ℕ) (found : ℕ × ℕ) → coded (code_of rest) ≡ Some found
    → Fronts (92 ∷ 120 ∷ rest) found
code_found [] found is = absurd (cc)
code_found (high ∷ []) found is = absurd (cc)
code_found (high ∷ low ∷ rest) found is = code_by (hex_of high) (hex_of low) refl refl is
  where
    code_by : (a b : Option ℕ) → hex_of high ≡ a → hex_of low ≡ b → coded (byte_of a b) ≡ Some found
        → Fronts (92 ∷ 120 ∷ high ∷ low ∷ rest) found
    code_by None b _ _ e = absurd (cc)
    code_by (Some a) None _ _ e = absurd (cc)
    code_by (Some a) (Some b) ha hb e =
        let h = hex_digit high a ha in
        let l = hex_digit low b hb in
        let is_value : found.0 ≡ 16 * digit_value high + digit_value low = rw (← h.1, ← l.1) (cc) in
        record {
          part = 92 ∷ 120 ∷ high ∷ low ∷ [];
          beyond = rest;
          split = refl;
          is_part = rw is_value (code high low h.0 l.0);
          len = cc;
        }

-- what stands after a backslash
escape_found : (rest : List ℕ) (found : ℕ × ℕ) → escape_of rest ≡ Some found
    → Fronts (92 ∷ rest) found
escape_found [] found is = absurd (cc)
escape_found (second ∷ rest) found is =
    escape_by (second == 34) (second == 92) (second == 120) refl refl refl is
  where
    fronts : (value : ℕ) → second ≡ value → IsPart (92 ∷ value ∷ []) value
        → Some (second, 2) ≡ Some found → Fronts (92 ∷ second ∷ rest) found
    fronts value same is_part e = record {
      part = 92 ∷ value ∷ [];
      beyond = rest;
      split = rw same refl;
      is_part = let v : found.0 ≡ value = cc in rw v is_part;
      len = cc;
    }

    escape_by : (a b c : Bool) → (second == 34) ≡ a → (second == 92) ≡ b → (second == 120) ≡ c
        → cond (a || b) (Some (second, 2)) (cond c (coded (code_of rest)) None) ≡ Some found
        → Fronts (92 ∷ second ∷ rest) found
    escape_by true b c ha hb hc e = fronts 34 (grind (arith, nat_tests)) quote e
    escape_by false true c ha hb hc e = fronts 92 (grind (arith, nat_tests)) backslash e
    escape_by false false true ha hb hc e =
        let same : second ≡ 120 = grind (arith, nat_tests) in
        rw same (code_found rest found e)
    escape_by false false false ha hb hc e = absurd (cc)

-- a part that is found stands at the front
pub part_fronts : (bytes : List ℕ) (found : ℕ × ℕ) → part_of bytes ≡ Some found → Fronts bytes found
part_fronts [] found is = absurd (cc)
part_fronts (first ∷ rest) found is = part_by (first == 92) (is_plain first) refl refl is
  where
    part_by : (a b : Bool) → (first == 92) ≡ a → is_plain first ≡ b
        → cond a (escape_of rest) (cond b (Some (first, 1)) None) ≡ Some found
        → Fronts (first ∷ rest) found
    part_by true b ha hb e =
        let same : first ≡ 92 = grind (arith, nat_tests) in
        rw same (escape_found rest found e)
    part_by false true ha hb e = record {
      part = first ∷ [];
      beyond = rest;
      split = refl;
      is_part = let v : found.0 ≡ first = cc in rw v (plain first (plain_from_test first hb));
      len = cc;
    }
    part_by false false ha hb e = absurd (cc)
