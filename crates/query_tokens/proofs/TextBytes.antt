-- The bytes that a string stands for, part by part.
use Rattle.std.proofs.Common.{◌≡◌, ℕ, ◌+◌, ◌≤◌, List, [], ◌∷◌, ◌++◌, length, drop, Some, None, refl}
use Rattle.std.proofs.Common.{sym, ap, ◌∙◌, arith}
use Rattle.std.proofs.lemmas.List.{append_assoc, append-nil, length-drop, drop-drop, drop_at}
use Rattle.query_tokens.specs.Raw.{AreParts, IsString}
use Rattle.query_tokens.specs.StringParts.{part_of}
use Rattle.query_tokens.proofs.Parts.{part_is_found}
use Rattle.query_tokens.proofs.Closing.{part_within, same_found}

-- parts and a quote are left here, and their bytes complete those so far
pub record Remains (raw : List ℕ) (at : ℕ) (so_far : List ℕ) : Type 0 where
  pub parts : List ℕ
  pub values : List ℕ
  pub within : at ≤ length raw
  pub rest : drop at raw ≡ parts ++ 34 ∷ []
  pub stand : AreParts parts values
  pub whole : IsString raw (so_far ++ values)

-- after the first quote all of them are left
pub Remains-first : (raw bytes : List ℕ) → IsString raw bytes → Remains raw 1 []
Remains-first raw bytes string = record {
  parts = string.parts;
  values = bytes;
  within = omega (arith, ap length string.quoted);
  rest = ap (drop 1) string.quoted;
  stand = string.stand;
  whole = string;
}

-- a part that stands first among parts is the one that is found
first_part : (parts value : List ℕ) (v : ℕ) (are : AreParts parts (v ∷ value))
    → part_of (parts ++ 34 ∷ []) ≡ Some (v, length are.0)
first_part parts value v are =
    ap (λ p. part_of (p ++ 34 ∷ [])) are.2 ∙ ap part_of (append_assoc are.0 are.1 (34 ∷ []))
    ∙ part_is_found are.0 (are.1 ++ 34 ∷ []) v are.3

-- a part more
pub Remains-more : (raw : List ℕ) (at : ℕ) (so_far : List ℕ) (found : ℕ × ℕ)
    → part_of (drop at raw) ≡ Some found → Remains raw at so_far
    → Remains raw (at + found.1) (so_far ++ found.0 ∷ [])
Remains-more raw at so_far found is left = by_values left.values left.stand left.whole
  where
    by_values : (values : List ℕ) → AreParts left.parts values → IsString raw (so_far ++ values)
        → Remains raw (at + found.1) (so_far ++ found.0 ∷ [])
    by_values [] are whole =
        let none : part_of (34 ∷ []) ≡ None = refl in
        absurd (cc (ap part_of left.rest, ap (λ p. part_of (p ++ 34 ∷ [])) are, none, is))
    by_values (v ∷ values) are whole =
        let same = same_found found (v, length are.0)
        (sym is ∙ ap part_of left.rest ∙ first_part left.parts values v are) in
        let split : drop at raw ≡ are.0 ++ (are.1 ++ 34 ∷ []) =
        left.rest ∙ ap (λ p. p ++ 34 ∷ []) are.2 ∙ append_assoc are.0 are.1 (34 ∷ []) in
        let some = part_within (drop at raw) found is in
        record {
          parts = are.1;
          values = values;
          within = omega (arith, some.1, left.within, length-drop at raw);
          rest = sym (drop-drop found.1 at raw) ∙ ap (drop found.1) split
              ∙ drop_at are.0 (are.1 ++ 34 ∷ []) found.1 (sym same.1);
          stand = are.4;
          whole = rw (same.0, append_assoc) whole;
        }

-- where no part is left, the bytes so far are all
pub Remains-none : (raw : List ℕ) (at : ℕ) (so_far : List ℕ) → part_of (drop at raw) ≡ None
    → Remains raw at so_far → IsString raw so_far
Remains-none raw at so_far none left = by_values left.values left.stand left.whole
  where
    by_values : (values : List ℕ) → AreParts left.parts values → IsString raw (so_far ++ values)
        → IsString raw so_far
    by_values [] are whole = rw append-nil at whole
    by_values (v ∷ values) are whole =
        absurd (cc (ap part_of left.rest, first_part left.parts values v are, none))
