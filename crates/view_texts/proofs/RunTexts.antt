-- Without digits after the point, values are written as a run writes them.
use Rattle.std.proofs.Common.{◌≡◌, ℕ, ℤ, pos, negsuc, List, [], ◌∷◌, ◌++◌, codes, refl, ap, ◌∙◌}
use Rattle.std.proofs.Common.{append-nil, append_assoc, arith, false}
use Rattle.std.specs.Fmt.{signed_decimal}
use Rattle.std.specs.Int.{is_negative}
use Rattle.std.specs.List.{flat_map, join_by}
use Rattle.std.proofs.lemmas.Bool.Decides.{nat_tests}
use Rattle.value_ops.specs.declared.scalar.Scalar.{Scalar}
use Rattle.value_ops.specs.declared.scalar.Scalar.TheVariants.{Number, Overflow, DivZero}
use Rattle.value_ops.specs.declared.value.Value.{Value}
use Rattle.value_ops.specs.declared.value.Value.TheVariants as value
use Rattle.report_writer.specs.Texts as run
use Rattle.view_texts.specs.Decimals.{decimal_text}
use Rattle.view_texts.specs.Values.{entry_text, scalar_text, value_text}
use Rattle.view_texts.specs.declared.notation.Notation.TheVariants.{Plain}

-- a number has no sign
not_negative : (size : ℕ) → is_negative (pos size) ≡ false
not_negative size = grind (arith, nat_tests)

number_same : (number : ℤ) → decimal_text 0 number ≡ signed_decimal number
number_same (pos size) = rw (not_negative size) refl
number_same (negsuc size) = refl

scalar_same : (scalar : Scalar) → scalar_text Plain 0 scalar ≡ run.scalar_text scalar
scalar_same (Number number) = number_same number
scalar_same Overflow = refl
scalar_same DivZero = refl

entry_same : (entry : List ℕ × Scalar) → entry_text Plain 0 entry ≡ run.entry_text entry
entry_same entry = ap (λ (l : List ℕ). run.key_text entry.0 ++ codes ":" ++ l) (scalar_same entry.1)

-- entries with a comma between each two
entries_same : (entries : List (List ℕ × Scalar))
    → join_by run.entry_text (codes ",") entries ≡ run.entries_text entries
entries_same [] = refl
entries_same (entry ∷ []) = append-nil (run.entry_text entry)
entries_same (entry ∷ other ∷ entries) =
    apart (run.entry_text entry) (run.entry_text other)
    (flat_map (λ (e : List ℕ × Scalar). codes "," ++ run.entry_text e) entries)
    ∙ ap (λ (l : List ℕ). run.entry_text entry ++ codes "," ++ l)
    (entries_same (other ∷ entries))
  where
    apart : (a b c : List ℕ) → a ++ ((codes "," ++ b) ++ c) ≡ a ++ codes "," ++ (b ++ c)
    apart a b c = simp append_assoc

pub as_a_run : (given : Value) → value_text Plain 0 given ≡ run.value_text given
as_a_run (value.Scalar scalar) = scalar_same scalar
as_a_run (value.Rec parts) =
    let same : scalar_text Plain 0 ≡ run.scalar_text = λ i scalar. scalar_same scalar i in
    ap (λ (f : Scalar → List ℕ). codes "(" ++ join_by f (codes ",") parts ++ codes ")") same
as_a_run (value.Table entries) =
    let same : entry_text Plain 0 ≡ run.entry_text = λ i entry. entry_same entry i in
    ap (λ (f : List ℕ × Scalar → List ℕ). codes "{" ++ join_by f (codes ",") entries ++ codes "}")
    same
    ∙ ap (λ (l : List ℕ). codes "{" ++ l ++ codes "}") (entries_same entries)
