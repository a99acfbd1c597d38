-- The key for one column, and for any other number of columns.
use Rattle.std.proofs.Common.{◌≡◌, ℕ, List, [], ◌∷◌, length, get_or, refl, ap, sym, arith}
use Rattle.joined_texts.specs.Joining.{joined}
use Rattle.value_ops.specs.declared.field.Field.{Field}
use Rattle.query_model.specs.Keys.{key_of, text_in, texts_in}

-- of one column it is the text there
pub key_of_one : (chosen : List ℕ) (column : ℕ) (item : List Field) → length chosen ≡ 1
    → column ≡ get_or chosen 0 column → key_of chosen item ≡ text_in column item
key_of_one [] column item one is = absurd (omega (arith, one))
key_of_one (first ∷ []) column item one is = ap (λ at. text_in at item) (sym is)
key_of_one (first ∷ second ∷ more) column item one is = absurd (omega (arith, one))

-- of any other number the texts are joined
pub key_of_others : (chosen : List ℕ) (item : List Field) → (length chosen ≡ 1 → ⊥)
    → key_of chosen item ≡ joined (texts_in chosen item)
key_of_others [] item others = refl
key_of_others (first ∷ []) item others = absurd (others refl)
key_of_others (first ∷ second ∷ more) item others = refl
