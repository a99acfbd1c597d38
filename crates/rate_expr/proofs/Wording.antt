-- Words of items: put together and taken apart.
use Rattle.std.proofs.Common.{◌≡◌, ◌≢◌, ◌<◌, List, [], ◌∷◌, ◌++◌, ◌⊎◌, length, refl, sym, ap, inl}
use Rattle.std.proofs.Common.{inr, arith, length-append}
use Rattle.value_ops.specs.declared.field.Field.{Field}
use Rattle.item_schema.specs.declared.column.Column.{Column}
use Rattle.item_schema.specs.Items.{IsItemOf}
use Rattle.rate_expr.specs.Words.{Word, IsWordOf}

-- one more item of the columns
pub word_more : (columns : List Column) (word : Word) (item : List Field)
    → IsWordOf columns word → IsItemOf columns item → IsWordOf columns (word ++ item ∷ [])
word_more columns [] item is one = (one, tt)
word_more columns (x ∷ word) item is one = (is.0, word_more columns word item is.1 one)

-- the parts of a word of the columns
pub word_parts : (columns : List Column) (u v : Word) → IsWordOf columns (u ++ v)
    → IsWordOf columns u × IsWordOf columns v
word_parts columns [] v is = (tt, is)
word_parts columns (x ∷ u) v is = let parts = word_parts columns u v is.1 in
    ((is.0, parts.0), parts.1)

-- of two beginnings of one word, one continues to the other
pub comparable : (u v u' v' : Word) → u ++ v ≡ u' ++ v'
    → ((t : Word) × (u' ≡ u ++ t) × (v ≡ t ++ v')) ⊎ ((t : Word) × (u ≡ u' ++ t) × (v' ≡ t ++ v))
comparable [] v u' v' same = inl (u', refl, same)
comparable (x ∷ u) v [] v' same = inr (x ∷ u, refl, sym same)
comparable (x ∷ u) v (y ∷ u') v' same =
    let heads : x ≡ y = cc in
    let tails : u ++ v ≡ u' ++ v' = cc in
    elim (comparable u v u' v' tails) [
      | inl more ↦ inl (more.0, cc, more.2)
      | inr more ↦ inr (more.0, cc, more.2)
    ]

-- a word with another after it is not that word
pub longer : (u t : Word) → 0 < length t → u ≢ u ++ t
longer u t some same = absurd (omega (arith, ap length same, length-append u t))
