-- Statement. The key that an item has for the columns of a collect: the text in a column, or the
-- texts in several, joined.
use Rattle.std.specs.Prelude.{◌≡◌, ◌≤◌, ℕ, List, [], ◌∷◌, map, slice_get}
use Rattle.std.specs.Option.{option_and_then, unwrap_or}
use Rattle.std.specs.List.{AllByRecursion}
use Rattle.joined_texts.specs.Joining.{joined}
use Rattle.value_ops.specs.declared.field.Field.{Field}
use Rattle.value_ops.specs.Fields.{text_of}

-- a number of columns that a key may have
pub record IsKeySize (count : ℕ) : Type 0 where
  pub least : 1 ≤ count
  pub most : count ≤ 4

-- the text in a column
abbrev pub text_in : ℕ → List Field → List ℕ
text_in column item = unwrap_or (option_and_then text_of (slice_get item column)) []

-- the texts in columns
abbrev pub texts_in : List ℕ → List Field → List (List ℕ)
texts_in columns item = map (λ column. text_in column item) columns

-- the key: of one column its text as it is, and of several all texts, joined
abbrev pub key_of : List ℕ → List Field → List ℕ
key_of (column ∷ []) item = text_in column item
key_of columns item = joined (texts_in columns item)

-- the items have the same texts in these columns
abbrev pub AgreeIn : List ℕ → List Field → List Field → Type 0
AgreeIn columns item other =
    AllByRecursion (λ column. text_in column item ≡ text_in column other) columns
