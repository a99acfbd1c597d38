-- Statement. Where the key of an item is to be found.
use Rattle.std.specs.Prelude.{◌≡◌, ◌⊎◌, ℕ, List, length}
use Rattle.value_ops.specs.declared.field.Field.{Field}
use Rattle.query_model.specs.Keys.{key_of}

-- in the item as it is, if it is that of one column, or else among what was joined
abbrev pub IsKeyAtHand : List ℕ → List Field → List ℕ → Type 0
IsKeyAtHand columns item joined = (length columns ≡ 1) ⊎ (joined ≡ key_of columns item)
