-- Statement. The entries of a table: keys and what stands under them.
use Rattle.std.specs.Prelude.{ℕ, List, [], ◌∷◌, map, Option, None, Some, if◌then◌else◌}
use Rattle.std.specs.List.{IsDistinct}
use Rattle.std.specs.Str.{bytes_eq}
use Rattle.value_ops.specs.declared.scalar.Scalar.{Scalar}

-- the keys, in order
abbrev pub keys_of : List (List ℕ × Scalar) → List (List ℕ)
keys_of entries = map (λ e. e.0) entries

-- the scalars, in order
abbrev pub values_of : List (List ℕ × Scalar) → List Scalar
values_of entries = map (λ e. e.1) entries

-- no two entries have one key
abbrev pub HasDistinctKeys : List (List ℕ × Scalar) → Type 0
HasDistinctKeys entries = IsDistinct bytes_eq (keys_of entries)

-- what stands under a key
abbrev pub value_at : List ℕ → List (List ℕ × Scalar) → Option Scalar
value_at key [] = None
value_at key (entry ∷ entries) = if bytes_eq entry.0 key then Some entry.1 else value_at key entries
