-- Statement. How many keys a query has met in a word. What is kept for the query grows with this
-- number alone.
use Rattle.std.specs.Prelude.{◌&&◌, ◌+◌, ℕ, max, Bool, List, [], ◌∷◌, ◌++◌, length, map}
use Rattle.std.specs.Prelude.{flat_map}
use Rattle.std.specs.Set.{distinct_count}
use Rattle.std.specs.Str.{bytes_eq}
use Rattle.value_ops.specs.declared.field.Field.{Field}
use Rattle.value_ops.specs.declared.field.Field.TheVariants.{Val}
use Rattle.value_ops.specs.declared.value.Value.{Value}
use Rattle.value_ops.specs.declared.value.Value.TheVariants as value
use Rattle.rate_expr.specs.Words.{Word}
use Rattle.query_model.specs.Keys.{key_of}
use Rattle.query_model.specs.Queries.{Qre, atom, eps, choice, split, iter, combine, apply, compose}
use Rattle.query_model.specs.Queries.{collect}

-- for each collect of the query the columns of its keys; the right operand of a compose, which
-- reads other items, has no collect
abbrev pub key_columns : Qre → List (List ℕ)
key_columns (atom pred expression) = []
key_columns (eps number) = []
key_columns (choice f g) = key_columns f ++ key_columns g
key_columns (split f g expression) = key_columns f ++ key_columns g
key_columns (iter f number expression) = key_columns f
key_columns (combine f g expression) = key_columns f ++ key_columns g
key_columns (apply f expression) = key_columns f
key_columns (compose f g) = key_columns f
key_columns (collect chosen sync rate f) = chosen ∷ key_columns f

-- a key for some columns
pub record Key : Type 0 where
  pub columns : List ℕ
  pub text : List ℕ

-- the same key for the same columns
abbrev pub is_same : Key → Key → Bool
is_same key other = bytes_eq key.columns other.columns && bytes_eq key.text other.text

-- the keys of an item, one for each of these lists of columns, and then those of all items
abbrev pub keys_in : List (List ℕ) → List Field → List Key
keys_in lists item = map (λ chosen. record { columns = chosen; text = key_of chosen item }) lists

abbrev pub keys_among : List (List ℕ) → Word → List Key
keys_among lists word = flat_map (keys_in lists) word

-- how many entries the value has as a table
abbrev pub entries_of : Value → ℕ
entries_of (value.Scalar scalar) = 0
entries_of (value.Rec parts) = 0
entries_of (value.Table entries) = length entries

abbrev pub entries_in : Field → ℕ
entries_in (Val inner) = entries_of inner
entries_in _ = 0

-- the greatest of numbers
abbrev pub greatest : List ℕ → ℕ
greatest [] = 0
greatest (number ∷ numbers) = max number (greatest numbers)

-- the number of entries of the greatest table among the items; an item that was read from a line
-- has none
abbrev pub most_entries : Word → ℕ
most_entries word = greatest (flat_map (map entries_in) word)

-- the number of keys that were met, each counted once for each list of columns, plus the number of
-- entries of the greatest table
abbrev pub keys_met : Qre → Word → ℕ
keys_met query word =
    distinct_count is_same (keys_among (key_columns query) word) + most_entries word
