-- Statement. How the keys of a collect are divided, and what a shard has of a word and of a table.
use Rattle.std.specs.Prelude.{◌<◌, ◌==◌, ◌||◌, ℕ, Bool, List, filter}
use Rattle.value_ops.specs.declared.scalar.Scalar.{Scalar}
use Rattle.predicates.specs.Truth.{holds}
use Rattle.rate_expr.specs.Words.{Word}
use Rattle.query_model.specs.Keys.{key_of}
use Rattle.key_shards.specs.Collections.{Collection}

-- keys, each with what stands under it
abbrev pub Entries : Type 0
Entries = List (List ℕ × Scalar)

-- each key has a home, which is one of so many shards
pub record Division : Type 0 where
  pub shards : ℕ
  pub home : List ℕ → ℕ
  pub within : (key : List ℕ) → home key < shards

-- whether the home of a key is this shard
abbrev pub is_home : Division → ℕ → List ℕ → Bool
is_home division shard key = division.home key == shard

-- what some keys share in a word: their items, and those that meet the predicate
abbrev pub share : Collection → (List ℕ → Bool) → Word → Word
share given theirs word =
    filter (λ item. holds given.sync item || theirs (key_of given.chosen item)) word

-- the entries of some keys
abbrev pub entries_of : (List ℕ → Bool) → Entries → Entries
entries_of theirs entries = filter (λ entry. theirs entry.0) entries
