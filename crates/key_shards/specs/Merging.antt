-- Statement. The merge of the tables of shards, in the order in which keys first stand in a word.
use Rattle.std.specs.Prelude.{◌≡◌, ◌<◌, ◌+◌, ◌&&◌, ℕ, not, List, [], ◌∷◌, if◌then◌else◌}
use Rattle.std.specs.List.{AllByRecursion}
use Rattle.std.specs.Str.{bytes_eq}
use Rattle.value_ops.specs.declared.value.Value.TheVariants.{Table}
use Rattle.value_ops.specs.Entries.{keys_of}
use Rattle.predicates.specs.Truth.{holds}
use Rattle.rate_expr.specs.Words.{Word}
use Rattle.query_model.specs.Denotation.{Den}
use Rattle.query_model.specs.Keys.{key_of}
use Rattle.key_shards.specs.Collections.{Collection, shard_of}
use Rattle.key_shards.specs.Shares.{Division, Entries, entries_of, is_home, share}

-- how many items come before the first item of the key that does not meet the predicate: all,
-- where there is none
abbrev pub first_stand : Collection → Word → List ℕ → ℕ
first_stand given [] key = 0
first_stand given (item ∷ word) key =
    if not (holds given.sync item) && bytes_eq (key_of given.chosen item) key then 0
    else first_stand given word key + 1

-- each key stands before those after it
abbrev pub StandInOrder : (List ℕ → ℕ) → List (List ℕ) → Type 0
StandInOrder stand [] = Unit {0}
StandInOrder stand (key ∷ keys) =
    AllByRecursion (λ other. stand key < stand other) keys × StandInOrder stand keys

-- each shard has such a table on the share of its keys
abbrev pub AreTables : Collection → Division → Word → (ℕ → Entries) → Type 0
AreTables given division word tables = (shard : ℕ) → shard < division.shards
    → Den (shard_of given) (share given (is_home division shard) word) (Table (tables shard))

-- these are the entries of all tables, and their keys stand as they first stand in the word
pub record IsMerge (given : Collection) (division : Division) (word : Word) (tables : ℕ → Entries)
    (entries : Entries) : Type 0 where
  pub each : (shard : ℕ) → shard < division.shards
      → entries_of (is_home division shard) entries ≡ tables shard
  pub order : StandInOrder (first_stand given word) (keys_of entries)

-- these are the entries of tables that the shards have
abbrev pub AreMerged : Collection → Division → Word → Entries → Type 0
AreMerged given division word entries = (tables : ℕ → Entries)
    × AreTables given division word tables × IsMerge given division word tables entries
