-- Statement. What the query of a shard and the mask have of the query that they are made of.
use Rattle.std.specs.Prelude.{◌≡◌, ◌↔◌, ◌<◌, ℕ, Bool, List, Some}
use Rattle.value_ops.specs.declared.value.Value.{Value}
use Rattle.value_ops.specs.declared.value.Value.TheVariants.{Table}
use Rattle.item_schema.specs.declared.column.Column.{Column}
use Rattle.rate_expr.specs.Rates.{size_of}
use Rattle.rate_expr.specs.Words.{IsWordOf, Word}
use Rattle.query_model.specs.Bounds.{slots_of}
use Rattle.query_model.specs.Denotation.{Den}
use Rattle.query_model.specs.Queries.{Qre}
use Rattle.query_model.specs.Sizes.{max_slots}
use Rattle.key_shards.specs.Collections.{Collection, collection_in, shard_of, whole_of}
use Rattle.key_shards.specs.Shares.{Entries, entries_of, share}

-- the query has a value on the word
abbrev pub IsDefined : Qre → Word → Type 0
IsDefined query word = (value : Value) × Den query word value

-- two queries have values on the same words of items of these columns
abbrev pub AreDefinedAlike : List Column → Qre → Qre → Type 0
AreDefinedAlike columns one other =
    (word : Word) → IsWordOf columns word → IsDefined one word ↔ IsDefined other word

-- the second query has those entries of the tables of the first, a collect, that stand under some
-- keys, where it has what these keys share in a word
abbrev pub HasItsEntries : Qre → Qre → Type 0
HasItsEntries whole part =
    (given : Collection) (theirs : List ℕ → Bool) (word : Word) (entries : Entries)
    → whole ≡ whole_of given → Den whole word (Table entries)
    → Den part (share given theirs word) (Table (entries_of theirs entries))

-- the query is a collect over a rate without positions, and its shards would keep too much
abbrev pub IsTooLarge : Qre → Type 0
IsTooLarge query = (given : Collection) × (collection_in query ≡ Some given)
    × (size_of given.rate ≡ 0) × (max_slots < slots_of (shard_of given))
