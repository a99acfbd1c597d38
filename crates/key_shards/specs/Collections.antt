-- Statement. A collect by its parts, the query of its shards, and its mask.
use Rattle.std.specs.Prelude.{ℕ, pos, List, Option, None, Some}
use Rattle.predicates.specs.Predicates.{Predicate, any}
use Rattle.rate_expr.specs.Rates.{Regex, one, star}
use Rattle.query_model.specs.Queries.{Qre, collect, eps}

-- the columns of the keys, the predicate, the rate and the body of a collect
pub record Collection : Type 0 where
  pub chosen : List ℕ
  pub sync : Predicate
  pub rate : Regex
  pub body : Qre

-- the collect itself
abbrev pub whole_of : Collection → Qre
whole_of given = collect given.chosen given.sync given.rate given.body

-- the rate that every word is in
abbrev pub all_words : Regex
all_words = star (one any)

-- a shard's query: the same collect, on all words
abbrev pub shard_of : Collection → Qre
shard_of given = collect given.chosen given.sync all_words given.body

-- the mask: a table without keys, on the words of the rate
abbrev pub mask_of : Collection → Qre
mask_of given = collect given.chosen any given.rate (eps (pos 0))

-- the collect that a query is, if it is one
abbrev pub collection_in : Qre → Option Collection
collection_in (collect chosen sync rate f) =
    Some (record { chosen = chosen; sync = sync; rate = rate; body = f })
collection_in _ = None
