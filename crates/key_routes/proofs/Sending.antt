-- Where items go, and what comes to a shard.
use Rattle.std.proofs.Common.{◌≡◌, ◌<◌, ◌==◌, ◌||◌, ℕ, Bool, true, false, cond, List, [], ◌∷◌}
use Rattle.std.proofs.Common.{filter, refl, sym, ap, ◌∙◌, arith}
use Rattle.value_ops.specs.declared.field.Field.{Field}
use Rattle.predicates.specs.Predicates.{Predicate}
use Rattle.predicates.specs.Truth.{holds}
use Rattle.rate_expr.specs.Words.{Word}
use Rattle.query_model.specs.Keys.{key_of}
use Rattle.key_shards.specs.Collections.{Collection}
use Rattle.key_shards.specs.Shares.{Division, is_home, share}
use Rattle.key_routes.specs.Hashes.{shard_of_key}
use Rattle.key_routes.specs.Routes.{IsByHash, comes_to, route_of}
use Rattle.key_routes.specs.declared.route.Route.TheVariants.{All, One}

-- the division by hashes
pub divided : (shards : ℕ) → 0 < shards
    → (division : Division) × IsByHash division × (division.shards ≡ shards)
divided shards some = (
  record {
    shards = shards;
    home = shard_of_key shards;
    within = λ key. omega arith;
  },
  λ key. refl,
  refl,
)

-- items that are tested alike are kept alike
filter_alike : (p q : List Field → Bool) → ((item : List Field) → p item ≡ q item)
    → (word : Word) → filter p word ≡ filter q word
filter_alike p q alike [] = refl
filter_alike p q alike (item ∷ word) =
    ap (λ (b : Bool). cond b (item ∷ filter p word) (filter p word)) (alike item)
    ∙ ap (λ (w : Word). cond (q item) (item ∷ w) w) (filter_alike p q alike word)

-- what goes to all comes to this shard, and else what goes to it
comes : (meets : Bool) (home shard : ℕ)
    → (meets || (home == shard)) ≡ comes_to shard (cond meets All (One home))
comes true home shard = refl
comes false home shard = refl

-- a share are the items that come to the shard
pub share_sent : (given : Collection) (division : Division) (shard : ℕ) (word : Word)
    → IsByHash division → share given (is_home division shard) word
    ≡ filter (λ item. comes_to shard (route_of given.chosen given.sync division.shards item)) word
share_sent given division shard word by_hash =
    filter_alike
    (λ item. holds given.sync item || is_home division shard (key_of given.chosen item))
    (λ item. comes_to shard (route_of given.chosen given.sync division.shards item))
    (λ item.
    ap (λ (home : ℕ). holds given.sync item || (home == shard)) (by_hash (key_of given.chosen item))
    ∙ comes (holds given.sync item) (shard_of_key division.shards (key_of given.chosen item)) shard)
    word

-- items with one key go to one shard
pub one_home : (chosen : List ℕ) (sync : Predicate) (shards : ℕ) (one other : List Field)
    → holds sync one ≡ false → holds sync other ≡ false → key_of chosen one ≡ key_of chosen other
    → route_of chosen sync shards one ≡ route_of chosen sync shards other
one_home chosen sync shards one other first second same =
    ap (λ (b : Bool). cond b All (One (shard_of_key shards (key_of chosen one)))) first
    ∙ ap (λ (key : List ℕ). One (shard_of_key shards key)) same
    ∙ ap (λ (b : Bool). cond b All (One (shard_of_key shards (key_of chosen other)))) (sym second)
