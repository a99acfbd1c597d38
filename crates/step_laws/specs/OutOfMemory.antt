-- Statement. What becomes of runners for keys if memory runs out while an item goes by.
use Rattle.std.specs.Prelude.{◌≡◌, ◌⊎◌, ℕ, List, false}
use Rattle.value_ops.specs.declared.field.Field.{Field}
use Rattle.predicates.specs.Predicates.{Predicate}
use Rattle.predicates.specs.Truth.{holds}
use Rattle.query_model.specs.Keys.{key_of}
use Rattle.query_model.specs.Queries.{Qre}
use Rattle.map_collect.specs.Keys.{fallback_of, keyed_of}
use Rattle.map_collect.specs.Lending.{with_follower}
use Rattle.map_collect.specs.declared.keys.Keys.{Keys}
use Rattle.eval_nodes.specs.Holdings.{Seen}
use Rattle.step_laws.specs.Pushes.{HasKey}

module _ {R : Type 0} (seen : R → Seen R) where
  -- the key is there, as it was or with a copy of the runner for new keys, and only its runner has
  -- changed
  pub record IsRunnerLeft (query : Qre) (key : List ℕ) (old new : Keys R) : Type 0 where
    pub place : ℕ
    pub mid : Keys R
    pub runner : R
    pub has : HasKey seen query key old place mid
    pub fallback : fallback_of new ≡ fallback_of mid
    pub keyed : keyed_of new ≡ with_follower (keyed_of mid) place runner

  -- all is as before, so that a new key leaves no trace if it is out of memory; or the key is there
  abbrev pub IsKeyLeft : Qre → List ℕ → Keys R → Keys R → Type 0
  IsKeyLeft query key old new = (new ≡ old) ⊎ IsRunnerLeft query key old new

  -- an item of one key leaves the runners so; an item of all keys may have gone by at some of them
  abbrev pub IsLeft : Qre → List ℕ → Predicate → Keys R → List Field → Keys R → Type 0
  IsLeft query chosen sync old item new =
      (holds sync item ≡ false) → IsKeyLeft query (key_of chosen item) old new
