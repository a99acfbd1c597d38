-- Statement. What it means that the runners for keys stand for a word: each follows what the word
-- has for its key.
use Rattle.std.specs.Prelude.{◌≡◌, ◌↔◌, ℕ, List, [], filter}
use Rattle.std.specs.List.{AllZip, Contains}
use Rattle.predicates.specs.Predicates.{Predicate}
use Rattle.predicates.specs.Truth.{holds}
use Rattle.rate_expr.specs.Words.{Word}
use Rattle.query_model.specs.Denotation.{keys_after, projection}
use Rattle.map_collect.specs.Keys.{fallback_of, followers_of, names_of}
use Rattle.map_collect.specs.Tracks.{starts_of}
use Rattle.map_collect.specs.declared.keys.Keys.{Keys}
use Rattle.map_collect.specs.declared.track.Track.{Track}
use Rattle.eval_nodes.specs.Starts.{AreDifferent}

module _ {R : Type 0} where
  -- the runner that is copied for new keys follows what the word has for all keys; the keys are
  -- those of the word, in the order in which they appear; and the runner of each key follows what
  -- the word has for it
  pub record StandFor (follows : Word → R → Type 0) (chosen : List ℕ)
      (sync : Predicate) (word : Word)
      (keys : Keys R) : Type 0 where
    pub fallback : follows (filter (holds sync) word) (fallback_of keys)
    pub names : names_of keys ≡ keys_after chosen sync [] word
    pub each : AllZip (λ key runner. follows (projection chosen sync key word) runner)
        (names_of keys) (followers_of keys)

  -- each live start is there once, with the state and the keys after its piece
  pub record AreTracked (lives : ℕ → Type 0) (tracks : ℕ → Track R → Type 0)
      (all : List (Track R)) : Type 0 where
    pub distinct : AreDifferent (starts_of all)
    pub there : (start : ℕ) → Contains (starts_of all) start ↔ lives start
    pub each : (track : Track R) → Contains all track → tracks track.start track
