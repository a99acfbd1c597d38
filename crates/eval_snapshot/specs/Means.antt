-- Statement. What it means that a runner that is kept stands for a word of a query: its lists have
-- exactly the readings of the word that can be extended, each once.
use Rattle.std.specs.Prelude.{◌≡◌, ◌≤◌, ◌↔◌, ℕ, List, [], ◌∷◌, drop, filter, length, map}
use Rattle.std.specs.List.{Contains}
use Rattle.value_ops.specs.declared.value.Value.{Value}
use Rattle.item_schema.specs.declared.column.Column.{Column}
use Rattle.predicates.specs.Predicates.{Predicate}
use Rattle.predicates.specs.Truth.{holds}
use Rattle.rate_expr.specs.After.{IsAfter}
use Rattle.rate_expr.specs.FirstLastFollow.{AreSetsOf}
use Rattle.rate_expr.specs.Language.{In}
use Rattle.rate_expr.specs.Rates as rate
use Rattle.rate_expr.specs.Readings.{HasExtension}
use Rattle.rate_expr.specs.Sets.{Sets}
use Rattle.rate_expr.specs.Words.{Word, IsWordOf}
use Rattle.query_model.specs.Denotation.{Den, Outputs, keys_after, projection}
use Rattle.query_model.specs.Following.{IsAnswer}
use Rattle.query_model.specs.Queries as query
use Rattle.query_model.specs.Queries.{Qre}
use Rattle.query_model.specs.QueryTypes.{derived_columns, type_of}
use Rattle.query_model.specs.Rates.{rate_of}
use Rattle.split_eval.specs.declared.entry.Entry as held
use Rattle.eval_nodes.specs.Represents.{AreReached, AreWaiting}
use Rattle.eval_nodes.specs.Starts.{AreDifferent, IsLive}
use Rattle.runner_snapshot.specs.declared.entries.Entry.{Entry}
use Rattle.runner_snapshot.specs.Dumps.{Runner, Node, runner, atom, eps, choice, split, iter}
use Rattle.runner_snapshot.specs.Dumps.{combine, apply, compose, collect, Fed, Keyed, Track}
use Rattle.runner_snapshot.specs.Dumps.{fed_list, keyed_list, track_list}

-- an entry as it is held in memory
abbrev pub held_entry : Entry → held.Entry Value
held_entry entry =
    record { inner = entry.inner; outer = entry.outer; value = entry.value }

-- a runner follows a word of a query: its node stands for the word and the single start 0
abbrev pub IsRunnerAfter : (Node → Word → List ℕ → Type 0) → Qre → Word → Runner → Type 0
IsRunnerAfter stands query word (runner position answer node) =
    (position ≡ length word) × IsAnswer query word answer × stands node word (0 ∷ [])

-- the runner follows the values that the left operand has on the word, one after the other
abbrev pub IsFedBy : (Word → Value → Type 0) → (Word → Runner → Type 0) → Word → Runner → Type 0
IsFedBy D follows word one = (out : Word) × Outputs D [] word out × follows out one

-- each live start has one runner, which follows what it has to see
pub record AreFedBy (lives : ℕ → Type 0) (sees : ℕ → Runner → Type 0)
    (runners : List Fed) : Type 0 where
  pub distinct : AreDifferent (map (λ one. one.outer) runners)
  pub there : (start : ℕ) → Contains (map (λ one. one.outer) runners) start ↔ lives start
  pub each : (one : Fed) → Contains runners one → sees one.outer one.runner

-- each key of the word has one runner, which follows what the word has for it, and one more runner
-- follows what the word has for all keys
pub record StandForKeys (follows : Word → Runner → Type 0) (chosen : List ℕ) (sync : Predicate)
    (word : Word) (for_others : Runner) (keys : List Keyed) : Type 0 where
  pub fallback : follows (filter (holds sync) word) for_others
  pub names : map (λ one. one.key) keys ≡ keys_after chosen sync [] word
  pub each : (one : Keyed) → Contains keys one
      → follows (projection chosen sync one.key word) one.runner

-- each live start is there once, with the state and the keys after its piece
pub record AreTrackedBy (lives : ℕ → Type 0) (tracks : ℕ → Track → Type 0)
    (all : List Track) : Type 0 where
  pub distinct : AreDifferent (map (λ one. one.start) all)
  pub there : (start : ℕ) → Contains (map (λ one. one.start) all) start ↔ lives start
  pub each : (one : Track) → Contains all one → tracks one.start one

-- what is kept for the query stands for the word and the starts
abbrev pub Stands : List Column → Qre → Node → Word → List ℕ → Type 0
Stands columns (query.atom pred expression) (atom found) word starts =
    (length found ≤ 1)
    × ((start : ℕ) → Contains found start ↔ (Contains starts start × (start ≡ length word)))
Stands columns (query.eps number) eps word starts = Unit {0}
Stands columns (query.choice f g) (choice a b) word starts =
    Stands columns f a word starts × Stands columns g b word starts
Stands columns (query.split f g expression) (split a b entries) word starts =
    Stands columns f a word starts
    × ((ends : List ℕ) × AreReached (In (rate_of f)) word starts ends
    × Stands columns g b word ends)
    × AreWaiting (Den f) (HasExtension columns (rate_of g)) word starts (map held_entry entries)
Stands columns (query.iter f number expression) (iter a entries) word starts =
    ((ends : List ℕ) × AreReached (In (rate.star (rate_of f))) word starts ends
    × Stands columns f a word ends)
    × AreWaiting (Den (query.iter f number expression)) (HasExtension columns (rate_of f)) word
    starts (map held_entry entries)
Stands columns (query.combine f g expression) (combine a b) word starts =
    Stands columns f a word starts × Stands columns g b word starts
Stands columns (query.apply f expression) (apply a) word starts = Stands columns f a word starts
Stands columns (query.compose f g) (compose a runners) word starts =
    Stands columns f a word starts
    × AreFedBy (IsLive columns f word starts)
    (λ start one. IsFedBy (Den f)
    (IsRunnerAfter (Stands (derived_columns (type_of columns f)) g) g) (drop start word) one)
    (fed_list runners)
Stands columns (query.collect chosen sync rate f) (collect tracks) word starts =
    (sets : Sets) × AreSetsOf sets rate
    × AreTrackedBy (IsLive columns (query.collect chosen sync rate f) word starts)
    (λ start one. IsAfter sets (drop start word) one.state
    × StandForKeys (IsRunnerAfter (Stands columns f) f) chosen sync (drop start word)
    one.fallback (keyed_list one.keys))
    (track_list tracks)
Stands columns query node word starts = ⊥

-- a runner of the query that follows the word, which is one of the stream
abbrev pub Means : List Column → Qre → Runner → Word → Type 0
Means columns query dump word =
    IsWordOf columns word × IsRunnerAfter (Stands columns query) query word dump
