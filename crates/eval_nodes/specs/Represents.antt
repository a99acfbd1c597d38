-- Statement. What it means that a node stands for a word and starts in it: its lists have exactly
-- the readings of the word from these starts that can be extended.
use Rattle.std.specs.Prelude.{◌≡◌, ◌≤◌, ◌↔◌, ℕ, ◌+◌, ◌*◌, List, [], ◌∷◌, Some, drop, length}
use Rattle.std.specs.List.{AllByRecursion, Contains}
use Rattle.value_ops.specs.declared.value.Value.{Value}
use Rattle.item_schema.specs.declared.column.Column.{Column}
use Rattle.rate_expr.specs.After.{IsAfter}
use Rattle.rate_expr.specs.FirstLastFollow.{AreSetsOf}
use Rattle.rate_expr.specs.Language.{In}
use Rattle.rate_expr.specs.Rates as rate
use Rattle.rate_expr.specs.Readings.{HasExtension}
use Rattle.rate_expr.specs.Words.{Word}
use Rattle.query_model.specs.Bounds.{places_of, slots_of}
use Rattle.query_model.specs.Denotation.{Den, Outputs}
use Rattle.query_model.specs.Following.{IsAnswer}
use Rattle.query_model.specs.Queries.{Qre, atom, eps, choice, split, iter, combine, apply, compose}
use Rattle.query_model.specs.Queries.{collect}
use Rattle.query_model.specs.QueryTypes.{derived_columns, type_of}
use Rattle.query_model.specs.Rates.{rate_of}
use Rattle.split_eval.specs.Entries.{entry_at, AreDistinct}
use Rattle.split_eval.specs.declared.entry.Entry.{Entry}
use Rattle.compose_eval.specs.Followers.{Contents, outers_of}
use Rattle.memory_bound.specs.KeysMet.{keys_met}
use Rattle.eval_nodes.specs.Counts.{size_of_runner, stored_in}
use Rattle.eval_nodes.specs.Holdings.{Holding, atom_held, eps_held, choice_held, combine_held}
use Rattle.eval_nodes.specs.Holdings.{apply_held, split_held, iter_held, compose_held, collect_held}
use Rattle.eval_nodes.specs.Holdings.{Seen}
use Rattle.eval_nodes.specs.Keyed.{AreTracked, StandFor}
use Rattle.eval_nodes.specs.Starts.{IsLive, IsPiece, AreDifferent}

-- the positions at which the pieces from these starts end that are in the set
abbrev pub AreReached : (Word → Type 0) → Word → List ℕ → List ℕ → Type 0
AreReached A word starts ends = (end : ℕ) → Contains ends end
    ↔ ((start : ℕ) × (piece : Word) × Contains starts start
    × IsPiece word start piece end × A piece)

-- the entry that is found at the inner start has this outer start and this value
abbrev pub IsEntry : List (Entry Value) → ℕ → ℕ → Value → Type 0
IsEntry entries inner outer value =
    entry_at entries inner ≡ Some (record { inner = inner; outer = outer; value = value })

-- the entries are the values of pieces that begin at the starts and end where a further piece is
-- live
pub record AreWaiting (D : Word → Value → Type 0) (continues : Word → Type 0) (word : Word)
    (starts : List ℕ)
    (entries : List (Entry Value)) : Type 0 where
  pub distinct : AreDistinct entries
  pub each : (inner outer : ℕ) (value : Value) → IsEntry entries inner outer value
      ↔ (Contains starts outer × ((piece : Word) × IsPiece word outer piece inner × D piece value)
      × continues (drop inner word))

module _ {R : Type 0} (seen : R → Seen R) where
  -- a runner follows a word of a query: what is kept for it stands for the word and the single
  -- start 0
  pub record IsFollowing (stands : Holding R → Word → List ℕ → Type 0) (query : Qre) (word : Word)
      (runner : R) : Type 0 where
    pub position : (seen runner).position ≡ length word
    pub node : stands (seen runner).node word (0 ∷ [])
    pub answer : IsAnswer query word (seen runner).answer

  -- the runner follows the values that the left operand has on the word, one after the other
  abbrev pub IsFed : (Word → Value → Type 0) → (Word → R → Type 0) → Word → R → Type 0
  IsFed D follows word runner = (out : Word) × Outputs D [] word out × follows out runner

  -- the runner keeps at most this much
  abbrev pub KeepsFew : (Holding R → ℕ) → ℕ → R → Type 0
  KeepsFew size most runner = size_of_runner seen size runner ≤ most

  -- each live start has one runner, which follows what it has to see; with the idle ones there are
  -- `count` runners
  pub record AreFed (lives : ℕ → Type 0) (sees : ℕ → R → Type 0) (count : ℕ)
      (held : Contents R) : Type 0 where
    pub distinct : AreDifferent (outers_of held.live)
    pub there : (start : ℕ) → Contains (outers_of held.live) start ↔ lives start
    pub each : (start : ℕ) (runner : R)
        → Contains held.live (record { outer = start; follower = runner }) → sees start runner
    pub full : length held.live + length held.idle ≡ count

  -- what is kept for the query stands for the word and the starts
  abbrev pub Represents : List Column → Qre → Holding R → Word → List ℕ → Type 0
  Represents columns (atom pred expression) (atom_held found) word starts =
      (start : ℕ) → (found ≡ Some start) ↔ (Contains starts start × (start ≡ length word))
  Represents columns (eps number) eps_held word starts = Unit {0}
  Represents columns (choice f g) (choice_held a b) word starts =
      Represents columns f a word starts × Represents columns g b word starts
  Represents columns (split f g expression) (split_held a b left) word starts =
      Represents columns f a word starts
      × ((ends : List ℕ) × AreReached (In (rate_of f)) word starts ends
      × Represents columns g b word ends)
      × AreWaiting (Den f) (HasExtension columns (rate_of g)) word starts left.entries
      × (left.room ≡ places_of g)
  Represents columns (iter f number expression) (iter_held a so_far) word starts =
      ((ends : List ℕ) × AreReached (In (rate.star (rate_of f))) word starts ends
      × Represents columns f a word ends)
      × AreWaiting (Den (iter f number expression)) (HasExtension columns (rate_of f)) word starts
      so_far.entries
      × (so_far.room ≡ places_of f)
  Represents columns (combine f g expression) (combine_held a b) word starts =
      Represents columns f a word starts × Represents columns g b word starts
  Represents columns (apply f expression) (apply_held a) word starts =
      Represents columns f a word starts
  Represents columns (compose f g) (compose_held a held) word starts =
      Represents columns f a word starts
      × AreFed (IsLive columns f word starts)
      (λ start runner. IsFed (Den f)
      (IsFollowing (Represents (derived_columns (type_of columns f)) g) g)
      (drop start word) runner)
      (places_of f + 1) held
      × AllByRecursion
      (KeepsFew (stored_in seen g) (slots_of g * (1 + keys_met (compose f g) word))) held.idle
  Represents columns (collect chosen sync rate f) (collect_held all) word starts =
      AreSetsOf all.nfa.sets rate × (all.nfa.cells.layout.columns ≡ columns)
      × AreTracked (IsLive columns (collect chosen sync rate f) word starts)
      (λ start track. IsAfter all.nfa.sets (drop start word) track.state
      × StandFor (IsFollowing (Represents columns f) f) chosen sync (drop start word) track.keys)
      all.tracks
  Represents columns query holding word starts = ⊥
