-- Statement. What holds of a node whatever word it stands for: it has the query's shape, its lists
-- have their rooms, no start stands twice in one of them, and values have their types.
use Rattle.std.specs.Prelude.{◌≡◌, ◌≤◌, ℕ, ◌+◌, List, Option, MatchOption, length}
use Rattle.std.specs.List.{AllByRecursion}
use Rattle.value_ops.specs.declared.value.Value.{Value}
use Rattle.value_ops.specs.declared.value.ValueType.{ValueType}
use Rattle.value_ops.specs.declared.value.ValueType.TheVariants.{Number}
use Rattle.value_ops.specs.Types.{IsValueOf}
use Rattle.item_schema.specs.declared.column.Column.{Column}
use Rattle.rate_expr.specs.FirstLastFollow.{AreSetsOf}
use Rattle.query_model.specs.Bounds.{places_of, slots_of}
use Rattle.query_model.specs.Queries.{Qre, atom, eps, choice, split, iter, combine, apply, compose}
use Rattle.query_model.specs.Queries.{collect}
use Rattle.query_model.specs.QueryTypes.{derived_columns, type_of}
use Rattle.query_model.specs.Sizes.{max_slots}
use Rattle.split_eval.specs.Entries.{Contents, AreDistinct}
use Rattle.compose_eval.specs.Followers.{outers_of}
use Rattle.map_collect.specs.Keys.{fallback_of, followers_of}
use Rattle.map_collect.specs.Tracks.{starts_of}
use Rattle.map_collect.specs.declared.keys.Keys.{Keys}
use Rattle.eval_nodes.specs.Holdings.{Holding, atom_held, eps_held, choice_held, combine_held}
use Rattle.eval_nodes.specs.Holdings.{apply_held, split_held, iter_held, compose_held, collect_held}
use Rattle.eval_nodes.specs.Holdings.{Seen}
use Rattle.eval_nodes.specs.Starts.{AreDifferent}

-- the answer, if there is one, has the type
abbrev pub IsTyped : ValueType → Option Value → Type 0
IsTyped type answer = MatchOption answer (Unit {0}) (IsValueOf type)

-- the entries have values of the type, and there is room for this many
pub record AreEntriesOf (type : ValueType) (places : ℕ) (held : Contents Value) : Type 0 where
  pub room : held.room ≡ places
  pub few : length held.entries ≤ held.room
  pub distinct : AreDistinct held.entries
  pub typed : AllByRecursion (λ entry. IsValueOf type entry.value) held.entries

module _ {R : Type 0} (seen : R → Seen R) where
  -- what is kept for a runner is sound, and its answer has the type
  pub record IsSoundRunner (sound : ℕ → Holding R → Type 0) (type : ValueType)
      (runner : R) : Type 0 where
    pub node : sound (seen runner).position (seen runner).node
    pub answer : IsTyped type (seen runner).answer

  -- a runner that is sound, after at most this many items
  pub record IsSoundWithin (is_sound : R → Type 0) (most : ℕ) (runner : R) : Type 0 where
    pub within : (seen runner).position ≤ most
    pub sound : is_sound runner

  -- the runners for keys, and the one that is copied for new keys
  pub record AreSoundKeys (is_sound : R → Type 0) (most : ℕ) (keys : Keys R) : Type 0 where
    pub fallback : IsSoundWithin is_sound most (fallback_of keys)
    pub keyed : AllByRecursion (IsSoundWithin is_sound most) (followers_of keys)

  -- what is kept for the query is sound after `position` items of its stream
  abbrev pub IsSound : List Column → Qre → ℕ → Holding R → Type 0
  IsSound columns (atom pred expression) position (atom_held found) = Unit {0}
  IsSound columns (eps number) position eps_held = Unit {0}
  IsSound columns (choice f g) position (choice_held a b) =
      IsSound columns f position a × IsSound columns g position b
  IsSound columns (split f g expression) position (split_held a b left) =
      IsSound columns f position a × IsSound columns g position b
      × AreEntriesOf (type_of columns f) (places_of g) left
  IsSound columns (iter f number expression) position (iter_held a so_far) =
      IsSound columns f position a × AreEntriesOf Number (places_of f) so_far
  IsSound columns (combine f g expression) position (combine_held a b) =
      IsSound columns f position a × IsSound columns g position b
  IsSound columns (apply f expression) position (apply_held a) = IsSound columns f position a
  IsSound columns (compose f g) position (compose_held a held) =
      IsSound columns f position a
      × AreDifferent (outers_of held.live)
      × (length held.live + length held.idle ≡ places_of f + 1)
      × AllByRecursion (λ one. IsSoundWithin (IsSoundRunner
      (IsSound (derived_columns (type_of columns f)) g)
      (type_of (derived_columns (type_of columns f)) g))
      (position + 1) one.follower) held.live
      × AllByRecursion (IsSoundRunner (IsSound (derived_columns (type_of columns f)) g)
      (type_of (derived_columns (type_of columns f)) g)) held.idle
  IsSound columns (collect chosen sync rate f) position (collect_held all) =
      AreSetsOf all.nfa.sets rate × (all.nfa.cells.layout.columns ≡ columns)
      × (slots_of f ≤ max_slots) × AreDifferent (starts_of all.tracks)
      × AllByRecursion (λ track. AreSoundKeys
      (IsSoundRunner (IsSound columns f) (type_of columns f)) position track.keys) all.tracks
  IsSound columns query position holding = ⊥
