-- For the prover. What becomes of the starts of a collect: an item goes by at each, the first one
-- whose piece is then in the rate gives a table, and one more start may be put in.
use Rattle.std.specs.Prelude.{◌≡◌, ◌≤◌, ◌<◌, ◌⊎◌, ℕ, zero, suc, ◌+◌, ◌^◌, List, [], ◌∷◌, ◌++◌}
use Rattle.std.specs.Prelude.{Option, None, Some, MatchOption, slice_get}
use Rattle.std.specs.List.{AllByRecursion, AllZip, Contains, cons_option}
use Rattle.value_ops.specs.declared.field.Field.{Field}
use Rattle.value_ops.specs.declared.scalar.Scalar.{Scalar}
use Rattle.value_ops.specs.declared.value.Value.{Value}
use Rattle.value_ops.specs.declared.value.Value.TheVariants as value
use Rattle.value_ops.specs.Types.{IsTable}
use Rattle.predicates.specs.Predicates.{Predicate}
use Rattle.item_schema.specs.declared.column.Column.{Column}
use Rattle.item_schema.specs.Items.{IsItemOf}
use Rattle.rate_expr.specs.Sets.{Sets}
use Rattle.rate_expr.specs.declared.state.State.TheVariants.{Initial}
use Rattle.query_model.specs.Bounds.{slots_of}
use Rattle.query_model.specs.Following.{composes_of}
use Rattle.query_model.specs.Queries.{Qre}
use Rattle.query_model.specs.Rules.{Standing, HasNoCollect, IsClear}
use Rattle.query_model.specs.Sizes.{max_slots}
use Rattle.symbolic_nfa.specs.States.{Extends, IsAccepted}
use Rattle.map_collect.specs.Followers.{with_key}
use Rattle.map_collect.specs.Keys.{fallback_of, followers_of, keyed_of, names_of}
use Rattle.map_collect.specs.Lending.{with_follower}
use Rattle.map_collect.specs.Tracks.{AllAdvance, Contents, keys_of, starts_of, IsFirstAccepted}
use Rattle.map_collect.specs.Tracks.{KeepsExtending, NoneAccepted}
use Rattle.map_collect.specs.declared.keys.Keys.{Keys}
use Rattle.map_collect.specs.declared.track.Track.{Track}
use Rattle.eval_nodes.specs.Copies.{IsCopy, IsCopyOf}
use Rattle.eval_nodes.specs.Runners.{FollowsWord, IsSoundOf}
use Rattle.eval_nodes.specs.Holdings.{Seen}
use Rattle.eval_nodes.specs.Sound.{IsSoundWithin}
use Rattle.step_laws.specs.declared.hit.Hit.{Hit}
use Rattle.step_laws.specs.Collects.{AreSoundOf, IsPushed, IsTableOf}
use Rattle.step_laws.specs.Feeds.{IsCarried}

-- the entry of a key whose answer is a number, and none for another answer
abbrev pub entry_with : List ℕ → Option Value → Option (List ℕ × Scalar)
entry_with key None = None
entry_with key (Some (value.Scalar scalar)) = Some (key, scalar)
entry_with key (Some (value.Rec parts)) = None
entry_with key (Some (value.Table entries)) = None

-- the number that an answer is, if it is one
abbrev pub scalar_of : Option Value → Option Scalar
scalar_of None = None
scalar_of (Some (value.Scalar scalar)) = Some scalar
scalar_of (Some (value.Rec parts)) = None
scalar_of (Some (value.Table entries)) = None

-- a runner may be made
pub record CanMake (query : Qre) : Type 0 where
  pub standing : Standing
  pub columns : List Column
  pub clear : IsClear standing columns query
  pub no_collect : HasNoCollect query
  pub small : slots_of query ≤ max_slots
  pub room : composes_of query < 2 ^ 64

-- a word of the rate can begin there, and the start is not there yet
abbrev pub CanTrack : {R : Type 0} → Contents R → ℕ → Type 0
CanTrack all at = Extends all.nfa Initial × (Contains (starts_of all.tracks) at → ⊥)

-- the hit of a new start of a collect: the empty table, if the empty word is in the rate
abbrev pub IsFirstTable : Sets → ℕ → Option Hit → Type 0
IsFirstTable sets at hit = MatchOption hit (IsAccepted sets Initial → ⊥)
    (λ found. (found.start ≡ at) × (found.value ≡ value.Table []) × IsTable []
    × IsAccepted sets Initial)

module _ {R : Type 0} (seen : R → Seen R) where
  -- the entries of keys whose runners answer with a number
  abbrev pub entries_in : List (List ℕ) → List R → List (List ℕ × Scalar)
  entries_in (key ∷ names) (runner ∷ runners) =
      cons_option (entry_with key (seen runner).answer) (entries_in names runners)
  entries_in names runners = []

  -- each runner takes the item
  abbrev pub AreCarried : Qre → List Field → List R → List R → Type 0
  AreCarried query item old new =
      AllZip (λ runner carried. IsCarried seen query runner item carried) old new

  -- the runners below this number take the item, and the others are as before
  abbrev pub AreCarriedBelow : Qre → List Field → ℕ → List R → List R → Type 0
  AreCarriedBelow query item zero old new = new ≡ old
  AreCarriedBelow query item (suc count) (runner ∷ old) (carried ∷ new) =
      IsCarried seen query runner item carried × AreCarriedBelow query item count old new
  AreCarriedBelow query item (suc count) [] [] = Unit {0}
  AreCarriedBelow query item (suc count) old new = ⊥

  -- all take the item: the runner for new keys, and those of the keys
  pub record AllCarried (query : Qre) (item : List Field) (old new : Keys R) : Type 0 where
    pub fallback : IsCarried seen query (fallback_of old) item (fallback_of new)
    pub names : names_of new ≡ names_of old
    pub keyed : AreCarried query item (followers_of old) (followers_of new)

  -- the key is there at this place; a new one has a copy of the runner for new keys
  pub record HasKey (query : Qre) (key : List ℕ) (old : Keys R) (place : ℕ)
      (new : Keys R) : Type 0 where
    pub there : slice_get (names_of new) place ≡ Some key
    pub made : (new ≡ old) ⊎ ((Contains (names_of old) key → ⊥) × (runner : R)
        × IsCopyOf seen (IsCopy seen query) (fallback_of old) runner
        × (fallback_of new ≡ fallback_of old)
        × (keyed_of new ≡ with_key key runner (keyed_of old)))

  -- the runner at the place takes the item
  pub record IsCarriedAt (query : Qre) (place : ℕ) (item : List Field)
      (old new : Keys R) : Type 0 where
    pub runner : R
    pub carried : R
    pub read : slice_get (followers_of old) place ≡ Some runner
    pub takes : IsCarried seen query runner item carried
    pub fallback : fallback_of new ≡ fallback_of old
    pub is : keyed_of new ≡ with_follower (keyed_of old) place carried

  -- the key is there, and its runner takes the item
  pub record IsKeyPushed (query : Qre) (key : List ℕ) (item : List Field)
      (old new : Keys R) : Type 0 where
    pub place : ℕ
    pub mid : Keys R
    pub has : HasKey query key old place mid
    pub takes : IsCarriedAt query place item mid new

  -- an item may go by at each start
  pub record CanPushAll (query : Qre) (tracks : List (Track R)) (item : List Field) : Type 0 where
    pub standing : Standing
    pub columns : List Column
    pub most : ℕ
    pub clear : IsClear standing columns query
    pub sound : AllByRecursion (λ track. AreSoundOf seen columns query most track.keys) tracks
    pub is_item : IsItemOf columns item
    pub room : most + 1 + composes_of query < 2 ^ 64

  -- the item may go by, and lead each state to the next
  pub record CanPassBy (query : Qre) (all : Contents R) (item : List Field) : Type 0 where
    pub is_item : IsItemOf all.nfa.cells.layout.columns item
    pub keys : CanPushAll query all.tracks item

  -- the item goes by at the keys of one start
  pub record IsPushedAt (query : Qre) (chosen : List ℕ) (sync : Predicate) (item : List Field)
      (old new : Track R) : Type 0 where
    pub start : new.start ≡ old.start
    pub state : new.state ≡ old.state
    pub keys : IsPushed seen query chosen sync old.keys item new.keys

  -- the item goes by at the keys of all starts
  abbrev pub ArePushed : Qre → List ℕ → Predicate → List Field → List (Track R) → List (Track R)
      → Type 0
  ArePushed query chosen sync item old new = AllZip (IsPushedAt query chosen sync item) old new

  -- the item goes by at the starts below this number, and the others are as before
  abbrev pub ArePushedBelow : Qre → List ℕ → Predicate → List Field → ℕ → List (Track R)
      → List (Track R) → Type 0
  ArePushedBelow query chosen sync item zero old new = new ≡ old
  ArePushedBelow query chosen sync item (suc count) (track ∷ old) (pushed ∷ new) =
      IsPushedAt query chosen sync item track pushed
      × ArePushedBelow query chosen sync item count old new
  ArePushedBelow query chosen sync item (suc count) [] [] = Unit {0}
  ArePushedBelow query chosen sync item (suc count) old new = ⊥

  -- the start is the first one whose state is accepted, and the value is the table of its keys
  pub record IsTabledAt (all : Contents R) (found : Hit) : Type 0 where
    pub place : ℕ
    pub keys : Keys R
    pub table : List (List ℕ × Scalar)
    pub accepted : IsFirstAccepted all.nfa.sets all.tracks place
    pub start : slice_get (starts_of all.tracks) place ≡ Some found.start
    pub there : slice_get (keys_of all.tracks) place ≡ Some keys
    pub entries : IsTableOf seen keys table
    pub value : found.value ≡ value.Table table
    pub typed : IsTable table

  -- the same if there is a hit; otherwise no state is accepted
  abbrev pub IsTabled : Contents R → Option Hit → Type 0
  IsTabled all hit = MatchOption hit (NoneAccepted all.nfa.sets all.tracks) (IsTabledAt all)

  -- the runner follows the empty word, and is sound
  pub record IsNew (query : Qre) (runner : R) : Type 0 where
    pub word : (standing : Standing) (columns : List Column) → IsClear standing columns query
        → FollowsWord seen columns query [] runner
    pub sound : (standing : Standing) (columns : List Column) → IsClear standing columns query
        → IsSoundWithin seen (IsSoundOf seen columns query) 0 runner

  -- there are no keys, and the runner for new keys is new
  pub record AreNew (query : Qre) (keys : Keys R) : Type 0 where
    pub keyed : keyed_of keys ≡ record { names = []; followers = [] }
    pub fallback : IsNew query (fallback_of keys)

  -- the start is put in if it can be, and else nothing changes
  abbrev pub AddsStart : Qre → Contents R → ℕ → Contents R → Type 0
  AddsStart query old at new = (new.nfa ≡ old.nfa)
      × ((CanTrack old at × (keys : Keys R) × AreNew query keys
      × (new.tracks ≡ old.tracks ++ record { start = at; state = Initial; keys = keys } ∷ []))
      ⊎ ((CanTrack old at → ⊥) × (new.tracks ≡ old.tracks)))

  -- the start is put in, and the hit is that of a new start
  pub record BeginsAt (query : Qre) (old : Contents R) (at : ℕ) (new : Contents R)
      (hit : Option Hit) : Type 0 where
    pub puts : AddsStart query old at new
    pub first : IsFirstTable old.nfa.sets at hit

  -- the item leads each state to the next and goes by at the keys; the hit is that of the first
  -- accepted start, and the live starts stay
  pub record PassesBy (query : Qre) (chosen : List ℕ) (sync : Predicate) (item : List Field)
      (old new : Contents R) (hit : Option Hit) : Type 0 where
    pub advanced : List (Track R)
    pub pushed : List (Track R)
    pub advances : AllAdvance old.nfa.sets item old.tracks advanced
    pub pushes : ArePushed query chosen sync item advanced pushed
    pub tabled : IsTabled (record { nfa = old.nfa; tracks = pushed }) hit
    pub keeps : KeepsExtending old.nfa pushed new.tracks
    pub nfa : new.nfa ≡ old.nfa
