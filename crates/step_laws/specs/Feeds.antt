-- For the prover. What becomes of runners: they take items and are put back before the first one.
-- Those of a compose do so by the hits of its left operand.
use Rattle.std.specs.Prelude.{◌≡◌, ◌<◌, ◌⊎◌, ℕ, ◌+◌, ◌^◌, Bool, List, [], ◌∷◌, ◌++◌, Option, None}
use Rattle.std.specs.Prelude.{Some, MatchOption, if◌then◌else◌, length, slice_get}
use Rattle.std.specs.Option.{option_map}
use Rattle.std.specs.List.{AllByRecursion}
use Rattle.value_ops.specs.declared.field.Field.{Field}
use Rattle.value_ops.specs.declared.value.Value.{Value}
use Rattle.item_schema.specs.declared.column.Column.{Column}
use Rattle.item_schema.specs.Items.{IsItemOf, fields_of_value}
use Rattle.rate_expr.specs.Words.{Word, IsWordOf}
use Rattle.query_model.specs.Following.{composes_of}
use Rattle.query_model.specs.Queries.{Qre}
use Rattle.query_model.specs.Rules.{Standing, HasNoCollect, IsClear}
use Rattle.compose_eval.specs.Followers.{Contents, instance_at, with_follower}
use Rattle.eval_nodes.specs.Holdings.{Seen}
use Rattle.eval_nodes.specs.Sound.{IsSoundWithin}
use Rattle.eval_nodes.specs.Runners.{FollowsWord, IsSoundOf}
use Rattle.step_laws.specs.declared.hit.Hit.{Hit}

-- the value as an item of a stream of values
abbrev pub item_of : Value → List Field
item_of value = fields_of_value value

-- an answer as a hit of the start
abbrev pub hit_at : ℕ → Option Value → Option Hit
hit_at start answer = option_map (λ value. record { start = start; value = value }) answer

-- the value of a hit is an item of the stream
abbrev pub IsHitIn : List Column → Option Hit → Type 0
IsHitIn columns hit =
    MatchOption hit (Unit {0}) (λ found. IsItemOf columns (item_of found.value))

-- some runner is idle, and none is fed from the start
pub record HasIdle {R : Type 0} (held : Contents R) (at : ℕ) : Type 0 where
  pub idle : 0 < length held.idle
  pub fresh : instance_at held.live at ≡ None

module _ {R : Type 0} (seen : R → Seen R) where
  -- a runner may take one more item
  pub record CanCarry (query : Qre) (runner : R) (item : List Field) : Type 0 where
    pub standing : Standing
    pub columns : List Column
    pub clear : IsClear standing columns query
    pub sound : IsSoundOf seen columns query runner
    pub is_item : IsItemOf columns item
    pub room : (seen runner).position + 1 + composes_of query < 2 ^ 64

  -- a runner may be put back before the first item, and then take the value of a hit
  pub record CanBegin (query : Qre) (runner : R) (left : Option Hit) : Type 0 where
    pub standing : Standing
    pub columns : List Column
    pub clear : IsClear standing columns query
    pub no_collect : HasNoCollect query
    pub sound : IsSoundOf seen columns query runner
    pub is_item : IsHitIn columns left
    pub room : 1 + composes_of query < 2 ^ 64

  -- the runners of a compose may take the value of a hit of its left operand
  pub record CanPassOn (query : Qre) (held : Contents R) (left : Option Hit) : Type 0 where
    pub standing : Standing
    pub columns : List Column
    pub most : ℕ
    pub clear : IsClear standing columns query
    pub live : AllByRecursion
        (λ one. IsSoundWithin seen (IsSoundOf seen columns query) most one.follower) held.live
    pub is_item : IsHitIn columns left
    pub room : most + 1 + composes_of query < 2 ^ 64

  -- an idle runner may begin with it
  pub record CanFeed (query : Qre) (held : Contents R) (left : Option Hit) : Type 0 where
    pub standing : Standing
    pub columns : List Column
    pub clear : IsClear standing columns query
    pub no_collect : HasNoCollect query
    pub idle : AllByRecursion (IsSoundOf seen columns query) held.idle
    pub is_item : IsHitIn columns left
    pub room : 1 + composes_of query < 2 ^ 64

  -- whatever word it followed, now it follows the word and the item after it, and it stays sound
  pub record IsCarried (query : Qre) (old : R) (item : List Field) (new : R) : Type 0 where
    pub word : (standing : Standing) (columns : List Column) (word : Word)
        → IsClear standing columns query → IsWordOf columns (word ++ item ∷ [])
        → FollowsWord seen columns query word old
        → FollowsWord seen columns query (word ++ item ∷ []) new
    pub sound : (standing : Standing) (columns : List Column) → IsClear standing columns query
        → IsItemOf columns item → IsSoundOf seen columns query old
        → IsSoundOf seen columns query new
    pub position : (seen new).position ≡ (seen old).position + 1

  -- the runner follows the empty word, and stays sound
  pub record IsRenewed (query : Qre) (old new : R) : Type 0 where
    pub word : (standing : Standing) (columns : List Column) → IsClear standing columns query
        → FollowsWord seen columns query [] new
    pub sound : (standing : Standing) (columns : List Column) → IsClear standing columns query
        → IsSoundOf seen columns query old → IsSoundOf seen columns query new
    pub position : (seen new).position ≡ 0

  -- the runner takes the value of a hit, and its answer is a hit of the same start
  pub record IsDelivered (query : Qre) (old : R) (left : Hit) (new : R)
      (hit : Option Hit) : Type 0 where
    pub carried : IsCarried query old (item_of left.value) new
    pub answers : hit ≡ hit_at left.start (seen new).answer

  -- the runner is put back before the first item, and takes the value of a hit if there is one
  abbrev pub IsBegun : Qre → R → Option Hit → R → Option Hit → Type 0
  IsBegun query old left new hit = MatchOption left (IsRenewed query old new × (hit ≡ None))
      (λ found. (between : R) × IsRenewed query old between
      × IsDelivered query between found new hit)

  -- the runner that is fed from the start of the hit takes its value
  pub record IsPassed (query : Qre) (old : Contents R) (left : Hit) (new : Contents R)
      (hit : Option Hit) : Type 0 where
    pub place : ℕ
    pub runner : R
    pub delivered : R
    pub at : slice_get old.live place ≡ Some (record { outer = left.start; follower = runner })
    pub is : new ≡ record {
      live = with_follower old.live place delivered;
      idle = old.idle;
      room = old.room;
    }
    pub delivers : IsDelivered query runner left delivered hit

  -- if no runner is fed from the start, nothing changes
  abbrev pub PassesOn : Qre → Contents R → Option Hit → Contents R → Option Hit → Type 0
  PassesOn query old left new hit = MatchOption left ((new ≡ old) × (hit ≡ None)) (λ found.
      IsPassed query old found new hit
      ⊎ ((instance_at old.live found.start ≡ None) × (new ≡ old) × (hit ≡ None)))

  -- the last idle runner begins, and is fed from the start if this is live
  pub record IsFedFrom (query : Qre) (old : Contents R) (live : Bool) (at : ℕ) (left : Option Hit)
      (new : Contents R) (hit : Option Hit) : Type 0 where
    pub front : List R
    pub runner : R
    pub next : R
    pub last : old.idle ≡ front ++ runner ∷ []
    pub begun : IsBegun query runner left next hit
    pub is : new ≡ (if live then (record {
      live = old.live ++ record { outer = at; follower = next } ∷ [];
      idle = front;
      room = old.room;
    }) else (record { live = old.live; idle = front ++ next ∷ []; room = old.room }))

  -- if no runner is idle, or one is fed from the start already, nothing changes
  abbrev pub Feeds : Qre → Contents R → Bool → ℕ → Option Hit → Contents R → Option Hit → Type 0
  Feeds query old live at left new hit =
      (HasIdle old at × IsFedFrom query old live at left new hit)
      ⊎ ((HasIdle old at → ⊥) × (new ≡ old) × (hit ≡ None))
