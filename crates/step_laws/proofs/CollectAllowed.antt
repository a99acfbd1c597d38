-- When the calls of a collect on its runners may be made, and what is done one by one.
use Rattle.std.proofs.Common.{◌≡◌, ◌<◌, ◌∙◌, ℕ, zero, suc, ◌+◌, ◌^◌, List, [], ◌∷◌, Some, length}
use Rattle.std.proofs.Common.{set, slice_get, refl, sym, ap, subst, arith}
use Rattle.std.proofs.lemmas.Option.{none-some, same_Some}
use Rattle.value_ops.specs.declared.field.Field.{Field}
use Rattle.predicates.specs.Predicates.{Predicate}
use Rattle.item_schema.specs.declared.column.Column.{Column}
use Rattle.item_schema.specs.Items.{IsItemOf}
use Rattle.rate_expr.specs.Rates as rates
use Rattle.rate_expr.specs.Sets.{Sets}
use Rattle.query_model.specs.Following.{composes_of}
use Rattle.query_model.specs.Queries.{Qre, collect}
use Rattle.query_model.specs.Rules.{bound}
use Rattle.map_collect.specs.Keys.{fallback_of, followers_of}
use Rattle.map_collect.specs.Tracks.{Advances, AllAdvance, Contents, keys_of, with_keys}
use Rattle.map_collect.specs.declared.keys.Keys.{Keys}
use Rattle.map_collect.specs.declared.track.Track.{Track}
use Rattle.eval_nodes.specs.Runners.{IsSoundOf}
use Rattle.eval_nodes.specs.Holdings.{Seen, collect_held}
use Rattle.eval_nodes.specs.Sound.{IsSoundWithin}
use Rattle.eval_nodes.proofs.Instances.{all_member}
use Rattle.eval_nodes.proofs.Zips.{read_part, read_there, zip_all}
use Rattle.step_laws.specs.Collects.{AreSoundOf, CanPush, IsPushed}
use Rattle.step_laws.specs.Feeds.{CanCarry, IsCarried}
use Rattle.step_laws.specs.Pushes.{AreCarried, AreCarriedBelow, ArePushed, ArePushedBelow, CanMake}
use Rattle.step_laws.specs.Pushes.{CanPassBy, CanPushAll, HasKey}
use Rattle.step_laws.specs.Steps.{CanStart, CanStep}
use Rattle.step_laws.proofs.KeysPushed.{key_soundly}

-- as many tracks, with other keys at one
pub with_length : {R : Type 0} (tracks : List (Track R)) (i : ℕ) (keys : Keys R)
    → length (with_keys tracks i keys) ≡ length tracks
with_length [] i keys = refl
with_length (t ∷ tracks) zero keys = refl
with_length (t ∷ tracks) (suc i) keys = ap suc (with_length tracks i keys)

module _ {R : Type 0} (seen : R → Seen R) where
  -- a runner may be made for a new start
  pub make_allowed : (chosen : List ℕ) (sync : Predicate) (rate : rates.Regex) (f : Qre)
      (all : Contents R) (at : ℕ)
      → CanStart seen (collect chosen sync rate f) (collect_held all) at → CanMake f
  make_allowed chosen sync rate f all at can =
      let room : at + composes_of f < 2 ^ 64 = can.room in
      record {
        standing = bound;
        columns = can.columns;
        clear = can.clear.0;
        no_collect = can.clear.2;
        small = can.sound.2;
        room = omega (arith, room);
      }

  module _ (chosen : List ℕ) (sync : Predicate) (rate : rates.Regex) (f : Qre)
      (all : Contents R) (now : ℕ) (item : List Field)
      (can : CanStep seen (collect chosen sync rate f) (collect_held all) now item) where
    -- the states may continue by the item
    advance_allowed : IsItemOf all.nfa.cells.layout.columns item
    advance_allowed =
        subst (λ (columns : List Column). IsItemOf columns item) (sym can.sound.1) can.is_item

    -- and it may go by at the keys
    pushes_allowed : CanPushAll seen f all.tracks item
    pushes_allowed =
        let is_next = can.is_next in
        let room : now + composes_of f < 2 ^ 64 = can.room in
        record {
          standing = bound;
          columns = can.columns;
          most = can.position;
          clear = can.clear.0;
          sound = can.sound.4;
          is_item = can.is_item;
          room = omega (arith, is_next, room);
        }

    -- so it may go by at the starts
    pub pass_allowed : CanPassBy seen f all item
    pass_allowed = record { is_item = advance_allowed; keys = pushes_allowed }

  -- also once the states are led on
  pub advanced_allowed : (q : Qre) (item : List Field) (sets : Sets) (old advanced : List (Track R))
      → CanPushAll seen q old item → AllAdvance sets item old advanced
      → CanPushAll seen q advanced item
  advanced_allowed q item sets old advanced can advances = record {
    standing = can.standing;
    columns = can.columns;
    most = can.most;
    clear = can.clear;
    sound = zip_all (Advances sets item)
        (λ (t : Track R). AreSoundOf seen can.columns q can.most t.keys)
        (λ (t : Track R). AreSoundOf seen can.columns q can.most t.keys) old advanced
        (λ was mid one is. subst (AreSoundOf seen can.columns q can.most) (sym one.keys) is)
        advances can.sound;
    is_item = can.is_item;
    room = can.room;
  }

  module _ (q : Qre) (chosen : List ℕ) (sync : Predicate) (item : List Field) where
    -- the next one is as before
    next_pushed : (i : ℕ) (old now : List (Track R)) (x : Track R)
        → ArePushedBelow seen q chosen sync item i old now → slice_get now i ≡ Some x
        → slice_get old i ≡ Some x
    next_pushed zero old now x below at =
        ap (λ (ts : List (Track R)). slice_get ts zero) (sym below) ∙ at
    next_pushed (suc i) [] [] x below at = absurd (none-some x at)
    next_pushed (suc i) (s ∷ old) (t ∷ now) x below at = next_pushed i old now x below.1 at
    next_pushed (suc i) [] (t ∷ now) x below at = absurd below
    next_pushed (suc i) (s ∷ old) [] x below at = absurd below

    pub push_allowed : (i : ℕ) (old now : List (Track R)) (keys : Keys R)
        → CanPushAll seen q old item → ArePushedBelow seen q chosen sync item i old now
        → slice_get (keys_of now) i ≡ Some keys → CanPush seen q keys item
    push_allowed i old now keys can below at =
        let (track, read, same) = read_part (λ (t : Track R). t.keys) now i keys at in
        let there = read_there old i track (next_pushed i old now track below read) in
        record {
          standing = can.standing;
          columns = can.columns;
          most = can.most;
          clear = can.clear;
          sound = subst (AreSoundOf seen can.columns q can.most) same
              (all_member (λ (t : Track R). AreSoundOf seen can.columns q can.most t.keys) old track
              can.sound there);
          is_item = can.is_item;
          room = can.room;
        }

    first_pushed : (old now : List (Track R)) (keys new : Keys R) → now ≡ old
        → slice_get (keys_of now) zero ≡ Some keys → IsPushed seen q chosen sync keys item new
        → ArePushedBelow seen q chosen sync item 1 old (with_keys now zero new)
    first_pushed old [] keys new same at pushed = absurd (none-some keys at)
    first_pushed [] (t ∷ now) keys new same at pushed = cc
    first_pushed (s ∷ old) (t ∷ now) keys new same at pushed =
        let heads : t ≡ s = cc in
        let tails : now ≡ old = cc in (
          record {
            start = ap (λ (x : Track R). x.start) heads;
            state = ap (λ (x : Track R). x.state) heads;
            keys = subst (λ (k : Keys R). IsPushed seen q chosen sync k item new)
                (sym (same_Some t.keys keys at) ∙ ap (λ (x : Track R). x.keys) heads) pushed;
          },
          tails,
        )

    more_pushed : (i : ℕ) (old now : List (Track R)) (keys new : Keys R)
        → ArePushedBelow seen q chosen sync item i old now → slice_get (keys_of now) i ≡ Some keys
        → IsPushed seen q chosen sync keys item new
        → ArePushedBelow seen q chosen sync item (suc i) old (with_keys now i new)
    more_pushed zero old now keys new below at pushed =
        first_pushed old now keys new below at pushed
    more_pushed (suc i) [] [] keys new below at pushed = absurd (none-some keys at)
    more_pushed (suc i) (s ∷ old) (t ∷ now) keys new below at pushed =
        (below.0, more_pushed i old now keys new below.1 at pushed)
    more_pushed (suc i) [] (t ∷ now) keys new below at pushed = absurd below
    more_pushed (suc i) (s ∷ old) [] keys new below at pushed = absurd below

    pub pushed_next : (i : ℕ) (old now : List (Track R)) (keys new : Keys R)
        → ArePushedBelow seen q chosen sync item i old now → slice_get (keys_of now) i ≡ Some keys
        → IsPushed seen q chosen sync keys item new
        → ArePushedBelow seen q chosen sync item (i + 1) old (with_keys now i new)
    pushed_next i old now keys new below at pushed =
        let more : suc i ≡ i + 1 = omega arith in
        subst (λ (n : ℕ). ArePushedBelow seen q chosen sync item n old (with_keys now i new)) more
        (more_pushed i old now keys new below at pushed)

    pub pushed_end : (i : ℕ) (old now : List (Track R))
        → ArePushedBelow seen q chosen sync item i old now → i ≡ length now
        → ArePushed seen q chosen sync item old now
    pushed_end zero old [] below all =
        subst (λ (ts : List (Track R)). ArePushed seen q chosen sync item ts []) below tt
    pushed_end zero old (t ∷ now) below all = absurd (omega (arith, all))
    pushed_end (suc i) [] [] below all = tt
    pushed_end (suc i) (s ∷ old) (t ∷ now) below all =
        (below.0, pushed_end i old now below.1 (omega (arith, all)))
    pushed_end (suc i) [] (t ∷ now) below all = absurd below
    pushed_end (suc i) (s ∷ old) [] below all = absurd below

  module _ (q : Qre) (item : List Field) where
    carry_within : (keys : Keys R) (runner : R) → (can : CanPush seen q keys item)
        → IsSoundWithin seen (IsSoundOf seen can.columns q) can.most runner
        → CanCarry seen q runner item
    carry_within keys runner can is =
        let within = is.within in
        let room = can.room in
        record {
          standing = can.standing;
          columns = can.columns;
          clear = can.clear;
          sound = is.sound;
          is_item = can.is_item;
          room = omega (arith, within, room);
        }

    -- the runner for later keys may take the item
    pub fallback_allowed : (keys : Keys R) → CanPush seen q keys item
        → CanCarry seen q (fallback_of keys) item
    fallback_allowed keys can = carry_within keys (fallback_of keys) can can.sound.fallback

    -- that of a key
    pub follower_allowed : (keys : Keys R) (i : ℕ) (runner : R) → CanPush seen q keys item
        → slice_get (followers_of keys) i ≡ Some runner → CanCarry seen q runner item
    follower_allowed keys i runner can at =
        carry_within keys runner can
        (all_member (IsSoundWithin seen (IsSoundOf seen can.columns q) can.most)
        (followers_of keys) runner can.sound.keyed (read_there (followers_of keys) i runner at))

    -- that of a new key too
    pub with_allowed : (key : List ℕ) (old mid : Keys R) (place : ℕ)
        → HasKey seen q key old place mid → CanPush seen q old item → CanPush seen q mid item
    with_allowed key old mid place has can = record {
      standing = can.standing;
      columns = can.columns;
      most = can.most;
      clear = can.clear;
      sound = key_soundly seen can.columns q can.most key old mid place has can.sound;
      is_item = can.is_item;
      room = can.room;
    }

    -- the next one is as before
    pub next_carried : (i : ℕ) (old now : List R) (x : R) → AreCarriedBelow seen q item i old now
        → slice_get now i ≡ Some x → slice_get old i ≡ Some x
    next_carried zero old now x below at = ap (λ (ts : List R). slice_get ts zero) (sym below) ∙ at
    next_carried (suc i) [] [] x below at = absurd (none-some x at)
    next_carried (suc i) (s ∷ old) (t ∷ now) x below at = next_carried i old now x below.1 at
    next_carried (suc i) [] (t ∷ now) x below at = absurd below
    next_carried (suc i) (s ∷ old) [] x below at = absurd below

    first_carried : (old now : List R) (x y : R) → now ≡ old → slice_get now zero ≡ Some x
        → IsCarried seen q x item y → AreCarriedBelow seen q item 1 old (set now zero y)
    first_carried old [] x y same at takes = absurd (none-some x at)
    first_carried [] (t ∷ now) x y same at takes = cc
    first_carried (s ∷ old) (t ∷ now) x y same at takes =
        let heads : t ≡ s = cc in
        let tails : now ≡ old = cc in
        (subst (λ (r : R). IsCarried seen q r item y) (sym (same_Some t x at) ∙ heads) takes, tails)

    more_carried : (i : ℕ) (old now : List R) (x y : R) → AreCarriedBelow seen q item i old now
        → slice_get now i ≡ Some x → IsCarried seen q x item y
        → AreCarriedBelow seen q item (suc i) old (set now i y)
    more_carried zero old now x y below at takes = first_carried old now x y below at takes
    more_carried (suc i) [] [] x y below at takes = absurd (none-some x at)
    more_carried (suc i) (s ∷ old) (t ∷ now) x y below at takes =
        (below.0, more_carried i old now x y below.1 at takes)
    more_carried (suc i) [] (t ∷ now) x y below at takes = absurd below
    more_carried (suc i) (s ∷ old) [] x y below at takes = absurd below

    pub carried_next : (i : ℕ) (old now : List R) (x y : R) → AreCarriedBelow seen q item i old now
        → slice_get now i ≡ Some x → IsCarried seen q x item y
        → AreCarriedBelow seen q item (i + 1) old (set now i y)
    carried_next i old now x y below at takes =
        let more : suc i ≡ i + 1 = omega arith in
        subst (λ (n : ℕ). AreCarriedBelow seen q item n old (set now i y)) more
        (more_carried i old now x y below at takes)

    pub carried_end : (i : ℕ) (old now : List R) → AreCarriedBelow seen q item i old now
        → i ≡ length now → AreCarried seen q item old now
    carried_end zero old [] below all =
        subst (λ (ts : List R). AreCarried seen q item ts []) below tt
    carried_end zero old (t ∷ now) below all = absurd (omega (arith, all))
    carried_end (suc i) [] [] below all = tt
    carried_end (suc i) (s ∷ old) (t ∷ now) below all =
        (below.0, carried_end i old now below.1 (omega (arith, all)))
    carried_end (suc i) [] (t ∷ now) below all = absurd below
    carried_end (suc i) (s ∷ old) [] below all = absurd below
