-- A node of each shape, put back of what its operands are.
use Rattle.std.proofs.Common.{◌≡◌, ◌≤◌, ◌+◌, ◌∙◌, ℕ, ℤ, List, [], ◌∷◌, Option, None, length, map}
use Rattle.std.proofs.Common.{refl, sym, ap, subst, arith}
use Rattle.std.specs.List.{AllByRecursion, AllZip}
use Rattle.std.proofs.lemmas.List.{length-map}
use Rattle.value_ops.specs.declared.value.Value.{Value}
use Rattle.value_ops.specs.declared.value.ValueType.TheVariants.{Number}
use Rattle.item_schema.specs.declared.column.Column.{Column}
use Rattle.expressions.specs.Expressions.{Expression}
use Rattle.predicates.specs.Predicates.{Predicate}
use Rattle.predicate_cells.specs.Cells.{Partition}
use Rattle.rate_expr.specs.FirstLastFollow.{AreSetsOf}
use Rattle.rate_expr.specs.Rates.{Regex}
use Rattle.query_model.specs.Bounds.{places_of, slots_of}
use Rattle.query_model.specs.Queries as query
use Rattle.query_model.specs.Queries.{Qre}
use Rattle.query_model.specs.QueryTypes.{derived_columns, type_of}
use Rattle.query_model.specs.Sizes.{max_slots}
use Rattle.compose_eval.specs.Followers as instances
use Rattle.compose_eval.specs.declared.instance.Instance.{Instance}
use Rattle.map_collect.specs.Keys.{fallback_of, followers_of, names_of}
use Rattle.map_collect.specs.Tracks as held_tracks
use Rattle.map_collect.specs.declared.track.Track as held_track
use Rattle.eval_nodes.specs.Counts.{stored_in}
use Rattle.eval_nodes.specs.Holdings.{Holding, Seen, atom_held, eps_held, choice_held, combine_held}
use Rattle.eval_nodes.specs.Holdings.{apply_held, split_held, iter_held, compose_held, collect_held}
use Rattle.eval_nodes.specs.Represents.{KeepsFew}
use Rattle.eval_nodes.specs.Runners.{IsSoundOf}
use Rattle.eval_nodes.specs.Sound.{AreSoundKeys, IsSound, IsSoundRunner, IsSoundWithin, IsTyped}
use Rattle.eval_nodes.specs.Starts.{AreDifferent}
use Rattle.eval_nodes.specs.Streams.{AreColumnsOf}
use Rattle.eval_nodes.proofs.Zips.{zip_all, zip_long, zip_same}
use Rattle.runner_snapshot.specs.declared.entries.Entry.{Entry}
use Rattle.runner_snapshot.specs.Dumps.{Node, Runners, Tracks, runner, atom, eps, choice}
use Rattle.runner_snapshot.specs.Dumps.{split, iter, combine, apply, compose, collect, Fed, Keyed}
use Rattle.runner_snapshot.specs.Dumps.{Track, fed_list, keyed_list, track_list, all_fed}
use Rattle.runner_snapshot.specs.Dumps.{all_keyed, all_tracks}
use Rattle.runner_snapshot.proofs.ReadNodes.{fed_back, keyed_back, track_back}
use Rattle.eval_snapshot.specs.Dumped.{dumped, keyed_with, start_in}
use Rattle.eval_snapshot.specs.Fits.{FitsFed, FitsNode, FitsRunner, FitsTrack}
use Rattle.eval_snapshot.specs.Means.{held_entry}
use Rattle.snapshot_laws.specs.Runners.{HasItsRunners, HasKeyRunners}
use Rattle.restored_nodes.specs.Restored.{IsRestored, IsRestoredFed}
use Rattle.restored_nodes.specs.Restored.{IsRestoredRunner, IsRestoredTrack}
use Rattle.restored_nodes.proofs.Lists.{zip_each, zip_made}
use Rattle.restored_nodes.proofs.Waiting.{entries_sound, kept_again}

module _ {R : Type 0} (seen : R → Seen R) where
  -- the same node of the same query
  pub restored_as : (cells : Option Partition) (q q' : Qre) (dump dump' : Node) (h h' : Holding R)
      → q' ≡ q → dump' ≡ dump → h' ≡ h → IsRestored seen cells q dump h
      → IsRestored seen cells q' dump' h'
  restored_as cells q q' dump dump' h h' query kept node is =
      subst (λ (x : Qre). IsRestored seen cells x dump' h') (sym query)
      (subst (λ (x : Node). IsRestored seen cells q x h') (sym kept)
      (subst (λ (x : Holding R). IsRestored seen cells q dump x) (sym node) is))

  -- ---- nodes without runners

  pub atom_back : (cells : Option Partition) (pred : Predicate) (e : Expression)
      (found : Option ℕ) (starts : List ℕ) → start_in found ≡ starts
      → IsRestored seen cells (query.atom pred e) (atom starts) (atom_held found)
  atom_back cells pred e found starts same =
      record { kept = ap atom same; sound = λ columns position on fits. tt; runners = tt }

  pub eps_back : (cells : Option Partition) (number : ℤ)
      → IsRestored seen cells (query.eps number) eps eps_held
  eps_back cells number =
      record { kept = refl; sound = λ columns position on fits. tt; runners = tt }

  module _ (cells : Option Partition) (f g : Qre) (m n : Node) (a b : Holding R)
      (first : IsRestored seen cells f m a) (second : IsRestored seen cells g n b) where
    pub choice_back : IsRestored seen cells (query.choice f g) (choice m n) (choice_held a b)
    choice_back = record {
      kept = (λ i. choice (first.kept i) (second.kept i));
      sound = λ columns position on fits. (
        first.sound columns position on fits.0,
        second.sound columns position on fits.1,
      );
      runners = (first.runners, second.runners);
    }

    pub combine_back : (e : Expression)
        → IsRestored seen cells (query.combine f g e) (combine m n) (combine_held a b)
    combine_back e = record {
      kept = (λ i. combine (first.kept i) (second.kept i));
      sound = λ columns position on fits. (
        first.sound columns position on fits.0,
        second.sound columns position on fits.1,
      );
      runners = (first.runners, second.runners);
    }

    pub split_back : (e : Expression) (room : ℕ) (entries : List Entry) → room ≡ places_of g
        → IsRestored seen cells (query.split f g e) (split m n entries)
        (split_held a b (record { entries = map held_entry entries; room = room }))
    split_back e room entries is = record {
      kept = (λ i. split (first.kept i) (second.kept i) (kept_again entries i));
      sound = λ columns position on fits. (
        first.sound columns position on fits.0,
        second.sound columns position on fits.1,
        entries_sound (type_of columns f) (places_of g) position room entries is fits.2,
      );
      runners = (first.runners, second.runners);
    }

  module _ (cells : Option Partition) (f : Qre) (m : Node) (a : Holding R)
      (first : IsRestored seen cells f m a) where
    pub apply_back : (e : Expression)
        → IsRestored seen cells (query.apply f e) (apply m) (apply_held a)
    apply_back e = record {
      kept = ap apply first.kept;
      sound = λ columns position on fits. first.sound columns position on fits;
      runners = first.runners;
    }

    pub iter_back : (number : ℤ) (e : Expression) (room : ℕ) (entries : List Entry)
        → room ≡ places_of f
        → IsRestored seen cells (query.iter f number e) (iter m entries)
        (iter_held a (record { entries = map held_entry entries; room = room }))
    iter_back number e room entries is = record {
      kept = (λ i. iter (first.kept i) (kept_again entries i));
      sound = λ columns position on fits. (
        first.sound columns position on fits.0,
        entries_sound Number (places_of f) position room entries is fits.1,
      );
      runners = first.runners;
    }

  -- ---- runners

  pub runner_back : (cells : Option Partition) (q : Qre) (position : ℕ) (answer : Option Value)
      (node : Node) (one : R) → (seen one).position ≡ position → (seen one).answer ≡ answer
      → IsRestored seen cells q node (seen one).node
      → IsRestoredRunner seen cells q (runner position answer node) one
  runner_back cells q position answer node one at has is = record {
    kept = (λ i. runner (at i) (has i) (is.kept i));
    sound = λ columns most on fits. record {
      within = subst (λ (n : ℕ). n ≤ most) (sym at) fits.0;
      sound = record {
        node = subst (λ (n : ℕ). IsSound seen columns q n (seen one).node) (sym at)
            (is.sound columns position on fits.2);
        answer = subst (IsTyped (type_of columns q)) (sym has) fits.1;
      };
    };
    runners = is.runners;
  }

  -- ---- composes

  abbrev fed_kept : Qre → Instance R → Fed
  fed_kept q one = record { outer = one.outer; runner = dumped seen q one.follower }

  same_fed : (q : Qre) (dump : Fed) (one : Instance R) → IsRestoredFed seen q dump one
      → fed_kept q one ≡ dump
  same_fed q dump one is = λ i. record { outer = is.outer i; runner = is.runner.kept i }

  pub compose_back : (cells : Option Partition) (f g : Qre) (m : Node) (dumps : Runners)
      (a : Holding R) (held : instances.Contents R) → IsRestored seen cells f m a
      → AllZip (IsRestoredFed seen g) (fed_list dumps) held.live
      → length held.live + length held.idle ≡ places_of f + 1
      → ((columns : List Column) → AllByRecursion (IsSoundOf seen columns g) held.idle)
      → AllByRecursion (KeepsFew seen (stored_in seen g) (slots_of g)) held.idle
      → IsRestored seen cells (query.compose f g) (compose m dumps) (compose_held a held)
  compose_back cells f g m dumps a held first live full idle few =
      let fs = fed_list dumps in
      let kept : all_fed (map (fed_kept g) held.live) ≡ dumps =
      ap all_fed (zip_made (IsRestoredFed seen g) (fed_kept g) fs held.live (same_fed g) live)
      ∙ fed_back dumps in
      record {
        kept = (λ i. compose (first.kept i) (kept i));
        sound = λ columns position on fits. let inner = derived_columns (type_of columns f) in (
          first.sound columns position on fits.0,
          subst AreDifferent (sym (zip_same (IsRestoredFed seen g) (λ (dump : Fed). dump.outer)
              (λ (one : Instance R). one.outer) fs held.live (λ dump one is. is.outer) live))
              fits.2,
          full,
          zip_all (IsRestoredFed seen g) (FitsFed (FitsNode inner g) (type_of inner g) position)
              (λ (one : Instance R). IsSoundWithin seen
              (IsSoundRunner seen (IsSound seen inner g) (type_of inner g)) (position + 1)
              one.follower) fs held.live
              (λ dump one is it. is.runner.sound inner (position + 1) tt it.runner) live fits.3,
          idle inner,
        );
        runners = (
          first.runners,
          few,
          zip_each (IsRestoredFed seen g)
              (λ (one : Instance R). HasItsRunners seen g (seen one.follower).node) fs held.live
              (λ dump one is. is.runner.runners) live,
        );
      }

  -- ---- collects

  abbrev IsKeyRestored : Qre → Keyed → R → Type 0
  IsKeyRestored q dump one = IsRestoredRunner seen None q dump.runner one

  keys_kept : (q : Qre) (dumps : List Keyed) (ones : List R)
      → AllZip (IsKeyRestored q) dumps ones
      → keyed_with (map (λ (dump : Keyed). dump.key) dumps) (map (dumped seen q) ones) ≡ dumps
  keys_kept q [] [] zip = refl
  keys_kept q (dump ∷ dumps) (one ∷ ones) zip =
      λ i. record { key = dump.key; runner = zip.0.kept i } ∷ keys_kept q dumps ones zip.1 i
  keys_kept q [] (one ∷ ones) zip = absurd zip
  keys_kept q (dump ∷ dumps) [] zip = absurd zip

  abbrev track_kept : Qre → held_track.Track R → Track
  track_kept q one = record {
    start = one.start;
    state = one.state;
    fallback = dumped seen q (fallback_of one.keys);
    keys = all_keyed
        (keyed_with (names_of one.keys) (map (dumped seen q) (followers_of one.keys)));
  }

  same_track : (q : Qre) (dump : Track) (one : held_track.Track R)
      → IsRestoredTrack seen q dump one → track_kept q one ≡ dump
  same_track q dump one is =
      let keys : all_keyed
      (keyed_with (names_of one.keys) (map (dumped seen q) (followers_of one.keys))) ≡ dump.keys =
      ap (λ (names : List (List ℕ)). all_keyed
      (keyed_with names (map (dumped seen q) (followers_of one.keys)))) is.keys.names
      ∙ ap all_keyed
      (keys_kept q (keyed_list dump.keys) (followers_of one.keys) is.keys.keyed)
      ∙ keyed_back dump.keys in λ i. record {
        start = is.start i;
        state = is.state i;
        fallback = is.keys.fallback.kept i;
        keys = keys i;
      }

  keys_sound : (columns : List Column) (q : Qre) (rate : Regex) (position : ℕ) (dump : Track)
      (one : held_track.Track R) → IsRestoredTrack seen q dump one
      → FitsTrack (FitsNode columns q) (type_of columns q) rate position dump
      → AreSoundKeys seen (IsSoundRunner seen (IsSound seen columns q) (type_of columns q)) position
      one.keys
  keys_sound columns q rate position dump one is fit = record {
    fallback = is.keys.fallback.sound columns position tt fit.fallback;
    keyed = zip_all (IsKeyRestored q)
        (λ (key : Keyed). FitsRunner position (FitsNode columns q) (type_of columns q) key.runner)
        (IsSoundWithin seen (IsSoundRunner seen (IsSound seen columns q) (type_of columns q))
        position)
        (keyed_list dump.keys) (followers_of one.keys)
        (λ key r back fits. back.sound columns position tt fits) is.keys.keyed fit.keys;
  }

  key_runners : (q : Qre) (dump : Track) (one : held_track.Track R)
      → IsRestoredTrack seen q dump one → HasKeyRunners seen (HasItsRunners seen q) one.keys
  key_runners q dump one is =
      let dumps = keyed_list dump.keys in
      let long = zip_long (IsKeyRestored q) dumps (followers_of one.keys) is.keys.keyed in
      let names = ap (λ (names : List (List ℕ)). length names) is.keys.names in
      let count = length-map dumps (λ (dump : Keyed). dump.key) in
      record {
        each = omega (arith, long, names, count);
        fallback = is.keys.fallback.runners;
        keyed = zip_each (IsKeyRestored q) (λ (r : R). HasItsRunners seen q (seen r).node)
            dumps (followers_of one.keys) (λ key r back. back.runners) is.keys.keyed;
      }

  pub collect_back : (cells : Option Partition) (chosen : List ℕ) (sync : Predicate) (rate : Regex)
      (f : Qre) (dumps : Tracks) (all : held_tracks.Contents R) → AreSetsOf all.nfa.sets rate
      → ((columns : List Column) → AreColumnsOf cells columns
      → all.nfa.cells.layout.columns ≡ columns)
      → slots_of f ≤ max_slots → AllZip (IsRestoredTrack seen f) (track_list dumps) all.tracks
      → IsRestored seen cells (query.collect chosen sync rate f) (collect dumps) (collect_held all)
  collect_back cells chosen sync rate f dumps all of_rate columns_are small zip =
      let ts = track_list dumps in
      record {
        kept = ap collect (ap all_tracks
            (zip_made (IsRestoredTrack seen f) (track_kept f) ts all.tracks (same_track f) zip)
            ∙ track_back dumps);
        sound = λ columns position on fits. (
          of_rate,
          columns_are columns on,
          small,
          subst AreDifferent (sym (zip_same (IsRestoredTrack seen f) (λ (dump : Track). dump.start)
              (λ (one : held_track.Track R). one.start) ts all.tracks
              (λ dump one is. is.start) zip)) fits.1,
          zip_all (IsRestoredTrack seen f)
              (FitsTrack (FitsNode columns f) (type_of columns f) rate position)
              (λ (one : held_track.Track R). AreSoundKeys seen
              (IsSoundRunner seen (IsSound seen columns f) (type_of columns f)) position one.keys)
              ts all.tracks (keys_sound columns f rate position) zip fits.2,
        );
        runners = zip_each (IsRestoredTrack seen f)
            (λ (one : held_track.Track R). HasKeyRunners seen (HasItsRunners seen f) one.keys)
            ts all.tracks (key_runners f) zip;
      }
