-- A node stands for each word for which what is kept of it stands, if it is sound.
use Rattle.std.proofs.Common.{◌≡◌, ◌+◌, ◌*◌, ℕ, List, [], ◌∷◌, Option, Some, None, drop}
use Rattle.std.proofs.Common.{length, refl, sym, ap, subst, ◌∙◌, arith, inl, inr}
use Rattle.std.specs.Prelude.{◌↔◌, filter, map}
use Rattle.std.specs.List.{AllByRecursion, AllZip, Contains}
use Rattle.std.proofs.lemmas.Option.{none-some, same_Some}
use Rattle.value_ops.specs.declared.value.Value.{Value}
use Rattle.item_schema.specs.declared.column.Column.{Column}
use Rattle.predicates.specs.Predicates.{Predicate}
use Rattle.predicates.specs.Truth.{holds}
use Rattle.rate_expr.specs.After.{IsAfter}
use Rattle.rate_expr.specs.Readings.{HasExtension}
use Rattle.rate_expr.specs.Words.{Word}
use Rattle.query_model.specs.Bounds.{slots_of}
use Rattle.query_model.specs.Denotation.{Den, projection}
use Rattle.query_model.specs.Queries as query
use Rattle.query_model.specs.Queries.{Qre}
use Rattle.query_model.specs.QueryTypes.{derived_columns, type_of}
use Rattle.query_model.specs.Rates.{rate_of}
use Rattle.split_eval.specs.declared.entry.Entry as held
use Rattle.memory_bound.specs.KeysMet.{keys_met}
use Rattle.compose_eval.specs.Followers.{outers_of}
use Rattle.compose_eval.specs.declared.instance.Instance.{Instance}
use Rattle.map_collect.specs.Keys.{fallback_of, followers_of, names_of}
use Rattle.map_collect.specs.Tracks.{starts_of}
use Rattle.map_collect.specs.declared.keys.Keys as held_keys
use Rattle.map_collect.specs.declared.track.Track as held_track
use Rattle.eval_nodes.specs.Counts.{stored_in}
use Rattle.eval_nodes.specs.Holdings.{Holding, Seen, atom_held, eps_held, choice_held, combine_held}
use Rattle.eval_nodes.specs.Holdings.{apply_held, split_held, iter_held, compose_held, collect_held}
use Rattle.eval_nodes.specs.Keyed.{StandFor}
use Rattle.eval_nodes.specs.Represents.{AreWaiting, IsFollowing, KeepsFew, Represents}
use Rattle.eval_nodes.specs.Sound.{AreSoundKeys, IsSound, IsSoundRunner, IsSoundWithin}
use Rattle.eval_nodes.specs.Starts.{IsLive}
use Rattle.eval_nodes.proofs.Instances.{all_mapped}
use Rattle.eval_nodes.proofs.Members.{first_member, later_member, member_cases, no_member}
use Rattle.runner_snapshot.specs.Dumps.{Runner, Node, Fed, Keyed, Track, fed_list, keyed_list}
use Rattle.runner_snapshot.specs.Dumps.{track_list, all_fed, all_keyed, all_tracks}
use Rattle.eval_snapshot.specs.Dumped.{dumped_node, dumped_runner, kept_entry, keyed_with, start_in}
use Rattle.eval_snapshot.specs.Means.{AreFedBy, AreTrackedBy, IsFedBy, IsRunnerAfter}
use Rattle.eval_snapshot.specs.Means.{StandForKeys, Stands, held_entry}
use Rattle.snapshot_laws.specs.Runners.{HasItsRunners, HasKeyRunners}
use Rattle.snapshot_laws.proofs.SameStates.{after_too}

-- ---- lists

-- what is made of one of a list is one of what is made of the list
of_one : {A B : Type 0} (f : A → B) (xs : List A) (x : A) → Contains xs x
    → Contains (map f xs) (f x)
of_one f [] x there = absurd (no_member x there)
of_one f (y ∷ xs) x there = elim (member_cases y x xs there) [
  | inl same ↦ subst (λ z. Contains (f y ∷ map f xs) (f z)) same
      (first_member (f y) (map f xs))
  | inr more ↦ later_member (f y) (f x) (map f xs) (of_one f xs x more)
]

-- what holds of all holds of each
of_all : {A : Type 0} (P : A → Type 0) (xs : List A) (x : A) → AllByRecursion P xs
    → Contains xs x → P x
of_all P [] x all there = absurd (no_member x there)
of_all P (y ∷ xs) x all there = elim (member_cases y x xs there) [
  | inl same ↦ subst P same all.0
  | inr more ↦ of_all P xs x all.1 more
]

fed_forth : (xs : List Fed) → fed_list (all_fed xs) ≡ xs
fed_forth [] = refl
fed_forth (first ∷ rest) = ap (λ (xs : List Fed). first ∷ xs) (fed_forth rest)

keyed_forth : (xs : List Keyed) → keyed_list (all_keyed xs) ≡ xs
keyed_forth [] = refl
keyed_forth (first ∷ rest) = ap (λ (xs : List Keyed). first ∷ xs) (keyed_forth rest)

track_forth : (xs : List Track) → track_list (all_tracks xs) ≡ xs
track_forth [] = refl
track_forth (first ∷ rest) = ap (λ (xs : List Track). first ∷ xs) (track_forth rest)

entries_back : (xs : List (held.Entry Value)) → map held_entry (map kept_entry xs) ≡ xs
entries_back [] = refl
entries_back (first ∷ rest) = ap (λ (xs : List (held.Entry Value)). first ∷ xs) (entries_back rest)

-- ---- atoms

start_is : (found : Option ℕ) (start : ℕ) → Contains (start_in found) start ↔ (found ≡ Some start)
start_is None start = (λ there. absurd (no_member start there), λ is. absurd (none-some start is))
start_is (Some at) start = (
  λ there. elim (member_cases at start [] there) [
    | inl is ↦ ap (λ (n : ℕ). Some n) is
    | inr more ↦ absurd (no_member start more)
  ],
  λ is. subst (Contains (at ∷ [])) (same_Some at start is) (first_member at []),
)

-- ---- keys

-- as many runners as keys have all the keys
names_are : {R : Type 0} (d : R → Runner) (names : List (List ℕ)) (rs : List R)
    → length rs ≡ length names
    → map (λ (k : Keyed). k.key) (keyed_with names (map d rs)) ≡ names
names_are d [] [] long = refl
names_are d [] (r ∷ rs) long = absurd (omega (arith, long))
names_are d (name ∷ names) [] long = absurd (omega (arith, long))
names_are d (name ∷ names) (r ∷ rs) long =
    ap (λ (xs : List (List ℕ)). name ∷ xs) (names_are d names rs (omega (arith, long)))

module _ {R : Type 0} (d : R → Runner) (Q : R → Type 0) (follows : Word → R → Type 0)
    (stands : Word → Runner → Type 0)
    (step : (word : Word) (one : R) → Q one → stands word (d one) → follows word one) where
  zip_back : (P : List ℕ → Word) (names : List (List ℕ)) (rs : List R)
      → length rs ≡ length names → AllByRecursion Q rs
      → ((one : Keyed) → Contains (keyed_with names (map d rs)) one → stands (P one.key) one.runner)
      → AllZip (λ key runner. follows (P key) runner) names rs
  zip_back P [] [] long all each = tt
  zip_back P [] (r ∷ rs) long all each = absurd (omega (arith, long))
  zip_back P (name ∷ names) [] long all each = absurd (omega (arith, long))
  zip_back P (name ∷ names) (r ∷ rs) long all each =
      let first : Keyed = record { key = name; runner = d r } in
      let others : List Keyed = keyed_with names (map d rs) in (
        step (P name) r all.0 (each first (first_member first others)),
        zip_back P names rs (omega (arith, long)) all.1
            (λ one there. each one (later_member first one others there)),
      )

  keys_back : (chosen : List ℕ) (sync : Predicate) (word : Word) (keys : held_keys.Keys R)
      → length (followers_of keys) ≡ length (names_of keys) → Q (fallback_of keys)
      → AllByRecursion Q (followers_of keys)
      → StandForKeys stands chosen sync word (d (fallback_of keys))
      (keyed_list (all_keyed (keyed_with (names_of keys) (map d (followers_of keys)))))
      → StandFor follows chosen sync word keys
  keys_back chosen sync word keys long first all stand =
      let kept : List Keyed = keyed_with (names_of keys) (map d (followers_of keys)) in
      let is : StandForKeys stands chosen sync word (d (fallback_of keys)) kept =
      subst (StandForKeys stands chosen sync word (d (fallback_of keys))) (keyed_forth kept) stand
      in record {
        fallback = step (filter (holds sync) word) (fallback_of keys) first is.fallback;
        names = sym (names_are d (names_of keys) (followers_of keys) long) ∙ is.names;
        each = zip_back (λ key. projection chosen sync key word) (names_of keys)
            (followers_of keys) long all is.each;
      }

-- ---- nodes

module _ {R : Type 0} (seen : R → Seen R) where
  abbrev dump_with : (Holding R → Node) → R → Runner
  dump_with dumped one = dumped_runner seen dumped one

  -- a runner that is sound, and has its runners
  abbrev IsGood : (ℕ → Holding R → Type 0) → (Holding R → Type 0) → R → Type 0
  IsGood sound has one = sound (seen one).position (seen one).node × has (seen one).node

  runner_follows : (stands : Node → Word → List ℕ → Type 0)
      (represents : Holding R → Word → List ℕ → Type 0) (dumped : Holding R → Node) (q : Qre)
      (sound : ℕ → Holding R → Type 0) (has : Holding R → Type 0)
      → ((position : ℕ) (h : Holding R) (word : Word) (starts : List ℕ) → sound position h → has h
      → stands (dumped h) word starts → represents h word starts)
      → (word : Word) (one : R) → IsGood sound has one
      → IsRunnerAfter stands q word (dump_with dumped one) → IsFollowing seen represents q word one
  runner_follows stands represents dumped q sound has step word one good is = record {
    position = is.0;
    node = step (seen one).position (seen one).node word (0 ∷ []) good.0 good.1 is.2;
    answer = is.1;
  }

  -- the runners of a compose
  abbrev fed_with : (Holding R → Node) → Instance R → Fed
  fed_with dumped one = record { outer = one.outer; runner = dump_with dumped one.follower }

  outers_same : (dumped : Holding R → Node) (live : List (Instance R))
      → map (λ (one : Fed). one.outer) (map (fed_with dumped) live) ≡ outers_of live
  outers_same dumped [] = refl
  outers_same dumped (first ∷ rest) =
      ap (λ (xs : List ℕ). first.outer ∷ xs) (outers_same dumped rest)

  -- the starts of a collect
  abbrev track_with : (Holding R → Node) → held_track.Track R → Track
  track_with dumped one = record {
    start = one.start;
    state = one.state;
    fallback = dump_with dumped (fallback_of one.keys);
    keys = all_keyed (keyed_with (names_of one.keys)
        (map (dump_with dumped) (followers_of one.keys)));
  }

  starts_same : (dumped : Holding R → Node) (all : List (held_track.Track R))
      → map (λ (one : Track). one.start) (map (track_with dumped) all) ≡ starts_of all
  starts_same dumped [] = refl
  starts_same dumped (first ∷ rest) =
      ap (λ (xs : List ℕ). first.start ∷ xs) (starts_same dumped rest)

  -- runners for keys that are sound, and have their runners
  good_keys : (sound : ℕ → Holding R → Type 0) (has : Holding R → Type 0) (is_sound : R → Type 0)
      (most : ℕ) → ((one : R) → is_sound one → sound (seen one).position (seen one).node)
      → (rs : List R) → AllByRecursion (IsSoundWithin seen is_sound most) rs
      → AllByRecursion (λ (one : R). has (seen one).node) rs
      → AllByRecursion (IsGood sound has) rs
  good_keys sound has is_sound most node [] all its = tt
  good_keys sound has is_sound most node (r ∷ rs) all its = (
    (node r all.0.sound, its.0),
    good_keys sound has is_sound most node rs all.1 its.1,
  )

  -- a sound node with its runners represents what is kept of it stands for
  pub represents : (columns : List Column) (q : Qre) (h : Holding R) (position : ℕ) (word : Word)
      (starts : List ℕ) → IsSound seen columns q position h → HasItsRunners seen q h
      → Stands columns q (dumped_node seen q h) word starts
      → Represents seen columns q h word starts
  represents columns (query.atom pred e) (atom_held found) position word starts sound its are =
      λ start. (
        λ is. (are.1 start).0 ((start_is found start).1 is),
        λ both. (start_is found start).0 ((are.1 start).1 both),
      )
  represents columns (query.eps number) eps_held position word starts sound its are = tt
  represents columns (query.choice f g) (choice_held a b) position word starts sound its are = (
    represents columns f a position word starts sound.0 its.0 are.0,
    represents columns g b position word starts sound.1 its.1 are.1,
  )
  represents columns (query.split f g e) (split_held a b left) position word starts sound its
      are = (
        represents columns f a position word starts sound.0 its.0 are.0,
        (are.1.0, are.1.1, represents columns g b position word are.1.0 sound.1 its.1 are.1.2),
        subst (AreWaiting (Den f) (HasExtension columns (rate_of g)) word starts)
            (entries_back left.entries) are.2,
        sound.2.room,
      )
  represents columns (query.iter f number e) (iter_held a so_far) position word starts sound its
      are = (
        (are.0.0, are.0.1, represents columns f a position word are.0.0 sound.0 its are.0.2),
        subst (AreWaiting (Den (query.iter f number e)) (HasExtension columns (rate_of f)) word starts)
            (entries_back so_far.entries) are.1,
        sound.1.room,
      )
  represents columns (query.combine f g e) (combine_held a b) position word starts sound its
      are = (
        represents columns f a position word starts sound.0 its.0 are.0,
        represents columns g b position word starts sound.1 its.1 are.1,
      )
  represents columns (query.apply f e) (apply_held a) position word starts sound its are =
      represents columns f a position word starts sound its are
  represents columns (query.compose f g) (compose_held a held) position word starts sound its are =
      let inner = derived_columns (type_of columns f) in
      let d : Holding R → Node = dumped_node seen g in
      let has : Holding R → Type 0 = HasItsRunners seen g in
      let lives : ℕ → Type 0 = IsLive columns f word starts in
      let sees : ℕ → Runner → Type 0 = λ start one. IsFedBy (Den f)
      (IsRunnerAfter (Stands inner g) g) (drop start word) one in
      let fed : AreFedBy lives sees (map (fed_with d) held.live) =
      subst (AreFedBy lives sees) (fed_forth (map (fed_with d) held.live)) are.1 in (
        represents columns f a position word starts sound.0 its.0 are.0,
        record {
          distinct = sound.1;
          there = λ start. subst (λ (outers : List ℕ). Contains outers start ↔ lives start)
              (outers_same d held.live) (fed.there start);
          each = λ start runner there.
              let one : Instance R = record { outer = start; follower = runner } in
              let good : IsGood (IsSound seen inner g) has runner = (
                (of_all (λ (x : Instance R). IsSoundWithin seen
                    (IsSoundRunner seen (IsSound seen inner g) (type_of inner g)) (position + 1)
                    x.follower) held.live one sound.3 there).sound.node,
                of_all (λ (x : Instance R). has (seen x.follower).node) held.live one its.2 there,
              ) in
              let is = fed.each (fed_with d one) (of_one (fed_with d) held.live one there) in (
                is.0,
                is.1,
                runner_follows (Stands inner g) (Represents seen inner g) d g
                    (IsSound seen inner g) has
                    (λ p h w s. represents inner g h p w s) is.0 runner good is.2,
              );
          full = sound.2;
        },
        all_mapped (KeepsFew seen (stored_in seen g) (slots_of g))
            (KeepsFew seen (stored_in seen g)
            (slots_of g * (1 + keys_met (query.compose f g) word)))
            held.idle (λ runner little. omega (arith, little)) its.1,
      )
  represents columns (query.collect chosen sync rate f) (collect_held all) position word starts
      sound its are =
      let d : Holding R → Node = dumped_node seen f in
      let has : Holding R → Type 0 = HasItsRunners seen f in
      let lives : ℕ → Type 0 = IsLive columns (query.collect chosen sync rate f) word starts in
      let stands : Word → Runner → Type 0 = IsRunnerAfter (Stands columns f) f in
      let tracks : ℕ → Track → Type 0 = λ start one. IsAfter are.0 (drop start word) one.state
      × StandForKeys stands chosen sync (drop start word) one.fallback (keyed_list one.keys) in
      let tracked : AreTrackedBy lives tracks (map (track_with d) all.tracks) =
      subst (AreTrackedBy lives tracks) (track_forth (map (track_with d) all.tracks)) are.2 in
      let is_sound : R → Type 0 = IsSoundRunner seen (IsSound seen columns f) (type_of columns f)
      in (
        sound.0,
        sound.1,
        record {
          distinct = sound.3;
          there = λ start. subst (λ (all : List ℕ). Contains all start ↔ lives start)
              (starts_same d all.tracks) (tracked.there start);
          each = λ track there.
              let it = tracked.each (track_with d track)
              (of_one (track_with d) all.tracks track there) in
              let good = of_all (λ (x : held_track.Track R). AreSoundKeys seen is_sound position
              x.keys) all.tracks track sound.4 there in
              let own = of_all (λ (x : held_track.Track R). HasKeyRunners seen has x.keys)
              all.tracks track its there in (
                after_too rate are.0 all.nfa.sets are.1 sound.0 (drop track.start word)
                    track.state it.0,
                keys_back (dump_with d) (IsGood (IsSound seen columns f) has)
                    (IsFollowing seen (Represents seen columns f) f) stands
                    (runner_follows (Stands columns f) (Represents seen columns f) d f
                    (IsSound seen columns f) has
                    (λ p h w s. represents columns f h p w s))
                    chosen sync (drop track.start word) track.keys own.each
                    (good.fallback.sound.node, own.fallback)
                    (good_keys (IsSound seen columns f) has is_sound position
                    (λ one is. is.node) (followers_of track.keys) good.keyed own.keyed)
                    it.1,
              );
        },
      )
  represents columns (query.atom pred e) h position word starts sound its are = absurd sound
  represents columns (query.eps number) h position word starts sound its are = absurd sound
  represents columns (query.choice f g) h position word starts sound its are = absurd sound
  represents columns (query.split f g e) h position word starts sound its are = absurd sound
  represents columns (query.iter f number e) h position word starts sound its are = absurd sound
  represents columns (query.combine f g e) h position word starts sound its are = absurd sound
  represents columns (query.apply f e) h position word starts sound its are = absurd sound
  represents columns (query.compose f g) h position word starts sound its are = absurd sound
  represents columns (query.collect chosen sync rate f) h position word starts sound its are =
      absurd sound

  -- a sound runner follows each word that it means
  pub follows : (columns : List Column) (q : Qre) (one : R) (word : Word)
      → IsSound seen columns q (seen one).position (seen one).node
      → HasItsRunners seen q (seen one).node
      → IsRunnerAfter (Stands columns q) q word (dump_with (dumped_node seen q) one)
      → IsFollowing seen (Represents seen columns q) q word one
  follows columns q one word sound its is =
      runner_follows (Stands columns q) (Represents seen columns q) (dumped_node seen q) q
      (IsSound seen columns q) (HasItsRunners seen q)
      (λ p h w s. represents columns q h p w s) word one (sound, its) is
