-- What is kept of a node stands for the words for which the node stands.
use Rattle.std.proofs.Common.{◌≡◌, ◌≤◌, ℕ, List, [], ◌∷◌, Option, Some, None, drop}
use Rattle.std.proofs.Common.{length, refl, sym, ap, subst, ◌∙◌, arith, ◌⊎◌, inl, inr}
use Rattle.std.specs.Prelude.{◌↔◌, filter, map}
use Rattle.std.specs.List.{AllZip, Contains}
use Rattle.std.proofs.lemmas.Option.{none-some, same_Some}
use Rattle.value_ops.specs.declared.value.Value.{Value}
use Rattle.item_schema.specs.declared.column.Column.{Column}
use Rattle.predicates.specs.Predicates.{Predicate}
use Rattle.predicates.specs.Truth.{holds}
use Rattle.rate_expr.specs.After.{IsAfter}
use Rattle.rate_expr.specs.Readings.{HasExtension}
use Rattle.rate_expr.specs.Words.{Word, IsWordOf}
use Rattle.query_model.specs.Denotation.{Den, projection}
use Rattle.query_model.specs.Queries as query
use Rattle.query_model.specs.Queries.{Qre}
use Rattle.query_model.specs.QueryTypes.{derived_columns, type_of}
use Rattle.query_model.specs.Rates.{rate_of}
use Rattle.split_eval.specs.declared.entry.Entry as held
use Rattle.compose_eval.specs.Followers.{outers_of}
use Rattle.compose_eval.specs.declared.instance.Instance.{Instance}
use Rattle.map_collect.specs.Keys.{fallback_of, followers_of, names_of}
use Rattle.map_collect.specs.Tracks.{starts_of}
use Rattle.map_collect.specs.declared.keys.Keys as held_keys
use Rattle.map_collect.specs.declared.track.Track as held_track
use Rattle.eval_nodes.specs.Holdings.{Holding, Seen, atom_held, eps_held, choice_held, combine_held}
use Rattle.eval_nodes.specs.Holdings.{apply_held, split_held, iter_held, compose_held, collect_held}
use Rattle.eval_nodes.specs.Keyed.{StandFor}
use Rattle.eval_nodes.specs.Represents.{AreWaiting, IsFollowing, Represents}
use Rattle.eval_nodes.specs.Starts.{AreDifferent, IsLive}
use Rattle.eval_nodes.proofs.Members.{first_member, later_member, member_cases, no_member}
use Rattle.runner_snapshot.specs.Dumps.{Runner, Node, Fed, Keyed, Track, fed_list, keyed_list}
use Rattle.runner_snapshot.specs.Dumps.{track_list, all_fed, all_keyed, all_tracks}
use Rattle.eval_snapshot.specs.Dumped.{dumped, dumped_node, dumped_runner, kept_entry}
use Rattle.eval_snapshot.specs.Dumped.{keyed_with, start_in}
use Rattle.eval_snapshot.specs.Means.{AreFedBy, AreTrackedBy, IsFedBy, IsRunnerAfter}
use Rattle.eval_snapshot.specs.Means.{Means, StandForKeys, Stands}
use Rattle.eval_snapshot.specs.Means.{held_entry}

-- ---- lists

either : {A B C : Type 0} → (A → C) → (B → C) → A ⊎ B → C
either f g (inl a) = f a
either f g (inr b) = g b

-- what holds of each of a list holds of each of what is made of it
of_mapped : {A B : Type 0} (f : A → B) (P : B → Type 0) (xs : List A) (y : B)
    → ((x : A) → Contains xs x → P (f x)) → Contains (map f xs) y → P y
of_mapped f P [] y each there = absurd (no_member y there)
of_mapped f P (x ∷ xs) y each there =
    either (λ (is : f x ≡ y). subst P is (each x (first_member x xs)))
    (λ (more : Contains (map f xs) y). of_mapped f P xs y
    (λ z c. each z (later_member x z xs c)) more)
    (member_cases (f x) y (map f xs) there)

fed_forth : (xs : List Fed) → fed_list (all_fed xs) ≡ xs
fed_forth [] = refl
fed_forth (first ∷ rest) = ap (λ (xs : List Fed). first ∷ xs) (fed_forth rest)

keyed_forth : (xs : List Keyed) → keyed_list (all_keyed xs) ≡ xs
keyed_forth [] = refl
keyed_forth (first ∷ rest) = ap (λ (xs : List Keyed). first ∷ xs) (keyed_forth rest)

track_forth : (xs : List Track) → track_list (all_tracks xs) ≡ xs
track_forth [] = refl
track_forth (first ∷ rest) = ap (λ (xs : List Track). first ∷ xs) (track_forth rest)

entries_back : (xs : List (held.Entry Value)) → map held_entry (map kept_entry xs) ≡ xs
entries_back [] = refl
entries_back (first ∷ rest) = ap (λ (xs : List (held.Entry Value)). first ∷ xs) (entries_back rest)

-- ---- atoms

start_few : (found : Option ℕ) → length (start_in found) ≤ 1
start_few None = omega arith
start_few (Some start) = omega arith

start_is : (found : Option ℕ) (start : ℕ) → Contains (start_in found) start ↔ (found ≡ Some start)
start_is None start = (λ there. absurd (no_member start there), λ is. absurd (none-some start is))
start_is (Some at) start = (
  λ there. either (λ (is : at ≡ start). ap (λ (n : ℕ). Some n) is)
      (λ (more : Contains [] start). absurd (no_member start more))
      (member_cases at start [] there),
  λ is. subst (Contains (at ∷ [])) (same_Some at start is) (first_member at []),
)

-- ---- keys

module _ {R : Type 0} (d : R → Runner) (P : List ℕ → R → Type 0) where
  zip_names : (names : List (List ℕ)) (rs : List R) → AllZip P names rs
      → map (λ (k : Keyed). k.key) (keyed_with names (map d rs)) ≡ names
  zip_names [] [] all = refl
  zip_names [] (r ∷ rs) all = absurd all
  zip_names (name ∷ names) [] all = absurd all
  zip_names (name ∷ names) (r ∷ rs) all =
      ap (λ (xs : List (List ℕ)). name ∷ xs) (zip_names names rs all.1)

  zip_each : (Q : Keyed → Type 0)
      → ((key : List ℕ) (r : R) → P key r → Q (record { key = key; runner = d r }))
      → (names : List (List ℕ)) (rs : List R) → AllZip P names rs → (one : Keyed)
      → Contains (keyed_with names (map d rs)) one → Q one
  zip_each Q step [] [] all one there = absurd (no_member one there)
  zip_each Q step [] (r ∷ rs) all one there = absurd all
  zip_each Q step (name ∷ names) [] all one there = absurd all
  zip_each Q step (name ∷ names) (r ∷ rs) all one there =
      let first : Keyed = record { key = name; runner = d r } in
      either (λ (is : first ≡ one). subst Q is (step name r all.0))
      (λ (more : Contains (keyed_with names (map d rs)) one).
      zip_each Q step names rs all.1 one more)
      (member_cases first one (keyed_with names (map d rs)) there)

module _ {R : Type 0} (d : R → Runner) (follows : Word → R → Type 0)
    (stands : Word → Runner → Type 0)
    (step : (word : Word) (one : R) → follows word one → stands word (d one)) where
  keys_stand : (chosen : List ℕ) (sync : Predicate) (word : Word) (keys : held_keys.Keys R)
      → StandFor follows chosen sync word keys
      → StandForKeys stands chosen sync word (d (fallback_of keys))
      (keyed_list (all_keyed (keyed_with (names_of keys) (map d (followers_of keys)))))
  keys_stand chosen sync word keys stand =
      let P : List ℕ → R → Type 0 = λ key one. follows (projection chosen sync key word) one in
      subst (StandForKeys stands chosen sync word (d (fallback_of keys)))
      (sym (keyed_forth (keyed_with (names_of keys) (map d (followers_of keys)))))
      (record {
        fallback = step (filter (holds sync) word) (fallback_of keys) stand.fallback;
        names = zip_names d P (names_of keys) (followers_of keys) stand.each ∙ stand.names;
        each = zip_each d P
            (λ (one : Keyed). stands (projection chosen sync one.key word) one.runner)
            (λ key one follow. step (projection chosen sync key word) one follow)
            (names_of keys) (followers_of keys) stand.each;
      })

-- ---- nodes

module _ {R : Type 0} (seen : R → Seen R) where
  abbrev dump_with : (Holding R → Node) → R → Runner
  dump_with dumped one = dumped_runner seen dumped one

  -- runners
  runner_stands : (stands : Node → Word → List ℕ → Type 0)
      (represents : Holding R → Word → List ℕ → Type 0) (dumped : Holding R → Node) (q : Qre)
      → ((h : Holding R) (word : Word) (starts : List ℕ) → represents h word starts
      → stands (dumped h) word starts)
      → (word : Word) (one : R) → IsFollowing seen represents q word one
      → IsRunnerAfter stands q word (dump_with dumped one)
  runner_stands stands represents dumped q step word one follows =
      (follows.position, follows.answer, step (seen one).node word (0 ∷ []) follows.node)

  -- the runners of a compose
  abbrev fed_with : (Holding R → Node) → Instance R → Fed
  fed_with dumped one = record { outer = one.outer; runner = dump_with dumped one.follower }

  outers_same : (dumped : Holding R → Node) (live : List (Instance R))
      → map (λ (one : Fed). one.outer) (map (fed_with dumped) live) ≡ outers_of live
  outers_same dumped [] = refl
  outers_same dumped (first ∷ rest) =
      ap (λ (xs : List ℕ). first.outer ∷ xs) (outers_same dumped rest)

  -- the starts of a collect
  abbrev track_with : (Holding R → Node) → held_track.Track R → Track
  track_with dumped one = record {
    start = one.start;
    state = one.state;
    fallback = dump_with dumped (fallback_of one.keys);
    keys = all_keyed (keyed_with (names_of one.keys)
        (map (dump_with dumped) (followers_of one.keys)));
  }

  starts_same : (dumped : Holding R → Node) (all : List (held_track.Track R))
      → map (λ (one : Track). one.start) (map (track_with dumped) all) ≡ starts_of all
  starts_same dumped [] = refl
  starts_same dumped (first ∷ rest) =
      ap (λ (xs : List ℕ). first.start ∷ xs) (starts_same dumped rest)

  -- what is kept of a node stands for each word for which the node stands
  pub stands : (columns : List Column) (q : Qre) (h : Holding R) (word : Word) (starts : List ℕ)
      → Represents seen columns q h word starts
      → Stands columns q (dumped_node seen q h) word starts
  stands columns (query.atom pred e) (atom_held found) word starts are = (
    start_few found,
    λ start. (
      λ there. (are start).0 ((start_is found start).0 there),
      λ both. (start_is found start).1 ((are start).1 both),
    ),
  )
  stands columns (query.eps number) eps_held word starts are = tt
  stands columns (query.choice f g) (choice_held a b) word starts are =
      (stands columns f a word starts are.0, stands columns g b word starts are.1)
  stands columns (query.split f g e) (split_held a b left) word starts are = (
    stands columns f a word starts are.0,
    (are.1.0, are.1.1, stands columns g b word are.1.0 are.1.2),
    subst (AreWaiting (Den f) (HasExtension columns (rate_of g)) word starts)
        (sym (entries_back left.entries)) are.2,
  )
  stands columns (query.iter f number e) (iter_held a so_far) word starts are = (
    (are.0.0, are.0.1, stands columns f a word are.0.0 are.0.2),
    subst (AreWaiting (Den (query.iter f number e)) (HasExtension columns (rate_of f)) word starts)
        (sym (entries_back so_far.entries)) are.1,
  )
  stands columns (query.combine f g e) (combine_held a b) word starts are =
      (stands columns f a word starts are.0, stands columns g b word starts are.1)
  stands columns (query.apply f e) (apply_held a) word starts are =
      stands columns f a word starts are
  stands columns (query.compose f g) (compose_held a held) word starts are =
      let inner = derived_columns (type_of columns f) in
      let d : Holding R → Node = dumped_node seen g in
      let lives : ℕ → Type 0 = IsLive columns f word starts in
      let sees : ℕ → Runner → Type 0 = λ start one. IsFedBy (Den f)
      (IsRunnerAfter (Stands inner g) g) (drop start word) one in (
        stands columns f a word starts are.0,
        subst (AreFedBy lives sees) (sym (fed_forth (map (fed_with d) held.live)))
            (record {
              distinct = subst AreDifferent (sym (outers_same d held.live)) are.1.distinct;
              there = λ start. subst (λ (outers : List ℕ). Contains outers start ↔ lives start)
                  (sym (outers_same d held.live)) (are.1.there start);
              each = λ one there. of_mapped (fed_with d) (λ (o : Fed). sees o.outer o.runner)
                  held.live one
                  (λ x c. let fed = are.1.each x.outer x.follower c in (
                    fed.0,
                    fed.1,
                    runner_stands (Stands inner g) (Represents seen inner g) d g
                        (λ h w s r. stands inner g h w s r) fed.0 x.follower fed.2,
                  )) there;
            }),
      )
  stands columns (query.collect chosen sync rate f) (collect_held all) word starts are =
      let d : Holding R → Node = dumped_node seen f in
      let lives : ℕ → Type 0 = IsLive columns (query.collect chosen sync rate f) word starts in
      let follows : Word → Runner → Type 0 = IsRunnerAfter (Stands columns f) f in
      let tracks : ℕ → Track → Type 0 = λ start one.
      IsAfter all.nfa.sets (drop start word) one.state
      × StandForKeys follows chosen sync (drop start word) one.fallback
      (keyed_list one.keys) in (
        all.nfa.sets,
        are.0,
        subst (AreTrackedBy lives tracks) (sym (track_forth (map (track_with d) all.tracks)))
            (record {
              distinct = subst AreDifferent (sym (starts_same d all.tracks)) are.2.distinct;
              there = λ start. subst (λ (all : List ℕ). Contains all start ↔ lives start)
                  (sym (starts_same d all.tracks)) (are.2.there start);
              each = λ one there. of_mapped (track_with d) (λ (o : Track). tracks o.start o)
                  all.tracks one
                  (λ x c. let it = are.2.each x c in (
                    it.0,
                    keys_stand (dump_with d) (IsFollowing seen (Represents seen columns f) f)
                        follows
                        (λ w r is. runner_stands (Stands columns f) (Represents seen columns f) d f
                        (λ h v s m. stands columns f h v s m) w r is)
                        chosen sync (drop x.start word) x.keys it.1,
                  )) there;
            }),
      )
  stands columns (query.atom pred e) h word starts are = absurd are
  stands columns (query.eps number) h word starts are = absurd are
  stands columns (query.choice f g) h word starts are = absurd are
  stands columns (query.split f g e) h word starts are = absurd are
  stands columns (query.iter f number e) h word starts are = absurd are
  stands columns (query.combine f g e) h word starts are = absurd are
  stands columns (query.apply f e) h word starts are = absurd are
  stands columns (query.compose f g) h word starts are = absurd are
  stands columns (query.collect chosen sync rate f) h word starts are = absurd are

  -- what is kept of a runner means each word of its stream that the runner follows
  pub means : (columns : List Column) (q : Qre) (word : Word) (one : R)
      → IsWordOf columns word → IsFollowing seen (Represents seen columns q) q word one
      → Means columns q (dumped seen q one) word
  means columns q word one is follows = (
    is,
    runner_stands (Stands columns q) (Represents seen columns q) (dumped_node seen q) q
        (stands columns q) word one follows,
  )
