-- What is kept for a query that stands for a word and starts which are apart is at most what the
-- query's bound says, for each key that was met and once more.
use Rattle.std.proofs.Common.{◌≡◌, ◌≤◌, ◌+◌, ◌*◌, ◌∙◌, ℕ, Bool, ◌||◌, List, [], ◌∷◌, bytes_eq}
use Rattle.std.proofs.Common.{filter, Option, Some, None, drop, length, sum_by, sym, ap, subst}
use Rattle.std.proofs.Common.{arith, inl, inr}
use Rattle.std.specs.List.{Contains}
use Rattle.std.proofs.Math.Nat.{mul-le-mul_right}
use Rattle.std.proofs.lemmas.List.{length-map}
use Rattle.value_ops.specs.declared.field.Field.{Field}
use Rattle.value_ops.specs.declared.value.Value.{Value}
use Rattle.predicates.specs.Predicates.{Predicate}
use Rattle.predicates.specs.Truth.{holds}
use Rattle.item_schema.specs.declared.column.Column.{Column}
use Rattle.rate_expr.specs.Rates.{size_of}
use Rattle.rate_expr.specs.Words.{Word, IsWordOf}
use Rattle.query_model.specs.Bounds.{inner_of, places_of, slots_of, width_of}
use Rattle.query_model.specs.Denotation.{keys_after, projection}
use Rattle.query_model.specs.Keys.{key_of}
use Rattle.query_model.specs.Following.{IsAnswer}
use Rattle.query_model.specs.Queries.{Qre, atom, eps, choice, split, iter, combine, apply, compose}
use Rattle.query_model.specs.Queries.{collect}
use Rattle.query_model.specs.QueryTypes.{derived_columns, type_of}
use Rattle.query_model.specs.Rules.{Standing, bound, IsClear}
use Rattle.query_model.proofs.Keys.{kept_word}
use Rattle.memory_bound.specs.KeysMet.{key_columns, keys_met}
use Rattle.memory_bound.proofs.Entries.{out_keys, tables_only}
use Rattle.memory_bound.proofs.Growth.{among_all, among_first, among_second, keys_mono}
use Rattle.memory_bound.proofs.Tables.{keys_few}
use Rattle.compose_eval.specs.Followers.{followers_of}
use Rattle.compose_eval.specs.declared.instance.Instance.{Instance}
use Rattle.map_collect.specs.Keys.{fallback_of, followers_of as keyed_followers, names_of}
use Rattle.map_collect.specs.Tracks.{starts_of}
use Rattle.map_collect.specs.declared.keys.Keys.{Keys}
use Rattle.map_collect.specs.declared.track.Track.{Track}
use Rattle.value_ops.specs.Sizes.{size_of_answer}
use Rattle.eval_nodes.specs.Counts.{size_of_keys, size_of_runner, size_of_track}
use Rattle.eval_nodes.specs.Counts.{stored_in}
use Rattle.eval_nodes.specs.Runners.{FollowsWord}
use Rattle.eval_nodes.specs.Holdings.{Holding, atom_held, eps_held, choice_held, combine_held}
use Rattle.eval_nodes.specs.Holdings.{apply_held, split_held, iter_held, compose_held, collect_held}
use Rattle.eval_nodes.specs.Holdings.{Seen}
use Rattle.eval_nodes.specs.Keyed.{StandFor}
use Rattle.eval_nodes.specs.Represents.{KeepsFew, Represents}
use Rattle.eval_nodes.specs.Starts.{AreApart, ArePositions}
use Rattle.eval_nodes.proofs.Alike.{followers_many}
use Rattle.eval_nodes.proofs.Apart.{apart_first, apart_left, apart_right, apart_same, apart_second}
use Rattle.eval_nodes.proofs.Chains.{chain_apart, chain_clear}
use Rattle.eval_nodes.proofs.Few.{few_live}
use Rattle.eval_nodes.proofs.Instances.{all_member}
use Rattle.eval_nodes.proofs.Members.{member_cases, no_member}
use Rattle.eval_nodes.proofs.Pieces.{word_after}
use Rattle.eval_nodes.proofs.StoredEntries.{after_among, entries_size, value_few}
use Rattle.eval_nodes.proofs.Totals.{many_parts, scaled, sum_few, three_parts, together, track_fits}
use Rattle.eval_nodes.proofs.Totals.{two_parts, value_fits}
use Rattle.eval_nodes.proofs.Zips.{whole_there, zip_long, zip_member}
use Rattle.step_laws.proofs.Outputs.{out_word}
use Rattle.step_laws.proofs.StoredTracks.{HasTextsAlone, derived_texts, key_text, state_size}

-- an answer counts as wide as the query, and one for each key that was met
answer_size : (standing : Standing) (columns : List Column) (q : Qre) (word : Word)
    (answer : Option Value) → IsClear standing columns q → IsWordOf columns word
    → IsAnswer q word answer → size_of_answer answer ≤ width_of q + keys_met q word
answer_size standing columns q word None clear is answers = omega arith
answer_size standing columns q word (Some v) clear is answers =
    value_few standing columns q word v clear is answers

-- the one start 0 is a position, and is apart
pub first_position : (word : Word) → ArePositions word (0 ∷ [])
first_position word = λ start there. elim (member_cases 0 start [] there) [
  | inl same ↦ omega (arith, same)
  | inr none ↦ absurd (no_member start none)
]

pub first_apart : (columns : List Column) (q : Qre) (word : Word) → AreApart columns q word (0 ∷ [])
first_apart columns q word = λ i j more is first second a b.
    let x = only_zero i first in let y = only_zero j second in omega (arith, x, y)
  where
    only_zero : (i : ℕ) → Contains (0 ∷ []) i → i ≡ 0
    only_zero i there = elim (member_cases 0 i [] there) [
      | inl same ↦ sym same
      | inr none ↦ absurd (no_member i none)
    ]

module _ {R : Type 0} (seen : R → Seen R) where
  -- a runner, with its position and its answer
  runner_size : (standing : Standing) (columns : List Column) (q : Qre) (word : Word) (runner : R)
      → IsClear standing columns q → IsWordOf columns word → IsAnswer q word (seen runner).answer
      → stored_in seen q (seen runner).node ≤ inner_of q * (1 + keys_met q word)
      → size_of_runner seen (stored_in seen q) runner ≤ slots_of q * (1 + keys_met q word)
  runner_size standing columns q word runner clear is answers node =
      let answer = answer_size standing columns q word (seen runner).answer clear is answers in
      three_parts_of (stored_in seen q (seen runner).node)
      (size_of_answer (seen runner).answer) (inner_of q) (width_of q) (keys_met q word) node answer
    where
      three_parts_of : (x y a w n : ℕ) → x ≤ a * (1 + n) → y ≤ w + n
          → x + y + 1 ≤ (a + 1 + w) * (1 + n)
      three_parts_of x y a w n first second =
          let fits = value_fits 1 w n y (omega arith) second in
          let all = two_parts x (1 + y) a (1 + w) n first fits in
          omega (arith, all)

  -- one for a start or a key, and a runner
  one_more : (x a n : ℕ) → x ≤ a * (1 + n) → 1 + x ≤ (1 + a) * (1 + n)
  one_more x a n few = two_parts 1 x 1 a n (omega arith) few

  -- the runners of a compose
  runners_size : (q : Qre) (n : ℕ) (runners : List R)
      → ((runner : R) → Contains runners runner
      → size_of_runner seen (stored_in seen q) runner ≤ slots_of q * (1 + n))
      → sum_by (λ runner. 1 + size_of_runner seen (stored_in seen q) runner) runners
      ≤ length runners * ((1 + slots_of q) * (1 + n))
  runners_size q n runners each =
      sum_few (λ (runner : R). 1 + size_of_runner seen (stored_in seen q) runner)
      ((1 + slots_of q) * (1 + n)) runners
      (λ runner there. one_more (size_of_runner seen (stored_in seen q) runner) (slots_of q) n
      (each runner there))

  -- the runners for keys
  keys_size : (f : Qre) (chosen : List ℕ) (sync : Predicate) (word : Word) (n : ℕ) (keys : Keys R)
      (follows : Word → R → Type 0) → StandFor follows chosen sync word keys
      → ((test : List Field → Bool) (runner : R) → follows (filter test word) runner
      → size_of_runner seen (stored_in seen f) runner ≤ slots_of f)
      → length (keys_after chosen sync [] word) ≤ n
      → size_of_keys seen (stored_in seen f) keys ≤ slots_of f + n * (1 + slots_of f)
  keys_size f chosen sync word n keys follows stand each few =
      let first = each (holds sync) (fallback_of keys) stand.fallback in
      let keyed = sum_few (λ (runner : R). 1 + size_of_runner seen (stored_in seen f) runner)
      (1 + slots_of f) (keyed_followers keys) (λ runner there.
      let (key, among, is) = zip_member
      (λ (key : List ℕ) (runner : R). follows (projection chosen sync key word) runner)
      (names_of keys) (keyed_followers keys) runner there stand.each in
      let one = each (λ item. holds sync item || bytes_eq (key_of chosen item) key) runner is in
      omega (arith, one)) in
      let long =
      zip_long (λ (key : List ℕ) (runner : R). follows (projection chosen sync key word) runner)
      (names_of keys) (keyed_followers keys) stand.each in
      let names = ap length stand.names in
      let fewer : length (keyed_followers keys) ≤ n = omega (arith, few, long, names) in
      let up = mul-le-mul_right (1 + slots_of f) fewer in
      omega (arith, first, keyed, up)

  pub stored_few : (standing : Standing) (columns : List Column) (q : Qre)
      (holding : Holding R) (word : Word) (starts : List ℕ) → IsClear standing columns q
      → HasTextsAlone columns → IsWordOf columns word → ArePositions word starts
      → AreApart columns q word starts → Represents seen columns q holding word starts
      → stored_in seen q holding ≤ inner_of q * (1 + keys_met q word)
  stored_few standing columns (atom pred e) (atom_held None) word starts clear texts is positions
      apart rep = omega arith
  stored_few standing columns (atom pred e) (atom_held (Some start)) word starts clear texts is
      positions apart rep =
      omega arith
  stored_few standing columns (eps number) eps_held word starts clear texts is positions apart rep =
      omega arith
  stored_few standing columns (choice f g) (choice_held a b) word starts clear texts is
      positions apart rep =
      let q = choice f g in
      let first = stored_few bound columns f a word starts clear.0 texts is positions
      (apart_first columns f g word starts apart) rep.0 in
      let second = stored_few bound columns g b word starts clear.1 texts is positions
      (apart_second columns f g word starts apart) rep.1 in
      two_parts _ _ (inner_of f) (inner_of g) (keys_met q word)
      (scaled (stored_in seen f a) (inner_of f) (keys_met f word) (keys_met q word) first
      (keys_mono f q word word (among_first (key_columns f) (key_columns g)) (among_all word)))
      (scaled (stored_in seen g b) (inner_of g) (keys_met g word) (keys_met q word) second
      (keys_mono g q word word (among_second (key_columns f) (key_columns g)) (among_all word)))
  stored_few standing columns (combine f g e) (combine_held a b) word starts clear texts is
      positions apart rep =
      let q = combine f g e in
      let first = stored_few bound columns f a word starts clear.0 texts is positions apart rep.0 in
      let second = stored_few bound columns g b word starts clear.1 texts is positions
      (apart_same columns f g e word starts clear is apart) rep.1 in
      two_parts _ _ (inner_of f) (inner_of g) (keys_met q word)
      (scaled (stored_in seen f a) (inner_of f) (keys_met f word) (keys_met q word) first
      (keys_mono f q word word (among_first (key_columns f) (key_columns g)) (among_all word)))
      (scaled (stored_in seen g b) (inner_of g) (keys_met g word) (keys_met q word) second
      (keys_mono g q word word (among_second (key_columns f) (key_columns g)) (among_all word)))
  stored_few standing columns (apply f e) (apply_held a) word starts clear texts is
      positions apart rep =
      stored_few bound columns f a word starts clear.0 texts is positions apart rep
  stored_few standing columns (split f g e) (split_held a b left) word starts clear texts is
      positions apart rep =
      let q = split f g e in
      let (ends, reached, right) = rep.1 in
      let at_ends = λ (at : ℕ) (there : Contains ends at). (reached at).0 there in
      let first = stored_few bound columns f a word starts clear.0 texts is positions
      (apart_left columns f g e word starts clear.1 apart) rep.0 in
      let second = stored_few bound columns g b word ends clear.1 texts is
      (λ at there. let (start, piece, among, cut, in_f) = at_ends at there in cut.inside)
      (apart_right columns f g e word starts ends clear is apart
      (λ at there. let (start, piece, among, cut, in_f) = at_ends at there in
      (start, piece, among, cut, in_f)))
      right in
      let lefts = entries_size columns f g e word starts ends left.entries clear is positions apart
      reached rep.2 in
      let less = keys_mono f q word word (among_first (key_columns f) (key_columns g))
      (among_all word) in
      three_parts _ _ _ (inner_of f) (inner_of g) ((2 + width_of f) * places_of g) (keys_met q word)
      (scaled (stored_in seen f a) (inner_of f) (keys_met f word) (keys_met q word) first less)
      (scaled (stored_in seen g b) (inner_of g) (keys_met g word) (keys_met q word) second
      (keys_mono g q word word (among_second (key_columns f) (key_columns g)) (among_all word)))
      (scaled _ ((2 + width_of f) * places_of g) (keys_met f word) (keys_met q word) lefts less)
  stored_few standing columns (iter f number e) (iter_held a so_far) word starts clear texts is
      positions apart rep =
      let q = iter f number e in
      let (ends, reached, operand_rep) = rep.0 in
      let two = chain_clear columns f number e clear in
      let apart_two = chain_apart columns f number e word starts apart in
      let at_ends = λ (at : ℕ) (there : Contains ends at). (reached at).0 there in
      let first = stored_few bound columns f a word ends clear.0 texts is
      (λ at there. let (start, piece, among, cut, in_q) = at_ends at there in cut.inside)
      (apart_right columns q f e word starts ends two is apart_two
      (λ at there. let (start, piece, among, cut, in_q) = at_ends at there in
      (start, piece, among, cut, in_q)))
      operand_rep in
      let lefts = entries_size columns q f e word starts ends so_far.entries two is positions
      apart_two reached rep.1 in
      two_parts _ _ (inner_of f) (3 * places_of f) (keys_met q word) first lefts
  stored_few standing columns (compose f g) (compose_held a held) word starts clear texts is
      positions apart rep =
      let derived = derived_columns (type_of columns f) in
      let n = keys_met (compose f g) word in
      let first = stored_few standing columns f a word starts clear.0 texts is
      positions apart rep.0 in
      let live = runners_size g n (followers_of held.live) (λ runner there.
      let (one, among, same) = whole_there (λ (x : Instance R). x.follower)
      held.live runner there in
      let (out, outputs, follows) = rep.1.each one.outer one.follower among in
      let out_is = out_word standing columns f clear.0 (drop one.outer word) out
      (word_after columns word one.outer is) outputs in
      let node = stored_few standing derived g (seen one.follower).node out (0 ∷ []) clear.1
      (derived_texts (type_of columns f)) out_is (first_position out)
      (first_apart derived g out) follows.node in
      let size = runner_size standing derived g out one.follower clear.1 out_is
      follows.answer node in
      let less = out_keys standing columns f g (drop one.outer word) out clear.0 clear.2 outputs in
      let part = keys_mono f f (drop one.outer word) word (among_all (key_columns f))
      (after_among word one.outer) in
      subst (λ (r : R). size_of_runner seen (stored_in seen g) r ≤ slots_of g * (1 + n)) same
      (scaled (size_of_runner seen (stored_in seen g) one.follower) (slots_of g)
      (keys_met g out) n size (omega (arith, less, part)))) in
      let idle = runners_size g n held.idle (λ runner there.
      all_member (KeepsFew seen (stored_in seen g) (slots_of g * (1 + n))) held.idle
      runner rep.2 there) in
      let count = followers_many held.live in
      let full = rep.1.full in
      let both = together _ _ (length (followers_of held.live)) (length held.idle) (places_of f + 1)
      (1 + slots_of g) n live idle (omega (arith, count, full)) in
      let all = two_parts (stored_in seen f a) _ (inner_of f)
      ((places_of f + 1) * (1 + slots_of g)) n first both in
      omega (arith, all)
  stored_few standing columns (collect chosen sync rate f) (collect_held all) word starts clear
      texts is positions apart rep =
      let q = collect chosen sync rate f in
      let n = keys_met q word in
      let row = rep.2 in
      let few = few_live standing columns q word starts (starts_of all.tracks) clear is positions
      apart row.distinct (λ i there. (row.there i).0 there) in
      let count = length-map all.tracks (λ (track : Track R). track.start) in
      let each = sum_few (size_of_track seen (stored_in seen f))
      ((1 + size_of rate + slots_of f) * (1 + n)) all.tracks (λ track there.
      let u = drop track.start word in
      let u_is = word_after columns word track.start is in
      let (after, stand) = row.each track there in
      let keys = keys_few chosen sync rate f u in
      let more = keys_mono q q u word (among_all (key_columns q)) (after_among word track.start) in
      let kept = keys_size f chosen sync u n track.keys (FollowsWord seen columns f) stand
      (λ test runner follows.
      let part = filter test u in
      let part_is = kept_word columns test u u_is in
      let node = stored_few bound columns f (seen runner).node part (0 ∷ []) clear.0 texts part_is
      (first_position part) (first_apart columns f part) follows.node in
      let size = runner_size bound columns f part runner clear.0 part_is follows.answer node in
      let none : keys_met f part ≡ 0 =
      let first = key_text columns chosen clear.3 in
      tables_only f part clear.2 ∙ texts.none first.0 first.1 part part_is in
      let least = subst
      (λ (k : ℕ). size_of_runner seen (stored_in seen f) runner ≤ slots_of f * (1 + k)) none size in
      omega (arith, least)) (omega (arith, keys, more)) in
      track_fits _ (size_of rate) _ (slots_of f) n
      (state_size all.nfa.sets rate u track.state rep.0 after) kept) in
      many_parts _ (length all.tracks) (size_of rate + 1) (1 + size_of rate + slots_of f) n each
      (omega (arith, few, count))
  stored_few standing columns q holding word starts clear texts is positions apart rep = absurd rep

  -- a runner that follows a word
  pub runner_few : (standing : Standing) (columns : List Column) (q : Qre)
      (word : Word) (runner : R) → IsClear standing columns q → HasTextsAlone columns
      → IsWordOf columns word → FollowsWord seen columns q word runner
      → size_of_runner seen (stored_in seen q) runner ≤ slots_of q * (1 + keys_met q word)
  runner_few standing columns q word runner clear texts is follows =
      runner_size standing columns q word runner clear is follows.answer
      (stored_few standing columns q (seen runner).node word (0 ∷ []) clear texts is
      (first_position word) (first_apart columns q word) follows.node)
