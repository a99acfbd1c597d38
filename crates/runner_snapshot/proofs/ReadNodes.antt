-- Runners and nodes are read as they are spelled.
use Rattle.std.proofs.Common.{◌≡◌, ◌≤◌, ℕ, zero, suc, List, [], ◌∷◌, ◌++◌, length, Option}
use Rattle.std.proofs.Common.{None}
use Rattle.std.proofs.Common.{Some, refl, sym, ap, subst, ◌∙◌, eqb, arith}
use Rattle.std.specs.Int.{w64}
use Rattle.std.specs.List.{flat_map, AllByRecursion}
use Rattle.std.proofs.lemmas.Bool.{eqb-true}
use Rattle.std.proofs.lemmas.Option.{none-some}
use Rattle.rate_expr.specs.declared.state.State.{State}
use Rattle.value_ops.specs.declared.value.Value.{Value}
use Rattle.runner_snapshot.specs.declared.entries.Entry.{Entry}
use Rattle.runner_snapshot.specs.declared.tags.NodeTag.{NodeTag}
use Rattle.runner_snapshot.specs.declared.tags.NodeTag.TheVariants as kind
use Rattle.runner_snapshot.specs.Bytes.{in_eight, in_four, value_bytes, answer_bytes, state_bytes}
use Rattle.runner_snapshot.specs.Bytes.{text_bytes, waiting_bytes, entries_bytes, starts_bytes}
use Rattle.runner_snapshot.specs.Bytes.{runner_bytes, node_bytes, fed_bytes, track_bytes}
use Rattle.runner_snapshot.specs.Bytes.{keyed_bytes}
use Rattle.runner_snapshot.specs.Bytes.{runners_bytes, keys_bytes, tracks_bytes}
use Rattle.runner_snapshot.specs.Dumps.{Runner, Node, Runners, Tracks, Keys, runner, atom, eps}
use Rattle.runner_snapshot.specs.Dumps.{choice, split, iter, combine, apply, compose, collect}
use Rattle.runner_snapshot.specs.Dumps.{no_runners, fed, no_tracks, track, no_keys, keyed}
use Rattle.runner_snapshot.specs.Dumps.{Fed, Keyed, Track, fed_list, keyed_list, track_list}
use Rattle.runner_snapshot.specs.Dumps.{all_fed, all_keyed, all_tracks}
use Rattle.runner_snapshot.specs.Ranges.{AreCounted, IsPlace, IsReadableAnswer, IsShort, IsState}
use Rattle.runner_snapshot.specs.Ranges.{IsValue}
use Rattle.runner_snapshot.specs.Ranges.{IsWaiting, IsRunnerWith, IsFedWith, IsKeyedWith}
use Rattle.runner_snapshot.specs.Ranges.{IsTrackWith, IsNodeWith, IsNode}
use Rattle.runner_snapshot.specs.Reading.{Read, ◌>>=◌, byte_at, counted_at, number_at}
use Rattle.runner_snapshot.specs.Reading.{pair_at, state_at, text_at, value_read_at, answer_at}
use Rattle.runner_snapshot.specs.Reading.{waiting_at, starts_at, runner_at, fed_at, keyed_at}
use Rattle.runner_snapshot.specs.Reading.{track_at}
use Rattle.runner_snapshot.specs.Reading.{runners_at, keys_at, tracks_at, node_of, node_at}
use Rattle.runner_snapshot.specs.Tags.{node_byte, node_tag, node_tags}
use Rattle.runner_snapshot.proofs.Readers.{IsBytes, IsBytes-rest, Takes, Reads, both, made}
use Rattle.runner_snapshot.proofs.Readers.{arm_takes, arm_again, alone_takes, tagged_takes}
use Rattle.runner_snapshot.proofs.ReadNumbers.{counted, number64, states, texts}
use Rattle.runner_snapshot.proofs.ReadAnswers.{answers}
use Rattle.runner_snapshot.proofs.ReadValues.{found_meets, values}

-- a byte that says a node is the byte of its tag
known_node : (byte : ℕ) (tag : NodeTag) → node_tag byte ≡ Some tag → node_byte tag ≡ byte
known_node byte tag e =
    eqb-true (node_byte tag) byte
    (found_meets (λ (one : NodeTag). eqb (node_byte one) byte) node_tags tag e)

-- ---- what waits

abbrev WaitingParts : Type 0
WaitingParts = (ℕ × ℕ) × Value

pub waiting : Reads waiting_bytes IsWaiting waiting_at
unfolding waiting_at
waiting =
    made (λ (p : WaitingParts). (in_eight p.0.0 ++ in_eight p.0.1) ++ value_bytes p.1)
    (λ (p : WaitingParts). (IsPlace p.0.0 × IsPlace p.0.1) × IsValue p.1)
    (pair_at (pair_at (number_at w64) (number_at w64)) value_read_at)
    (λ p. record { inner = p.0.0; outer = p.0.1; value = p.1 })
    (λ entry. ((entry.inner, entry.outer), entry.value)) waiting_bytes IsWaiting
    (λ entry is. refl) (λ p are. refl) (λ p are. (are.0.0, are.0.1, are.1))
    (λ entry is. ((is.0, is.1), is.2))
    (both (λ (p : ℕ × ℕ). in_eight p.0 ++ in_eight p.1)
    (λ (p : ℕ × ℕ). IsPlace p.0 × IsPlace p.1) (pair_at (number_at w64) (number_at w64))
    value_bytes IsValue value_read_at
    (both in_eight IsPlace (number_at w64) in_eight IsPlace (number_at w64) number64 number64)
    values)

pub all_waiting : Reads entries_bytes (AreCounted IsWaiting) (counted_at waiting_at)
all_waiting = counted waiting_bytes IsWaiting waiting_at waiting

-- ---- starts

abbrev IsStart : List ℕ → Type 0
IsStart starts = (length starts ≤ 1) × AllByRecursion IsPlace starts

starts_takes : (bytes xs rest : List ℕ) → IsBytes bytes → starts_at bytes ≡ Some (xs, rest)
    → Takes bytes (starts_bytes xs) rest × IsStart xs
unfolding starts_at
starts_takes [] xs rest are_bytes e = absurd (none-some (xs, rest) e)
starts_takes (zero ∷ bytes) xs rest are_bytes e =
    alone_takes [] starts_bytes IsStart 0 refl (omega arith, tt) bytes xs rest
    (IsBytes-rest 0 bytes are_bytes) e
starts_takes (suc zero ∷ bytes) xs rest are_bytes e =
    arm_takes in_eight IsPlace (number_at w64) (λ start. start ∷ []) starts_bytes IsStart 1
    (λ start is. refl) (λ start is. (omega arith, (is, tt))) number64 bytes xs rest
    (IsBytes-rest 1 bytes are_bytes) e
starts_takes (suc (suc count) ∷ bytes) xs rest are_bytes e = absurd (none-some (xs, rest) e)

starts_again : (xs rest : List ℕ) → IsStart xs
    → starts_at (starts_bytes xs ++ rest) ≡ Some (xs, rest)
unfolding starts_at
starts_again [] rest is = refl
starts_again (start ∷ []) rest is =
    arm_again in_eight IsPlace (number_at w64) (λ start. start ∷ []) number64 start rest is.1.0
starts_again (start ∷ other ∷ more) rest is =
    let few : suc (suc (length more)) ≤ 1 = is.0 in absurd (omega arith)

starts : Reads starts_bytes IsStart starts_at
starts = record { takes = starts_takes; again = starts_again }

-- ---- lists and their plain ones

pub fed_back : (rs : Runners) → all_fed (fed_list rs) ≡ rs
fed_back no_runners = refl
fed_back (fed outer first rest) = ap (fed outer first) (fed_back rest)

pub fed_forth : (xs : List Fed) → fed_list (all_fed xs) ≡ xs
fed_forth [] = refl
fed_forth (first ∷ rest) = ap (λ (xs : List Fed). first ∷ xs) (fed_forth rest)

pub keyed_back : (ks : Keys) → all_keyed (keyed_list ks) ≡ ks
keyed_back no_keys = refl
keyed_back (keyed key first rest) = ap (keyed key first) (keyed_back rest)

pub keyed_forth : (xs : List Keyed) → keyed_list (all_keyed xs) ≡ xs
keyed_forth [] = refl
keyed_forth (first ∷ rest) = ap (λ (xs : List Keyed). first ∷ xs) (keyed_forth rest)

pub track_back : (ts : Tracks) → all_tracks (track_list ts) ≡ ts
track_back no_tracks = refl
track_back (track start state fallback keys rest) =
    ap (track start state fallback keys) (track_back rest)

pub track_forth : (xs : List Track) → track_list (all_tracks xs) ≡ xs
track_forth [] = refl
track_forth (first ∷ rest) = ap (λ (xs : List Track). first ∷ xs) (track_forth rest)

-- a runner after its start
abbrev pub fed_text : Fed → List ℕ
fed_text one = in_eight one.outer ++ runner_bytes one.runner

-- a runner after its key
abbrev pub keyed_text : Keyed → List ℕ
keyed_text one = text_bytes one.key ++ runner_bytes one.runner

-- a start of a collect
abbrev pub track_text : Track → List ℕ
track_text one =
    in_eight one.start ++ state_bytes one.state ++ runner_bytes one.fallback
    ++ keys_bytes one.keys

pub fed_texts : (xs : List Fed) → fed_bytes (all_fed xs) ≡ flat_map fed_text xs
fed_texts [] = refl
fed_texts (first ∷ rest) = ap (λ (bytes : List ℕ). fed_text first ++ bytes) (fed_texts rest)

pub keyed_texts : (xs : List Keyed) → keyed_bytes (all_keyed xs) ≡ flat_map keyed_text xs
keyed_texts [] = refl
keyed_texts (first ∷ rest) = ap (λ (bytes : List ℕ). keyed_text first ++ bytes) (keyed_texts rest)

pub track_texts : (xs : List Track) → track_bytes (all_tracks xs) ≡ flat_map track_text xs
track_texts [] = refl
track_texts (first ∷ rest) = ap (λ (bytes : List ℕ). track_text first ++ bytes) (track_texts rest)

pub runners_text : (xs : List Fed)
    → runners_bytes (all_fed xs) ≡ in_four (length xs) ++ flat_map fed_text xs
runners_text xs =
    ap (λ (ys : List Fed). in_four (length ys) ++ fed_bytes (all_fed xs)) (fed_forth xs)
    ∙ ap (λ (bytes : List ℕ). in_four (length xs) ++ bytes) (fed_texts xs)

pub keys_text : (xs : List Keyed)
    → keys_bytes (all_keyed xs) ≡ in_four (length xs) ++ flat_map keyed_text xs
keys_text xs =
    ap (λ (ys : List Keyed). in_four (length ys) ++ keyed_bytes (all_keyed xs)) (keyed_forth xs)
    ∙ ap (λ (bytes : List ℕ). in_four (length xs) ++ bytes) (keyed_texts xs)

pub tracks_text : (xs : List Track)
    → tracks_bytes (all_tracks xs) ≡ in_four (length xs) ++ flat_map track_text xs
tracks_text xs =
    ap (λ (ys : List Track). in_four (length ys) ++ track_bytes (all_tracks xs)) (track_forth xs)
    ∙ ap (λ (bytes : List ℕ). in_four (length xs) ++ bytes) (track_texts xs)

-- ---- with nodes that are read so

abbrev RunnerParts : Type 0
RunnerParts = (ℕ × Option Value) × Node

parts_of : Runner → RunnerParts
parts_of (runner position answer node) = ((position, answer), node)

module _ (P : Node → Type 0) (f : List ℕ → Read Node) (nodes : Reads node_bytes P f) where
  whole_runner : (r : Runner) → IsRunnerWith P r
      → runner (parts_of r).0.0 (parts_of r).0.1 (parts_of r).1 ≡ r
  unfolding parts_of
  whole_runner (runner position answer node) is = refl

  runner_parts : (r : Runner) → IsRunnerWith P r
      → (IsPlace (parts_of r).0.0 × IsReadableAnswer (parts_of r).0.1) × P (parts_of r).1
  unfolding parts_of
  runner_parts (runner position answer node) is = ((is.0, is.1), is.2)

  pub runners_one : Reads runner_bytes (IsRunnerWith P) (runner_at f)
  unfolding runner_at
  runners_one =
      made (λ (p : RunnerParts). (in_eight p.0.0 ++ answer_bytes p.0.1) ++ node_bytes p.1)
      (λ (p : RunnerParts). (IsPlace p.0.0 × IsReadableAnswer p.0.1) × P p.1)
      (pair_at (pair_at (number_at w64) answer_at) f)
      (λ p. runner p.0.0 p.0.1 p.1) parts_of runner_bytes (IsRunnerWith P) whole_runner
      (λ p are. refl) (λ p are. (are.0.0, are.0.1, are.1)) runner_parts
      (both (λ (p : ℕ × Option Value). in_eight p.0 ++ answer_bytes p.1)
      (λ (p : ℕ × Option Value). IsPlace p.0 × IsReadableAnswer p.1)
      (pair_at (number_at w64) answer_at) node_bytes P f
      (both in_eight IsPlace (number_at w64) answer_bytes IsReadableAnswer answer_at number64
      answers) nodes)

  fed_one : Reads fed_text (IsFedWith P) (fed_at f)
  unfolding fed_at
  fed_one =
      made (λ (p : ℕ × Runner). in_eight p.0 ++ runner_bytes p.1)
      (λ (p : ℕ × Runner). IsPlace p.0 × IsRunnerWith P p.1) (pair_at (number_at w64) (runner_at f))
      (λ p. record { outer = p.0; runner = p.1 }) (λ one. (one.outer, one.runner)) fed_text
      (IsFedWith P) (λ one is. refl) (λ p are. refl) (λ p are. are) (λ one is. is)
      (both in_eight IsPlace (number_at w64) runner_bytes (IsRunnerWith P) (runner_at f) number64
      runners_one)

  keyed_one : Reads keyed_text (IsKeyedWith P) (keyed_at f)
  unfolding keyed_at
  keyed_one =
      made (λ (p : List ℕ × Runner). text_bytes p.0 ++ runner_bytes p.1)
      (λ (p : List ℕ × Runner). IsShort p.0 × IsRunnerWith P p.1) (pair_at text_at (runner_at f))
      (λ p. record { key = p.0; runner = p.1 }) (λ one. (one.key, one.runner)) keyed_text
      (IsKeyedWith P) (λ one is. refl) (λ p are. refl) (λ p are. are) (λ one is. is)
      (both text_bytes IsShort text_at runner_bytes (IsRunnerWith P) (runner_at f) texts
      runners_one)

  abbrev AreFed : Runners → Type 0
  AreFed rs = AreCounted (IsFedWith P) (fed_list rs)

  abbrev AreKeyed : Keys → Type 0
  AreKeyed ks = AreCounted (IsKeyedWith P) (keyed_list ks)

  abbrev AreTracks : Tracks → Type 0
  AreTracks ts = AreCounted (IsTrackWith P) (track_list ts)

  all_runners : Reads runners_bytes AreFed (runners_at f)
  unfolding runners_at
  all_runners =
      made (λ (xs : List Fed). in_four (length xs) ++ flat_map fed_text xs)
      (AreCounted (IsFedWith P)) (counted_at (fed_at f)) all_fed fed_list runners_bytes AreFed
      (λ rs are. fed_back rs) (λ xs are. runners_text xs)
      (λ xs are. subst (AreCounted (IsFedWith P)) (sym (fed_forth xs)) are) (λ rs are. are)
      (counted fed_text (IsFedWith P) (fed_at f) fed_one)

  all_keys : Reads keys_bytes AreKeyed (keys_at f)
  unfolding keys_at
  all_keys =
      made (λ (xs : List Keyed). in_four (length xs) ++ flat_map keyed_text xs)
      (AreCounted (IsKeyedWith P)) (counted_at (keyed_at f)) all_keyed keyed_list keys_bytes
      AreKeyed (λ ks are. keyed_back ks) (λ xs are. keys_text xs)
      (λ xs are. subst (AreCounted (IsKeyedWith P)) (sym (keyed_forth xs)) are) (λ ks are. are)
      (counted keyed_text (IsKeyedWith P) (keyed_at f) keyed_one)

  abbrev TrackParts : Type 0
  TrackParts = ((ℕ × State) × Runner) × Keys

  track_one : Reads track_text (IsTrackWith P) (track_at f)
  unfolding track_at
  track_one =
      made (λ (p : TrackParts). ((in_eight p.0.0.0 ++ state_bytes p.0.0.1) ++ runner_bytes p.0.1)
      ++ keys_bytes p.1)
      (λ (p : TrackParts). ((IsPlace p.0.0.0 × IsState p.0.0.1) × IsRunnerWith P p.0.1)
      × AreKeyed p.1)
      (pair_at (pair_at (pair_at (number_at w64) state_at) (runner_at f)) (keys_at f))
      (λ p. record { start = p.0.0.0; state = p.0.0.1; fallback = p.0.1; keys = p.1 })
      (λ one. (((one.start, one.state), one.fallback), one.keys)) track_text (IsTrackWith P)
      (λ one is. refl) (λ p are. refl) (λ p are. (are.0.0.0, are.0.0.1, are.0.1, are.1))
      (λ one is. (((is.0, is.1), is.2), is.3))
      (both (λ (p : (ℕ × State) × Runner). (in_eight p.0.0 ++ state_bytes p.0.1)
      ++ runner_bytes p.1)
      (λ (p : (ℕ × State) × Runner). (IsPlace p.0.0 × IsState p.0.1) × IsRunnerWith P p.1)
      (pair_at (pair_at (number_at w64) state_at) (runner_at f)) keys_bytes AreKeyed (keys_at f)
      (both (λ (p : ℕ × State). in_eight p.0 ++ state_bytes p.1)
      (λ (p : ℕ × State). IsPlace p.0 × IsState p.1) (pair_at (number_at w64) state_at)
      runner_bytes (IsRunnerWith P) (runner_at f)
      (both in_eight IsPlace (number_at w64) state_bytes IsState state_at number64 states)
      runners_one)
      all_keys)

  all_starts : Reads tracks_bytes AreTracks (tracks_at f)
  unfolding tracks_at
  all_starts =
      made (λ (xs : List Track). in_four (length xs) ++ flat_map track_text xs)
      (AreCounted (IsTrackWith P)) (counted_at (track_at f)) all_tracks track_list tracks_bytes
      AreTracks (λ ts are. track_back ts) (λ xs are. tracks_text xs)
      (λ xs are. subst (AreCounted (IsTrackWith P)) (sym (track_forth xs)) are) (λ ts are. are)
      (counted track_text (IsTrackWith P) (track_at f) track_one)

  -- ---- the parts of each node

  abbrev Two : Type 0
  Two = Node × Node

  two : Reads (λ (p : Two). node_bytes p.0 ++ node_bytes p.1) (λ (p : Two). P p.0 × P p.1)
      (pair_at f f)
  two = both node_bytes P f node_bytes P f nodes nodes

  split_parts : Reads
      (λ (p : Two × List Entry). (node_bytes p.0.0 ++ node_bytes p.0.1) ++ entries_bytes p.1)
      (λ (p : Two × List Entry). (P p.0.0 × P p.0.1) × AreCounted IsWaiting p.1)
      (pair_at (pair_at f f) (counted_at waiting_at))
  split_parts =
      both (λ (p : Two). node_bytes p.0 ++ node_bytes p.1) (λ (p : Two). P p.0 × P p.1)
      (pair_at f f) entries_bytes (AreCounted IsWaiting) (counted_at waiting_at) two all_waiting

  iter_parts : Reads (λ (p : Node × List Entry). node_bytes p.0 ++ entries_bytes p.1)
      (λ (p : Node × List Entry). P p.0 × AreCounted IsWaiting p.1)
      (pair_at f (counted_at waiting_at))
  iter_parts =
      both node_bytes P f entries_bytes (AreCounted IsWaiting) (counted_at waiting_at) nodes
      all_waiting

  compose_parts : Reads (λ (p : Node × Runners). node_bytes p.0 ++ runners_bytes p.1)
      (λ (p : Node × Runners). P p.0 × AreFed p.1) (pair_at f (runners_at f))
  compose_parts = both node_bytes P f runners_bytes AreFed (runners_at f) nodes all_runners

  abbrev SpelledNode : List ℕ → Node → List ℕ → Type 0
  SpelledNode bytes x rest = Takes bytes (node_bytes x) rest × IsNodeWith P x

  node_after : (tag : NodeTag) (bytes : List ℕ) (x : Node) (rest : List ℕ) → IsBytes bytes
      → node_of f (Some tag) bytes ≡ Some (x, rest) → SpelledNode (node_byte tag ∷ bytes) x rest
  unfolding node_of
  node_after kind.Atom bytes x rest are_bytes e =
      arm_takes starts_bytes IsStart starts_at atom node_bytes (IsNodeWith P) 1 (λ xs is. refl)
      (λ xs is. is) starts bytes x rest are_bytes e
  node_after kind.Eps bytes x rest are_bytes e =
      alone_takes eps node_bytes (IsNodeWith P) 2 refl tt bytes x rest are_bytes e
  node_after kind.Or bytes x rest are_bytes e =
      arm_takes (λ (p : Two). node_bytes p.0 ++ node_bytes p.1) (λ (p : Two). P p.0 × P p.1)
      (pair_at f f) (λ p. choice p.0 p.1) node_bytes (IsNodeWith P) 3 (λ p are. refl)
      (λ p are. are) two bytes x rest are_bytes e
  node_after kind.Split bytes x rest are_bytes e =
      arm_takes
      (λ (p : Two × List Entry). (node_bytes p.0.0 ++ node_bytes p.0.1) ++ entries_bytes p.1)
      (λ (p : Two × List Entry). (P p.0.0 × P p.0.1) × AreCounted IsWaiting p.1)
      (pair_at (pair_at f f) (counted_at waiting_at)) (λ p. split p.0.0 p.0.1 p.1) node_bytes
      (IsNodeWith P) 4 (λ p are. refl) (λ p are. (are.0.0, are.0.1, are.1)) split_parts bytes x
      rest are_bytes e
  node_after kind.Iter bytes x rest are_bytes e =
      arm_takes (λ (p : Node × List Entry). node_bytes p.0 ++ entries_bytes p.1)
      (λ (p : Node × List Entry). P p.0 × AreCounted IsWaiting p.1)
      (pair_at f (counted_at waiting_at)) (λ p. iter p.0 p.1) node_bytes (IsNodeWith P) 5
      (λ p are. refl) (λ p are. are) iter_parts bytes x rest are_bytes e
  node_after kind.Combine bytes x rest are_bytes e =
      arm_takes (λ (p : Two). node_bytes p.0 ++ node_bytes p.1) (λ (p : Two). P p.0 × P p.1)
      (pair_at f f) (λ p. combine p.0 p.1) node_bytes (IsNodeWith P) 6 (λ p are. refl)
      (λ p are. are) two bytes x rest are_bytes e
  node_after kind.Apply bytes x rest are_bytes e =
      arm_takes node_bytes P f apply node_bytes (IsNodeWith P) 7 (λ a is. refl) (λ a is. is) nodes
      bytes x rest are_bytes e
  node_after kind.Compose bytes x rest are_bytes e =
      arm_takes (λ (p : Node × Runners). node_bytes p.0 ++ runners_bytes p.1)
      (λ (p : Node × Runners). P p.0 × AreFed p.1) (pair_at f (runners_at f))
      (λ p. compose p.0 p.1) node_bytes (IsNodeWith P) 8 (λ p are. refl) (λ p are. are)
      compose_parts bytes x rest are_bytes e
  node_after kind.Collect bytes x rest are_bytes e =
      arm_takes tracks_bytes AreTracks (tracks_at f) collect node_bytes (IsNodeWith P) 9
      (λ ts are. refl) (λ ts are. are) all_starts bytes x rest are_bytes e

  no_node : (rest : List ℕ) → node_of f None rest ≡ None
  unfolding node_of
  no_node rest = refl

  -- a node after its tag
  abbrev step : List ℕ → Read Node
  step bytes = byte_at bytes >>= λ byte. node_of f (node_tag byte.0) byte.1

  node_again : (x : Node) (rest : List ℕ) → IsNodeWith P x
      → step (node_bytes x ++ rest) ≡ Some (x, rest)
  unfolding node_of
  node_again (atom xs) rest is = arm_again starts_bytes IsStart starts_at atom starts xs rest is
  node_again eps rest is = refl
  node_again (choice a b) rest is =
      arm_again (λ (p : Two). node_bytes p.0 ++ node_bytes p.1) (λ (p : Two). P p.0 × P p.1)
      (pair_at f f) (λ p. choice p.0 p.1) two (a, b) rest is
  node_again (split a b entries) rest is =
      arm_again
      (λ (p : Two × List Entry). (node_bytes p.0.0 ++ node_bytes p.0.1) ++ entries_bytes p.1)
      (λ (p : Two × List Entry). (P p.0.0 × P p.0.1) × AreCounted IsWaiting p.1)
      (pair_at (pair_at f f) (counted_at waiting_at)) (λ p. split p.0.0 p.0.1 p.1) split_parts
      ((a, b), entries) rest ((is.0, is.1), is.2)
  node_again (iter a entries) rest is =
      arm_again (λ (p : Node × List Entry). node_bytes p.0 ++ entries_bytes p.1)
      (λ (p : Node × List Entry). P p.0 × AreCounted IsWaiting p.1)
      (pair_at f (counted_at waiting_at)) (λ p. iter p.0 p.1) iter_parts (a, entries) rest is
  node_again (combine a b) rest is =
      arm_again (λ (p : Two). node_bytes p.0 ++ node_bytes p.1) (λ (p : Two). P p.0 × P p.1)
      (pair_at f f) (λ p. combine p.0 p.1) two (a, b) rest is
  node_again (apply a) rest is = arm_again node_bytes P f apply nodes a rest is
  node_again (compose a rs) rest is =
      arm_again (λ (p : Node × Runners). node_bytes p.0 ++ runners_bytes p.1)
      (λ (p : Node × Runners). P p.0 × AreFed p.1) (pair_at f (runners_at f))
      (λ p. compose p.0 p.1) compose_parts (a, rs) rest is
  node_again (collect ts) rest is =
      arm_again tracks_bytes AreTracks (tracks_at f) collect all_starts ts rest is

  pub one_more : Reads node_bytes (IsNodeWith P) step
  one_more = record {
    takes = λ bytes x rest are_bytes e.
        tagged_takes node_tag node_byte known_node (node_of f) no_node node_bytes (IsNodeWith P)
        node_after bytes x rest are_bytes e;
    again = node_again;
  }

-- a node in which so many nodes are inside one another
pub all_nodes : (levels : ℕ) → Reads node_bytes (IsNode levels) (node_at levels)
unfolding node_at IsNode
all_nodes zero = record {
  takes = λ bytes x rest are_bytes e. absurd (none-some (x, rest) e);
  again = λ x rest is. absurd is;
}
all_nodes (suc levels) = one_more (IsNode levels) (node_at levels) (all_nodes levels)
