-- What stands for a word fits.
use Rattle.std.proofs.Common.{◌≡◌, ◌≤◌, ◌<◌, ◌+◌, ◌^◌, ◌∙◌, ◌||◌, ℕ, Bool, true, false, cond, List}
use Rattle.std.proofs.Common.{[]}
use Rattle.std.proofs.Common.{◌∷◌, ◌++◌, Option, Some, None, drop, filter, length, map, refl, sym}
use Rattle.std.proofs.Common.{ap, subst, arith, inl, inr, length-append, length-drop}
use Rattle.std.specs.List.{AllByRecursion, Contains, IsDistinct}
use Rattle.std.specs.Str.{bytes_eq}
use Rattle.std.proofs.lemmas.List.{length-map}
use Rattle.value_ops.specs.declared.value.Value.{Value}
use Rattle.value_ops.specs.declared.value.ValueType.{ValueType}
use Rattle.value_ops.specs.Types.{IsValueOf}
use Rattle.item_schema.specs.declared.column.Column.{Column}
use Rattle.predicates.specs.Predicates.{Predicate}
use Rattle.predicates.specs.Truth.{holds}
use Rattle.rate_expr.specs.After.{IsAfter}
use Rattle.rate_expr.specs.FirstLastFollow.{AreSetsOf}
use Rattle.rate_expr.specs.Rates.{Regex}
use Rattle.rate_expr.specs.Sets.{Sets}
use Rattle.rate_expr.specs.Words.{Word, IsWordOf}
use Rattle.rate_expr.specs.declared.state.State.{State}
use Rattle.rate_expr.specs.declared.state.State.TheVariants.{Initial, At}
use Rattle.rate_expr.proofs.Meetings.{length-preds_of}
use Rattle.rate_expr.proofs.StatesAfter.{after_exists}
use Rattle.query_model.specs.Checked.{CheckedQuery, IsChecked}
use Rattle.query_model.specs.Denotation.{Den, Emits, Outputs, projection}
use Rattle.query_model.specs.Following.{IsAnswer}
use Rattle.query_model.specs.Keys.{key_of}
use Rattle.query_model.specs.Queries as query
use Rattle.query_model.specs.Queries.{Qre, plain_of}
use Rattle.query_model.specs.QueryTypes.{derived_columns, type_of}
use Rattle.query_model.specs.Rules.{Standing, bound, free, IsClear}
use Rattle.query_model.proofs.Keys.{kept_word, keys_are}
use Rattle.query_model.proofs.Typed.{den_typed, outputs_word}
use Rattle.split_eval.specs.Entries.{entry_at, AreDistinct}
use Rattle.split_eval.specs.declared.entry.Entry as held
use Rattle.split_eval.proofs.Found.{first_differs, none_after}
use Rattle.eval_nodes.specs.Represents.{AreWaiting}
use Rattle.eval_nodes.specs.Sound.{IsTyped}
use Rattle.eval_nodes.specs.Starts.{AreApart, AreDifferent, ArePositions}
use Rattle.eval_nodes.proofs.Apart.{apart_first, apart_left, apart_right, apart_same, apart_second}
use Rattle.eval_nodes.proofs.Chains.{chain_apart, chain_clear}
use Rattle.eval_nodes.proofs.Few.{few_live}
use Rattle.eval_nodes.proofs.Members.{first_member, later_member, member_cases, no_member}
use Rattle.eval_nodes.proofs.Pieces.{word_after, word_piece}
use Rattle.eval_nodes.proofs.StoredEntries.{entries_count, only_at}
use Rattle.eval_nodes.proofs.Zips.{part_there}
use Rattle.runner_snapshot.specs.declared.entries.Entry.{Entry}
use Rattle.runner_snapshot.specs.Dumps.{Runner, Node, runner, atom, eps, choice, split, iter}
use Rattle.runner_snapshot.specs.Dumps.{combine, apply, compose, collect, Fed, Keyed, Track}
use Rattle.runner_snapshot.specs.Dumps.{fed_list, keyed_list, position_of, track_list}
use Rattle.eval_snapshot.specs.Fits.{Fits, FitsFed, FitsNode, FitsRunner, FitsState, FitsTrack}
use Rattle.eval_snapshot.specs.Fits.{FitsWaiting, max_position}
use Rattle.eval_snapshot.specs.Means.{IsRunnerAfter, Means, Stands, held_entry}

-- ---- lists

all_each : {A : Type 0} (P : A → Type 0) (xs : List A) → ((x : A) → Contains xs x → P x)
    → AllByRecursion P xs
all_each P [] each = tt
all_each P (x ∷ xs) each =
    (each x (first_member x xs), all_each P xs (λ y there. each y (later_member x y xs there)))

few_chosen : {A : Type 0} (test : Bool) (x : A) (rest : List A) (n : ℕ) → length rest ≤ n
    → length (cond test (x ∷ rest) rest) ≤ n + 1
few_chosen true x rest n few = omega (arith, few)
few_chosen false x rest n few = omega (arith, few)

few_filtered : {A : Type 0} (test : A → Bool) (xs : List A) → length (filter test xs) ≤ length xs
few_filtered test [] = omega arith
few_filtered test (x ∷ xs) =
    let rest = few_chosen (test x) x (filter test xs) (length xs) (few_filtered test xs) in
    omega (arith, rest)

few_projected : (chosen : List ℕ) (sync : Predicate) (key : List ℕ) (word : Word)
    → length (projection chosen sync key word) ≤ length word
few_projected chosen sync key word =
    few_filtered (λ item. holds sync item || bytes_eq (key_of chosen item) key) word

-- the one start of a runner
zero_is : (start : ℕ) → Contains (0 ∷ []) start → 0 ≡ start
zero_is start there = elim (member_cases 0 start [] there) [
  | inl same ↦ same
  | inr more ↦ absurd (no_member start more)
]

one_position : (word : Word) → ArePositions word (0 ∷ [])
one_position word = λ start there. let is = zero_is start there in omega (arith, is)

one_apart : (columns : List Column) (q : Qre) (word : Word) → AreApart columns q word (0 ∷ [])
one_apart columns q word =
    λ i j more is first second a b. sym (zero_is i first) ∙ zero_is j second

-- ---- values that wait

abbrev inners_of : List (held.Entry Value) → List ℕ
inners_of entries = map (λ (entry : held.Entry Value). entry.inner) entries

none_at : (entries : List (held.Entry Value)) (inner : ℕ) → entry_at entries inner ≡ None
    → Contains (inners_of entries) inner → ⊥
none_at [] inner none there = no_member inner there
none_at (x ∷ entries) inner none there =
    elim (member_cases x.inner inner (inners_of entries) there) [
      | inl same ↦ first_differs x entries inner none same
      | inr later ↦ none_at entries inner (none_after x entries inner none) later
    ]

inners_differ : (entries : List (held.Entry Value)) → AreDistinct entries
    → AreDifferent (inners_of entries)
inners_differ [] distinct = tt
inners_differ (x ∷ entries) distinct =
    (none_at entries x.inner distinct.0, inners_differ entries distinct.1)

held_inners : (entries : List Entry) → inners_of (map held_entry entries)
    ≡ map (λ (entry : Entry). entry.inner) entries
held_inners [] = refl
held_inners (x ∷ entries) = ap (λ (xs : List ℕ). x.inner ∷ xs) (held_inners entries)

module _ (columns : List Column) (type : ValueType) (D : Word → Value → Type 0)
    (continues : Word → Type 0) (word : Word) (starts : List ℕ) (entries : List Entry)
    (is : IsWordOf columns word)
    (typed : (piece : Word) (v : Value) → IsWordOf columns piece → D piece v → IsValueOf type v)
    (waiting : AreWaiting D continues word starts (map held_entry entries)) where
  each_fits : AllByRecursion (FitsWaiting type (length word)) entries
  each_fits = all_each (FitsWaiting type (length word)) entries (λ one there.
      let (among, (piece, cut, gives), more) = (waiting.each one.inner one.outer one.value).0
      (only_at (map held_entry entries) (held_entry one) waiting.distinct
      (part_there held_entry entries one there)) in
      let end = cut.end in
      record {
        outer = omega (arith, end);
        inner = cut.inside;
        typed = typed piece one.value
            (word_piece columns word one.outer one.inner piece is cut) gives;
      })

  inners_apart : AreDifferent (map (λ (entry : Entry). entry.inner) entries)
  inners_apart =
      subst AreDifferent (held_inners entries)
      (inners_differ (map held_entry entries) waiting.distinct)

-- ---- values that come out

few_emitted : (D : Word → Value → Type 0) (word items : Word) → Emits D word items
    → length items ≤ 1
few_emitted D word items emits = elim emits [
  | inl (v, den, whole) ↦ let count = ap length whole in omega (arith, count)
  | inr (none, empty) ↦ let count = ap length empty in omega (arith, count)
]

few_outputs : (D : Word → Value → Type 0) (before word items : Word)
    → Outputs D before word items → length items ≤ length word + 1
few_outputs D before [] items outputs =
    let few = few_emitted D before items outputs in omega (arith, few)
few_outputs D before (item ∷ word) items (first, others, emits, outputs, whole) =
    let one = few_emitted D before first emits in
    let rest = few_outputs D (before ++ item ∷ []) word others outputs in
    let both = ap length whole in
    let parts = length-append first others in
    omega (arith, one, rest, both, parts)

-- ---- states

fits_state : (rate : Regex) (sets : Sets) (word : Word) (state : State) → AreSetsOf sets rate
    → IsAfter sets word state → FitsState rate state
fits_state rate sets word Initial of_rate after = tt
fits_state rate sets word (At mask) of_rate after =
    subst (λ (count : ℕ). mask < 2 ^ count) (ap length of_rate.preds ∙ length-preds_of rate)
    (after_exists sets word (At mask) after)

-- ---- runners

typed_answer : (standing : Standing) (columns : List Column) (q : Qre) (word : Word)
    (answer : Option Value) → IsClear standing columns q → IsWordOf columns word
    → IsAnswer q word answer → IsTyped (type_of columns q) answer
typed_answer standing columns q word None clear is answers = tt
typed_answer standing columns q word (Some v) clear is answers =
    den_typed standing columns q word v clear is answers

runner_fits : (standing : Standing) (columns : List Column) (q : Qre) (most : ℕ) (word : Word)
    (one : Runner) → IsClear standing columns q → IsWordOf columns word → length word ≤ most
    → ((node : Node) → Stands columns q node word (0 ∷ [])
    → FitsNode columns q (length word) node)
    → IsRunnerAfter (Stands columns q) q word one
    → FitsRunner most (FitsNode columns q) (type_of columns q) one
runner_fits standing columns q most word (runner position answer node) clear is few step
    (after, answers, stands) = (
      omega (arith, few, after),
      typed_answer standing columns q word answer clear is answers,
      subst (λ (n : ℕ). FitsNode columns q n node) (sym after) (step node stands),
    )

-- ---- nodes

pub node_fits : (standing : Standing) (columns : List Column) (q : Qre) (node : Node) (word : Word)
    (starts : List ℕ) → IsClear standing columns q → IsWordOf columns word
    → ArePositions word starts → AreApart columns q word starts → Stands columns q node word starts
    → FitsNode columns q (length word) node
node_fits standing columns (query.atom pred e) (atom found) word starts clear is positions apart
    stands = (
      stands.0,
      all_each (λ start. start ≤ length word) found (λ start there.
          let end = ((stands.1 start).0 there).1 in omega (arith, end)),
    )
node_fits standing columns (query.eps number) eps word starts clear is positions apart stands = tt
node_fits standing columns (query.choice f g) (choice a b) word starts clear is positions apart
    stands = (
      node_fits bound columns f a word starts clear.0 is positions
          (apart_first columns f g word starts apart) stands.0,
      node_fits bound columns g b word starts clear.1 is positions
          (apart_second columns f g word starts apart) stands.1,
    )
node_fits standing columns (query.split f g e) (split a b entries) word starts clear is positions
    apart stands =
    let (ends, reached, right) = stands.1 in
    let waiting = stands.2 in
    let es = map held_entry entries in
    let few = entries_count columns f g e word starts ends es clear is positions apart reached
    waiting in
    let count = length-map entries held_entry in
    let typed : (piece : Word) (v : Value) → IsWordOf columns piece → Den f piece v
    → IsValueOf (type_of columns f) v =
    λ piece v piece_is den. den_typed bound columns f piece v clear.0 piece_is den in (
      node_fits bound columns f a word starts clear.0 is positions
          (apart_left columns f g e word starts clear.1 apart) stands.0,
      node_fits bound columns g b word ends clear.1 is
          (λ at there. let (start, piece, among, cut, in_f) = (reached at).0 there in cut.inside)
          (apart_right columns f g e word starts ends clear is apart
          (λ at there. let (start, piece, among, cut, in_f) = (reached at).0 there in
          (start, piece, among, cut, in_f)))
          right,
      record {
        few = omega (arith, few, count);
        distinct = inners_apart columns (type_of columns f) (Den f) _ word starts entries is typed
            waiting;
        each = each_fits columns (type_of columns f) (Den f) _ word starts entries is typed waiting;
      },
    )
node_fits standing columns (query.iter f number e) (iter a entries) word starts clear is positions
    apart stands =
    let q = query.iter f number e in
    let (ends, reached, inner) = stands.0 in
    let waiting = stands.1 in
    let two = chain_clear columns f number e clear in
    let apart_two = chain_apart columns f number e word starts apart in
    let es = map held_entry entries in
    let few = entries_count columns q f e word starts ends es two is positions apart_two reached
    waiting in
    let count = length-map entries held_entry in
    let typed : (piece : Word) (v : Value) → IsWordOf columns piece → Den q piece v
    → IsValueOf (type_of columns q) v =
    λ piece v piece_is den. den_typed bound columns q piece v clear piece_is den in (
      node_fits bound columns f a word ends clear.0 is
          (λ at there. let (start, piece, among, cut, in_q) = (reached at).0 there in cut.inside)
          (apart_right columns q f e word starts ends two is apart_two
          (λ at there. let (start, piece, among, cut, in_q) = (reached at).0 there in
          (start, piece, among, cut, in_q)))
          inner,
      record {
        few = omega (arith, few, count);
        distinct = inners_apart columns (type_of columns q) (Den q) _ word starts entries is typed
            waiting;
        each = each_fits columns (type_of columns q) (Den q) _ word starts entries is typed waiting;
      },
    )
node_fits standing columns (query.combine f g e) (combine a b) word starts clear is positions apart
    stands = (
      node_fits bound columns f a word starts clear.0 is positions apart stands.0,
      node_fits bound columns g b word starts clear.1 is positions
          (apart_same columns f g e word starts clear is apart) stands.1,
    )
node_fits standing columns (query.apply f e) (apply a) word starts clear is positions apart
    stands = node_fits bound columns f a word starts clear.0 is positions apart stands
node_fits standing columns (query.compose f g) (compose a runners) word starts clear is positions
    apart stands =
    let inner = derived_columns (type_of columns f) in
    let fs = fed_list runners in
    let fed = stands.1 in
    let few = few_live standing columns f word starts (map (λ (one : Fed). one.outer) fs) clear.0
    is positions apart fed.distinct (λ i there. (fed.there i).0 there) in
    let count = length-map fs (λ (one : Fed). one.outer) in (
      node_fits standing columns f a word starts clear.0 is positions apart stands.0,
      omega (arith, few, count),
      fed.distinct,
      all_each (FitsFed (FitsNode inner g) (type_of inner g) (length word)) fs (λ one there.
          let live = (fed.there one.outer).0 (part_there (λ (x : Fed). x.outer) fs one there) in
          let (out, outputs, follows) = fed.each one there in
          let out_is = outputs_word columns (type_of columns f) (Den f)
          (λ part last part_is den. den_typed standing columns f part last clear.0 part_is den) []
          (drop one.outer word) out tt (word_after columns word one.outer is) outputs in
          let out_few = few_outputs (Den f) [] (drop one.outer word) out outputs in
          let rest = length-drop one.outer word in
          record {
            outer = positions one.outer live.0;
            runner = runner_fits standing inner g (length word + 1) out one.runner clear.1 out_is
                (omega (arith, out_few, rest))
                (λ node it. node_fits standing inner g node out (0 ∷ []) clear.1 out_is
                (one_position out) (one_apart inner g out) it) follows;
          }),
    )
node_fits standing columns (query.collect chosen sync rate f) (collect tracks) word starts clear is
    positions apart (sets, of_rate, tracked) =
    let ts = track_list tracks in
    let few = few_live standing columns (query.collect chosen sync rate f) word starts
    (map (λ (one : Track). one.start) ts) clear is positions apart tracked.distinct
    (λ i there. (tracked.there i).0 there) in
    let count = length-map ts (λ (one : Track). one.start) in
    let fits : (most : ℕ) (kept : Word) (one : Runner) → IsWordOf columns kept → length kept ≤ most
    → IsRunnerAfter (Stands columns f) f kept one
    → FitsRunner most (FitsNode columns f) (type_of columns f) one =
    λ most kept one kept_is small follows. runner_fits bound columns f most kept one clear.0 kept_is
    small
    (λ node it. node_fits bound columns f node kept (0 ∷ []) clear.0 kept_is (one_position kept)
    (one_apart columns f kept) it) follows in (
      omega (arith, few, count),
      tracked.distinct,
      all_each (FitsTrack (FitsNode columns f) (type_of columns f) rate (length word)) ts
          (λ one there.
          let live = (tracked.there one.start).0
          (part_there (λ (x : Track). x.start) ts one there) in
          let it = tracked.each one there in
          let own = it.1 in
          let piece = drop one.start word in
          let piece_is = word_after columns word one.start is in
          let rest = length-drop one.start word in
          let keys = keyed_list one.keys in
          record {
            start = positions one.start live.0;
            state = fits_state rate sets piece one.state of_rate it.0;
            fallback = fits (length word) (filter (holds sync) piece) one.fallback
                (kept_word columns (holds sync) piece piece_is)
                (let small = few_filtered (holds sync) piece in omega (arith, small, rest))
                own.fallback;
            distinct = subst (IsDistinct bytes_eq) (sym own.names)
                (keys_are columns chosen sync piece piece_is).distinct;
            keys = all_each (λ (key : Keyed). FitsRunner (length word) (FitsNode columns f)
                (type_of columns f) key.runner) keys (λ key among.
                fits (length word) (projection chosen sync key.key piece) key.runner
                (kept_word columns _ piece piece_is)
                (let small = few_projected chosen sync key.key piece in
                omega (arith, small, rest))
                (own.each key among));
          }),
    )
node_fits standing columns (query.atom pred e) node word starts clear is positions apart stands =
    absurd stands
node_fits standing columns (query.eps number) node word starts clear is positions apart stands =
    absurd stands
node_fits standing columns (query.choice f g) node word starts clear is positions apart stands =
    absurd stands
node_fits standing columns (query.split f g e) node word starts clear is positions apart stands =
    absurd stands
node_fits standing columns (query.iter f number e) node word starts clear is positions apart
    stands = absurd stands
node_fits standing columns (query.combine f g e) node word starts clear is positions apart stands =
    absurd stands
node_fits standing columns (query.apply f e) node word starts clear is positions apart stands =
    absurd stands
node_fits standing columns (query.compose f g) node word starts clear is positions apart stands =
    absurd stands
node_fits standing columns (query.collect chosen sync rate f) node word starts clear is positions
    apart stands = absurd stands

pub means_fit : (on : CheckedQuery) (dump : Runner) (word : Word) → IsChecked on
    → Means on.layout.columns (plain_of on.main.shape) dump word
    → position_of dump ≤ max_position → Fits on.layout.columns (plain_of on.main.shape) dump
means_fit on (runner position answer node) word checked (is, (after, answers, stands)) few =
    let columns = on.layout.columns in
    let q = plain_of on.main.shape in (
      few,
      typed_answer free columns q word answer checked.clear is answers,
      subst (λ (n : ℕ). FitsNode columns q n node) (sym after)
          (node_fits free columns q node word (0 ∷ []) checked.clear is (one_position word)
          (one_apart columns q word) stands),
    )
