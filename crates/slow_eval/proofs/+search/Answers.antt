use Rattle.std.proofs.Common.{rules, ◌≡◌, ◌<◌, ◌≤◌, ◌+◌, ◌++◌, ◌∙◌, None, Some, length, get_or}
use Rattle.std.proofs.Common.{take, drop, take_at, arith, refl, sym, subst, ap}
use Rattle.std.proofs.lemmas.Int.{to_z-of_z}
use Rattle.std.specs.Int.{w64}
use Rattle.std.specs.List.{IsDistinct}
use Rattle.std.specs.Str.{bytes_eq}
use Rattle.expressions.specs.Expressions as values
use Rattle.query_model.specs.Queries.{plain_of}
use Rattle.slow_eval.specs.Answers.{AreAnswers, CanBeRead}
use Rattle.predicates.specs.Plain as predicates
use Rattle.rate_expr.specs.Plain as rates
use Rattle.query_model.specs.Denotation.{Den, projection}
use Rattle.slow_eval.specs.declared.keyed_answers.Keyed.{Keyed}
use Rattle.slow_eval.specs.Projections.{AreKeysOf, IsOnItems}
use Rattle.slow_eval.specs.Rests.{IsTypedWithRest}
use Rattle.slow_eval.specs.Streams.{stream_of}
use Rattle.slow_eval.specs.Tabled.{HaveAnswersAt, keys_in}
use Rattle.slow_eval.proofs.Collecting.{AreKeyed, answers_there, collected, keyed, keyed_all}
use Rattle.slow_eval.proofs.Collecting.{keyed_begin, keyed_more, keys_differ, of_key, tables_by}
use Rattle.slow_eval.proofs.Composing.{composed, of_stream}
use Rattle.slow_eval.proofs.Cutting.{rest_is}
use Rattle.slow_eval.proofs.Iterating.{IsIterated, iter_ended, iter_more, iter_typed}
use Rattle.slow_eval.proofs.Joining.{read_answer}
use Rattle.slow_eval.proofs.Outcomes.{where_ok}
use Rattle.slow_eval.proofs.Reading.{of_piece, of_rest}
use Rattle.slow_eval.proofs.Resting.{joined_count, joined_items, rest_fits, rest_typed}
use Rattle.slow_eval.proofs.Splitting.{IsSplit, split_ended, split_more, split_typed}
use Rattle.slow_eval.proofs.Streaming.{on_rows}
use Rattle.slow_eval.proofs.WellTyped.{both_typed, one_typed}
use Rattle.slow_eval.proofs.+search.Goals as goal

pub search::combine_answers-combined-requires-clause-typed :
    goal.search::combine_answers-combined-requires-clause-typed
search::combine_answers-combined-requires-clause-typed t c = λ place x y left right.
    both_typed (plain_of c.args.first.now.shape) (plain_of c.args.second.now.shape)
    (values.plain_of c.args.expression.now) c.args.word.now c.in_ok-lefts.lefts.items
    c.in_ok-rights.rights.items c.requires c.in_ok-lefts.ensures
    c.in_ok-rights.ensures place x y
    (subst (λ row. get_or row place None ≡ Some x) c.deref.ensures.value left)
    (subst (λ row. get_or row place None ≡ Some y) c.deref-2.ensures.value right)

pub search::apply_answers-applied-requires : goal.search::apply_answers-applied-requires
search::apply_answers-applied-requires t c = λ place x there.
    one_typed (plain_of c.args.inner.now.shape)
    (values.plain_of c.args.expression.now) c.args.word.now
    c.in_ok-answers.answers.items c.requires c.in_ok-answers.ensures place x
    (subst (λ row. get_or row place None ≡ Some x) c.deref.ensures.value there)

pub search::compose_answers-answers_on_fronts-requires-2 :
    goal.search::compose_answers-answers_on_fronts-requires-2
search::compose_answers-answers_on_fronts-requires-2 t c =
    let second = plain_of c.args.right.now.shape in
    let firsts = c.in_ok-firsts.firsts.items in (
      search rules,
      subst (CanBeRead second)
          (ap stream_of (sym c.deref.ensures.value) ∙ sym c.in_ok-stream.ensures
          ∙ sym c.deref-2.ensures.value)
          (of_stream (plain_of c.args.left.now.shape) second c.args.word.now firsts c.requires
          c.in_ok-firsts.ensures),
    )

pub search::compose_answers-returns : goal.search::compose_answers-returns
search::compose_answers-returns t c =
    let second = plain_of c.args.right.now.shape in
    let firsts = c.in_ok-firsts.firsts.items in
    let seconds = c.in_ok-seconds.seconds.items in
    where_ok c.on_stream.result _ _ (λ answers on_firsts.
    composed (plain_of c.args.left.now.shape) second c.args.word.now firsts seconds
    answers.items c.requires c.in_ok-firsts.ensures
    (subst (λ w. AreAnswers second w seconds)
    (c.deref-2.ensures.value ∙ c.in_ok-stream.ensures ∙ ap stream_of c.deref.ensures.value)
    c.in_ok-seconds.ensures)
    (on_rows firsts c.deref-3.result.now seconds c.deref-4.result.now answers.items on_firsts
    c.deref-3.ensures.value c.deref-4.ensures.value)) c.on_stream.ensures

pub collection::answers_for_key-returns-clause-answers :
    goal.collection::answers_for_key-returns-clause-answers
collection::answers_for_key-returns-clause-answers t c =
    let f = plain_of c.args.inner.now.shape in
    let chosen = c.args.columns.now in
    let sync = predicates.plain_of c.args.sync.now in
    let word = c.args.word.now in
    let row = c.in_ok-answers.answers in
    let found = c.in_ok-values.values.items in
    let one : Keyed = record { key = c.in_ok-key.key; answers = row } in
    let same = c.in_ok-key.ensures in
    keyed f chosen sync word one found
    (subst (λ w. AreAnswers f w found)
    (c.deref.ensures.value ∙ c.in_ok-items.ensures
    ∙ ap (λ k. projection chosen sync k word) (c.as_slice.ensures ∙ sym same))
    c.in_ok-values.ensures)
    (subst (λ k. IsOnItems chosen sync k word found row.items) (c.as_slice-2.ensures ∙ sym same)
    (subst (λ fs. IsOnItems chosen sync c.as_slice-2.result.now word fs row.items)
    c.deref-2.ensures.value c.in_ok-answers.ensures))

pub collection::answers_for_keys-keys-init : goal.collection::answers_for_keys-keys-init
collection::answers_for_keys-keys-init t c =
    let f = plain_of c.args.inner.now.shape in
    let sync = predicates.plain_of c.args.sync.now in
    subst (AreKeyed f c.args.columns.now sync c.args.word.now c.args.keys.now 0)
    (sym c.new-all.ensures.items) (keyed_begin f c.args.columns.now sync
    c.args.word.now c.args.keys.now)

pub collection::answers_for_keys-keys-preserved : goal.collection::answers_for_keys-keys-preserved
collection::answers_for_keys-keys-preserved t c =
    let f = plain_of c.args.inner.now.shape in
    let sync = predicates.plain_of c.args.sync.now in
    let keys = c.args.keys.now in
    let at = c.keys.key-index in
    let one = c.in_ok-one.one in
    subst (AreKeyed f c.args.columns.now sync c.args.word.now keys (at + 1))
    (sym c.in_ok-push.ensures.items)
    (keyed_more f c.args.columns.now sync c.args.word.now keys at c.keys.all.items one
    c.keys.invariant (omega arith)
    (subst (λ k. get_or keys at k ≡ k) (sym c.in_ok-one.ensures.key) (sym c.key-item.is))
    c.in_ok-one.ensures.answers)

pub collection::answers_for_keys-returns-clause-keys :
    goal.collection::answers_for_keys-returns-clause-keys
collection::answers_for_keys-returns-clause-keys t c =
    keyed_all (plain_of c.args.inner.now.shape) c.args.columns.now
    (predicates.plain_of c.args.sync.now) c.args.word.now
    c.args.keys.now c.keys.key-index c.keys.all.items c.keys.invariant c.keys-test.false

pub collection::answers_for_keys-returns-clause-answers :
    goal.collection::answers_for_keys-returns-clause-answers
collection::answers_for_keys-returns-clause-answers t c = c.keys.invariant.each

pub collection::collect_answers-answers_for_keys-requires :
    goal.collection::collect_answers-answers_for_keys-requires
collection::collect_answers-answers_for_keys-requires t c = (
  search rules,
  λ key. of_key c.args.columns.now (predicates.plain_of c.args.sync.now)
      (rates.plain_of c.args.rate.now)
      (plain_of c.args.inner.now.shape) key c.args.word.now c.requires,
)

pub collection::collect_answers-tables-requires-clause-distinct :
    goal.collection::collect_answers-tables-requires-clause-distinct
collection::collect_answers-tables-requires-clause-distinct t c =
    let f = plain_of c.args.inner.now.shape in
    let chosen = c.args.columns.now in
    let sync = predicates.plain_of c.args.sync.now in
    let r = rates.plain_of c.args.rate.now in
    let word = c.args.word.now in
    let keys = c.deref.result.now in
    let counts = c.in_ok-found.found.counts.items in
    let are : AreKeysOf chosen sync word keys counts =
    subst (λ ks. AreKeysOf chosen sync word ks counts) (sym c.deref.ensures.value)
    c.in_ok-found.ensures in
    subst (λ xs. IsDistinct bytes_eq (keys_in xs)) (sym c.deref-4.ensures.value)
    (keys_differ f chosen sync r word keys counts c.in_ok-all.all.items c.requires are
    c.in_ok-all.ensures.keys c.in_ok-all.ensures.answers)

pub collection::collect_answers-tables-requires-clause-answers :
    goal.collection::collect_answers-tables-requires-clause-answers
collection::collect_answers-tables-requires-clause-answers t c = λ place inside.
    let f = plain_of c.args.inner.now.shape in
    let chosen = c.args.columns.now in
    let sync = predicates.plain_of c.args.sync.now in
    let r = rates.plain_of c.args.rate.now in
    let word = c.args.word.now in
    let keys = c.deref.result.now in
    let counts = c.in_ok-found.found.counts.items in
    let are : AreKeysOf chosen sync word keys counts =
    subst (λ ks. AreKeysOf chosen sync word ks counts) (sym c.deref.ensures.value)
    c.in_ok-found.ensures in
    let in_rate = c.in_ok-in_rate.in_rate.items in
    let same : length c.deref-2.result.now ≡ length in_rate = ap length c.deref-2.ensures.value in
    let count : length in_rate ≡ length word + 1 = c.in_ok-in_rate.ensures.count in
    subst (HaveAnswersAt place) (sym c.deref-4.ensures.value)
    (answers_there f chosen sync r word keys counts c.in_ok-all.all.items c.requires are
    c.in_ok-all.ensures.keys c.in_ok-all.ensures.answers place (omega arith))

pub collection::collect_answers-returns : goal.collection::collect_answers-returns
collection::collect_answers-returns t c =
    let f = plain_of c.args.inner.now.shape in
    let chosen = c.args.columns.now in
    let sync = predicates.plain_of c.args.sync.now in
    let r = rates.plain_of c.args.rate.now in
    let word = c.args.word.now in
    let keys = c.deref.result.now in
    let counts = c.in_ok-found.found.counts.items in
    let all = c.in_ok-all.all.items in
    let are : AreKeysOf chosen sync word keys counts =
    subst (λ ks. AreKeysOf chosen sync word ks counts) (sym c.deref.ensures.value)
    c.in_ok-found.ensures in
    let in_rate = c.in_ok-in_rate.in_rate.items in
    where_ok c.tables.result _ _ (λ answers tables.
    collected f chosen sync r word keys counts all c.requires are c.in_ok-all.ensures.keys
    c.in_ok-all.ensures.answers in_rate answers.items c.in_ok-in_rate.ensures
    (tables_by in_rate c.deref-2.result.now counts c.deref-3.result.now all c.deref-4.result.now
    answers.items tables
    c.deref-2.ensures.value c.deref-3.ensures.value c.deref-4.ensures.value)) c.tables.ensures

pub pieces::join_rest-join-requires-clause-typed : goal.pieces::join_rest-join-requires-clause-typed
pieces::join_rest-join-requires-clause-typed t c = λ place right there.
    rest_typed (plain_of c.args.query.now.shape) c.args.rest.now
    (values.plain_of c.args.expression.now) c.in-Some.left c.in_ok-rights.rights.items
    (subst (IsTypedWithRest (plain_of c.args.query.now.shape) c.args.rest.now
    (values.plain_of c.args.expression.now))
    c.in-Some.is c.requires.typed)
    c.in_ok-rights.ensures place right
    (subst (λ row. get_or row place None ≡ Some right) c.deref.ensures.value there)

pub pieces::join_piece-join_rest-requires : goal.pieces::join_piece-join_rest-requires
pieces::join_piece-join_rest-requires t c =
    let query = plain_of c.args.query.now.shape in
    let word = c.args.word.now in
    let at = c.args.place in
    let row = c.args.row.now in
    let count : length row ≡ length word + 1 = c.requires.room in
    let inside : at ≤ length word = c.requires.inside in
    let read = read_answer row at c.index-row-place.result c.index-row-place.is (omega arith) in (
      search rules,
      (
        subst (CanBeRead query) (sym (rest_is word at)) c.requires.read,
        (
          rest_fits word at row count inside,
          λ place x y there den. c.requires.typed place x y
              (read ∙ c.index-row-place.is ∙ sym c.in_ok-so_far.ensures ∙ there)
              (subst (λ rest. Den query (take place rest) y) (rest_is word at) den),
        ),
      ),
    )

pub pieces::iter_answers-join_piece-requires : goal.pieces::iter_answers-join_piece-requires
pieces::iter_answers-join_piece-requires t c =
    let f = plain_of c.args.inner.now.shape in
    let e = values.plain_of c.args.expression.now in
    let word = c.args.word.now in
    let at = c.places.place in
    let row = c.places.row.items in
    let so_far : IsIterated f c.args.number e word at row =
    subst (λ n. IsIterated f n e word at row) (to_z-of_z w64 c.args.number c.ranges.number)
    c.places.invariant in
    let count : length row ≡ length word + 1 = so_far.filled.count in
    let first : length c.in_ok-row.row.items ≡ length word + 1 = c.in_ok-row.ensures.count in
    let below : at < length row = omega (arith, c.len-place-end.ensures) in
    let inside : at ≤ length word = omega arith in
    let same = c.deref_mut.ensures.value in (
      search rules,
      (
        of_piece f c.args.number e word at c.requires,
        (
          ap length same ∙ count,
          (
            inside,
            λ place x y there. iter_typed f c.args.number e word at row c.requires so_far
                inside place x y (subst (λ items. get_or items at None ≡ Some x) same there),
          ),
        ),
      ),
    )

pub pieces::iter_answers-places-preserved : goal.pieces::iter_answers-places-preserved
pieces::iter_answers-places-preserved t c =
    let f = plain_of c.args.inner.now.shape in
    let e = values.plain_of c.args.expression.now in
    let word = c.args.word.now in
    let at = c.places.place in
    let row = c.places.row.items in
    let new = c.join_piece.new.row in
    let number_is = to_z-of_z w64 c.args.number c.ranges.number in
    let so_far : IsIterated f c.args.number e word at row =
    subst (λ n. IsIterated f n e word at row) number_is c.places.invariant in
    let count : length row ≡ length word + 1 = so_far.filled.count in
    let first : length c.in_ok-row.row.items ≡ length word + 1 = c.in_ok-row.ensures.count in
    let below : at < length row = omega (arith, c.len-place-end.ensures) in
    let joined = c.in_ok-join_piece.ensures in
    let long = joined_count f (drop at word) e _ at _ new joined ∙ c.deref_mut.ensures.len in
    let after = take c.places.row.len (new ++ drop (length new) row) in
    subst (λ n. IsIterated f n e word (at + 1) after) (sym number_is)
    (subst (IsIterated f c.args.number e word (at + 1))
    (sym (take_at new (drop (length new) row) c.places.row.len long))
    (iter_more f c.args.number e word at row new (get_or row at None) c.requires so_far
    (omega arith) refl
    (joined_items f (drop at word) (drop at word) e _ (get_or row at None) at _ row
    new new joined refl (ap (λ items. get_or items at None) c.deref_mut.ensures.value)
    c.deref_mut.ensures.value refl)))

pub pieces::iter_answers-returns : goal.pieces::iter_answers-returns
pieces::iter_answers-returns t c =
    let f = plain_of c.args.inner.now.shape in
    let e = values.plain_of c.args.expression.now in
    let word = c.args.word.now in
    let at = c.places.place in
    let row = c.places.row.items in
    let so_far : IsIterated f c.args.number e word at row =
    subst (λ n. IsIterated f n e word at row) (to_z-of_z w64 c.args.number c.ranges.number)
    c.places.invariant in
    let first : length c.in_ok-row.row.items ≡ length word + 1 = c.in_ok-row.ensures.count in
    iter_ended f c.args.number e word at row c.requires so_far
    (omega (arith, c.len-place-end.ensures))

pub pieces::split_answers-join_rest-requires : goal.pieces::split_answers-join_rest-requires
pieces::split_answers-join_rest-requires t c =
    let f = plain_of c.args.left.now.shape in
    let g = plain_of c.args.right.now.shape in
    let e = values.plain_of c.args.expression.now in
    let word = c.args.word.now in
    let at = c.places.place in
    let lefts = c.in_ok-lefts.lefts.items in
    let first : length lefts ≡ length word + 1 = c.in_ok-lefts.ensures.count in
    let below : at < length lefts = omega (arith, c.len-place-end.ensures) in
    let read = read_answer lefts at c.index.result.now c.index.ensures below in
    let count : length c.places.row.items ≡ length word + 1 = c.places.invariant.count in (
      search rules,
      (
        subst (CanBeRead g) (sym (rest_is word at)) (of_rest f g e word at c.requires),
        (
          rest_fits word at c.deref_mut.result.now
              (ap length c.deref_mut.ensures.value ∙ count) (omega arith),
          λ place x y there den. split_typed f g e word at lefts c.requires
              c.in_ok-lefts.ensures place x y (read ∙ there)
              (subst (λ rest. Den g (take place rest) y) (rest_is word at) den),
        ),
      ),
    )

pub pieces::split_answers-places-preserved : goal.pieces::split_answers-places-preserved
pieces::split_answers-places-preserved t c =
    let f = plain_of c.args.left.now.shape in
    let g = plain_of c.args.right.now.shape in
    let e = values.plain_of c.args.expression.now in
    let word = c.args.word.now in
    let at = c.places.place in
    let lefts = c.in_ok-lefts.lefts.items in
    let row = c.places.row.items in
    let new = c.join_rest.new.row in
    let below : at < length lefts = omega (arith, c.len-place-end.ensures) in
    let read = read_answer lefts at c.index.result.now c.index.ensures below in
    let joined = c.in_ok-join_rest.ensures in
    let long = joined_count g _ e c.index.result.now at _ new joined ∙ c.deref_mut.ensures.len in
    subst (IsSplit f g e word (at + 1))
    (sym (take_at new (drop (length new) row) c.places.row.len long))
    (split_more f g e word at lefts row new c.index.result.now c.requires c.in_ok-lefts.ensures
    c.places.invariant below
    read
    (joined_items g _ (drop at word) e c.index.result.now c.index.result.now at _ row new new joined
    (rest_is word at) refl c.deref_mut.ensures.value refl))

pub pieces::split_answers-returns : goal.pieces::split_answers-returns
pieces::split_answers-returns t c =
    split_ended (plain_of c.args.left.now.shape) (plain_of c.args.right.now.shape)
    (values.plain_of c.args.expression.now) c.args.word.now c.places.place c.places.row.items
    c.places.invariant (omega (arith, c.in_ok-lefts.ensures.count, c.len-place-end.ensures))
