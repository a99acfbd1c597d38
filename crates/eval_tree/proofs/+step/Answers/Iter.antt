-- An iteration.
use Rattle.std.proofs.Common.{Bool, Ok, Some, ap, refl, rules, subst, sym, ℕ, ◌≡◌}
use Rattle.std.proofs.lemmas.Bool.{false≢true}
use Rattle.split_eval.specs.Entries.{Contents, live_entries}
use Rattle.value_ops.specs.declared.value.Value.{Value}
use Rattle.expressions.specs.Expressions as values
use Rattle.value_ops.specs.Values.{IsNoTable}
use Rattle.query_model.specs.Queries.{iter, plain_of}
use Rattle.eval_nodes.specs.Holdings.{iter_held}
use Rattle.eval_nodes.specs.Live.{live_of}
use Rattle.eval_nodes.specs.Plain.{holding_of, seen_of}
use Rattle.eval_nodes.specs.declared.node.State.TheViews.{out-State, roll-State}
use Rattle.eval_nodes.proofs.Same.{where_ok}
use Rattle.step_laws.specs.declared.hit.Hit.{Hit}
use Rattle.step_laws.specs.Lefts.{IsPut}
use Rattle.step_laws.specs.Operands.{CanEnd, EndsNumbers, Continues, HasEnded}
use Rattle.step_laws.proofs.Arms.{can_start_as, can_step_as, ended_as, live_as, number_hit}
use Rattle.step_laws.proofs.Arms.{numbers_start_as, numbers_step_as, soundly_stepped_as}
use Rattle.step_laws.proofs.Arms.{start_fails, started_as, started_from, step_fails, stepped_as}
use Rattle.step_laws.proofs.Arms.{stepped_from, when_stepped}
use Rattle.step_laws.proofs.Elsewhere.{elsewhere, fresh_elsewhere}
use Rattle.step_laws.proofs.FoldsAllowed.{start_next, start_piece, step_piece, stepped_iter}
use Rattle.step_laws.proofs.IterArms.{iter_starts, iter_steps_none, iter_steps_some}
use Rattle.step_laws.proofs.NumbersAllowed.{piece_begins, piece_starts, piece_steps}
use Rattle.step_laws.proofs.NumbersTyped.{ended_no_table, ended_piece}
use Rattle.eval_tree.proofs.+step.Goals as goal
use Rattle.eval_tree.proofs.+step.Goals.{iter::step_iter-After-keep}

pub iter::start_iter-start_only-requires : goal.iter::start_iter-start_only-requires
iter::start_iter-start_only-requires t c =
    let s = c.in-Iter in
    let f = plain_of c.args.inner.now.shape in
    let e = c.requires.can.0 in
    let a = holding_of s.a.value.state in (
      search rules,
      can_start_as _ _ _ _ c.args.at refl (search rules)
          (start_piece seen_of f c.args.number e a s.so_far c.args.at
          (can_start_as _ _ _ _ c.args.at refl (sym (ap holding_of s.is)) c.requires.can.1)),
    )

pub iter::start_iter-returns : goal.iter::start_iter-returns
unfolding roll-State out-State denote.Hole.Carrier.roll denote.Hole.Carrier.out
iter::start_iter-returns t c =
    let s = c.in-Iter in
    let first = number_hit _ _ _ c.ranges.number c.of_number-begun.ensures in
    let put = subst (λ (hit : Hit). IsPut c.is_live.result s.so_far
    (record { inner = c.args.at; outer = hit.start; value = hit.value })
    c.continue_if_new.new.so_far)
    first (rw s.is at c.in_ok-continue_if_new-in-Iter.ensures.put) in
    λ fold. started_as _ _ _ _ _ _ c.args.at _ _ refl (ap holding_of s.is) refl
    (ap (λ (hit : Hit). Ok (Some hit)) first)
    (iter_starts (plain_of c.args.inner.now.shape) c.args.number fold (holding_of s.a.value.state)
    (holding_of c.start_only.new.node.state) s.so_far c.continue_if_new.new.so_far c.args.at
    c.in_ok-start_only-in-Iter.ensures.0 c.is_live.result
    (started_from _ _ (holding_of c.deref_mut.result.now.state) (holding_of s.a.value.state) _
    c.args.at _ refl (search rules) c.in_ok-start_only-in-Iter.ensures.1)
    (live_as c.args.inner.now c.args.inner.now _ _ c.args.at c.is_live.result refl c.deref.ensures
    c.is_live.ensures.read) put)

pub iter::start_iter-returns-in_err-start_only-in-Iter :
    goal.iter::start_iter-returns-in_err-start_only-in-Iter
iter::start_iter-returns-in_err-start_only-in-Iter t c =
    let s = c.in-Iter in
    let same : holding_of s.a.value.state ≡ holding_of c.deref_mut.result.now.state =
    search rules in
    λ fold. start_fails _ _ _ _ _ c.args.at _ (search rules) refl (ap holding_of s.is)
    (λ free. false≢true (c.in_err-start_only-in-Iter.ensures.1.no_memory (numbers_start_as _ _ _ _
    c.args.at refl (sym same)
    (piece_starts seen_of (plain_of c.args.inner.now.shape) c.args.number fold
    (holding_of s.a.value.state) s.so_far c.args.at free))))

pub iter::start_iter-returns-in_err-continue_if_new-in-Iter :
    goal.iter::start_iter-returns-in_err-continue_if_new-in-Iter
iter::start_iter-returns-in_err-continue_if_new-in-Iter t c = λ fold.
    start_fails _ _ _ _ _ c.args.at _ (search rules) refl refl
    (λ free. false≢true (c.in_err-continue_if_new-in-Iter.ensures.no_memory
    (subst (λ (hit : Hit). IsNoTable hit.value) (sym c.of_number-begun.ensures) tt)))

pub iter::step_iter-step_and_end-requires : goal.iter::step_iter-step_and_end-requires
unfolding out-State denote.Hole.Carrier.out
iter::step_iter-step_and_end-requires t c =
    let s = c.in-Iter in
    let f = plain_of c.args.inner.now.shape in
    let e = values.plain_of c.args.expression.now in
    let number = c.requires.can.0 in
    let a = holding_of s.a.value.state in
    let can = can_step_as _ (iter f number e) _ (iter_held a s.so_far) c.args.now
    c.args.item.now refl (sym (ap holding_of s.is)) c.requires.can.1 in
    let same : a ≡ holding_of c.deref_mut.result.now.state = search rules in (
      search rules,
      (
        c.requires.none,
        subst (λ (held : Contents Value). CanEnd seen_of f e held.entries
            (holding_of c.deref_mut.result.now.state)
            c.args.now c.args.item.now) (sym (rw s.is at c.as_pending-held.ensures))
            (record {
              can = can_step_as _ _ _ _ c.args.now c.args.item.now refl (sym same)
                  (step_piece seen_of f number e a s.so_far c.args.now c.args.item.now can);
              typed = λ new piece first. stepped_iter seen_of f number e a new s.so_far c.args.now
                  c.args.item.now piece can
                  (soundly_stepped_as _ _ _ a _ _ c.args.now c.args.item.now _ _ refl same
                  refl refl first);
            }),
      ),
    )

-- the piece with the value so far that it continues from
piece_ended : (t : ℕ) (c : iter::step_iter-After-keep t)
    → HasEnded seen_of (plain_of c.args.inner.now.shape) (values.plain_of c.args.expression.now)
    c.in-Iter.so_far.entries (holding_of c.in-Iter.a.value.state) c.args.now c.args.item.now
    (holding_of c.step_and_end.new.node.state) c.step_and_end.new.hit
unfolding roll-State out-State denote.Hole.Carrier.roll denote.Hole.Carrier.out
piece_ended t c =
    let s = c.in-Iter in
    let ended = c.in_ok-step_and_end-in-Iter.ensures.ended in
    record {
      right = ended.right;
      stepped = stepped_from _ _ (holding_of c.deref_mut.result.now.state)
          (holding_of s.a.value.state) _ c.args.now c.args.item.now _ refl
          (search rules) ended.stepped;
      ended = ended_as (values.plain_of c.args.expression.now) _ s.so_far ended.right _ _
          (rw s.is at c.as_pending-held.ensures) refl ended.ended;
    }

-- the values so far that are kept
chain_kept : (t : ℕ) (c : iter::step_iter-After-keep t)
    → c.keep.new.self.entries
    ≡ live_entries (elsewhere c.args.now (live_of (plain_of c.args.inner.now.shape)
    (holding_of c.step_and_end.new.node.state))) c.in-Iter.so_far.entries
unfolding roll-State out-State denote.Hole.Carrier.roll denote.Hole.Carrier.out
chain_kept t c =
    (rw c.in-Iter.is at c.keep.ensures.entries)
    (elsewhere c.args.now
    (live_of (plain_of c.args.inner.now.shape) (holding_of c.step_and_end.new.node.state)))
    (λ start answer is. search rules)

pub iter::step_iter-next_piece-requires : goal.iter::step_iter-next_piece-requires
iter::step_iter-next_piece-requires t c =
    let s = c.in-Iter in
    let f = plain_of c.args.inner.now.shape in
    let e = values.plain_of c.args.expression.now in
    let a = holding_of s.a.value.state in
    let next = holding_of c.step_and_end.new.node.state in
    let after = (goal.at.iter::step_iter-next_piece-requires t c).After-keep in
    let piece = piece_ended t after in (
      search rules,
      (
        can_start_as _ _ _ _ c.args.now refl (search rules)
            (start_next seen_of f c.requires.can.0 e a next s.so_far c.args.now
            c.args.item.now piece.right
            (can_step_as _ _ _ _ c.args.now c.args.item.now refl (sym (ap holding_of s.is))
            c.requires.can.1)
            piece.stepped.sound),
        fresh_elsewhere c.args.now (live_of f next) s.so_far c.keep.new.self (chain_kept t after),
      ),
    )

pub iter::step_iter-returns-in-Some : goal.iter::step_iter-returns-in-Some
unfolding roll-State out-State denote.Hole.Carrier.roll denote.Hole.Carrier.out
iter::step_iter-returns-in-Some t c = λ number.
    let s = c.in-Iter in
    let f = plain_of c.args.inner.now.shape in
    let e = values.plain_of c.args.expression.now in
    let a = holding_of s.a.value.state in
    let node = holding_of c.deref_mut-in-Some.result.now.state in
    let next = holding_of c.step_and_end.new.node.state in
    let last = holding_of c.next_piece.new.a.state in
    let after = (goal.at.iter::step_iter-returns-in-Some t c).After-keep in
    let piece = piece_ended t after in
    let same : next ≡ node = search rules in
    let ends = ended_as e s.so_far s.so_far piece.right _ _ refl c.in-Some.is piece.ended in
    when_stepped _ _ _ c.args.now c.args.item.now c.next_piece.result c.step_and_end.new.hit
    (Continues seen_of f c.in-Some.found node c.keep.new.self c.args.now last
    c.next_piece.new.so_far)
    (λ on. stepped_as _ _ _ _ _ _ c.args.now c.args.item.now _ _ refl (ap holding_of s.is) refl
    (ap Ok c.in-Some.is)
    (iter_steps_some f number e a next last s.so_far c.keep.new.self c.next_piece.new.so_far
    c.args.now c.args.item.now piece.right on.begun c.in-Some.found _ piece.stepped ends
    (chain_kept t after) (rw s.is at c.keep.ensures.room)
    (started_from _ _ node next _ c.args.now _ refl same on.started) refl on.put))
    c.next_piece.ensures.continues
    (λ free. let numbers = numbers_step_as _ _ _ _ c.args.now c.args.item.now refl
    (sym (ap holding_of s.is)) free in
    c.next_piece.ensures.no_memory (numbers_start_as _ _ _ _ c.args.now refl (sym same)
    (piece_begins seen_of f number e a next s.so_far c.args.now c.args.item.now piece.right numbers
    piece.stepped.sound))
    (ended_no_table seen_of f number e a next s.so_far c.args.now c.args.item.now piece.right
    c.in-Some.found numbers piece.stepped.sound ends))

pub iter::step_iter-returns-in-None : goal.iter::step_iter-returns-in-None
unfolding roll-State out-State denote.Hole.Carrier.roll denote.Hole.Carrier.out
iter::step_iter-returns-in-None t c =
    let s = c.in-Iter in
    let after = (goal.at.iter::step_iter-returns-in-None t c).After-keep in
    let e = values.plain_of c.args.expression.now in
    let piece = piece_ended t after in
    λ number. stepped_as _ _ _ _ _ _ c.args.now c.args.item.now _ _ refl (ap holding_of s.is) refl
    (ap Ok c.in-None.is)
    (iter_steps_none (plain_of c.args.inner.now.shape) number e (holding_of s.a.value.state)
    (holding_of c.step_and_end.new.node.state) s.so_far c.keep.new.self c.args.now
    c.args.item.now piece.right piece.stepped
    (ended_as e s.so_far s.so_far piece.right _ _ refl c.in-None.is piece.ended)
    (chain_kept t after) (rw s.is at c.keep.ensures.room))

pub iter::step_iter-returns-in_err-step_and_end-in-Iter :
    goal.iter::step_iter-returns-in_err-step_and_end-in-Iter
unfolding out-State denote.Hole.Carrier.out
iter::step_iter-returns-in_err-step_and_end-in-Iter t c =
    let s = c.in-Iter in
    let f = plain_of c.args.inner.now.shape in
    let e = values.plain_of c.args.expression.now in
    let a = holding_of s.a.value.state in
    let same : a ≡ holding_of c.deref_mut.result.now.state = search rules in
    λ number. step_fails _ _ _ _ _ c.args.now c.args.item.now _ (search rules) refl
    (ap holding_of s.is) (λ free. false≢true (c.in_err-step_and_end-in-Iter.ensures.no_memory
    (subst (λ (held : Contents Value). EndsNumbers seen_of f e held.entries
    (holding_of c.deref_mut.result.now.state)
    c.args.now c.args.item.now) (sym (rw s.is at c.as_pending-held.ensures))
    (record {
      steps = numbers_step_as _ _ _ _ c.args.now c.args.item.now refl (sym same)
          (piece_steps seen_of f number e a s.so_far c.args.now c.args.item.now free);
      ends = λ new piece first. ended_piece seen_of f number e a new s.so_far c.args.now
          c.args.item.now piece free
          (soundly_stepped_as _ _ _ a _ _ c.args.now c.args.item.now _ _ refl same refl refl first);
    }))))

pub iter::next_piece-start_only-requires : goal.iter::next_piece-start_only-requires
iter::next_piece-start_only-requires t c = (search rules, c.requires.can)

pub iter::next_piece-returns-clause-continues : goal.iter::next_piece-returns-clause-continues
iter::next_piece-returns-clause-continues t c =
    where_ok c.continue_from.result _ _ (λ done put. record {
      begun = c.in_ok-start_only.ensures.0;
      started = c.in_ok-start_only.ensures.1;
      put = subst (λ (live : Bool). IsPut live c.args.so_far.now
          (record { inner = c.args.at; outer = c.args.hit.now.start; value = c.args.hit.now.value })
          c.continue_from.new.so_far)
          c.is_live.ensures.read put;
    }) c.continue_from.ensures.put

pub iter::next_piece-returns-in_err-start_only-clause-no_memory :
    goal.iter::next_piece-returns-in_err-start_only-clause-no_memory
iter::next_piece-returns-in_err-start_only-clause-no_memory t c = λ free none.
    absurd (false≢true (c.in_err-start_only.ensures.1.no_memory free))
