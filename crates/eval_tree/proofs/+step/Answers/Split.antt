-- A split.
use Rattle.std.proofs.Common.{Bool, Ok, Option, ap, refl, rules, subst, sym, ◌≡◌}
use Rattle.std.proofs.lemmas.Bool.{false≢true}
use Rattle.std.specs.Option.{option_or}
use Rattle.expressions.specs.Expressions as values
use Rattle.query_model.specs.Queries.{plain_of, split}
use Rattle.eval_nodes.specs.Holdings.{split_held}
use Rattle.eval_nodes.specs.Live.{live_of}
use Rattle.eval_nodes.specs.Plain.{holding_of, seen_of}
use Rattle.eval_nodes.specs.declared.node.State.TheViews.{out-State, roll-State}
use Rattle.step_laws.specs.declared.hit.Hit.{Hit}
use Rattle.step_laws.specs.Lefts.{IsPut}
use Rattle.step_laws.specs.Operands.{HasJoined}
use Rattle.step_laws.proofs.Allowed.{start_after, start_right, started_split, step_right}
use Rattle.step_laws.proofs.Allowed.{stepped_ended, stepped_joined}
use Rattle.step_laws.proofs.Arms.{both_ok, can_start_as, can_step_as, live_as, numbers_start_as}
use Rattle.step_laws.proofs.Arms.{numbers_step_as, soundly_started_as, soundly_stepped_as}
use Rattle.step_laws.proofs.Arms.{start_fails, started_as, started_from, step_fails, stepped_as}
use Rattle.step_laws.proofs.Arms.{stepped_from, when_stepped}
use Rattle.step_laws.proofs.Elsewhere.{elsewhere, fresh_elsewhere}
use Rattle.step_laws.proofs.NumbersAllowed.{left_starts, left_steps, right_begins, right_starts}
use Rattle.step_laws.proofs.NumbersAllowed.{right_steps}
use Rattle.step_laws.proofs.NumbersTyped.{ended_stepped, joined_started, joined_stepped}
use Rattle.step_laws.proofs.SplitArms.{split_starts, split_starts_none, split_steps_none}
use Rattle.step_laws.proofs.SplitArms.{split_steps_some}
use Rattle.eval_tree.proofs.+step.Goals as goal

pub split::start_split-start_and_join-requires : goal.split::start_split-start_and_join-requires
split::start_split-start_and_join-requires t c =
    let s = c.in-Split in
    let f = plain_of c.args.first.now.shape in
    let g = plain_of c.args.second.now.shape in
    let e = values.plain_of c.args.expression.now in
    let a = holding_of s.a.value.state in
    let b = holding_of s.b.value.state in
    let can = can_start_as _ (split f g e) _ (split_held a b s.held) c.args.at refl
    (sym (ap holding_of s.is)) c.requires.can in
    let same : b ≡ holding_of c.deref_mut-in-Some.result.now.state = search rules in (
      search rules,
      (
        c.requires.none,
        record {
          can = can_start_as _ _ _ _ c.args.at refl (sym same)
              (start_right seen_of f g e a b s.held c.args.at can);
          typed = λ new right second. started_split seen_of f g e a b
              (holding_of c.start_into.new.node.state) new s.held c.args.at c.in-Some.left right can
              (soundly_started_as _ _ (holding_of c.deref_mut.result.now.state) a _ _ c.args.at _ _
              refl (search rules) refl (sym c.in-Some.is) c.in_ok-start_into-in-Split.ensures.sound)
              (soundly_started_as _ _ _ b _ _ c.args.at _ _ refl same refl refl second);
        },
      ),
    )

pub split::start_split-returns-in_ok-start_and_join-in-Some :
    goal.split::start_split-returns-in_ok-start_and_join-in-Some
unfolding roll-State out-State denote.Hole.Carrier.roll denote.Hole.Carrier.out
split::start_split-returns-in_ok-start_and_join-in-Some t c =
    let s = c.in-Split in
    let right = c.in_ok-start_and_join-in-Some.ensures.joined in
    started_as _ _ _ _ _ _ c.args.at _ _ refl (ap holding_of s.is) refl refl
    (split_starts (plain_of c.args.first.now.shape) (plain_of c.args.second.now.shape)
    (values.plain_of c.args.expression.now) (holding_of s.a.value.state)
    (holding_of s.b.value.state) (holding_of c.start_into.new.node.state)
    (holding_of c.start_and_join.new.node.state) s.held c.wait_if_new.new.held
    c.args.at c.in-Some.left right.right c.start_and_join.new.hit c.is_live.result
    (started_as _ _ (holding_of c.deref_mut.result.now.state) (holding_of s.a.value.state) _ _
    c.args.at _ _ refl (search rules) refl (ap Ok (sym c.in-Some.is))
    c.in_ok-start_into-in-Split.ensures)
    (started_from _ _ (holding_of c.deref_mut-in-Some.result.now.state)
    (holding_of s.b.value.state) _ c.args.at _ refl (search rules) right.started)
    right.joined (live_as c.args.second.now c.args.second.now _ _ c.args.at c.is_live.result refl
    c.deref.ensures c.is_live.ensures.read)
    (rw s.is at c.wait_if_new.ensures))

pub split::start_split-returns-in-None : goal.split::start_split-returns-in-None
unfolding roll-State out-State denote.Hole.Carrier.roll denote.Hole.Carrier.out
split::start_split-returns-in-None t c =
    let s = c.in-Split in
    started_as _ _ _ _ (split_held (holding_of c.start_into.new.node.state)
    (holding_of s.b.value.state) s.held) _ c.args.at
    _ _ refl (ap holding_of s.is) (rw s.is refl) (ap Ok c.requires.none)
    (split_starts_none (plain_of c.args.first.now.shape) (plain_of c.args.second.now.shape)
    (values.plain_of c.args.expression.now) (holding_of s.a.value.state)
    (holding_of s.b.value.state) (holding_of c.start_into.new.node.state)
    (holding_of s.b.value.state) s.held c.args.at
    (started_as _ _ (holding_of c.deref_mut.result.now.state) (holding_of s.a.value.state) _ _
    c.args.at _ _ refl (search rules) refl (ap Ok (sym c.in-None.is))
    c.in_ok-start_into-in-Split.ensures))

pub split::start_split-returns-in_err-start_into-in-Split :
    goal.split::start_split-returns-in_err-start_into-in-Split
split::start_split-returns-in_err-start_into-in-Split t c =
    let s = c.in-Split in
    let same : holding_of s.a.value.state ≡ holding_of c.deref_mut.result.now.state =
    search rules in
    start_fails _ _ _ _ _ c.args.at _ (search rules) refl (ap holding_of s.is)
    (λ free. false≢true (c.in_err-start_into-in-Split.ensures.no_memory (numbers_start_as _ _ _ _
    c.args.at refl (sym same)
    (left_starts seen_of (plain_of c.args.first.now.shape) (plain_of c.args.second.now.shape)
    (values.plain_of c.args.expression.now) (holding_of s.a.value.state)
    (holding_of s.b.value.state) s.held c.args.at free))))

pub split::start_split-returns-in_err-start_and_join-in-Some :
    goal.split::start_split-returns-in_err-start_and_join-in-Some
split::start_split-returns-in_err-start_and_join-in-Some t c =
    let s = c.in-Split in
    let f = plain_of c.args.first.now.shape in
    let g = plain_of c.args.second.now.shape in
    let e = values.plain_of c.args.expression.now in
    let a = holding_of s.a.value.state in
    let b = holding_of s.b.value.state in
    let same : b ≡ holding_of c.deref_mut-in-Some.result.now.state = search rules in
    start_fails _ _ _ _ _ c.args.at _ (search rules) refl (ap holding_of s.is)
    (λ free. false≢true (c.in_err-start_and_join-in-Some.ensures.no_memory (record {
      starts = numbers_start_as _ _ _ _ c.args.at refl (sym same)
          (right_starts seen_of f g e a b s.held c.args.at free);
      joins = λ new right second. joined_started seen_of f g e a b
          (holding_of c.start_into.new.node.state) new s.held c.args.at c.in-Some.left right free
          (soundly_started_as _ _ (holding_of c.deref_mut.result.now.state) a _ _ c.args.at _ _ refl
          (search rules) refl (sym c.in-Some.is) c.in_ok-start_into-in-Split.ensures.sound)
          (soundly_started_as _ _ _ b _ _ c.args.at _ _ refl same refl refl second);
    })))

pub split::step_split-end_right-requires : goal.split::step_split-end_right-requires
unfolding out-State denote.Hole.Carrier.out
split::step_split-end_right-requires t c =
    let s = c.in-Split in
    let f = plain_of c.args.first.now.shape in
    let g = plain_of c.args.second.now.shape in
    let e = values.plain_of c.args.expression.now in
    let a = holding_of s.a.value.state in
    let b = holding_of s.b.value.state in
    let can = can_step_as _ (split f g e) _ (split_held a b s.held) c.args.now c.args.item.now refl
    (sym (ap holding_of s.is)) c.requires.can in
    let same : b ≡ holding_of c.deref_mut.result.now.state = search rules in (
      search rules,
      (
        c.requires.none,
        rw s.is (record {
          can = can_step_as _ _ _ _ c.args.now c.args.item.now refl (sym same)
              (step_right seen_of f g e a b s.held c.args.now c.args.item.now can);
          typed = λ new right second. stepped_ended seen_of f g e a b new s.held c.args.now
              c.args.item.now right can
              (soundly_stepped_as _ _ _ b _ _ c.args.now c.args.item.now _ _ refl same
              refl refl second);
        }),
      ),
    )

pub split::step_split-begin_right-requires : goal.split::step_split-begin_right-requires
unfolding out-State denote.Hole.Carrier.out
split::step_split-begin_right-requires t c =
    let s = c.in-Split in
    let f = plain_of c.args.first.now.shape in
    let g = plain_of c.args.second.now.shape in
    let e = values.plain_of c.args.expression.now in
    let a = holding_of s.a.value.state in
    let b = holding_of s.b.value.state in
    let next = holding_of c.end_right.new.b.state in
    let ended = c.in_ok-end_right-in-Split.ensures.ended in
    let can = can_step_as _ (split f g e) _ (split_held a b s.held) c.args.now c.args.item.now refl
    (sym (ap holding_of s.is)) c.requires.can in
    let same : next ≡ holding_of c.deref_mut-in-Some.result.now.state = search rules in
    let second = soundly_stepped_as _ _ (holding_of c.deref_mut.result.now.state)
    b _ next c.args.now c.args.item.now _ _ refl (search rules) refl refl ended.stepped.sound in (
      search rules,
      (
        record {
          can = can_start_as _ _ _ _ c.args.now refl (sym same)
              (start_after seen_of f g e a b next s.held c.args.now c.args.item.now
              ended.right can second);
          typed = λ new right third. stepped_joined seen_of f g e a b
              (holding_of c.step_into.new.node.state) next new s.held c.args.now c.args.item.now
              c.in-Some.left ended.right right can
              (soundly_stepped_as _ _ (holding_of c.deref_mut-in-Split.result.now.state)
              a _ _ c.args.now c.args.item.now _ _ refl (search rules) refl (sym c.in-Some.is)
              c.in_ok-step_into-in-Split.ensures.sound)
              second (soundly_started_as _ _ _ next _ _ c.args.now _ _ refl same refl refl third);
        },
        fresh_elsewhere c.args.now (live_of g next) s.held c.end_right.new.held
            (rw s.is at c.in_ok-end_right-in-Split.ensures.kept.0),
      ),
    )

pub split::step_split-returns-in-Some : goal.split::step_split-returns-in-Some
unfolding roll-State out-State denote.Hole.Carrier.roll denote.Hole.Carrier.out
split::step_split-returns-in-Some t c =
    let s = c.in-Split in
    let f = plain_of c.args.first.now.shape in
    let g = plain_of c.args.second.now.shape in
    let e = values.plain_of c.args.expression.now in
    let a = holding_of s.a.value.state in
    let b = holding_of s.b.value.state in
    let next = holding_of c.end_right.new.b.state in
    let node = holding_of c.deref_mut-in-Some.result.now.state in
    let last = holding_of c.begin_right.new.b.state in
    let left = c.in-Some.left in
    let ended = c.in_ok-end_right-in-Split.ensures.ended in
    let same : next ≡ node = search rules in
    let second = soundly_stepped_as _ _ (holding_of c.deref_mut.result.now.state)
    b _ next c.args.now c.args.item.now _ _ refl (search rules) refl refl ended.stepped.sound in
    when_stepped _ _ _ c.args.now c.args.item.now c.begin_right.result c.begin_right.new.hit
    (((begun : Option Hit) × HasJoined seen_of g e left node c.args.now last begun
    × (c.begin_right.new.hit ≡ option_or c.end_right.new.hit begun))
    × IsPut (live_of g last c.args.now) c.end_right.new.held
    (record { inner = c.args.now; outer = left.start; value = left.value }) c.begin_right.new.held)
    (λ is. stepped_as _ _ _ _ _ _ c.args.now c.args.item.now _ _ refl (ap holding_of s.is)
    refl (ap Ok is.0.2)
    (split_steps_some f g e a b (holding_of c.step_into.new.node.state) next last s.held
    c.end_right.new.held c.begin_right.new.held c.args.now c.args.item.now left ended.right
    is.0.1.right c.end_right.new.hit is.0.0 _
    (stepped_as _ _ (holding_of c.deref_mut-in-Split.result.now.state) a _ _ c.args.now
    c.args.item.now _ _ refl (search rules) refl (ap Ok (sym c.in-Some.is))
    c.in_ok-step_into-in-Split.ensures)
    (stepped_from _ _ (holding_of c.deref_mut.result.now.state) b _ c.args.now c.args.item.now _
    refl (search rules) ended.stepped)
    (rw s.is at ended.ended) (rw s.is at c.in_ok-end_right-in-Split.ensures.kept.0)
    (rw s.is at c.in_ok-end_right-in-Split.ensures.kept.1)
    (started_from _ _ node next _ c.args.now _ refl same is.0.1.started)
    is.0.1.joined refl is.1))
    (both_ok c.begin_right.result _ _ c.begin_right.ensures.joined c.begin_right.ensures.waits)
    (λ free. let numbers = numbers_step_as _ _ _ _ c.args.now c.args.item.now refl
    (sym (ap holding_of s.is)) free in
    c.begin_right.ensures.no_memory (record {
      starts = numbers_start_as _ _ _ _ c.args.now refl (sym same)
          (right_begins seen_of f g e a b next s.held c.args.now c.args.item.now ended.right
          numbers second);
      joins = λ new right third. joined_stepped seen_of f g e a b
          (holding_of c.step_into.new.node.state) next new s.held
          c.args.now c.args.item.now left ended.right right numbers
          (soundly_stepped_as _ _ (holding_of c.deref_mut-in-Split.result.now.state) a _ _
          c.args.now c.args.item.now _ _ refl (search rules) refl (sym c.in-Some.is)
          c.in_ok-step_into-in-Split.ensures.sound)
          second (soundly_started_as _ _ _ next _ _ c.args.now _ _ refl same refl refl third);
    }))

pub split::step_split-returns-in-None : goal.split::step_split-returns-in-None
unfolding roll-State out-State denote.Hole.Carrier.roll denote.Hole.Carrier.out
split::step_split-returns-in-None t c =
    let s = c.in-Split in
    let ended = c.in_ok-end_right-in-Split.ensures.ended in
    stepped_as _ _ _ _ _ _ c.args.now c.args.item.now _ _ refl (ap holding_of s.is) refl refl
    (split_steps_none (plain_of c.args.first.now.shape) (plain_of c.args.second.now.shape)
    (values.plain_of c.args.expression.now) (holding_of s.a.value.state)
    (holding_of s.b.value.state) (holding_of c.step_into.new.node.state)
    (holding_of c.end_right.new.b.state) s.held c.end_right.new.held c.args.now
    c.args.item.now ended.right c.end_right.new.hit
    (stepped_as _ _ (holding_of c.deref_mut-in-Split.result.now.state)
    (holding_of s.a.value.state) _ _ c.args.now c.args.item.now _ _ refl (search rules) refl
    (ap Ok (sym c.in-None.is)) c.in_ok-step_into-in-Split.ensures)
    (stepped_from _ _ (holding_of c.deref_mut.result.now.state)
    (holding_of s.b.value.state) _ c.args.now c.args.item.now _ refl (search rules) ended.stepped)
    (rw s.is at ended.ended)
    (rw s.is at c.in_ok-end_right-in-Split.ensures.kept.0)
    (rw s.is at c.in_ok-end_right-in-Split.ensures.kept.1))

pub split::step_split-returns-in_err-step_into-in-Split :
    goal.split::step_split-returns-in_err-step_into-in-Split
split::step_split-returns-in_err-step_into-in-Split t c =
    let s = c.in-Split in
    let same : holding_of s.a.value.state ≡ holding_of c.deref_mut-in-Split.result.now.state =
    search rules in
    step_fails _ _ _ _ _ c.args.now c.args.item.now _ (search rules) refl (ap holding_of s.is)
    (λ free. false≢true (c.in_err-step_into-in-Split.ensures.no_memory
    (numbers_step_as _ _ _ _ c.args.now c.args.item.now refl (sym same)
    (left_steps seen_of (plain_of c.args.first.now.shape) (plain_of c.args.second.now.shape)
    (values.plain_of c.args.expression.now) (holding_of s.a.value.state)
    (holding_of s.b.value.state) s.held c.args.now c.args.item.now free))))

pub split::step_split-returns-in_err-end_right-in-Split :
    goal.split::step_split-returns-in_err-end_right-in-Split
unfolding out-State denote.Hole.Carrier.out
split::step_split-returns-in_err-end_right-in-Split t c =
    let s = c.in-Split in
    let f = plain_of c.args.first.now.shape in
    let g = plain_of c.args.second.now.shape in
    let e = values.plain_of c.args.expression.now in
    let a = holding_of s.a.value.state in
    let b = holding_of s.b.value.state in
    let same : b ≡ holding_of c.deref_mut.result.now.state = search rules in
    step_fails _ _ _ _ _ c.args.now c.args.item.now _ (search rules) refl (ap holding_of s.is)
    (λ free. false≢true ((rw s.is at c.in_err-end_right-in-Split.ensures.no_memory) (record {
      steps = numbers_step_as _ _ _ _ c.args.now c.args.item.now refl (sym same)
          (right_steps seen_of f g e a b s.held c.args.now c.args.item.now free);
      ends = λ new right second. ended_stepped seen_of f g e a b new s.held c.args.now
          c.args.item.now right free
          (soundly_stepped_as _ _ _ b _ _ c.args.now c.args.item.now _ _ refl same
          refl refl second);
    })))

pub split::end_right-step_and_end-requires : goal.split::end_right-step_and_end-requires
split::end_right-step_and_end-requires t c = (search rules, (c.requires.none, c.requires.can))

pub split::end_right-returns-clause-kept : goal.split::end_right-returns-clause-kept
split::end_right-returns-clause-kept t c = (
  c.keep.ensures.entries
      (elsewhere c.args.now
      (live_of (plain_of c.args.second.now.shape) (holding_of c.step_and_end.new.node.state)))
      (λ start answer is. search rules),
  c.keep.ensures.room,
)

pub split::begin_right-start_and_join-requires : goal.split::begin_right-start_and_join-requires
split::begin_right-start_and_join-requires t c = (search rules, (refl, c.requires.can))

pub split::begin_right-returns : goal.split::begin_right-returns
split::begin_right-returns t c = record {
  joined = (c.start_and_join.new.hit, c.in_ok-start_and_join.ensures.joined, c.put_if_none.ensures);
  waits = subst (λ (live : Bool). IsPut live c.args.held.now
      (record { inner = c.args.at; outer = c.args.left.start; value = c.args.left.value })
      c.wait.new.held)
      c.is_live.ensures.read c.wait.ensures;
  no_memory = λ free. refl;
}
