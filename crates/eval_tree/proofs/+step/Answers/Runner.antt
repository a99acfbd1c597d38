-- Runners of the right operand of a compose.
use Rattle.std.proofs.Common.{List, None, Option, Some, ap, arith, false, inl, refl, rules, subst}
use Rattle.std.proofs.Common.{sym, true, ℕ, ◌-◌, ◌∙◌, ◌≡◌}
use Rattle.std.specs.Prelude.{IfNone, IfOk, IfSome}
use Rattle.std.specs.Option.{is_some}
use Rattle.std.proofs.lemmas.Bool.{false≢true}
use Rattle.query_model.specs.Queries.{plain_of}
use Rattle.eval_nodes.specs.Plain.{holding_of, seen_of}
use Rattle.eval_nodes.proofs.Same.{where_ok}
use Rattle.step_laws.specs.declared.hit.Hit.{Hit}
use Rattle.value_ops.specs.declared.field.Field.{Field}
use Rattle.value_ops.specs.declared.value.Value.{Value}
use Rattle.compose_eval.specs.Followers.{instance_at, with_follower, IsAt}
use Rattle.step_laws.specs.Feeds.{CanBegin, CanCarry, CanPassOn, Feeds, HasIdle, IsBegun, IsCarried}
use Rattle.step_laws.specs.Feeds.{PassesOn, hit_at, item_of}
use Rattle.step_laws.proofs.ComposeAllowed.{carry_begun, start_cleared, step_carried}
use Rattle.step_laws.proofs.Carried.{begun_anew, carried_on}
use Rattle.step_laws.proofs.Feeding.{begin_last, fed_already, feeds_at_rest, feeds_awake}
use Rattle.step_laws.proofs.Feeding.{feeds_none, passed_one, renew_allowed, deliver_allowed}
use Rattle.step_laws.specs.Numbers.{BeginsNumbers, CarriesNumbers, PassesNumbers}
use Rattle.step_laws.proofs.NumbersAllowed.{begun_carries, cleared_starts, last_begins}
use Rattle.step_laws.proofs.NumbersAllowed.{place_decides, runner_renews, runner_steps}
use Rattle.step_laws.proofs.NumbersTyped.{answer_no_table}
use Rattle.eval_tree.proofs.+step.Goals as goal
use Rattle.eval_tree.proofs.+step.Goals.{right_runners::feed-then-idle-eq0-via-then-idle-eq0}
use Rattle.eval_tree.proofs.+step.Goals.{}
use Rattle.eval_tree.proofs.+step.Goals.{right_runners::feed-then-idle-eq0-via-else-idle-eq0+then-is_some}

-- what is said of a place that is there, and where there is none
there_is : (place : Option ℕ) (P : ℕ → Type 0) → is_some place ≡ true
    → IfSome place P → (i : ℕ) × P i
there_is (Some i) P some is = (i, is)
there_is None P some is = absurd (false≢true some)

there_is_none : (place : Option ℕ) (A : Type 0) → is_some place ≡ false → IfNone place A → A
there_is_none None A none is = is
there_is_none (Some i) A none is = absurd (false≢true (sym none))

pub right_runners::renew-start_into-requires : goal.right_runners::renew-start_into-requires
right_runners::renew-start_into-requires t c = (
  search rules,
  (
    refl,
    start_cleared seen_of (plain_of c.args.query.now.shape) c.args.runner.now None
        (holding_of c.clear.new.node.state) c.requires c.clear.ensures,
  ),
)

pub right_runners::renew-returns-clause-renewed : goal.right_runners::renew-returns-clause-renewed
right_runners::renew-returns-clause-renewed t c =
    begun_anew seen_of (plain_of c.args.query.now.shape) c.args.runner.now _
    (holding_of c.clear.new.node.state) c.start_into.new.hit c.requires.columns
    c.requires.no_collect c.requires.sound c.clear.ensures
    c.in_ok-start_into.ensures.word c.in_ok-start_into.ensures.sound refl c.put_answer.ensures

pub right_runners::carry-step_into-requires : goal.right_runners::carry-step_into-requires
right_runners::carry-step_into-requires t c = (
  search rules,
  (
    refl,
    step_carried seen_of (plain_of c.args.query.now.shape) c.args.runner.now
        c.args.item.now c.requires,
  ),
)

pub right_runners::carry-returns-clause-carried : goal.right_runners::carry-returns-clause-carried
right_runners::carry-returns-clause-carried t c =
    carried_on seen_of (plain_of c.args.query.now.shape) c.args.runner.now _ c.args.item.now
    c.step_into.new.hit c.in_ok-step_into.ensures.word c.in_ok-step_into.ensures.sound refl
    c.put_answer.ensures

pub right_runners::carry_parts-returns-clause-no_memory :
    goal.right_runners::carry_parts-returns-clause-no_memory
right_runners::carry_parts-returns-clause-no_memory t c = λ free.
    c.carry.ensures.no_memory
    (subst (CarriesNumbers seen_of (plain_of c.args.query.now.shape) c.args.runner.now)
    (sym c.from_value-item.ensures) free)

pub right_runners::carry_value-returns-in-Scalar : goal.right_runners::carry_value-returns-in-Scalar
right_runners::carry_value-returns-in-Scalar t c =
    let same : c.from_field.result ≡ item_of c.args.value = search rules in record {
      carried = subst (λ (item : List Field). IfOk c.carry-in-Scalar.result
          (λ done. IsCarried seen_of (plain_of c.args.query.now.shape) c.args.runner.now item
          c.carry-in-Scalar.new.runner)) same c.carry-in-Scalar.ensures.carried;
      no_memory = λ free. c.carry-in-Scalar.ensures.no_memory
          (subst (CarriesNumbers seen_of (plain_of c.args.query.now.shape) c.args.runner.now)
          (sym same) free);
    }

pub right_runners::deliver-carry_value-requires : goal.right_runners::deliver-carry_value-requires
right_runners::deliver-carry_value-requires t c = (
  search rules,
  subst (CanCarry seen_of (plain_of c.args.query.now.shape) c.args.runner.now)
      (ap item_of (sym c.into_parts-start.ensures.value)) c.requires.can,
)

pub right_runners::deliver-returns-in_ok-value-in-Some-clause-delivered :
    goal.right_runners::deliver-returns-in_ok-value-in-Some-clause-delivered
right_runners::deliver-returns-in_ok-value-in-Some-clause-delivered t c = record {
  carried = subst (λ (item : List Field). IsCarried seen_of (plain_of c.args.query.now.shape)
      c.args.runner.now item c.carry_value.new.runner) (ap item_of c.into_parts-start.ensures.value)
      c.in_ok-carry_value.ensures.carried;
  answers = ap (λ (v : Value). Some (record { start = c.into_parts-start.result.0; value = v }))
      c.in_ok-value-in-Some.ensures.equal
      ∙ ap (hit_at c.into_parts-start.result.0) (sym c.in-Some.is)
      ∙ ap (λ (start : ℕ). hit_at start c.carry_value.new.runner.answer)
      c.into_parts-start.ensures.start;
}

pub right_runners::deliver-returns-in-None-clause-delivered :
    goal.right_runners::deliver-returns-in-None-clause-delivered
right_runners::deliver-returns-in-None-clause-delivered t c = record {
  carried = subst (λ (item : List Field). IsCarried seen_of (plain_of c.args.query.now.shape)
      c.args.runner.now item c.carry_value.new.runner) (ap item_of c.into_parts-start.ensures.value)
      c.in_ok-carry_value.ensures.carried;
  answers = c.requires.none ∙ ap (hit_at c.args.left.start) (sym c.in-None.is);
}

pub right_runners::begin-renew-requires : goal.right_runners::begin-renew-requires
right_runners::begin-renew-requires t c = (
  search rules,
  renew_allowed seen_of (plain_of c.args.query.now.shape) c.args.runner.now
      c.args.left c.requires.can,
)

pub right_runners::begin-deliver-requires : goal.right_runners::begin-deliver-requires
right_runners::begin-deliver-requires t c = (
  search rules,
  (
    c.requires.none,
    carry_begun seen_of (plain_of c.args.query.now.shape) c.args.runner.now
        c.renew.new.runner c.in-Some.left
        (subst (CanBegin seen_of (plain_of c.args.query.now.shape) c.args.runner.now)
        c.in-Some.is c.requires.can)
        c.in_ok-renew.ensures.renewed,
  ),
)

pub right_runners::begin-returns-in-Some : goal.right_runners::begin-returns-in-Some
right_runners::begin-returns-in-Some t c = record {
  begun = where_ok c.deliver.result _ _ (λ done delivered. subst (λ (left : Option Hit).
      IsBegun seen_of (plain_of c.args.query.now.shape) c.args.runner.now left c.deliver.new.runner
      c.deliver.new.hit)
      (sym c.in-Some.is)
      (c.renew.new.runner, c.in_ok-renew.ensures.renewed, delivered)) c.deliver.ensures.delivered;
  no_memory = λ free. c.deliver.ensures.no_memory
      (begun_carries seen_of (plain_of c.args.query.now.shape) c.args.runner.now
      c.renew.new.runner c.in-Some.left
      (subst (BeginsNumbers seen_of (plain_of c.args.query.now.shape) c.args.runner.now)
      c.in-Some.is free)
      c.in_ok-renew.ensures.renewed);
}

pub right_runners::begin-returns-in-None-clause-begun :
    goal.right_runners::begin-returns-in-None-clause-begun
right_runners::begin-returns-in-None-clause-begun t c =
    subst
    (λ (left : Option Hit). IsBegun seen_of (plain_of c.args.query.now.shape) c.args.runner.now left
    c.renew.new.runner c.args.hit.now) (sym c.in-None.is)
    (c.in_ok-renew.ensures.renewed, c.requires.none)

pub right_runners::pass_on-deliver-requires : goal.right_runners::pass_on-deliver-requires
right_runners::pass_on-deliver-requires t c = (
  search rules,
  (
    c.requires.none,
    deliver_allowed seen_of (plain_of c.args.query.now.shape) c.args.runners.now c.in-Some.left
        c.in-Some-place.place c.follower_mut.result.now
        (subst (CanPassOn seen_of (plain_of c.args.query.now.shape) c.args.runners.now)
        c.in-Some.is c.requires.can)
        c.follower_mut.ensures.value,
  ),
)

pub right_runners::pass_on-returns-in-Some-place : goal.right_runners::pass_on-returns-in-Some-place
right_runners::pass_on-returns-in-Some-place t c = record {
  passed = where_ok c.deliver.result _ _ (λ done delivers. subst (λ (left : Option Hit).
      PassesOn seen_of (plain_of c.args.query.now.shape) c.args.runners.now left (record {
        live = with_follower c.args.runners.now.live c.in-Some-place.place c.deliver.new.runner;
        idle = c.args.runners.now.idle;
        room = c.args.runners.now.room;
      }) c.deliver.new.hit) (sym c.in-Some.is)
      (inl (passed_one seen_of (plain_of c.args.query.now.shape) c.args.runners.now c.in-Some.left
      c.in-Some-place.place c.follower_mut.result.now c.deliver.new.runner c.deliver.new.hit
      c.in-Some-place.ensures.there c.follower_mut.ensures.value delivers)))
      c.deliver.ensures.delivered;
  no_memory = λ free. c.deliver.ensures.no_memory
      (place_decides seen_of (plain_of c.args.query.now.shape) c.args.runners.now c.in-Some.left
      c.in-Some-place.place c.follower_mut.result.now
      (subst (PassesNumbers seen_of (plain_of c.args.query.now.shape) c.args.runners.now)
      c.in-Some.is free)
      c.follower_mut.ensures.value);
}

pub right_runners::feed-begin-requires : goal.right_runners::feed-begin-requires
right_runners::feed-begin-requires t c = (
  search rules,
  (
    c.requires.none,
    begin_last seen_of (plain_of c.args.query.now.shape) c.args.runners.now c.args.left _
        c.resting_mut.result.now c.requires.can c.resting_mut.ensures.value,
  ),
)

pub right_runners::feed-returns-then-idle-eq0-clause-fed :
    goal.right_runners::feed-returns-then-idle-eq0-clause-fed
right_runners::feed-returns-then-idle-eq0-clause-fed t c =
    let count = c.idle.ensures in
    subst (λ (hit : Option Hit). Feeds seen_of (plain_of c.args.query.now.shape) c.args.runners.now
    c.args.live c.args.at c.args.left c.args.runners.now hit) (sym c.requires.none)
    (elim c.then-idle-eq0.branch [
      | right_runners::feed-then-idle-eq0-via-then-idle-eq0 w ↦
          feeds_none seen_of (plain_of c.args.query.now.shape) c.args.runners.now c.args.live
          c.args.at c.args.left
          (λ has. let some = has.idle in let none = w.if-idle-eq0.true in
          omega (arith, some, none, count))
      | right_runners::feed-then-idle-eq0-via-else-idle-eq0+then-is_some w ↦
          feeds_none seen_of (plain_of c.args.query.now.shape) c.args.runners.now c.args.live
          c.args.at c.args.left
          (λ has. let found = there_is w.place.result
          (λ i. IsAt c.args.runners.now.live i c.args.at)
          (sym w.is_some.ensures ∙ w.if-is_some.true) w.place.ensures.there in
          fed_already c.args.runners.now.live found.0 c.args.at found.1 has.fresh)
    ])

pub right_runners::feed-returns-then-live-clause-fed :
    goal.right_runners::feed-returns-then-live-clause-fed
right_runners::feed-returns-then-live-clause-fed t c =
    let old = c.args.runners.now in
    let count = c.idle.ensures in
    let last = c.idle-last.ensures in
    let some = c.if-idle-eq0.false in
    let has : HasIdle old c.args.at = record {
      idle = omega (arith, count, some);
      fresh = there_is_none c.place.result (instance_at old.live c.args.at ≡ None)
          (sym c.is_some.ensures ∙ c.if-is_some.false) c.place.ensures.none;
    } in
    feeds_awake seen_of (plain_of c.args.query.now.shape) old c.wake.new.self c.args.live
    c.args.at _ c.args.left c.begin.new.hit c.resting_mut.result.now c.begin.new.runner
    c.if-live.true has (ap (λ (n : ℕ). n - 1) last) c.resting_mut.ensures.value
    c.in_ok-begin.ensures.begun c.wake.ensures.wakes c.wake.ensures.room

pub right_runners::feed-returns-else-live-clause-fed :
    goal.right_runners::feed-returns-else-live-clause-fed
right_runners::feed-returns-else-live-clause-fed t c =
    let old = c.args.runners.now in
    let count = c.idle.ensures in
    let last = c.idle-last.ensures in
    let some = c.if-idle-eq0.false in
    let has : HasIdle old c.args.at = record {
      idle = omega (arith, count, some);
      fresh = there_is_none c.place.result (instance_at old.live c.args.at ≡ None)
          (sym c.is_some.ensures ∙ c.if-is_some.false) c.place.ensures.none;
    } in
    feeds_at_rest seen_of (plain_of c.args.query.now.shape) old c.args.live c.args.at _
    c.args.left c.begin.new.hit c.resting_mut.result.now c.begin.new.runner c.if-live.false has
    (ap (λ (n : ℕ). n - 1) last) c.resting_mut.ensures.value c.in_ok-begin.ensures.begun

pub right_runners::renew-returns-in_err-start_into-clause-no_memory :
    goal.right_runners::renew-returns-in_err-start_into-clause-no_memory
right_runners::renew-returns-in_err-start_into-clause-no_memory t c = λ free.
    absurd (false≢true (c.in_err-start_into.ensures.no_memory
    (cleared_starts seen_of (plain_of c.args.query.now.shape) c.args.runner.now None
    (holding_of c.clear.new.node.state) free c.clear.ensures)))

pub right_runners::carry-returns-in_err-step_into-clause-no_memory :
    goal.right_runners::carry-returns-in_err-step_into-clause-no_memory
right_runners::carry-returns-in_err-step_into-clause-no_memory t c = λ free.
    absurd (false≢true (c.in_err-step_into.ensures.no_memory
    (runner_steps seen_of (plain_of c.args.query.now.shape) c.args.runner.now
    c.args.item.now free)))

pub right_runners::deliver-returns-in_err-carry_value-clause-no_memory :
    goal.right_runners::deliver-returns-in_err-carry_value-clause-no_memory
right_runners::deliver-returns-in_err-carry_value-clause-no_memory t c = λ free.
    absurd (false≢true (c.in_err-carry_value.ensures.no_memory
    (subst (CarriesNumbers seen_of (plain_of c.args.query.now.shape) c.args.runner.now)
    (ap item_of (sym c.into_parts-start.ensures.value)) free)))

pub right_runners::deliver-returns-in_err-value-in-Some-clause-no_memory :
    goal.right_runners::deliver-returns-in_err-value-in-Some-clause-no_memory
right_runners::deliver-returns-in_err-value-in-Some-clause-no_memory t c = λ free.
    absurd (false≢true (c.in_err-value-in-Some.ensures.no_memory
    (answer_no_table seen_of (plain_of c.args.query.now.shape) c.args.runner.now
    c.carry_value.new.runner (item_of c.args.left.value) _ free
    (subst (λ (item : List Field). IsCarried seen_of (plain_of c.args.query.now.shape)
    c.args.runner.now item c.carry_value.new.runner)
    (ap item_of c.into_parts-start.ensures.value)
    c.in_ok-carry_value.ensures.carried) c.in-Some.is)))

pub right_runners::begin-returns-in_err-renew-clause-no_memory :
    goal.right_runners::begin-returns-in_err-renew-clause-no_memory
right_runners::begin-returns-in_err-renew-clause-no_memory t c = λ free.
    absurd (false≢true (c.in_err-renew.ensures.no_memory
    (runner_renews seen_of (plain_of c.args.query.now.shape) c.args.runner.now c.args.left free)))

pub right_runners::feed-returns-in_err-begin-clause-no_memory :
    goal.right_runners::feed-returns-in_err-begin-clause-no_memory
right_runners::feed-returns-in_err-begin-clause-no_memory t c = λ free.
    absurd (false≢true (c.in_err-begin.ensures.no_memory
    (last_begins seen_of (plain_of c.args.query.now.shape) c.args.runners.now c.args.left _
    c.resting_mut.result.now free
    c.resting_mut.ensures.value)))
