-- An expression on a value.
use Rattle.std.proofs.Common.{ap, refl, rules, sym, ◌≡◌}
use Rattle.std.proofs.lemmas.Bool.{false≢true}
use Rattle.expressions.specs.Expressions as values
use Rattle.query_model.specs.Queries.{plain_of}
use Rattle.eval_nodes.specs.Holdings.{apply_held}
use Rattle.eval_nodes.specs.Plain.{holding_of, seen_of}
use Rattle.eval_nodes.specs.declared.node.State.TheViews.{out-State, roll-State}
use Rattle.step_laws.proofs.Allowed.{started_apply, stepped_apply}
use Rattle.step_laws.proofs.Arms.{can_start_as, can_step_as, numbers_start_as, numbers_step_as}
use Rattle.step_laws.proofs.Arms.{soundly_started_as, soundly_stepped_as, start_fails, started_as}
use Rattle.step_laws.proofs.Arms.{started_from, step_fails, stepped_as, stepped_from, when_started}
use Rattle.step_laws.proofs.Arms.{when_stepped}
use Rattle.step_laws.proofs.NumbersAllowed.{operand_starts, operand_steps}
use Rattle.step_laws.proofs.NumbersTyped.{applied_started, applied_stepped}
use Rattle.step_laws.proofs.PlainArms.{apply_starts, apply_steps}
use Rattle.eval_tree.proofs.+step.Goals as goal

pub apply::start_apply-apply_to-requires : goal.apply::start_apply-apply_to-requires
apply::start_apply-apply_to-requires t c =
    let s = c.in-Apply in
    started_apply seen_of (plain_of c.args.inner.now.shape) (values.plain_of c.args.expression.now)
    (holding_of s.a.value.state) (holding_of c.start_into.new.node.state) c.args.at
    c.start_into.new.hit
    (can_start_as _ _ _ _ c.args.at refl (sym (ap holding_of s.is)) c.requires.can)
    (soundly_started_as _ _ (holding_of c.deref_mut.result.now.state)
    (holding_of s.a.value.state) _ _ c.args.at _ _ refl
    (search rules) refl refl c.in_ok-start_into-in-Apply.ensures.sound)

pub apply::start_apply-returns : goal.apply::start_apply-returns
unfolding roll-State out-State denote.Hole.Carrier.roll denote.Hole.Carrier.out
apply::start_apply-returns t c =
    let s = c.in-Apply in
    let f = plain_of c.args.inner.now.shape in
    let a = holding_of s.a.value.state in
    let first = started_from _ _ (holding_of c.deref_mut.result.now.state) a
    (holding_of c.start_into.new.node.state) c.args.at _
    refl (search rules) c.in_ok-start_into-in-Apply.ensures in
    when_started _ _ _ c.args.at c.apply_to.result c.apply_to.new.hit _
    (λ applied. started_as _ _ _ _
    (apply_held (holding_of c.start_into.new.node.state)) _ c.args.at _ _ refl
    (ap holding_of s.is) (rw s.is refl) refl
    (apply_starts f (values.plain_of c.args.expression.now) a
    (holding_of c.start_into.new.node.state) c.args.at c.start_into.new.hit c.apply_to.new.hit first
    applied)) c.apply_to.ensures.applied
    (λ free. c.apply_to.ensures.no_memory (applied_started seen_of f
    (values.plain_of c.args.expression.now) a (holding_of c.start_into.new.node.state) c.args.at
    c.start_into.new.hit
    (numbers_start_as _ _ _ _ c.args.at refl (sym (ap holding_of s.is)) free) first.sound))

pub apply::start_apply-returns-in_err-start_into-in-Apply :
    goal.apply::start_apply-returns-in_err-start_into-in-Apply
apply::start_apply-returns-in_err-start_into-in-Apply t c =
    let s = c.in-Apply in
    let same : holding_of s.a.value.state ≡ holding_of c.deref_mut.result.now.state = search rules
    in
    start_fails _ _ _ _ _ c.args.at _ (search rules) refl (ap holding_of s.is)
    (λ free. false≢true (c.in_err-start_into-in-Apply.ensures.no_memory
    (numbers_start_as _ _ _ _ c.args.at refl (sym same)
    (operand_starts seen_of (plain_of c.args.inner.now.shape)
    (values.plain_of c.args.expression.now) (holding_of s.a.value.state) c.args.at free))))

pub apply::step_apply-apply_to-requires : goal.apply::step_apply-apply_to-requires
apply::step_apply-apply_to-requires t c =
    let s = c.in-Apply in
    stepped_apply seen_of (plain_of c.args.inner.now.shape) (values.plain_of c.args.expression.now)
    (holding_of s.a.value.state) (holding_of c.step_into.new.node.state) c.args.now
    c.args.item.now c.step_into.new.hit
    (can_step_as _ _ _ _ c.args.now c.args.item.now refl (sym (ap holding_of s.is)) c.requires.can)
    (soundly_stepped_as _ _ (holding_of c.deref_mut.result.now.state)
    (holding_of s.a.value.state) _ _ c.args.now c.args.item.now _ _ refl
    (search rules) refl refl c.in_ok-step_into-in-Apply.ensures.sound)

pub apply::step_apply-returns : goal.apply::step_apply-returns
unfolding roll-State out-State denote.Hole.Carrier.roll denote.Hole.Carrier.out
apply::step_apply-returns t c =
    let s = c.in-Apply in
    let f = plain_of c.args.inner.now.shape in
    let a = holding_of s.a.value.state in
    let first = stepped_from _ _ (holding_of c.deref_mut.result.now.state) a
    (holding_of c.step_into.new.node.state) c.args.now c.args.item.now _
    refl (search rules) c.in_ok-step_into-in-Apply.ensures in
    when_stepped _ _ _ c.args.now c.args.item.now c.apply_to.result c.apply_to.new.hit _
    (λ applied. stepped_as _ _ _ _
    (apply_held (holding_of c.step_into.new.node.state)) _ c.args.now c.args.item.now _ _
    refl (ap holding_of s.is) (rw s.is refl) refl
    (apply_steps f (values.plain_of c.args.expression.now) a
    (holding_of c.step_into.new.node.state) c.args.now c.args.item.now c.step_into.new.hit
    c.apply_to.new.hit first applied)) c.apply_to.ensures.applied
    (λ free. c.apply_to.ensures.no_memory (applied_stepped seen_of f
    (values.plain_of c.args.expression.now) a (holding_of c.step_into.new.node.state) c.args.now
    c.args.item.now c.step_into.new.hit
    (numbers_step_as _ _ _ _ c.args.now c.args.item.now refl (sym (ap holding_of s.is))
    free) first.sound))

pub apply::step_apply-returns-in_err-step_into-in-Apply :
    goal.apply::step_apply-returns-in_err-step_into-in-Apply
apply::step_apply-returns-in_err-step_into-in-Apply t c =
    let s = c.in-Apply in
    let same : holding_of s.a.value.state ≡ holding_of c.deref_mut.result.now.state = search rules
    in
    step_fails _ _ _ _ _ c.args.now c.args.item.now _ (search rules) refl (ap holding_of s.is)
    (λ free. false≢true (c.in_err-step_into-in-Apply.ensures.no_memory
    (numbers_step_as _ _ _ _ c.args.now c.args.item.now refl
    (sym same)
    (operand_steps seen_of (plain_of c.args.inner.now.shape) (values.plain_of c.args.expression.now)
    (holding_of s.a.value.state) c.args.now c.args.item.now free))))
