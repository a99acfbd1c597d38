-- A combine.
use Rattle.std.proofs.Common.{ap, refl, rules, sym, ◌≡◌}
use Rattle.std.proofs.lemmas.Bool.{false≢true}
use Rattle.expressions.specs.Expressions as values
use Rattle.query_model.specs.Queries.{plain_of}
use Rattle.eval_nodes.specs.Plain.{holding_of, seen_of}
use Rattle.step_laws.proofs.Arms.{can_start_as, can_step_as, numbers_start_as, numbers_step_as}
use Rattle.step_laws.proofs.Arms.{soundly_started_as, soundly_stepped_as, start_fails, started_as}
use Rattle.step_laws.proofs.Arms.{started_from, step_fails, stepped_as, stepped_from, when_started}
use Rattle.step_laws.proofs.Arms.{when_stepped}
use Rattle.step_laws.proofs.FoldsAllowed.{started_combine, stepped_combine}
use Rattle.step_laws.proofs.NumbersAllowed.{one_starts, one_steps, other_starts, other_steps}
use Rattle.step_laws.proofs.NumbersTyped.{combined_started, combined_stepped}
use Rattle.step_laws.proofs.PlainArms.{combine_starts, combine_steps}
use Rattle.eval_tree.proofs.+step.Goals as goal

pub combine::start_combine-combine_with-requires : goal.combine::start_combine-combine_with-requires
combine::start_combine-combine_with-requires t c =
    let s = c.in-Combine in
    started_combine seen_of (plain_of c.args.first.now.shape) (plain_of c.args.second.now.shape)
    (values.plain_of c.args.expression.now)
    (holding_of s.a.value.state) (holding_of s.b.value.state)
    (holding_of c.start_into.new.node.state) (holding_of c.start_into-in-Combine.new.node.state)
    c.args.at c.start_into.new.hit c.start_into-in-Combine.new.hit
    (can_start_as _ _ _ _ c.args.at refl (sym (ap holding_of s.is)) c.requires.can)
    (soundly_started_as _ _ (holding_of c.deref_mut.result.now.state)
    (holding_of s.a.value.state) _ _ c.args.at _ _ refl
    (search rules) refl refl c.in_ok-start_into-in-Combine.ensures.sound)
    (soundly_started_as _ _ (holding_of c.deref_mut-in-Combine.result.now.state)
    (holding_of s.b.value.state) _ _ c.args.at _ _ refl
    (search rules) refl refl c.in_ok-start_into-in-Combine-2.ensures.sound)

pub combine::start_combine-returns : goal.combine::start_combine-returns
combine::start_combine-returns t c =
    let s = c.in-Combine in
    let f = plain_of c.args.first.now.shape in
    let g = plain_of c.args.second.now.shape in
    let a = holding_of s.a.value.state in
    let b = holding_of s.b.value.state in
    let next_a = holding_of c.start_into.new.node.state in
    let next_b = holding_of c.start_into-in-Combine.new.node.state in
    let left = c.start_into.new.hit in
    let right = c.start_into-in-Combine.new.hit in
    let first = started_from _ _ (holding_of c.deref_mut.result.now.state) a next_a c.args.at _
    refl (search rules) c.in_ok-start_into-in-Combine.ensures in
    let second = started_from _ _ (holding_of c.deref_mut-in-Combine.result.now.state) b
    next_b c.args.at _ refl (search rules) c.in_ok-start_into-in-Combine-2.ensures in
    when_started _ _ _ c.args.at c.combine_with.result c.combine_with.new.hit _
    (λ combined. started_as _ _ _ _ _ _ c.args.at _ _
    refl (ap holding_of s.is) refl refl
    (combine_starts f g a b next_a next_b (values.plain_of c.args.expression.now) c.args.at left
    right c.combine_with.new.hit first second combined))
    c.combine_with.ensures.combined
    (λ free. c.combine_with.ensures.no_memory (combined_started seen_of f g
    (values.plain_of c.args.expression.now) a b next_a next_b c.args.at left right
    (numbers_start_as _ _ _ _ c.args.at refl (sym (ap holding_of s.is)) free)
    first.sound second.sound))

pub combine::start_combine-returns-in_err-start_into-in-Combine :
    goal.combine::start_combine-returns-in_err-start_into-in-Combine
combine::start_combine-returns-in_err-start_into-in-Combine t c =
    let s = c.in-Combine in
    let same : holding_of s.a.value.state ≡ holding_of c.deref_mut.result.now.state = search rules
    in
    start_fails _ _ _ _ _ c.args.at _ (search rules) refl (ap holding_of s.is)
    (λ free. false≢true (c.in_err-start_into-in-Combine.ensures.no_memory
    (numbers_start_as _ _ _ _ c.args.at refl (sym same)
    (one_starts seen_of (plain_of c.args.first.now.shape) (plain_of c.args.second.now.shape)
    (values.plain_of c.args.expression.now) (holding_of s.a.value.state)
    (holding_of s.b.value.state) c.args.at free))))

pub combine::start_combine-returns-in_err-start_into-in-Combine-2 :
    goal.combine::start_combine-returns-in_err-start_into-in-Combine-2
combine::start_combine-returns-in_err-start_into-in-Combine-2 t c =
    let s = c.in-Combine in
    let same : holding_of s.b.value.state ≡ holding_of c.deref_mut-in-Combine.result.now.state =
    search rules
    in
    start_fails _ _ _ _ _ c.args.at _ (search rules) refl (ap holding_of s.is)
    (λ free. false≢true (c.in_err-start_into-in-Combine-2.ensures.no_memory
    (numbers_start_as _ _ _ _ c.args.at refl (sym same)
    (other_starts seen_of (plain_of c.args.first.now.shape) (plain_of c.args.second.now.shape)
    (values.plain_of c.args.expression.now) (holding_of s.a.value.state)
    (holding_of s.b.value.state) c.args.at free))))

pub combine::step_combine-combine_with-requires : goal.combine::step_combine-combine_with-requires
combine::step_combine-combine_with-requires t c =
    let s = c.in-Combine in
    stepped_combine seen_of (plain_of c.args.first.now.shape) (plain_of c.args.second.now.shape)
    (values.plain_of c.args.expression.now)
    (holding_of s.a.value.state) (holding_of s.b.value.state)
    (holding_of c.step_into.new.node.state) (holding_of c.step_into-in-Combine.new.node.state)
    c.args.now c.args.item.now c.step_into.new.hit c.step_into-in-Combine.new.hit
    (can_step_as _ _ _ _ c.args.now c.args.item.now refl (sym (ap holding_of s.is)) c.requires.can)
    (soundly_stepped_as _ _ (holding_of c.deref_mut.result.now.state)
    (holding_of s.a.value.state) _ _ c.args.now c.args.item.now _ _ refl
    (search rules) refl refl c.in_ok-step_into-in-Combine.ensures.sound)
    (soundly_stepped_as _ _ (holding_of c.deref_mut-in-Combine.result.now.state)
    (holding_of s.b.value.state) _ _ c.args.now c.args.item.now _ _ refl
    (search rules) refl refl c.in_ok-step_into-in-Combine-2.ensures.sound)

pub combine::step_combine-returns : goal.combine::step_combine-returns
combine::step_combine-returns t c =
    let s = c.in-Combine in
    let f = plain_of c.args.first.now.shape in
    let g = plain_of c.args.second.now.shape in
    let a = holding_of s.a.value.state in
    let b = holding_of s.b.value.state in
    let next_a = holding_of c.step_into.new.node.state in
    let next_b = holding_of c.step_into-in-Combine.new.node.state in
    let left = c.step_into.new.hit in
    let right = c.step_into-in-Combine.new.hit in
    let first = stepped_from _ _ (holding_of c.deref_mut.result.now.state) a next_a c.args.now
    c.args.item.now _ refl (search rules)
    c.in_ok-step_into-in-Combine.ensures in
    let second = stepped_from _ _ (holding_of c.deref_mut-in-Combine.result.now.state) b
    next_b c.args.now c.args.item.now _ refl (search rules)
    c.in_ok-step_into-in-Combine-2.ensures in
    when_stepped _ _ _ c.args.now c.args.item.now c.combine_with.result c.combine_with.new.hit _
    (λ combined. stepped_as _ _ _ _ _ _
    c.args.now c.args.item.now _ _ refl (ap holding_of s.is) refl refl
    (combine_steps f g a b next_a next_b (values.plain_of c.args.expression.now) c.args.now
    c.args.item.now left right c.combine_with.new.hit first
    second combined)) c.combine_with.ensures.combined
    (λ free. c.combine_with.ensures.no_memory (combined_stepped seen_of f g
    (values.plain_of c.args.expression.now) a b next_a next_b c.args.now c.args.item.now left right
    (numbers_step_as _ _ _ _ c.args.now c.args.item.now refl (sym (ap holding_of s.is)) free)
    first.sound second.sound))

pub combine::step_combine-returns-in_err-step_into-in-Combine :
    goal.combine::step_combine-returns-in_err-step_into-in-Combine
combine::step_combine-returns-in_err-step_into-in-Combine t c =
    let s = c.in-Combine in
    let same : holding_of s.a.value.state ≡ holding_of c.deref_mut.result.now.state = search rules
    in
    step_fails _ _ _ _ _ c.args.now c.args.item.now _ (search rules) refl (ap holding_of s.is)
    (λ free. false≢true (c.in_err-step_into-in-Combine.ensures.no_memory
    (numbers_step_as _ _ _ _ c.args.now c.args.item.now refl
    (sym same)
    (one_steps seen_of (plain_of c.args.first.now.shape) (plain_of c.args.second.now.shape)
    (values.plain_of c.args.expression.now) (holding_of s.a.value.state)
    (holding_of s.b.value.state) c.args.now c.args.item.now free))))

pub combine::step_combine-returns-in_err-step_into-in-Combine-2 :
    goal.combine::step_combine-returns-in_err-step_into-in-Combine-2
combine::step_combine-returns-in_err-step_into-in-Combine-2 t c =
    let s = c.in-Combine in
    let same : holding_of s.b.value.state ≡ holding_of c.deref_mut-in-Combine.result.now.state =
    search rules
    in
    step_fails _ _ _ _ _ c.args.now c.args.item.now _ (search rules) refl (ap holding_of s.is)
    (λ free. false≢true (c.in_err-step_into-in-Combine-2.ensures.no_memory
    (numbers_step_as _ _ _ _ c.args.now c.args.item.now refl
    (sym same)
    (other_steps seen_of (plain_of c.args.first.now.shape) (plain_of c.args.second.now.shape)
    (values.plain_of c.args.expression.now) (holding_of s.a.value.state)
    (holding_of s.b.value.state) c.args.now c.args.item.now free))))
