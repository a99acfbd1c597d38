-- Either of two.
use Rattle.std.proofs.Common.{Ok, ap, refl, rules, sym, ◌≡◌}
use Rattle.std.proofs.lemmas.Bool.{false≢true}
use Rattle.query_model.specs.Queries.{plain_of}
use Rattle.eval_nodes.specs.Plain.{holding_of, seen_of}
use Rattle.eval_nodes.specs.declared.node.State.TheViews.{out-State, roll-State}
use Rattle.step_laws.proofs.Arms.{numbers_start_as, numbers_step_as, start_fails, started_as}
use Rattle.step_laws.proofs.Arms.{started_from, step_fails, stepped_as, stepped_from}
use Rattle.step_laws.proofs.NumbersAllowed.{first_starts, first_steps, second_starts, second_steps}
use Rattle.step_laws.proofs.PlainArms.{choice_starts, choice_steps}
use Rattle.eval_tree.proofs.+step.Goals as goal

pub choice::start_choice-returns : goal.choice::start_choice-returns
choice::start_choice-returns t c =
    let s = c.in-Or in
    started_as _ _ _ _ _ _ c.args.at _ _ refl (ap holding_of s.is) refl
    (ap Ok c.put_if_none.ensures)
    (choice_starts (plain_of c.args.first.now.shape) (plain_of c.args.second.now.shape)
    (holding_of s.a.value.state) (holding_of s.b.value.state)
    (holding_of c.start_into.new.node.state) (holding_of c.start_into-in-Or.new.node.state)
    c.args.at c.start_into.new.hit c.start_into-in-Or.new.hit
    (started_from _ _ (holding_of c.deref_mut.result.now.state)
    (holding_of s.a.value.state) _ c.args.at _ refl (search rules) c.in_ok-start_into-in-Or.ensures)
    (started_from _ _ (holding_of c.deref_mut-in-Or.result.now.state)
    (holding_of s.b.value.state) _ c.args.at _ refl (search rules)
    c.in_ok-start_into-in-Or-2.ensures))

pub choice::start_choice-returns-in_err-start_into-in-Or :
    goal.choice::start_choice-returns-in_err-start_into-in-Or
choice::start_choice-returns-in_err-start_into-in-Or t c =
    let s = c.in-Or in
    let same : holding_of s.a.value.state ≡ holding_of c.deref_mut.result.now.state =
    search rules in
    start_fails _ _ _ _ _ c.args.at _ (search rules) refl (ap holding_of s.is)
    (λ free. false≢true (c.in_err-start_into-in-Or.ensures.no_memory
    (numbers_start_as _ _ _ _ c.args.at refl (sym same)
    (first_starts seen_of (plain_of c.args.first.now.shape) (plain_of c.args.second.now.shape)
    (holding_of s.a.value.state) (holding_of s.b.value.state) c.args.at free))))

pub choice::start_choice-returns-in_err-start_into-in-Or-2 :
    goal.choice::start_choice-returns-in_err-start_into-in-Or-2
choice::start_choice-returns-in_err-start_into-in-Or-2 t c =
    let s = c.in-Or in
    let same : holding_of s.b.value.state ≡ holding_of c.deref_mut-in-Or.result.now.state =
    search rules in
    start_fails _ _ _ _ _ c.args.at _ (search rules) refl (ap holding_of s.is)
    (λ free. false≢true (c.in_err-start_into-in-Or-2.ensures.no_memory
    (numbers_start_as _ _ _ _ c.args.at refl (sym same)
    (second_starts seen_of (plain_of c.args.first.now.shape) (plain_of c.args.second.now.shape)
    (holding_of s.a.value.state) (holding_of s.b.value.state) c.args.at free))))

pub choice::step_choice-returns : goal.choice::step_choice-returns
unfolding roll-State out-State denote.Hole.Carrier.roll denote.Hole.Carrier.out
choice::step_choice-returns t c =
    let s = c.in-Or in
    stepped_as _ _ _ _ _ _ c.args.now c.args.item.now _ _ refl (ap holding_of s.is) refl
    (ap Ok c.put_if_none.ensures)
    (choice_steps (plain_of c.args.first.now.shape) (plain_of c.args.second.now.shape)
    (holding_of s.a.value.state) (holding_of s.b.value.state)
    (holding_of c.step_into.new.node.state) (holding_of c.step_into-in-Or.new.node.state)
    c.args.now c.args.item.now c.step_into.new.hit c.step_into-in-Or.new.hit
    (stepped_from _ _ (holding_of c.deref_mut.result.now.state)
    (holding_of s.a.value.state) _ c.args.now c.args.item.now _ refl (search rules)
    c.in_ok-step_into-in-Or.ensures)
    (stepped_from _ _ (holding_of c.deref_mut-in-Or.result.now.state)
    (holding_of s.b.value.state) _ c.args.now c.args.item.now _ refl (search rules)
    c.in_ok-step_into-in-Or-2.ensures))

pub choice::step_choice-returns-in_err-step_into-in-Or :
    goal.choice::step_choice-returns-in_err-step_into-in-Or
choice::step_choice-returns-in_err-step_into-in-Or t c =
    let s = c.in-Or in
    let same : holding_of s.a.value.state ≡ holding_of c.deref_mut.result.now.state =
    search rules in
    step_fails _ _ _ _ _ c.args.now c.args.item.now _ (search rules) refl (ap holding_of s.is)
    (λ free. false≢true (c.in_err-step_into-in-Or.ensures.no_memory
    (numbers_step_as _ _ _ _ c.args.now c.args.item.now refl (sym same)
    (first_steps seen_of (plain_of c.args.first.now.shape) (plain_of c.args.second.now.shape)
    (holding_of s.a.value.state) (holding_of s.b.value.state) c.args.now c.args.item.now free))))

pub choice::step_choice-returns-in_err-step_into-in-Or-2 :
    goal.choice::step_choice-returns-in_err-step_into-in-Or-2
choice::step_choice-returns-in_err-step_into-in-Or-2 t c =
    let s = c.in-Or in
    let same : holding_of s.b.value.state ≡ holding_of c.deref_mut-in-Or.result.now.state =
    search rules in
    step_fails _ _ _ _ _ c.args.now c.args.item.now _ (search rules) refl (ap holding_of s.is)
    (λ free. false≢true (c.in_err-step_into-in-Or-2.ensures.no_memory
    (numbers_step_as _ _ _ _ c.args.now c.args.item.now refl (sym same)
    (second_steps seen_of (plain_of c.args.first.now.shape) (plain_of c.args.second.now.shape)
    (holding_of s.a.value.state) (holding_of s.b.value.state) c.args.now c.args.item.now free))))
