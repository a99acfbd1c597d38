use Rattle.std.proofs.Common.{None, ◌∙◌, ◌++◌, false, ap, refl, rules}
use Rattle.std.proofs.lemmas.List.{length-set}
use Rattle.predicates.specs.Plain as predicates
use Rattle.rate_expr.specs.Plain as rates
use Rattle.expressions.specs.Expressions as values
use Rattle.query_model.specs.Queries.{apply, choice, combine, compose, iter, plain_of, split}
use Rattle.compose_eval.specs.Followers.{Contents, live_instances, retired}
use Rattle.eval_nodes.specs.declared.node.State.TheViews.{out-State, roll-Progress, roll-State}
use Rattle.eval_nodes.specs.declared.progress.Progress.{Progress}
use Rattle.eval_nodes.specs.Holdings.{apply_held, choice_held, combine_held, iter_held, split_held}
use Rattle.eval_nodes.specs.Plain.{holding_of, seen_of}
use Rattle.eval_nodes.proofs.Same.{same_query}
use Rattle.node_copies.proofs.Cleared.{cleared_as, next_cleared, none_kept}
use Rattle.node_copies.proofs.Clearing.{clear_apply, clear_choice, clear_collect, clear_combine}
use Rattle.node_copies.proofs.Clearing.{clear_compose, clear_eps, clear_iter, clear_split}
use Rattle.eval_nodes.proofs.HeldRunners.{fed_is, runners_are}
use Rattle.eval_nodes.proofs.NewParts.{of_both}
use Rattle.node_copies.proofs.empty_nodes.+clear.Goals as goal

pub clear-returns-in-Atom : goal.clear-returns-in-Atom
clear-returns-in-Atom t c =
    let s = c.in-Atom in
    cleared_as _ _ _ _ _ _
    (ap plain_of s.is)
    refl refl (c.clear_atom.ensures (predicates.plain_of s.field-0) (values.plain_of s.field-1))

pub clear-returns-in-Eps : goal.clear-returns-in-Eps
clear-returns-in-Eps t c =
    cleared_as _ _ _ _ _ _
    (ap plain_of c.in-Eps.is)
    refl refl (clear_eps seen_of c.in-Eps.field-0 (holding_of c.args.node.now.state))

pub clear-returns-in-Or : goal.clear-returns-in-Or
clear-returns-in-Or t c =
    cleared_as _ _ _ _ _ _
    (ap plain_of c.in-Or.is
    ∙ of_both choice _ _ _ _ (same_query _ _ c.deref.ensures)
    (same_query _ _ c.deref-in-Or.ensures))
    refl refl c.clear_choice.ensures

pub clear-returns-in-Apply : goal.clear-returns-in-Apply
clear-returns-in-Apply t c =
    let e = values.plain_of c.in-Apply.field-1 in
    cleared_as _ _ _ _ _ _
    (ap plain_of c.in-Apply.is ∙ ap (λ f. apply f e) (same_query _ _ c.deref-in-Apply.ensures))
    refl refl (c.clear_apply.ensures e)

pub clear-returns-in-Split : goal.clear-returns-in-Split
clear-returns-in-Split t c =
    let e = values.plain_of c.in-Split.field-2 in
    cleared_as _ _ _ _ _ _
    (ap plain_of c.in-Split.is
    ∙ of_both (λ f g. split f g e) _ _ _ _ (same_query _ _ c.deref-in-Split.ensures)
    (same_query _ _ c.deref-in-Split-2.ensures))
    refl refl (c.clear_split.ensures e)

pub clear-returns-in-Combine : goal.clear-returns-in-Combine
clear-returns-in-Combine t c =
    let e = values.plain_of c.in-Combine.field-2 in
    cleared_as _ _ _ _ _ _
    (ap plain_of c.in-Combine.is
    ∙ of_both (λ f g. combine f g e) _ _ _ _ (same_query _ _ c.deref-in-Combine.ensures)
    (same_query _ _ c.deref-in-Combine-2.ensures))
    refl refl (c.clear_combine.ensures e)

pub clear-returns-in-Iter : goal.clear-returns-in-Iter
clear-returns-in-Iter t c =
    let e = values.plain_of c.in-Iter.field-2 in
    cleared_as _ _ _ _ _ _
    (ap plain_of c.in-Iter.is
    ∙ ap (λ f. iter f c.in-Iter.field-1 e) (same_query _ _ c.deref-in-Iter.ensures))
    refl refl (c.clear_iter.ensures c.in-Iter.field-1 e)

pub clear-returns-in-Compose : goal.clear-returns-in-Compose
clear-returns-in-Compose t c =
    cleared_as _ _ _ _ _ _
    (ap plain_of c.in-Compose.is
    ∙ of_both compose _ _ _ _ (same_query _ _ c.deref-in-Compose.ensures)
    (same_query _ _ c.deref-in-Compose-2.ensures))
    refl refl c.clear_compose.ensures

pub clear-returns-in-Collect : goal.clear-returns-in-Collect
clear-returns-in-Collect t c =
    let s = c.in-Collect in
    cleared_as _ _ _ _ _ _
    (ap plain_of s.is)
    refl refl
    (clear_collect seen_of s.field-0 (predicates.plain_of s.field-1) (rates.plain_of s.field-2)
    (plain_of s.field-3.value.shape) (holding_of c.args.node.now.state))

pub clear_choice-returns-in-Or : goal.clear_choice-returns-in-Or
clear_choice-returns-in-Or t c =
    let s = c.in-Or in
    let f = plain_of c.args.left.now.shape in
    let g = plain_of c.args.right.now.shape in
    let a = holding_of s.a.value.state in
    let b = holding_of s.b.value.state in
    let new_a = holding_of c.clear.new.node.state in
    let new_b = holding_of c.clear-in-Or.new.node.state in
    cleared_as (choice f g) _ _ _ (choice_held new_a new_b) _ refl (ap holding_of s.is) refl
    (clear_choice seen_of f g a b new_a new_b
    (cleared_as _ _ (holding_of c.deref_mut.result.now.state) a _ _ refl (search rules) refl
    c.clear.ensures)
    (cleared_as _ _ (holding_of c.deref_mut-in-Or.result.now.state) b _ _ refl (search rules) refl
    c.clear-in-Or.ensures))

pub clear_apply-returns-in-Apply : goal.clear_apply-returns-in-Apply
unfolding roll-State out-State denote.Hole.Carrier.roll denote.Hole.Carrier.out
clear_apply-returns-in-Apply t c = λ e.
    let s = c.in-Apply in
    let f = plain_of c.args.inner.now.shape in
    let a = holding_of s.a.value.state in
    let new_a = holding_of c.clear.new.node.state in
    cleared_as (apply f e) _ (apply_held a) _ (apply_held new_a) _ refl
    (ap holding_of s.is) (rw s.is refl) (clear_apply seen_of f e a new_a
    (cleared_as _ _ (holding_of c.deref_mut.result.now.state) a _ _ refl (search rules) refl
    c.clear.ensures))

pub clear_split-returns-in-Split : goal.clear_split-returns-in-Split
unfolding out-State denote.Hole.Carrier.out
clear_split-returns-in-Split t c = λ e.
    let s = c.in-Split in
    let f = plain_of c.args.left.now.shape in
    let g = plain_of c.args.right.now.shape in
    let a = holding_of s.a.value.state in
    let b = holding_of s.b.value.state in
    let new_a = holding_of c.clear.new.node.state in
    let new_b = holding_of c.clear-in-Split.new.node.state in
    cleared_as (split f g e) _ _ _ (split_held new_a new_b c.keep.new.self) _ refl
    (ap holding_of s.is) refl (clear_split seen_of f g e a b new_a new_b s.held c.keep.new.self
    (cleared_as _ _ (holding_of c.deref_mut.result.now.state) a _ _ refl (search rules) refl
    c.clear.ensures)
    (cleared_as _ _ (holding_of c.deref_mut-in-Split.result.now.state) b _ _ refl
    (search rules) refl c.clear-in-Split.ensures)
    (c.keep.ensures.entries (λ start. false) (λ start answer is. search rules)
    ∙ rw s.is (none_kept s.held.entries))
    (c.keep.ensures.room ∙ rw s.is refl))

pub clear_combine-returns-in-Combine : goal.clear_combine-returns-in-Combine
clear_combine-returns-in-Combine t c = λ e.
    let s = c.in-Combine in
    let f = plain_of c.args.left.now.shape in
    let g = plain_of c.args.right.now.shape in
    let a = holding_of s.a.value.state in
    let b = holding_of s.b.value.state in
    let new_a = holding_of c.clear.new.node.state in
    let new_b = holding_of c.clear-in-Combine.new.node.state in
    cleared_as (combine f g e) _ _ _ (combine_held new_a new_b) _ refl (ap holding_of s.is) refl
    (clear_combine seen_of f g e a b new_a new_b
    (cleared_as _ _ (holding_of c.deref_mut.result.now.state) a _ _ refl (search rules) refl
    c.clear.ensures)
    (cleared_as _ _ (holding_of c.deref_mut-in-Combine.result.now.state) b _ _ refl
    (search rules) refl c.clear-in-Combine.ensures))

pub clear_iter-returns-in-Iter : goal.clear_iter-returns-in-Iter
unfolding out-State denote.Hole.Carrier.out
clear_iter-returns-in-Iter t c = λ number e.
    let s = c.in-Iter in
    let f = plain_of c.args.inner.now.shape in
    let a = holding_of s.a.value.state in
    let new_a = holding_of c.clear.new.node.state in
    cleared_as (iter f number e) _ _ _ (iter_held new_a c.keep.new.self) _ refl
    (ap holding_of s.is) refl (clear_iter seen_of f number e a new_a s.so_far c.keep.new.self
    (cleared_as _ _ (holding_of c.deref_mut.result.now.state) a _ _ refl (search rules) refl
    c.clear.ensures)
    (c.keep.ensures.entries (λ start. false) (λ start answer is. search rules)
    ∙ rw s.is (none_kept s.so_far.entries))
    (c.keep.ensures.room ∙ rw s.is refl))

pub clear_compose-returns-in-Compose : goal.clear_compose-returns-in-Compose
unfolding roll-State out-State denote.Hole.Carrier.roll denote.Hole.Carrier.out
clear_compose-returns-in-Compose t c =
    let s = c.in-Compose in
    let f = plain_of c.args.left.now.shape in
    let g = plain_of c.args.right.now.shape in
    let a = holding_of s.a.value.state in
    let cleared = c.clear_idle.new.runners in
    let held = runners_are s.a s.runners in
    cleared_as (compose f g) _ _ _ _ _ refl (ap holding_of s.is ∙ fed_is s.a s.runners)
    (fed_is (record { ptr = s.a.ptr; alloc = s.a.alloc; value = c.clear.new.node }) cleared)
    (clear_compose seen_of f g a (holding_of c.clear.new.node.state) s.runners
    c.keep.new.self cleared
    (cleared_as _ _ (holding_of c.deref_mut.result.now.state) a _ _ refl (search rules) refl
    c.clear.ensures)
    (c.keep.ensures.live (λ start. false) (λ start answer is. search rules)
    ∙ rw s.is (ap (λ (all : Contents Progress). live_instances (λ start. false) all.live) held))
    (c.keep.ensures.idle (λ start. false) (λ start answer is. search rules)
    ∙ rw s.is
    (ap (λ (all : Contents Progress). all.idle ++ retired (λ start. false) all.live) held))
    c.clear_idle.ensures.live c.clear_idle.ensures.idle)

pub clear_idle-idle-preserved : goal.clear_idle-idle-preserved
clear_idle-idle-preserved t c =
    let one = roll-Progress (record {
      node = c.clear.new.node;
      position = c.resting_mut-runner.result.now.position;
      answer = None;
    }) in (
      next_cleared (plain_of c.args.query.now.shape) c.idle.i c.args.runners.now.idle
          c.idle.runners.idle c.resting_mut-runner.result.now one c.idle.invariant.0
          c.resting_mut-runner.ensures.value
          (record { position = refl; answer = refl; node = c.clear.ensures }),
      c.idle.invariant.1,
      length-set c.idle.runners.idle c.idle.i one ∙ c.idle.invariant.2,
      c.idle.invariant.3,
    )
