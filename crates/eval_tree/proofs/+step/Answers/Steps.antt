-- The shape of the query is known, and its operands are those of the callee.
use Rattle.std.proofs.Common.{Ok, Some, ap, refl, rules, sym, w64, ℕ, ◌∙◌}
use Rattle.std.specs.Prelude.{ℤ, FitsSigned}
use Rattle.std.proofs.lemmas.Int.{to_z-of_z}
use Rattle.expressions.specs.Expressions as values
use Rattle.predicates.specs.Plain as predicates
use Rattle.rate_expr.specs.Plain as rates
use Rattle.query_model.specs.declared.query.Shape.TheViews.{the_lemmas}
use Rattle.query_model.specs.Queries.{collect, iter, plain_of}
use Rattle.eval_nodes.specs.Plain.{holding_of}
use Rattle.eval_nodes.proofs.Same.{same_query}
use Rattle.step_laws.proofs.Arms.{can_start_as, can_step_as, number_hit, started_as, started_from}
use Rattle.step_laws.proofs.Arms.{stepped_as, stepped_from}
use Rattle.step_laws.proofs.PlainArms.{eps_starts, eps_steps}
use Rattle.eval_tree.proofs.+step.Goals as goal
use Rattle.eval_tree.proofs.+step.Goals.{steps::start_into-In-Eps, steps::start_into-In-Iter}

pub steps::start_into-start_atom-requires : goal.steps::start_into-start_atom-requires
steps::start_into-start_atom-requires t c =
    let s = c.in-Atom in
    let pred = predicates.plain_of s.field-0 in
    let e = values.plain_of s.field-1 in
    let same = ap plain_of s.is in
    (pred, e, can_start_as _ _ _ _ c.args.at (sym same) refl c.requires.can)

pub steps::start_into-returns-in-Atom : goal.steps::start_into-returns-in-Atom
steps::start_into-returns-in-Atom t c =
    let s = c.in-Atom in
    let pred = predicates.plain_of s.field-0 in
    let e = values.plain_of s.field-1 in
    let same = ap plain_of s.is in
    started_as _ _ _ _ _ _ c.args.at _ _ same refl refl (ap Ok c.requires.none)
    (c.start_atom.ensures pred e)

number_fits : (t : ℕ) (c : steps::start_into-In-Eps t) → FitsSigned w64 c.in-Eps.number
number_fits t c = search rules

pub steps::start_into-returns-in-Eps : goal.steps::start_into-returns-in-Eps
steps::start_into-returns-in-Eps t c =
    let s = c.in-Eps in
    let fits = number_fits t (goal.at.steps::start_into-returns-in-Eps t c).In-Eps in
    started_as _ _ _ _ _ _ c.args.at _ _ (ap plain_of s.is) refl refl
    (ap Ok (c.put_number.ensures ∙ ap Some (number_hit _ _ _ fits refl)))
    (eps_starts s.number fits (holding_of c.args.node.now.state) c.args.at)

iter_number_fits : (t : ℕ) (c : steps::start_into-In-Iter t) → FitsSigned w64 c.in-Iter.number
iter_number_fits t c = search rules

pub steps::start_into-start_iter-requires : goal.steps::start_into-start_iter-requires
steps::start_into-start_iter-requires t c =
    let s = c.in-Iter in
    let e = values.plain_of s.field-2 in
    let fits = iter_number_fits t (goal.at.steps::start_into-start_iter-requires t c).In-Iter in
    let fixed = to_z-of_z w64 s.number fits in
    let same = ap plain_of s.is
    ∙ ap (λ f. iter f s.number e) (same_query _ _ c.deref-in-Iter.ensures)
    ∙ ap (λ (n : ℤ). iter (plain_of c.deref-in-Iter.result.now.shape) n e) (sym fixed) in (
      search (rules, the_lemmas),
      (c.requires.none, (e, can_start_as _ _ _ _ c.args.at (sym same) refl c.requires.can)),
    )

pub steps::start_into-returns-in-Iter : goal.steps::start_into-returns-in-Iter
steps::start_into-returns-in-Iter t c =
    let s = c.in-Iter in
    let e = values.plain_of s.field-2 in
    let fits = iter_number_fits t (goal.at.steps::start_into-returns-in-Iter t c).In-Iter in
    let fixed = to_z-of_z w64 s.number fits in
    let same = ap plain_of s.is
    ∙ ap (λ f. iter f s.number e) (same_query _ _ c.deref-in-Iter.ensures)
    ∙ ap (λ (n : ℤ). iter (plain_of c.deref-in-Iter.result.now.shape) n e) (sym fixed) in
    started_from _ _ _ _ _ c.args.at _ same refl (c.start_iter.ensures e)

pub steps::start_into-start_collect-requires : goal.steps::start_into-start_collect-requires
steps::start_into-start_collect-requires t c =
    let s = c.in-Collect in
    let sync = predicates.plain_of s.field-1 in
    let rate = rates.plain_of s.field-2 in
    let same = ap plain_of s.is
    ∙ ap (λ f. collect s.field-0 sync rate f) (same_query _ _ c.deref-in-Collect.ensures) in (
      search (rules, the_lemmas),
      (
        c.requires.none,
        (s.field-0, sync, rate, can_start_as _ _ _ _ c.args.at (sym same) refl c.requires.can),
      ),
    )

pub steps::start_into-returns-in-Collect : goal.steps::start_into-returns-in-Collect
steps::start_into-returns-in-Collect t c =
    let s = c.in-Collect in
    let sync = predicates.plain_of s.field-1 in
    let rate = rates.plain_of s.field-2 in
    let same = ap plain_of s.is
    ∙ ap (λ f. collect s.field-0 sync rate f) (same_query _ _ c.deref-in-Collect.ensures) in
    started_from _ _ _ _ _ c.args.at _ same refl (c.start_collect.ensures s.field-0 sync rate)

pub steps::step_into-step_atom-requires : goal.steps::step_into-step_atom-requires
steps::step_into-step_atom-requires t c =
    let s = c.in-Atom in
    let same = ap plain_of s.is in
    record {
      none = c.requires.none;
      can = (
        c.args.now,
        can_step_as _ _ _ _ c.args.now c.args.item.now (sym same) refl c.requires.can,
      );
    }

pub steps::step_into-returns-in-Atom : goal.steps::step_into-returns-in-Atom
steps::step_into-returns-in-Atom t c =
    let s = c.in-Atom in
    let same = ap plain_of s.is in
    stepped_from _ _ _ _ _ c.args.now c.args.item.now _ same refl (c.step_atom.ensures c.args.now)

pub steps::step_into-returns-in-Eps : goal.steps::step_into-returns-in-Eps
steps::step_into-returns-in-Eps t c =
    stepped_as _ _ _ _ _ _ c.args.now c.args.item.now _ _ (ap plain_of c.in-Eps.is) refl refl
    (ap Ok c.requires.none)
    (eps_steps c.in-Eps.field-0 (holding_of c.args.node.now.state) c.args.now c.args.item.now)

pub steps::step_into-step_iter-requires : goal.steps::step_into-step_iter-requires
steps::step_into-step_iter-requires t c =
    let s = c.in-Iter in
    let e = values.plain_of s.expression in
    let same = ap plain_of s.is
    ∙ ap (λ f. iter f s.field-1 e) (same_query _ _ c.deref-in-Iter.ensures) in (
      search (rules, the_lemmas),
      (
        c.requires.none,
        (s.field-1, can_step_as _ _ _ _ c.args.now c.args.item.now (sym same) refl c.requires.can),
      ),
    )

pub steps::step_into-returns-in-Iter : goal.steps::step_into-returns-in-Iter
steps::step_into-returns-in-Iter t c =
    let s = c.in-Iter in
    let e = values.plain_of s.expression in
    let same = ap plain_of s.is
    ∙ ap (λ f. iter f s.field-1 e) (same_query _ _ c.deref-in-Iter.ensures) in
    stepped_from _ _ _ _ _ c.args.now c.args.item.now _ same refl (c.step_iter.ensures s.field-1)

pub steps::step_into-step_collect-requires : goal.steps::step_into-step_collect-requires
steps::step_into-step_collect-requires t c =
    let s = c.in-Collect in
    let sync = predicates.plain_of s.sync in
    let rate = rates.plain_of s.field-2 in
    let same = ap plain_of s.is
    ∙ ap (λ f. collect s.columns sync rate f) (same_query _ _ c.deref-in-Collect.ensures)
    ∙ ap (λ chosen. collect chosen sync rate (plain_of c.deref-in-Collect.result.now.shape))
    (sym c.as_slice.ensures.columns) in
    let can = can_step_as _ _ _ _ c.args.now c.args.item.now (sym same) refl c.requires.can in
    (search (rules, the_lemmas), (c.requires.none, (rate, c.args.now, can)))

pub steps::step_into-returns-in-Collect : goal.steps::step_into-returns-in-Collect
steps::step_into-returns-in-Collect t c =
    let s = c.in-Collect in
    let sync = predicates.plain_of s.sync in
    let rate = rates.plain_of s.field-2 in
    let same = ap plain_of s.is
    ∙ ap (λ f. collect s.columns sync rate f) (same_query _ _ c.deref-in-Collect.ensures)
    ∙ ap (λ chosen. collect chosen sync rate (plain_of c.deref-in-Collect.result.now.shape))
    (sym c.as_slice.ensures.columns) in
    stepped_from _ _ _ _ _ c.args.now c.args.item.now _ same refl
    (c.step_collect.ensures rate c.args.now)

pub steps::start_only-start_into-requires : goal.steps::start_only-start_into-requires
steps::start_only-start_into-requires t c = (search rules, (refl, c.requires))

pub steps::start_only-returns : goal.steps::start_only-returns
steps::start_only-returns t c = (c.start_into.new.hit, c.start_into.ensures)
