use Rattle.std.proofs.Common.{ℕ, ◌+◌, ◌∙◌, ◌++◌, ◌∷◌, [], sym, subst, ap, arith}
use Rattle.std.specs.Prelude.{MatchBool}
use Rattle.rate_expr.specs.Sets.{Has}
use Rattle.slow_eval.proofs.Stepping.{IsStepped, step_all, step_more, step_none}
use Rattle.slow_eval.proofs.rates.fronts_by.Goals as goal

pub items-init : goal.items-init
items-init c =
    let sets = c.args.positions.now in
    let word = c.args.word.now in
    subst (λ ways. IsStepped sets word 0 ways c.push.new.self.items) (sym c.first-ways.ensures)
    (subst (IsStepped sets word 0 sets.first)
    (sym (c.in_ok-push.ensures.items
    ∙ ap (λ xs. xs ++ c.nullable.result ∷ []) c.new-fronts.ensures.items
    ∙ ap (λ b. b ∷ []) c.nullable.ensures)) (step_none sets word))

pub items-preserved : goal.items-preserved
items-preserved c =
    let sets = c.args.positions.now in
    let word = c.args.word.now in
    let at = c.items.item-index in
    let ends = c.met-ends.result in
    subst (IsStepped sets word (at + 1) c.after-ways.result) (sym c.in_ok-push-2.ensures.items)
    (step_more sets word at c.items.ways ends c.after-ways.result c.items.fronts.items
    c.item-item.result c.overlap.result c.items.invariant (omega arith) (sym c.item-item.is)
    c.met-ends.ensures c.after-ways.ensures (subst
    (λ l. MatchBool c.overlap.result ((p : ℕ) × Has ends p × Has l p)
    ((p : ℕ) → Has ends p → Has l p → ⊥))
    c.last.ensures c.overlap.ensures))

pub returns : goal.returns
returns c =
    step_all c.args.positions.now c.args.word.now c.items.item-index c.items.ways
    c.items.fronts.items c.items.invariant (omega (arith, c.items-test.false))
