use Rattle.std.proofs.Common.{◌≡◌, ◌++◌, inl, inr, ap, arith, refl, rules, subst}
use Rattle.predicates.specs.Plain as predicates
use Rattle.query_model.specs.Rules.{free}
use Rattle.rate_expr.specs.Plain.{plain_of}
use Rattle.rate_expr.specs.Rates.{preds_of}
use Rattle.rate_expr.specs.declared.rate.Rate.{Rate}
use Rattle.rate_expr.specs.declared.rate.Rate.TheViews.{the_lemmas}
use Rattle.expressions.specs.Expressions.{read}
use Rattle.expressions.specs.declared.expr.Var.TheVariants.{Left}
use Rattle.query_resolver.specs.Findings.{AreAmong}
use Rattle.type_checker.proofs.Asked.{among_back}
use Rattle.type_checker.proofs.SomeMet.{both_met, one_met}
use Rattle.type_checker.proofs.word_rules.+met_rule.Goals as goal

pub empty_rule-requires : goal.empty_rule-requires
empty_rule-requires t c =
    let among = subst (λ (rate : Rate). AreAmong c.args.cells.now (preds_of (plain_of rate)))
    c.in-One.is c.requires in
    among (predicates.plain_of c.in-One.pred) (0, omega arith, refl)

pub returns-in-One : goal.returns-in-One
returns-in-One t c = rw c.in-One.is
    (one_met c.args.cells.now.layout.columns (predicates.plain_of c.in-One.pred) (read Left) _
    (c.empty_rule.ensures free (read Left)))

pub met_rule-requires-in-Seq-2 : goal.met_rule-requires-in-Seq-2
met_rule-requires-in-Seq-2 t c =
    let parts : preds_of (plain_of c.args.rate.now)
    ≡ preds_of (plain_of c.in-Seq.left.value) ++ preds_of (plain_of c.in-Seq.right.value) =
    elim c.in-Seq.is [
      | inl is ↦ ap (λ (rate : Rate). preds_of (plain_of rate)) is
      | inr is ↦ ap (λ (rate : Rate). preds_of (plain_of rate)) is
    ] in
    let among = among_back c.args.cells.now (preds_of (plain_of c.in-Seq.left.value))
    (preds_of (plain_of c.in-Seq.right.value))
    (subst (AreAmong c.args.cells.now) parts c.requires) in
    (search (rules, the_lemmas), rw c.deref-in-Seq-2.ensures among)

pub returns-in-Seq : goal.returns-in-Seq
returns-in-Seq t c =
    let parts : preds_of (plain_of c.args.rate.now)
    ≡ preds_of (plain_of c.in-Seq.left.value) ++ preds_of (plain_of c.in-Seq.right.value) =
    elim c.in-Seq.is [
      | inl is ↦ ap (λ (rate : Rate). preds_of (plain_of rate)) is
      | inr is ↦ ap (λ (rate : Rate). preds_of (plain_of rate)) is
    ] in
    let one = rw c.deref-in-Seq.ensures at c.met_rule-in-Seq.ensures in
    let other = rw c.deref-in-Seq-2.ensures at c.met_rule-in-Seq-2.ensures in
    rw (parts, c.or.ensures) (both_met c.args.cells.now.layout.columns _ _ _ _ one other)
