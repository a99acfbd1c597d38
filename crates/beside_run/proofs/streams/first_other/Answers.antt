use Rattle.std.proofs.Common.{◌≡◌, sym, ap, ◌∙◌, arith}
use Rattle.beside_run.proofs.StreamsApart.{none_in, other_in}
use Rattle.beside_run.proofs.streams.first_other.Goals as goal

pub returns-then-not-is_same-clause-other : goal.returns-then-not-is_same-clause-other
returns-then-not-is_same-clause-other c =
    other_in c.args.queries.now c.first-item.result c.index-others-at.result c.others.at
    c.first-item.is c.in-len1-up.len_at_least c.others.invariant c.others-test.true
    (λ is.
    let same : c.schema-in-others.result.now ≡ c.schema.result.now =
    c.schema-in-others.ensures.schema
    ∙ ap (λ q. q.layout) c.deref-in-others.ensures
    ∙ ap (λ b. b.value.layout) c.index-others-at.is
    ∙ is
    ∙ sym (c.schema.ensures.schema ∙ ap (λ q. q.layout) c.deref.ensures) in
    absurd (cc (c.if-not-is_same.ensures.1 same)))

pub returns-clause-none : goal.returns-clause-none
returns-clause-none c =
    let over = c.others-test.false in
    let end = c.others.auto.at-end in
    none_in c.args.queries.now c.first-item.result c.others.at c.first-item.is
    c.in-len1-up.len_at_least c.others.invariant (omega (arith, over, end))
