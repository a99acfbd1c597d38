use Rattle.query_templates.proofs.Admitting.{is_admitted, is_deep, is_large}
use Rattle.query_templates.proofs.measure.admitted.Goals as goal

pub returns-then-bytes-gt-MAX_TEXT-clause-stopped :
    goal.returns-then-bytes-gt-MAX_TEXT-clause-stopped
returns-then-bytes-gt-MAX_TEXT-clause-stopped c = λ exact is.
    rw c.refused.ensures (is_large c.args.used c.args.extent exact c.args.place
    c.saturating_add-bytes.result is c.saturating_add-bytes.ensures c.if-bytes-gt-MAX_TEXT.true)

pub returns-then-extent-gt-MAX_LEVEL-clause-stopped :
    goal.returns-then-extent-gt-MAX_LEVEL-clause-stopped
returns-then-extent-gt-MAX_LEVEL-clause-stopped c = λ exact is.
    rw c.refused-then-extent-gt-MAX_LEVEL.ensures (is_deep c.args.used c.args.extent exact
    c.args.place c.saturating_add-bytes.result is c.saturating_add-bytes.ensures
    c.if-bytes-gt-MAX_TEXT.false c.if-extent-gt-MAX_LEVEL.true)

pub returns-clause-admitted : goal.returns-clause-admitted
returns-clause-admitted c = λ exact is.
    is_admitted c.args.used c.args.extent exact c.args.place c.saturating_add-bytes.result is
    c.saturating_add-bytes.ensures c.if-bytes-gt-MAX_TEXT.false c.if-extent-gt-MAX_LEVEL.false
