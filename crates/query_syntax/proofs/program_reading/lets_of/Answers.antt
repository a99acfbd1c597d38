use Rattle.query_syntax.specs.Files.{let_before}
use Rattle.query_syntax.specs.Plain.{plain_let}
use Rattle.query_syntax.proofs.Lists.{more_before}
use Rattle.query_syntax.proofs.program_reading.lets_of.Goals as goal

pub terms-preserved : goal.terms-preserved
terms-preserved c =
    more_before (λ one. let_before (plain_let one)) c.args.terms.now c.terms.term-index
    c.term-item.result c.terms.lets.items c.push.new.self.items
    c.in_ok-let_of.field-0 c.terms-test.true c.term-item.is c.in_ok-push.ensures.items
    c.terms.invariant c.in_ok-let_of.ensures
