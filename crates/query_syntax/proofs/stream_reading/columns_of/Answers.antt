use Rattle.query_syntax.specs.Files.{column_before}
use Rattle.query_syntax.proofs.Lists.{more_before}
use Rattle.query_syntax.proofs.stream_reading.columns_of.Goals as goal

pub terms-preserved : goal.terms-preserved
terms-preserved c =
    more_before column_before c.args.terms.now c.terms.term-index c.term-item.result
    c.terms.columns.items c.push.new.self.items c.in_ok-column_of.field-0 c.terms-test.true
    c.term-item.is c.in_ok-push.ensures.items c.terms.invariant c.in_ok-column_of.ensures
