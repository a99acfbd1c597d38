use Rattle.query_lets.proofs.Bound.{outline_found, outline_of_name}
use Rattle.query_lets.proofs.outline.+query_outline.Goals as goal

pub returns-in-Some : goal.returns-in-Some
returns-in-Some t c = λ bindings are.
    outline_found c.args.outlines.now bindings are c.args.query.now c.in-Name.name c.in-Name.is
    c.as_slice.result c.as_slice.ensures
    c.get.result c.get.ensures.value c.in-Some.outline c.in-Some.is

pub returns-in-None : goal.returns-in-None
returns-in-None t c = λ bindings are.
    outline_of_name c.args.outlines.now bindings are c.args.query.now c.in-Name.name c.in-Name.is
    c.as_slice.result c.as_slice.ensures
    c.get.result c.get.ensures.value c.in-None.is
