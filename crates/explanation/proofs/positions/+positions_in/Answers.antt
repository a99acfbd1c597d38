use Rattle.explanation.proofs.Counting.{count_found, count_of_name}
use Rattle.explanation.proofs.positions.+positions_in.Goals as goal

pub returns-in-Some : goal.returns-in-Some
returns-in-Some t c = λ bindings are.
    count_found c.args.counted.now bindings are c.args.query.now c.in-Name.name c.in-Name.is
    c.as_slice.result c.as_slice.ensures
    c.get.result c.get.ensures.value c.in-Some.count c.in-Some.is

pub returns-in-None : goal.returns-in-None
returns-in-None t c = λ bindings are.
    count_of_name c.args.counted.now bindings are c.args.query.now c.in-Name.name c.in-Name.is
    c.as_slice.result c.as_slice.ensures
    c.get.result c.get.ensures.value c.in-None.is
