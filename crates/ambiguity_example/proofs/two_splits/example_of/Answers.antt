use Rattle.std.proofs.Common.{arith}
use Rattle.ambiguity_example.proofs.Counted.{counts_few}
use Rattle.ambiguity_example.proofs.two_splits.example_of.Goals as goal

pub overflow_add-longer : goal.overflow_add-longer
overflow_add-longer c =
    let few = c.requires.few in
    let one = c.count_of-shorter.ensures in
    let other = c.count_of.ensures in
    omega (arith, few, one, other, counts_few c.args.walk.now)
