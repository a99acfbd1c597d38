use Rattle.dead_example.proofs.Reading.{read_all}
use Rattle.dead_example.proofs.laws.ending_lines_are_read_to_their_items.Goals as goal

pub returns : goal.returns
returns c = λ columns word lines are is of. read_all columns word lines are is of
