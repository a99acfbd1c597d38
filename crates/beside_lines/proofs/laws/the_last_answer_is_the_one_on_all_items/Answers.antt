use Rattle.beside_lines.proofs.LastItems.{last_item}
use Rattle.beside_lines.proofs.laws.the_last_answer_is_the_one_on_all_items.Goals as goal

pub returns : goal.returns
returns c = last_item
