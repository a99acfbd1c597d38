-- By induction on the query.
use Rattle.query_model.proofs.Decided.{value_or_none}
use Rattle.query_model.proofs.laws.each_word_has_a_value_or_none.Goals as goal

pub returns : goal.returns
returns c = value_or_none
