-- By induction on the query.
use Rattle.query_model.proofs.Unique.{one_value}
use Rattle.query_model.proofs.laws.a_word_has_at_most_one_value.Goals as goal

pub returns : goal.returns
returns c = one_value
