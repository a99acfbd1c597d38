use Rattle.rate_expr.proofs.Deciding.{in_or_not}
use Rattle.rate_expr.proofs.laws.each_word_is_in_or_not.Goals as goal

pub returns : goal.returns
returns c = in_or_not
