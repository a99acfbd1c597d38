use Rattle.query_tokens.proofs.OneWay.{one_list}
use Rattle.query_tokens.proofs.laws.one_list_of_tokens.Goals as goal

pub returns : goal.returns
returns c = one_list
