use Rattle.query_tokens.proofs.OneWay.{one_string}
use Rattle.query_tokens.proofs.laws.one_text.Goals as goal

pub returns : goal.returns
returns c = one_string
