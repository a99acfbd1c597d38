use Rattle.query_tokens.proofs.OneWay.{one_place}
use Rattle.query_tokens.proofs.laws.one_fault.Goals as goal

pub returns : goal.returns
returns c = one_place
