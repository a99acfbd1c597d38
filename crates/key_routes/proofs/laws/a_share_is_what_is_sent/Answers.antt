use Rattle.key_routes.proofs.Sending.{share_sent}
use Rattle.key_routes.proofs.laws.a_share_is_what_is_sent.Goals as goal

pub returns : goal.returns
returns c = share_sent
