use Rattle.key_routes.proofs.Sending.{divided}
use Rattle.key_routes.proofs.laws.keys_can_be_divided.Goals as goal

pub returns : goal.returns
returns c = divided
