use Rattle.dead_example.proofs.Values.{leads_to_value}
use Rattle.dead_example.proofs.laws.going_on_leads_to_values.Goals as goal

pub returns : goal.returns
returns c = leads_to_value
