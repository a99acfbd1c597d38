use Rattle.query_templates.proofs.OriginPlaces.{law}
use Rattle.query_templates.proofs.origin_laws.origins_are_of_the_plain_nodes.Goals as goal

pub returns : goal.returns
returns c = law
