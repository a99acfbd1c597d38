use Rattle.query_templates.proofs.OriginPlaces.{plain_law}
use Rattle.query_templates.proofs.origin_laws.a_plain_file_came_of_no_use.Goals as goal

pub returns : goal.returns
returns c = plain_law
