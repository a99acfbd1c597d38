use Rattle.std.proofs.Common.{ap}
use Rattle.map_collect.proofs.Names.{found_there, none_there}
use Rattle.map_collect.proofs.keyed.Keyed.place.Goals as goal

pub returns-clause-there : goal.returns-clause-there
returns-clause-there g c =
    found_there _ c.args.key.now c.self.inside.names.keys _ c.get_index_of.ensures.index
    (ap (λ seen. seen.names) c.self.view_is)

pub returns-clause-none : goal.returns-clause-none
returns-clause-none g c =
    none_there _ c.args.key.now c.self.inside.names.keys _ c.get_index_of.ensures.index
    (ap (λ seen. seen.names) c.self.view_is)
