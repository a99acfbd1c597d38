use Rattle.std.proofs.Common.{◌∙◌, ap}
use Rattle.map_collect.proofs.Starts.{found_there, none_there}
use Rattle.map_collect.proofs.tracks.Tracks.place.Goals as goal

pub returns-clause-there : goal.returns-clause-there
returns-clause-there g c =
    found_there _ _ _ _ c.place_of.ensures
    (c.deref.ensures.value ∙ ap (λ seen. seen.tracks) c.self.view_is)

pub returns-clause-none : goal.returns-clause-none
returns-clause-none g c =
    none_there _ _ _ _ c.place_of.ensures
    (c.deref.ensures.value ∙ ap (λ seen. seen.tracks) c.self.view_is)
