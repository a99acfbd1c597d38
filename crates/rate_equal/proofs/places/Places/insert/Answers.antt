use Rattle.rate_equal.proofs.PlaceSets.{adds_place}
use Rattle.rate_equal.proofs.places.Places.insert.Goals as goal

pub returns : goal.returns
returns c = adds_place _ _ c.args.place (rw c.only.ensures at c.insert_all.ensures)
