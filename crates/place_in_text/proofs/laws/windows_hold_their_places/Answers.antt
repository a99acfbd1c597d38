use Rattle.place_in_text.proofs.Shares.{windows}
use Rattle.place_in_text.proofs.laws.windows_hold_their_places.Goals as goal

pub returns : goal.returns
returns c = windows
