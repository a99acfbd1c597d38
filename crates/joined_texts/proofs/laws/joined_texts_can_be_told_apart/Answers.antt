-- The texts go on together, byte by byte.
use Rattle.joined_texts.proofs.Told.{joined_same}
use Rattle.joined_texts.proofs.laws.joined_texts_can_be_told_apart.Goals as goal

pub returns : goal.returns
returns c = joined_same
