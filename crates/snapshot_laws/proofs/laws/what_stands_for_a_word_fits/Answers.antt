use Rattle.snapshot_laws.proofs.Fitting.{means_fit}
use Rattle.snapshot_laws.proofs.laws.what_stands_for_a_word_fits.Goals as goal

pub returns : goal.returns
returns c = means_fit
