use Rattle.rate_expr.specs.Plain.{plain_of}
use Rattle.rate_expr.specs.Rates.{size_of}
use Rattle.dump_fits.proofs.Masks.{fits_mask}
use Rattle.dump_fits.proofs.states.fits_state.Goals as goal

pub returns-in-At : goal.returns-in-At
returns-in-At c =
    rw c.in-At.is (fits_mask c.in-At.mask c.end_of.result c.positions.result
    (size_of (plain_of c.args.rate.now)) c.end_of.ensures.few c.end_of.ensures.above
    c.end_of.ensures.least c.positions.ensures)
