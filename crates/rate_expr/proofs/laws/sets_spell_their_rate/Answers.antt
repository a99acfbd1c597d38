use Rattle.rate_expr.proofs.SetsOf.{sets_spell}
use Rattle.rate_expr.proofs.laws.sets_spell_their_rate.Goals as goal

pub returns : goal.returns
returns c = sets_spell
