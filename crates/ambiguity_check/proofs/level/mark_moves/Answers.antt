use Rattle.ambiguity_check.proofs.Moving.{moves_one, moves_two}
use Rattle.ambiguity_check.proofs.level.mark_moves.Goals as goal

pub returns-in-Some : goal.returns-in-Some
returns-in-Some g c =
    moves_two c.args.moves c.in-Some.turn _ _ _ _ _ _ _ c.in-Some.is c.mark_move.ensures
    c.mark_move-in-Some.ensures

pub returns-in_default : goal.returns-in_default
returns-in_default g c = moves_one c.args.moves _ _ _ _ _ c.in_default.is c.mark_move.ensures
