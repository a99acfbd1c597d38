-- The counted numbers answer as the whole ones would.
use Rattle.std.proofs.Common.{◌∙◌, arith}
use Rattle.query_model.specs.Queries.{plain_of}
use Rattle.query_rewrite.proofs.Rooms.{turn_counted}
use Rattle.query_rewrite.proofs.turning.can_turn.Goals as goal

pub returns : goal.returns
returns c =
    turn_counted (plain_of c.args.middle.now.shape) (plain_of c.args.last.now.shape)
    c.has_empty_word.result c.from-3.result c.from-4.result c.from.result c.from-2.result
    c.saturating_mul-runners.result c.saturating_add.result c.if-has_empty_word.false
    c.has_empty_word.ensures (c.from-3.ensures ∙ c.width.ensures)
    (c.from-4.ensures ∙ c.width-2.ensures) (omega arith)
    (c.from.ensures ∙ c.places.ensures) (c.from-2.ensures ∙ c.slots.ensures)
    c.saturating_mul-runners.ensures c.saturating_add.ensures
