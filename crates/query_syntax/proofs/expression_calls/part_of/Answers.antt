use Rattle.std.proofs.Common.{refl, arith}
use Rattle.query_syntax.proofs.Fitting.{item_fits}
use Rattle.query_syntax.proofs.expression_calls.part_of.Goals as goal

pub index_of-index-requires : goal.index_of-index-requires
index_of-index-requires c =
    item_fits _ _ _ 1 _ c.requires (omega (arith, c.requires.as_many)) c.index-item.is refl

pub name_of-requires : goal.name_of-requires
name_of-requires c =
    item_fits _ _ _ 0 _ c.requires (omega (arith, c.requires.as_many)) c.whole-item.is refl
