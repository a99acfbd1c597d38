use Rattle.std.proofs.Common.{refl, arith}
use Rattle.query_syntax.proofs.Fitting.{item_fits}
use Rattle.query_syntax.proofs.predicate_reading.equality_of.Goals as goal

pub name_of-requires : goal.name_of-requires
name_of-requires c =
    item_fits _ _ _ 0 _ c.requires (omega (arith, c.requires.as_many)) c.column-item.is refl
