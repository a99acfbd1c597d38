use Rattle.std.proofs.Common.{refl, arith}
use Rattle.query_syntax.proofs.Fitting.{item_fits}
use Rattle.query_syntax.proofs.program_reading.name_and_query.Goals as goal

pub name_of-requires : goal.name_of-requires
name_of-requires c =
    item_fits _ _ _ 0 _ c.requires (omega (arith, c.requires.as_many)) c.name-item.is refl

pub boxed_query-requires : goal.boxed_query-requires
boxed_query-requires c =
    item_fits _ _ _ 1 _ c.requires (omega (arith, c.requires.as_many)) c.query-item.is refl
