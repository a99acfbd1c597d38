use Rattle.std.proofs.Common.{refl, arith}
use Rattle.query_syntax.proofs.Fitting.{item_fits}
use Rattle.query_syntax.proofs.query_calls.atom_of.Goals as goal

pub boxed_predicate-requires : goal.boxed_predicate-requires
boxed_predicate-requires c =
    item_fits _ _ _ 0 _ c.requires (omega (arith, c.requires.as_many)) c.predicate-item.is refl

pub boxed_expression-requires : goal.boxed_expression-requires
boxed_expression-requires c =
    item_fits _ _ _ 1 _ c.requires (omega (arith, c.requires.as_many)) c.value-item.is refl
