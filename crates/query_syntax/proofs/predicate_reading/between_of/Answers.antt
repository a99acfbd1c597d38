use Rattle.std.proofs.Common.{refl, ◌∙◌, arith}
use Rattle.query_syntax.proofs.Fitting.{item_fits, is_call, three_terms}
use Rattle.query_syntax.proofs.predicate_reading.between_of.Goals as goal

pub number_of-requires : goal.number_of-requires
number_of-requires c =
    item_fits _ _ _ 1 _ c.requires (omega (arith, c.requires.as_many)) c.low-item.is refl

pub number_of-requires-2 : goal.number_of-requires-2
number_of-requires-2 c =
    item_fits _ _ _ 2 _ c.requires (omega (arith, c.requires.as_many)) c.high-item.is refl

pub name_of-requires : goal.name_of-requires
name_of-requires c =
    item_fits _ _ _ 0 _ c.requires (omega (arith, c.requires.as_many)) c.column-item.is refl

pub returns : goal.returns
returns c =
    is_call _ _ _ _
    (three_terms _ _ _ _ c.requires.as_many c.column-item.is c.low-item.is c.high-item.is
    ∙ (rw (c.in_ok-name_of.ensures, c.number_of.ensures, c.number_of-2.ensures) refl))
