use Rattle.std.proofs.Common.{[], ◌∷◌, codes, refl, arith}
use Rattle.query_forms.specs.declared.term_place.TermPlace.TheVariants.{Kind, Digits}
use Rattle.query_syntax.proofs.Fitting.{item_fits}
use Rattle.query_syntax.proofs.Heads.{one_form}
use Rattle.query_syntax.proofs.stream_reading.fixed_of.Goals as goal

pub digits_of-requires : goal.digits_of-requires
digits_of-requires c =
    let fit = (one_form Kind (codes "fixed") (Digits ∷ []) c.args.word.now c.args.arguments.now refl
    c.requires).1 in
    item_fits _ _ _ 0 _ fit (omega (arith, fit.as_many)) c.digits-item.is refl
