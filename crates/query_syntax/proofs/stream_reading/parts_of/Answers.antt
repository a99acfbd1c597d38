use Rattle.std.proofs.Common.{[], ◌∷◌, codes, refl, arith}
use Rattle.query_forms.specs.declared.term_place.TermPlace.TheVariants.{Column, Kind, Name}
use Rattle.query_syntax.proofs.Fitting.{item_fits}
use Rattle.query_syntax.proofs.Heads.{one_form}
use Rattle.query_syntax.proofs.stream_reading.parts_of.Goals as goal

pub kind_of-kind-requires : goal.kind_of-kind-requires
kind_of-kind-requires c =
    let fit = (one_form Column (codes "col") (Name ∷ Kind ∷ []) c.args.word.now c.args.arguments.now
    refl c.requires).1 in
    item_fits _ _ _ 1 _ fit (omega (arith, fit.as_many)) c.kind-item.is refl

pub name_of-requires : goal.name_of-requires
name_of-requires c =
    let fit = (one_form Column (codes "col") (Name ∷ Kind ∷ []) c.args.word.now c.args.arguments.now
    refl c.requires).1 in
    item_fits _ _ _ 0 _ fit (omega (arith, fit.as_many)) c.name-item.is refl
