use Rattle.std.proofs.Common.{[], map, sym, subst}
use Rattle.query_syntax.specs.Plain.{plain_let, plain_program}
use Rattle.query_lets.specs.Places.{AreNamedApart}
use Rattle.query_lets.proofs.Replacing.{lets_right, named_apart}
use Rattle.query_lets.proofs.scope.places_of.Goals as goal

pub places_in-requires : goal.places_in-requires
places_in-requires c =
    let program = plain_program c.args.program.now in
    subst (λ l. AreNamedApart [] (map plain_let l)) (sym c.deref.ensures.value)
    (named_apart [] program.lets program.main.query (lets_right program c.requires))

pub returns : goal.returns
returns c = rw c.deref.ensures.value at c.places_in.ensures
