-- The scalar that is read is the one at the place.
use Rattle.std.proofs.Common.{◌≡◌, None, pos, slice_get, ◌∙◌, sym}
use Rattle.std.proofs.lemmas.Option.{none-some, slice_get-get_or}
use Rattle.value_ops.specs.declared.rec.Part.TheVariants.{Number}
use Rattle.value_ops.specs.declared.scalar.Scalar.TheVariants.{DivZero}
use Rattle.value_ops.proofs.RecordLaws.{part_read}
use Rattle.value_ops.proofs.rec.Rec.part.Goals as goal

pub unreachable-requires : goal.unreachable-requires
unreachable-requires c =
    let none : slice_get c.args.self.now c.args.place ≡ None =
    part_read c.args.self.now c.self.inside.parts c.self.inside.numbers c.args.place Number (pos 0)
    c.self.view_is c.self.invariant c.requires ∙ sym c.scalar.ensures ∙ c.in-None.is in
    none-some _ (sym none ∙ slice_get-get_or c.args.self.now c.args.place DivZero c.requires)

pub returns : goal.returns
returns c =
    part_read c.args.self.now c.self.inside.parts c.self.inside.numbers c.args.place Number (pos 0)
    c.self.view_is c.self.invariant c.requires ∙ sym c.scalar.ensures ∙ c.in-Some.is
