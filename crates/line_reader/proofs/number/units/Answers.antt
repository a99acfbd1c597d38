use Rattle.std.proofs.Common.{◌^◌, ◌-◌, arith}
use Rattle.line_reader.specs.Reading.{fraction_of, whole_of}
use Rattle.line_reader.proofs.Sizes.{units_kept}
use Rattle.line_reader.proofs.number.units.Goals as goal

pub returns : goal.returns
returns c text keeps =
    rw (
      c.saturating_mul.ensures,
      keeps.size,
      c.saturating_pow.ensures,
      c.from.ensures,
      keeps.places,
    )
    (units_kept (2 ^ 64 - 1) c.args.places (whole_of text) (fraction_of text) (omega arith)
    (omega (arith, c.requires, keeps.places)))
