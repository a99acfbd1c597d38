-- For the prover. What is kept of the text of a decimal number.
use Rattle.std.specs.Prelude.{◌≡◌, ℕ, ◌-◌, ◌^◌, List, length, min}
use Rattle.std.specs.Str.Parse.{digits_value, digits_value_after}
use Rattle.line_reader.specs.Reading.{fraction_of, whole_of}
use Rattle.line_reader.specs.declared.number.Decimal.{Decimal}

-- what its digits write without the point, or the greatest of 64 bits, and how many stand after it
pub record KeepsDecimal (text : List ℕ) (decimal : Decimal) : Type 0 where
  pub size : decimal.size
      ≡ min (digits_value_after 10 (digits_value 10 (whole_of text)) (fraction_of text))
      (2 ^ 64 - 1)
  pub places : decimal.places ≡ length (fraction_of text)
