-- For the prover. The text of a field, however it is kept.
use Rattle.std.specs.Prelude.{ℕ, List}
use Rattle.line_reader.specs.declared.text.Text.{Text}
use Rattle.line_reader.specs.declared.text.Text.TheVariants.{Part, Copy}

-- its bytes
abbrev pub bytes_of : Text → List ℕ
bytes_of (Part bytes) = bytes.now
bytes_of (Copy bytes) = bytes.items
