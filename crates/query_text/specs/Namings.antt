-- For the prover. What fields are called, as it lies in memory.
use Rattle.query_text.specs.Names as plain
use Rattle.query_text.specs.declared.naming.Naming.{Naming}
use Rattle.query_text.specs.declared.naming.Naming.TheVariants.{Columns, Values}

abbrev pub naming_of : Naming → plain.Naming
naming_of (Columns columns) = plain.of_columns columns.now
naming_of (Values width) = plain.of_values width
