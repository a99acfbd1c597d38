-- For the prover. The rows that the tables of the program hold.
use Rattle.query_syntax.specs.Rows as rows
use Rattle.query_syntax.specs.declared.head_table.Row.{Row}

-- a row as plain lists
abbrev pub shown : {H : Type 0} → Row H → rows.Row H
shown row = record { is = row.0; word = row.1.now; count = row.2 }
