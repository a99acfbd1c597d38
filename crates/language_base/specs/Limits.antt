-- Statement. The limits of the language. A value that is equal to its limit is accepted.
use Rattle.std.specs.Prelude.{ℕ}

-- the bytes of a query text
abbrev pub max_text : ℕ
max_text = 65536

-- the levels of a term
abbrev pub max_level : ℕ
max_level = 64

-- the columns of a stream
abbrev pub max_columns : ℕ
max_columns = 32

-- the cells of a stream
abbrev pub max_cells : ℕ
max_cells = 4096

-- the positions of a rate
abbrev pub max_positions : ℕ
max_positions = 128

-- the nodes of a main query, in which each name is replaced by the query of its let
abbrev pub max_nodes : ℕ
max_nodes = 256
