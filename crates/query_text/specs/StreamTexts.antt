-- For the prover. The lines of a file, each by itself.
use Rattle.std.specs.Prelude.{ℕ, ◌+◌, pos, codes, Bool, true, false, List, [], ◌∷◌, ◌++◌}
use Rattle.std.specs.Fmt.{signed_decimal}
use Rattle.std.specs.List.{flat_map}
use Rattle.item_schema.specs.Layout.{Layout}
use Rattle.item_schema.specs.declared.column.Column.{Column}
use Rattle.item_schema.specs.declared.column.Kind.{Kind}
use Rattle.item_schema.specs.declared.column.Kind.TheVariants.{Int, Fixed, Text, Number, Table}
use Rattle.query_text.specs.Forms.{both, called}
use Rattle.query_text.specs.Names.{let_name}

-- a column
abbrev pub kind_text : Kind → List ℕ
kind_text Int = codes "int"
kind_text (Fixed digits) = called (codes "fixed") (signed_decimal (pos digits))
kind_text Text = codes "text"
kind_text Number = codes "int"
kind_text Table = codes "int"

abbrev pub column_text : Column → List ℕ
column_text column = called (codes "col") (both column.name (kind_text column.kind))

-- columns after a mode
abbrev pub columns_text : List Column → List ℕ
columns_text columns = flat_map (λ column. codes ", " ++ column_text column) columns

-- whether a header line comes first
abbrev pub mode_text : Bool → List ℕ
mode_text true = codes "header"
mode_text false = codes "plain"

-- the stream
abbrev pub stream_text : Layout → List ℕ
stream_text layout =
    called (codes "stream") (mode_text layout.has_header ++ columns_text layout.columns)
    ++ codes "\n"

-- a let
abbrev pub let_text : ℕ → List ℕ → List ℕ
let_text place text = called (codes "let") (both (let_name place) text) ++ codes "\n"

-- lets, the first of which has this place
abbrev pub lets_text : ℕ → List (List ℕ) → List ℕ
lets_text place [] = []
lets_text place (text ∷ texts) = let_text place text ++ lets_text (place + 1) texts

-- the main query
abbrev pub main_text : ℕ → List ℕ
main_text place = called (codes "main") (let_name place) ++ codes "\n"
