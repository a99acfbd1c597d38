-- Statement. The texts that are written. Each is one line and ends with an LF.
use Rattle.std.specs.Prelude.{ℕ, zero, suc, ◌+◌, ◌/◌, ◌%◌, ◌==◌, ◌&&◌, ◌||◌, not, nat_le, nat_lt}
use Rattle.std.specs.Prelude.{List, [], ◌∷◌, ◌++◌, codes, decimal, Option, Some, None}
use Rattle.std.specs.Prelude.{if◌then◌else◌}
use Rattle.std.specs.Fmt.{signed_decimal}
use Rattle.std.specs.List.{flat_map, join_by}
use Rattle.value_ops.specs.declared.scalar.Scalar.{Scalar}
use Rattle.value_ops.specs.declared.scalar.Scalar.TheVariants.{Number, Overflow, DivZero}
use Rattle.value_ops.specs.declared.value.Value.{Value}
use Rattle.value_ops.specs.declared.value.Value.TheVariants as value
use Rattle.line_reader.specs.declared.stop.Cause.{Cause}
use Rattle.line_reader.specs.declared.stop.Cause.TheVariants as cause
use Rattle.line_reader.specs.declared.stop.Skip.{Skip}
use Rattle.language_base.specs.declared.refusal.Refusal.{Refusal}
use Rattle.language_base.specs.declared.rule.Rule.{Rule}
use Rattle.language_base.specs.declared.rule.Rule.TheVariants.{Long, Token, Term, Depth, Form, Name}
use Rattle.language_base.specs.declared.rule.Rule.TheVariants.{Nested, Size, Literal, Mismatch}
use Rattle.language_base.specs.declared.rule.Rule.TheVariants.{Cells, Empty, Choice, Split, Iter}
use Rattle.language_base.specs.declared.rule.Rule.TheVariants.{Reach, Rates, Compose}

-- a number, or why there is none
abbrev pub scalar_text : Scalar → List ℕ
scalar_text (Number number) = signed_decimal number
scalar_text Overflow = codes "overflow"
scalar_text DivZero = codes "divzero"

-- an upper-case hexadecimal digit
abbrev pub hex_digit : ℕ → ℕ
hex_digit digit = if nat_lt digit 10 then 48 + digit else 55 + digit

-- a byte of a key: from a space to `~` as it is, but for the quote and the backslash, and every
-- other byte by its two digits
abbrev pub byte_text : ℕ → List ℕ
byte_text byte =
    if nat_le 32 byte && nat_le byte 126 && not (byte == 34 || byte == 92) then byte ∷ []
    else codes "\\x" ++ hex_digit (byte / 16) ∷ hex_digit (byte % 16) ∷ []

-- a key with its quotes
abbrev pub key_text : List ℕ → List ℕ
key_text key = 34 ∷ flat_map byte_text key ++ 34 ∷ []

-- an entry: its key, a colon and its scalar
abbrev pub entry_text : List ℕ × Scalar → List ℕ
entry_text entry = key_text entry.0 ++ codes ":" ++ scalar_text entry.1

-- entries, with a comma between them
abbrev pub entries_text : List (List ℕ × Scalar) → List ℕ
entries_text [] = []
entries_text (entry ∷ []) = entry_text entry
entries_text (entry ∷ others) = entry_text entry ++ codes "," ++ entries_text others

-- entries in braces
abbrev pub table_text : List (List ℕ × Scalar) → List ℕ
table_text entries = codes "{" ++ entries_text entries ++ codes "}"

-- the parts of a record, with a comma between them
abbrev pub parts_text : List Scalar → List ℕ
parts_text parts = join_by scalar_text (codes ",") parts

-- the same between parentheses
abbrev pub record_text : List Scalar → List ℕ
record_text parts = codes "(" ++ parts_text parts ++ codes ")"

-- a scalar, a record or a table
abbrev pub value_text : Value → List ℕ
value_text (value.Scalar scalar) = scalar_text scalar
value_text (value.Rec parts) = record_text parts
value_text (value.Table entries) = table_text entries

-- a value, or that there is none
abbrev pub answer_text : Option Value → List ℕ
answer_text (Some value) = value_text value ++ codes "\n"
answer_text None = codes "undefined\n"

-- a cause by its name
abbrev pub cause_name : Cause → List ℕ
cause_name cause.Long = codes "long"
cause_name cause.Cr = codes "cr"
cause_name cause.Columns = codes "columns"
cause_name cause.Number = codes "number"
cause_name cause.Range = codes "range"
cause_name cause.Digits = codes "digits"

-- a line that is left out: the cause, and the column
abbrev pub skip_text : Skip → List ℕ
skip_text skip =
    codes "skipped " ++ cause_name skip.cause ++ codes " " ++ decimal skip.column ++ codes "\n"

-- a rule by its name
abbrev pub rule_name : Rule → List ℕ
rule_name Long = codes "long"
rule_name Token = codes "token"
rule_name Term = codes "term"
rule_name Depth = codes "depth"
rule_name Form = codes "form"
rule_name Name = codes "name"
rule_name Nested = codes "nested"
rule_name Size = codes "size"
rule_name Literal = codes "literal"
rule_name Mismatch = codes "type"
rule_name Cells = codes "cells"
rule_name Empty = codes "empty"
rule_name Choice = codes "choice"
rule_name Split = codes "split"
rule_name Iter = codes "iter"
rule_name Reach = codes "reach"
rule_name Rates = codes "rates"
rule_name Compose = codes "compose"

-- a query that is refused: the rule, and where its place begins and ends
abbrev pub refusal_text : Refusal → List ℕ
refusal_text refusal =
    codes "refused " ++ rule_name refusal.rule ++ codes " " ++ decimal refusal.span.from
    ++ codes ".." ++ decimal refusal.span.to ++ codes "\n"

-- a query that is accepted
abbrev pub check_text : List ℕ
check_text = codes "ok\n"

-- a bound: how many starts of a query may live at one time, and how much is kept for them
abbrev pub bound_text : ℕ → ℕ → List ℕ
bound_text places slots =
    codes "places " ++ decimal places ++ codes " slots " ++ decimal slots ++ codes "\n"

-- the last of this many answers, without its LF, if there is one
abbrev pub last_text : ℕ → Option Value → List ℕ
last_text zero value = codes "none"
last_text (suc answers) (Some value) = value_text value
last_text (suc answers) None = codes "undefined"

-- a drill: how many items there were, after how many of them there was a value, and the last answer
abbrev pub drill_text : ℕ → ℕ → Option Value → List ℕ
drill_text items defined last =
    codes "items " ++ decimal items ++ codes " defined " ++ decimal defined
    ++ codes " last " ++ last_text items last ++ codes "\n"
