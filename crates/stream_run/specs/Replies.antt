-- Statement. What may be written for lines, whichever values their items have: a text for each
-- line.
use Rattle.std.specs.Prelude.{◌≡◌, ℕ, List, [], ◌∷◌, ◌++◌, Option, Result}
use Rattle.io_edge.specs.Lines.{Shown}
use Rattle.value_ops.specs.declared.field.Field.{Field}
use Rattle.value_ops.specs.declared.value.Value.{Value}
use Rattle.item_schema.specs.Layout.{Layout}
use Rattle.item_schema.specs.declared.column.Column.{Column}
use Rattle.line_reader.specs.declared.stop.Skip.{Skip}
use Rattle.stream_run.specs.Output.{body_of, read_of, reply_to}

-- this text replies to a line that was read to this, for some value or none
abbrev pub IsReply : Option (Result (List Field) Skip) → List ℕ → Type 0
IsReply read text = (value : Option Value) × (text ≡ reply_to read value)

-- this text has a reply to each of these lines, in their order, and nothing more
abbrev pub AreReplies : List Column → List Shown → List ℕ → Type 0
AreReplies columns [] text = text ≡ []
AreReplies columns (line ∷ lines) text = (reply : List ℕ) × (others : List ℕ)
    × IsReply (read_of columns line) reply × AreReplies columns lines others
    × (text ≡ reply ++ others)

-- the same of the lines of a stream; the header has no reply
abbrev pub AreRepliesTo : Layout → List Shown → List ℕ → Type 0
AreRepliesTo layout lines text = AreReplies layout.columns (body_of layout.has_header lines) text
