-- Statement. What a run writes that goes on after a word of items: the answers of what the query
-- means from there on.
use Rattle.std.specs.Prelude.{◌≡◌, ◌⊎◌, ℕ, Bool, true, false, List, [], ◌∷◌, ◌++◌, if◌then◌else◌}
use Rattle.io_edge.specs.Lines.{lines}
use Rattle.item_schema.specs.Layout.{Layout}
use Rattle.rate_expr.specs.Words.{Word}
use Rattle.stream_run.specs.Meanings.{Meaning}
use Rattle.stream_run.specs.Output.{answers, items_of}

-- how the items lie in the lines to come; once a line has come, none of these is the header
abbrev pub layout_after : Layout → Bool → Layout
layout_after layout began =
    record layout { has_header = if began then false else layout.has_header }

-- what the query means from a word on: the value on a word is that on the first word and this one
-- after it
abbrev pub meaning_after : Meaning → Word → Bool → Meaning
meaning_after meaning word began = record {
  layout = layout_after meaning.layout began;
  value = λ more. meaning.value (word ++ more);
}

-- what is written for item bytes that come after a word, and after a line if `began`
abbrev pub output_after : Meaning → Word → Bool → List ℕ → List ℕ
output_after meaning word began bytes =
    answers (meaning_after meaning word began) (lines bytes true)

-- the same for the lines that an LF ends, without a last line that none ends
abbrev pub whole_output_after : Meaning → Word → Bool → List ℕ → List ℕ
whole_output_after meaning word began bytes =
    answers (meaning_after meaning word began) (lines bytes false)

-- the items of such bytes
abbrev pub items_after : Layout → Bool → List ℕ → Word
items_after layout began bytes = items_of (layout_after layout began) (lines bytes true)

-- there are bytes
abbrev pub is_some_byte : List ℕ → Bool
is_some_byte [] = false
is_some_byte (byte ∷ bytes) = true

-- the bytes are empty or end with an LF
abbrev pub EndsLine : List ℕ → Type 0
EndsLine bytes = (bytes ≡ []) ⊎ ((front : List ℕ) × (bytes ≡ front ++ 10 ∷ []))
