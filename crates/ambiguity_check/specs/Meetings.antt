-- Statement. Which positions of two automata some item meets together.
use Rattle.std.specs.Prelude.{◌≡◌, ◌↔◌, ◌⊎◌, ℕ, List, length, slice_index}
use Rattle.value_ops.specs.declared.field.Field.{Field}
use Rattle.item_schema.specs.declared.column.Column.{Column}
use Rattle.item_schema.specs.Items.{IsItemOf}
use Rattle.rate_expr.specs.Paths.{Meets}
use Rattle.rate_expr.specs.Sets.{Sets, Has}

-- some item of these columns meets both positions
abbrev pub MeetOne : List Column → Sets → Sets → ℕ → ℕ → Type 0
MeetOne columns first second left right =
    (item : List Field) × IsItemOf columns item × Meets first left item × Meets second right item

-- the row of each position of the first has the positions of the second that some item meets
-- together with it
abbrev pub AreMeetings : List Column → Sets → Sets → List ℕ → Type 0
AreMeetings columns first second rows = (left right : ℕ)
    → Has (slice_index rows left) right ↔ MeetOne columns first second left right

-- the positions in the second mask are added to the rows of those in the first, and nothing else
-- changes
pub record IsJoined (old : List ℕ) (first second : ℕ) (new : List ℕ) : Type 0 where
  pub same : length new ≡ length old
  pub kept : (left right : ℕ) → Has (slice_index old left) right → Has (slice_index new left) right
  pub joined : (left right : ℕ) → Has first left → Has second right
      → Has (slice_index new left) right
  pub only : (left right : ℕ) → Has (slice_index new left) right
      → Has (slice_index old left) right ⊎ (Has first left × Has second right)
