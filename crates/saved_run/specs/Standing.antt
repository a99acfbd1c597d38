-- Statement. A snapshot that stands after bytes of items.
use Rattle.std.specs.Prelude.{◌≡◌, ℕ, false, List}
use Rattle.item_schema.specs.Layout.{Layout}
use Rattle.rate_expr.specs.Words.{Word}
use Rattle.runner_snapshot.specs.Bytes.{Snapshot}
use Rattle.runner_snapshot.specs.Dumps.{Runner}
use Rattle.stream_run.specs.Resumed.{is_some_byte, items_after}

-- its dump stands for the items of all lines of the bytes, and a line has come if there are bytes
pub record StandsAfter (means : Runner → Word → Type 0) (layout : Layout) (bytes : List ℕ)
    (snapshot : Snapshot) : Type 0 where
  pub stands : means snapshot.dump (items_after layout false bytes)
  pub began_is : snapshot.began ≡ is_some_byte bytes
