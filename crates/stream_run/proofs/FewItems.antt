-- An input has at most one item for two of its bytes, and one more.
use Rattle.std.proofs.Common.{◌==◌, ◌&&◌, ◌≤◌, ◌+◌, ◌*◌, ℕ, Bool, true, false, cond, List, [], ◌∷◌}
use Rattle.std.proofs.Common.{◌++◌, length, Some, Result, Ok, Err, arith, length-append, nat_lt}
use Rattle.std.specs.List.{flat_map}
use Rattle.io_edge.specs.Lines.{Shown, text, long, ended_by_end, ended_by_lf, lines, lines_from}
use Rattle.value_ops.specs.declared.field.Field.{Field}
use Rattle.item_schema.specs.Layout.{Layout}
use Rattle.item_schema.specs.declared.column.Column.{Column}
use Rattle.line_reader.specs.declared.stop.Skip.{Skip}
use Rattle.line_reader.specs.Reading.{item_of}
use Rattle.stream_run.specs.Output.{body_of, item_in, read_of}
use Rattle.stream_run.specs.Resumed.{items_after}

-- at most one item is read
one_read : (read : Result (List Field) Skip) → length (item_in (Some read)) ≤ 1
one_read (Ok item) = omega arith
one_read (Err why) = omega arith

module _ (columns : List Column) where
  one_item : (line : Shown) → length (item_in (read_of columns line)) ≤ 1
  one_item (text []) = omega arith
  one_item (text (b ∷ bytes)) = one_read (item_of columns (b ∷ bytes))
  one_item long = omega arith

  -- how many items lines have
  abbrev counted : List Shown → ℕ
  counted shown = length (flat_map (λ line. item_in (read_of columns line)) shown)

  next_counted : (line : Shown) (shown : List Shown)
      → (counted shown ≤ counted (line ∷ shown)) × (counted (line ∷ shown) ≤ 1 + counted shown)
  next_counted line shown =
      let one = one_item line in
      let both = length-append (item_in (read_of columns line))
      (flat_map (λ l. item_in (read_of columns l)) shown) in
      (omega (arith, both), omega (arith, one, both))

  next_few : (is_lf : Bool) (line : Shown) (here there : List Shown) (most : ℕ)
      → 2 * counted (line ∷ here) ≤ most → 2 * counted there ≤ most
      → 2 * counted (cond is_lf (line ∷ here) there) ≤ most
  next_few true line here there most few few' = few
  next_few false line here there most few few' = few'

  last_few : (is_some : Bool) (line : Shown) (most : ℕ) → 2 ≤ most
      → 2 * counted (cond is_some (line ∷ []) []) ≤ most
  last_few true line most some = let one = (next_counted line []).1 in omega (arith, one, some)
  last_few false line most some = omega (arith, some)

  ended_few : (start : List ℕ) (rest : List Shown) (count : ℕ) → 2 * counted rest ≤ count + 1
      → 2 * counted (ended_by_lf start ∷ rest) ≤ length start + (count + 1) + 1
  ended_few [] rest count few = omega (arith, few)
  ended_few (x ∷ start) rest count few =
      let one = (next_counted (ended_by_lf (x ∷ start)) rest).1 in omega (arith, one, few)

  few_from : (start bytes : List ℕ)
      → 2 * counted (lines_from start bytes true) ≤ length start + length bytes + 1
  few_from [] [] = omega arith
  few_from (x ∷ start) [] =
      last_few (true && nat_lt 0 (length (x ∷ start))) (ended_by_end (x ∷ start)) _ (omega arith)
  few_from start (x ∷ bytes) =
      let ended = few_from [] bytes in
      let more = few_from (start ++ x ∷ []) bytes in
      let one = length-append start (x ∷ []) in
      let most = length start + (length bytes + 1) + 1 in
      let few = next_few (x == 10) (ended_by_lf start) (lines_from [] bytes true)
      (lines_from (start ++ x ∷ []) bytes true) most
      (ended_few start (lines_from [] bytes true) (length bytes) (omega (arith, ended)))
      (omega (arith, more, one)) in
      omega (arith, few)

  body_few : (has_header : Bool) (shown : List Shown)
      → counted (body_of has_header shown) ≤ counted shown
  body_few true [] = omega arith
  body_few true (line ∷ shown) = (next_counted line shown).0
  body_few false shown = omega arith

pub items-few : (layout : Layout) (began : Bool) (bytes : List ℕ)
    → 2 * length (items_after layout began bytes) ≤ length bytes + 1
items-few layout began bytes =
    let all = few_from layout.columns [] bytes in
    let body = body_few layout.columns (cond began false layout.has_header) (lines bytes true) in
    omega (arith, all, body)
