use Rattle.std.proofs.Common.{◌≡◌, ◌∷◌, true, false}
use Rattle.query_lets.specs.Words.{is_known}
use Rattle.query_lets.proofs.FirstWrong.{column_again, column_more}
use Rattle.query_lets.proofs.Keys.{holds_step, known_is}
use Rattle.query_lets.proofs.names.wrong_column.Goals as goal

pub returns-then-contains : goal.returns-then-contains
returns-then-contains c =
    let so_far = c.columns.invariant in
    let bytes = c.column-item.result.name.bytes in
    let has = known_is c.columns.known so_far.0 so_far.1 c.as_slice-name.result bytes
    c.as_slice-name.ensures c.contains.result c.contains.ensures in
    let known : is_known so_far.0 bytes ≡ true = cc (has, c.if-contains.true) in
    column_again c.args.columns.now c.columns.column-index c.column-item.result c.column-item.is
    c.columns-test.true so_far.0 so_far.2 known

pub columns-preserved : goal.columns-preserved
columns-preserved c =
    let so_far = c.columns.invariant in
    let bytes = c.column-item.result.name.bytes in
    let has = known_is c.columns.known so_far.0 so_far.1 c.as_slice-name.result bytes
    c.as_slice-name.ensures c.contains.result c.contains.ensures in
    let new : is_known so_far.0 bytes ≡ false = cc (has, c.if-contains.false) in (
      bytes ∷ so_far.0,
      holds_step c.columns.known c.insert.new.self c.as_slice-name.result bytes
          c.as_slice-name.ensures so_far.0 so_far.1 c.in_ok-insert.ensures.updates,
      column_more c.args.columns.now c.columns.column-index c.column-item.result c.column-item.is
          c.columns-test.true so_far.0 so_far.2 new,
    )
