use Rattle.std.proofs.Common.{rules}
use Rattle.beside_run.proofs.StreamsApart.{same_layout}
use Rattle.beside_run.proofs.streams.is_same.Goals as goal

pub returns-then-has_header : goal.returns-then-has_header
returns-then-has_header c =
    same_layout c.args.one.now c.args.other.now c.are_same_columns.result (search rules)
    (rw (c.columns.ensures.columns, c.columns-then-has_header.ensures.columns)
    at c.are_same_columns.ensures)
