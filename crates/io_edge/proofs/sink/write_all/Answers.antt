use Rattle.std.proofs.Common.{◌∙◌, arith, length-drop}
use Rattle.std.proofs.lemmas.Result.{err_from_is_err_and}
use Rattle.std.proofs.lemmas.List.{take_rest}
use Rattle.io_edge.proofs.Pieces.{Appends-take, AppendsSome-take}
use Rattle.io_edge.proofs.sink.write_all.Goals as goal

pub returns-in_err-done-clause-written : goal.returns-in_err-done-clause-written
returns-in_err-done-clause-written g c =
    let p = err_from_is_err_and c.from_residual.result c.from_residual.ensures.1 in
    rw p.1 (AppendsSome-take _ _ _ _ _ c.pieces.invariant.written c.in_err-done.ensures.bytes)

pub pieces-preserved : goal.pieces-preserved
pieces-preserved g c = record {
  in_range = grind (
    arith,
    length-drop,
    rw (take_rest c.args.bytes.now c.pieces.done) at c.in_ok-done.ensures.bound,
  );
  written = Appends-take _ _ _ _ _ _ c.pieces.invariant.written
      (rw (take_rest c.args.bytes.now c.pieces.done) at c.in_ok-done.ensures.bytes);
  held = omega (arith, c.pieces.invariant.held, c.in_ok-done.ensures.held);
  quiet = c.in_ok-done.ensures.cause.1 ∙ c.pieces.invariant.quiet;
}
