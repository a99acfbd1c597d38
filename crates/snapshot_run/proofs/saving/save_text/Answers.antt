use Rattle.std.proofs.Common.{refl}
use Rattle.query_compiler.proofs.Compilations.{blame_refuses}
use Rattle.query_compiler.specs.Compiled.{Compiles}
use Rattle.stream_run.specs.Outside.{outside}
use Rattle.type_checker.specs.Judged.{refused}
use Rattle.snapshot_run.specs.Saving.{refuses}
use Rattle.snapshot_run.proofs.saving.save_text.Goals as goal

pub returns-in-Err-Refused-clause-saves : goal.returns-in-Err-Refused-clause-saves
returns-in-Err-Refused-clause-saves g c =
    let at = outside g.S.Source.left g.S.Source.ends g.W.Sink.taken in
    let refused = rw c.in-Err-Refused.field-0-is at c.in-Err-Refused.ensures.refused in
    refuses c.in-Err-Refused.why refused.0 (refl {a = at c.args.items.now c.write_refusal.new.out})
    c.write_refusal.ensures.ends

pub returns-in-Err-Ambiguous-clause-saves : goal.returns-in-Err-Ambiguous-clause-saves
returns-in-Err-Ambiguous-clause-saves g c =
    let at = outside g.S.Source.left g.S.Source.ends g.W.Sink.taken in
    let blamed = rw c.in-Err-Ambiguous.field-0-is at c.in-Err-Ambiguous.ensures.refused in
    let compiles : Compiles c.args.text.now (refused c.refusal.result) =
    rw (c.refusal.ensures, c.deref-in-Err-Ambiguous.ensures)
    (blame_refuses c.args.text.now c.in-Err-Ambiguous.blame.value blamed) in
    refuses c.refusal.result compiles
    (refl {a = at c.args.items.now c.write_refusal-in-Err-Ambiguous.new.out})
    c.write_refusal-in-Err-Ambiguous.ensures.ends
