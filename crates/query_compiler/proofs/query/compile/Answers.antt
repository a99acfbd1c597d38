use Rattle.std.proofs.Common.{rules, ap, inl}
use Rattle.std.proofs.lemmas.Result.{IfErr-weaker, IfOk-weaker}
use Rattle.query_model.specs.Monitors.{monitor_of}
use Rattle.type_checker.specs.Judged.{accepted}
use Rattle.query_compiler.proofs.Compilations.{reported_query, reported_stop}
use Rattle.query_compiler.proofs.WholeTexts.{query_ends, text_at_end, text_read}
use Rattle.query_compiler.proofs.query.compile.Goals as goal

pub returns-in-Err-Memory-clause-read : goal.returns-in-Err-Memory-clause-read
returns-in-Err-Memory-clause-read g c =
    let kept = c.in-Err-Memory.ensures.memory (search rules) in
    inl (ap g.Q.Source.left kept, ap g.Q.Source.ends kept)

pub returns-in-Ok-clause-accepted : goal.returns-in-Ok-clause-accepted
returns-in-Ok-clause-accepted g c =
    IfOk-weaker c.compile_text.result _ _ (λ compiled is.
    reported_query _ _ c.in-Ok.text.items (accepted (monitor_of compiled.value))
    c.in-Ok.ensures.taken.consumed (text_at_end _ _ _ _ _ c.in-Ok.ensures.taken) is)
    (rw c.as_slice.ensures.value at c.compile_text.ensures.accepted)

pub returns-in-Ok-clause-refused : goal.returns-in-Ok-clause-refused
returns-in-Ok-clause-refused g c =
    IfErr-weaker c.compile_text.result _ _ (λ why is.
    reported_stop _ _ c.in-Ok.text.items why c.in-Ok.ensures.taken.consumed
    (text_at_end _ _ _ _ _ c.in-Ok.ensures.taken) is)
    (rw c.as_slice.ensures.value at c.compile_text.ensures.refused)

pub returns-in-Ok-clause-end : goal.returns-in-Ok-clause-end
returns-in-Ok-clause-end g c =
    IfOk-weaker c.compile_text.result _ _ (λ compiled is.
    query_ends _ _ _ _ c.in-Ok.text.items c.in-Ok.ensures.taken (monitor_of compiled.value) is)
    (rw c.as_slice.ensures.value at c.compile_text.ensures.accepted)

pub returns-in-Ok-clause-read : goal.returns-in-Ok-clause-read
returns-in-Ok-clause-read g c =
    text_read _ _ _ _ c.in-Ok.text.items c.in-Ok.ensures.taken c.compile_text.result
    c.compile_text.ensures.no_fault
