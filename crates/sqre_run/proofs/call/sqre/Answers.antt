use Rattle.std.proofs.Common.{sym, ◌∙◌}
use Rattle.query_model.specs.Monitors.{monitor_of}
use Rattle.stream_run.specs.Outside.{outside}
use Rattle.sqre_run.proofs.Commands.{reported_blamed, reported_blamed_complete, reported_complete}
use Rattle.sqre_run.proofs.Commands.{reported_outcome, reported_refused, reported_refused_complete}
use Rattle.stream_run.proofs.EndedPart.{one_more}
use Rattle.sqre_run.proofs.FirstEnds.{reads_asked}
use Rattle.sqre_run.proofs.QueryReads.{reads_carried, reads_refusal}
use Rattle.sqre_run.proofs.call.sqre.Goals as goal

pub returns-in-Ok-clause-read : goal.returns-in-Ok-clause-read
returns-in-Ok-clause-read g c =
    let at = outside g.S.Source.left g.S.Source.ends g.W.Sink.taken in
    reads_carried _ _ _ _ c.in-Ok.ensures.read c.in-Some.command
    (monitor_of c.in-Ok.checked.value) _ (at c.args.items.now c.args.out.now)
    (at c.carry_out.new.items c.carry_out.new.out)
    (rw c.deref.ensures at c.carry_out.ensures.carried)

pub returns-in-Err-Refused-clause-read : goal.returns-in-Err-Refused-clause-read
returns-in-Err-Refused-clause-read g c =
    reads_refusal _ _ _ _ (rw c.in-Err-Refused.field-0-is at c.in-Err-Refused.ensures.read) _ _ _ _
    c.refuse.ensures.refuses

pub returns-in-Err-Ambiguous-clause-read : goal.returns-in-Err-Ambiguous-clause-read
returns-in-Err-Ambiguous-clause-read g c =
    reads_refusal _ _ _ _
    (rw c.in-Err-Ambiguous.field-0-is at c.in-Err-Ambiguous.ensures.read) _ _ _ _
    c.refuse-in-Err-Ambiguous.ensures.refuses

-- a blame is that of some program
pub blame_text-requires : goal.blame_text-requires
blame_text-requires g c =
    let stop = rw c.in-Err-Ambiguous.field-0-is at c.in-Err-Ambiguous.ensures.refused in
    rw c.deref-in-Err-Ambiguous.ensures (stop.0, stop.1)

pub returns-in-Ok-clause-outcome : goal.returns-in-Ok-clause-outcome
returns-in-Ok-clause-outcome g c =
    reported_outcome c.in-Some.command _ (sym c.in-Some.is ∙ c.command_of.ensures) _ _ _ _
    (rw c.deref.ensures at c.carry_out.ensures.carried) c.in-Ok.ensures.kept _
    c.in-Ok.ensures.accepted

pub returns-in-Err-Refused-clause-outcome : goal.returns-in-Err-Refused-clause-outcome
returns-in-Err-Refused-clause-outcome g c =
    reported_refused c.in-Some.command _ (sym c.in-Some.is ∙ c.command_of.ensures) _ _ _ _
    c.refuse.ensures.refuses _ _
    (rw c.in-Err-Refused.field-0-is at c.in-Err-Refused.ensures.refused)
    (rw c.in-Err-Refused.refusal-is at c.refusal_text.ensures)

pub returns-in-Err-Ambiguous-clause-outcome : goal.returns-in-Err-Ambiguous-clause-outcome
returns-in-Err-Ambiguous-clause-outcome g c =
    reported_blamed c.in-Some.command _ (sym c.in-Some.is ∙ c.command_of.ensures) _ _ _ _
    c.refuse-in-Err-Ambiguous.ensures.refuses _ _
    (rw c.in-Err-Ambiguous.field-0-is at c.in-Err-Ambiguous.ensures.refused)
    (rw c.deref-in-Err-Ambiguous.ensures at c.blame_text.ensures)

pub returns-in-Ok-clause-complete : goal.returns-in-Ok-clause-complete
returns-in-Ok-clause-complete g c no_query no_items no_sink =
    reported_complete c.in-Some.command _ (sym c.in-Some.is ∙ c.command_of.ensures) _ _ _ _
    (rw c.deref.ensures at c.carry_out.ensures.carried) _ c.in-Ok.ensures.accepted
    (λ e. no_items (one_more _ _ (c.carry_out.ensures.item_faults.by_one e)))
    (λ e. no_sink (one_more _ _ (c.carry_out.ensures.sink_faults.by_one e)))

pub returns-in-Err-Refused-clause-complete : goal.returns-in-Err-Refused-clause-complete
returns-in-Err-Refused-clause-complete g c no_query no_items no_sink =
    reported_refused_complete c.in-Some.command _ (sym c.in-Some.is ∙ c.command_of.ensures) _ _ _ _
    c.refuse.ensures.refuses (λ e. no_sink (one_more _ _ (c.refuse.ensures.cause.by_one e))) _ _
    (rw c.in-Err-Refused.field-0-is at c.in-Err-Refused.ensures.refused)

pub returns-in-Err-Ambiguous-clause-complete : goal.returns-in-Err-Ambiguous-clause-complete
returns-in-Err-Ambiguous-clause-complete g c no_query no_items no_sink =
    reported_blamed_complete c.in-Some.command _ (sym c.in-Some.is ∙ c.command_of.ensures) _ _ _ _
    c.refuse-in-Err-Ambiguous.ensures.refuses
    (λ e. no_sink (one_more _ _ (c.refuse-in-Err-Ambiguous.ensures.cause.by_one e))) _ _
    (rw c.in-Err-Ambiguous.field-0-is at c.in-Err-Ambiguous.ensures.refused)

pub returns-in-Ok-clause-first_end : goal.returns-in-Ok-clause-first_end
returns-in-Ok-clause-first_end g c =
    reads_asked g.S.Source.left g.S.Source.ends g.W.Sink.taken _ _ _ _ c.in-Some.command _
    (sym c.in-Some.is ∙ c.command_of.ensures) _ _ c.carry_out.ensures.carried
    c.carry_out.ensures.items
