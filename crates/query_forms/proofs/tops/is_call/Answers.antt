use Rattle.std.proofs.Common.{◌∙◌, true, refl, sym}
use Rattle.query_trees.specs.Trees.{none}
use Rattle.query_forms.proofs.TopTerms.{call_read}
use Rattle.query_forms.proofs.Trees.{call_before}
use Rattle.query_forms.proofs.tops.is_call.Goals as goal

pub returns-then-eq : goal.returns-then-eq
returns-then-eq c terms say =
    let arguments = c.in-Call.arguments in
    let is = call_before _ c.in-Call.head arguments _ arguments.items none c.in-Call.is refl in
    call_read _ c.in-Call.head arguments.items _ _ _ _ _ true c.bytes_at.ensures
    (c.len.ensures ∙ arguments.ok.0) (sym c.if-eq.true ∙ c.eq.ensures) terms (rw is at say)
