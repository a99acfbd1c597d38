use Rattle.sqre_run.proofs.BlameTexts.{reason_found}
use Rattle.sqre_run.proofs.blame_text.reason_text.Goals as goal

pub returns : goal.returns
returns c =
    reason_found c.args.blame.now _ c.in_ok-shown.ensures _ c.refusal.ensures _ c.text_with.ensures
