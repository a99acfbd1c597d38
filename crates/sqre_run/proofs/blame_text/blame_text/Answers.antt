use Rattle.sqre_run.proofs.BlameTexts.{other_lines}
use Rattle.sqre_run.proofs.blame_text.blame_text.Goals as goal

pub returns-in-Why : goal.returns-in-Why
returns-in-Why c = rw c.in-Why.is c.reason_text.ensures

pub returns-in_default : goal.returns-in_default
returns-in_default c =
    other_lines c.args.command c.args.blame.now _ _ c.in_default.not-Why c.refusal.ensures
    c.refusal_text.ensures
