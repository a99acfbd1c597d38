use Rattle.view_texts.specs.Values.{scalar_text}
use Rattle.view_texts.proofs.Joined.{pushed}
use Rattle.view_texts.proofs.record_text.push_part.Goals as goal

pub returns : goal.returns
returns c =
    pushed (scalar_text c.args.notation c.args.digits) c.push_scalar.result _ _ _ _ _ _
    c.part.ensures c.in_ok-push_comma.ensures c.push_scalar.ensures
