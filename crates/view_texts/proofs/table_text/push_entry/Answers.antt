use Rattle.view_texts.specs.Values.{entry_text}
use Rattle.view_texts.proofs.Joined.{behind, entry_at, pushed}
use Rattle.view_texts.proofs.table_text.push_entry.Goals as goal

pub returns : goal.returns
returns c =
    pushed (entry_text c.args.notation c.args.digits) c.push_scalar.result _ _
    (c.key.result.now, c.value.result) _ _ _
    (entry_at c.args.table.now c.args.place _ _ c.key.ensures c.value.ensures)
    c.in_ok-push_comma.ensures
    (behind c.push_scalar.result _ _ _ _ _ _ _ c.in_ok-push_key.ensures
    c.in_ok-push.ensures.items c.push_scalar.ensures)
