use Rattle.std.proofs.Common.{◌≡◌, true, refl}
use Rattle.std.proofs.lemmas.List.{map_push}
use Rattle.value_ops.specs.Texts.{are_bytes}
use Rattle.value_ops.proofs.Texts.{text_from_bytes}
use Rattle.predicate_cells.proofs.texts.push_text.Goals as goal

pub returns : goal.returns
returns c =
    let text : are_bytes c.args.text.now ≡ true = text_from_bytes c.args.text.now c.type_inv.text in
    rw (text, c.in_ok-push.ensures.items, map_push) refl
