use Rattle.value_ops.proofs.Texts.{text_from_bytes}
use Rattle.value_ops.proofs.field.known_bytes.Goals as goal

pub returns-clause-text : goal.returns-clause-text
returns-clause-text c = text_from_bytes c.args.bytes.now c.type_inv.bytes
