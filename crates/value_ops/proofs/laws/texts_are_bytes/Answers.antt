-- By induction on the text.
use Rattle.value_ops.proofs.Texts.{bytes_of_text, text_of_bytes}
use Rattle.value_ops.proofs.laws.texts_are_bytes.Goals as goal

pub returns-clause-each : goal.returns-clause-each
returns-clause-each c = bytes_of_text

pub returns-clause-all : goal.returns-clause-all
returns-clause-all c = text_of_bytes
