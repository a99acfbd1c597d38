-- What lies in memory as bytes is a text.
use Rattle.value_ops.proofs.Texts.{text_from_bytes}
use Rattle.query_text.proofs.pieces.write_string.Goals as goal

pub returns-clause-bytes : goal.returns-clause-bytes
returns-clause-bytes c = text_from_bytes c.args.bytes.now c.type_inv.bytes

pub returns-in_err-extend_from_slice-clause-bytes :
    goal.returns-in_err-extend_from_slice-clause-bytes
returns-in_err-extend_from_slice-clause-bytes c =
    text_from_bytes c.args.bytes.now c.type_inv.bytes

pub returns-in_err-write_byte-clause-bytes : goal.returns-in_err-write_byte-clause-bytes
returns-in_err-write_byte-clause-bytes c = text_from_bytes c.args.bytes.now c.type_inv.bytes
