use Rattle.std.proofs.lemmas.List.{take_rest}
use Rattle.query_tokens.proofs.Lengths.{begins_word, length_of_number, length_of_string}
use Rattle.query_tokens.proofs.length.len_of.Goals as goal

pub returns-in-Word : goal.returns-in-Word
returns-in-Word c = rw (c.in-Word.is, c.word_len.ensures)
    (begins_word c.args.text.now (rw c.in-Word.is at c.requires))

pub returns-in-Number : goal.returns-in-Number
returns-in-Number c = rw (c.in-Number.is, c.number_len.ensures) (length_of_number c.args.text.now)

pub returns-in_err-closing_len-in-Text : goal.returns-in_err-closing_len-in-Text
returns-in_err-closing_len-in-Text c =
    let closing = rw take_rest at c.closing_len.ensures in
    let string = length_of_string c.args.text.now c.closing_len.result
    (rw c.in-Text.is at c.requires) closing in
    rw (c.in-Text.is, c.from_residual.ensures) (rw c.in_err-closing_len-in-Text.was at string)

pub returns-in_ok-closing_len-in-Text : goal.returns-in_ok-closing_len-in-Text
returns-in_ok-closing_len-in-Text c =
    let closing = rw take_rest at c.closing_len.ensures in
    let string = length_of_string c.args.text.now c.closing_len.result
    (rw c.in-Text.is at c.requires) closing in
    rw c.in-Text.is (rw c.in_ok-closing_len-in-Text.was at string)
