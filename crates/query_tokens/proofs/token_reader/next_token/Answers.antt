use Rattle.std.proofs.Common.{◌<◌, length, drop, arith}
use Rattle.std.proofs.lemmas.List.{take_rest, drop-drop, length-drop}
use Rattle.query_tokens.proofs.Steps.{blank_within, fails_at, stands_at}
use Rattle.query_tokens.proofs.token_reader.next_token.Goals as goal

pub returns-in_default : goal.returns-in_default
returns-in_default c =
    let bytes = drop c.args.place c.args.text.now in
    let blank = rw take_rest at c.blank_len.ensures in
    let less : c.blank_len.result < length bytes =
    omega (
      arith,
      blank_within bytes c.blank_len.result blank,
      length-drop c.args.place c.args.text.now,
    ) in
    let none = rw c.in_default.is at (rw take_rest at c.token_at.ensures) in
    fails_at c.args.place bytes c.blank_len.result blank less (rw drop-drop none)

pub returns : goal.returns
returns c =
    let bytes = drop c.args.place c.args.text.now in
    let blank = rw take_rest at c.blank_len.ensures in
    let less : c.blank_len.result < length bytes =
    omega (
      arith,
      blank_within bytes c.blank_len.result blank,
      length-drop c.args.place c.args.text.now,
    ) in
    let first = rw c.in-Some.is at (rw take_rest at c.token_at.ensures) in
    stands_at c.args.place bytes c.blank_len.result c.in-Some.kind c.in-Some.len blank less
    (rw drop-drop first)
