use Rattle.std.proofs.Common.{refl, sym, arith}
use Rattle.query_forms.proofs.TopTerms.{stream_read, stream_not_read}
use Rattle.query_forms.proofs.tops.unfit_stream.Goals as goal

pub returns-then-count-le33 : goal.returns-then-count-le33
returns-then-count-le33 c terms say =
    let arguments = c.arguments_of-count.result.now in
    let said = c.arguments_of-count.ensures.said c.args.text.now terms say in
    stream_read _ arguments terms _ _ said (omega arith) (omega arith) refl
    (c.unfit_call.ensures terms say)

pub returns-else-count-ge2 : goal.returns-else-count-ge2
returns-else-count-ge2 c terms say =
    let arguments = c.arguments_of-count.result.now in
    let said = c.arguments_of-count.ensures.said c.args.text.now terms say in
    stream_not_read _ arguments terms _ said c.else-count-ge2.either
    (sym (c.place_of.ensures c.args.text.now terms say))
