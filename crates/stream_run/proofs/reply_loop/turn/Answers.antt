use Rattle.std.proofs.Common.{Ok, Err, ap, ◌∙◌, refl}
use Rattle.stream_run.proofs.Takes.{TakesLine-whole, TakesLine-long}
use Rattle.stream_run.proofs.Turns.{Ended-at_limit, Ended-at_limit_held, Ended-done_held}
use Rattle.stream_run.proofs.Turns.{Ended-failed, Replied-continues, Replied-not_done}
use Rattle.stream_run.proofs.Turns.{Replied-stops, Stops-done, Stops-or_held, stops}
use Rattle.stream_run.proofs.reply_loop.turn.Goals as goal

pub returns-in-Ok-Whole-clause-continues : goal.returns-in-Ok-Whole-clause-continues
returns-in-Ok-Whole-clause-continues g c =
    let is = c.in-Ok-Whole.is ∙ ap Ok c.in-Ok-Whole.field-0-is in
    let takes = TakesLine-whole c.next.follows.holds-at-none _ is in
    Replied-continues _ _ _ _ _ _ _ _ _ _ _ takes c.reply.ensures.replies
    c.write_reply.ensures.replied

pub returns-in-Ok-Whole-clause-stops : goal.returns-in-Ok-Whole-clause-stops
returns-in-Ok-Whole-clause-stops g c =
    let is = c.in-Ok-Whole.is ∙ ap Ok c.in-Ok-Whole.field-0-is in
    let takes = TakesLine-whole c.next.follows.holds-at-none _ is in
    Replied-stops _ _ _ _ _ _ _ _ _ _ _ takes c.reply.ensures.replies
    c.write_reply.ensures.replied

pub returns-in-Ok-Whole-clause-done : goal.returns-in-Ok-Whole-clause-done
returns-in-Ok-Whole-clause-done g c = Replied-not_done _ _ _ _ _ c.write_reply.ensures.replied

pub returns-in-Ok-Long-clause-continues : goal.returns-in-Ok-Long-clause-continues
returns-in-Ok-Long-clause-continues g c =
    let is = c.in-Ok-Long.is ∙ ap Ok c.in-Ok-Long.field-0-is in
    let takes = TakesLine-long c.next.follows.holds-at-none is in
    Replied-continues _ _ _ _ _ _ _ _ _ _ _ takes c.reply_to_long.ensures.replies
    c.write_reply-in-Ok-Long.ensures.replied

pub returns-in-Ok-Long-clause-stops : goal.returns-in-Ok-Long-clause-stops
returns-in-Ok-Long-clause-stops g c =
    let is = c.in-Ok-Long.is ∙ ap Ok c.in-Ok-Long.field-0-is in
    let takes = TakesLine-long c.next.follows.holds-at-none is in
    Replied-stops _ _ _ _ _ _ _ _ _ _ _ takes c.reply_to_long.ensures.replies
    c.write_reply-in-Ok-Long.ensures.replied

pub returns-in-Ok-Long-clause-done : goal.returns-in-Ok-Long-clause-done
returns-in-Ok-Long-clause-done g c =
    Replied-not_done _ _ _ _ _ c.write_reply-in-Ok-Long.ensures.replied

pub returns-in-Err-Failed-clause-stops : goal.returns-in-Err-Failed-clause-stops
returns-in-Err-Failed-clause-stops g c first before run =
    let is = c.in-Err-Failed.is ∙ ap Err c.in-Err-Failed.field-0-is in
    stops _ _ first _ before _ _ (λ done. cc)
    (Ended-failed _ _ first before _ _ _ _ _ c.next.follows.holds-at-none refl run is)

pub returns-in-Ok-End-clause-stops : goal.returns-in-Ok-End-clause-stops
returns-in-Ok-End-clause-stops g c first before run =
    let is = c.in-Ok-End.is ∙ ap Ok c.in-Ok-End.field-0-is in
    let reported = c.next.follows.holds-at-none in
    let same = c.end.ensures.taken in
    Stops-or_held _ _ first before _ _ _ _ c.end.ensures.ends
    (Stops-done _ _ first before _ _ _ _ _ reported same run is)
    (Ended-done_held _ _ first before _ _ _ _ _ reported same run is)

pub returns-in-Err-Limit-clause-stops : goal.returns-in-Err-Limit-clause-stops
returns-in-Err-Limit-clause-stops g c first before run =
    let is = c.in-Err-Limit.is ∙ ap Err c.in-Err-Limit.field-0-is in
    let reported = c.next.follows.holds-at-none in
    let same = c.end-in-Err-Limit.ensures.taken in
    Stops-or_held _ _ first before _ _ _ _ c.end-in-Err-Limit.ensures.ends
    (stops _ _ first _ before _ _ (λ done. cc)
    (Ended-at_limit _ _ first before _ _ _ _ _ reported same run is))
    (Ended-at_limit_held _ _ first before _ _ _ _ _ reported same run is)
