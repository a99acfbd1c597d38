use Rattle.type_checker.proofs.Judging.{broken_refused, checked, judged_sound}
use Rattle.type_checker.proofs.verdict.judge_words.Goals as goal

pub keep_words_over-requires : goal.keep_words_over-requires
keep_words_over-requires c = let (program, is) = c.requires in rw c.deref.ensures is.asked

pub new-checked-requires : goal.new-checked-requires
new-checked-requires c =
    let (program, is) = c.requires in
    checked program c.args.found is (rw c.deref.ensures at c.in-Ok.ensures.kept)

pub returns-in-Ok-clause-judged : goal.returns-in-Ok-clause-judged
returns-in-Ok-clause-judged c = λ program is.
    rw (c.in_ok-new-in-Ok.ensures.ok, c.new-checked.ensures)
    (judged_sound program c.args.found is (rw c.deref.ensures at c.in-Ok.ensures.kept))

pub returns-in-Err-Broken-clause-judged : goal.returns-in-Err-Broken-clause-judged
returns-in-Err-Broken-clause-judged c = λ program is.
    broken_refused program c.args.found is _
    (rw c.in-Err-Broken.why-is
    (rw (c.deref.ensures, c.in-Err-Broken.field-0-is) at c.in-Err-Broken.ensures.refused))
