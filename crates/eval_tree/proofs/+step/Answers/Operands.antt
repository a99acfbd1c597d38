-- An operand whose value is joined with a left value.
use Rattle.std.proofs.Common.{rules}
use Rattle.std.proofs.lemmas.Bool.{false≢true}
use Rattle.eval_nodes.proofs.Same.{where_ok}
use Rattle.eval_tree.proofs.+step.Goals as goal

pub operands::step_and_end-step_into-requires : goal.operands::step_and_end-step_into-requires
operands::step_and_end-step_into-requires t c =
    (search rules, (c.requires.none, c.requires.can.can))

pub operands::step_and_end-end_waiting-requires : goal.operands::step_and_end-end_waiting-requires
operands::step_and_end-end_waiting-requires t c =
    c.requires.can.typed _ _ c.in_ok-step_into.ensures.sound

pub operands::step_and_end-returns : goal.operands::step_and_end-returns
operands::step_and_end-returns t c = record {
  ended = where_ok c.end_waiting.result _ _
      (λ whole ended.
      record { right = c.step_into.new.hit; stepped = c.in_ok-step_into.ensures; ended = ended })
      c.end_waiting.ensures.ended;
  no_memory =
      λ free. c.end_waiting.ensures.no_memory (free.ends _ _ c.in_ok-step_into.ensures.sound);
}

pub operands::step_and_end-returns-in_err-step_into-clause-no_memory :
    goal.operands::step_and_end-returns-in_err-step_into-clause-no_memory
operands::step_and_end-returns-in_err-step_into-clause-no_memory t c = λ free.
    absurd (false≢true (c.in_err-step_into.ensures.no_memory free.steps))

pub operands::start_and_join-start_into-requires : goal.operands::start_and_join-start_into-requires
operands::start_and_join-start_into-requires t c =
    (search rules, (c.requires.none, c.requires.can.can))

pub operands::start_and_join-join_to-requires : goal.operands::start_and_join-join_to-requires
operands::start_and_join-join_to-requires t c =
    c.requires.can.typed _ _ c.in_ok-start_into.ensures.sound

pub operands::start_and_join-returns : goal.operands::start_and_join-returns
operands::start_and_join-returns t c = record {
  joined = where_ok c.join_to.result _ _
      (λ whole joined. record {
        right = c.start_into.new.hit;
        started = c.in_ok-start_into.ensures;
        joined = joined;
      })
      c.join_to.ensures.joined;
  no_memory = λ free. c.join_to.ensures.no_memory (free.joins _ _ c.in_ok-start_into.ensures.sound);
}

pub operands::start_and_join-returns-in_err-start_into-clause-no_memory :
    goal.operands::start_and_join-returns-in_err-start_into-clause-no_memory
operands::start_and_join-returns-in_err-start_into-clause-no_memory t c = λ free.
    absurd (false≢true (c.in_err-start_into.ensures.no_memory free.starts))
