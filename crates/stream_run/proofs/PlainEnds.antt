-- A run from the empty word on ends as a run of the query does.
use Rattle.std.proofs.Common.{◌≡◌, ℕ, true, false, List, [], ◌++◌, Option}
use Rattle.std.proofs.Common.{ap, subst, ◌∙◌, append_assoc}
use Rattle.std.specs.Io.KnownBytes.{Appends}
use Rattle.io_edge.specs.Lines.{Shown, lines}
use Rattle.io_edge.specs.Written.{AppendsSome}
use Rattle.rate_expr.specs.Words.{Word}
use Rattle.query_model.specs.Checked.{CheckedQuery}
use Rattle.query_model.specs.Monitors.{monitor_of}
use Rattle.stream_run.specs.Endings.{Begins, EndedBy, Writes}
use Rattle.stream_run.specs.Meanings.{IsMeaning, Meaning}
use Rattle.stream_run.specs.Output.{answers, answers_after}
use Rattle.stream_run.specs.Outside.{Ended, Outside}
use Rattle.stream_run.specs.Sessions.{IsSaid, Origin, first_origin}
use Rattle.stream_run.specs.declared.status.Status.{Status}
use Rattle.stream_run.specs.declared.status.Status.TheVariants.{Done, Refused, Usage, QueryFault}
use Rattle.stream_run.specs.declared.status.Status.TheVariants.{ItemFault, SinkFault, Memory, Limit}
use Rattle.stream_run.proofs.Answering.{answers_after-append}
use Rattle.stream_run.proofs.EndedPart.{left_so}

-- the answers to lines with which others begin, or a front of them, are a front of those to all
part_of : (meaning : Meaning) (all some : List Shown) (old new : Option (List ℕ))
    → Begins some all → AppendsSome old new (answers meaning some)
    → AppendsSome old new (answers meaning all)
part_of meaning all some old new (others, are) (front, rest, parts, appends) = (
  front,
  rest ++ answers_after meaning some others,
  ap (answers meaning) are ∙ answers_after-append meaning [] some others
      ∙ ap (λ (l : List ℕ). l ++ answers_after meaning some others) parts
      ∙ append_assoc front rest (answers_after meaning some others),
  appends,
)

module _ {F : Type 0} (follows : F → Word → Type 0) (on : CheckedQuery) (first : F)
    (none : follows first []) (old new : Outside) where
  -- what was written for lines are the answers to them
  answered : (shown : List Shown) → Writes (IsSaid follows (first_origin on first)) old new shown
      → (meaning : Meaning) → IsMeaning (monitor_of on) meaning
      → Appends old.taken new.taken (answers meaning shown)
  answered shown (text, said, wrote) meaning means =
      subst (Appends old.taken new.taken) (said.values [] meaning (tt, none) means) wrote

  pub plain_end : (status : Status) → EndedBy (IsSaid follows (first_origin on first)) status old new
      → Ended (monitor_of on) status old new
  plain_end Done (ends, wrote) = (
    ends,
    λ meaning means. left_so old.left _ _
        (λ bytes written. answered (lines bytes true) written meaning means) wrote,
  )
  plain_end ItemFault (ends, got, read, wrote) =
      (ends, got, record { read = read; wrote = answered (lines got false) wrote })
  plain_end SinkFault (ends, got, read, part) = (
    ends,
    got,
    read,
    λ meaning means.
        let front = subst (AppendsSome old.taken new.taken)
        (part.said.values [] meaning (tt, none) means) part.wrote in
        record {
          part = part_of meaning (lines got true) part.some old.taken new.taken part.begins front;
          no_end = λ none_met. part_of meaning (lines got false) part.some old.taken new.taken
              (part.no_end none_met) front;
        },
  )
  plain_end Memory (ends, got, read, wrote) = (
    ends,
    got,
    record {
      some = wrote.some;
      others = wrote.whole.0;
      whole = wrote.whole.1;
      wrote = record { read = read; wrote = answered wrote.some wrote.wrote };
    },
  )
  plain_end Limit (ends, got, all, read, wrote) =
      (ends, got, all, record { read = read; wrote = answered (lines got false) wrote })
  plain_end Usage ended = ended
  plain_end QueryFault ended = ended
  plain_end Refused ended = ended

  -- and so does one from an origin that is this one
  pub plain_end_from : (origin : Origin F) → origin ≡ first_origin on first → (status : Status)
      → EndedBy (IsSaid follows origin) status old new → Ended (monitor_of on) status old new
  plain_end_from origin is status ended =
      plain_end status
      (subst (λ (o : Origin F). EndedBy (IsSaid follows o) status old new) is ended)
