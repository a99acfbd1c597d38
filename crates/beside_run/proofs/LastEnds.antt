-- How the last answer was written.
use Rattle.std.proofs.Common.{◌≡◌, inl, inr, ℕ, true, List, [], ◌∷◌, ◌++◌, Option, Some, None}
use Rattle.std.proofs.Common.{Result, Ok, Err, IfOk, IfSome, refl, sym, subst, ◌∙◌}
use Rattle.std.proofs.KnownBytes.{Appends-trans}
use Rattle.std.specs.declared.alloc.AllocError.{AllocError}
use Rattle.std.specs.Io.KnownBytes.{Appends}
use Rattle.io_edge.specs.Lines.{Shown, lines}
use Rattle.io_edge.specs.Written.{AppendsSome}
use Rattle.query_model.specs.Monitors.{Monitor}
use Rattle.report_writer.specs.Texts.{answer_text}
use Rattle.value_ops.specs.declared.value.Value.{Value}
use Rattle.stream_run.specs.Endings.{EndedBy, Writes}
use Rattle.stream_run.specs.Meanings.{IsMeaning, Meaning}
use Rattle.stream_run.specs.Output.{value_after}
use Rattle.stream_run.specs.Outside.{Outside}
use Rattle.stream_run.specs.Written.{Reported}
use Rattle.stream_run.specs.declared.status.Status.{Status}
use Rattle.stream_run.specs.declared.status.Status.TheVariants.{Done, Refused, Usage, QueryFault}
use Rattle.stream_run.specs.declared.status.Status.TheVariants.{ItemFault, SinkFault, Memory, Limit}
use Rattle.beside_lines.specs.LastAnswer.{last_answer}
use Rattle.beside_run.specs.Outputs.{Answers, LastEnded}

-- no text is written for lines
abbrev pub IsNothing : List Shown → List ℕ → Type 0
IsNothing shown text = text ≡ []

-- a front of nothing is nothing
none_of : (old new : Option (List ℕ)) (front rest : List ℕ) → [] ≡ front ++ rest
    → Appends old new front → Appends old new []
none_of old new [] rest parts wrote = wrote
none_of old new (byte ∷ front) rest parts wrote = absurd (cc)

some_nothing : (old new : Option (List ℕ)) (text : List ℕ) → text ≡ [] → AppendsSome old new text
    → Appends old new []
some_nothing old new text is (front, rest, parts, wrote) =
    none_of old new front rest (sym is ∙ parts) wrote

module _ (monitor : Monitor) (old : Outside) where
  -- nothing was written where the end of the items was not met
  pub other_last : (status : Status) (new : Outside) → (status ≡ Done → ⊥)
      → EndedBy IsNothing status old new → LastEnded monitor status old new
  other_last Done new other ended = absurd (other refl)
  other_last ItemFault new other (ends, got, read, (text, is, wrote)) =
      (ends, got, (read, subst (Appends old.taken new.taken) is wrote))
  other_last SinkFault new other (ends, got, read, part) =
      inl (ends, got, (read, some_nothing old.taken new.taken part.text part.said part.wrote))
  other_last Memory new other (ends, got, read, some) =
      inl (ends, got, (read, subst (Appends old.taken new.taken) some.wrote.1 some.wrote.2))
  other_last Limit new other (ends, got, all, read, (text, is, wrote)) =
      (ends, got, all, (read, subst (Appends old.taken new.taken) is wrote))
  other_last Usage new other ended = ended
  other_last QueryFault new other ended = ended
  other_last Refused new other ended = ended

  module _ (mid : Outside) (taken : Option (List ℕ)) (answer : Option Value)
      (ended : EndedBy IsNothing Done old mid)
      (is : IfSome old.left (λ bytes. (meaning : Meaning) → IsMeaning monitor meaning
      → answer ≡ value_after meaning (lines bytes true)))
    where
      -- what was written after the end was written after nothing
      after : (Wrote : List ℕ → Type 0)
          → (Appends old.taken mid.taken [] → Wrote (answer_text answer))
          → Answers monitor old (record mid { taken = taken }) Wrote
      after Wrote so = (ended.0, λ meaning means. at meaning means old.left ended.1 is)
        where
          at : (meaning : Meaning) → IsMeaning monitor meaning → (left : Option (List ℕ))
              → IfSome left (λ bytes. Writes IsNothing old mid (lines bytes true))
              → IfSome left (λ bytes. (meaning : Meaning) → IsMeaning monitor meaning
              → answer ≡ value_after meaning (lines bytes true))
              → IfSome left (λ bytes. Wrote (last_answer meaning (lines bytes true)))
          at meaning means (Some bytes) (text, none, wrote) known =
              subst (λ (v : Option Value). Wrote (answer_text v)) (known meaning means)
              (so (subst (Appends old.taken mid.taken) none wrote))
          at meaning means None wrote known = tt

      front : Appends old.taken mid.taken [] → AppendsSome mid.taken taken (answer_text answer)
          → AppendsSome old.taken taken (answer_text answer)
      front none (some, rest, parts, wrote) =
          (some, rest, parts, Appends-trans _ _ _ _ _ none wrote)

      -- nothing more was written for want of memory
      held : taken ≡ mid.taken → Appends old.taken mid.taken [] → Appends old.taken taken []
      held same none = subst (λ (t : Option (List ℕ)). Appends old.taken t []) (sym same) none

      pub done_last : (status : Status) (line : Result (List ℕ) AllocError)
          → IfOk line (λ text. text ≡ answer_text answer) → Reported status line mid.taken taken
          → LastEnded monitor status old (record mid { taken = taken })
      done_last Done (Ok line) made wrote =
          after (Appends old.taken taken) (λ none. subst (Appends old.taken taken) made
          (Appends-trans _ _ _ _ _ none wrote))
      done_last SinkFault (Ok line) made wrote =
          inr (after (AppendsSome old.taken taken)
          (λ none. front none (subst (AppendsSome mid.taken taken) made wrote)))
      done_last Memory (Err error) made same =
          inr (after (λ text. Appends old.taken taken []) (held same))
      done_last SinkFault (Err error) made same =
          inr (after (AppendsSome old.taken taken)
          (λ none. ([], answer_text answer, refl, held same none)))
      done_last status line made wrote = absurd wrote
