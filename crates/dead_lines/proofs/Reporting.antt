-- How the lines were judged, from how they were read and how the text was written.
use Rattle.std.proofs.Common.{◌≡◌, ◌∙◌, inl, inr, ℕ, true, List, [], ◌∷◌, ◌++◌, Option, Some, None}
use Rattle.std.proofs.Common.{Result, Ok, Err, IfOk, IfSome, refl, sym, subst}
use Rattle.std.proofs.KnownBytes.{Appends-nil, Appends-trans, Consumes-nil}
use Rattle.std.specs.declared.alloc.AllocError.{AllocError}
use Rattle.std.specs.Io.KnownBytes.{Appends}
use Rattle.io_edge.specs.Lines.{Shown, lines}
use Rattle.io_edge.specs.Written.{AppendsSome}
use Rattle.query_model.specs.Monitors.{Monitor}
use Rattle.stream_run.specs.Endings.{EndedBy, Writes}
use Rattle.stream_run.specs.Outside.{Outside}
use Rattle.stream_run.specs.Written.{Reported}
use Rattle.stream_run.specs.declared.status.Status.{Status}
use Rattle.stream_run.specs.declared.status.Status.TheVariants.{Done, Refused, Usage, QueryFault}
use Rattle.stream_run.specs.declared.status.Status.TheVariants.{ItemFault, SinkFault, Memory, Limit}
use Rattle.dead_lines.specs.DeadLines.{IsDeadLine}
use Rattle.dead_lines.specs.DeadTexts.{dead_text}
use Rattle.dead_lines.specs.Reported.{Judges, JudgesLines}
use Rattle.dead_lines.specs.declared.course.DeadLine.{DeadLine}

-- no text is written for lines
abbrev pub IsNothing : List Shown → List ℕ → Type 0
IsNothing shown text = text ≡ []

-- a front of nothing is nothing
none_of : (old new : Option (List ℕ)) (front rest : List ℕ) → [] ≡ front ++ rest
    → Appends old new front → Appends old new []
none_of old new [] rest parts wrote = wrote
none_of old new (byte ∷ front) rest parts wrote = absurd (cc)

some_nothing : (old new : Option (List ℕ)) (text : List ℕ) → text ≡ [] → AppendsSome old new text
    → Appends old new []
some_nothing old new text is (front, rest, parts, wrote) =
    none_of old new front rest (sym is ∙ parts) wrote

module _ (monitor : Monitor) (old : Outside) where
  -- nothing was written where the end of the items was not met
  pub other_judged : (status : Status) (new : Outside) → (status ≡ Done → ⊥)
      → EndedBy IsNothing status old new → JudgesLines monitor status old new
  other_judged Done new other ended = absurd (other refl)
  other_judged ItemFault new other (ends, got, read, (text, is, wrote)) =
      (ends, got, (read, subst (Appends old.taken new.taken) is wrote))
  other_judged SinkFault new other (ends, got, read, part) =
      inl (ends, got, (read, some_nothing old.taken new.taken part.text part.said part.wrote))
  other_judged Memory new other (ends, got, read, some) =
      inl (ends, got, (read, subst (Appends old.taken new.taken) some.wrote.1 some.wrote.2))
  other_judged Limit new other (ends, got, all, read, (text, is, wrote)) =
      (ends, got, all, (read, subst (Appends old.taken new.taken) is wrote))
  other_judged Usage new other ended = ended
  other_judged QueryFault new other ended = ended
  other_judged Refused new other ended = ended

  module _ (mid : Outside) (taken : Option (List ℕ)) (dead : Option DeadLine)
      (ended : EndedBy IsNothing Done old mid)
      (is : IfSome old.left (λ bytes. IsDeadLine monitor (lines bytes true) dead))
    where
      -- what was written after the end was written after nothing
      after : (Wrote : List ℕ → Type 0)
          → (Appends old.taken mid.taken [] → Wrote (dead_text dead))
          → Judges monitor old (record mid { taken = taken }) Wrote
      after Wrote so = (ended.0, at old.left ended.1 is)
        where
          at : (left : Option (List ℕ))
              → IfSome left (λ bytes. Writes IsNothing old mid (lines bytes true))
              → IfSome left (λ bytes. IsDeadLine monitor (lines bytes true) dead)
              → IfSome left (λ bytes. (dead : Option DeadLine)
              × IsDeadLine monitor (lines bytes true) dead × Wrote (dead_text dead))
          at (Some bytes) (text, none, wrote) known =
              (dead, known, so (subst (Appends old.taken mid.taken) none wrote))
          at None wrote known = tt

      front : Appends old.taken mid.taken [] → AppendsSome mid.taken taken (dead_text dead)
          → AppendsSome old.taken taken (dead_text dead)
      front none (some, rest, parts, wrote) =
          (some, rest, parts, Appends-trans _ _ _ _ _ none wrote)

      -- nothing more was written for want of memory
      held : taken ≡ mid.taken → Appends old.taken mid.taken [] → Appends old.taken taken []
      held same none = subst (λ (t : Option (List ℕ)). Appends old.taken t []) (sym same) none

      pub done_judged : (status : Status) (line : Result (List ℕ) AllocError)
          → IfOk line (λ text. text ≡ dead_text dead) → Reported status line mid.taken taken
          → JudgesLines monitor status old (record mid { taken = taken })
      done_judged Done (Ok line) made wrote =
          after (Appends old.taken taken) (λ none. subst (Appends old.taken taken) made
          (Appends-trans _ _ _ _ _ none wrote))
      done_judged SinkFault (Ok line) made wrote =
          inr (after (AppendsSome old.taken taken)
          (λ none. front none (subst (AppendsSome mid.taken taken) made wrote)))
      done_judged Memory (Err error) made same =
          inr (after (λ text. Appends old.taken taken []) (held same))
      done_judged SinkFault (Err error) made same =
          inr (after (AppendsSome old.taken taken)
          (λ none. ([], dead_text dead, refl, held same none)))
      done_judged status line made wrote = absurd wrote

-- for want of memory nothing was read and nothing was written
pub none_judged : (monitor : Monitor) (here : Outside) → JudgesLines monitor Memory here here
none_judged monitor here = inl (inl refl, [], (Consumes-nil _, Appends-nil _))
