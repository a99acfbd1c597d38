-- One turn of the run: how it continues, and how it ends.
use Rattle.std.proofs.Common.{◌≡◌, ◌⊎◌, inl, inr, ℕ, true, false, List, [], ◌∷◌, ◌++◌, length}
use Rattle.std.proofs.Common.{Option, Some, None, Result, Ok, Err, IfOk, IfNone, IfSome, Bor, refl}
use Rattle.std.proofs.Common.{sym, ap, subst, ◌∙◌, append_assoc, append-nil, arith}
use Rattle.std.proofs.KnownBytes.{Appends-trans, Consumes-trans, Consumes-whole, Appends-nil}
use Rattle.std.proofs.KnownBytes.{Consumes-nil}
use Rattle.std.proofs.lemmas.List.{nil_from_length}
use Rattle.std.specs.declared.alloc.AllocError.{AllocError}
use Rattle.std.specs.Io.KnownBytes.{Appends, Consumes}
use Rattle.io_edge.specs.Counts.{next_count}
use Rattle.io_edge.specs.Ended.{MeetsEnd}
use Rattle.io_edge.specs.Lines.{Shown, lines}
use Rattle.io_edge.specs.Reading.{Reading, Ends, Waits, count_of}
use Rattle.io_edge.specs.Reported.{Gives, Reported}
use Rattle.io_edge.specs.Written.{AppendsSome}
use Rattle.io_edge.specs.declared.lines.Line.{Line}
use Rattle.io_edge.specs.declared.lines.Line.TheVariants.{End}
use Rattle.io_edge.specs.declared.lines.LineStop.{LineStop}
use Rattle.io_edge.specs.declared.lines.LineStop.TheVariants.{Failed, Limit}
use Rattle.stream_run.specs.Endings.{EndedBy, Writes}
use Rattle.stream_run.specs.Outside.{Outside}
use Rattle.stream_run.specs.Replying.{Replies}
use Rattle.stream_run.specs.Running.{Showed, Running, Stops}
use Rattle.stream_run.specs.Written.{Replied}
use Rattle.stream_run.specs.declared.status.Status.{Status}
use Rattle.stream_run.specs.declared.status.Status.TheVariants.{Done, ItemFault, SinkFault, Memory}
use Rattle.stream_run.specs.declared.status.Status.TheVariants.{Limit as AtLimit}
use Rattle.stream_run.proofs.EndedPart.{all_part, ended_part, one_at_most, one_more, part_after}
use Rattle.stream_run.proofs.EndedPart.{showed_begin}
use Rattle.stream_run.proofs.Showing.{Showed-ends, Showed-shows, Showed-split, Answers-lines}
use Rattle.stream_run.proofs.Showing.{Answers-whole, Waits-lines, true_or_false}
use Rattle.stream_run.proofs.Takes.{TakesLine, Reported-gives, Reported-going}

-- a run ends by that fault where the sink does not flush what it holds
pub Ended-held : {S : Type 0} (Stands : S → List Shown → S → Type 0)
    (Says : S → List Shown → List ℕ → Type 0) (first : S)
    (old now : Outside) (reading : Reading) (kept : S) (taken : Option (List ℕ))
    → taken ≡ now.taken → Running Stands Says first old now reading kept
    → EndedBy (Says first) SinkFault old (record now { taken = taken })
Ended-held Stands Says first old now reading kept taken same run =
    let new : Outside = record now { taken = taken } in
    let met : reading.met ≡ true → now.ends ≡ next_count old.ends = λ met. (run.at_end met).0 in
    ended_part (Says first) old new run.got run.shown run.text
    (one_at_most old.ends now.ends reading met run.no_end) run.read
    (showed_begin old new run.got run.shown reading run.showed met) run.said
    (all_part old.taken taken run.text
    (subst (λ (t : Option (List ℕ)). Appends old.taken t run.text) (sym same) run.wrote))

-- and the run so far is one still where it has flushed what it held
pub Running-held : {S : Type 0} (Stands : S → List Shown → S → Type 0)
    (Says : S → List Shown → List ℕ → Type 0) (first : S)
    (old now : Outside) (reading : Reading) (kept : S) (taken : Option (List ℕ))
    → taken ≡ now.taken → Running Stands Says first old now reading kept
    → Running Stands Says first old (record now { taken = taken }) reading kept
Running-held Stands Says first old now reading kept taken same run =
    subst (λ (t : Option (List ℕ)).
    Running Stands Says first old (record now { taken = t }) reading kept) (sym same) run

-- another end than that of all items
pub stops : {S : Type 0} (Stands : S → List Shown → S → Type 0)
    (Says : S → List Shown → List ℕ → Type 0) (first : S) (status : Status)
    (old new : Outside) (kept : S) → (status ≡ Done → ⊥)
    → EndedBy (Says first) status old new → Stops Stands Says first status old new kept
stops Stands Says first status old new kept other ended =
    record { ended = ended; after = λ done. absurd (other done) }

-- how it ends where the sink flushes what it holds, or does not
pub Stops-or_held : {S : Type 0} (Stands : S → List Shown → S → Type 0)
    (Says : S → List Shown → List ℕ → Type 0) (first : S)
    (old new : Outside) (kept : S) (status status' : Status)
    → (status' ≡ status) ⊎ (status' ≡ SinkFault) → Stops Stands Says first status old new kept
    → EndedBy (Says first) SinkFault old new → Stops Stands Says first status' old new kept
Stops-or_held Stands Says first old new kept status status' (inl is) ended held =
    subst (λ (s : Status). Stops Stands Says first s old new kept) (sym is) ended
Stops-or_held Stands Says first old new kept status status' (inr is) ended held =
    subst (λ (s : Status). Stops Stands Says first s old new kept) (sym is)
    (stops Stands Says first SinkFault old new kept (λ done. cc) held)

module _ {S : Type 0} (Stands : S → List Shown → S → Type 0)
    (Says : S → List Shown → List ℕ → Type 0) (first : S) (old now new : Outside)
    (reading next : Reading) (kept : S) where
  -- what a call that came before any end says of the end
  module _
      (end : MeetsEnd now.ends new.ends new.left ((reading.met ≡ false) × (next.met ≡ true)))
      (going : reading.met ≡ false)
      (run : Running Stands Says first old now reading kept)
    where
      ends_met : next.met ≡ true → new.ends ≡ next_count old.ends
      ends_met met = (end.at_end (going, met)).0 ∙ ap next_count (run.no_end going)

      ends_kept : next.met ≡ false → new.ends ≡ old.ends
      ends_kept not = end.else_same (λ both. cc (both.1, not)) ∙ run.no_end going

  -- the line was answered, and the run continues
  pub Running-line : (kept' : S) (line : Shown) (reply : List ℕ)
      → TakesLine now.left new.left now.ends new.ends reading next line
      → Replies Stands Says line reply kept kept' → Appends now.taken new.taken reply
      → Running Stands Says first old now reading kept → Running Stands Says first old new next kept'
  Running-line kept' line reply takes replies appends run = record {
    got = run.got ++ takes.got;
    shown = run.shown ++ line ∷ [];
    text = run.text ++ reply;
    showed = Answers-lines run.got takes.got run.shown line reading next run.showed
        takes.going takes.answers;
    read = Consumes-trans _ _ _ _ _ run.read takes.consumed;
    said = replies.says first run.shown run.text run.after run.said;
    wrote = Appends-trans _ _ _ _ _ run.wrote appends;
    after = replies.stands first run.shown run.after;
    no_end = ends_kept takes.end takes.going run;
    at_end = λ met. (ends_met takes.end takes.going run met, (takes.end.at_end (takes.going, met)).1);
  }

  -- a part of its answer was written
  pub Ended-cut_short : (kept' : S) (line : Shown) (reply : List ℕ)
      → TakesLine now.left new.left now.ends new.ends reading next line
      → Replies Stands Says line reply kept kept' → AppendsSome now.taken new.taken reply
      → Running Stands Says first old now reading kept
      → EndedBy (Says first) SinkFault old new
  Ended-cut_short kept' line reply takes replies appends run =
      let got = run.got ++ takes.got in
      let shown = run.shown ++ line ∷ [] in
      let showed : Showed got shown next =
      Answers-lines run.got takes.got run.shown line reading next run.showed takes.going
      takes.answers in
      let met = ends_met takes.end takes.going run in
      ended_part (Says first) old new got shown (run.text ++ reply)
      (one_at_most old.ends new.ends next met (ends_kept takes.end takes.going run))
      (Consumes-trans _ _ _ _ _ run.read takes.consumed)
      (showed_begin old new got shown next showed met)
      (replies.says first run.shown run.text run.after run.said)
      (part_after old.taken now.taken new.taken run.text reply run.wrote appends)

  -- what was written so far, where the sink took nothing since
  wrote_before : new.taken ≡ now.taken → (run : Running Stands Says first old now reading kept)
      → Appends old.taken new.taken run.text
  wrote_before same run =
      subst (λ (t : Option (List ℕ)). Appends old.taken t run.text) (sym same) run.wrote

  -- its answer could not be made
  pub Ended-no_memory : (line : Shown)
      → TakesLine now.left new.left now.ends new.ends reading next line
      → new.taken ≡ now.taken → Running Stands Says first old now reading kept
      → EndedBy (Says first) Memory old new
  Ended-no_memory line takes same run = (
    one_at_most old.ends new.ends next (ends_met takes.end takes.going run)
        (ends_kept takes.end takes.going run),
    run.got ++ takes.got,
    Consumes-trans _ _ _ _ _ run.read takes.consumed,
    record {
      some = run.shown;
      whole = Answers-whole run.got takes.got run.shown line reading next run.showed takes.going
          takes.answers;
      wrote = (run.text, run.said, wrote_before same run);
    },
  )

  -- its answer could not be made, and the sink does not flush those before
  pub Ended-no_memory_held : (line : Shown)
      → TakesLine now.left new.left now.ends new.ends reading next line
      → new.taken ≡ now.taken → Running Stands Says first old now reading kept
      → EndedBy (Says first) SinkFault old new
  Ended-no_memory_held line takes same run =
      let got = run.got ++ takes.got in
      let showed : Showed got (run.shown ++ line ∷ []) next =
      Answers-lines run.got takes.got run.shown line reading next run.showed takes.going
      takes.answers in
      let split = Showed-split got (run.shown ++ line ∷ []) next showed in
      ended_part (Says first) old new got run.shown run.text
      (one_at_most old.ends new.ends next (ends_met takes.end takes.going run)
      (ends_kept takes.end takes.going run))
      (Consumes-trans _ _ _ _ _ run.read takes.consumed)
      (record {
        all = (line ∷ split.0, split.1 ∙ append_assoc run.shown (line ∷ []) split.0);
        whole = λ none. Answers-whole run.got takes.got run.shown line reading next run.showed
            takes.going takes.answers;
      })
      run.said (all_part _ _ _ (wrote_before same run))

  -- a call that reported no line: the answers to all whole lines were written
  Wrote-waiting : (got : List ℕ) → Waits reading got next → reading.met ≡ false
      → new.taken ≡ now.taken → (run : Running Stands Says first old now reading kept)
      → (count_of next ≡ length (run.got ++ got))
      × Writes (Says first) old new (lines (run.got ++ got) false)
  Wrote-waiting got waits going same run =
      let is = Waits-lines run.got got run.shown reading next run.showed going waits in (
        is.1,
        (
          run.text,
          subst (λ (l : List Shown). Says first l run.text) (sym is.0) run.said,
          wrote_before same run,
        ),
      )

  module _
      {result : Result Line LineStop}
      (reported : Reported now.left new.left now.ends new.ends reading next result)
      (same : new.taken ≡ now.taken)
      (run : Running Stands Says first old now reading kept)
    where
      -- the source failed
      pub Ended-failed : result ≡ Err Failed → EndedBy (Says first) ItemFault old new
      Ended-failed is =
          let taken = Reported-gives reported (Err Failed) is in
          let going = Reported-going reported (λ e. cc (is, e)) in (
            ends_kept reported.end going run taken.2.shows.not_met,
            run.got ++ taken.0,
            Consumes-trans _ _ _ _ _ run.read taken.1,
            (Wrote-waiting taken.0 taken.2 going same run).1,
          )

      -- the greatest number of bytes was taken
      pub Ended-at_limit : result ≡ Err Limit → EndedBy (Says first) AtLimit old new
      Ended-at_limit is =
          let taken = Reported-gives reported (Err Limit) is in
          let going = Reported-going reported (λ e. cc (is, e)) in
          let wrote = Wrote-waiting taken.0 taken.2.0 going same run in (
            ends_kept reported.end going run taken.2.0.shows.not_met,
            run.got ++ taken.0,
            sym wrote.0 ∙ taken.2.1,
            Consumes-trans _ _ _ _ _ run.read taken.1,
            wrote.1,
          )

      -- or there the sink does not flush the answers
      pub Ended-at_limit_held : result ≡ Err Limit
          → EndedBy (Says first) SinkFault old new
      Ended-at_limit_held is =
          let taken = Reported-gives reported (Err Limit) is in
          let got = run.got ++ taken.0 in
          let going = Reported-going reported (λ e. cc (is, e)) in
          let showed : Showed got run.shown next =
          subst (λ (l : List Shown). Showed got l next) (append-nil run.shown)
          (Showed-shows run.got taken.0 run.shown [] reading next run.showed going taken.2.0.shows)
          in
          ended_part (Says first) old new got run.shown run.text
          (inl (ends_kept reported.end going run taken.2.0.shows.not_met))
          (Consumes-trans _ _ _ _ _ run.read taken.1)
          (showed_begin old new got run.shown next showed (ends_met reported.end going run))
          run.said (all_part _ _ _ (wrote_before same run))

      -- all lines were shown where the end was reported
      lines_at_end : (got : List ℕ) → Ends reading got [] next
          → lines (run.got ++ got) true ≡ run.shown
      lines_at_end got ends = at (true_or_false reading.met)
        where
          at : (reading.met ≡ true) ⊎ (reading.met ≡ false)
              → lines (run.got ++ got) true ≡ run.shown
          at (inl met) =
              let again = (reported.again met).1 in
              let none : got ≡ [] =
              nil_from_length got (omega (arith, ends.count, ap count_of again)) in
              ap (λ (l : List ℕ). lines (run.got ++ l) true) none
              ∙ ap (λ (l : List ℕ). lines l true) (append-nil run.got)
              ∙ run.showed.at_end met
          at (inr going) =
              let showed = Showed-ends run.got got run.shown [] reading next
              run.showed going ends in
              showed.at_end ends.done.met ∙ append-nil run.shown

      -- the end was met once
      end_met : (got : List ℕ) → Ends reading got [] next → new.ends ≡ next_count old.ends
      end_met got ends = at (true_or_false reading.met)
        where
          at : (reading.met ≡ true) ⊎ (reading.met ≡ false) → new.ends ≡ next_count old.ends
          at (inl met) = reported.end.else_same (λ both. cc (both.0, met)) ∙ (run.at_end met).0
          at (inr going) = ends_met reported.end going run ends.done.met

      -- what holds of all lines that were shown holds of those of all bytes
      of_all : (P : List Shown → Type 0) → result ≡ Ok End → P run.shown
          → IfSome old.left (λ bytes. P (lines bytes true))
      of_all P is holds = at (true_or_false reading.met)
        where
          taken : (got : List ℕ) × Consumes now.left new.left got × Gives reading got (Ok End) next
          taken = Reported-gives reported (Ok End) is

          at : (reading.met ≡ true) ⊎ (reading.met ≡ false)
              → IfSome old.left (λ bytes. P (lines bytes true))
          at (inl met) =
              Consumes-whole old.left now.left run.got (λ bytes. P (lines bytes true)) run.read
              (run.at_end met).1 (subst P (sym (run.showed.at_end met)) holds)
          at (inr going) =
              Consumes-whole old.left new.left (run.got ++ taken.0) (λ bytes. P (lines bytes true))
              (Consumes-trans _ _ _ _ _ run.read taken.1)
              (reported.end.at_end (going, taken.2.0.done.met)).1
              (subst P (sym (lines_at_end taken.0 taken.2.0)) holds)

      -- all items were answered
      pub Stops-done : result ≡ Ok End → Stops Stands Says first Done old new kept
      Stops-done is =
          let taken = Reported-gives reported (Ok End) is in
          record {
            ended = (
              end_met taken.0 taken.2.0,
              of_all (λ (l : List Shown). Writes (Says first) old new l) is
                  (run.text, run.said, wrote_before same run),
            );
            after = λ done. of_all (λ (l : List Shown). Stands first l kept) is run.after;
          }

      -- or there the sink does not flush the answers
      pub Ended-done_held : result ≡ Ok End → EndedBy (Says first) SinkFault old new
      Ended-done_held is =
          let taken = Reported-gives reported (Ok End) is in
          let met : new.ends ≡ next_count old.ends = end_met taken.0 taken.2.0 in
          ended_part (Says first) old new (run.got ++ taken.0) run.shown run.text
          (inr met) (Consumes-trans _ _ _ _ _ run.read taken.1) (record {
            all = ([], lines_at_end taken.0 taken.2.0 ∙ sym (append-nil run.shown));
            whole = λ none. absurd (none (one_more old.ends new.ends met));
          })
          run.said (all_part _ _ _ (wrote_before same run))

module _ {S : Type 0} (Stands : S → List Shown → S → Type 0)
    (Says : S → List Shown → List ℕ → Type 0) (now new : Outside) (reading next : Reading)
    (kept kept' : S) (line : Shown) where
  -- where the text was written, whatever run there is continues
  pub Replied-continues : (status : Option Status) (reply : Result (Bor (List ℕ)) AllocError)
      → TakesLine now.left new.left now.ends new.ends reading next line
      → IfOk reply (λ said. Replies Stands Says line said.now kept kept')
      → Replied status reply now.taken new.taken
      → IfNone status ((first : S) (old : Outside)
      → Running Stands Says first old now reading kept → Running Stands Says first old new next kept')
  Replied-continues None (Ok said) takes replies written = λ first old run.
      Running-line Stands Says first old now new reading next kept kept' line said.now takes
      replies written run
  Replied-continues None (Err error) takes replies written = absurd written
  Replied-continues (Some status) reply takes replies written = tt

  -- and ends where it was not
  pub Replied-stops : (status : Option Status) (reply : Result (Bor (List ℕ)) AllocError)
      → TakesLine now.left new.left now.ends new.ends reading next line
      → IfOk reply (λ said. Replies Stands Says line said.now kept kept')
      → Replied status reply now.taken new.taken
      → IfSome status (λ status. (first : S) (old : Outside)
      → Running Stands Says first old now reading kept → Stops Stands Says first status old new kept')
  Replied-stops None reply takes replies written = tt
  Replied-stops (Some SinkFault) (Ok said) takes replies written = λ first old run.
      stops Stands Says first SinkFault old new kept' (λ done. cc)
      (Ended-cut_short Stands Says first old now new reading next kept kept' line said.now takes
      replies written run)
  Replied-stops (Some Memory) (Err error) takes replies written = λ first old run.
      stops Stands Says first Memory old new kept' (λ done. cc)
      (Ended-no_memory Stands Says first old now new reading next kept line takes written run)
  Replied-stops (Some SinkFault) (Err error) takes replies written = λ first old run.
      stops Stands Says first SinkFault old new kept' (λ done. cc)
      (Ended-no_memory_held Stands Says first old now new reading next kept line takes written run)
  Replied-stops (Some status) reply takes replies written = absurd written

-- a text that was not written whole is no end of all items
pub Replied-not_done : (status : Option Status) (reply : Result (Bor (List ℕ)) AllocError)
    (old new : Option (List ℕ)) (P : Type 0) → Replied status reply old new
    → IfSome status (λ status. status ≡ Done → P)
Replied-not_done None reply old new P written = tt
Replied-not_done (Some SinkFault) (Ok said) old new P written = λ done. absurd (cc)
Replied-not_done (Some SinkFault) (Err error) old new P written = λ done. absurd (cc)
Replied-not_done (Some Memory) (Err error) old new P written = λ done. absurd (cc)
Replied-not_done (Some status) reply old new P written = absurd written

-- before the first line nothing was read and nothing was written
pub Running-begins : {S : Type 0} (Stands : S → List Shown → S → Type 0)
    (Says : S → List Shown → List ℕ → Type 0) (first : S)
    (here : Outside) (reading : Reading) (session : S)
    → reading ≡ record { start = []; unread = []; answered = 0; met = false; shown = [] }
    → Stands first [] session → Says first [] []
    → Running Stands Says first here here reading session
Running-begins Stands Says first here reading session fresh after said =
    subst (λ (r : Reading). Running Stands Says first here here r session) (sym fresh) (record {
      got = [];
      shown = [];
      text = [];
      showed =
          record { continues = λ _ more ended. refl; at_end = λ met. absurd (cc); count = refl };
      read = Consumes-nil _;
      said = said;
      wrote = Appends-nil _;
      after = after;
      no_end = λ going. refl;
      at_end = λ met. absurd (cc);
    })
