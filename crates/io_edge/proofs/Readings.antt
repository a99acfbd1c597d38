-- How the steps of a reading follow one another.
use Rattle.std.proofs.Common.{◌≡◌, ◌≢◌, inl, inr, ◌<◌, ◌≤◌, ℕ, ◌+◌, true, false, List, [], ◌∷◌}
use Rattle.std.proofs.Common.{◌++◌, length, take, drop, nat_lt, Option, Some, None, Ok, MatchOption}
use Rattle.std.proofs.Common.{refl, sym, ap, ◌∙◌, arith, length-append, length-take, append_assoc}
use Rattle.std.proofs.Common.{append-nil}
use Rattle.std.proofs.lemmas.Bool.{false≢true}
use Rattle.std.proofs.lemmas.Bool.Decides.{nat_tests}
use Rattle.std.proofs.lemmas.List.{take_at, nil_from_length}
use Rattle.std.proofs.Math.Seq.{drop-append_seam}
use Rattle.std.proofs.lemmas.List.Elements.{All-append, All-drop, All-head, All-same, All-take}
use Rattle.std.proofs.KnownBytes.{Consumes-trans}
use Rattle.std.specs.Io.BufRead.{strip_last}
use Rattle.std.specs.Io.KnownBytes.{Consumes}
use Rattle.io_edge.specs.Lines.{Shown, text, NoLf, ended_by_lf, lines_from}
use Rattle.io_edge.specs.Started.{StandsFor}
use Rattle.io_edge.specs.Reading.{Reading, count_of, lines_after, Shows, Ends, CutAt, Answers}
use Rattle.io_edge.specs.Answered.{shown_by}
use Rattle.io_edge.specs.Reported.{IsQuiet}
use Rattle.io_edge.specs.Limits.{max_count, max_line}
use Rattle.io_edge.specs.Steps.{Cuts, Joins, Reaches, Refills}
use Rattle.io_edge.specs.declared.partial_line.Answer.{Answer}
use Rattle.io_edge.proofs.LineLaws.{lines_from-piece, lines_from-stands, ended_by_lf-stands}

-- all bytes taken go into the line under way
pub Joins-from_piece : (old new : Reading) → NoLf old.unread
    → StandsFor (old.start ++ old.unread) new.start → new.unread ≡ [] → new.answered ≡ old.answered
    → new.met ≡ false → Joins old new
Joins-from_piece old new no_lf stands no_unread answered not_met = record {
  waits = record {
    shows = record {
      each = λ more ended.
          lines_from-piece old.start old.unread more ended no_lf
          ∙ lines_from-stands _ new.start more ended stands
          ∙ ap (λ l. lines_from new.start (l ++ more) ended) (sym no_unread);
      not_met = not_met;
      count = omega (arith, length-append old.start old.unread, stands.count, ap length no_unread);
    };
    none_waits = no_unread;
    answered = answered;
  };
  no_lf = no_lf;
}

-- the bytes before the first LF end the line under way
pub Cuts-from_piece : (old new : Reading) (piece line : List ℕ) (shown : Shown) → NoLf piece
    → old.unread ≡ piece ++ 10 ∷ new.unread
    → StandsFor (old.start ++ piece) line → shown ≡ ended_by_lf line → new.start ≡ []
    → new.answered ≡ old.answered + (length line + 1) → new.met ≡ false → Cuts old shown new
Cuts-from_piece old new piece line shown no_lf taken stands shows no_start answered not_met =
    let whole = length-append old.start piece in
    let unread = ap length taken ∙ length-append piece (10 ∷ new.unread) in
    record {
      shows = record {
        each = λ more ended.
            ap (λ l. lines_from old.start (l ++ more) ended) taken
            ∙ ap (λ l. lines_from old.start l ended) (append_assoc piece (10 ∷ new.unread) more)
            ∙ lines_from-piece old.start piece (10 ∷ (new.unread ++ more)) ended no_lf
            ∙ ap (λ s. s ∷ lines_from [] (new.unread ++ more) ended)
            (ended_by_lf-stands _ line stands ∙ sym shows)
            ∙ ap (λ s. shown ∷ lines_from s (new.unread ++ more) ended) (sym no_start);
        not_met = not_met;
        count = omega (arith, whole, unread, stands.count, ap length no_start);
      };
      cut = record {
        piece = piece;
        no_lf = no_lf;
        taken = append-nil old.unread ∙ taken;
        no_start = no_start;
        answered = omega (arith, whole, stands.count);
      };
    }

-- bytes after none stand for themselves
StandsFor-whole : (start piece : List ℕ) → length start ≡ 0 → StandsFor (start ++ piece) piece
StandsFor-whole start piece none =
    let same : piece ≡ start ++ piece = ap (λ l. l ++ piece) (sym (nil_from_length start none)) in
    record { count = ap length same; same = λ within. same }

-- a line that lies whole among the bytes taken
pub Cuts-from_whole : (old new : Reading) (at : ℕ) → NoLf (take at old.unread)
    → old.unread ≡ take at old.unread ++ 10 ∷ drop (at + 1) old.unread
    → length old.start ≡ 0 → at ≤ max_line → new.shown ≡ strip_last 13 (take at old.unread)
    → new.start ≡ old.start → new.unread ≡ drop (at + 1) old.unread
    → new.answered ≡ old.answered + (at + 1) → new.met ≡ false → Cuts old (text new.shown) new
Cuts-from_whole old new at no_lf taken none fits shown start unread answered not_met =
    let piece = take at old.unread in
    let count : length piece ≡ at =
    omega (
      arith,
      length-take at old.unread,
      ap length taken,
      length-append piece (10 ∷ drop (at + 1) old.unread),
    )
    in
    let short : nat_lt max_line (length piece) ≡ false = grind (arith, nat_tests) in
    let shows : text new.shown ≡ ended_by_lf piece = ap text shown ∙ rw short refl in
    let rest : old.unread ≡ piece ++ 10 ∷ new.unread =
    taken ∙ ap (λ l. piece ++ 10 ∷ l) (sym unread) in
    Cuts-from_piece old new piece piece (text new.shown) no_lf rest
    (StandsFor-whole old.start piece none) shows (start ∙ nil_from_length old.start none)
    (omega (arith, answered, count)) not_met

-- From old the bytes `got` were taken, and no line was answered: an LF may only stand among those
-- that were not searched.
pub record Goes (old : Reading) (got : List ℕ) (now : Reading) : Type 0 where
  pub not_met : old.met ≡ false
  pub shows : Shows old got [] now
  pub seen : List ℕ
  pub no_lf : NoLf seen
  pub taken : old.unread ++ got ≡ seen ++ now.unread
  pub answered : now.answered ≡ old.answered

-- what no line was answered before stays so, whatever a step shows
Shows-then : (old now new : Reading) (got : List ℕ) (shown : List Shown) → Shows old got [] now
    → Shows now [] shown new → Shows old got shown new
Shows-then old now new got shown first second = record {
  each = λ more ended. first.each more ended ∙ second.each more ended;
  not_met = second.not_met;
  count = omega (arith, first.count, second.count);
}

-- the bytes that were searched have no LF
pub Goes-joins : (old now new : Reading) (got : List ℕ) → Goes old got now → Joins now new
    → Goes old got new
Goes-joins old now new got goes joins = record {
  not_met = goes.not_met;
  shows = Shows-then old now new got [] goes.shows joins.waits.shows;
  seen = goes.seen ++ now.unread;
  no_lf = All-append (λ x. x ≢ 10) goes.seen now.unread goes.no_lf joins.no_lf;
  taken = goes.taken ∙ sym (append-nil _)
      ∙ ap (λ l. (goes.seen ++ now.unread) ++ l) (sym joins.waits.none_waits);
  answered = joins.waits.answered ∙ goes.answered;
}

-- a read follows where all bytes before it were searched
pub Goes-reads : (old now new : Reading) (got : List ℕ) → Goes old got now → now.unread ≡ []
    → new ≡ record now { unread = new.unread; shown = [] }
    → Goes old (got ++ new.unread) new
Goes-reads old now new got goes none is =
    let start : now.start ≡ new.start = sym (ap (λ r. r.start) is) in
    let answered : new.answered ≡ now.answered = ap (λ r. r.answered) is in
    let gone : old.unread ++ got ≡ goes.seen =
    goes.taken ∙ ap (λ l. goes.seen ++ l) none ∙ append-nil goes.seen in
    record {
      not_met = goes.not_met;
      shows = record {
        each = λ more ended.
            ap (λ l. lines_after old l ended) (append_assoc got new.unread more)
            ∙ goes.shows.each (new.unread ++ more) ended
            ∙ ap (λ l. lines_from now.start (l ++ (new.unread ++ more)) ended) none
            ∙ ap (λ l. lines_from l (new.unread ++ more) ended) start;
        not_met = ap (λ r. r.met) is ∙ goes.shows.not_met;
        count = omega (
          arith,
          goes.shows.count,
          ap length start,
          ap length none,
          length-append got new.unread,
        );
      };
      seen = goes.seen;
      no_lf = goes.no_lf;
      taken = sym (append_assoc old.unread got new.unread) ∙ ap (λ l. l ++ new.unread) gone;
      answered = answered ∙ goes.answered;
    }

-- the bytes that were taken from a source, which said what was left before and after
pub record Takes (left left' : Option (List ℕ)) (old now : Reading) : Type 0 where
  pub got : List ℕ
  pub consumed : Consumes left left' got
  pub goes : Goes old got now

-- the bytes taken are searched, and others are read
pub Takes-turn : (left left' left'' : Option (List ℕ)) (old now mid new : Reading)
    → Takes left left' old now → Joins now mid
    → Refills left' left'' mid new → Takes left left'' old new
Takes-turn left left' left'' old now mid new takes joins refills =
    let joined = Goes-joins old now mid takes.got takes.goes joins in
    record {
      got = takes.got ++ new.unread;
      consumed = Consumes-trans left left' left'' takes.got new.unread takes.consumed refills.bytes;
      goes = Goes-reads old mid new takes.got joined joins.waits.none_waits refills.else_same;
    }

-- a line that an LF ends
pub Answers-from_cut : (old now new : Reading) (got : List ℕ) (shown : Shown) → Goes old got now
    → Cuts now shown new → Answers old got shown new
Answers-from_cut old now new got shown goes cuts =
    let piece = cuts.cut.piece in
    let taken : now.unread ≡ piece ++ 10 ∷ new.unread =
    sym (append-nil now.unread) ∙ cuts.cut.taken in
    let seen = ap length goes.taken ∙ length-append goes.seen now.unread in
    let old_count = length-append old.unread got in
    let piece_count = length-append goes.seen piece in
    let cut : CutAt old got new = record {
      piece = goes.seen ++ piece;
      no_lf = All-append (λ x. x ≢ 10) goes.seen piece goes.no_lf cuts.cut.no_lf;
      taken = goes.taken ∙ ap (λ l. goes.seen ++ l) taken
          ∙ sym (append_assoc goes.seen piece (10 ∷ new.unread));
      no_start = cuts.cut.no_start;
      answered = omega (
        arith,
        goes.shows.count,
        goes.answered,
        cuts.cut.answered,
        seen,
        old_count,
        piece_count,
      );
    } in
    let shows = Shows-then old now new got (shown ∷ []) goes.shows cuts.shows in
    (omega (arith, goes.answered, cuts.cut.answered), inl (shows, cut))

-- the end of the input comes after the bytes that were taken
pub Ends-after : (old now new : Reading) (got : List ℕ) (shown : List Shown) → Goes old got now
    → Ends now [] shown new → Ends old got shown new
Ends-after old now new got shown goes ends = record {
  all =
      ap (λ l. lines_after old l true) (sym (append-nil got)) ∙ goes.shows.each [] true ∙ ends.all;
  whole = ap (λ l. lines_after old l false) (sym (append-nil got))
      ∙ goes.shows.each [] false ∙ ends.whole;
  done = ends.done;
  count = omega (arith, goes.shows.count, ends.count);
}

-- the bytes taken at the start have no LF where those left have none
pub Goes-no_lf : (old now : Reading) (got : List ℕ) → Goes old got now → NoLf now.unread
    → NoLf old.unread
Goes-no_lf old now got goes no_lf =
    let whole = All-append (λ x. x ≢ 10) goes.seen now.unread goes.no_lf no_lf in
    let same = All-same (λ x. x ≢ 10) (old.unread ++ got) (goes.seen ++ now.unread)
    goes.taken whole in
    let front = All-take (λ x. x ≢ 10) (length old.unread) (old.unread ++ got) same in
    All-same (λ x. x ≢ 10) old.unread _
    (sym (take_at old.unread got (length old.unread) refl)) front

-- where nothing was to be read, a read is asked for only at the most bytes that are taken
pub Goes-quiet : (old now new : Reading) (got : List ℕ) → Goes old got now → Joins now new
    → count_of now ≤ max_count → IsQuiet old
    → count_of new ≡ max_count
Goes-quiet old now new got goes joins few (inl met) = absurd (false≢true (sym goes.not_met ∙ met))
Goes-quiet old now new got goes joins few (inr (inl lf)) =
    absurd (lf (Goes-no_lf old now got goes joins.no_lf))
Goes-quiet old now new got goes joins few (inr (inr full)) =
    omega (arith, goes.shows.count, joins.waits.shows.count, full, few)

-- an LF stands after some bytes
pub has_lf : (bytes piece rest : List ℕ) → bytes ≡ piece ++ 10 ∷ rest → NoLf bytes → ⊥
has_lf bytes piece rest is no_lf =
    let later = All-drop (λ x. x ≢ 10) (length piece) _
    (All-same (λ x. x ≢ 10) _ _ (sym is) no_lf) in
    let at_lf = All-same (λ x. x ≢ 10) _ _ (sym (drop-append_seam piece (10 ∷ rest))) later in
    All-head (λ x. x ≢ 10) 10 rest at_lf refl

-- and among the bytes of which a line was cut
Cuts-lf : (old : Reading) (shown : Shown) (new : Reading) → Cuts old shown new → NoLf old.unread → ⊥
Cuts-lf old shown new cuts no_lf =
    has_lf old.unread cuts.cut.piece new.unread (sym (append-nil old.unread) ∙ cuts.cut.taken) no_lf

-- no line is found where the most bytes were taken before and none has an LF
pub Goes-at_limit : (old now new : Reading) (got : List ℕ) (shown : Shown) → Goes old got now
    → Cuts now shown new → count_of now ≤ max_count
    → NoLf old.unread → count_of old ≡ max_count → ⊥
Goes-at_limit old now new got shown goes cuts few no_lf full =
    let none : got ≡ [] = nil_from_length got (omega (arith, goes.shows.count, full, few)) in
    let seen : goes.seen ++ now.unread ≡ old.unread =
    sym goes.taken ∙ ap (λ l. old.unread ++ l) none ∙ append-nil old.unread in
    let later = All-drop (λ x. x ≢ 10) (length goes.seen) _
    (All-same (λ x. x ≢ 10) _ _ seen no_lf) in
    let now_no_lf = All-same (λ x. x ≢ 10) _ _
    (sym (drop-append_seam goes.seen now.unread)) later in
    Cuts-lf now shown new cuts now_no_lf

-- the end of the input, with a last line or without one
pub Reaches-end : (old now new : Reading) (got : List ℕ) (result : Option Answer) → Goes old got now
    → MatchOption result (Ends now [] [] new)
    (λ answer. Ends now [] (shown_by answer new.shown ∷ []) new × (now.answered < new.answered))
    → Reaches old got (Ok result) new
Reaches-end old now new got None goes ends =
    let done = ends.done in (
      Ends-after old now new got [] goes ends,
      omega (arith, ap length done.no_start, ap length done.no_unread),
    )
Reaches-end old now new got (Some answer) goes ends =
    (omega (arith, goes.answered, ends.1), inr (Ends-after old now new got _ goes ends.0))
