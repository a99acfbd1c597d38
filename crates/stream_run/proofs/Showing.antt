-- The lines that a run has shown, from one reading to the next.
use Rattle.std.proofs.Common.{◌≡◌, ◌⊎◌, inl, inr, ℕ, Bool, true, false, List, [], ◌∷◌, ◌++◌, length}
use Rattle.std.proofs.Common.{refl, sym, ap, ◌∙◌, append_assoc, append-nil, length-append, arith}
use Rattle.io_edge.specs.Lines.{Shown, lines, lines_from}
use Rattle.io_edge.specs.Reading.{Reading, Shows, Ends, Waits, Answers, lines_after, count_of}
use Rattle.stream_run.specs.Running.{Showed}

-- a test is true or false
pub true_or_false : (b : Bool) → (b ≡ true) ⊎ (b ≡ false)
true_or_false true = inl refl
true_or_false false = inr refl

-- more lines were shown, and more may come
pub Showed-shows : (got got' : List ℕ) (shown more : List Shown) (old new : Reading)
    → Showed got shown old → old.met ≡ false → Shows old got' more new
    → Showed (got ++ got') (shown ++ more) new
Showed-shows got got' shown more old new showed going shows = record {
  continues = λ _ next ended.
      ap (λ (l : List ℕ). lines l ended) (append_assoc got got' next)
      ∙ showed.continues going (got' ++ next) ended
      ∙ ap (λ (l : List Shown). shown ++ l) (shows.each next ended)
      ∙ sym (append_assoc shown more (lines_after new next ended));
  at_end = λ met. absurd (cc (met, shows.not_met));
  count = omega (arith, shows.count, showed.count, length-append got got');
}

-- more lines were shown, and these were the last
pub Showed-ends : (got got' : List ℕ) (shown more : List Shown) (old new : Reading)
    → Showed got shown old → old.met ≡ false → Ends old got' more new
    → Showed (got ++ got') (shown ++ more) new
Showed-ends got got' shown more old new showed going ends = record {
  continues = λ ongoing. absurd (cc (ongoing, ends.done.met));
  at_end = λ _.
      ap (λ (l : List ℕ). lines (got ++ l) true) (sym (append-nil got'))
      ∙ showed.continues going (got' ++ []) true
      ∙ ap (λ (l : List ℕ). shown ++ lines_after old l true) (append-nil got')
      ∙ ap (λ (l : List Shown). shown ++ l) ends.all;
  count = omega (arith, ends.count, showed.count, length-append got got');
}

-- the lines of all bytes, while no end was met
pub Showed-lines : (got : List ℕ) (shown : List Shown) (now : Reading) (ended : Bool)
    → Showed got shown now → now.met ≡ false → lines got ended ≡ shown ++ lines_after now [] ended
Showed-lines got shown now ended showed going =
    ap (λ (l : List ℕ). lines l ended) (sym (append-nil got)) ∙ showed.continues going [] ended

-- the lines of all bytes are those shown and some others
pub Showed-split : (got : List ℕ) (shown : List Shown) (now : Reading) → Showed got shown now
    → (others : List Shown) × (lines got true ≡ shown ++ others)
Showed-split got shown now showed = at (true_or_false now.met)
  where
    at : (now.met ≡ true) ⊎ (now.met ≡ false)
        → (others : List Shown) × (lines got true ≡ shown ++ others)
    at (inl met) = ([], showed.at_end met ∙ sym (append-nil shown))
    at (inr going) = (lines_after now [] true, Showed-lines got shown now true showed going)

module _ (got got' : List ℕ) (shown : List Shown) (line : Shown) (old new : Reading) where
  -- the answered line was shown too
  pub Answers-lines : Showed got shown old → old.met ≡ false → Answers old got' line new
      → Showed (got ++ got') (shown ++ line ∷ []) new
  Answers-lines showed going (more, inl (shows, cut)) =
      Showed-shows got got' shown (line ∷ []) old new showed going shows
  Answers-lines showed going (more, inr ends) =
      Showed-ends got got' shown (line ∷ []) old new showed going ends

  -- the whole lines of all bytes are those shown before and some others
  pub Answers-whole : Showed got shown old → old.met ≡ false → Answers old got' line new
      → (others : List Shown) × (lines (got ++ got') false ≡ shown ++ others)
  Answers-whole showed going (more, inl (shows, cut)) =
      let after = Showed-shows got got' shown (line ∷ []) old new showed going shows in
      let others = lines_after new [] false in (
        line ∷ others,
        Showed-lines (got ++ got') (shown ++ line ∷ []) new false after shows.not_met
            ∙ append_assoc shown (line ∷ []) others,
      )
  Answers-whole showed going (more, inr ends) = (
    [],
    ap (λ (l : List ℕ). lines (got ++ l) false) (sym (append-nil got'))
        ∙ showed.continues going (got' ++ []) false
        ∙ ap (λ (l : List ℕ). shown ++ lines_after old l false) (append-nil got')
        ∙ ap (λ (l : List Shown). shown ++ l) ends.whole,
  )

-- where no line waits, the whole lines are those shown
pub Waits-lines : (got got' : List ℕ) (shown : List Shown) (old new : Reading)
    → Showed got shown old → old.met ≡ false → Waits old got' new
    → (lines (got ++ got') false ≡ shown) × (count_of new ≡ length (got ++ got'))
Waits-lines got got' shown old new showed going waits =
    let after = Showed-shows got got' shown [] old new showed going waits.shows in (
      Showed-lines (got ++ got') (shown ++ []) new false after waits.shows.not_met
          ∙ ap (λ (l : List ℕ). (shown ++ []) ++ lines_from new.start (l ++ []) false)
          waits.none_waits ∙ append-nil (shown ++ []) ∙ append-nil shown,
      after.count,
    )
