-- What is written for more lines comes after what is written for those before.
use Rattle.std.proofs.Common.{◌≡◌, List, ℕ, [], ◌∷◌, ◌++◌, sym, ap, ◌∙◌, append_assoc, append-nil}
use Rattle.io_edge.specs.Lines.{Shown}
use Rattle.stream_run.specs.Meanings.{Meaning}
use Rattle.stream_run.specs.Output.{answer, answers_after, answers}

module _ (meaning : Meaning) where
  -- the answers to two runs of lines, one after the other
  pub answers_after-append : (before shown more : List Shown)
      → answers_after meaning before (shown ++ more)
      ≡ answers_after meaning before shown ++ answers_after meaning (before ++ shown) more
  answers_after-append before [] more =
      ap (λ (b : List Shown). answers_after meaning b more) (sym (append-nil before))
  answers_after-append before (line ∷ shown) more =
      let here = answer meaning before line in
      let after = answers_after meaning (before ++ line ∷ []) shown in
      ap (λ (l : List ℕ). here ++ l) (answers_after-append (before ++ line ∷ []) shown more)
      ∙ sym (append_assoc here _ _)
      ∙ ap (λ (b : List Shown). (here ++ after) ++ answers_after meaning b more)
      (append_assoc before (line ∷ []) shown)

  -- the answer to one line more
  pub answers-push : (shown : List Shown) (line : Shown)
      → answers meaning (shown ++ line ∷ []) ≡ answers meaning shown ++ answer meaning shown line
  answers-push shown line =
      answers_after-append [] shown (line ∷ [])
      ∙ ap (λ (l : List ℕ). answers meaning shown ++ l) (append-nil (answer meaning shown line))
