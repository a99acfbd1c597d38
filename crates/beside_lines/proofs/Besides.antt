-- What is written of one line more comes after what was written of those before.
use Rattle.std.proofs.Common.{◌≡◌, List, ℕ, [], ◌∷◌, ◌++◌, sym, ap, ◌∙◌, append_assoc, append-nil}
use Rattle.io_edge.specs.Lines.{Shown}
use Rattle.stream_run.specs.Meanings.{Meaning}
use Rattle.beside_lines.specs.Besides.{beside, besides, besides_after}

module _ (meanings : List Meaning) where
  besides_after-append : (before shown more : List Shown)
      → besides_after meanings before (shown ++ more)
      ≡ besides_after meanings before shown ++ besides_after meanings (before ++ shown) more
  besides_after-append before [] more =
      ap (λ (b : List Shown). besides_after meanings b more) (sym (append-nil before))
  besides_after-append before (line ∷ shown) more =
      let here = beside meanings before line in
      let after = besides_after meanings (before ++ line ∷ []) shown in
      ap (λ (l : List ℕ). here ++ l) (besides_after-append (before ++ line ∷ []) shown more)
      ∙ sym (append_assoc here after _)
      ∙ ap (λ (b : List Shown). (here ++ after) ++ besides_after meanings b more)
      (append_assoc before (line ∷ []) shown)

  pub besides-push : (shown : List Shown) (line : Shown)
      → besides meanings (shown ++ line ∷ []) ≡ besides meanings shown ++ beside meanings shown line
  besides-push shown line =
      besides_after-append [] shown (line ∷ [])
      ∙ ap (λ (l : List ℕ). besides meanings shown ++ l) (append-nil (beside meanings shown line))
