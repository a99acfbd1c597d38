-- Whatever function gives the values of a query, the same is written.
use Rattle.std.proofs.Common.{◌≡◌, ℕ, true, false, cond, List, [], ◌∷◌, ◌++◌, Option, refl, sym, ap}
use Rattle.std.proofs.Common.{◌∙◌}
use Rattle.std.specs.List.{AllByRecursion}
use Rattle.io_edge.specs.Lines.{Shown, lines}
use Rattle.value_ops.specs.Texts.{IsText}
use Rattle.value_ops.specs.declared.value.Value.{Value}
use Rattle.item_schema.specs.Layout.{Layout}
use Rattle.query_model.specs.Monitors.{Monitor}
use Rattle.query_model.specs.Rules.{free}
use Rattle.stream_run.specs.Meanings.{IsMeaning, Meaning}
use Rattle.query_compiler.specs.Compiled.{KeepsRules}
use Rattle.stream_run.specs.Output.{answer, answers_after, is_header, items_of}
use Rattle.sqre_run.specs.Spoken.{answering, output}
use Rattle.stream_run.specs.Output.{read_of, reply_to, value_after}
use Rattle.sqre_run.specs.Spoken.{whole_output}
use Rattle.sqre_run.proofs.ByteLines.{IsByteLine, byte_lines, byte_lines-append, items_word}
use Rattle.stream_run.proofs.OneAnswer.{one_answer}

-- what is written for a line, by the layout and the value after the line
reply_by : Layout → List Shown → Shown → Option Value → List ℕ
reply_by layout before line value =
    cond (is_header layout before) [] (reply_to (read_of layout.columns line) value)

module _ (monitor : Monitor) (keeps : KeepsRules monitor) (one other : Meaning)
    (is_one : IsMeaning monitor one) (is_other : IsMeaning monitor other) where
  -- the values on items of lines of bytes
  values_same : (shown : List Shown) → AllByRecursion IsByteLine shown
      → value_after one shown ≡ value_after other shown
  values_same shown are =
      let items = items_of monitor.layout shown in
      let is = items_word monitor.layout shown are in
      ap (λ (l : Layout). one.value (items_of l shown)) is_one.layout
      ∙ one_answer free monitor.layout.columns monitor.query items (one.value items)
      (other.value items) keeps.clear is (is_one.value items is) (is_other.value items is)
      ∙ sym (ap (λ (l : Layout). other.value (items_of l shown)) is_other.layout)

  answer_same : (before : List Shown) (line : Shown) → AllByRecursion IsByteLine before
      → IsByteLine line → answer one before line ≡ answer other before line
  unfolding reply_by
  answer_same before line are is =
      ap (λ (l : Layout). reply_by l before line (value_after one (before ++ line ∷ [])))
      (is_one.layout ∙ sym is_other.layout) ∙ ap (reply_by other.layout before line)
      (values_same (before ++ line ∷ []) (byte_lines-append before (line ∷ []) are (is, tt)))

  answers_same : (before shown : List Shown) → AllByRecursion IsByteLine before
      → AllByRecursion IsByteLine shown
      → answers_after one before shown ≡ answers_after other before shown
  answers_same before [] are are' = refl
  answers_same before (line ∷ shown) are are' =
      ap (λ (l : List ℕ). l ++ answers_after one (before ++ line ∷ []) shown)
      (answer_same before line are are'.0) ∙ ap (λ (l : List ℕ). answer other before line ++ l)
      (answers_same (before ++ line ∷ []) shown
      (byte_lines-append before (line ∷ []) are (are'.0, tt)) are'.1)

  pub one_output : (bytes : List ℕ) → IsText bytes
      → (output (answering one) bytes ≡ output (answering other) bytes)
      × (whole_output (answering one) bytes ≡ whole_output (answering other) bytes)
  one_output bytes is = (
    answers_same [] (lines bytes true) tt (byte_lines bytes true is),
    answers_same [] (lines bytes false) tt (byte_lines bytes false is),
  )
