-- Runs that go on from a snapshot which stands after bytes, and snapshots saved after them.
use Rattle.std.proofs.Common.{◌≡◌, ◌<◌, ◌≤◌, ◌||◌, ◌^◌, ℕ, Bool, true, false, List, [], ◌∷◌, ◌++◌}
use Rattle.std.proofs.Common.{length, Some, refl, sym, ap, subst, ◌∙◌, arith}
use Rattle.io_edge.specs.Lines.{lines}
use Rattle.item_schema.specs.Layout.{Layout}
use Rattle.query_model.specs.Monitors.{Monitor}
use Rattle.rate_expr.specs.Words.{Word}
use Rattle.runner_snapshot.specs.Bytes.{Snapshot, snapshot_with}
use Rattle.runner_snapshot.specs.Dumps.{Runner}
use Rattle.runner_snapshot.proofs.ReadSnapshots.{one_spelling}
use Rattle.stream_run.specs.Meanings.{IsMeaning, Meaning}
use Rattle.stream_run.specs.Output.{answers}
use Rattle.stream_run.specs.Resumed.{EndsLine, is_some_byte, items_after, meaning_after}
use Rattle.stream_run.proofs.FewItems.{items-few}
use Rattle.stream_run.proofs.GoingOn.{items-cut, output-cut}
use Rattle.value_ops.specs.Texts.{IsText}
use Rattle.saved_run.specs.Advancing.{IsAdvanced}
use Rattle.saved_run.specs.Opened.{IsSpelled}
use Rattle.saved_run.specs.Resuming.{IsSaidFrom}
use Rattle.saved_run.specs.Saving.{IsSavedAfter, IsSavedFor}
use Rattle.saved_run.specs.Standing.{StandsAfter}
use Rattle.saved_run.proofs.Words.{items_are_word}

-- there are bytes if there are some in either part
some-append : (first others : List ℕ)
    → is_some_byte (first ++ others) ≡ (is_some_byte first || is_some_byte others)
some-append [] others = refl
some-append (byte ∷ first) others = refl

module _ (means : Runner → Word → Type 0) (monitor : Monitor) (snapshot : Snapshot) where
  pub goes_on : (meaning : Meaning) (first others written : List ℕ) → IsText first → EndsLine first
      → IsMeaning monitor meaning → StandsAfter means monitor.layout first snapshot
      → IsSaidFrom means monitor snapshot (lines others true) written
      → answers meaning (lines (first ++ others) true)
      ≡ answers meaning (lines first true) ++ written
  goes_on meaning first others written are cut is standing said =
      let word = items_after monitor.layout false first in
      let shown = lines others true in
      let here : written ≡ answers (meaning_after meaning word snapshot.began) shown =
      said.values word meaning (items_are_word monitor.layout false first are) standing.stands is in
      let all : written ≡ answers (meaning_after meaning
      (items_after meaning.layout false first) (is_some_byte first)) shown =
      here ∙ ap (λ (b : Bool). answers (meaning_after meaning word b) shown) standing.began_is
      ∙ ap (λ (l : Layout). answers (meaning_after meaning (items_after l false first)
      (is_some_byte first)) shown) (sym is.layout) in
      output-cut first others cut meaning [] false true
      ∙ ap (λ (l : List ℕ). answers meaning (lines first true) ++ l) (sym all)

  pub carried : (first others answered bytes : List ℕ) → EndsLine first
      → StandsAfter means monitor.layout first snapshot
      → IsAdvanced means monitor snapshot others answered bytes
      → IsSavedFor means snapshot.text monitor.layout (Some (first ++ others)) bytes
  carried first others answered bytes cut standing advanced =
      let layout = monitor.layout in
      let word = items_after layout false first in
      let saved = advanced.saved.after word standing.stands in
      let begun : (snapshot.began || is_some_byte others) ≡ is_some_byte (first ++ others) =
      ap (λ (b : Bool). b || is_some_byte others) standing.began_is
      ∙ sym (some-append first others) in
      let items : (word ++ items_after layout snapshot.began others)
      ≡ items_after layout false (first ++ others) =
      ap (λ (b : Bool). word ++ items_after layout b others) standing.began_is
      ∙ sym (items-cut first others cut layout false) in
      subst (λ (b : Bool). IsSavedAfter means snapshot.text b
      (items_after layout false (first ++ others)) bytes) begun
      (subst (λ (w : Word). IsSavedAfter means snapshot.text
      (snapshot.began || is_some_byte others) w bytes) items saved)

  pub opened : (text items bytes : List ℕ) → length items < 2 ^ 63
      → IsSavedFor means text monitor.layout (Some items) bytes → IsSpelled bytes snapshot
      → (snapshot.text ≡ text) × StandsAfter means monitor.layout items snapshot
  opened text items bytes short saved spelled =
      let layout = monitor.layout in
      let word = items_after layout false items in
      let kept = snapshot_with text (is_some_byte items) saved.dump in
      let near : length word ≤ 2 ^ 62 = omega (arith, short, items-few layout false items) in
      let same : kept ≡ snapshot = one_spelling kept snapshot (saved.spelled spelled.few near)
      spelled.is_snapshot (sym saved.bytes_are ∙ spelled.bytes_are) in (
        sym (ap (λ (s : Snapshot). s.text) same),
        record {
          stands = subst (λ (s : Snapshot). means s.dump word) same saved.stands;
          began_is = sym (ap (λ (s : Snapshot). s.began) same);
        },
      )
