use Rattle.std.proofs.Common.{◌≡◌, ◌∙◌, length, refl, arith}
use Rattle.std.proofs.lemmas.List.{get_or_default}
use Rattle.std.proofs.lemmas.List.Elements.{All-push}
use Rattle.separating_word.specs.Searched.{IsReachedIn}
use Rattle.separating_word.specs.declared.search.Reached.{Reached}
use Rattle.separating_word.proofs.Differing.{agree_if_not}
use Rattle.separating_word.proofs.Growing.{grown_known, grown_new}
use Rattle.separating_word.proofs.Leading.{lead_into_known, led_next}
use Rattle.separating_word.proofs.Reaching.{cells_next, one_longer, reached_next}
use Rattle.separating_word.proofs.search.expand.Goals as goal
use Rattle.separating_word.proofs.search.expand.Goals.{then-branch+in_ok-word+else-differ+in_ok-push}
use Rattle.separating_word.proofs.search.expand.Goals.{else-branch}

pub letters-preserved : goal.letters-preserved
letters-preserved c =
    let automata = c.args.automata.now in
    let letters = c.args.letters.now in
    let at = c.letters.letter-index in
    let within = c.letters-test.true in
    let put = c.in_ok-note.ensures.put in
    let led = led_next letters (c.ways_on.result, c.ways_on-2.result) _ _ at _ _ put within
    (get_or_default letters at _ _ within) c.target-masks.ensures c.letters.invariant.led in
    elim c.if-branch.branch [
      | then-branch+in_ok-word+else-differ+in_ok-push w ↦
          let longer = rw w.deref.ensures.value at w.in_ok-word.ensures in
          let agree = agree_if_not _ _ _ w.differ.ensures w.if-differ.false in
          rw (w.next-is, w.in_ok-push.ensures.items) record {
            reached = All-push (IsReachedIn automata) _ _ c.letters.invariant.reached
                (reached_next automata letters c.requires.letters c.args.from.now
                c.requires.from at _ within
                (get_or_default letters at _ _ within) _ longer
                (c.ways_on.result, c.ways_on-2.result) _ c.ways_on.ensures c.ways_on-2.ensures
                c.target-masks.ensures _ refl refl refl);
            items = λ items is have. All-push (λ (r : Reached). length r.word.items ≡ items) _ _
                (c.letters.invariant.items items is have)
                (one_longer automata letters c.requires.letters c.args.from.now
                c.requires.from at _ within
                (get_or_default letters at _ _ within) _ longer ∙ is);
            grown = λ first before. grown_new automata first _ _ _ _ put
                (c.letters.invariant.grown first before) _ agree refl refl;
            led = led;
          }
      | else-branch w ↦ rw w.next-is record {
        reached = c.letters.invariant.reached;
        items = c.letters.invariant.items;
        grown = λ first before. grown_known automata first _ _ _ _ put
            (c.letters.invariant.grown first before) (c.in_ok-note.ensures.old w.if-branch.false);
        led = led;
      }
    ]

pub returns-then-differ-clause-found : goal.returns-then-differ-clause-found
returns-then-differ-clause-found c =
    let automata = c.args.automata.now in
    let letters = c.args.letters.now in
    let at = c.letters.letter-index in
    let within = c.letters-test.true in
    let longer = rw c.deref.ensures.value at c.in_ok-word.ensures in (
      cells_next automata letters c.requires.letters c.args.from.now c.requires.from at _ within
          (get_or_default letters at _ _ within) _ longer,
      one_longer automata letters c.requires.letters c.args.from.now c.requires.from at _ within
          (get_or_default letters at _ _ within) _ longer,
    )

pub returns-clause-expanded : goal.returns-clause-expanded
returns-clause-expanded c = record {
  grown = c.letters.invariant.grown;
  gone = lead_into_known c.args.automata.now c.requires.cells c.args.letters.now c.requires.letters
      c.args.from.now.left c.args.from.now.right (c.ways_on.result, c.ways_on-2.result)
      c.ways_on.ensures c.ways_on-2.ensures _
      (λ k d lt. c.letters.invariant.led k d (omega (arith, lt, c.letters-test.false)));
}
