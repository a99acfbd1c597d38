use Rattle.std.proofs.Common.{◌≡◌, ◌∙◌, length, refl, arith}
use Rattle.std.proofs.lemmas.List.{get_or_default}
use Rattle.std.proofs.lemmas.List.Elements.{All-push}
use Rattle.dead_words.specs.Letters.{IsLetter}
use Rattle.dead_words.specs.Searched.{IsReachedIn}
use Rattle.dead_words.specs.declared.search.Reached.{Reached}
use Rattle.dead_words.proofs.Ending.{not_if_false, so_if_true}
use Rattle.dead_words.proofs.Growing.{grown_known, grown_new}
use Rattle.dead_words.proofs.Leading.{holds_at, leads_into_known, led_next}
use Rattle.dead_words.proofs.Reaching.{end_next, one_longer, reached_next}
use Rattle.dead_words.proofs.search.expand.Goals as goal
use Rattle.dead_words.proofs.search.expand.Goals.{then-branch+in_ok-word+else-not-extends+in_ok-push}
use Rattle.dead_words.proofs.search.expand.Goals.{else-branch}

pub letters-preserved : goal.letters-preserved
letters-preserved c =
    let nfa = c.args.nfa.now in
    let letters = c.args.letters.now in
    let at = c.letters.letter-index in
    let within = c.letters-test.true in
    let put = c.in_ok-note.ensures.put in
    let read = get_or_default letters at _ _ within in
    let is_letter = holds_at (IsLetter nfa) letters at _ c.requires.letters.each within read in
    let led = led_next letters c.ways_on-ways.result _ _ at _ _ put within read refl
    c.letters.invariant.led in
    elim c.if-branch.branch [
      | then-branch+in_ok-word+else-not-extends+in_ok-push w ↦
          let longer = rw w.deref.ensures.value at w.in_ok-word.ensures in
          let extends = so_if_true _ w.extends.ensures w.if-not-extends.false in
          rw (w.next-is, w.in_ok-push.ensures.items) record {
            reached = All-push (IsReachedIn nfa) _ _ c.letters.invariant.reached
                (reached_next nfa c.args.from.now c.requires.from _ is_letter _ longer
                c.ways_on-ways.result _ c.ways_on-ways.ensures refl _ refl refl);
            items = λ items is have. All-push (λ (r : Reached). length r.word.items ≡ items) _ _
                (c.letters.invariant.items items is have)
                (one_longer nfa c.args.from.now c.requires.from _ is_letter _ longer ∙ is);
            grown = λ first before. grown_new nfa first _ _ _ _ put
                (c.letters.invariant.grown first before) _ extends refl;
            led = led;
          }
      | else-branch w ↦ rw w.next-is record {
        reached = c.letters.invariant.reached;
        items = c.letters.invariant.items;
        grown = λ first before. grown_known nfa first _ _ _ _ put
            (c.letters.invariant.grown first before) (c.in_ok-note.ensures.old w.if-branch.false);
        led = led;
      }
    ]

pub returns-then-not-extends-clause-found : goal.returns-then-not-extends-clause-found
returns-then-not-extends-clause-found c =
    let nfa = c.args.nfa.now in
    let letters = c.args.letters.now in
    let at = c.letters.letter-index in
    let within = c.letters-test.true in
    let is_letter = holds_at (IsLetter nfa) letters at _ c.requires.letters.each within
    (get_or_default letters at _ _ within) in
    let longer = rw c.deref.ensures.value at c.in_ok-word.ensures in (
      end_next nfa c.args.from.now c.requires.from _ is_letter _ longer
          c.ways_on-ways.result _ c.ways_on-ways.ensures refl
          (not_if_false _ c.extends.ensures c.if-not-extends.true),
      one_longer nfa c.args.from.now c.requires.from _ is_letter _ longer,
    )

pub returns-clause-expanded : goal.returns-clause-expanded
returns-clause-expanded c = record {
  grown = c.letters.invariant.grown;
  gone = leads_into_known c.args.nfa.now c.args.letters.now c.requires.letters
      c.args.from.now.state c.ways_on-ways.result c.ways_on-ways.ensures _
      (λ k d lt. c.letters.invariant.led k d (omega (arith, lt, c.letters-test.false)));
}
