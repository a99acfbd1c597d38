use Rattle.std.proofs.Common.{◌≡◌, ◌+◌, ◌∙◌, ℕ, length, ap, arith}
use Rattle.std.proofs.lemmas.List.Elements.{All-contains}
use Rattle.dead_words.specs.Searched.{LeadsIntoKnown}
use Rattle.dead_words.specs.declared.search.Reached.{Reached}
use Rattle.dead_words.proofs.Growing.{grown_none, lead_more}
use Rattle.dead_words.proofs.Leading.{holds_at, one_further}
use Rattle.dead_words.proofs.Searching.{searched_next}
use Rattle.dead_words.proofs.search.next_level.Goals as goal

pub level-preserved : goal.level-preserved
level-preserved c =
    let nfa = c.args.nfa.now in
    let on = rw c.in_default.is at c.in_ok-word.ensures.expanded in
    let same = on.grown c.level.known.keys
    (grown_none nfa c.level.known.keys c.level.next.items) in
    record {
      reached = c.in_ok-word.ensures.next;
      items = λ items have. c.in_ok-word.ensures.items (items + 1) (ap (λ (n : ℕ). n + 1)
          (holds_at (λ (r : Reached). length r.word.items ≡ items) c.args.level.now
          c.level.from-index
          c.from-item.result have c.level-test.true c.from-item.is))
          (c.level.invariant.items items have);
      grown = on.grown c.args.known.now.keys c.level.invariant.grown;
      gone = one_further
          (λ (r : Reached). LeadsIntoKnown nfa c.expand.new.known.keys r.state)
          c.args.level.now c.level.from-index c.from-item.result
          (λ k d less. lead_more nfa c.level.known.keys c.expand.new.known.keys same.kept _
          (c.level.invariant.gone k d less)) c.level-test.true c.from-item.is on.gone;
    }

pub returns-in-Some-clause-searched : goal.returns-in-Some-clause-searched
returns-in-Some-clause-searched c = λ items have searched.
    let found = rw c.in-Some.is at c.in_ok-word.ensures.found in
    found.1 ∙ ap (λ (n : ℕ). n + 1) (holds_at (λ (r : Reached). length r.word.items ≡ items)
    c.args.level.now c.level.from-index c.from-item.result have c.level-test.true c.from-item.is)

pub returns-clause-searched : goal.returns-clause-searched
returns-clause-searched c = λ items have searched. (
  searched_next c.args.nfa.now items _ _ _ _ searched c.level.invariant.grown
      (λ reached in'. All-contains
      (λ (r : Reached). LeadsIntoKnown c.args.nfa.now c.level.known.keys r.state)
      c.args.level.now
      reached (λ k d lt. c.level.invariant.gone k d (omega (arith, lt, c.level-test.false))) in'),
  c.level.invariant.items items have,
)
