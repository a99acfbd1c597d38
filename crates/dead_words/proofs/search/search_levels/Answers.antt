use Rattle.std.proofs.Common.{◌∙◌, ℕ, ◌==◌, ap}
use Rattle.dead_words.proofs.Searching.{none_if, searched_all, searched_below}
use Rattle.dead_words.proofs.search.search_levels.Goals as goal

pub levels-init : goal.levels-init
levels-init c = record {
  reached = c.requires.reached;
  items = c.requires.items;
  searched = c.requires.searched;
}

pub returns-then-is_empty : goal.returns-then-is_empty
returns-then-is_empty c = searched_all c.args.nfa.now c.levels.counter _ _
    c.levels.invariant.searched
    (none_if _ _ (c.is_empty.ensures ∙ ap (λ (n : ℕ). n == 0) c.levels.level.ok.0)
    c.if-is_empty.true)

pub levels-preserved : goal.levels-preserved
levels-preserved c =
    let searched = rw c.in-Next.is at (c.in_ok-word.ensures.searched c.levels.counter
    (rw c.deref.ensures.value c.levels.invariant.items)
    (rw c.deref.ensures.value c.levels.invariant.searched)) in
    record {
      reached = rw c.in-Next.is at c.in_ok-word.ensures.level;
      items = searched.1;
      searched = searched.0;
    }

pub returns-in-Found : goal.returns-in-Found
returns-in-Found c =
    let long = rw c.in-Found.is at (c.in_ok-word.ensures.searched c.levels.counter
    (rw c.deref.ensures.value c.levels.invariant.items)
    (rw c.deref.ensures.value c.levels.invariant.searched)) in (
      rw c.in-Found.is at c.in_ok-word.ensures.level,
      searched_below c.args.nfa.now c.levels.counter _ _ c.levels.invariant.searched _ long,
    )
