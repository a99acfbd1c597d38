use Rattle.separating_word.proofs.Searching.{searched_below}
use Rattle.separating_word.proofs.search.search_levels.Goals as goal

pub levels-init : goal.levels-init
levels-init c = record {
  reached = c.requires.reached;
  items = c.requires.items;
  searched = c.requires.searched;
}

pub levels-preserved : goal.levels-preserved
levels-preserved c =
    let searched = rw c.in-Next.is at (c.in_ok-word.ensures.searched c.levels.counter
    (rw c.deref.ensures.value c.levels.invariant.items)
    (rw c.deref.ensures.value c.levels.invariant.searched)) in
    record {
      reached = rw c.in-Next.is at c.in_ok-word.ensures.level;
      items = searched.1;
      searched = searched.0;
    }

pub returns-in-Found : goal.returns-in-Found
returns-in-Found c =
    let long = rw c.in-Found.is at (c.in_ok-word.ensures.searched c.levels.counter
    (rw c.deref.ensures.value c.levels.invariant.items)
    (rw c.deref.ensures.value c.levels.invariant.searched)) in
    record {
      cells_of = rw c.in-Found.is at c.in_ok-word.ensures.level;
      agree = searched_below c.args.automata.now c.levels.counter _ _
          c.levels.invariant.searched _ long;
    }
