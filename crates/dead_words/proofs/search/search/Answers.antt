use Rattle.std.proofs.Common.{arith}
use Rattle.dead_words.proofs.Ending.{first_end, not_if_false, so_if_true}
use Rattle.dead_words.proofs.Searching.{searched_first}
use Rattle.dead_words.proofs.search.search.Goals as goal

pub returns-then-not-extends : goal.returns-then-not-extends
returns-then-not-extends c = rw c.new.ensures.items (
  first_end c.args.nfa.now (not_if_false _ c.extends.ensures c.if-not-extends.true),
  λ word is less. absurd (omega (arith, less)),
)

pub search_levels-requires-clause-searched : goal.search_levels-requires-clause-searched
search_levels-requires-clause-searched c =
    searched_first c.args.nfa.now _ c.new-known.ensures.empty _
    (so_if_true _ c.extends.ensures c.if-not-extends.false) c.in_ok-first.ensures.initial
