use Rattle.std.proofs.Common.{rules}
use Rattle.rate_equal.proofs.alphabet.Alphabet.over.Goals as goal

pub invariant_of-result : goal.invariant_of-result
invariant_of-result c = record {
  few = c.requires.few;
  rows_of_first = c.requires.rows_of_first;
  rows_of_second = c.requires.rows_of_second;
  in_first = c.requires.in_first;
  in_second = c.requires.in_second;
  each_position = c.in_ok-twins.ensures.length;
  same_letters = search rules;
  each_of_first = c.in_ok-like_first.ensures.length;
  each_of_second = c.in_ok-like_second.ensures.length;
  same_in_first = search rules;
  same_in_second = search rules;
  in_common = rw c.deref-12.ensures.value at c.common_of-common.ensures;
}
