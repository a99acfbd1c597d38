use Rattle.std.proofs.lemmas.List.Elements.{Contains-get_or}
use Rattle.rate_equal.proofs.Freedom.{apart_other, others_next}
use Rattle.rate_equal.proofs.free.are_free.Goals as goal

pub letters-preserved-then-are_apart : goal.letters-preserved-then-are_apart
letters-preserved-then-are_apart c = others_next _ _ _ _ c.letters.invariant c.letters-test.true
    (apart_other _ _ _ (Contains-get_or _ _ _ c.letters-test.true)
    (rw c.positions.ensures at (c.are_apart.ensures c.if-are_apart.true)))

pub letters-preserved : goal.letters-preserved
letters-preserved c = others_next _ _ _ _ c.letters.invariant c.letters-test.true (record {
  other = c.lacking-left.result;
  is_letter = c.stands_at.ensures c.if-not-stands_at.false;
  without = c.lacking-left.ensures;
})
