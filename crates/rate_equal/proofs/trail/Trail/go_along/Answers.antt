use Rattle.std.proofs.Common.{◌∙◌, ap, arith, inl, length, refl, rules, sym}
use Rattle.std.proofs.lemmas.Bool.{not-false}
use Rattle.rate_equal.proofs.Added.{length_grown}
use Rattle.rate_equal.proofs.Exploring.{known_put}
use Rattle.rate_equal.proofs.Holding.{held_grown}
use Rattle.rate_equal.proofs.Inserted.{had_before, had_or_put}
use Rattle.rate_equal.proofs.trail.Trail.go_along.Goals as goal

pub returns-then-not-branch-clause-along : goal.returns-then-not-branch-clause-along
returns-then-not-branch-clause-along c =
    inl (
      had_before _ _ _ _ c.in_ok-insert.ensures.unique c.in_ok-insert.ensures.keys
          (λ x y is. search rules)
          (not-false _ (sym c.in_ok-insert.ensures.added ∙ c.if-not-branch.true)),
      refl,
    )

pub returns-clause-trail : goal.returns-clause-trail
returns-clause-trail c =
    let found = c.in_ok-targets.ensures.found in
    let listed = ap length c.as_slice.ensures.keys in
    record {
      known = rw (c.in_ok-push.ensures.items) (known_put _ _ _ _ _ _ _ c.new.ensures.ways
          c.new.ensures.targets c.requires.trail.known found);
      held = held_grown _ _ _ _ _ (rw c.as_slice.ensures.keys at c.enter.ensures.held)
          (omega (arith, c.enter.ensures.count, listed)) found.grown;
      entered = omega (arith, c.enter.ensures.count, listed, length_grown _ _ found.grown);
    }

pub returns-clause-gone : goal.returns-clause-gone
returns-clause-gone c = had_or_put _ _ _ _ c.in_ok-insert.ensures.unique c.in_ok-insert.ensures.keys
