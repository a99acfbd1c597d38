use Rattle.std.proofs.Common.{◌≡◌}
use Rattle.explanation.specs.Standing.{standing_in}
use Rattle.explanation.proofs.expectation.standing_in.Given as goal

-- what is to stand in the levels so far
abbrev pub invariant-levels : goal.invariant-levels
invariant-levels l = l.standing ≡ standing_in l.text l.level
