use Rattle.std.proofs.Common.{◌≡◌, take, ◌++◌}
use Rattle.rate_expr.specs.Shared.{listed, AreShared}
use Rattle.rate_expr.proofs.shared_preds.SharedPreds.append.Given as goal

-- the others so far stand after those that were there
abbrev pub invariant-loop-position : goal.invariant-loop-position
invariant-loop-position l =
    AreShared l.self × (listed l.self ≡ listed l.initial.self ++ take l.position (listed l.others))
