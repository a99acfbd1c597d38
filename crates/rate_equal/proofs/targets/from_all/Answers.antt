use Rattle.rate_equal.proofs.Finding.{found_all, stands_at}
use Rattle.rate_equal.proofs.targets.from_all.Goals as goal

pub returns-clause-found : goal.returns-clause-found
returns-clause-found c = found_all _ _ _ _ _ _ c.in_ok-targets.ensures c.in_ok-extend.ensures.added
    (λ letter of. let (place, at) = stands_at _ letter of in
    c.in_ok-extend.ensures.whole place letter (c.in_ok-left.ensures place letter at) at)
