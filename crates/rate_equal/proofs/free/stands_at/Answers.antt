use Rattle.std.proofs.lemmas.List.Elements.{Contains-get_or}
use Rattle.std.proofs.Common.{subst}
use Rattle.std.specs.List.{Contains}
use Rattle.rate_equal.proofs.Counterparts.{same_letter}
use Rattle.rate_equal.proofs.free.stands_at.Goals as goal

pub returns-then-place-letters : goal.returns-then-place-letters
returns-then-place-letters c = rw (c.eq.ensures) (λ is. subst (Contains c.args.letters.now)
    (same_letter _ _ is)
    (Contains-get_or c.args.letters.now c.args.place _ c.if-place-letters.true))
