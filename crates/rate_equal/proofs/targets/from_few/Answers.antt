use Rattle.rate_equal.specs.Narrowed.{AreStatesWithin}
use Rattle.rate_equal.specs.Targets.{IsTarget}
use Rattle.rate_equal.proofs.Added.{added_none}
use Rattle.rate_equal.proofs.Finding.{found_all}
use Rattle.rate_equal.proofs.targets.from_few.Goals as goal

pub returns-in_default-clause-found : goal.returns-in_default-clause-found
returns-in_default-clause-found c = found_all c.args.alphabet.now.letters.items c.args.ways _ _ _ _
    c.in_ok-targets.ensures
    (added_none (IsTarget c.args.alphabet.now.letters.items c.args.ways)
    (AreStatesWithin c.args.ways) _ _ c.requires.few)
    (λ letter of. absurd (c.first_letter.ensures.none c.in_default.is letter of))

pub returns-clause-found : goal.returns-clause-found
returns-clause-found c =
    found_all c.args.alphabet.now.letters.items c.args.ways _ _ _ _ c.in_ok-targets.ensures
    c.in_ok-sift.ensures.added
    (λ letter of. c.in_ok-sift.ensures.whole letter of (c.of_all.ensures letter))
