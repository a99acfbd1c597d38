use Rattle.std.proofs.Common.{◌≡◌}
use Rattle.rate_equal.specs.Targets.{target}
use Rattle.rate_equal.proofs.Lettering.{IsPassing}
use Rattle.rate_equal.proofs.alphabet.Alphabet.pass.Given as goal

abbrev pub invariant-parts : goal.invariant-parts
invariant-parts l =
    IsPassing l.self.letters.items (λ other. target l.fn.ways other ≡ target l.fn.ways l.fn.letter)
    l.initial.places l.places
