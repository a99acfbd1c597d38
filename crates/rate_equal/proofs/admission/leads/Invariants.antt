use Rattle.std.proofs.Common.{◌≡◌, ℕ, ◌<◌, get_or}
use Rattle.rate_equal.specs.Targets.{target}
use Rattle.rate_equal.specs.declared.letters.Letter.{Letter}
use Rattle.rate_equal.proofs.admission.leads.Given as goal

-- none of the letters before this one leads to the pair
abbrev pub invariant-letters : goal.invariant-letters
invariant-letters l =
    (k : ℕ) (d : Letter) → k < l.letter-index → target l.ways (get_or l.letters k d) ≡ l.pair → ⊥
