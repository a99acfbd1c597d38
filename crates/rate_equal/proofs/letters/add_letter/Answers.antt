use Rattle.std.proofs.Common.{◌∙◌, rules, sym}
use Rattle.std.proofs.lemmas.Bool.{not-false}
use Rattle.rate_equal.proofs.Gathered.{gathered_known, gathered_new}
use Rattle.rate_equal.proofs.letters.add_letter.Goals as goal

pub returns-then-not-branch-clause-gathered : goal.returns-then-not-branch-clause-gathered
returns-then-not-branch-clause-gathered c first second cell before here lt =
    gathered_known _ _ _ _ _ _ _ _ c.in_ok-insert.ensures.unique c.in_ok-insert.ensures.keys
    (λ x y is. search rules) before here
    (not-false _ (sym c.in_ok-insert.ensures.added ∙ c.if-not-branch.true))

pub returns-clause-gathered : goal.returns-clause-gathered
returns-clause-gathered c first second cell before here lt = rw (c.in_ok-push.ensures.items)
    (gathered_new _ _ _ _ _ _ _ _ c.in_ok-insert.ensures.unique c.in_ok-insert.ensures.keys
    (λ x y is. search rules) before here _ (c.of.ensures.first, c.of.ensures.second) lt)
