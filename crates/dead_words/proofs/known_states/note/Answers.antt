use Rattle.std.proofs.Common.{◌∙◌, rules, sym}
use Rattle.std.proofs.lemmas.Bool.{not-false}
use Rattle.dead_words.proofs.Putting.{is_put, was_there}
use Rattle.dead_words.proofs.known_states.note.Goals as goal

pub returns-clause-put : goal.returns-clause-put
returns-clause-put c = is_put _ _ _ _ c.in_ok-insert.ensures.unique (λ x y is. search rules)
    c.in_ok-insert.ensures.keys

pub returns-clause-old : goal.returns-clause-old
returns-clause-old c =
    λ old. was_there _ _ _ _ c.in_ok-insert.ensures.unique (λ x y is. search rules)
    (not-false _ (sym c.in_ok-insert.ensures.added ∙ old))
