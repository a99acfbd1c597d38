use Rattle.rate_equal.proofs.targets.first_letter.Goals as goal

pub returns-clause-none : goal.returns-clause-none
returns-clause-none c = λ none letter is_letter.
    c.first_like.ensures.none none letter is_letter (c.of_all.ensures letter)
