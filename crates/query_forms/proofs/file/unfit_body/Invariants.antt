use Rattle.query_forms.proofs.Body.{Rest}
use Rattle.query_forms.proofs.file.unfit_body.Given as goal

-- what the iterator still has decides
abbrev pub invariant-tops : goal.invariant-tops
invariant-tops l =
    (goal.iterator-tops).can_next l.tops × (goal.iterator-tops).is_finite l.tops
    × Rest l.text l.end l.trees l.tops.rest.now
