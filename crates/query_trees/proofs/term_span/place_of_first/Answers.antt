use Rattle.query_trees.proofs.EndLemmas.{place-found, end-found}
use Rattle.query_trees.proofs.term_span.place_of_first.Goals as goal

pub returns-in_err-close-in-Open : goal.returns-in_err-close-in-Open
returns-in_err-close-in-Open c = λ trees others is.
    absurd (end-found trees c.args.tokens.now others is c.in-len2-up.len_at_least c.in-Open.is
    c.in_err-close-in-Open.ensures)

pub returns-in_ok-close-in-Open : goal.returns-in_ok-close-in-Open
returns-in_ok-close-in-Open c = λ trees others is.
    place-found trees c.args.tokens.now others c.in_ok-close-in-Open.close is
    c.in-len2-up.len_at_least c.in-Open.is c.in_ok-close-in-Open.ensures
