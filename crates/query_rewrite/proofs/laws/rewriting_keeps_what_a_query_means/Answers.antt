-- By induction on how it is rewritten.
use Rattle.query_rewrite.proofs.EachAlike.{each_alike}
use Rattle.query_rewrite.proofs.laws.rewriting_keeps_what_a_query_means.Goals as goal

pub returns : goal.returns
returns c = λ standing columns p q clear rewrites.
    (each_alike p q rewrites standing columns clear).means
