-- The set has the texts in the order in which they were added.
use Rattle.std.proofs.Common.{◌∙◌, sym}
use Rattle.std.specs.List.{position_or_len}
use Rattle.std.specs.Str.{bytes_eq}
use Rattle.indexmap.specs.IndexSet.{insert_key}
use Rattle.query_text.proofs.lets.Lets.place_of.Goals as goal

pub returns-clause-added : goal.returns-clause-added
returns-clause-added c =
    let texts = c.in_ok-place.ensures.keys
    ∙ (λ i. insert_key bytes_eq (c.self.view_is i) (c.from_vec.ensures i)) in
    let place = c.in_ok-place.ensures.index
    ∙ (λ i. position_or_len (bytes_eq (c.from_vec.ensures i)) (c.self.view_is i)) in
    sym (λ i. record { texts = texts i; place = place i })
