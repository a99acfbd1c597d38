use Rattle.std.proofs.Common.{rules, ◌∙◌, ap}
use Rattle.std.proofs.lemmas.Fn.{filter_same}
use Rattle.split_eval.specs.Entries.{live_entries}
use Rattle.split_eval.proofs.Kept.{IsKept-filtered}
use Rattle.split_eval.proofs.pending.Pending.keep.Goals as goal

pub invariant_of-self : goal.invariant_of-self
invariant_of-self g c =
    IsKept-filtered _ _ _ _ _ _ _ c.retain.ensures.filtered c.self.invariant
    c.retain.ensures.capacity

pub returns-clause-entries : goal.returns-clause-entries
returns-clause-entries g c = λ is_live answers.
    filter_same _ (λ entry. is_live entry.inner) _
    (λ entry answer after called. search (rules, answers)) _ _ c.retain.ensures.filtered
    ∙ ap (λ seen. live_entries is_live seen.entries) c.self.view_is
