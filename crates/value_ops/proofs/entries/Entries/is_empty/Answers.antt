-- There are none exactly where none are kept.
use Rattle.std.proofs.Common.{◌==◌, ℕ, ◌∙◌, ap}
use Rattle.value_ops.proofs.KeyBytesLaws.{is_none_kept}
use Rattle.value_ops.proofs.entries.Entries.is_empty.Goals as goal

pub returns : goal.returns
returns c =
    let entries = c.self.inside.entries in
    rw (← c.self.view_is) (is_none_kept 0 entries.items c.self.inside.keys.items _
    (c.is_empty.ensures ∙ ap (λ (n : ℕ). n == 0) entries.ok.0))
