-- There are as many entries as are kept.
use Rattle.std.proofs.Common.{◌∙◌, sym}
use Rattle.value_ops.proofs.KeyBytesLaws.{length-entries_from}
use Rattle.value_ops.proofs.entries.Entries.len.Goals as goal

pub returns : goal.returns
returns c =
    let entries = c.self.inside.entries in
    rw (← c.self.view_is) (c.len.ensures ∙ entries.ok.0
    ∙ sym (length-entries_from 0 entries.items c.self.inside.keys.items))
