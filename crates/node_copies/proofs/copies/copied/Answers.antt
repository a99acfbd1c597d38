use Rattle.std.proofs.Common.{◌≡◌, ◌∙◌, List, None, sym, subst}
use Rattle.value_ops.specs.declared.value.Value.{Value}
use Rattle.split_eval.specs.Entries.{entry_at}
use Rattle.split_eval.specs.declared.entry.Entry.{Entry}
use Rattle.node_copies.proofs.Copying.{none_before, put_entry}
use Rattle.node_copies.proofs.copies.copied.Goals as goal

pub put-requires-clause-fresh : goal.put-requires-clause-fresh
put-requires-clause-fresh c =
    let entry = c.entry-entry.result.now in
    subst (λ (es : List (Entry Value)). entry_at es entry.inner ≡ None) (sym c.entries.invariant.0)
    (none_before c.args.held.now.entries c.entries.i entry c.len-i-end.ensures.distinct
    c.entry-entry.ensures)

pub entries-preserved : goal.entries-preserved
entries-preserved c = (
  put_entry c.args.held.now.entries c.entries.i c.entry-entry.result.now c.entries.copy.entries
      c.put.new.self.entries _ c.entry-entry.ensures c.entries.invariant.0
      c.in_ok-try_copy.ensures.equal c.put.ensures.entries,
  c.put.ensures.room ∙ c.entries.invariant.1,
  c.len-i-end.ensures.count,
)
