use Rattle.std.proofs.Common.{◌≡◌, ◌∙◌, List, None, ap, arith, length, sym, subst}
use Rattle.value_ops.specs.declared.value.Value.{Value}
use Rattle.split_eval.specs.Entries.{entry_at}
use Rattle.split_eval.specs.declared.entry.Entry as held
use Rattle.runner_snapshot.specs.declared.entries.Entry.{Entry}
use Rattle.restored_nodes.proofs.Waiting.{all_held, entry_back, held_count, none_before}
use Rattle.restored_nodes.proofs.entries.restored_entries.Goals as goal

pub put-requires-clause-room : goal.put-requires-clause-room
put-requires-clause-room c =
    let before = c.entries.invariant in
    let some = c.entries-test.true in
    let all = before.2 in
    let room = before.1 in
    let few = c.requires.few in
    let as_many = ap length before.0 in
    let count = held_count c.args.entries.now c.entries.i (omega (arith, some, all)) in
    omega (arith, some, all, room, few, as_many, count)

pub put-requires-clause-fresh : goal.put-requires-clause-fresh
put-requires-clause-fresh c =
    let one : Entry = record {
      inner = c.get-inner.result.0;
      outer = c.get-inner.result.1;
      value = c.get-inner.result.2.now;
    } in
    subst (λ (es : List (held.Entry Value)). entry_at es one.inner ≡ None)
    (sym c.entries.invariant.0)
    (none_before c.args.entries.now c.entries.i one c.requires.distinct c.get-inner.ensures)

pub entries-preserved : goal.entries-preserved
entries-preserved c =
    let one : Entry = record {
      inner = c.get-inner.result.0;
      outer = c.get-inner.result.1;
      value = c.get-inner.result.2.now;
    } in (
      entry_back c.args.entries.now c.entries.i one c.entries.held.entries c.put.new.self.entries _
          c.get-inner.ensures c.entries.invariant.0 c.in_ok-try_copy.ensures.equal
          c.put.ensures.entries,
      c.put.ensures.room ∙ c.entries.invariant.1,
      c.entries.invariant.2,
    )

pub returns : goal.returns
returns c =
    let before = c.entries.invariant in
    let all = before.2 in
    let end = c.entries-test.false in
    all_held c.args.entries.now c.entries.i c.args.room c.entries.held (omega (arith, all, end))
    before.0 before.1
