use Rattle.std.proofs.Common.{◌≡◌, ◌∙◌, ◌++◌, ◌∷◌, [], None, List, ℕ, arith, ap, sym, subst}
use Rattle.value_ops.specs.Entries.{value_at}
use Rattle.value_ops.specs.declared.scalar.Scalar.{Scalar}
use Rattle.map_collect.specs.Keys.{followers_of, names_of}
use Rattle.eval_nodes.specs.Plain.{seen_of}
use Rattle.step_laws.proofs.KeysTabled.{absent, entries_one, entries_same, table_whole}
use Rattle.eval_tree.proofs.tables.keys_table.Goals as goal
use Rattle.eval_tree.proofs.tables.keys_table.Goals.{in-Some+in_ok-push, in_default}

pub push-requires : goal.push-requires
push-requires c =
    subst (λ (table : List (List ℕ × Scalar)). value_at c.key.result.now table ≡ None)
    (sym c.keys.invariant.0)
    (absent seen_of (names_of c.args.keys.now) (followers_of c.args.keys.now) c.keys.i
    c.key.result.now c.len-i-end.ensures.distinct c.key.ensures)

pub keys-preserved : goal.keys-preserved
keys-preserved c =
    let names = names_of c.args.keys.now in
    let runners = followers_of c.args.keys.now in
    let runner = c.follower.result.now in (
      elim c.match-scalar_of.branch [
        | in-Some+in_ok-push w ↦
            w.table-is ∙ w.in_ok-push.ensures.ok
            ∙ ap
            (λ (table : List (List ℕ × Scalar)). table ++ (w.key.result.now, w.in-Some.scalar) ∷ [])
            c.keys.invariant.0
            ∙ sym (entries_one seen_of names runners c.keys.i w.key.result.now runner
            w.in-Some.scalar c.len-i-end.ensures.each w.key.ensures c.follower.ensures
            (sym c.scalar_of.ensures ∙ w.in-Some.is))
        | in_default w ↦
            w.table-is ∙ c.keys.invariant.0
            ∙ sym (entries_same seen_of names runners c.keys.i runner c.len-i-end.ensures.each
            c.follower.ensures (sym c.scalar_of.ensures ∙ w.in_default.is))
      ],
      c.keys.invariant.1,
    )

pub returns : goal.returns
returns c =
    table_whole seen_of c.args.keys.now c.keys.i c.keys.table c.keys.invariant.0
    (let over = c.keys-test.false in let end = c.keys.invariant.1 in omega (arith, over, end))
    c.len-i-end.ensures.each
