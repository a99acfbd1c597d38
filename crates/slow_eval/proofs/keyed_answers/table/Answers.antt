use Rattle.std.proofs.Common.{◌≡◌, ◌<◌, ◌∙◌, ◌++◌, ◌∷◌, [], None, length, take, get_or, sym, subst}
use Rattle.std.proofs.Common.{ap, arith}
use Rattle.std.specs.List.{cons_option}
use Rattle.value_ops.specs.Entries.{value_at}
use Rattle.slow_eval.specs.Tabled.{entries_at}
use Rattle.slow_eval.proofs.Joining.{read_answer}
use Rattle.slow_eval.proofs.Tabling.{absent, answer_inside, entries_more, entries_same, entry_none}
use Rattle.slow_eval.proofs.Tabling.{entry_some}
use Rattle.slow_eval.proofs.keyed_answers.table.Goals as goal
use Rattle.slow_eval.proofs.keyed_answers.table.Goals.{in-Some+in_ok-push, in_default}

pub push-requires : goal.push-requires
push-requires c =
    let one = c.one-item.result in
    subst (λ key. value_at key c.keys.table ≡ None) (sym c.as_slice.ensures)
    (ap (value_at one.key) c.keys.invariant
    ∙ absent c.args.all.now c.args.place c.keys.one-index one c.requires.distinct (omega arith)
    (sym c.one-item.is))

pub keys-preserved : goal.keys-preserved
keys-preserved c =
    let all = c.args.all.now in
    let place = c.args.place in
    let i = c.keys.one-index in
    let one = c.one-item.result in
    let answer = c.index.result.now in
    let read = sym c.one-item.is in
    let inside : place < length one.answers.items =
    answer_inside all place i one c.requires.answers (omega arith) read in
    let is : get_or one.answers.items place None ≡ answer =
    read_answer one.answers.items place answer c.index.ensures inside in
    elim c.match-scalar_of.branch [
      | in-Some+in_ok-push w ↦
          w.table-is ∙ w.in_ok-push.ensures.ok
          ∙ ap (λ key. c.keys.table ++ (key, w.in-Some.scalar) ∷ []) w.as_slice.ensures
          ∙ ap (λ entries. entries ++ (one.key, w.in-Some.scalar) ∷ []) c.keys.invariant
          ∙ ap (λ entry. entries_at place (take i all) ++ cons_option entry [])
          (sym (entry_some one.key answer w.in-Some.scalar
          (sym c.scalar_of.ensures ∙ w.in-Some.is)))
          ∙ sym (entries_more all place i one answer (omega arith) read is)
      | in_default w ↦
          w.table-is ∙ c.keys.invariant
          ∙ sym (entries_same all place i one answer (omega arith) read is
          (entry_none one.key answer (sym c.scalar_of.ensures ∙ w.in_default.is)))
    ]
