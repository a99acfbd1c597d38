use Rattle.std.proofs.Common.{sym, ap, ◌∙◌, rules, nat_cmp}
use Rattle.std.specs.Cmp.Lexicographic.{slice_cmp}
use Rattle.std.proofs.lemmas.Fn.{always_returns_same}
use Rattle.predicate_cells.specs.Ranks.{text_rank}
use Rattle.predicate_cells.proofs.Searches.{text_found, text_missed}
use Rattle.predicate_cells.proofs.classes.Classes.text_class.Goals as goal

pub returns-in-Ok : goal.returns-in-Ok
returns-in-Ok c =
    let texts = c.deref.result.now in
    let s = c.args.text.now in
    let found = c.in-Ok.ensures.position (λ t. slice_cmp nat_cmp t s)
    (always_returns_same _ _ _ (λ a r f h. search rules)) in
    sym (text_found texts s c.in-Ok.place (rw c.deref.ensures.value c.self.invariant.1)
    c.in-Ok.ensures.bound found)
    ∙ ap (λ named. text_rank named s) (c.deref.ensures.value ∙ ap (λ r. r.texts) c.self.view_is)

pub returns-in-Err : goal.returns-in-Err
returns-in-Err c =
    let texts = c.deref.result.now in
    let s = c.args.text.now in
    let missed = c.in-Err.ensures.position (λ t. slice_cmp nat_cmp t s)
    (always_returns_same _ _ _ (λ a r f h. search rules)) in
    c.len.ensures ∙ sym c.deref.ensures.len
    ∙ sym (text_missed texts s c.in-Err.field-0
    (rw c.deref.ensures.value c.self.invariant.1) missed)
    ∙ ap (λ named. text_rank named s) (c.deref.ensures.value ∙ ap (λ r. r.texts) c.self.view_is)
