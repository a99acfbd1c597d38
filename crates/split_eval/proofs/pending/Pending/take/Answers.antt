use Rattle.std.proofs.Common.{◌∙◌, ◌==◌, not, sym, ap, arith}
use Rattle.split_eval.specs.Entries.{entry_at, without}
use Rattle.split_eval.proofs.Found.{without-none}
use Rattle.split_eval.proofs.Kept.{IsKept-live}
use Rattle.split_eval.proofs.Places.{nothing_there, is_taken, place_inside}
use Rattle.split_eval.proofs.pending.Pending.take.Goals as goal

pub returns-in_err-place-clause-taken : goal.returns-in_err-place-clause-taken
returns-in_err-place-clause-taken g c =
    let seen = c.deref.ensures.value ∙ ap (λ seen. seen.entries) c.self.view_is in
    c.from_residual.ensures ∙ sym (nothing_there _ _ _ seen c.in_err-place.ensures)

pub returns-in_err-place-clause-others : goal.returns-in_err-place-clause-others
returns-in_err-place-clause-others g c =
    let seen = c.deref.ensures.value ∙ ap (λ seen. seen.entries) c.self.view_is in
    sym (without-none _ _ (nothing_there _ _ _ seen c.in_err-place.ensures))

pub remove-requires : goal.remove-requires
remove-requires g c =
    let inside = place_inside _ _ _ _ c.deref.ensures.value c.in_ok-place.ensures in
    let counted = c.self.inside.entries.ok.0 in
    omega (arith, inside, counted)

pub invariant_of-self : goal.invariant_of-self
invariant_of-self g c =
    let taken = is_taken _ _ _ _ _ c.self.invariant.distinct c.deref.ensures.value
    c.in_ok-place.ensures c.remove.ensures.value _ c.remove.ensures.items in
    IsKept-live _ _ (λ start. not (start == c.args.inner)) _ _ _
    taken.others c.self.invariant c.remove.ensures.capacity

pub returns-clause-taken : goal.returns-clause-taken
returns-clause-taken g c =
    let taken = is_taken _ _ _ _ _ c.self.invariant.distinct c.deref.ensures.value
    c.in_ok-place.ensures c.remove.ensures.value _ c.remove.ensures.items in
    sym taken.found ∙ ap (λ seen. entry_at seen.entries c.args.inner) c.self.view_is

pub returns-clause-others : goal.returns-clause-others
returns-clause-others g c =
    let taken = is_taken _ _ _ _ _ c.self.invariant.distinct c.deref.ensures.value
    c.in_ok-place.ensures c.remove.ensures.value _ c.remove.ensures.items in
    taken.others ∙ ap (λ seen. without seen.entries c.args.inner) c.self.view_is
