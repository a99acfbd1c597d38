use Rattle.std.proofs.Common.{sym, ◌∙◌}
use Rattle.query_forms.proofs.Body.{Rest-of_text, Rest-main, Rest-found, Rest-next, option_or_is}
use Rattle.query_forms.proofs.file.unfit_body.Goals as goal

pub is_call-requires : goal.is_call-requires
is_call-requires c =
    let left = rw c.in-Some.ensures.steps at c.tops.invariant.2 in Rest-of_text _ _ _ _ _ left

pub unfit_call-unfit-requires : goal.unfit_call-unfit-requires
unfit_call-unfit-requires c =
    let left = rw c.in-Some.ensures.steps at c.tops.invariant.2 in Rest-of_text _ _ _ _ _ left

pub unfit_call-requires : goal.unfit_call-requires
unfit_call-requires c =
    let left = rw c.in-Some.ensures.steps at c.tops.invariant.2 in Rest-of_text _ _ _ _ _ left

pub returns-then-is_call : goal.returns-then-is_call
returns-then-is_call c =
    let left = rw c.in-Some.ensures.steps at c.tops.invariant.2 in
    let after_it = rw c.as_slice.ensures.value at c.first_place.ensures c.args.text.now in
    Rest-main _ _ _ _ _ _ _ _ left
    (λ terms say. sym c.if-is_call.true ∙ c.is_call.ensures terms say) c.unfit_call-unfit.ensures
    after_it (c.or.ensures ∙ option_or_is c.unfit_call-unfit.result c.first_place.result)

pub returns-in-Some-unfit_call : goal.returns-in-Some-unfit_call
returns-in-Some-unfit_call c =
    let left = rw c.in-Some.ensures.steps at c.tops.invariant.2 in
    Rest-found _ _ _ _ _ _ left (λ terms say. sym c.if-is_call.false ∙ c.is_call.ensures terms say)
    c.in-Some-unfit_call.ensures

pub tops-preserved : goal.tops-preserved
tops-preserved c =
    let left = rw c.in-Some.ensures.steps at c.tops.invariant.2 in (
      tt,
      tt,
      Rest-next _ _ _ _ _ left (λ terms say. sym c.if-is_call.false ∙ c.is_call.ensures terms say)
          c.in_default-unfit_call.ensures,
    )
