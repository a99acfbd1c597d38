use Rattle.std.proofs.Common.{◌++◌, ◌∙◌, refl, sym, ap, inl, inr, take, List, drop-cons}
use Rattle.std.proofs.lemmas.List.{take-append-drop, take_all}
use Rattle.query_tokens.specs.declared.token.Token.{Token}
use Rattle.query_trees.proofs.NoList.{misplaced, cut_short, terms}
use Rattle.query_trees.proofs.token_pass.check.Goals as goal

pub returns-in-None-clause-no_list : goal.returns-in-None-clause-no_list
returns-in-None-clause-no_list c =
    let i = c.tokens.token-index in
    let tokens = c.args.tokens.now in
    let split = sym (take-append-drop i tokens)
    ∙ ap (λ (r : List Token). take i tokens ++ r) (drop-cons tokens i _ c.tokens-test.true) in
    let lost = sym c.step.ensures.next ∙ c.in-None.is in
    inl (_, misplaced tokens _ _ _ c.tokens.place split c.tokens.invariant.at lost, refl)

pub returns-then-may_end-clause-terms : goal.returns-then-may_end-clause-terms
returns-then-may_end-clause-terms c =
    let whole = take_all c.tokens.token-index c.args.tokens.now c.tokens-test.false in
    let at = rw whole at c.tokens.invariant.at in
    terms c.args.tokens.now c.tokens.place at (sym c.may_end.ensures ∙ c.if-may_end.true)

pub returns-else-may_end-clause-no_list : goal.returns-else-may_end-clause-no_list
returns-else-may_end-clause-no_list c =
    let whole = take_all c.tokens.token-index c.args.tokens.now c.tokens-test.false in
    let at = rw whole at c.tokens.invariant.at in
    inr (
      cut_short c.args.tokens.now c.tokens.place at (sym c.may_end.ensures ∙ c.if-may_end.false),
      refl,
    )
