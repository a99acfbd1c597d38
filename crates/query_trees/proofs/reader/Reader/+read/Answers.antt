use Rattle.std.proofs.Common.{length, ap, refl, arith}
use Rattle.std.proofs.lemmas.Result.{err_from_is_err_and}
use Rattle.query_trees.proofs.CallLemmas.{begins-call, call-read, call-err, call-ends}
use Rattle.query_trees.proofs.Reading.{left-all, in_call-next, in_call-end, in_call-err}
use Rattle.query_trees.proofs.reader.Reader.+read.Goals as goal

pub arguments-arguments-init : goal.arguments-arguments-init
arguments-arguments-init t c = record {
  left =
      λ trees others are. (trees, are, rw c.new-trees.ensures.items (left-all c.args.level trees));
  shorter = omega arith;
}

pub arguments-returns-in_err-tree-clause-all : goal.arguments-returns-in_err-tree-clause-all
arguments-returns-in_err-tree-clause-all t c =
    let err = err_from_is_err_and c.from_residual.result c.from_residual.ensures.1 in
    rw (err.1, err.2) (in_call-err c.args.level c.arguments.trees.items c.args.self.now.rest.now
    c.arguments.self.rest.now c.term.new.self.rest.now c.in_err-tree.field-0.0
    c.arguments.invariant.left c.in_err-tree.ensures.first)

pub arguments-returns-then-not-next_is-clause-all :
    goal.arguments-returns-then-not-next_is-clause-all
arguments-returns-then-not-next_is-clause-all t c = λ trees others are.
    let end = in_call-end c.args.level c.arguments.trees.items c.args.self.now.rest.now
    c.arguments.self.rest.now c.term.new.self.rest.now c.in_ok-tree.tree c.arguments.invariant.left
    c.in_ok-tree.ensures.first (λ is. let h = c.if-not-next_is.ensures.1 is in absurd (cc))
    trees others are in
    (rw c.in_ok-push.ensures.pushed end.0, end.1, end.2)

pub arguments-arguments-preserved : goal.arguments-arguments-preserved
arguments-arguments-preserved t c = record {
  left = rw c.in_ok-push.ensures.pushed
      (in_call-next c.args.level c.arguments.trees.items c.args.self.now.rest.now
      c.arguments.self.rest.now c.term.new.self.rest.now c.next.new.self.rest.now c.in_ok-tree.tree
      c.in_ok-_comma._comma c.arguments.invariant.left c.in_ok-tree.ensures.first
      c.in_ok-_comma.ensures.token (c.if-not-next_is.ensures.0 refl));
  shorter = let taken = ap length c.in_ok-_comma.ensures.token in
      omega (arith, c.in_ok-tree.ensures.shorter);
}

pub term-returns-in_err-arguments-clause-first : goal.term-returns-in_err-arguments-clause-first
term-returns-in_err-arguments-clause-first t c =
    let err = err_from_is_err_and c.from_residual-in_err-arguments.result
    c.from_residual-in_err-arguments.ensures.1 in
    let begins = begins-call _ _ _ _ _ c.in_ok-head.ensures.token c.in_ok-_open.ensures.token
    (c.if-not-next_is.ensures.0 refl) in
    rw (
      err.1,
      err.2,
    ) (call-err _ _ _ c.arguments.new.self.rest.now c.arguments.new.self.rest.now _ _
    c.if-level-gt-MAX_LEVEL.false begins c.in_err-arguments.ensures.all)

pub term-returns-in_err-close-clause-first : goal.term-returns-in_err-close-clause-first
term-returns-in_err-close-clause-first t c = λ trees others is.
    let begins = begins-call _ _ _ _ _ c.in_ok-head.ensures.token c.in_ok-_open.ensures.token
    (c.if-not-next_is.ensures.0 refl) in
    absurd (call-ends c.args.level _ _ _ _ c.in_ok-arguments.arguments begins
    c.in_ok-arguments.ensures.all c.in_err-close.ensures.none trees others is)

pub term-returns-clause-first : goal.term-returns-clause-first
term-returns-clause-first t c =
    let begins = begins-call _ _ _ _ _ c.in_ok-head.ensures.token c.in_ok-_open.ensures.token
    (c.if-not-next_is.ensures.0 refl) in
    call-read _ _ _ _ _ _ _ c.in_ok-arguments.arguments _ c.if-level-gt-MAX_LEVEL.false begins
    c.in_ok-arguments.ensures.all c.in_ok-close.ensures.token c.call.ensures
