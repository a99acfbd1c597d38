use Rattle.std.proofs.Common.{◌≡◌, ◌∷◌, None, true, false, rules, sym, ◌∙◌}
use Rattle.query_syntax.specs.Plain.{plain_query}
use Rattle.query_lets.specs.Words.{is_known}
use Rattle.query_lets.proofs.FirstWrong.{let_again, let_more, let_unknown, main_last}
use Rattle.query_lets.proofs.Keys.{holds_step, known_is}
use Rattle.query_lets.proofs.names.wrong_in_lets.Goals as goal

pub returns-then-contains : goal.returns-then-contains
returns-then-contains c =
    let so_far = c.lets.invariant in
    let bytes = c.one-item.result.name.bytes in
    let has = known_is c.lets.known so_far.0 so_far.1 c.as_slice-name.result bytes
    c.as_slice-name.ensures c.contains.result c.contains.ensures in
    let known : is_known so_far.0 bytes ≡ true = cc (has, c.if-contains.true) in
    let_again c.args.lets.now c.lets.one-index c.one-item.result c.one-item.is c.lets-test.true
    (plain_query c.args.main.now) so_far.0 so_far.2 known

pub returns : goal.returns
returns c =
    let so_far = c.lets.invariant in
    c.first_unknown-2.ensures so_far.0 so_far.1
    ∙ main_last c.args.lets.now c.lets.one-index (plain_query c.args.main.now) so_far.0
    c.lets-test.false so_far.2

pub returns-in-Some : goal.returns-in-Some
returns-in-Some c =
    let so_far = c.lets.invariant in
    let bytes = c.one-item.result.name.bytes in
    let has = known_is c.lets.known so_far.0 so_far.1 c.as_slice-name.result bytes
    c.as_slice-name.ensures c.contains.result c.contains.ensures in
    let new : is_known so_far.0 bytes ≡ false = cc (has, c.if-contains.false) in
    let_unknown c.args.lets.now c.lets.one-index c.one-item.result c.one-item.is c.lets-test.true
    (plain_query c.args.main.now) so_far.0 so_far.2 new c.in-Some.span
    (sym c.in-Some.is ∙ (rw c.deref.ensures at (c.first_unknown.ensures so_far.0 so_far.1)))

pub lets-preserved : goal.lets-preserved
lets-preserved c =
    let so_far = c.lets.invariant in
    let bytes = c.one-item.result.name.bytes in
    let has = known_is c.lets.known so_far.0 so_far.1 c.as_slice-name.result bytes
    c.as_slice-name.ensures c.contains.result c.contains.ensures in
    let new : is_known so_far.0 bytes ≡ false = cc (has, c.if-contains.false) in
    let none : c.first_unknown.result ≡ None = search rules in (
      bytes ∷ so_far.0,
      holds_step c.lets.known c.insert.new.self c.as_slice-name.result bytes
          c.as_slice-name.ensures so_far.0 so_far.1 c.in_ok-insert.ensures.updates,
      let_more c.args.lets.now c.lets.one-index c.one-item.result c.one-item.is c.lets-test.true
          (plain_query c.args.main.now) so_far.0 so_far.2 new
          (sym none ∙ (rw c.deref.ensures at (c.first_unknown.ensures so_far.0 so_far.1))),
    )
