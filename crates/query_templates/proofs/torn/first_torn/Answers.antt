use Rattle.std.proofs.Common.{◌≡◌, ◌+◌, List, Vec, Global, take, sym, ap, ◌∙◌}
use Rattle.std.proofs.lemmas.Bool.{OnTrue_at}
use Rattle.query_templates.specs.declared.standing.Standing.{Standing}
use Rattle.query_templates.specs.Standings.{torn_from}
use Rattle.query_templates.proofs.Tearing.{same_more, torn_later}
use Rattle.query_templates.proofs.torn.first_torn.Goals as goal
use Rattle.query_templates.proofs.torn.first_torn.Goals.{then-not-is_known+in_ok-push}
use Rattle.query_templates.proofs.torn.first_torn.Goals.{else-not-is_known}

pub standings-preserved : goal.standings-preserved
standings-preserved c =
    let all = c.args.standings.now in
    let firsts = c.standings.firsts.items in
    let index = c.standings.one-index in
    let before = c.standings.invariant in
    let whole = rw c.deref.ensures.value at c.in_default.ensures in
    let same : (x : Standing)
    → torn_from c.if-not-is_known.firsts.items x ≡ torn_from (take (index + 1) all) x =
    elim c.if-not-is_known.branch [
      | then-not-is_known+in_ok-push w ↦ λ x.
          ap (λ (v : Vec Standing Global). torn_from v.items x) w.firsts-is
          ∙ ap (λ (l : List Standing). torn_from l x) w.in_ok-push.ensures.items
          ∙ same_more all firsts index _ c.standings-test.true before.same x
      | else-not-is_known w ↦ λ x.
          let known = rw c.deref-in-standings.ensures.value
          at (OnTrue_at w.if-not-is_known.false c.is_known.ensures x) in
          ap (λ (v : Vec Standing Global). torn_from v.items x) w.firsts-is
          ∙ sym known ∙ same_more all firsts index _ c.standings-test.true before.same x
    ] in
    record {
      later = before.later
          ∙ torn_later all firsts index _ c.standings-test.true before.same whole;
      same = same;
    }
