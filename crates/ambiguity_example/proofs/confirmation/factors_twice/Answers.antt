use Rattle.std.proofs.Common.{◌≡◌, ◌∙◌, sym, true, false}
use Rattle.ambiguity_example.specs.Shows.{ShowsFactorings}
use Rattle.ambiguity_example.proofs.Deciding.{decides_too, not_both, found_different, found_same}
use Rattle.ambiguity_example.proofs.confirmation.factors_twice.Goals as goal
use Rattle.ambiguity_example.proofs.confirmation.factors_twice.Goals.{then-ne, else-ne}

pub returns-then-parts_into : goal.returns-then-parts_into
returns-then-parts_into c = λ r of_r.
    let differs = rw (
      c.as_slice-first.ensures,
      c.first.ensures,
      c.as_slice-second.ensures,
      c.second.ensures,
    ) at c.ne.ensures in
    let last = rw (c.items-items.ensures, c.as_slice-second.ensures, c.second.ensures) at
    (c.parts_into-then-parts_into.ensures r of_r) in
    elim c.if-ne.branch [
      | then-ne w ↦
          let yes : w.parts_into.result ≡ true = sym w.value-is ∙ c.if-parts_into.true in
          let one = rw yes at
          (rw (c.items-items.ensures, c.as_slice-first.ensures, c.first.ensures) at
          (w.parts_into.ensures r of_r)) in
          decides_too _ _ (ShowsFactorings r c.args.example.now) last
          (λ other. record {
            first = one;
            second = other;
            differ = found_different _ _ _ differs w.if-ne.true;
          })
          (λ shows. shows.second)
      | else-ne w ↦ absurd
          (not_both c.ne.result (sym w.value-is ∙ c.if-parts_into.true) w.if-ne.false)
    ]

pub returns-else-parts_into : goal.returns-else-parts_into
returns-else-parts_into c = λ r of_r.
    let differs = rw (
      c.as_slice-first.ensures,
      c.first.ensures,
      c.as_slice-second.ensures,
      c.second.ensures,
    ) at c.ne.ensures in
    rw c.if-parts_into.false (λ shows. elim c.if-ne.branch [
      | then-ne w ↦
          let none : w.parts_into.result ≡ false = sym w.value-is ∙ c.if-parts_into.false in
          (rw none at (rw (c.items-items.ensures, c.as_slice-first.ensures, c.first.ensures) at
          (w.parts_into.ensures r of_r))) shows.first
      | else-ne w ↦ shows.differ (found_same _ _ _ differs w.if-ne.false)
    ])
