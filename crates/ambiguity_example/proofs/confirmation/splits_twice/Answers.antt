use Rattle.std.proofs.Common.{◌≡◌, ◌∙◌, sym, true, false, arith}
use Rattle.std.proofs.lemmas.Bool.{ltb-true}
use Rattle.ambiguity_example.proofs.Deciding.{decides_both}
use Rattle.ambiguity_example.proofs.Halves.{splits_shown, shown_splits}
use Rattle.ambiguity_example.proofs.confirmation.splits_twice.Goals as goal
use Rattle.ambiguity_example.proofs.confirmation.splits_twice.Goals.{then-shorter-longer}
use Rattle.ambiguity_example.proofs.confirmation.splits_twice.Goals.{else-shorter-longer}

pub returns-then-reads_both : goal.returns-then-reads_both
returns-then-reads_both c = λ r s of_r of_s.
    let first = rw (c.as_slice.ensures, c.first.ensures, c.items-items.ensures) at
    c.in-Some.ensures.some in
    let second = rw (c.as_slice-2.ensures, c.second.ensures, c.items-items.ensures) at
    c.in-Some-middle_of.ensures.some in
    let last = rw c.items-items.ensures at (c.reads_both-then-reads_both.ensures r s of_r of_s) in
    elim c.if-shorter-longer.branch [
      | then-shorter-longer w ↦
          let yes : w.reads_both.result ≡ true = sym w.value-is ∙ c.if-reads_both.true in
          let one = rw yes at (rw c.items-items.ensures at (w.reads_both.ensures r s of_r of_s)) in
          decides_both _ _ _ _ last
          (splits_shown r s c.args.example.now _ _ first.0 second.0 second.1
          w.if-shorter-longer.true one)
          (λ shows. (shown_splits r s c.args.example.now _ _ first.0 second.0 shows).2)
      | else-shorter-longer w ↦ absurd (omega (
        arith,
        ltb-true _ _ (sym w.value-is ∙ c.if-reads_both.true),
        w.if-shorter-longer.false,
      ))
    ]

pub returns-else-reads_both : goal.returns-else-reads_both
returns-else-reads_both c = λ r s of_r of_s.
    let first = rw (c.as_slice.ensures, c.first.ensures, c.items-items.ensures) at
    c.in-Some.ensures.some in
    let second = rw (c.as_slice-2.ensures, c.second.ensures, c.items-items.ensures) at
    c.in-Some-middle_of.ensures.some in
    rw c.if-reads_both.false (λ shows.
    let at = shown_splits r s c.args.example.now _ _ first.0 second.0 shows in
    elim c.if-shorter-longer.branch [
      | then-shorter-longer w ↦
          let no' : w.reads_both.result ≡ false = sym w.value-is ∙ c.if-reads_both.false in
          (rw no' at (rw c.items-items.ensures at (w.reads_both.ensures r s of_r of_s))) at.1.0
          at.1.1
      | else-shorter-longer w ↦ absurd (omega (arith, at.0, w.if-shorter-longer.false))
    ])
