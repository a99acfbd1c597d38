use Rattle.std.proofs.Common.{◌≡◌, ℕ, ℤ, [], ◌∷◌, arith, subst, sym, w64}
use Rattle.std.specs.Int.{cast_signed, cast_unsigned}
use Rattle.std.proofs.lemmas.Int.{to_z-of_z}
use Rattle.std.proofs.lemmas.Result.{on_ok_weaker}
use Rattle.value_ops.specs.declared.scalar.Scalar.{Scalar}
use Rattle.runner_snapshot.specs.Bytes.{in_eight, scalar_bytes}
use Rattle.runner_snapshot.specs.Got.{Gets}
use Rattle.runner_snapshot.proofs.Taken.{gets_both}
use Rattle.runner_snapshot.proofs.value_bytes.put_scalar.Goals as goal

pub returns-in_ok-put-in-Number : goal.returns-in_ok-put-in-Number
returns-in_ok-put-in-Number g c =
    let got = g.O.Output.got in
    let old = c.args.out.now in
    let after = c.put.new.self in
    let new = c.put_signed.new.out in
    let first = subst (λ (byte : ℕ). Gets got old (byte ∷ []) after) c.byte.ensures
    c.in_ok-put-in-Number.ensures in
    let back : cast_signed w64 (cast_unsigned w64 c.in-Number.number) ≡ c.in-Number.number =
    grind (arith, to_z-of_z) in
    on_ok_weaker c.put_signed.result
    (λ second. subst (λ (s : Scalar). Gets got old (scalar_bytes s) new) (sym c.in-Number.is)
    (gets_both got old after new (0 ∷ []) (in_eight (cast_unsigned w64 c.in-Number.number)) first
    (subst (λ (z : ℤ). Gets got after (in_eight (cast_unsigned w64 z)) new) back second)))
    c.put_signed.ensures
