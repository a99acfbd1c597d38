use mir.Val.{bool_byte}
use Rattle.std.proofs.Common.{◌≡◌, ℕ, Bool, true, false, [], ◌∷◌, ◌++◌, refl, subst}
use Rattle.std.proofs.lemmas.Result.{on_ok_weaker}
use Rattle.runner_snapshot.specs.Bytes.{flag, head, runner_bytes, text_bytes}
use Rattle.runner_snapshot.specs.Got.{Gets}
use Rattle.runner_snapshot.specs.Plain.{plain_runner}
use Rattle.runner_snapshot.proofs.Taken.{gets_both}
use Rattle.runner_snapshot.proofs.saving.put_snapshot.Goals as goal

byte_is : (began : Bool) → bool_byte began ≡ flag began
byte_is true = refl
byte_is false = refl

pub returns : goal.returns
returns g c =
    let got = g.O.Output.got in
    let text = text_bytes c.args.text.now in
    let began = flag c.args.began ∷ [] in
    on_ok_weaker c.write.result
    (λ last. gets_both got _ _ _ (head ++ text ++ began) (runner_bytes (plain_runner
    c.args.dump.now))
    (gets_both got _ _ _ (head ++ text) began
    (gets_both got _ _ _ head text c.in_ok-put.ensures c.in_ok-put_text.ensures)
    (subst (λ (byte : ℕ). Gets got c.put_text.new.out (byte ∷ []) c.put-2.new.self)
    (byte_is c.args.began) c.in_ok-put-2.ensures)) last) c.write.ensures
