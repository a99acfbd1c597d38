use Rattle.std.proofs.Common.{◌≡◌, Bool, true, false, refl}
use Rattle.std.specs.Str.{is_utf8}
use Rattle.std.proofs.lemmas.Str.{is_utf8-from_IsUtf8, IsUtf8-from_is_utf8}
use Rattle.item_lines.proofs.plain_lines.is_plain.Goals as goal

pub returns-in-Ok : goal.returns-in-Ok
returns-in-Ok c =
    let line = c.args.line.now in
    rw (
      c.has_control.ensures,
      c.in-Ok.ensures.cases.0,
      is_utf8-from_IsUtf8 line c.in-Ok.ensures.cases.1,
    ) refl

pub returns-in-Err : goal.returns-in-Err
returns-in-Err c =
    let line = c.args.line.now in
    rw (is_false (is_utf8 line) (λ is. c.in-Err.ensures.cases.0 (IsUtf8-from_is_utf8 line is))) refl
  where
    is_false : (b : Bool) → (b ≡ true → ⊥) → b ≡ false
    is_false true never = absurd (never refl)
    is_false false never = refl
