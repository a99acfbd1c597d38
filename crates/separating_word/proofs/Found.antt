-- What follows of what is found.
use Rattle.std.specs.Prelude.{◌≡◌, ℕ, Bool, true, false, List, Option, None, Some, Result, Ok, Err}
use Rattle.std.specs.Prelude.{IfOk, IfSome, IsTrue, if◌then◌else◌}
use Rattle.std.proofs.Common.{refl, sym, subst}
use Rattle.value_ops.specs.declared.field.Field.{Field}
use Rattle.item_schema.specs.declared.column.Column.{Column}
use Rattle.item_lines.specs.Lines.{is_shown, line_of, shown_line}

pub found_as : {T E : Type 0} (result : Result (Option T) E) (P Q : T → Type 0)
    → ((x : T) → P x → Q x) → IfOk result (λ found. IfSome found P)
    → IfOk result (λ found. IfSome found Q)
found_as (Ok None) P Q is p = tt
found_as (Ok (Some x)) P Q is p = is x p
found_as (Err e) P Q is p = tt

-- a line that is shown is one of those
shown_is : (line : List ℕ) (b : Bool) → is_shown line ≡ b
    → IfSome (if b then Some line else None) (λ found. IsTrue (is_shown found))
shown_is line true is = is
shown_is line false is = tt

pub shown_found : {E : Type 0} (result : Result (Option (List ℕ)) E) (columns : List Column)
    (item : List Field) → IfOk result (λ found. found ≡ shown_line columns item)
    → IfOk result (λ found. IfSome found (λ line. IsTrue (is_shown line)))
shown_found (Ok found) columns item is =
    subst (λ (f : Option (List ℕ)). IfSome f (λ line. IsTrue (is_shown line)))
    (sym is) (shown_is (line_of columns item) (is_shown (line_of columns item)) refl)
shown_found (Err e) columns item is = tt
