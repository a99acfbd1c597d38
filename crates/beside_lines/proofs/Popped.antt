-- A text that loses its LF is a column.
use Rattle.std.proofs.Common.{◌≡◌, ℕ, ◌-◌, suc, List, [], ◌∷◌, ◌++◌, length, take, Option}
use Rattle.std.proofs.Common.{Result, Ok, Err, OnOk, refl, sym, ap, ◌∙◌}
use Rattle.std.proofs.Common.{append_assoc, arith}
use Rattle.std.specs.declared.alloc.AllocError.{AllocError}
use Rattle.value_ops.specs.declared.value.Value.{Value}
use Rattle.stream_run.specs.Sessions.{text_of}
use Rattle.stream_run.specs.declared.session.Reply.{Reply}
use Rattle.stream_run.specs.declared.session.Reply.TheVariants.{Answered, Silent, Skipped}
use Rattle.beside_lines.specs.Besides.{column}
use Rattle.beside_lines.proofs.HighBytes.{IsRow, answer_row, skip_row}
use Rattle.beside_lines.proofs.Outputs.{column_ended}

-- what is written where something is written
reply_is_row : (reply : Reply) (value : Option Value) → (reply ≡ Silent → ⊥)
    → IsRow (text_of reply value)
reply_is_row Silent value some = absurd (some refl)
reply_is_row (Skipped skip) value some = skip_row skip
reply_is_row Answered value some = answer_row value

take_all : (xs : List ℕ) (y : ℕ) → take (length xs) (xs ++ y ∷ []) ≡ xs
take_all [] y = refl
take_all (x ∷ xs) y = ap (λ (l : List ℕ). x ∷ l) (take_all xs y)

long_one : (xs : List ℕ) (y : ℕ) → length (xs ++ y ∷ []) ≡ suc (length xs)
long_one [] y = refl
long_one (x ∷ xs) y = ap suc (long_one xs y)

-- a list without the one that was put after it
without_one : (xs : List ℕ) (y n : ℕ) → n ≡ length (xs ++ y ∷ []) → take (n - 1) (xs ++ y ∷ []) ≡ xs
without_one xs y n is =
    let less : n - 1 ≡ length xs =
    let one = long_one xs y in omega (arith, is, one) in
    ap (λ (m : ℕ). take m (xs ++ y ∷ [])) less ∙ take_all xs y

pub popped_is : (reply : Reply) (value : Option Value) (before tabbed pushed popped : List ℕ)
    (n : ℕ)
    → (reply ≡ Silent → ⊥) → tabbed ≡ before ++ 9 ∷ []
    → pushed ≡ tabbed ++ text_of reply value → n ≡ length pushed → popped ≡ take (n - 1) pushed
    → popped ≡ before ++ column (text_of reply value)
popped_is reply value before tabbed pushed popped n some tab push long pop =
    let row = reply_is_row reply value some in
    let bytes = row.0 in
    let all : pushed ≡ (before ++ 9 ∷ bytes) ++ 10 ∷ [] =
    push ∙ ap (λ (t : List ℕ). t ++ text_of reply value) tab
    ∙ ap (λ (t : List ℕ). (before ++ 9 ∷ []) ++ t) row.1
    ∙ append_assoc before (9 ∷ []) (bytes ++ 10 ∷ [])
    ∙ sym (append_assoc before (9 ∷ bytes) (10 ∷ [])) in
    pop ∙ ap (λ (t : List ℕ). take (n - 1) t) all
    ∙ without_one (before ++ 9 ∷ bytes) 10 n (long ∙ ap length all)
    ∙ ap (λ (c : List ℕ). before ++ c) (sym (ap column row.1 ∙ column_ended bytes))

-- what follows from what holds after a success
pub ok_so : {P Q : Type 0} (result : Result (Unit {0}) AllocError) → (P → Q) → OnOk result P
    → OnOk result Q
ok_so (Ok done) so holds = so holds
ok_so (Err error) so holds = tt
