use Rattle.std.proofs.Common.{◌≡◌, ◌<◌, ◌⊎◌, ◌++◌, inl, inr, ℕ, List, OnOk, length, subst, arith}
use Rattle.std.specs.Option.{option_copied}
use Rattle.view_lines.specs.Columns.{wider}
use Rattle.view_lines.proofs.Ends.{cells_last, line_last}
use Rattle.view_lines.proofs.column_rows.+push_item.Goals as goal

pub returns-in_default-clause-after : goal.returns-in_default-clause-after
returns-in_default-clause-after t c =
    let none : (length c.args.columns.now < 1) ⊎ (length c.args.fields.now < 1) =
    elim c.in_default.branch [
      | goal.in_default-via-then-columns-lt1 w ↦ inl (grind arith)
      | goal.in_default-via-else-columns-lt1+then-this-lt1 w ↦ inr (grind arith)
    ] in
    subst (λ (cells : List (List ℕ)). OnOk c.push_last.result (c.push_last.new.after.items
    ≡ c.args.after.now.items ++ wider c.args.widths.now cells))
    (cells_last c.args.digits (option_copied c.args.answer) c.args.columns.now c.args.fields.now
    none)
    c.push_last.ensures.after

pub returns-in_default-clause-text : goal.returns-in_default-clause-text
returns-in_default-clause-text t c =
    let none : (length c.args.columns.now < 1) ⊎ (length c.args.fields.now < 1) =
    elim c.in_default.branch [
      | goal.in_default-via-then-columns-lt1 w ↦ inl (grind arith)
      | goal.in_default-via-else-columns-lt1+then-this-lt1 w ↦ inr (grind arith)
    ] in
    subst (λ (line : List ℕ). OnOk c.push_last.result (c.push_last.new.text.items
    ≡ c.args.text.now.items ++ line))
    (line_last c.args.digits (option_copied c.args.answer) c.args.columns.now c.args.fields.now
    c.args.widths.now none)
    c.push_last.ensures.text
