use Rattle.std.proofs.Common.{◌≡◌, ℕ, ◌<◌}
use Rattle.std.specs.Prelude.{slice_index}
use Rattle.ambiguity_check.proofs.marks.Marks.is_empty.Given as goal

-- the rows so far are empty
abbrev pub invariant-rows : goal.invariant-rows
invariant-rows l = (row : ℕ) → row < l.row → slice_index l.self row ≡ 0
