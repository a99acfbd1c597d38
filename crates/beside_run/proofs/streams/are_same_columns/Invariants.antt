-- The columns are the same where those that are left are.
use Rattle.std.proofs.Common.{◌≡◌, ◌↔◌, length, drop}
use Rattle.std.specs.List.{AllZip}
use Rattle.beside_run.proofs.streams.are_same_columns.Given as goal

abbrev pub invariant-columns : goal.invariant-columns
invariant-columns l =
    AllZip (λ one other. other ≡ one) (drop (length l.yielded) l.some)
    (drop (length l.yielded) l.others)
    ↔ AllZip (λ one other. other ≡ one) l.some l.others
