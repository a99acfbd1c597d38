-- For the prover. What is kept before any line is taken.
use Rattle.std.specs.Prelude.{List, []}
use Rattle.std.proofs.Common.{sym, subst, append-nil}
use Rattle.io_edge.specs.Lines.{Shown}
use Rattle.dead_lines.specs.Watching.{Watches, WatchesOn}
use Rattle.dead_lines.specs.declared.watch.Watch.{Watch}

-- no lines change nothing
pub watches_on_none : (first : Watch) → WatchesOn first [] first
watches_on_none first nfa before watches =
    subst (λ (l : List Shown). Watches nfa l first) (sym (append-nil before)) watches
