use Rattle.std.proofs.Common.{◌≡◌, eqb, length}
use Rattle.runner_snapshot.specs.declared.entries.Entry.{Entry}
use Rattle.eval_snapshot.specs.Fits.{FitsWaiting}
use Rattle.dump_fits.proofs.Gathered.{SoFar}
use Rattle.dump_fits.proofs.entries.fit_waiting.Given as goal

abbrev pub invariant-entries : goal.invariant-entries
invariant-entries l =
    (l.i-end ≡ length l.entries)
    × SoFar eqb (λ (one : Entry). one.inner) (FitsWaiting l.ty l.position) l.entries l.i
    l.inners.keys
