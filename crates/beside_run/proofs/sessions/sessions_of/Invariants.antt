use Rattle.std.proofs.Common.{◌≡◌, take}
use Rattle.std.specs.List.{AllByRecursion}
use Rattle.eval_runner.specs.Following.{Follows, IsSoundly, columns_of, is_lost, query_of}
use Rattle.stream_run.specs.Sessions.{IsReady}
use Rattle.beside_run.specs.Compiling.{IsNew, monitors_in, monitors_of}
use Rattle.beside_run.proofs.sessions.sessions_of.Given as goal

-- there is a session for each query below the index
abbrev pub invariant-queries : goal.invariant-queries
invariant-queries l =
    (monitors_in l.sessions.items ≡ monitors_of (take l.query-index l.queries))
    × AllByRecursion (IsNew Follows) l.sessions.items
    × AllByRecursion (IsReady query_of columns_of is_lost IsSoundly) l.sessions.items
