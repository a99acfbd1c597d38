-- Sources are compiled in turn, up to one that is no query.
use Rattle.std.proofs.Common.{set, ◌≡◌, inl, inr, ◌<◌, ℕ, zero, suc, List, [], ◌∷◌, ◌++◌}
use Rattle.std.proofs.Common.{get_or, length, Option, Result, Err, IfErr, refl, sym, ap, subst, ◌∙◌}
use Rattle.std.proofs.Common.{arith}
use Rattle.std.proofs.Common.{append_assoc, append-nil}
use Rattle.std.specs.Prelude.{Box}
use Rattle.std.specs.List.{AllByRecursion}
use Rattle.std.specs.declared.alloc.Global.{Global}
use Rattle.io_edge.specs.Counts.{FailsBy, next_count}
use Rattle.query_compiler.specs.Compiled.{KeepsRules}
use Rattle.query_compiler.specs.declared.query.QueryStop.{QueryStop}
use Rattle.query_compiler.specs.declared.query.QueryStop.TheVariants.{Failed}
use Rattle.query_model.specs.Checked.{CheckedQuery}
use Rattle.query_model.specs.Monitors.{Monitor, monitor_of}
use Rattle.beside_lines.specs.Filling.{AllInTurn}
use Rattle.beside_lines.proofs.InTurn.{InTurnTo}
use Rattle.beside_run.specs.Compiling.{Adds, monitors_of}
use Rattle.beside_run.specs.Queries.{AreQueries, AreSame, OneFailsBy, RisesAtOne, StopsAt}

module _ {Q : Type 0} where
  -- the same counts are the same
  pub all_same : (count : Q → ℕ) (sources : List Q) → AreSame count sources sources
  all_same count [] = tt
  all_same count (source ∷ sources) = (refl, all_same count sources)

  -- what holds of all sources, where it holds of the first ones and then of one
  pub stops_so : (left : Q → Option (List ℕ)) (ends : Q → ℕ) (P R : Q → Q → Type 0)
      → ((old new : Q) → P old new → R old new) → (olds news : List Q)
      → StopsAt left ends P olds news → StopsAt left ends R olds news
  stops_so left ends P R so [] news stops = stops
  stops_so left ends P R so (old ∷ olds) [] stops = stops
  stops_so left ends P R so (old ∷ olds) (new ∷ news) (inl (stop, same)) =
      inl (so old new stop, same)
  stops_so left ends P R so (old ∷ olds) (new ∷ news) (inr (monitor, is, stops)) =
      inr (monitor, is, stops_so left ends P R so olds news stops)

module _ {Q : Type 0} (left : Q → Option (List ℕ)) (ends faults : Q → ℕ) where
  -- the queries that were added are those of the sources
  record Added (olds news : List Q) (before after : List (Box CheckedQuery Global)) : Type 0 where
    more : List (Box CheckedQuery Global)
    all : after ≡ before ++ more
    are : AreQueries left ends olds news (monitors_of more)

  added_all : (olds news : List Q) (before after : List (Box CheckedQuery Global))
      → AllInTurn (Adds left ends faults) olds news before after → Added olds news before after
  added_all [] [] before after turns =
      record { more = []; all = turns ∙ sym (append-nil before); are = tt }
  added_all [] (new ∷ news) before after turns = absurd turns
  added_all (old ∷ olds) [] before after turns = absurd turns
  added_all (old ∷ olds) (new ∷ news) before after turns =
      let others = added_all olds news turns.0 after turns.2 in
      record {
        more = turns.1.query ∷ others.more;
        all = others.all
            ∙ ap (λ (b : List (Box CheckedQuery Global)). b ++ others.more) turns.1.added
            ∙ append_assoc before (turns.1.query ∷ []) others.more;
        are = (turns.1.is, others.are);
      }

  pub are_queries : (olds news : List Q) (all : List (Box CheckedQuery Global))
      → AllInTurn (Adds left ends faults) olds news [] all
      → AreQueries left ends olds news (monitors_of all)
  are_queries olds news all turns =
      let added = added_all olds news [] all turns in
      subst
      (λ (qs : List (Box CheckedQuery Global)). AreQueries left ends olds news (monitors_of qs))
      (sym added.all) added.are

  -- and no source met a fault
  pub none_failed : (olds news : List Q) (before after : List (Box CheckedQuery Global))
      → AllInTurn (Adds left ends faults) olds news before after → AreSame faults olds news
  none_failed [] [] before after turns = tt
  none_failed [] (new ∷ news) before after turns = absurd turns
  none_failed (old ∷ olds) [] before after turns = absurd turns
  none_failed (old ∷ olds) (new ∷ news) before after turns =
      (turns.1.same, none_failed olds news turns.0 after turns.2)

  module _ (d new : Q) where
    -- one is no query
    pub stops_at : (Stops : Q → Q → Type 0) (k : ℕ) (olds nows : List Q)
        (before now : List (Box CheckedQuery Global))
        → InTurnTo (Adds left ends faults) k olds nows before now → k < length nows
        → Stops (get_or nows k d) new → StopsAt left ends Stops olds (set nows k new)
    stops_at Stops k olds [] before now turns inside stop = absurd (omega (arith, inside))
    stops_at Stops zero olds (x ∷ nows) before now turns inside stop =
        subst (λ (os : List Q). StopsAt left ends Stops os (new ∷ nows)) turns.0
        (inl (stop, refl))
    stops_at Stops (suc k) [] (x ∷ nows) before now turns inside stop = absurd turns
    stops_at Stops (suc k) (old ∷ olds) (x ∷ nows) before now turns inside stop =
        inr (
          monitor_of turns.1.query.value,
          turns.1.is,
          stops_at Stops k olds nows turns.0 now turns.2 (omega (arith, inside)) stop,
        )

    rises_at : (k : ℕ) (olds nows : List Q) (before now : List (Box CheckedQuery Global))
        → InTurnTo (Adds left ends faults) k olds nows before now → k < length nows
        → faults new ≡ next_count (faults (get_or nows k d))
        → RisesAtOne faults olds (set nows k new)
    rises_at k olds [] before now turns inside rises = absurd (omega (arith, inside))
    rises_at zero olds (x ∷ nows) before now turns inside rises =
        subst (λ (os : List Q). RisesAtOne faults os (new ∷ nows)) turns.0
        (inl (rises, all_same faults nows))
    rises_at (suc k) [] (x ∷ nows) before now turns inside rises = absurd turns
    rises_at (suc k) (old ∷ olds) (x ∷ nows) before now turns inside rises =
        inr (
          turns.1.same,
          rises_at k olds nows turns.0 now turns.2 (omega (arith, inside)) rises,
        )

    same_at : (k : ℕ) (olds nows : List Q) (before now : List (Box CheckedQuery Global))
        → InTurnTo (Adds left ends faults) k olds nows before now → k < length nows
        → faults new ≡ faults (get_or nows k d) → AreSame faults olds (set nows k new)
    same_at k olds [] before now turns inside same = absurd (omega (arith, inside))
    same_at zero olds (x ∷ nows) before now turns inside same =
        subst (λ (os : List Q). AreSame faults os (new ∷ nows)) turns.0
        (same, all_same faults nows)
    same_at (suc k) [] (x ∷ nows) before now turns inside same = absurd turns
    same_at (suc k) (old ∷ olds) (x ∷ nows) before now turns inside same =
        (turns.1.same, same_at k olds nows turns.0 now turns.2 (omega (arith, inside)) same)

    -- it failed, or none did
    pub fails_at : (P R : Type 0) → (R → P) → (P → R) → (k : ℕ) (olds nows : List Q)
        (before now : List (Box CheckedQuery Global))
        → InTurnTo (Adds left ends faults) k olds nows before now → k < length nows
        → FailsBy (faults (get_or nows k d)) (faults new) P
        → OneFailsBy faults olds (set nows k new) R
    fails_at P R to from k olds nows before now turns inside fails = record {
      by_one = λ failed. rises_at k olds nows before now turns inside (fails.by_one (to failed));
      else_same = λ never. same_at k olds nows before now turns inside
          (fails.else_same (λ failed. never (from failed)));
    }

-- all queries keep the rules
pub all_keep : {Q : Type 0} (left : Q → Option (List ℕ)) (ends : Q → ℕ) (olds news : List Q)
    (monitors : List Monitor) → AreQueries left ends olds news monitors
    → AllByRecursion KeepsRules monitors
all_keep left ends [] [] [] are = tt
all_keep left ends [] [] (monitor ∷ monitors) are = absurd are
all_keep left ends [] (new ∷ news) monitors are = absurd are
all_keep left ends (old ∷ olds) [] monitors are = absurd are
all_keep left ends (old ∷ olds) (new ∷ news) [] are = absurd are
all_keep left ends (old ∷ olds) (new ∷ news) (monitor ∷ monitors) are =
    (are.0.keeps, all_keep left ends olds news monitors are.1)

-- and there are as many as sources
pub as_many : {Q : Type 0} (left : Q → Option (List ℕ)) (ends : Q → ℕ) (olds news : List Q)
    (queries : List (Box CheckedQuery Global))
    → AreQueries left ends olds news (monitors_of queries) → length queries ≡ length olds
as_many left ends [] [] [] are = refl
as_many left ends [] [] (query ∷ queries) are = absurd are
as_many left ends [] (new ∷ news) queries are = absurd are
as_many left ends (old ∷ olds) [] queries are = absurd are
as_many left ends (old ∷ olds) (new ∷ news) [] are = absurd are
as_many left ends (old ∷ olds) (new ∷ news) (query ∷ queries) are =
    ap suc (as_many left ends olds news queries are.1)

-- what holds of the reason with which a call returned early
pub err_so : {T : Type 0} (result : Result T QueryStop) (found why : QueryStop)
    (P : QueryStop → Type 0) → result ≡ Err found → found ≡ why → P why → IfErr result P
err_so {T} result found why P is same holds =
    subst (λ (r : Result T QueryStop). IfErr r P) (sym is) (subst P (sym same) holds)

-- it returned so if and only if what it called did
pub fails_too : {T U : Type 0} (result : Result T QueryStop) (inner : Result U QueryStop)
    (found why : QueryStop) → result ≡ Err found → found ≡ why → inner ≡ Err why
    → (result ≡ Err Failed → inner ≡ Err Failed) × (inner ≡ Err Failed → result ≡ Err Failed)
fails_too result inner found why is same was =
    (λ failed. cc (is, same, was, failed), λ failed. cc (is, same, was, failed))
