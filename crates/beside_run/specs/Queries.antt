-- Statement. What was read of the sources of queries, and what their texts are compiled to. `left`
-- and `ends` are what a source reports: the bytes that are left, and the count of ends.
use Rattle.std.specs.Prelude.{◌≡◌, ◌⊎◌, ℕ, List, [], ◌∷◌, Option, IfSome}
use Rattle.std.specs.List.{AllZip}
use Rattle.io_edge.specs.Counts.{next_count}
use Rattle.query_compiler.specs.Compiled.{Compiles, KeepsRules}
use Rattle.query_compiler.specs.QueryRead.{ReadsText}
use Rattle.query_model.specs.Monitors.{Monitor}
use Rattle.type_checker.specs.Judged.{accepted}

-- a source was read once, and its text, if it is known, is compiled to this query
pub record IsQuery {Q : Type 0} (left : Q → Option (List ℕ)) (ends : Q → ℕ) (old new : Q)
    (monitor : Monitor) : Type 0 where
  pub read : ReadsText (left old) (left new) (ends old) (ends new)
  pub accepted : IfSome (left old) (λ text. Compiles text (accepted monitor))
  pub keeps : KeepsRules monitor

module _ {Q : Type 0} where
  -- so are the texts of sources, to these queries
  abbrev pub AreQueries : (Q → Option (List ℕ)) → (Q → ℕ) → List Q → List Q → List Monitor
      → Type 0
  AreQueries left ends [] [] [] = Unit {0}
  AreQueries left ends (old ∷ olds) (new ∷ news) (monitor ∷ monitors) =
      IsQuery left ends old new monitor × AreQueries left ends olds news monitors
  AreQueries left ends _ _ _ = ⊥

  -- the first sources are such, with the next one `Stops` came about, and the others were left as
  -- they were
  abbrev pub StopsAt : (Q → Option (List ℕ)) → (Q → ℕ) → (Q → Q → Type 0) → List Q → List Q
      → Type 0
  StopsAt left ends Stops (old ∷ olds) (new ∷ news) =
      (Stops old new × (news ≡ olds))
      ⊎ ((monitor : Monitor) × IsQuery left ends old new monitor
      × StopsAt left ends Stops olds news)
  StopsAt left ends Stops _ _ = ⊥

  -- all counts are as they were
  abbrev pub AreSame : (Q → ℕ) → List Q → List Q → Type 0
  AreSame count olds news = AllZip (λ old new. count new ≡ count old) olds news

  -- the count of one is one more, and those of the others are as they were
  abbrev pub RisesAtOne : (Q → ℕ) → List Q → List Q → Type 0
  RisesAtOne count (old ∷ olds) (new ∷ news) =
      ((count new ≡ next_count (count old)) × AreSame count olds news)
      ⊎ ((count new ≡ count old) × RisesAtOne count olds news)
  RisesAtOne count _ _ = ⊥

  -- a call that fails raises the count of one source by one, and any other call that of none
  pub record OneFailsBy (count : Q → ℕ) (olds news : List Q) (failed : Type 0) : Type 0 where
    pub by_one : failed → RisesAtOne count olds news
    pub else_same : (failed → ⊥) → AreSame count olds news
