-- Statement. What a query is rewritten as, and the text that is written of it.
use Rattle.std.specs.Prelude.{◌≡◌, ◌≤◌, ℕ, List}
use Rattle.query_model.specs.Bounds.{slots_of}
use Rattle.query_model.specs.Monitors.{Monitor}
use Rattle.query_model.specs.Queries.{Qre}
use Rattle.query_rewrite.specs.Meanings.{MeanTheSame}
use Rattle.query_rewrite.specs.Plainness.{IsPlain}
use Rattle.query_rewrite.specs.Rewriting.{Rewrites}
use Rattle.query_text.specs.Programs.{text_of}

-- by the rules of rewriting a query that means the same, to which none of them applies, and for
-- which no more is kept
pub record IsRewrittenAs (monitor : Monitor) (query : Qre) : Type 0 where
  pub rules : Rewrites monitor.query query
  pub plain : IsPlain query
  pub values : MeanTheSame monitor.layout.columns monitor.query query
  pub slots : slots_of query ≤ slots_of monitor.query

-- the canonical text of such a query
pub record IsRewrittenText (monitor : Monitor) (text : List ℕ) : Type 0 where
  pub query : Qre
  pub rewritten : IsRewrittenAs monitor query
  pub written : text ≡ text_of monitor.layout query
