use Rattle.std.proofs.Common.{drop}
use Rattle.rate_expr.specs.Paths.{AreOf}
use Rattle.rate_expr.specs.Rates.{Regex}
use Rattle.rate_expr.specs.Words.{IsWordOf}
use Rattle.ambiguity_example.specs.Parts.{PartsFrom}
use Rattle.ambiguity_example.proofs.membership.reads_parts.Given as goal

-- the cuts part the items exactly where those that are left part the items that are left
abbrev pub invariant-cuts : goal.invariant-cuts
invariant-cuts l = record {
  on : (rate : Regex) → AreOf l.nfa.sets rate → PartsFrom rate 0 l.items l.cuts
      → PartsFrom rate l.begin l.rest (drop l.cut-index l.cuts);
  back : (rate : Regex) → AreOf l.nfa.sets rate
      → PartsFrom rate l.begin l.rest (drop l.cut-index l.cuts) → PartsFrom rate 0 l.items l.cuts;
  word : IsWordOf l.nfa.cells.layout.columns l.rest;
}
