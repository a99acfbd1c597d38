-- Statement. What a query text is compiled to.
use Rattle.std.specs.Prelude.{ℕ, List, IsTrue}
use Rattle.std.specs.List.{list_all}
use Rattle.language_base.specs.declared.refusal.Refusal.{Refusal}
use Rattle.item_schema.specs.Layout.{is_read}
use Rattle.query_model.specs.Monitors.{Monitor}
use Rattle.query_model.specs.Rules.{free, IsClear}
use Rattle.query_parser.specs.Reading.{IsFileOf, IsRefused}
use Rattle.query_syntax.specs.Files.{program_terms}
use Rattle.query_syntax.specs.Programs.{Program}
use Rattle.type_checker.specs.Judged.{IsJudged, Verdict, accepted, refused}

-- the text is compiled to this verdict: that on the program which it writes, or the refusal of a
-- text that writes no program
pub data Compiles (text : List ℕ) : Verdict → Type 0 where
  judged : (program : Program) (verdict : Verdict) → IsFileOf text (program_terms program)
      → IsJudged program verdict → Compiles text verdict
  unread : (why : Refusal) → IsRefused text why → Compiles text (refused why)

-- the columns are read from lines, and the query keeps the rules on their items
pub record KeepsRules (monitor : Monitor) : Type 0 where
  pub read : IsTrue (list_all (λ column. is_read column.kind) monitor.layout.columns)
  pub clear : IsClear free monitor.layout.columns monitor.query

-- a query that is accepted keeps the rules, and so it has a meaning
abbrev pub KeepsRulesIfAccepted : Verdict → Type 0
KeepsRulesIfAccepted (accepted monitor) = KeepsRules monitor
KeepsRulesIfAccepted (refused why) = Unit {0}
