-- Each query that keeps the rules is rewritten as some query, and that has a text.
use Rattle.std.proofs.Common.{◌≤◌, ◌≡◌, ◌+◌, ◌∙◌, ℕ, List, Result, Ok, Err, IfOk, ap, refl, arith}
use Rattle.std.specs.declared.alloc.AllocError.{AllocError}
use Rattle.item_schema.specs.Layout.{Layout}
use Rattle.query_model.specs.Monitors.{Monitor}
use Rattle.query_model.specs.Queries.{Qre}
use Rattle.query_model.specs.Rules.{free}
use Rattle.query_compiler.specs.Compiled.{KeepsRules}
use Rattle.query_rewrite.specs.Steps.{rewritten}
use Rattle.query_rewrite.proofs.Alike.{IsAlike, width_same}
use Rattle.query_rewrite.proofs.EachAlike.{each_alike}
use Rattle.query_rewrite.proofs.MadePlain.{made_plain}
use Rattle.query_rewrite.proofs.OneByOne.{rewrites}
use Rattle.query_text.specs.Programs.{text_of}
use Rattle.sqre_run.specs.Rewritten.{IsRewrittenAs, IsRewrittenText}

slots_less : (x y v w : ℕ) → x ≤ y → v ≡ w → x + 1 + v ≤ y + 1 + w
slots_less x y v w less same = omega arith

is_rewritten : (monitor : Monitor) → KeepsRules monitor
    → IsRewrittenAs monitor (rewritten monitor.query)
is_rewritten monitor keeps =
    let alike : IsAlike free monitor.layout.columns monitor.query (rewritten monitor.query) =
    each_alike monitor.query (rewritten monitor.query) (rewrites monitor.query) free
    monitor.layout.columns keeps.clear in
    let width = width_same monitor.layout.columns monitor.query (rewritten monitor.query)
    alike.type in
    record {
      rules = rewrites monitor.query;
      plain = made_plain monitor.query;
      values = alike.means;
      slots = slots_less _ _ _ _ alike.inner width;
    }

-- there is a text of one
pub some_text : (monitor : Monitor) → KeepsRules monitor
    → (text : List ℕ) × IsRewrittenText monitor text
some_text monitor keeps = (
  text_of monitor.layout (rewritten monitor.query),
  record {
    query = rewritten monitor.query;
    rewritten = is_rewritten monitor keeps;
    written = refl;
  },
)

-- the text that was made of one, on the same stream
pub text_made : (monitor : Monitor) (layout : Layout) (query : Qre) → layout ≡ monitor.layout
    → IsRewrittenAs monitor query → (reply : Result (List ℕ) AllocError)
    → IfOk reply (λ text. text ≡ text_of layout query) → IfOk reply (IsRewrittenText monitor)
text_made monitor layout query same is (Ok text) written = record {
  query = query;
  rewritten = is;
  written = written ∙ ap (λ (on : Layout). text_of on query) same;
}
text_made monitor layout query same is (Err error) written = tt
