-- The canonical text that is made reads back.
use Rattle.std.proofs.Common.{◌≡◌, ◌≤◌, ◌<◌, ℕ, List, length, sym, subst}
use Rattle.std.specs.Prelude.{All}
use Rattle.language_base.specs.Limits.{max_text}
use Rattle.query_forms.specs.Terms.{Terms}
use Rattle.query_parser.specs.Printing.{unplaced}
use Rattle.query_parser.specs.Reading.{IsFileOf}
use Rattle.query_parser.proofs.IsFile.{is_file}
use Rattle.query_parser.proofs.Passes.{shallow_readable}
use Rattle.query_parser.proofs.ReadsBack.{reads_back}
use Rattle.query_templates.specs.File.{plain_terms}
use Rattle.template_expansion.specs.Meaning.{IsExpansionOf}
use Rattle.template_expansion.proofs.Plain.{plain_readable}

pub read_again : (text bytes : List ℕ) → All (λ byte. byte < 256) text
    → (made : IsExpansionOf text bytes) → length bytes ≤ max_text
    → (again : Terms) × IsFileOf bytes again × (unplaced again ≡ unplaced made.terms)
read_again text bytes small made short =
    let trees = made.stands.trees in
    let readable = plain_readable text trees
    (shallow_readable text trees made.stands.has.shallow) made.stands.has.right in
    let is = is_file text (plain_terms text trees) made.terms small readable made.stands.file in
    let back = reads_back made.terms is
    (subst (λ (b : List ℕ). length b ≤ max_text) made.is short) in (
      back.0,
      subst (λ (b : List ℕ). IsFileOf b back.0) (sym made.is) back.1,
      back.2,
    )
