-- A printed file reads back.
use Rattle.std.proofs.Common.{◌≡◌, ◌≤◌, [], length, refl, sym, subst}
use Rattle.query_forms.specs.Terms.{Terms}
use Rattle.language_base.specs.Limits.{max_text}
use Rattle.query_parser.specs.Reading.{IsFileOf}
use Rattle.query_parser.specs.Printing.{file_text, unplaced, IsFile}
use Rattle.query_parser.proofs.PrintedLayout.{printed, top_bytes, trees_at, top_tokens, placed}
use Rattle.query_parser.proofs.PrintedLayout.{file_text-is}
use Rattle.query_parser.proofs.PrintedTokens.{file-tokens, blank-none}
use Rattle.query_parser.proofs.PrintedTrees.{terms-are}
use Rattle.query_parser.proofs.PrintedTerms.{printed-said}
use Rattle.query_parser.proofs.WritableTerms.{AreWritable-raw, AreWritable-not_deep}
use Rattle.query_parser.proofs.PlacedForms.{unplaced-placed, first_large-placed}
use Rattle.query_parser.proofs.PlacedFile.{unfit_file-placed}

-- the bytes of a file are a file of its terms at their new places
top_bytes-file : (terms : Terms) → IsFile terms → length (top_bytes (printed terms)) ≤ max_text
    → IsFileOf (top_bytes (printed terms)) (placed 1 0 terms)
top_bytes-file terms is short =
    let raws = AreWritable-raw terms 1 is.writable is.within in
    record {
      has = record {
        has = record {
          trees = trees_at 1 0 (printed terms);
          has = record {
            tokens = top_tokens 0 (printed terms);
            has = record {
              short = short;
              are = file-tokens (printed terms) [] 0 0 raws blank-none refl;
            };
            are = terms-are (printed terms) 0 raws;
          };
          not_deep = AreWritable-not_deep terms 1 0 1 is.writable;
          say = printed-said terms is.writable is.within;
        };
        fit = unfit_file-placed terms 0 (length (top_bytes (printed terms))) 1 0 is.fit;
      };
      within = first_large-placed terms 1 0 is.within;
    }

-- the canonical text of a file reads to its terms, but for their places
pub reads_back : (terms : Terms) → IsFile terms → length (file_text terms) ≤ max_text
    → (again : Terms) × IsFileOf (file_text terms) again × (unplaced again ≡ unplaced terms)
reads_back terms is short =
    let same = file_text-is terms in (
      placed 1 0 terms,
      subst (λ text. IsFileOf text (placed 1 0 terms)) (sym same)
          (top_bytes-file terms is (subst (λ text. length text ≤ max_text) same short)),
      unplaced-placed terms 1 0,
    )
