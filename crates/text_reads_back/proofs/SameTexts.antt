-- Terms that are written alike are the same but for their places.
use Rattle.std.proofs.Common.{◌≡◌, [], None, refl, sym, ap, ◌∙◌, subst}
use Rattle.query_forms.specs.File.{first_large}
use Rattle.query_forms.specs.Terms.{Say, Terms}
use Rattle.query_forms.proofs.Says.{one_terms}
use Rattle.query_parser.specs.Printing.{AreWritable, file_text, unplaced}
use Rattle.query_parser.proofs.PlacedForms.{unplaced-placed}
use Rattle.query_parser.proofs.PrintedLayout.{file_text-is, placed, printed, top_bytes, top_tokens}
use Rattle.query_parser.proofs.PrintedLayout.{trees_at}
use Rattle.query_parser.proofs.PrintedTerms.{printed-said}
use Rattle.query_parser.proofs.PrintedTokens.{blank-none, file-tokens}
use Rattle.query_parser.proofs.PrintedTrees.{terms-are}
use Rattle.query_parser.proofs.WritableTerms.{AreWritable-raw}
use Rattle.query_tokens.specs.Tokens.{AreTokens}
use Rattle.query_tokens.proofs.OneWay.{one_list}
use Rattle.query_trees.specs.Terms.{AreTerms}
use Rattle.query_trees.proofs.Laws.{only-terms}

-- terms that a text can have
pub record CanBeText (terms : Terms) : Type 0 where
  pub writable : AreWritable 1 terms
  pub within : first_large terms ≡ None

-- the tokens of the text of terms
tokens_of : (terms : Terms) → CanBeText terms
    → AreTokens 0 (top_bytes (printed terms)) (top_tokens 0 (printed terms))
tokens_of terms can = file-tokens (printed terms) [] 0 0
    (AreWritable-raw terms 1 can.writable can.within) blank-none refl

-- and their trees
trees_of : (terms : Terms) → CanBeText terms
    → AreTerms (trees_at 1 0 (printed terms)) (top_tokens 0 (printed terms))
trees_of terms can =
    terms-are (printed terms) 0 (AreWritable-raw terms 1 can.writable can.within)

pub written_alike : (a b : Terms) → CanBeText a → CanBeText b → file_text a ≡ file_text b
    → unplaced a ≡ unplaced b
written_alike a b can could same =
    let text = top_bytes (printed a) in
    let bytes : top_bytes (printed b) ≡ text =
    sym (file_text-is b) ∙ sym same ∙ file_text-is a in
    let tokens : top_tokens 0 (printed b) ≡ top_tokens 0 (printed a) =
    one_list 0 text (top_tokens 0 (printed a)) (top_tokens 0 (printed b)) (tokens_of a can)
    (subst (λ t. AreTokens 0 t (top_tokens 0 (printed b))) bytes (tokens_of b could)) in
    let trees : trees_at 1 0 (printed b) ≡ trees_at 1 0 (printed a) =
    only-terms (trees_at 1 0 (printed a)) (trees_at 1 0 (printed b)) (top_tokens 0 (printed a))
    (trees_of a can) (subst (AreTerms (trees_at 1 0 (printed b))) tokens (trees_of b could)) in
    let said : Say text (trees_at 1 0 (printed a)) (placed 1 0 b) =
    subst (λ t. Say text t (placed 1 0 b)) trees
    (subst (λ t. Say t (trees_at 1 0 (printed b)) (placed 1 0 b)) bytes
    (printed-said b could.writable could.within)) in
    let terms : placed 1 0 b ≡ placed 1 0 a =
    one_terms text (trees_at 1 0 (printed a)) (placed 1 0 a) (placed 1 0 b)
    (printed-said a can.writable can.within) said in
    sym (unplaced-placed a 1 0) ∙ sym (ap unplaced terms) ∙ unplaced-placed b 1 0
