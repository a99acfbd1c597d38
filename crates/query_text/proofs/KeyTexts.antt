-- The text of a key's tree is that of the key.
use Rattle.std.proofs.Common.{◌≡◌, ◌∙◌, ◌++◌, ℕ, List, [], ◌∷◌, codes, map, refl, ap, sym}
use Rattle.std.proofs.Common.{append-nil, append_assoc}
use Rattle.query_forms.specs.Terms.{Terms}
use Rattle.query_parser.specs.Printing.{arguments_text, joined}
use Rattle.query_syntax.specs.declared.leaf.Name.{Name}
use Rattle.query_syntax.specs.Written.{key_before, names_terms}
use Rattle.query_text.specs.Forms.{both, called, key_text, names_text, other_names}
use Rattle.query_text.specs.Names.{Naming, field_name, named}
use Rattle.query_text.specs.Trees.{key_tree}

-- the tree of the name of a column
abbrev named_column : Naming → ℕ → Name
named_column naming column = named (field_name naming column)

others_written : (naming : Naming) (first : List ℕ) (chosen : List ℕ)
    → joined first (names_terms (map (named_column naming) chosen))
    (arguments_text (names_terms (map (named_column naming) chosen)))
    ≡ first ++ other_names naming chosen
others_written naming first [] = sym (append-nil first)
others_written naming first (column ∷ others) =
    ap (both first) (others_written naming (field_name naming column) others)
    ∙ append_assoc first (codes ", ") (field_name naming column ++ other_names naming others)
    ∙ ap (λ t. first ++ t) (sym (append_assoc (codes ", ") (field_name naming column)
    (other_names naming others)))

names_written : (naming : Naming) (chosen : List ℕ)
    → arguments_text (names_terms (map (named_column naming) chosen)) ≡ names_text naming chosen
names_written naming [] = refl
names_written naming (column ∷ others) =
    others_written naming (field_name naming column) others

pub key_written : (naming : Naming) (chosen : List ℕ) (rest : Terms)
    → arguments_text (key_before (key_tree naming chosen) rest)
    ≡ joined (key_text naming chosen) rest (arguments_text rest)
key_written naming [] rest =
    ap (λ t. joined (called (codes "key") t) rest (arguments_text rest)) (names_written naming [])
key_written naming (column ∷ []) rest = refl
key_written naming (column ∷ other ∷ others) rest =
    ap (λ t. joined (called (codes "key") t) rest (arguments_text rest))
    (names_written naming (column ∷ other ∷ others))
