-- The names of a key, as terms.
use Rattle.std.proofs.Common.{◌≡◌, ◌≤◌, ℕ, All, List, [], ◌∷◌, length, take, replicate, codes}
use Rattle.std.proofs.Common.{Option, None, Some, refl, ap, subst, sym, ◌∙◌, arith}
use Rattle.std.proofs.lemmas.List.{length-replicate}
use Rattle.query_forms.specs.declared.term_place.TermPlace.{TermPlace}
use Rattle.query_forms.specs.declared.term_place.TermPlace.TheVariants as place
use Rattle.query_forms.specs.Terms.{Terms, none}
use Rattle.query_parser.specs.declared.term.Term.{Term}
use Rattle.query_parser.specs.Plain.{term_before}
use Rattle.query_syntax.specs.Counts.{IsNameCount}
use Rattle.query_syntax.specs.declared.leaf.Name.{Name}
use Rattle.query_syntax.specs.Files.{all_before}
use Rattle.query_syntax.specs.Fits.{Fits, HasForm}
use Rattle.query_syntax.specs.Rows.{Row, head_in, rows_of}
use Rattle.query_syntax.specs.Written.{name_before, names_terms}
use Rattle.query_syntax.proofs.Fitting.{all_fit}
use Rattle.query_syntax.proofs.Heads.{head_found, head_missing, one_of_rows}

-- names, one after the other
pub names_before : (names : List Name) → all_before name_before names none ≡ names_terms names
names_before [] = refl
names_before (first ∷ others) = ap (name_before first) (names_before others)

-- the terms before a place are what this many names are written as
pub record AreNamed (arguments : List Term) (names : List Name) (index : ℕ) : Type 0 where
  pub within : index ≤ length arguments
  pub written : (rest : Terms) → all_before term_before (take index arguments) rest
      ≡ all_before name_before names rest
  pub as_many : length names ≡ index

-- none are before the first
pub none_named : (arguments : List Term) (names : List Name) → names ≡ []
    → AreNamed arguments names 0
none_named arguments names empty =
    subst (λ (ns : List Name). AreNamed arguments ns 0) (sym empty)
    (record { within = omega arith; written = λ rest. refl; as_many = refl })

-- at the end all are, and as many as there are arguments
pub all_named : (arguments : List Term) (names : List Name) (index : ℕ) → length arguments ≤ index
    → AreNamed arguments names index → length names ≡ length arguments
all_named arguments names index end named =
    let within = named.within in
    let many = named.as_many in
    omega arith

-- this many names at the places of a key
abbrev pub names_at : ℕ → List TermPlace
names_at count = replicate count place.Name

-- a key has two to four names
abbrev pub key_counts : List ℕ
key_counts = 2 ∷ 3 ∷ 4 ∷ []

abbrev key_rows : List (Row ℕ)
key_rows = rows_of (λ _. codes "key") names_at key_counts

-- a call that is a key: its word, and one name at each of two to four places
pub record IsKeyCall (word : List ℕ) (arguments : List Term) : Type 0 where
  pub word_is : word ≡ codes "key"
  pub count : IsNameCount (length arguments)
  pub fit : All (Fits place.Name) arguments

of_two : IsNameCount 2
of_two = record { least = omega arith; most = omega arith }

of_three : IsNameCount 3
of_three = record { least = omega arith; most = omega arith }

of_four : IsNameCount 4
of_four = record { least = omega arith; most = omega arith }

pub key_call : (word : List ℕ) (arguments : List Term) → HasForm place.Key word arguments
    → IsKeyCall word arguments
key_call word arguments has = by (head_in key_rows word (length arguments)) refl
  where
    by : (head : Option ℕ) → head ≡ head_in key_rows word (length arguments)
        → IsKeyCall word arguments
    by None missing = absurd (head_missing ℕ (λ _. codes "key") names_at place.Key key_counts
        word arguments refl has missing)
    by (Some count) found =
        let at = head_found ℕ (λ _. codes "key") names_at place.Key key_counts word arguments
        count refl has found in
        let many = one_of_rows IsNameCount key_rows word (length arguments) count
        (of_two, (of_three, (of_four, tt))) (sym found) in
        record {
          word_is = at.0;
          count = subst IsNameCount
              (sym (at.1.as_many ∙ length-replicate count place.Name)) many;
          fit = all_fit place.Name count arguments at.1;
        }
