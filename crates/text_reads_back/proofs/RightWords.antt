-- No name of the file of a query is wrong.
use Rattle.std.proofs.Common.{◌≡◌, ◌≤◌, ◌<◌, ℕ, zero, suc, ◌+◌, ◌^◌, Bool, true, false, not, cond, ◌||◌}
use Rattle.std.proofs.Common.{List, [], ◌∷◌, ◌++◌, map, length, None, Some, refl, sym, ap, ap₂, ◌∙◌}
use Rattle.std.proofs.Common.{subst, ⊎_elim, arith, add-one}
use Rattle.std.specs.List.{AllByRecursion, list_any}
use Rattle.std.specs.Str.{bytes_eq}
use Rattle.std.proofs.lemmas.Bool.{and_parts, cases_lt}
use Rattle.item_schema.specs.Layout.{Layout, are_distinct}
use Rattle.item_schema.specs.declared.column.Column.{Column}
use Rattle.query_lets.specs.Words.{Word, column_words, declares, first_wrong, is_known, is_wrong}
use Rattle.query_lets.specs.Words.{let_words, names_in, query_words, uses, word_span, wrong_name}
use Rattle.query_syntax.specs.Queries.{Query}
use Rattle.query_syntax.specs.declared.leaf.Name.{Name}
use Rattle.query_text.specs.Lets.{let_at}
use Rattle.query_text.specs.Names.{let_name, named}
use Rattle.query_text.specs.Programs.{column_tree, lets_from}
use Rattle.text_reads_back.proofs.Bindings.{IsClosed, names_differ}
use Rattle.text_reads_back.proofs.FileTerms.{file_of}
use Rattle.text_reads_back.proofs.Names.{flipped, neither, same_bytes, untrue}

-- words none of which is wrong, one after the other
none_wrong : (words others : List Word) → first_wrong words ≡ None → first_wrong others ≡ None
    → first_wrong (words ++ others) ≡ None
none_wrong [] others right also = also
none_wrong (word ∷ words) others right also =
    by (is_wrong word) (λ rest. none_wrong words others rest also) right
  where
    by : (test : Bool) → (first_wrong words ≡ None → first_wrong (words ++ others) ≡ None)
        → cond test (Some (word_span word)) (first_wrong words) ≡ None
        → cond test (Some (word_span word)) (first_wrong (words ++ others)) ≡ None
    by true later is = absurd (cc)
    by false later is = later is

one_right : (word : Word) (words : List Word) → is_wrong word ≡ false → first_wrong words ≡ None
    → first_wrong (word ∷ words) ≡ None
one_right word words is right =
    ap (λ test. cond test (Some (word_span word)) (first_wrong words)) is ∙ right

-- columns none of which is called by a name that is known
abbrev AreNew : List (List ℕ) → List Column → Type 0
AreNew known columns = AllByRecursion (λ column. is_known known column.name ≡ false) columns

all_new : (known : List (List ℕ)) (name : List ℕ) (columns : List Column)
    → AreNew known columns → list_any (λ c. bytes_eq name c.name) columns ≡ false
    → AreNew (name ∷ known) columns
all_new known name [] new other = tt
all_new known name (column ∷ columns) new other =
    let parts = neither (bytes_eq name column.name)
    (list_any (λ c. bytes_eq name c.name) columns) other in (
      ap₂ ◌||◌ (flipped name column.name parts.0) new.0,
      all_new known name columns new.1 parts.1,
    )

columns_right : (known : List (List ℕ)) (columns : List Column) → AreNew known columns
    → are_distinct columns ≡ true
    → first_wrong (column_words known (map column_tree columns)) ≡ None
columns_right known [] new distinct = refl
columns_right known (column ∷ columns) new distinct =
    let parts = and_parts (not (list_any (λ c. bytes_eq column.name c.name) columns))
    (are_distinct columns) distinct in
    one_right (declares known (named column.name))
    (column_words (column.name ∷ known) (map column_tree columns)) new.0
    (columns_right (column.name ∷ known) columns (all_new known column.name columns new.1
    (untrue (list_any (λ c. bytes_eq column.name c.name) columns) parts.0)) parts.1)

nothing_known : (columns : List Column) → AreNew [] columns
nothing_known [] = tt
nothing_known (column ∷ columns) = (refl, nothing_known columns)

-- the names of the first lets, the latest first
abbrev first_names : ℕ → List (List ℕ)
first_names zero = []
first_names (suc count) = let_name count ∷ first_names count

-- they are known
name_known : (count place : ℕ) → count < 2 ^ 32 → place < count
    → is_known (first_names count) (let_name place) ≡ true
name_known zero place small less = absurd (omega (arith, less))
name_known (suc count) place small less =
    by (bytes_eq (let_name place) (let_name count)) refl
    (λ earlier. name_known count place (omega (arith, small)) earlier)
  where
    by : (test : Bool) → bytes_eq (let_name place) (let_name count) ≡ test
        → (place < count → is_known (first_names count) (let_name place) ≡ true)
        → (test || is_known (first_names count) (let_name place)) ≡ true
    by true is later = refl
    by false is later = later (⊎_elim (λ earlier. earlier) last (cases_lt place count))
      where
        last : count ≤ place → place < count
        last least =
            let here : place ≡ count = omega (arith, least, less) in
            let same : bytes_eq (let_name place) (let_name count) ≡ true =
            ap (λ n. bytes_eq (let_name place) (let_name n)) (sym here)
            ∙ same_bytes (let_name place) in
            absurd (cc)

-- a later one is not
name_new : (count place : ℕ) → place < 2 ^ 32 → count ≤ place
    → is_known (first_names count) (let_name place) ≡ false
name_new zero place small less = refl
name_new (suc count) place small less =
    ap₂ ◌||◌ (names_differ place count small (omega (arith, small, less))
    (λ same. omega (arith, same, less))) (name_new count place small (omega (arith, less)))

-- names of the first lets are used rightly
uses_right : (count : ℕ) (names : List Name) → count < 2 ^ 32 → IsClosed count names
    → first_wrong (map (uses (first_names count)) names) ≡ None
uses_right count [] small closed = refl
uses_right count (name ∷ names) small closed =
    let is_there : is_known (first_names count) name.bytes ≡ true =
    ap (is_known (first_names count)) closed.0.2
    ∙ name_known count closed.0.0 small closed.0.1 in
    one_right (uses (first_names count) name) (map (uses (first_names count)) names)
    (ap not is_there) (uses_right count names small closed.1)

-- the queries of lets from a place on, each with names of lets before it
abbrev pub AreClosed : ℕ → List Query → Type 0
AreClosed count [] = Unit {0}
AreClosed count (query ∷ queries) =
    IsClosed count (names_in query) × AreClosed (count + 1) queries

lets_right : (count : ℕ) (queries : List Query) (at : ℕ) → count + length queries < 2 ^ 32
    → AreClosed count queries → at < count + length queries
    → first_wrong (let_words (first_names count) (lets_from count queries) (let_at at)) ≡ None
lets_right count [] at small closed less =
    uses_right count (named (let_name at) ∷ []) (omega (arith, small))
    ((at, omega (arith, less), refl), tt)
lets_right count (query ∷ queries) at small closed less =
    let rest : first_wrong (let_words (first_names (count + 1)) (lets_from (count + 1) queries)
    (let_at at)) ≡ None =
    lets_right (count + 1) queries at (omega (arith, small)) closed.1 (omega (arith, less)) in
    let after : first_wrong (let_words (let_name count ∷ first_names count)
    (lets_from (count + 1) queries) (let_at at)) ≡ None =
    subst (λ n. first_wrong (let_words (first_names n) (lets_from (count + 1) queries)
    (let_at at)) ≡ None) (add-one count) rest in
    none_wrong (declares (first_names count) (named (let_name count))
    ∷ query_words (first_names count) query)
    (let_words (let_name count ∷ first_names count) (lets_from (count + 1) queries) (let_at at))
    (one_right (declares (first_names count) (named (let_name count)))
    (query_words (first_names count) query)
    (name_new count count (omega (arith, small)) (omega arith))
    (uses_right count (names_in query) (omega (arith, small)) closed.0)) after

pub names_are_right : (layout : Layout) (queries : List Query) (at : ℕ)
    → are_distinct layout.columns ≡ true
    → length queries < 2 ^ 32 → AreClosed 0 queries → at < length queries
    → wrong_name (file_of layout queries at) ≡ None
names_are_right layout queries at distinct small closed less =
    none_wrong (column_words [] (map column_tree layout.columns))
    (let_words [] (lets_from 0 queries) (let_at at))
    (columns_right [] layout.columns (nothing_known layout.columns) distinct)
    (lets_right 0 queries at (omega (arith, small)) closed (omega (arith, less)))
