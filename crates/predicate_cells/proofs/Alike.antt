-- Fields that no test of a predicate distinguishes, and that predicates say the same
-- of their items.
use Rattle.std.proofs.Common.{◌≡◌, ℕ, not, ◌&&◌, ◌||◌, ℤ, List, [], ◌∷◌, ◌++◌, Option, None, Some}
use Rattle.std.proofs.Common.{int_eq, refl, ap, ap₂, subst, is_some, eq-eqb}
use Rattle.std.specs.Prelude.{int_lt, int_le}
use Rattle.std.specs.List.{AllByRecursion}
use Rattle.std.specs.Str.{bytes_eq}
use Rattle.value_ops.specs.declared.field.Field.{Field}
use Rattle.predicate_cells.specs.Classes.{at_column, beginnings, named_texts, next}
use Rattle.predicates.specs.Predicates.{Predicate, any, eq, ne, lt, le, gt, ge, between}
use Rattle.predicates.specs.Predicates.{eq_text, ne_text, is_num, conjunction, disjunction}
use Rattle.predicates.specs.Predicates.{negation}
use Rattle.predicates.specs.Truth.{holds, passes, number_in, text_in}
use Rattle.predicate_cells.proofs.AllMembers.{all_front, all_back}
use Rattle.predicate_cells.proofs.IntTests.{int_eq_by_le, int_lt_by_le, int_le_by_le, int_gt_by_le}

-- neither is a number, or each of these numbers is at most the one where it is at most the other
abbrev pub NumbersAlike : List ℤ → Option ℤ → Option ℤ → Type 0
NumbersAlike starts None None = Unit {0}
NumbersAlike starts (Some x) (Some y) =
    AllByRecursion (λ start. int_le start x ≡ int_le start y) starts
NumbersAlike starts _ _ = ⊥

-- neither is a text, or each of these texts is the one where it is the other
abbrev pub TextsAlike : List (List ℕ) → Option (List ℕ) → Option (List ℕ) → Type 0
TextsAlike named None None = Unit {0}
TextsAlike named (Some s) (Some t) =
    AllByRecursion (λ text. bytes_eq s text ≡ bytes_eq t text) named
TextsAlike named _ _ = ⊥

-- no test of the predicate distinguishes the fields in any column
abbrev pub FieldsAlike : Predicate → List Field → List Field → Type 0
FieldsAlike pred x y =
    (column : ℕ) → NumbersAlike (beginnings column pred) (number_in x column) (number_in y column)
    × TextsAlike (named_texts column pred) (text_in x column) (text_in y column)

-- what holds of joined lists holds of both
numbers_front : (bs cs : List ℤ) (x y : Option ℤ) → NumbersAlike (bs ++ cs) x y
    → NumbersAlike bs x y
numbers_front bs cs None None h = tt
numbers_front bs cs (Some x) (Some y) h = all_front _ bs cs h
numbers_front bs cs _ _ h = absurd h

numbers_back : (bs cs : List ℤ) (x y : Option ℤ) → NumbersAlike (bs ++ cs) x y → NumbersAlike cs x y
numbers_back bs cs None None h = tt
numbers_back bs cs (Some x) (Some y) h = all_back _ bs cs h
numbers_back bs cs _ _ h = absurd h

texts_front : (ns ms : List (List ℕ)) (x y : Option (List ℕ)) → TextsAlike (ns ++ ms) x y
    → TextsAlike ns x y
texts_front ns ms None None h = tt
texts_front ns ms (Some x) (Some y) h = all_front _ ns ms h
texts_front ns ms _ _ h = absurd h

texts_back : (ns ms : List (List ℕ)) (x y : Option (List ℕ)) → TextsAlike (ns ++ ms) x y
    → TextsAlike ms x y
texts_back ns ms None None h = tt
texts_back ns ms (Some x) (Some y) h = all_back _ ns ms h
texts_back ns ms _ _ h = absurd h

-- each test of a number
eq_alike : (n : ℤ) (x y : Option ℤ) → NumbersAlike (n ∷ next n ∷ []) x y
    → passes (λ z. int_eq z n) x ≡ passes (λ z. int_eq z n) y
eq_alike n None None h = refl
eq_alike n (Some x) (Some y) h = rw (int_eq_by_le x n, int_eq_by_le y n, h.0, h.1.0) refl
eq_alike n _ _ h = absurd h

lt_alike : (n : ℤ) (x y : Option ℤ) → NumbersAlike (n ∷ []) x y
    → passes (λ z. int_lt z n) x ≡ passes (λ z. int_lt z n) y
lt_alike n None None h = refl
lt_alike n (Some x) (Some y) h = rw (int_lt_by_le x n, int_lt_by_le y n, h.0) refl
lt_alike n _ _ h = absurd h

le_alike : (n : ℤ) (x y : Option ℤ) → NumbersAlike (next n ∷ []) x y
    → passes (λ z. int_le z n) x ≡ passes (λ z. int_le z n) y
le_alike n None None h = refl
le_alike n (Some x) (Some y) h = rw (int_le_by_le x n, int_le_by_le y n, h.0) refl
le_alike n _ _ h = absurd h

gt_alike : (n : ℤ) (x y : Option ℤ) → NumbersAlike (next n ∷ []) x y
    → passes (λ z. int_lt n z) x ≡ passes (λ z. int_lt n z) y
gt_alike n None None h = refl
gt_alike n (Some x) (Some y) h = rw (int_gt_by_le x n, int_gt_by_le y n, h.0) refl
gt_alike n _ _ h = absurd h

ge_alike : (n : ℤ) (x y : Option ℤ) → NumbersAlike (n ∷ []) x y
    → passes (λ z. int_le n z) x ≡ passes (λ z. int_le n z) y
ge_alike n None None h = refl
ge_alike n (Some x) (Some y) h = h.0
ge_alike n _ _ h = absurd h

between_alike : (low high : ℤ) (x y : Option ℤ) → NumbersAlike (low ∷ next high ∷ []) x y
    → passes (λ z. int_le low z && int_le z high) x ≡ passes (λ z. int_le low z && int_le z high) y
between_alike low high None None h = refl
between_alike low high (Some x) (Some y) h =
    rw (int_le_by_le x high, int_le_by_le y high, h.0, h.1.0) refl
between_alike low high _ _ h = absurd h

-- and of a text
text_alike : (n : List ℕ) (x y : Option (List ℕ)) → TextsAlike (n ∷ []) x y
    → passes (λ z. bytes_eq z n) x ≡ passes (λ z. bytes_eq z n) y
text_alike n None None h = refl
text_alike n (Some x) (Some y) h = h.0
text_alike n _ _ h = absurd h

both_numbers : (bs : List ℤ) (x y : Option ℤ) → NumbersAlike bs x y → is_some x ≡ is_some y
both_numbers bs None None h = refl
both_numbers bs (Some x) (Some y) h = refl
both_numbers bs _ _ h = absurd h

-- a test is one of its own column
at_own : {A : Type 0} (column : ℕ) (found : List A) → at_column column column found ≡ found
at_own column found = rw (eq-eqb column column refl) refl

own_numbers : (column : ℕ) (bs : List ℤ) (x y : Option ℤ)
    → NumbersAlike (at_column column column bs) x y → NumbersAlike bs x y
own_numbers column bs x y h = subst (λ found. NumbersAlike found x y) (at_own column bs) h

own_texts : (column : ℕ) (ns : List (List ℕ)) (x y : Option (List ℕ))
    → TextsAlike (at_column column column ns) x y → TextsAlike ns x y
own_texts column ns x y h = subst (λ found. TextsAlike found x y) (at_own column ns) h

-- items whose fields no test of a predicate distinguishes are both met by it or neither
pub holds_alike : (pred : Predicate) (x y : List Field) → FieldsAlike pred x y
    → holds pred x ≡ holds pred y
holds_alike any x y h = refl
holds_alike (eq column n) x y h = eq_alike n _ _ (own_numbers column _ _ _ (h column).0)
holds_alike (ne column n) x y h = ap not (eq_alike n _ _ (own_numbers column _ _ _ (h column).0))
holds_alike (lt column n) x y h = lt_alike n _ _ (own_numbers column _ _ _ (h column).0)
holds_alike (le column n) x y h = le_alike n _ _ (own_numbers column _ _ _ (h column).0)
holds_alike (gt column n) x y h = gt_alike n _ _ (own_numbers column _ _ _ (h column).0)
holds_alike (ge column n) x y h = ge_alike n _ _ (own_numbers column _ _ _ (h column).0)
holds_alike (between column low high) x y h =
    between_alike low high _ _ (own_numbers column _ _ _ (h column).0)
holds_alike (eq_text column text) x y h = text_alike text _ _ (own_texts column _ _ _ (h column).1)
holds_alike (ne_text column text) x y h =
    ap not (text_alike text _ _ (own_texts column _ _ _ (h column).1))
holds_alike (is_num column) x y h = both_numbers [] _ _ (h column).0
holds_alike (conjunction first second) x y h = ap₂ (λ a b. a && b)
    (holds_alike first x y
    (λ column. (numbers_front _ _ _ _ (h column).0, texts_front _ _ _ _ (h column).1)))
    (holds_alike second x y
    (λ column. (numbers_back _ _ _ _ (h column).0, texts_back _ _ _ _ (h column).1)))
holds_alike (disjunction first second) x y h = ap₂ (λ a b. a || b)
    (holds_alike first x y
    (λ column. (numbers_front _ _ _ _ (h column).0, texts_front _ _ _ _ (h column).1)))
    (holds_alike second x y
    (λ column. (numbers_back _ _ _ _ (h column).0, texts_back _ _ _ _ (h column).1)))
holds_alike (negation inner) x y h = ap not (holds_alike inner x y h)
