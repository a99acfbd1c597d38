-- More items, and more lists of columns, have no fewer keys.
use Rattle.std.proofs.Common.{◌≡◌, ◌≤◌, ◌∙◌, ℕ, zero, suc, max, true, List, [], ◌∷◌, ◌++◌, map}
use Rattle.std.proofs.Common.{flat_map, refl, sym, ap, subst, arith, ◌⊎◌, inl, inr}
use Rattle.std.specs.List.{Contains}
use Rattle.std.specs.Set.{distinct_count, is_member}
use Rattle.std.proofs.lemmas.Bool.{true≢false}
use Rattle.std.proofs.lemmas.List.Elements.{Contains-append_left, Contains-append_right}
use Rattle.std.proofs.lemmas.List.Folds.{list_any-append}
use Rattle.value_ops.specs.declared.field.Field.{Field}
use Rattle.rate_expr.specs.Words.{Word}
use Rattle.query_model.specs.Keys.{key_of}
use Rattle.query_model.specs.Queries.{Qre}
use Rattle.memory_bound.specs.KeysMet.{Key, entries_in, greatest, is_same, key_columns, keys_among}
use Rattle.memory_bound.specs.KeysMet.{keys_in, keys_met, most_entries}
use Rattle.memory_bound.proofs.KeysOnce.{count_mono, either, or_first, or_second}

pub first_member : {A : Type 0} (x : A) (xs : List A) → Contains (x ∷ xs) x
first_member x xs = (0, omega arith, refl)

pub later_member : {A : Type 0} (x y : A) (xs : List A) → Contains xs y → Contains (x ∷ xs) y
later_member x y xs (k, below, is) = (suc k, omega (arith, below), is)

pub member_cases : {A : Type 0} (x y : A) (xs : List A) → Contains (x ∷ xs) y
    → (x ≡ y) ⊎ Contains xs y
member_cases x y xs (zero, below, is) = inl is
member_cases x y xs (suc k, below, is) = inr (k, omega (arith, below), is)

pub no_member : {A : Type 0} (x : A) → Contains [] x → ⊥
no_member x (k, below, is) = absurd (omega (arith, below))

-- all of one list are in the other
pub record AreAmong {A : Type 0} (all others : List A) : Type 0 where
  pub each : (x : A) → Contains all x → Contains others x

-- the key is that of one of the items for one of the lists
pub record IsMet (lists : List (List ℕ)) (word : Word) (key : Key) : Type 0 where
  pub chosen : List ℕ
  pub item : List Field
  pub in_columns : Contains lists chosen
  pub in_word : Contains word item
  pub same : is_same key (record { columns = chosen; text = key_of chosen item }) ≡ true

-- that of the item for one of the lists
in_item : (lists : List (List ℕ)) (item : List Field) (key : Key)
    → is_member is_same (keys_in lists item) key ≡ true → (chosen : List ℕ) × Contains lists chosen
    × (is_same key (record { columns = chosen; text = key_of chosen item }) ≡ true)
in_item [] item key there = absurd (true≢false (sym there))
in_item (chosen ∷ lists) item key there =
    elim (either (is_same key (record { columns = chosen; text = key_of chosen item }))
    (is_member is_same (keys_in lists item) key) there) [
      | inl same ↦ (chosen, first_member chosen lists, same)
      | inr later ↦ let (other, among, same) = in_item lists item key later in
          (other, later_member chosen other lists among, same)
    ]

item_in : (lists : List (List ℕ)) (item : List Field) (key : Key) (chosen : List ℕ)
    → Contains lists chosen
    → is_same key (record { columns = chosen; text = key_of chosen item }) ≡ true
    → is_member is_same (keys_in lists item) key ≡ true
item_in [] item key chosen there same = absurd (no_member chosen there)
item_in (x ∷ lists) item key chosen there same =
    elim (member_cases x chosen lists there) [
      | inl is ↦ or_first (is_same key (record { columns = x; text = key_of x item }))
          (is_member is_same (keys_in lists item) key)
          (subst (λ c. is_same key (record { columns = c; text = key_of c item }) ≡ true) (sym is)
          same)
      | inr later ↦ or_second (is_same key (record { columns = x; text = key_of x item }))
          (is_member is_same (keys_in lists item) key)
          (item_in lists item key chosen later same)
    ]

pub met : (lists : List (List ℕ)) (word : Word) (key : Key)
    → is_member is_same (keys_among lists word) key ≡ true → IsMet lists word key
met lists [] key there = absurd (true≢false (sym there))
met lists (item ∷ word) key there =
    elim (either (is_member is_same (keys_in lists item) key)
    (is_member is_same (keys_among lists word) key)
    (sym (list_any-append (is_same key) (keys_in lists item) (keys_among lists word))
    ∙ there)) [
      | inl here ↦ let (chosen, among, same) = in_item lists item key here in record {
        chosen = chosen;
        item = item;
        in_columns = among;
        in_word = first_member item word;
        same = same;
      }
      | inr later ↦ let rest = met lists word key later in record {
        chosen = rest.chosen;
        item = rest.item;
        in_columns = rest.in_columns;
        in_word = later_member item rest.item word rest.in_word;
        same = rest.same;
      }
    ]

pub met_among : (lists : List (List ℕ)) (word : Word) (key : Key) → IsMet lists word key
    → is_member is_same (keys_among lists word) key ≡ true
met_among lists [] key is = absurd (no_member is.item is.in_word)
met_among lists (item ∷ word) key is =
    list_any-append (is_same key) (keys_in lists item) (keys_among lists word)
    ∙ elim (member_cases item is.item word is.in_word) [
      | inl same ↦ or_first (is_member is_same (keys_in lists item) key)
          (is_member is_same (keys_among lists word) key)
          (item_in lists item key is.chosen is.in_columns
          (subst (λ (x : List Field).
          is_same key (record { columns = is.chosen; text = key_of is.chosen x }) ≡ true)
          (sym same) is.same))
      | inr later ↦ or_second (is_member is_same (keys_in lists item) key)
          (is_member is_same (keys_among lists word) key)
          (met_among lists word key (record {
            chosen = is.chosen;
            item = is.item;
            in_columns = is.in_columns;
            in_word = later;
            same = is.same;
          }))
    ]

pub more_keys : (lists others : List (List ℕ)) (u w : Word) → AreAmong lists others → AreAmong u w
    → distinct_count is_same (keys_among lists u) ≤ distinct_count is_same (keys_among others w)
more_keys lists others u w fewer shorter =
    count_mono (keys_among lists u) (keys_among others w) (λ key there.
    let is = met lists u key there in met_among others w key (record {
      chosen = is.chosen;
      item = is.item;
      in_columns = fewer.each is.chosen is.in_columns;
      in_word = shorter.each is.item is.in_word;
      same = is.same;
    }))

-- the greatest of two lists
greatest_join : (xs ys : List ℕ) → greatest (xs ++ ys) ≡ max (greatest xs) (greatest ys)
greatest_join [] ys = omega arith
greatest_join (x ∷ xs) ys = let rest = greatest_join xs ys in omega (arith, rest)

-- the entries of the greatest table of an item
abbrev pub of_item : List Field → ℕ
of_item item = greatest (map entries_in item)

pub entries_cons : (item : List Field) (word : Word)
    → most_entries (item ∷ word) ≡ max (of_item item) (most_entries word)
entries_cons item word = greatest_join (map entries_in item) (flat_map (map entries_in) word)

pub entries_join : (u w : Word) → most_entries (u ++ w) ≡ max (most_entries u) (most_entries w)
entries_join [] w = omega arith
entries_join (item ∷ u) w =
    let first = entries_cons item (u ++ w) in
    let before = entries_cons item u in
    let rest = entries_join u w in
    omega (arith, first, before, rest)

pub item_entries : (word : Word) (item : List Field) → Contains word item
    → of_item item ≤ most_entries word
item_entries [] item there = absurd (no_member item there)
item_entries (x ∷ word) item there =
    let whole = entries_cons x word in
    elim (member_cases x item word there) [
      | inl same ↦ let is = ap of_item same in omega (arith, whole, is)
      | inr later ↦ let rest = item_entries word item later in omega (arith, whole, rest)
    ]

pub entries_below : (word : Word) (n : ℕ)
    → ((item : List Field) → Contains word item → of_item item ≤ n) → most_entries word ≤ n
entries_below [] n each = omega arith
entries_below (item ∷ word) n each =
    let whole = entries_cons item word in
    let first = each item (first_member item word) in
    let rest = entries_below word n (λ x there. each x (later_member item x word there)) in
    omega (arith, whole, first, rest)

pub more_entries : (u w : Word) → AreAmong u w → most_entries u ≤ most_entries w
more_entries u w shorter =
    entries_below u (most_entries w) (λ item there. item_entries w item (shorter.each item there))

-- of a part of the query, and of items that are among others
pub keys_mono : (f q : Qre) (u w : Word) → AreAmong (key_columns f) (key_columns q) → AreAmong u w
    → keys_met f u ≤ keys_met q w
keys_mono f q u w fewer shorter =
    let keys = more_keys (key_columns f) (key_columns q) u w fewer shorter in
    let entries = more_entries u w shorter in
    omega (arith, keys, entries)

pub among_all : {A : Type 0} (xs : List A) → AreAmong xs xs
among_all xs = record { each = λ x there. there }

pub among_first : {A : Type 0} (xs ys : List A) → AreAmong xs (xs ++ ys)
among_first xs ys = record { each = λ x there. Contains-append_left xs ys x there }

pub among_second : {A : Type 0} (xs ys : List A) → AreAmong ys (xs ++ ys)
among_second xs ys = record { each = λ x there. Contains-append_right xs ys x there }
