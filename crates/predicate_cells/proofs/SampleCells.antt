-- The samples of the cells: where they stand, and what a test of one column says of them.
use Rattle.std.proofs.Common.{◌≡◌, ℕ, zero, suc, ◌+◌, ◌*◌, ◌<◌, ◌≤◌, Bool, List, [], ◌∷◌, ◌++◌, map}
use Rattle.std.proofs.Common.{length, drop, take, replicate, Option, None, Some, refl, sym, ap, ap₂}
use Rattle.std.proofs.Common.{◌∙◌, append_assoc, append-nil, arith}
use Rattle.std.specs.Prelude.{slice_get}
use Rattle.std.specs.List.{flat_map, range_with_len, repeat}
use Rattle.std.proofs.lemmas.List.{length-map, length-append, map-append}
use Rattle.std.proofs.lemmas.List.{replicate-append-replicate}
use Rattle.std.proofs.lemmas.List.Folds.{flat_map-map}
use Rattle.std.proofs.Math.Nat.{zero-add, suc-add, zero-mul}
use Rattle.value_ops.specs.declared.field.Field.{Field}
use Rattle.predicate_cells.specs.Ranks.{Ranks, count_in, class_in, field_in, cells_in, cell_in}
use Rattle.predicate_cells.specs.Samples.{samples, with_class}
use Rattle.predicate_cells.proofs.RanksBelow.{rank_below, cell_in_below}

module _ {A B : Type 0} where
  flat_map-same : (f g : A → List B) → ((x : A) → f x ≡ g x) → (xs : List A)
      → flat_map f xs ≡ flat_map g xs
  flat_map-same f g same [] = refl
  flat_map-same f g same (x ∷ xs) = ap₂ (λ ys zs. ys ++ zs) (same x) (flat_map-same f g same xs)

  map-flat_map : {C : Type 0} (g : B → C) (f : A → List B) (xs : List A)
      → map g (flat_map f xs) ≡ flat_map (λ x. map g (f x)) xs
  map-flat_map g f [] = refl
  map-flat_map g f (x ∷ xs) =
      map-append g (f x) (flat_map f xs) ∙ ap (λ ys. map g (f x) ++ ys) (map-flat_map g f xs)

  pub map-map : {C : Type 0} (g : B → C) (f : A → B) (xs : List A)
      → map g (map f xs) ≡ map (λ x. g (f x)) xs
  map-map g f [] = refl
  map-map g f (x ∷ xs) = ap (λ ys. g (f x) ∷ ys) (map-map g f xs)

  pub map_constant : (y : B) (xs : List A) → map (λ x. y) xs ≡ replicate (length xs) y
  map_constant y [] = refl
  map_constant y (x ∷ xs) = ap (λ ys. y ∷ ys) (map_constant y xs)

flat_map_constant : {A : Type 0} (ys : List A) (a n : ℕ)
    → flat_map (λ x. ys) (range_with_len a n) ≡ repeat n ys
flat_map_constant ys a zero = refl
flat_map_constant ys a (suc n) = ap (λ zs. ys ++ zs) (flat_map_constant ys (a + 1) n)

repeat-append : {A : Type 0} (m n : ℕ) (ys : List A)
    → repeat (m + n) ys ≡ repeat m ys ++ repeat n ys
repeat-append zero n ys = rw zero-add refl
repeat-append (suc m) n ys = rw suc-add
    (ap (λ zs. ys ++ zs) (repeat-append m n ys) ∙ sym (append_assoc ys (repeat m ys) (repeat n ys)))

repeat-repeat : {A : Type 0} (n m : ℕ) (ys : List A) → repeat n (repeat m ys) ≡ repeat (n * m) ys
repeat-repeat zero m ys = rw zero-mul refl
repeat-repeat (suc n) m ys =
    let product : suc n * m ≡ m + n * m = omega arith in
    rw product
    (ap (λ zs. repeat m ys ++ zs) (repeat-repeat n m ys) ∙ sym (repeat-append m (n * m) ys))

repeat-replicate : {A : Type 0} (n m : ℕ) (y : A) → repeat n (replicate m y) ≡ replicate (n * m) y
repeat-replicate zero m y = rw zero-mul refl
repeat-replicate (suc n) m y =
    let product : suc n * m ≡ m + n * m = omega arith in
    rw product (ap (λ zs. replicate m y ++ zs) (repeat-replicate n m y)
    ∙ replicate-append-replicate m (n * m) y)

-- an item for each cell
length_blocks : {A : Type 0} (f : ℕ → List A) (width : ℕ) → ((class : ℕ) → length (f class) ≡ width)
    → (a n : ℕ) → length (flat_map f (range_with_len a n)) ≡ n * width
length_blocks f width each a zero = omega arith
length_blocks f width each a (suc n) =
    length-append (f a) (flat_map f (range_with_len (a + 1) n))
    ∙ rw (each a, length_blocks f width each (a + 1) n) (omega arith)

pub length_samples : (columns : List Ranks) → length (samples columns) ≡ cells_in columns
length_samples [] = refl
length_samples (ranks ∷ others) =
    length_blocks (with_class ranks (samples others)) (cells_in others)
    (λ class. length-map (samples others) _ ∙ length_samples others) 0 (count_in ranks)

-- what a test of one column says of the samples, column by column
module _ (test : Option Field → Bool) where
  pub column_truths : (columns : List Ranks) (column : ℕ) (ranks : Ranks)
      → slice_get columns column ≡ Some ranks
      → map (λ item. test (slice_get item column)) (samples columns)
      ≡ repeat (cells_in (take column columns))
      (flat_map (λ truth. replicate (cells_in (drop (suc column) columns)) truth)
      (map (λ class. test (Some (field_in ranks class))) (range_with_len 0 (count_in ranks))))
  column_truths [] column ranks is = absurd cc
  column_truths (first ∷ others) zero ranks is =
      let same : first ≡ ranks = cc in
      let truth = λ (class : ℕ). test (Some (field_in ranks class)) in
      let width = λ (b : Bool). replicate (cells_in others) b in
      rw same
      (map-flat_map (λ item. test (slice_get item 0)) (with_class ranks (samples others))
      (range_with_len 0 (count_in ranks)) ∙ flat_map-same _ (λ class. width (truth class))
      (λ class. map-map _ _ (samples others) ∙ map_constant (truth class) (samples others)
      ∙ ap (λ n. replicate n (truth class)) (length_samples others))
      (range_with_len 0 (count_in ranks))
      ∙ sym (flat_map-map width truth (range_with_len 0 (count_in ranks)))
      ∙ sym (append-nil _))
  column_truths (first ∷ others) (suc column) ranks is =
      let classes = range_with_len 0 (count_in first) in
      map-flat_map (λ item. test (slice_get item (suc column)))
      (with_class first (samples others)) classes
      ∙ flat_map-same _ (λ class. map (λ item. test (slice_get item column)) (samples others))
      (λ class. map-map _ _ (samples others)) classes ∙ flat_map_constant _ 0 (count_in first)
      ∙ ap (repeat (count_in first)) (column_truths others column ranks is)
      ∙ repeat-repeat (count_in first) (cells_in (take column others)) _

  -- and where there is no such column
  pub no_truths : (columns : List Ranks) (column : ℕ) → length columns ≤ column
      → map (λ item. test (slice_get item column)) (samples columns)
      ≡ replicate (cells_in columns) (test None)
  no_truths [] column above = refl
  no_truths (first ∷ others) zero above = absurd (omega arith)
  no_truths (first ∷ others) (suc column) above =
      let classes = range_with_len 0 (count_in first) in
      map-flat_map (λ item. test (slice_get item (suc column)))
      (with_class first (samples others)) classes
      ∙ flat_map-same _ (λ class. map (λ item. test (slice_get item column)) (samples others))
      (λ class. map-map _ _ (samples others)) classes ∙ flat_map_constant _ 0 (count_in first)
      ∙ ap (repeat (count_in first)) (no_truths others column (omega arith))
      ∙ repeat-replicate (count_in first) (cells_in others) (test None)

slice_get-append_left : {A : Type 0} (xs ys : List A) (i : ℕ) → i < length xs
    → slice_get (xs ++ ys) i ≡ slice_get xs i
slice_get-append_left [] ys i lt = absurd (omega arith)
slice_get-append_left (x ∷ xs) ys zero lt = refl
slice_get-append_left (x ∷ xs) ys (suc i) lt = slice_get-append_left xs ys i (omega arith)

slice_get-append_add : {A : Type 0} (xs ys : List A) (i : ℕ)
    → slice_get (xs ++ ys) (length xs + i) ≡ slice_get ys i
slice_get-append_add [] ys i = rw zero-add refl
slice_get-append_add (x ∷ xs) ys i = rw suc-add (slice_get-append_add xs ys i)

-- an element of blocks of one width
slice_get_block : {A : Type 0} (f : ℕ → List A) (width : ℕ)
    → ((class : ℕ) → length (f class) ≡ width) → (a n class i : ℕ) → class < n → i < width
    → slice_get (flat_map f (range_with_len a n)) (class * width + i) ≡ slice_get (f (a + class)) i
slice_get_block f width each a zero class i lt below = absurd (omega arith)
slice_get_block f width each a (suc n) zero i lt below =
    let first : 0 * width + i ≡ i = omega arith in
    let here : a + 0 ≡ a = omega arith in
    rw (first, here) (slice_get-append_left (f a) _ i (omega (arith, each a)))
slice_get_block f width each a (suc n) (suc class) i lt below =
    let later : suc class * width + i ≡ length (f a) + (class * width + i) =
    omega (arith, each a) in
    let next : a + suc class ≡ a + 1 + class = omega arith in
    rw (later, next)
    (slice_get-append_add (f a) (flat_map f (range_with_len (a + 1) n)) (class * width + i)
    ∙ slice_get_block f width each (a + 1) n class i (omega arith) below)

-- the sample in place of an item
abbrev pub sample_for : List Ranks → List Field → List Field
sample_for (ranks ∷ others) (field ∷ fields) =
    field_in ranks (class_in ranks field) ∷ sample_for others fields
sample_for _ _ = []

-- stands at its cell
pub sample_at : {A : Type 0} (columns : List Ranks) (item : List Field)
    → length item ≡ length columns → (g : List Field → A)
    → slice_get (map g (samples columns)) (cell_in columns item)
    ≡ Some (g (sample_for columns item))
sample_at [] [] e g = refl
sample_at [] (f ∷ fs) e g = absurd (omega arith)
sample_at (ranks ∷ others) [] e g = absurd (omega arith)
sample_at (ranks ∷ others) (f ∷ fs) e g =
    let class = class_in ranks f in
    let blocks = λ (class : ℕ). map g (with_class ranks (samples others) class) in
    let wide = λ (class : ℕ). length-map (with_class ranks (samples others) class) g
    ∙ length-map (samples others) _ ∙ length_samples others in
    let here : 0 + class ≡ class = omega arith in
    rw (map-flat_map g (with_class ranks (samples others)) (range_with_len 0 (count_in ranks)))
    (slice_get_block blocks (cells_in others) wide 0 (count_in ranks) class (cell_in others fs)
    (rank_below ranks.starts ranks.texts ranks.kind f) (cell_in_below others fs)
    ∙ rw (here, map-map g (λ fields. field_in ranks class ∷ fields) (samples others))
    (sample_at others fs (omega arith) (λ fields. g (field_in ranks class ∷ fields))))
