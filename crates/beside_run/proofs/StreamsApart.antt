-- The first stream that is another than the first one.
use Rattle.std.proofs.Common.{◌≡◌, ◌↔◌, ◌+◌, ◌-◌, ◌<◌, ◌≤◌, ℕ, zero, suc, Bool, IsTrue, List, []}
use Rattle.std.proofs.Common.{◌∷◌, ◌++◌, get_or, drop, take, length, min, nat_eq, refl, sym, ap}
use Rattle.std.proofs.Common.{subst}
use Rattle.std.proofs.Common.{◌∙◌, arith, eq-eqb}
use Rattle.std.specs.List.{AllByRecursion, AllZip, each_same}
use Rattle.std.specs.Prelude.{Box}
use Rattle.std.specs.declared.alloc.Global.{Global}
use Rattle.std.proofs.lemmas.Bool.{eqb-true}
use Rattle.std.proofs.Math.Seq.{take-length}
use Rattle.std.proofs.lemmas.List.{drop_all}
use Rattle.item_schema.specs.Layout.{Layout}
use Rattle.item_schema.specs.declared.column.Column.{Column}
use Rattle.query_model.specs.Checked.{CheckedQuery}
use Rattle.beside_run.specs.Call.{streams_of}
use Rattle.beside_run.specs.Compiling.{monitors_of}
use Rattle.beside_run.specs.Streams.{AreOneStream, IsFirstOther}

-- lists that are zipped are equally long
zip_length : {A B : Type 0} (R : A → B → Type 0) (xs : List A) (ys : List B) → AllZip R xs ys
    → length xs ≡ length ys
zip_length R [] [] all = refl
zip_length R [] (y ∷ ys) all = absurd all
zip_length R (x ∷ xs) [] all = absurd all
zip_length R (x ∷ xs) (y ∷ ys) all = ap suc (zip_length R xs ys all.1)

-- where each before the shorter list's end is zipped, all are if there are as many of both
pub zip_by_length : {A B : Type 0} (R : A → B → Type 0) (xs : List A) (ys : List B) (n : ℕ)
    → n ≡ min (length xs) (length ys)
    → (AllZip R (drop n xs) (drop n ys) ↔ AllZip R xs ys)
    → IsTrue (nat_eq (length xs) (length ys)) ↔ AllZip R xs ys
zip_by_length R xs ys n count left = (
  λ same.
      let sizes : length xs ≡ length ys = eqb-true _ _ same in
      left.0 (rw (drop_all n xs (omega arith), drop_all n ys (omega arith)) tt),
  λ all. eq-eqb _ _ (zip_length R xs ys all),
)

-- the queries
abbrev pub Queries : Type 0
Queries = List (Box CheckedQuery Global)

-- the stream of each is this one
abbrev pub AreOf : Layout → Queries → Type 0
AreOf stream queries = AllByRecursion (λ query. query.value.layout ≡ stream) queries

-- all are
pub all_of : (stream : Layout) (queries : Queries) (k : ℕ) → AreOf stream (take k queries)
    → k ≡ length queries → AllByRecursion (λ s. s ≡ stream) (streams_of (monitors_of queries))
all_of stream [] k are all = tt
all_of stream (query ∷ queries) zero are all = absurd (omega (arith, all))
all_of stream (query ∷ queries) (suc k) are all =
    (are.0, all_of stream queries k are.1 (omega (arith, all)))

-- the streams up to one that is another
record Apart (stream : Layout) (streams : List Layout) (k : ℕ) : Type 0 where
  same : List Layout
  other : Layout
  others : List Layout
  parts : streams ≡ same ++ other ∷ others
  are_same : AllByRecursion (λ s. s ≡ stream) same
  differs : other ≡ stream → ⊥
  many : length same ≡ k

apart_at : (stream : Layout) (queries : Queries) (k : ℕ) (d : Box CheckedQuery Global)
    → AreOf stream (take k queries) → k < length queries
    → ((get_or queries k d).value.layout ≡ stream → ⊥)
    → Apart stream (streams_of (monitors_of queries)) k
apart_at stream [] k d are inside differs = absurd (omega (arith, inside))
apart_at stream (query ∷ queries) zero d are inside differs = record {
  same = [];
  other = query.value.layout;
  others = streams_of (monitors_of queries);
  parts = refl;
  are_same = tt;
  differs = differs;
  many = refl;
}
apart_at stream (query ∷ queries) (suc k) d are inside differs =
    let rest = apart_at stream queries k d are.1 (omega (arith, inside)) differs in
    record {
      same = query.value.layout ∷ rest.same;
      other = rest.other;
      others = rest.others;
      parts = ap (λ (l : List Layout). query.value.layout ∷ l) rest.parts;
      are_same = (are.0, rest.are_same);
      differs = rest.differs;
      many = ap suc rest.many;
    }

pub other_at : (first : Box CheckedQuery Global) (others : Queries) (k : ℕ)
    (d : Box CheckedQuery Global) → AreOf first.value.layout (take k others) → k < length others
    → ((get_or others k d).value.layout ≡ first.value.layout → ⊥)
    → IsFirstOther (streams_of (monitors_of (first ∷ others))) (k + 2)
other_at first others k d are inside differs =
    let apart = apart_at first.value.layout others k d are inside differs in
    record {
      first = first.value.layout;
      same = apart.same;
      other = apart.other;
      others = apart.others;
      parts = ap (λ (l : List Layout). first.value.layout ∷ l) apart.parts;
      are_same = apart.are_same;
      differs = apart.differs;
      number_is = ap (λ (n : ℕ). n + 2) (sym apart.many);
    }

-- columns that are the same where a header is the same make the same stream
pub same_layout : (one other : Layout) (same : Bool) → one.has_header ≡ other.has_header
    → (IsTrue same ↔ AllZip (λ a b. b ≡ a) one.columns other.columns)
    → (IsTrue same ↔ (other ≡ one))
same_layout one other same header are = (
  λ is.
      let columns = each_same one.columns other.columns (are.0 is) in
      ap (λ (h : Bool). record { has_header = h; columns = other.columns }) (sym header)
      ∙ ap (λ (cs : List Column). record { has_header = one.has_header; columns = cs }) columns,
  λ is. are.1 (all_zip one.columns other.columns (ap (λ (l : Layout). l.columns) is)),
)
  where
    zipped : (columns : List Column) → AllZip (λ a b. b ≡ a) columns columns
    zipped [] = tt
    zipped (column ∷ columns) = (refl, zipped columns)

    all_zip : (some others : List Column) → others ≡ some
        → AllZip (λ a b. b ≡ a) some others
    all_zip some others is =
        subst (λ (os : List Column). AllZip (λ a b. b ≡ a) some os) (sym is) (zipped some)

-- a list of at least one begins with its first
parts_first : (queries : Queries) (d : Box CheckedQuery Global) → 1 ≤ length queries
    → queries ≡ get_or queries 0 d ∷ take (length queries - 1) (drop 1 queries)
parts_first [] d some = absurd (omega (arith, some))
parts_first (query ∷ queries) d some =
    let less : length (query ∷ queries) - 1 ≡ length queries = omega arith in
    ap (λ (qs : Queries). query ∷ qs)
    (sym (ap (λ (n : ℕ). take n queries) less ∙ take-length queries))

-- the queries after the first one
abbrev pub after_first : Queries → Queries
after_first queries = take (length queries - 1) (drop 1 queries)

pub other_in : (queries : Queries) (first d : Box CheckedQuery Global) (k : ℕ)
    → first ≡ get_or queries 0 first → 1 ≤ length queries
    → AreOf first.value.layout (take k (after_first queries)) → k < length (after_first queries)
    → ((get_or (after_first queries) k d).value.layout ≡ first.value.layout → ⊥)
    → IsFirstOther (streams_of (monitors_of queries)) (k + 2)
other_in queries first d k is some are inside differs =
    subst (λ (qs : Queries). IsFirstOther (streams_of (monitors_of qs)) (k + 2))
    (sym (parts_first queries first some
    ∙ ap (λ (f : Box CheckedQuery Global). f ∷ after_first queries) (sym is)))
    (other_at first (after_first queries) k d are inside differs)

pub none_in : (queries : Queries) (first : Box CheckedQuery Global) (k : ℕ)
    → first ≡ get_or queries 0 first → 1 ≤ length queries
    → AreOf first.value.layout (take k (after_first queries))
    → length (after_first queries) ≡ k → AreOneStream (streams_of (monitors_of queries))
none_in queries first k is some are all =
    subst (λ (qs : Queries). AreOneStream (streams_of (monitors_of qs)))
    (sym (parts_first queries first some
    ∙ ap (λ (f : Box CheckedQuery Global). f ∷ after_first queries) (sym is)))
    (all_of first.value.layout (after_first queries) k are (sym all))
