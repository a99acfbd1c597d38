-- The table that runners for keys make.
use Rattle.std.proofs.Common.{append-nil, ◌≤◌, get_or, take_all, ◌≡◌, ◌∙◌, ℕ, ◌+◌, zero, suc, Bool}
use Rattle.std.proofs.Common.{false, cond, List, [], ◌∷◌, ◌++◌, Option, None, Some, length}
use Rattle.std.proofs.Common.{slice_get, take, refl, sym, ap, subst, arith, inl, inr}
use Rattle.std.specs.List.{AllByRecursion, AllZip, IsDistinct, cons_option}
use Rattle.std.specs.Str.{bytes_eq}
use Rattle.std.proofs.lemmas.Map.Keys.{IsDistinct-head, IsDistinct-tail}
use Rattle.std.proofs.lemmas.Option.{none-some, same_Some, slice_get-get_or, slice_get_within}
use Rattle.value_ops.specs.Entries.{value_at}
use Rattle.value_ops.specs.Types.{IsValueOf}
use Rattle.value_ops.specs.declared.scalar.Scalar.{Scalar}
use Rattle.value_ops.specs.declared.value.Value.{Value}
use Rattle.value_ops.specs.declared.value.Value.TheVariants as value
use Rattle.value_ops.specs.declared.value.ValueType.TheVariants.{Number}
use Rattle.predicates.specs.Predicates.{Predicate}
use Rattle.item_schema.specs.declared.column.Column.{Column}
use Rattle.rate_expr.specs.Words.{Word, IsWordOf}
use Rattle.query_model.specs.Denotation.{AreEntries, Den, projection}
use Rattle.query_model.specs.Following.{IsAnswer}
use Rattle.query_model.specs.Queries.{Qre}
use Rattle.query_model.specs.QueryTypes.{type_of}
use Rattle.query_model.specs.Rules.{Standing, IsClear}
use Rattle.query_model.proofs.Keys.{kept_word}
use Rattle.query_model.proofs.Typed.{den_typed, on_keys}
use Rattle.map_collect.specs.Keys.{followers_of, names_of}
use Rattle.map_collect.specs.declared.keys.Keys.{Keys}
use Rattle.eval_nodes.specs.Runners.{FollowsWord}
use Rattle.eval_nodes.specs.Holdings.{Seen}
use Rattle.eval_nodes.proofs.Instances.{all_member}
use Rattle.eval_nodes.proofs.Runners.{take_one}
use Rattle.eval_nodes.proofs.Zips.{read_there}
use Rattle.step_laws.specs.Collects.{IsTableOf}
use Rattle.step_laws.specs.Pushes.{entries_in, entry_with, scalar_of}

-- the entry of a key where its answer is a number, and where it is none
pub entry_some : (key : List ℕ) (answer : Option Value) (scalar : Scalar)
    → scalar_of answer ≡ Some scalar → entry_with key answer ≡ Some (key, scalar)
entry_some key None scalar is = absurd (none-some scalar is)
entry_some key (Some (value.Scalar other)) scalar is =
    ap (λ (s : Scalar). Some (key, s)) (same_Some other scalar is)
entry_some key (Some (value.Rec parts)) scalar is = absurd (none-some scalar is)
entry_some key (Some (value.Table entries)) scalar is = absurd (none-some scalar is)

pub entry_none : (key : List ℕ) (answer : Option Value) → scalar_of answer ≡ None
    → entry_with key answer ≡ None
entry_none key None is = refl
entry_none key (Some (value.Scalar other)) is = absurd (none-some other (sym is))
entry_none key (Some (value.Rec parts)) is = refl
entry_none key (Some (value.Table entries)) is = refl

more_after : {A : Type 0} (o : Option A) (xs ys : List A)
    → cons_option o (xs ++ ys) ≡ cons_option o xs ++ ys
more_after None xs ys = refl
more_after (Some x) xs ys = refl

-- names before an index differ from the one there
names_before : (names : List (List ℕ)) (i : ℕ) (name : List ℕ) → IsDistinct bytes_eq names
    → slice_get names i ≡ Some name
    → AllByRecursion (λ other. bytes_eq other name ≡ false) (take i names)
names_before [] i name distinct at = absurd (none-some name at)
names_before (x ∷ names) zero name distinct at = tt
names_before (x ∷ names) (suc i) name distinct at = (
  all_member (λ other. bytes_eq x other ≡ false) names name
      (IsDistinct-head bytes_eq x names distinct) (read_there names i name at),
  names_before names i name (IsDistinct-tail bytes_eq x names distinct) at,
)

module _ {R : Type 0} (seen : R → Seen R) where
  entries_push : (names : List (List ℕ)) (runners : List R) (name : List ℕ) (runner : R)
      → length names ≡ length runners
      → entries_in seen (names ++ name ∷ []) (runners ++ runner ∷ [])
      ≡ entries_in seen names runners ++ cons_option (entry_with name (seen runner).answer) []
  entries_push [] [] name runner many = refl
  entries_push (x ∷ names) (y ∷ runners) name runner many =
      ap (λ (rest : List (List ℕ × Scalar)). cons_option (entry_with x (seen y).answer) rest)
      (entries_push names runners name runner (omega (arith, many)))
      ∙ more_after (entry_with x (seen y).answer) (entries_in seen names runners)
      (cons_option (entry_with name (seen runner).answer) [])
  entries_push [] (y ∷ runners) name runner many = absurd (omega (arith, many))
  entries_push (x ∷ names) [] name runner many = absurd (omega (arith, many))

  as_many_first : (names : List (List ℕ)) (runners : List R) (i : ℕ) → length names ≡ length runners
      → length (take i names) ≡ length (take i runners)
  as_many_first names runners zero many = refl
  as_many_first [] [] (suc i) many = refl
  as_many_first (x ∷ names) (y ∷ runners) (suc i) many =
      ap suc (as_many_first names runners i (omega (arith, many)))
  as_many_first [] (y ∷ runners) (suc i) many = absurd (omega (arith, many))
  as_many_first (x ∷ names) [] (suc i) many = absurd (omega (arith, many))

  -- the entries of one more key
  pub entries_more : (names : List (List ℕ)) (runners : List R) (i : ℕ) (name : List ℕ) (runner : R)
      → length names ≡ length runners → slice_get names i ≡ Some name
      → slice_get runners i ≡ Some runner
      → entries_in seen (take (i + 1) names) (take (i + 1) runners)
      ≡ entries_in seen (take i names) (take i runners)
      ++ cons_option (entry_with name (seen runner).answer) []
  entries_more names runners i name runner many at beside =
      ap (λ (ns : List (List ℕ)). entries_in seen ns (take (i + 1) runners))
      (take_one names i name at)
      ∙ ap (λ (rs : List R). entries_in seen (take i names ++ name ∷ []) rs)
      (take_one runners i runner beside) ∙ entries_push (take i names) (take i runners) name runner
      (as_many_first names runners i many)

  -- a number is one more entry, and without one there is none
  pub entries_one : (names : List (List ℕ)) (runners : List R) (i : ℕ) (name : List ℕ) (runner : R)
      (scalar : Scalar) → length runners ≡ length names → slice_get names i ≡ Some name
      → slice_get runners i ≡ Some runner → scalar_of (seen runner).answer ≡ Some scalar
      → entries_in seen (take (i + 1) names) (take (i + 1) runners)
      ≡ entries_in seen (take i names) (take i runners) ++ (name, scalar) ∷ []
  entries_one names runners i name runner scalar many at beside is =
      entries_more names runners i name runner (sym many) at beside
      ∙ ap (λ (entry : Option (List ℕ × Scalar)).
      entries_in seen (take i names) (take i runners) ++ cons_option entry [])
      (entry_some name (seen runner).answer scalar is)

  pub entries_same : (names : List (List ℕ)) (runners : List R) (i : ℕ) (runner : R)
      → length runners ≡ length names → slice_get runners i ≡ Some runner
      → scalar_of (seen runner).answer ≡ None
      → entries_in seen (take (i + 1) names) (take (i + 1) runners)
      ≡ entries_in seen (take i names) (take i runners)
  entries_same names runners i runner many beside is =
      let within = slice_get_within runners i runner beside in
      let at = slice_get-get_or names i [] (omega (arith, within, many)) in
      entries_more names runners i (get_or names i []) runner (sym many) at beside
      ∙ ap (λ (entry : Option (List ℕ × Scalar)).
      entries_in seen (take i names) (take i runners) ++ cons_option entry [])
      (entry_none (get_or names i []) (seen runner).answer is)
      ∙ append-nil (entries_in seen (take i names) (take i runners))

  no_entry : (key : List ℕ) (names : List (List ℕ)) (runners : List R)
      → AllByRecursion (λ other. bytes_eq other key ≡ false) names
      → value_at key (entries_in seen names runners) ≡ None
  no_entry key [] [] differ = refl
  no_entry key [] (y ∷ runners) differ = refl
  no_entry key (x ∷ names) [] differ = refl
  no_entry key (x ∷ names) (y ∷ runners) differ =
      by (seen y).answer (no_entry key names runners differ.1)
    where
      by : (answer : Option Value) → value_at key (entries_in seen names runners) ≡ None
          → value_at key (cons_option (entry_with x answer) (entries_in seen names runners)) ≡ None
      by None rest = rest
      by (Some (value.Scalar scalar)) rest =
          ap (λ (b : Bool). cond b (Some scalar) (value_at key (entries_in seen names runners)))
          differ.0 ∙ rest
      by (Some (value.Rec parts)) rest = rest
      by (Some (value.Table entries)) rest = rest

  -- none stands under a key before it is put
  pub absent : (names : List (List ℕ)) (runners : List R) (i : ℕ) (name : List ℕ)
      → IsDistinct bytes_eq names → slice_get names i ≡ Some name
      → value_at name (entries_in seen (take i names) (take i runners)) ≡ None
  absent names runners i name distinct at =
      no_entry name (take i names) (take i runners) (names_before names i name distinct at)

  module _ (standing : Standing) (columns : List Column) (q : Qre) (chosen : List ℕ)
      (sync : Predicate) (word : Word) (clear : IsClear standing columns q)
      (number : type_of columns q ≡ Number) (is : IsWordOf columns word) where
    entries_are : (names : List (List ℕ)) (runners : List R)
        → AllZip (λ key runner. FollowsWord seen columns q (projection chosen sync key word) runner)
        names runners
        → AreEntries (on_keys q chosen sync word) names (entries_in seen names runners)
    entries_are [] [] zip = refl
    entries_are [] (y ∷ runners) zip = absurd zip
    entries_are (x ∷ names) [] zip = absurd zip
    entries_are (x ∷ names) (y ∷ runners) zip =
        by (seen y).answer zip.0.answer (entries_are names runners zip.1)
      where
        is_number : (v : Value) → Den q (projection chosen sync x word) v → IsValueOf Number v
        is_number v den = subst (λ ty. IsValueOf ty v) number
            (den_typed standing columns q (projection chosen sync x word) v clear
            (kept_word columns _ word is) den)

        by : (answer : Option Value) → IsAnswer q (projection chosen sync x word) answer
            → AreEntries (on_keys q chosen sync word) names (entries_in seen names runners)
            → AreEntries (on_keys q chosen sync word) (x ∷ names)
            (cons_option (entry_with x answer) (entries_in seen names runners))
        by None none rest = inr (none, rest)
        by (Some (value.Scalar scalar)) den rest =
            inl (scalar, entries_in seen names runners, den, rest, refl)
        by (Some (value.Rec parts)) den rest = absurd (is_number (value.Rec parts) den)
        by (Some (value.Table entries)) den rest = absurd (is_number (value.Table entries) den)

  -- the entries of all are the table of the word
  pub tabled : (keys : Keys R)
      → IsTableOf seen keys (entries_in seen (names_of keys) (followers_of keys))
  tabled keys = λ standing columns q chosen sync word clear number is stands.
      subst (λ (names : List (List ℕ)).
      AreEntries (on_keys q chosen sync word) names
      (entries_in seen (names_of keys) (followers_of keys))) stands.names
      (entries_are standing columns q chosen sync word clear number is (names_of keys)
      (followers_of keys) stands.each)

  -- and so are those of a number of keys that has all of them
  pub table_whole : (keys : Keys R) (i : ℕ) (table : List (List ℕ × Scalar))
      → table ≡ entries_in seen (take i (names_of keys)) (take i (followers_of keys))
      → length (names_of keys) ≤ i → length (followers_of keys) ≡ length (names_of keys)
      → IsTableOf seen keys table
  table_whole keys i table is all many =
      let same : table ≡ entries_in seen (names_of keys) (followers_of keys) =
      is ∙ ap (λ (names : List (List ℕ)). entries_in seen names (take i (followers_of keys)))
      (take_all i (names_of keys) all)
      ∙ ap (λ (runners : List R). entries_in seen (names_of keys) runners)
      (take_all i (followers_of keys) (omega (arith, all, many))) in
      subst (IsTableOf seen keys) (sym same) (tabled keys)
