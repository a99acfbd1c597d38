-- The positions of lets, one let after another.
use Rattle.std.proofs.Common.{◌≡◌, ℕ, ◌+◌, ◌<◌, Bool, true, false, cond, List, [], ◌∷◌, ◌++◌}
use Rattle.std.proofs.Common.{length, map, get_or, take, Bor, bytes_eq, Option, Some, None}
use Rattle.std.proofs.Common.{option_copied, unwrap_or, refl, sym, ap, ◌∙◌}
use Rattle.std.specs.Option.{option_map}
use Rattle.std.specs.HashMap as hash
use Rattle.std.specs.HashMap.{HashMap, get_by}
use Rattle.query_syntax.specs.declared.leaf.Name.{Name}
use Rattle.query_syntax.specs.declared.program.Let as raw
use Rattle.query_syntax.specs.declared.query.Query as tree
use Rattle.query_syntax.specs.Plain.{plain_let, plain_query}
use Rattle.query_syntax.specs.Programs.{Let}
use Rattle.query_syntax.specs.Queries as q
use Rattle.query_syntax.specs.Queries.{Query}
use Rattle.query_lets.specs.Unfolded.{Binding, bindings_after, bindings_of, meaning, replaced}
use Rattle.explanation.specs.Counted.{AreCounted}
use Rattle.explanation.specs.Positions.{few_positions}
use Rattle.explanation.proofs.Known.{changed, lets_more}

-- a let and what it stands for
abbrev binding : List Binding → List ℕ → Query → Binding
binding bindings name query = record { name = name; query = replaced bindings query }

-- one let more
bindings_more : (bindings : List Binding) (lets : List Let) (one : Let)
    → bindings_after bindings (lets ++ one ∷ [])
    ≡ binding (bindings_after bindings lets) one.name.bytes one.query ∷ bindings_after bindings lets
bindings_more bindings [] one = refl
bindings_more bindings (first ∷ lets) one =
    bindings_more (binding bindings first.name.bytes first.query ∷ bindings) lets one

-- the bindings of the lets up to one, and that one
bound : (lets : List raw.Let) (at : ℕ) (one : raw.Let) → one ≡ get_or lets at one → at < length lets
    → bindings_of (map plain_let (take (at + 1) lets))
    ≡ binding (bindings_of (map plain_let (take at lets))) one.name.bytes
    (plain_query one.query.value) ∷ bindings_of (map plain_let (take at lets))
bound lets at one is_at within =
    ap bindings_of (lets_more lets at one is_at within)
    ∙ bindings_more [] (map plain_let (take at lets)) (plain_let one)

-- the positions of a choice
mapped : (test : Bool) (query : Query) (rest : Option Query)
    → cond test (Some (few_positions query)) (option_map few_positions rest)
    ≡ option_map few_positions (cond test (Some query) rest)
mapped true query rest = refl
mapped false query rest = refl

-- the map with one let more
pub counted_more : {S : Type 0} (old new : HashMap (Bor (List ℕ)) (Option ℕ) S)
    (lets : List raw.Let) (at : ℕ) (one : raw.Let)
    → one ≡ get_or lets at one → at < length lets → (name : Bor (List ℕ))
    → name.now ≡ one.name.bytes → (count : Option ℕ)
    → count ≡ few_positions (replaced (bindings_of (map plain_let (take at lets)))
    (plain_query one.query.value))
    → AreCounted old (bindings_of (map plain_let (take at lets)))
    → hash.Updates (λ x y. bytes_eq x.now y.now) old new name (Some count)
    → AreCounted new (bindings_of (map plain_let (take (at + 1) lets)))
counted_more old new lets at one is_at within name is_name count is_count are updates = λ other.
    let query = replaced (bindings_of (map plain_let (take at lets)))
    (plain_query one.query.value) in
    changed old new name count updates other
    ∙ ap (λ (n : Option ℕ). cond (bytes_eq other name.now) (Some n)
    (get_by (λ k. bytes_eq other k.now) old))
    is_count
    ∙ ap (cond (bytes_eq other name.now) (Some (few_positions query))) (are other)
    ∙ mapped (bytes_eq other name.now) query
    (meaning (bindings_of (map plain_let (take at lets))) other)
    ∙ ap (λ (n : List ℕ). option_map few_positions
    (cond (bytes_eq other n) (Some query)
    (meaning (bindings_of (map plain_let (take at lets))) other))) is_name
    ∙ sym (ap (λ (l : List Binding). option_map few_positions (meaning l other))
    (bound lets at one is_at within))

-- what a choice has
found_is : (found : Option Query) (other : Query) (count : Option ℕ)
    → Some count ≡ option_map few_positions found → count ≡ few_positions (unwrap_or found other)
found_is None other count is = absurd (cc)
found_is (Some query) other count is = ap (λ n. unwrap_or n count) is

nothing_found : (found : Option Query) (other : Query) → None ≡ option_map few_positions found
    → unwrap_or found other ≡ other
nothing_found None other is = refl
nothing_found (Some query) other is = absurd (cc)

module _ {S : Type 0} (counted : HashMap (Bor (List ℕ)) (Option ℕ) S) (bindings : List Binding)
    (are : AreCounted counted bindings)
    (query : tree.Query) (name : Name) (is_name : query ≡ tree.Name name) (key : Bor (List ℕ))
    (is_key : key.now ≡ name.bytes)
    (found : Option (Bor (Option ℕ)))
    (value : option_copied found ≡ get_by (λ k. bytes_eq key.now k.now) counted) where
  found_here : option_copied found ≡ option_map few_positions (meaning bindings name.bytes)
  found_here = value ∙ are key.now
      ∙ ap (λ (n : List ℕ). option_map few_positions (meaning bindings n)) is_key

  replaced_here : replaced bindings (plain_query query)
      ≡ unwrap_or (meaning bindings name.bytes) (q.name name)
  replaced_here = ap (λ (t : tree.Query). replaced bindings (plain_query t)) is_name

  -- the name of a let
  pub count_found : (count : Bor (Option ℕ)) → found ≡ Some count
      → count.now ≡ few_positions (replaced bindings (plain_query query))
  count_found count is =
      found_is (meaning bindings name.bytes) (q.name name) count.now
      (sym (ap option_copied is) ∙ found_here) ∙ ap few_positions (sym replaced_here)

  -- another name
  pub count_of_name : found ≡ None → Some 0 ≡ few_positions (replaced bindings (plain_query query))
  count_of_name is = ap few_positions (sym (replaced_here
      ∙ nothing_found (meaning bindings name.bytes) (q.name name)
      (sym (ap option_copied is) ∙ found_here)))
