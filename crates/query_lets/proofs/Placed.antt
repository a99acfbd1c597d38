-- Lets by their names, and what their names stand for.
use Rattle.std.proofs.Common.{◌≡◌, ℕ, zero, suc, ◌+◌, ◌<◌, ◌≤◌, Bool, true, false, cond, List, []}
use Rattle.std.proofs.Common.{◌∷◌, length, take, Bor, bytes_eq, Option, Some, None, unwrap_or, refl}
use Rattle.std.proofs.Common.{sym, ap, ◌∙◌, slice_get, arith}
use Rattle.std.proofs.lemmas.Bool.{false_from_ne_true}
use Rattle.std.proofs.lemmas.Option.{slice_get_within}
use Rattle.std.specs.Cmp.Lexicographic.{bytes_decides}
use Rattle.std.specs.HashMap.{HashMap, get_by}
use Rattle.query_syntax.specs.declared.leaf.Name.{Name}
use Rattle.query_syntax.specs.Programs.{Let}
use Rattle.query_syntax.specs.Queries as q
use Rattle.query_lets.specs.Places.{ArePlaces, nodes_in_lets, nodes_with}
use Rattle.query_lets.specs.Sizes.{nodes_of}
use Rattle.query_lets.specs.Unfolded.{Binding, bindings_after, bindings_of, meaning, replaced}
use Rattle.query_lets.proofs.Bound.{binding}

-- what is in one place is one thing
one_thing : {X : Type 0} (a b : X) → Some a ≡ Some b → a ≡ b
one_thing a b is = ap (λ o. unwrap_or o a) is

-- what the first of a list has, the list has
pub taken : {X : Type 0} (count : ℕ) (xs : List X) (place : ℕ) (x : X)
    → slice_get (take count xs) place ≡ Some x → slice_get xs place ≡ Some x
taken zero [] place x at = at
taken zero (first ∷ xs) place x at = absurd (cc)
taken (suc count) [] place x at = at
taken (suc count) (first ∷ xs) zero x at = at
taken (suc count) (first ∷ xs) (suc place) x at = taken count xs place x at

-- lets without the name change nothing
absent : (bindings : List Binding) (lets : List Let) (name : List ℕ)
    → ((place : ℕ) (one : Let) → slice_get lets place ≡ Some one
    → bytes_eq name one.name.bytes ≡ false)
    → meaning (bindings_after bindings lets) name ≡ meaning bindings name
absent bindings [] name none = refl
absent bindings (one ∷ lets) name none =
    absent (binding bindings one.name.bytes one.query ∷ bindings) lets name
    (λ place other at. none (suc place) other at)
    ∙ ap (λ (test : Bool). cond test (Some (replaced bindings one.query)) (meaning bindings name))
    (none zero one refl)

-- the name stands for the query of the last let that has it
present : (bindings : List Binding) (lets : List Let) (place : ℕ) (one : Let) (name : List ℕ)
    → slice_get lets place ≡ Some one → bytes_eq name one.name.bytes ≡ true
    → ((later : ℕ) (other : Let) → place < later → slice_get lets later ≡ Some other
    → bytes_eq name other.name.bytes ≡ false)
    → meaning (bindings_after bindings lets) name
    ≡ Some (replaced (bindings_after bindings (take place lets)) one.query)
present bindings [] place one name at same none = absurd (cc)
present bindings (first ∷ lets) zero one name at same none =
    let is : first ≡ one = one_thing first one at in
    absent (binding bindings first.name.bytes first.query ∷ bindings) lets name
    (λ later other found. none (suc later) other (omega arith) found)
    ∙ ap (λ (l : Let). cond (bytes_eq name l.name.bytes) (Some (replaced bindings l.query))
    (meaning bindings name)) is
    ∙ ap (λ (test : Bool). cond test (Some (replaced bindings one.query)) (meaning bindings name))
    same
present bindings (first ∷ lets) (suc place) one name at same none =
    present (binding bindings first.name.bytes first.query ∷ bindings) lets place one name at same
    (λ later other after found. none (suc later) other (omega arith) found)

module _ {S : Type 0} (places : HashMap (Bor (List ℕ)) ℕ S) (lets : List Let)
    (are : ArePlaces places lets) where
  -- the place of a name
  abbrev place_of : List ℕ → Option ℕ
  place_of name = get_by (λ k. bytes_eq name k.now) places

  -- a let of a name is in its place
  found_at : (name : List ℕ) (place : ℕ) (one : Let) → slice_get lets place ≡ Some one
      → bytes_eq name one.name.bytes ≡ true
      → place_of name ≡ Some place
  found_at name place one at same =
      ap place_of ((bytes_decides name one.name.bytes).0 same) ∙ (are place one at).0

  -- a name of a let
  pub placed : (name : List ℕ) (place : ℕ) (one : Let) → place_of name ≡ Some place
      → slice_get lets place ≡ Some one
      → meaning (bindings_of lets) name ≡ Some (replaced (bindings_of (take place lets)) one.query)
  placed name place one is at =
      present [] lets place one name at
      ((bytes_decides name one.name.bytes).1 ((are place one at).1 name is))
      (λ later other after found. false_from_ne_true (bytes_eq name other.name.bytes)
      (λ same. let two : later ≡ place =
      one_thing later place (sym (found_at name later other found same) ∙ is) in
      absurd (omega arith)))

  -- a name of none of them
  pub unplaced : (name : List ℕ)
      → ((place : ℕ) → place_of name ≡ Some place → place < length lets → ⊥)
      → meaning (bindings_of lets) name ≡ None
  unplaced name none =
      absent [] lets name (λ place one at. false_from_ne_true (bytes_eq name one.name.bytes)
      (λ same. none place (found_at name place one at same) (slice_get_within lets place one at)))

-- the nodes of the first lets and of the next are no more than those of all
part_sum : (lets : List Let) (place : ℕ) (one : Let) → slice_get lets place ≡ Some one
    → nodes_in_lets (take place lets) + nodes_of one.query ≤ nodes_in_lets lets
part_sum [] place one at = absurd (cc)
part_sum (first ∷ lets) zero one at =
    let is : nodes_of first.query ≡ nodes_of one.query =
    ap (λ (l : Let). nodes_of l.query) (one_thing first one at) in
    let front : nodes_in_lets (take zero (first ∷ lets)) ≡ 0 = refl in
    let whole : nodes_in_lets (first ∷ lets) ≡ nodes_of first.query + nodes_in_lets lets = refl in
    omega arith
part_sum (first ∷ lets) (suc place) one at =
    let others = part_sum lets place one at in
    let front : nodes_in_lets (take (suc place) (first ∷ lets))
    ≡ nodes_of first.query + nodes_in_lets (take place lets) = refl in
    let whole : nodes_in_lets (first ∷ lets) ≡ nodes_of first.query + nodes_in_lets lets = refl in
    omega arith

-- a let's query has, with those before it, no more nodes than a name of it
pub fewer : (lets : List Let) (place : ℕ) (one : Let)
    → slice_get lets place ≡ Some one → (name : Name)
    → nodes_with (take place lets) one.query ≤ nodes_with lets (q.name name)
fewer lets place one at name =
    let part = part_sum lets place one at in
    let here : nodes_with (take place lets) one.query
    ≡ nodes_in_lets (take place lets) + nodes_of one.query =
    refl in
    let all : nodes_with lets (q.name name) ≡ nodes_in_lets lets + 1 = refl in
    omega arith
