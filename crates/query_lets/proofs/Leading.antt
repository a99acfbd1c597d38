-- From the name of a let to its query, and the lets before it.
use Rattle.std.proofs.Common.{◌≡◌, ℕ, ◌<◌, ◌≤◌, List, length, map, take, Bor, Some, None, unwrap_or}
use Rattle.std.proofs.Common.{option_map, refl, sym, ap, subst, ◌∙◌, slice_get, arith}
use Rattle.std.proofs.lemmas.List.{length-map}
use Rattle.std.proofs.lemmas.Option.{none-some, same_Some, slice_get-map}
use Rattle.std.specs.HashMap.{HashMap}
use Rattle.std.specs.List.{take-map}
use Rattle.query_syntax.specs.declared.leaf.Name.{Name}
use Rattle.query_syntax.specs.declared.program.Let as raw
use Rattle.query_syntax.specs.Plain.{plain_let, plain_query}
use Rattle.query_syntax.specs.Queries as q
use Rattle.query_syntax.specs.Queries.{Query}
use Rattle.query_lets.specs.declared.scope.Scope.{Scope}
use Rattle.query_lets.specs.Places.{ArePlaces, IsPlaced, IsRoot, Leads, lets_of, nodes_with}
use Rattle.query_lets.specs.Places.{query_of}
use Rattle.query_lets.specs.Unfolded.{bindings_of, meaning, replaced}
use Rattle.query_lets.proofs.Building.{place_of}
use Rattle.query_lets.proofs.Placed.{fewer, placed, taken, unplaced}

-- the name that a query is
abbrev name_in : Name → Query → Name
name_in other (q.name name) = name
name_in other query = other

module _ {S : Type 0} (places : HashMap (Bor (List ℕ)) ℕ S) (from : Scope)
    (are : ArePlaces places (lets_of from)) (name : Name)
    (is_name : query_of from ≡ q.name name) where
  -- a name of one of the lets
  module _ (place : ℕ) (found : place_of places name.bytes ≡ Some place) (one : raw.Let)
      (at : slice_get from.lets.now place ≡ Some one) (to : Scope)
      (lets : to.lets.now ≡ take place from.lets.now) (query : to.query.now ≡ one.query.value) where
    lets_is : lets_of to ≡ take place (lets_of from)
    lets_is = ap (map plain_let) lets ∙ sym (take-map plain_let place from.lets.now)

    there : slice_get (lets_of from) place ≡ Some (plain_let one)
    there = slice_get-map plain_let from.lets.now place ∙ ap (option_map plain_let) at

    same_query : replaced (bindings_of (lets_of to)) (query_of to)
        ≡ replaced (bindings_of (lets_of from)) (query_of from)
    same_query =
        ap (λ l. replaced (bindings_of l) (query_of to)) lets_is
        ∙ ap (λ r. replaced (bindings_of (take place (lets_of from))) (plain_query r)) query
        ∙ sym (ap (λ o. unwrap_or o (q.name name))
        (placed places (lets_of from) are name.bytes place (plain_let one) found there))
        ∙ sym (ap (replaced (bindings_of (lets_of from))) is_name)

    fewer_nodes : nodes_with (lets_of to) (query_of to) ≤ nodes_with (lets_of from) (query_of from)
    fewer_nodes =
        let less = fewer (lets_of from) place (plain_let one) there name in
        rw (lets_is, is_name, query) less

    pub leads : to.places ≡ from.places → Leads from to
    leads places_are = record {
      before = λ k x here. taken place (lets_of from) k x
          (subst (λ l. slice_get l k ≡ Some x) lets_is here);
      places = places_are;
      same = same_query;
      fewer = fewer_nodes;
    }

  -- a name of none of them
  pub is_root :
      ((place : ℕ) → place_of places name.bytes ≡ Some place → place < length from.lets.now → ⊥)
      → IsRoot from
  is_root none = λ other is.
      let same : name ≡ other = ap (name_in name) (sym is_name ∙ is) in
      subst (λ (n : Name). meaning (bindings_of (lets_of from)) n.bytes ≡ None) same
      (unplaced places (lets_of from) are name.bytes (λ place found within.
      let long = length-map from.lets.now plain_let in none place found (omega arith)))

  -- no let has the name
  pub no_place : place_of places name.bytes ≡ None → IsRoot from
  no_place none = is_root (λ place found within. none-some place (sym none ∙ found))

  -- its place is after these
  pub place_after : (place : ℕ) → place_of places name.bytes ≡ Some place
      → length from.lets.now ≤ place → IsRoot from
  place_after place found after = is_root (λ other there within.
      let same : other ≡ place = same_Some other place (sym there ∙ found) in omega arith)

-- a scope leads to itself
pub leads_self : (scope : Scope) → Leads scope scope
leads_self scope =
    record { before = λ place one at. at; places = refl; same = refl; fewer = omega arith }

-- and on
pub leads_on : (one two three : Scope) → Leads one two → Leads two three → Leads one three
leads_on one two three first second =
    let less = first.fewer in
    let then = second.fewer in
    record {
      before = λ place given at. first.before place given (second.before place given at);
      places = second.places ∙ first.places;
      same = second.same ∙ first.same;
      fewer = omega arith;
    }

-- the places of lets are those of the first of them
pub places_kept : (from to : Scope) → Leads from to → IsPlaced from → IsPlaced to
places_kept from to leads are =
    rw leads.places (λ place one at. are place one (leads.before place one at))
