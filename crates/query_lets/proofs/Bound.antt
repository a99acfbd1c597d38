-- The bindings of lets, one let after another, and their outlines.
use Rattle.std.proofs.Common.{◌≡◌, ℕ, ◌+◌, ◌<◌, Bool, true, false, cond, List, [], ◌∷◌, ◌++◌}
use Rattle.std.proofs.Common.{length, map, get_or, take, Bor, bytes_eq, Option, Some, None}
use Rattle.std.proofs.Common.{option_copied, unwrap_or, refl, sym, ap, ◌∙◌}
use Rattle.std.proofs.lemmas.List.{map_more}
use Rattle.std.specs.Option.{option_map}
use Rattle.std.specs.HashMap as hash
use Rattle.std.specs.Map.{lookup}
use Rattle.std.specs.HashMap.{HashMap, get_by}
use Rattle.query_syntax.specs.declared.leaf.Name.{Name}
use Rattle.query_syntax.specs.declared.program.Let as raw
use Rattle.query_syntax.specs.declared.query.Query as tree
use Rattle.query_syntax.specs.Plain.{plain_let, plain_query}
use Rattle.query_syntax.specs.Programs.{Let}
use Rattle.query_syntax.specs.Queries as q
use Rattle.query_syntax.specs.Queries.{Query}
use Rattle.query_lets.specs.declared.outline.Outline.{Outline}
use Rattle.query_lets.specs.Outlines.{AreOutlines, outline_of}
use Rattle.query_lets.specs.Unfolded.{Binding, bindings_after, bindings_of, meaning, replaced}
use Rattle.query_lets.proofs.Keys.{changed}

-- a let and what it stands for
abbrev pub binding : List Binding → List ℕ → Query → Binding
binding bindings name query = record { name = name; query = replaced bindings query }

-- one let more
bindings_more : (bindings : List Binding) (lets : List Let) (one : Let)
    → bindings_after bindings (lets ++ one ∷ [])
    ≡ binding (bindings_after bindings lets) one.name.bytes one.query ∷ bindings_after bindings lets
bindings_more bindings [] one = refl
bindings_more bindings (first ∷ lets) one =
    bindings_more (binding bindings first.name.bytes first.query ∷ bindings) lets one

-- the lets up to one, and that one
pub lets_more : (lets : List raw.Let) (at : ℕ) (one : raw.Let) → one ≡ get_or lets at one
    → at < length lets
    → map plain_let (take (at + 1) lets) ≡ map plain_let (take at lets) ++ plain_let one ∷ []
lets_more lets at one is_at within =
    map_more plain_let lets at one within
    ∙ ap (λ (l : raw.Let). map plain_let (take at lets) ++ plain_let l ∷ []) (sym is_at)

-- their bindings
bound : (lets : List raw.Let) (at : ℕ) (one : raw.Let) → one ≡ get_or lets at one → at < length lets
    → bindings_of (map plain_let (take (at + 1) lets))
    ≡ binding (bindings_of (map plain_let (take at lets))) one.name.bytes
    (plain_query one.query.value) ∷ bindings_of (map plain_let (take at lets))
bound lets at one is_at within =
    ap bindings_of (lets_more lets at one is_at within)
    ∙ bindings_more [] (map plain_let (take at lets)) (plain_let one)

-- the outline of a choice
mapped : (test : Bool) (query : Query) (rest : Option Query)
    → cond test (Some (outline_of query)) (option_map outline_of rest)
    ≡ option_map outline_of (cond test (Some query) rest)
mapped true query rest = refl
mapped false query rest = refl

-- a map of nothing
pub outlines_none : {S : Type 0} (outlines : HashMap (Bor (List ℕ)) Outline S)
    → hash.IsEmpty outlines → AreOutlines outlines []
outlines_none outlines empty = λ name. ap (lookup (λ k. bytes_eq name k.now)) empty

-- one outline more
pub outlines_more : {S : Type 0} (old new : HashMap (Bor (List ℕ)) Outline S)
    (lets : List raw.Let) (at : ℕ) (one : raw.Let)
    → one ≡ get_or lets at one → at < length lets → (name : Bor (List ℕ))
    → name.now ≡ one.name.bytes → (outline : Outline)
    → outline ≡ outline_of (replaced (bindings_of (map plain_let (take at lets)))
    (plain_query one.query.value))
    → AreOutlines old (bindings_of (map plain_let (take at lets)))
    → hash.Updates (λ x y. bytes_eq x.now y.now) old new name (Some outline)
    → AreOutlines new (bindings_of (map plain_let (take (at + 1) lets)))
outlines_more old new lets at one is_at within name is_name outline is_outline are updates =
    λ other.
    let query = replaced (bindings_of (map plain_let (take at lets)))
    (plain_query one.query.value) in
    changed old new name outline updates other
    ∙ ap (λ (o : Outline). cond (bytes_eq other name.now) (Some o)
    (get_by (λ k. bytes_eq other k.now) old))
    is_outline
    ∙ ap (cond (bytes_eq other name.now) (Some (outline_of query))) (are other)
    ∙ mapped (bytes_eq other name.now) query
    (meaning (bindings_of (map plain_let (take at lets))) other)
    ∙ ap (λ (n : List ℕ). option_map outline_of
    (cond (bytes_eq other n) (Some query)
    (meaning (bindings_of (map plain_let (take at lets))) other))) is_name
    ∙ sym (ap (λ (l : List Binding). option_map outline_of (meaning l other))
    (bound lets at one is_at within))

-- what a choice has
found_is : (found : Option Query) (other : Query) (outline : Outline)
    → Some outline ≡ option_map outline_of found → outline ≡ outline_of (unwrap_or found other)
found_is None other outline is = absurd (cc)
found_is (Some query) other outline is = ap (λ o. unwrap_or o outline) is

nothing_found : (found : Option Query) (other : Query) → None ≡ option_map outline_of found
    → unwrap_or found other ≡ other
nothing_found None other is = refl
nothing_found (Some query) other is = absurd (cc)

module _ {S : Type 0} (outlines : HashMap (Bor (List ℕ)) Outline S) (bindings : List Binding)
    (are : AreOutlines outlines bindings)
    (query : tree.Query) (name : Name) (is_name : query ≡ tree.Name name) (key : Bor (List ℕ))
    (is_key : key.now ≡ name.bytes)
    (found : Option (Bor Outline))
    (value : option_copied found ≡ get_by (λ k. bytes_eq key.now k.now) outlines) where
  found_here : option_copied found ≡ option_map outline_of (meaning bindings name.bytes)
  found_here =
      value ∙ are key.now ∙ ap (λ (n : List ℕ). option_map outline_of (meaning bindings n)) is_key

  replaced_here : replaced bindings (plain_query query)
      ≡ unwrap_or (meaning bindings name.bytes) (q.name name)
  replaced_here = ap (λ (t : tree.Query). replaced bindings (plain_query t)) is_name

  -- the name of a let
  pub outline_found : (outline : Bor Outline) → found ≡ Some outline
      → outline.now ≡ outline_of (replaced bindings (plain_query query))
  outline_found outline is =
      found_is (meaning bindings name.bytes) (q.name name) outline.now
      (sym (ap option_copied is) ∙ found_here) ∙ ap outline_of (sym replaced_here)

  -- another name
  pub outline_of_name : found ≡ None
      → outline_of (q.name name) ≡ outline_of (replaced bindings (plain_query query))
  outline_of_name is = ap outline_of (sym (replaced_here
      ∙ nothing_found (meaning bindings name.bytes) (q.name name)
      (sym (ap option_copied is) ∙ found_here)))
