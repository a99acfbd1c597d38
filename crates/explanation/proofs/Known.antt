-- What is known of lets, one let after another.
use Rattle.std.proofs.Common.{◌≡◌, ℕ, ◌+◌, ◌<◌, Bool, cond, List, [], ◌∷◌, ◌++◌, length, map}
use Rattle.std.proofs.Common.{get_or, take, Bor, bytes_eq, Some, refl, sym, ap, ◌∙◌}
use Rattle.std.proofs.lemmas.List.{map_more}
use Rattle.std.specs.Cmp.Lexicographic.{nat_list_eq_equiv}
use Rattle.std.specs.HashMap as hash
use Rattle.std.specs.HashMap.{HashMap, get_by}
use Rattle.language_base.specs.declared.span.Span.{Span}
use Rattle.query_syntax.specs.declared.program.Let as raw
use Rattle.query_syntax.specs.Plain.{plain_let}
use Rattle.query_syntax.specs.Programs.{Let}
use Rattle.explanation.specs.declared.uses.Inside.{Inside}
use Rattle.explanation.specs.declared.uses.Lead.{Lead}
use Rattle.explanation.specs.Leads.{AreLeads}
use Rattle.explanation.specs.Uses.{Known, known_after, lead_named, lead_to}

-- a let and what is known of it
abbrev known_let : Inside → Span → List Known → Let → Known
known_let inside place known one =
    record { name = one.name.bytes; lead = lead_to inside place known one }

-- one let more
known_more : (inside : Inside) (place : Span) (known : List Known) (lets : List Let) (one : Let)
    → known_after inside place known (lets ++ one ∷ [])
    ≡ known_let inside place (known_after inside place known lets) one
    ∷ known_after inside place known lets
known_more inside place known [] one = refl
known_more inside place known (first ∷ lets) one =
    known_more inside place (known_let inside place known first ∷ known) lets one

-- the lets up to one, and that one
pub lets_more : (lets : List raw.Let) (at : ℕ) (one : raw.Let) → one ≡ get_or lets at one
    → at < length lets
    → map plain_let (take (at + 1) lets) ≡ map plain_let (take at lets) ++ plain_let one ∷ []
lets_more lets at one is_at within =
    map_more plain_let lets at one within
    ∙ ap (λ (l : raw.Let). map plain_let (take at lets) ++ plain_let l ∷ []) (sym is_at)

-- what is known after it
known_with : (inside : Inside) (place : Span) (lets : List raw.Let) (at : ℕ) (one : raw.Let)
    → one ≡ get_or lets at one → at < length lets
    → known_after inside place [] (map plain_let (take (at + 1) lets))
    ≡ known_let inside place
    (known_after inside place [] (map plain_let (take at lets))) (plain_let one)
    ∷ known_after inside place [] (map plain_let (take at lets))
known_with inside place lets at one is_at within =
    ap (known_after inside place []) (lets_more lets at one is_at within)
    ∙ known_more inside place [] (map plain_let (take at lets)) (plain_let one)

-- a name as a key
abbrev key : List ℕ → Bor (List ℕ)
key name = record { ref_ptr = (0, 0); now = name }

-- what a map has under a name after a change
pub changed : {S X : Type 0} (old new : HashMap (Bor (List ℕ)) X S)
    (name : Bor (List ℕ)) (value : X)
    → hash.Updates (λ x y. bytes_eq x.now y.now) old new name (Some value)
    → (other : List ℕ) → get_by (λ k. bytes_eq other k.now) new
    ≡ cond (bytes_eq other name.now) (Some value) (get_by (λ k. bytes_eq other k.now) old)
changed old new name value updates = λ other.
    updates.0 (key other)
    ∙ ap (λ (b : Bool). cond b (Some value) (get_by (λ k. bytes_eq other k.now) old))
    (nat_list_eq_equiv.symm name.now other)

-- the map with one let more
pub leads_more : {S : Type 0} (inside : Inside) (place : Span)
    (old new : HashMap (Bor (List ℕ)) Lead S) (lets : List raw.Let) (at : ℕ) (one : raw.Let)
    → one ≡ get_or lets at one → at < length lets → (name : Bor (List ℕ))
    → name.now ≡ one.name.bytes → (lead : Lead)
    → lead ≡ lead_to inside place
    (known_after inside place [] (map plain_let (take at lets))) (plain_let one)
    → AreLeads old (known_after inside place [] (map plain_let (take at lets)))
    → hash.Updates (λ x y. bytes_eq x.now y.now) old new name (Some lead)
    → AreLeads new (known_after inside place [] (map plain_let (take (at + 1) lets)))
leads_more inside place old new lets at one is_at within name is_name lead is_lead are updates =
    λ other.
    let known = known_after inside place [] (map plain_let (take at lets)) in
    let made = lead_to inside place known (plain_let one) in
    changed old new name lead updates other
    ∙ ap (λ (l : Lead). cond (bytes_eq other name.now) (Some l)
    (get_by (λ k. bytes_eq other k.now) old)) is_lead
    ∙ ap (cond (bytes_eq other name.now) (Some made)) (are other)
    ∙ ap (λ (n : List ℕ). cond (bytes_eq other n) (Some made) (lead_named known other)) is_name
    ∙ sym (ap (λ (l : List Known). lead_named l other)
    (known_with inside place lets at one is_at within))
