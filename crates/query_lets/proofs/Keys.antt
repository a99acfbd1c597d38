-- Names as the keys of sets and maps.
use Rattle.std.proofs.Common.{◌≡◌, ℕ, Bool, true, false, cond, ◌||◌, List, [], ◌∷◌, Bor, bytes_eq}
use Rattle.std.proofs.Common.{Some, refl, ap, subst, ◌∙◌}
use Rattle.std.specs.Cmp.Lexicographic.{nat_list_eq_equiv}
use Rattle.std.specs.HashMap as hash
use Rattle.std.specs.HashMap.{HashMap, get_by}
use Rattle.std.specs.HashSet as bag
use Rattle.std.specs.HashSet.{HashSet, contains_by}
use Rattle.std.specs.List.{list_any}
use Rattle.query_lets.specs.Known.{Holds}
use Rattle.query_lets.specs.Words.{is_known}

-- a name as a key
abbrev key : List ℕ → Bor (List ℕ)
key name = record { ref_ptr = (0, 0); now = name }

-- a test, or else another
either : (test other : Bool) → cond test true other ≡ (test || other)
either true other = refl
either false other = refl

-- a set of nothing
pub holds_none : {S : Type 0} (set : HashSet (Bor (List ℕ)) S) → bag.IsEmpty set → Holds set []
holds_none set empty = λ name. ap (list_any (λ k. bytes_eq name k.now)) empty

-- a set with one name more
pub holds_more : {S : Type 0} (old new : HashSet (Bor (List ℕ)) S) (name : Bor (List ℕ))
    (known : List (List ℕ)) → Holds old known
    → bag.Updates (λ x y. bytes_eq x.now y.now) old new name true → Holds new (name.now ∷ known)
holds_more old new name known holds updates = λ other.
    updates.0 (key other)
    ∙ ap (λ (b : Bool). cond b true (contains_by (λ k. bytes_eq other k.now) old))
    (nat_list_eq_equiv.symm name.now other)
    ∙ either (bytes_eq other name.now) (contains_by (λ k. bytes_eq other k.now) old)
    ∙ ap (λ (b : Bool). bytes_eq other name.now || b) (holds other)

-- the same, where the name is given by its bytes
pub holds_step : {S : Type 0} (old new : HashSet (Bor (List ℕ)) S) (name : Bor (List ℕ))
    (bytes : List ℕ) → name.now ≡ bytes
    → (known : List (List ℕ)) → Holds old known
    → bag.Updates (λ x y. bytes_eq x.now y.now) old new name true → Holds new (bytes ∷ known)
holds_step old new name bytes is known holds updates =
    subst (λ (n : List ℕ). Holds new (n ∷ known)) is (holds_more old new name known holds updates)

-- whether a set has a name
pub known_is : {S : Type 0} (set : HashSet (Bor (List ℕ)) S) (known : List (List ℕ))
    → Holds set known → (name : Bor (List ℕ)) (bytes : List ℕ) → name.now ≡ bytes → (has : Bool)
    → has ≡ contains_by (λ k. bytes_eq name.now k.now) set → has ≡ is_known known bytes
known_is set known holds name bytes is has found = found ∙ holds name.now ∙ ap (is_known known) is

-- what a map has under a name after a change
pub changed : {S X : Type 0} (old new : HashMap (Bor (List ℕ)) X S)
    (name : Bor (List ℕ)) (value : X)
    → hash.Updates (λ x y. bytes_eq x.now y.now) old new name (Some value)
    → (other : List ℕ) → get_by (λ k. bytes_eq other k.now) new
    ≡ cond (bytes_eq other name.now) (Some value) (get_by (λ k. bytes_eq other k.now) old)
changed old new name value updates = λ other.
    updates.0 (key other)
    ∙ ap (λ (b : Bool). cond b (Some value) (get_by (λ k. bytes_eq other k.now) old))
    (nat_list_eq_equiv.symm name.now other)
