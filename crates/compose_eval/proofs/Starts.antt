-- Instances by the starts that feed them.
use Rattle.std.proofs.Common.{set, ◌≡◌, ◌==◌, ◌||◌, ◌+◌, ◌∙◌, ◌++◌, ℕ, zero, suc, Bool, true, false}
use Rattle.std.proofs.Common.{cond, List, [], ◌∷◌, Option, None, Some, slice_get, get_or, length}
use Rattle.std.proofs.Common.{◌<◌, refl, sym, ap, subst, arith}
use Rattle.std.specs.Prelude.{IfNone, IfSome}
use Rattle.std.specs.List.{AllByRecursion, IsDistinct, list_any, position_from}
use Rattle.std.proofs.lemmas.Cmp.{nat_eq_equiv}
use Rattle.std.proofs.lemmas.Bool.{eqb-true, eqb-false, ne_eqb}
use Rattle.std.proofs.lemmas.List.{map-append}
use Rattle.std.proofs.lemmas.Map.Keys.{IsDistinct-cons, IsDistinct-head, IsDistinct-push}
use Rattle.std.proofs.lemmas.Map.Keys.{IsDistinct-tail}
use Rattle.std.proofs.lemmas.Option.{none-some, same_Some, slice_get-map, slice_get_read}
use Rattle.std.specs.Option.{option_map}
use Rattle.compose_eval.specs.Followers.{instance_at, is_at, followers_of, outers_of, with_follower}
use Rattle.compose_eval.specs.Followers.{AreDistinct, Contents, IsAt}
use Rattle.compose_eval.specs.declared.instance.Instance.{Instance}

all_without : (P : ℕ → Type 0) (front back : List ℕ) (x : ℕ)
    → AllByRecursion P (front ++ x ∷ back) → AllByRecursion P (front ++ back)
all_without P [] back x all = all.1
all_without P (y ∷ front) back x all = (all.0, all_without P front back x all.1)

starts_without : (front back : List ℕ) (x : ℕ) → IsDistinct ◌==◌ (front ++ x ∷ back)
    → IsDistinct ◌==◌ (front ++ back)
starts_without [] back x distinct = IsDistinct-tail ◌==◌ x back distinct
starts_without (y ∷ front) back x distinct =
    IsDistinct-cons ◌==◌ y (front ++ back)
    (all_without (λ start. (y == start) ≡ false) front back x
    (IsDistinct-head ◌==◌ y (front ++ x ∷ back) distinct))
    (starts_without front back x (IsDistinct-tail ◌==◌ y (front ++ x ∷ back) distinct))

pub distinct_none : IsDistinct ◌==◌ []
unfolding IsDistinct
distinct_none = tt

module _ {R : Type 0} where
  none_first : (same : Bool) (x : Instance R) (outer : ℕ)
      (found : Option (Instance R)) (among : Bool) → (x.outer == outer) ≡ same
      → (found ≡ None → among ≡ false) → cond same (Some x) found ≡ None
      → ((outer == x.outer) || among) ≡ false
  none_first true x outer found among same after none = absurd (none-some x (sym none))
  none_first false x outer found among same after none =
      let differs = ne_eqb outer x.outer (λ is. eqb-false x.outer outer same (sym is)) in
      ap (λ (b : Bool). b || among) differs ∙ after none

  -- where no instance is found, none is fed from the start
  none_among : (live : List (Instance R)) (outer : ℕ) → instance_at live outer ≡ None
      → list_any (λ start. outer == start) (outers_of live) ≡ false
  none_among [] outer none = refl
  none_among (x ∷ live) outer none =
      none_first (x.outer == outer) x outer (instance_at live outer)
      (list_any (λ start. outer == start) (outers_of live)) refl (none_among live outer) none

  -- with one more, at whose start none is found
  pub distinct_more : (live : List (Instance R)) (x : Instance R) → AreDistinct live
      → instance_at live x.outer ≡ None → AreDistinct (live ++ x ∷ [])
  distinct_more live x distinct none =
      subst (IsDistinct ◌==◌) (sym (map-append (λ (y : Instance R). y.outer) live (x ∷ [])))
      (IsDistinct-push nat_eq_equiv (outers_of live) x.outer distinct
      (none_among live x.outer none))

  there_first : (same : Bool) (x : Instance R) (live : List (Instance R)) (outer from i : ℕ)
      → (x.outer == outer) ≡ same
      → (position_from (is_at outer) (from + 1) live ≡ Some i
      → (k : ℕ) × (i ≡ from + 1 + k) × IsAt live k outer)
      → cond same (Some from) (position_from (is_at outer) (from + 1) live) ≡ Some i
      → (k : ℕ) × (i ≡ from + k) × IsAt (x ∷ live) k outer
  there_first true x live outer from i same after some =
      let is : x.outer ≡ outer = eqb-true x.outer outer same in
      let first : from ≡ i = same_Some from i some in (
        zero,
        omega (arith, first),
        (x.follower, ap (λ (start : ℕ). Some (record { outer = start; follower = x.follower })) is),
      )
  there_first false x live outer from i same after some =
      let rest = after some in
      let is = rest.1 in
      (suc rest.0, omega (arith, is), rest.2)

  there_from : (live : List (Instance R)) (outer from i : ℕ)
      → position_from (is_at outer) from live ≡ Some i
      → (k : ℕ) × (i ≡ from + k) × IsAt live k outer
  there_from [] outer from i some = absurd (none-some i some)
  there_from (x ∷ live) outer from i some =
      there_first (x.outer == outer) x live outer from i refl
      (there_from live outer (from + 1) i) some

  -- what stands at the place that is found
  pub there : (live : List (Instance R)) (outer i : ℕ)
      → position_from (is_at outer) 0 live ≡ Some i → IsAt live i outer
  there live outer i some =
      let found = there_from live outer 0 i some in
      let is = found.1 in
      subst (λ (k : ℕ). IsAt live k outer) (omega (arith, is)) found.2

  nowhere_first : (same : Bool) (x : Instance R) (from : ℕ) (place : Option ℕ)
      (found : Option (Instance R)) → (place ≡ None → found ≡ None)
      → cond same (Some from) place ≡ None → cond same (Some x) found ≡ None
  nowhere_first true x from place found after none = absurd (none-some from (sym none))
  nowhere_first false x from place found after none = after none

  -- where no place is found, no instance is
  pub nowhere : (live : List (Instance R)) (outer from : ℕ)
      → position_from (is_at outer) from live ≡ None → instance_at live outer ≡ None
  nowhere [] outer from none = refl
  nowhere (x ∷ live) outer from none =
      nowhere_first (x.outer == outer) x from (position_from (is_at outer) (from + 1) live)
      (instance_at live outer) (nowhere live outer (from + 1)) none

  -- without one of them
  pub distinct_without : (front back : List (Instance R)) (x : Instance R)
      → AreDistinct (front ++ x ∷ back) → AreDistinct (front ++ back)
  distinct_without front back x distinct =
      subst (IsDistinct ◌==◌) (sym (map-append (λ (y : Instance R). y.outer) front back))
      (starts_without (outers_of front) (outers_of back) x.outer
      (subst (IsDistinct ◌==◌)
      (map-append (λ (y : Instance R). y.outer) front (x ∷ back)) distinct))

  -- the follower of an instance that is read at an index
  pub follower_read : (live : List (Instance R)) (i : ℕ) (x : Instance R) → i < length live
      → x ≡ get_or live i x → slice_get (followers_of live) i ≡ Some x.follower
  follower_read live i x inside read =
      slice_get-map (λ (y : Instance R). y.follower) live i
      ∙ ap (λ (found : Option (Instance R)). option_map (λ (y : Instance R). y.follower) found)
      (slice_get_read live (length live) i x refl inside read)

  -- an answer by places is one by instances
  pub found_there : (place : Option ℕ) (live seen : List (Instance R)) (outer : ℕ)
      → place ≡ position_from (is_at outer) 0 seen → seen ≡ live
      → IfSome place (λ i. IsAt live i outer)
  found_there None live seen outer is same = tt
  found_there (Some i) live seen outer is same =
      subst (λ (xs : List (Instance R)). IsAt xs i outer) same (there seen outer i (sym is))

  pub none_there : (place : Option ℕ) (live seen : List (Instance R)) (outer : ℕ)
      → place ≡ position_from (is_at outer) 0 seen → seen ≡ live
      → IfNone place (instance_at live outer ≡ None)
  none_there None live seen outer is same =
      ap (λ (xs : List (Instance R)). instance_at xs outer) (sym same)
      ∙ nowhere seen outer 0 (sym is)
  none_there (Some i) live seen outer is same = tt

  -- what is written at an index goes to the follower there
  pub written : (live : List (Instance R)) (i : ℕ) (x : Instance R) (w : R) → x ≡ get_or live i x
      → set live i (record { outer = x.outer; follower = w }) ≡ with_follower live i w
  written [] i x w read = refl
  written (y ∷ live) zero x w read =
      ap (λ (z : Instance R). record { outer = z.outer; follower = w } ∷ live) read
  written (y ∷ live) (suc i) x w read =
      ap (λ (xs : List (Instance R)). y ∷ xs) (written live i x w read)

  -- and the starts stay
  pub same_outers : (live : List (Instance R)) (i : ℕ) (w : R)
      → outers_of (with_follower live i w) ≡ outers_of live
  same_outers [] i w = refl
  same_outers (y ∷ live) zero w = refl
  same_outers (y ∷ live) (suc i) w =
      ap (λ (starts : List ℕ). y.outer ∷ starts) (same_outers live i w)

  pub as_many : (live : List (Instance R)) (i : ℕ) (w : R)
      → length (with_follower live i w) ≡ length live
  as_many [] i w = refl
  as_many (y ∷ live) zero w = refl
  as_many (y ∷ live) (suc i) w = ap suc (as_many live i w)

  -- the lender, once the follower at the index is another one
  pub lent : (seen now : Contents R) (i : ℕ) (x : Instance R) (w : R) → seen ≡ now
      → x ≡ get_or seen.live i x → ◌≡◌ {A = Contents R}
      (record {
        live = set seen.live i (record { outer = x.outer; follower = w });
        idle = seen.idle;
        room = seen.room;
      })
      (record { live = with_follower now.live i w; idle = now.idle; room = now.room })
  lent seen now i x w same read =
      ap (λ (live : List (Instance R)). record { live = live; idle = seen.idle; room = seen.room })
      (written seen.live i x w read)
      ∙ ap
      (λ (s : Contents R). record { live = with_follower s.live i w; idle = s.idle; room = s.room })
      same
