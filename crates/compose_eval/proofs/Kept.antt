-- What is kept in its room, where a follower comes, begins or comes to rest.
use Rattle.std.proofs.Common.{◌==◌, get_or, set, ◌≡◌, ◌∙◌, ◌+◌, ◌<◌, ◌++◌, ℕ, List, [], ◌∷◌, None}
use Rattle.std.proofs.Common.{length, sym, subst, arith}
use Rattle.std.proofs.lemmas.List.{length-append, length-set}
use Rattle.compose_eval.specs.Followers.{instance_at, IsKept}
use Rattle.compose_eval.specs.declared.instance.Instance.{Instance}
use Rattle.std.specs.List.{IsDistinct}
use Rattle.compose_eval.proofs.Starts.{as_many, distinct_more, distinct_none, distinct_without}
use Rattle.compose_eval.proofs.Starts.{same_outers, written}

module _ {R : Type 0} where
  -- none yet
  pub IsKept-none : (live : List (Instance R)) (idle : List R) (room c d : ℕ)
      → live ≡ [] → idle ≡ [] → c ≡ room → d ≡ room → IsKept live idle room c d
  IsKept-none live idle room c d no_live no_idle live_room idle_room =
      subst (λ (xs : List (Instance R)). IsKept xs idle room c d) (sym no_live)
      (subst (λ (ys : List R). IsKept [] ys room c d) (sym no_idle) (record {
        live_reserved = live_room;
        idle_reserved = idle_room;
        few = omega arith;
        distinct = distinct_none;
      }))

  -- a follower is another one
  pub IsKept-written : (live : List (Instance R)) (idle : List R) (room c d i : ℕ)
      (x : Instance R) (w : R) → x ≡ get_or live i x → IsKept live idle room c d
      → IsKept (set live i (record { outer = x.outer; follower = w })) idle room c d
  IsKept-written live idle room c d i x w read was =
      let few = was.few in
      let many = as_many live i w in
      subst (λ (xs : List (Instance R)). IsKept xs idle room c d)
      (sym (written live i x w read)) (record {
        live_reserved = was.live_reserved;
        idle_reserved = was.idle_reserved;
        few = omega (arith, few, many);
        distinct = subst (IsDistinct ◌==◌) (sym (same_outers live i w)) was.distinct;
      })

  -- one more is fed, at whose start none was
  pub IsKept-put : (live now : List (Instance R)) (idle : List R) (x : Instance R)
      (room c d grown : ℕ) → now ≡ live ++ x ∷ [] → IsKept live idle room c d
      → length live + length idle < room → instance_at live x.outer ≡ None → grown ≡ c
      → IsKept now idle room grown d
  IsKept-put live now idle x room c d grown is was spare none more =
      let count = length-append live (x ∷ []) in
      subst (λ (xs : List (Instance R)). IsKept xs idle room grown d) (sym is) (record {
        live_reserved = more ∙ was.live_reserved;
        idle_reserved = was.idle_reserved;
        few = omega (arith, count, spare);
        distinct = distinct_more live x was.distinct none;
      })

  -- one that was fed comes to rest
  pub IsKept-retired : (front back now : List (Instance R)) (idle resting : List R) (x : Instance R)
      → (room c d same grown : ℕ) → now ≡ front ++ back → resting ≡ idle ++ x.follower ∷ []
      → IsKept (front ++ x ∷ back) idle room c d → same ≡ c → grown ≡ d
      → IsKept now resting room same grown
  IsKept-retired front back now idle resting x room c d same grown left rested was as_before more =
      let before = length-append front (x ∷ back) in
      let after = length-append front back in
      let count = length-append idle (x.follower ∷ []) in
      let few = was.few in
      subst (λ (xs : List (Instance R)). IsKept xs resting room same grown) (sym left)
      (subst (λ (ys : List R). IsKept (front ++ back) ys room same grown) (sym rested) (record {
        live_reserved = as_before ∙ was.live_reserved;
        idle_reserved = more ∙ was.idle_reserved;
        few = omega (arith, before, after, count, few);
        distinct = distinct_without front back x was.distinct;
      }))

  -- an idle follower is another one
  pub IsKept-rested : (live : List (Instance R)) (idle : List R) (room c d i : ℕ) (w : R)
      → IsKept live idle room c d → IsKept live (set idle i w) room c d
  IsKept-rested live idle room c d i w was =
      let few = was.few in
      let many : length (set idle i w) ≡ length idle = length-set idle i w in
      record {
        live_reserved = was.live_reserved;
        idle_reserved = was.idle_reserved;
        few = omega (arith, few, many);
        distinct = was.distinct;
      }
