-- Numbers that are counted up to a limit give the same answer as those without.
use Rattle.std.proofs.Common.{◌≡◌, ◌≤◌, ◌<◌, ◌+◌, ◌-◌, ◌*◌, ◌^◌, ℕ, zero, suc, min, Bool, true}
use Rattle.std.proofs.Common.{false}
use Rattle.std.proofs.Common.{refl, arith, inl, inr, ap, sym, ◌∙◌}
use Rattle.std.specs.Prelude.{◌&&◌, not, nat_le}
use Rattle.std.proofs.lemmas.Bool.{both_ways, leb-true, le-leb, false_from_ne_true}
use Rattle.std.proofs.lemmas.Bool.Decides.{leb_tells}
use Rattle.std.proofs.lemmas.Nat.{mul-le}
use Rattle.std.proofs.Math.Nat.{mul-one, one-mul}
use Rattle.query_model.specs.Bounds.{places_of, slots_of, width_of}
use Rattle.query_model.specs.Queries.{Qre}
use Rattle.query_model.specs.Rates.{rate_of}
use Rattle.query_rewrite.specs.Steps.{has_empty, turn}

same_test : (a b c d : ℕ) → (a ≤ b → c ≤ d) → (c ≤ d → a ≤ b) → nat_le a b ≡ nat_le c d
same_test a b c d there back = by (nat_le c d) refl
  where
    by : (t : Bool) → nat_le c d ≡ t → nat_le a b ≡ t
    by true is = le-leb a b (back (leb-true c d is))
    by false is = false_from_ne_true (nat_le a b)
        (λ holds. both_ways (nat_le c d) is (le-leb c d (there (leb-true a b holds))))

-- a product of capped numbers is at least this much where the whole one is
capped_product : (w v p s c k limit : ℕ) → w ≤ limit → c ≡ min p limit → k ≡ min s limit
    → w ≤ v + p * (s + 1) → w ≤ v + c * (k + 1)
capped_product w v zero s c k limit few c_is k_is less =
    let none : c ≡ zero = omega (arith, c_is) in
    rw none (omega (arith, less))
capped_product w v (suc p) s c k limit few c_is k_is less =
    elim (leb_tells s limit) [
      | inl (t, s_few) ↦ elim (leb_tells (suc p) limit) [
        | inl (u, p_few) ↦
            let c_same : c ≡ suc p = omega (arith, c_is, p_few) in
            let k_same : k ≡ s = omega (arith, k_is, s_few) in
            rw (c_same, k_same) less
        | inr (u, p_many) ↦
            let c_same : c ≡ limit = omega (arith, c_is, p_many) in
            omega (
              arith,
              few,
              mul-le limit 1 c (k + 1) (omega (arith, c_same)) (omega arith),
              mul-one limit,
            )
      ]
      | inr (t, s_many) ↦
          let k_same : k ≡ limit = omega (arith, k_is, s_many) in
          elim (leb_tells 1 limit) [
            | inl (u, some) ↦
                omega (
                  arith,
                  few,
                  mul-le 1 (limit + 1) c (k + 1) (omega (arith, c_is, some))
                      (omega (arith, k_same)),
                  one-mul (limit + 1),
                )
            | inr (u, none) ↦ omega (arith, few, none)
          ]
    ]

-- the test of capped numbers is that of the whole ones
pub capped_test : (w v p s c k limit last : ℕ) → w ≤ limit → limit ≤ last → c ≡ min p limit
    → k ≡ min s limit
    → nat_le w (min (v + min (c * (k + 1)) last) last) ≡ nat_le w (v + p * (s + 1))
capped_test w v p s c k limit last few order c_is k_is =
    same_test w (min (v + min (c * (k + 1)) last) last) w (v + p * (s + 1))
    (λ less. omega (
      arith,
      less,
      mul-le c (k + 1) p (s + 1) (omega (arith, c_is)) (omega (arith, k_is)),
    ))
    (λ less. omega (arith, few, order, capped_product w v p s c k limit few c_is k_is less))

-- so the test of what is counted is whether compositions are grouped from the left
pub turn_counted : (g h : Qre) (has : Bool) (w v c k runners all : ℕ) → has ≡ false
    → has ≡ has_empty (rate_of g) → w ≡ width_of g → v ≡ width_of h → w < 2 ^ 32
    → c ≡ min (places_of g) (2 ^ 32 - 1) → k ≡ min (slots_of h) (2 ^ 32 - 1)
    → runners ≡ min (c * (k + 1)) (2 ^ 64 - 1) → all ≡ min (v + runners) (2 ^ 64 - 1)
    → nat_le w all ≡ turn g h
turn_counted g h has w v c k runners all not_so has_is w_is v_is few c_is k_is runners_is all_is =
    ap (nat_le w) (all_is ∙ ap (λ n. min (v + n) (2 ^ 64 - 1)) runners_is)
    ∙ capped_test w v (places_of g) (slots_of h) c k (2 ^ 32 - 1) (2 ^ 64 - 1) (omega arith)
    (omega arith) c_is k_is
    ∙ (λ i. nat_le (w_is i) (v_is i + places_of g * (slots_of h + 1)))
    ∙ ap (λ b. not b && nat_le (width_of g) (width_of h + places_of g * (slots_of h + 1)))
    (sym not_so ∙ has_is)
