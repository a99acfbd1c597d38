-- Where words continue: masks as the states' numbers.
use Rattle.std.proofs.Common.{◌≡◌, ◌⊎◌, inl, inr, ℕ, zero, suc, ◌+◌, ◌<◌, List, [], ◌∷◌, ◌++◌}
use Rattle.std.proofs.Common.{length, sym, ap, ◌∙◌, subst, arith}
use Rattle.std.proofs.lemmas.List.{length_push}
use Rattle.rate_expr.specs.Parts.{part_of, all_linked, follow_of}
use Rattle.rate_expr.specs.Rates.{Regex, empty, one, sequence, choice, star, size_of}
use Rattle.rate_expr.specs.Sets.{Has}
use Rattle.rate_expr.proofs.Automata as automata
use Rattle.rate_expr.proofs.Automata.{Automaton, automaton_of}
use Rattle.rate_expr.proofs.Ends.{AreIn, is_part}
use Rattle.rate_expr.proofs.Linking.{Goes, length-all_linked, goes_kept, goes_linked, goes_no_more}
use Rattle.rate_expr.proofs.MaskMembers.{has_zero}
use Rattle.rate_expr.proofs.Numbers.{either_number, number_of, number_within}

-- the rate has this many masks
pub length-follow_of : (rate : Regex) (before : List ℕ)
    → length (follow_of rate before) ≡ length before + size_of rate
length-follow_of empty before = omega arith
length-follow_of (one pred) before = length_push before 0
length-follow_of (sequence first second) before =
    length-all_linked (part_of first (length before)).last
    (part_of second (length before + size_of first)).first 0
    (follow_of second (follow_of first before))
    ∙ (let inner = length-follow_of first before in
    let outer = length-follow_of second (follow_of first before) in omega arith)
length-follow_of (choice first second) before =
    let inner = length-follow_of first before in
    let outer = length-follow_of second (follow_of first before) in omega arith
length-follow_of (star inner) before =
    length-all_linked (part_of inner (length before)).last (part_of inner (length before)).first 0
    (follow_of inner before) ∙ length-follow_of inner before

-- one state and the next are these numbers
abbrev pub Step : (a : Automaton) → (a.State → ℕ) → ℕ → ℕ → Type 0
Step a number i n = (p : a.State) × (q : a.State) × (number p ≡ i) × (number q ≡ n) × a.Follow p q

-- the masks after are those before, with the steps of the automaton
pub record AddSteps (a : Automaton) (number : a.State → ℕ) (before after : List ℕ) : Type 0 where
  pub kept : (i n : ℕ) → Goes before i n → Goes after i n
  pub each : (p q : a.State) → a.Follow p q → Goes after (number p) (number q)
  pub only : (i n : ℕ) → Goes after i n → Goes before i n ⊎ Step a number i n

-- a mask after others has its place
goes_before : (masks : List ℕ) (mask i n : ℕ) → Goes masks i n → Goes (masks ++ mask ∷ []) i n
goes_before [] mask i n (other, is, has) = absurd (cc)
goes_before (first ∷ masks) mask zero n goes = goes
goes_before (first ∷ masks) mask (suc i) n goes = goes_before masks mask i n goes

-- the empty mask after others adds nothing
goes_only_before : (masks : List ℕ) (i n : ℕ) → Goes (masks ++ 0 ∷ []) i n → Goes masks i n
goes_only_before [] zero n (mask, is, has) =
    let same : mask ≡ 0 = cc in absurd (has_zero n (subst (λ (m : ℕ). Has m n) same has))
goes_only_before [] (suc i) n (mask, is, has) = absurd (cc)
goes_only_before (first ∷ masks) zero n goes = goes
goes_only_before (first ∷ masks) (suc i) n goes = goes_only_before masks i n goes

-- the steps of two parts
either_steps : (a b : Automaton) (f : a.State → ℕ) (g : b.State → ℕ) (before middle after : List ℕ)
    → AddSteps a f before middle → AddSteps b g middle after
    → AddSteps (automata.of_choice a b) (either_number a.State b.State f g) before after
either_steps a b f g before middle after in_a in_b = record {
  kept = λ i n goes. in_b.kept i n (in_a.kept i n goes);
  each = each;
  only = λ i n goes. found i n (in_b.only i n goes);
}
  where
    each : (p q : a.State ⊎ b.State) → (automata.of_choice a b).Follow p q
        → Goes after (either_number a.State b.State f g p) (either_number a.State b.State f g q)
    each (inl p) (inl q) follow = in_b.kept (f p) (f q) (in_a.each p q follow)
    each (inl p) (inr q) follow = absurd follow
    each (inr p) (inl q) follow = absurd follow
    each (inr p) (inr q) follow = in_b.each p q follow

    found_first : (i n : ℕ) → Goes before i n ⊎ Step a f i n
        → Goes before i n ⊎ Step (automata.of_choice a b) (either_number a.State b.State f g) i n
    found_first i n (inl goes) = inl goes
    found_first i n (inr (p, q, at, to, follow)) = inr (inl p, inl q, at, to, follow)

    found : (i n : ℕ) → Goes middle i n ⊎ Step b g i n
        → Goes before i n ⊎ Step (automata.of_choice a b) (either_number a.State b.State f g) i n
    found i n (inl goes) = found_first i n (in_a.only i n goes)
    found i n (inr (p, q, at, to, follow)) = inr (inr p, inr q, at, to, follow)

-- and those from the ends of the one to the beginnings of the other
sequence_steps : (a b : Automaton) (f : a.State → ℕ) (g : b.State → ℕ)
    (from to : ℕ) (before after : List ℕ) → AreIn a.State f a.Last from → AreIn b.State g b.First to
    → ((p : a.State) → f p < length after)
    → AddSteps (automata.of_choice a b) (either_number a.State b.State f g) before after
    → AddSteps (automata.of_sequence a b) (either_number a.State b.State f g) before
    (all_linked from to 0 after)
sequence_steps a b f g from to before after in_from in_to below steps = record {
  kept = λ i n goes. goes_kept from to 0 after i n (steps.kept i n goes);
  each = each;
  only = λ i n goes. found i n (goes_no_more from to 0 after i n goes);
}
  where
    each : (p q : a.State ⊎ b.State) → (automata.of_sequence a b).Follow p q
        → Goes (all_linked from to 0 after) (either_number a.State b.State f g p)
        (either_number a.State b.State f g q)
    each (inl p) (inl q) follow =
        goes_kept from to 0 after (f p) (f q) (steps.each (inl p) (inl q) follow)
    each (inl p) (inr q) (last, first) =
        let same : f p ≡ 0 + f p = omega arith in
        goes_linked from to 0 after (f p) (g q) (below p)
        (subst (λ (m : ℕ). Has from m) same (in_from.each p last)) (in_to.each q first)
    each (inr p) (inl q) follow = absurd follow
    each (inr p) (inr q) follow =
        goes_kept from to 0 after (g p) (g q) (steps.each (inr p) (inr q) follow)

    stepped : (i n : ℕ) → Step (automata.of_choice a b) (either_number a.State b.State f g) i n
        → Step (automata.of_sequence a b) (either_number a.State b.State f g) i n
    stepped i n (inl p, inl q, at, to_n, follow) = (inl p, inl q, at, to_n, follow)
    stepped i n (inl p, inr q, at, to_n, follow) = absurd follow
    stepped i n (inr p, inl q, at, to_n, follow) = absurd follow
    stepped i n (inr p, inr q, at, to_n, follow) = (inr p, inr q, at, to_n, follow)

    found_there : (i n : ℕ)
        → Goes before i n ⊎ Step (automata.of_choice a b) (either_number a.State b.State f g) i n
        → Goes before i n ⊎ Step (automata.of_sequence a b) (either_number a.State b.State f g) i n
    found_there i n (inl goes) = inl goes
    found_there i n (inr step) = inr (stepped i n step)

    found : (i n : ℕ) → Goes after i n ⊎ Has from (0 + i) × Has to n
        → Goes before i n ⊎ Step (automata.of_sequence a b) (either_number a.State b.State f g) i n
    found i n (inl goes) = found_there i n (steps.only i n goes)
    found i n (inr (has_from, has_to)) =
        let same : 0 + i ≡ i = omega arith in
        let p = in_from.only i (subst (λ (m : ℕ). Has from m) same has_from) in
        let q = in_to.only n has_to in
        inr (inl p.0, inr q.0, p.1, q.1, (p.2, q.2))

-- the steps of a star
star_steps : (a : Automaton) (f : a.State → ℕ) (from to : ℕ) (before after : List ℕ)
    → AreIn a.State f a.Last from
    → AreIn a.State f a.First to → ((p : a.State) → f p < length after) → AddSteps a f before after
    → AddSteps (automata.of_star a) f before (all_linked from to 0 after)
star_steps a f from to before after in_from in_to below steps = record {
  kept = λ i n goes. goes_kept from to 0 after i n (steps.kept i n goes);
  each = each;
  only = λ i n goes. found i n (goes_no_more from to 0 after i n goes);
}
  where
    each : (p q : a.State) → a.Follow p q ⊎ (a.Last p × a.First q)
        → Goes (all_linked from to 0 after) (f p) (f q)
    each p q (inl follow) = goes_kept from to 0 after (f p) (f q) (steps.each p q follow)
    each p q (inr (last, first)) =
        let same : f p ≡ 0 + f p = omega arith in
        goes_linked from to 0 after (f p) (f q) (below p)
        (subst (λ (m : ℕ). Has from m) same (in_from.each p last)) (in_to.each q first)

    found_there : (i n : ℕ) → Goes before i n ⊎ Step a f i n
        → Goes before i n ⊎ Step (automata.of_star a) f i n
    found_there i n (inl goes) = inl goes
    found_there i n (inr (p, q, at, to_n, follow)) = inr (p, q, at, to_n, inl follow)

    found : (i n : ℕ) → Goes after i n ⊎ Has from (0 + i) × Has to n
        → Goes before i n ⊎ Step (automata.of_star a) f i n
    found i n (inl goes) = found_there i n (steps.only i n goes)
    found i n (inr (has_from, has_to)) =
        let same : 0 + i ≡ i = omega arith in
        let p = in_from.only i (subst (λ (m : ℕ). Has from m) same has_from) in
        let q = in_to.only n has_to in
        inr (p.0, q.0, p.1, q.1, inr (p.2, q.2))

-- the masks of a rate are the steps of its automaton
pub add_steps : (rate : Regex) (base : ℕ) (before : List ℕ) → length before ≡ base
    → AddSteps (automaton_of rate) (number_of rate base) before (follow_of rate before)
add_steps empty base before is = record {
  kept = λ i n goes. goes;
  each = λ p q follow. absurd p;
  only = λ i n goes. inl goes;
}
add_steps (one pred) base before is = record {
  kept = goes_before before 0;
  each = λ p q follow. absurd follow;
  only = λ i n goes. inl (goes_only_before before i n goes);
}
add_steps (choice first second) base before is =
    either_steps (automaton_of first) (automaton_of second) (number_of first base)
    (number_of second (base + size_of first)) before (follow_of first before)
    (follow_of second (follow_of first before)) (add_steps first base before is)
    (add_steps second (base + size_of first) (follow_of first before)
    (length-follow_of first before ∙ ap (λ n. n + size_of first) is))
add_steps (sequence first second) base before is =
    let inner = length-follow_of first before in
    let outer = length-follow_of second (follow_of first before) in
    sequence_steps (automaton_of first) (automaton_of second) (number_of first base)
    (number_of second (base + size_of first)) (part_of first (length before)).last
    (part_of second (length before + size_of first)).first
    before (follow_of second (follow_of first before))
    (subst (λ (n : ℕ). AreIn (automaton_of first).State (number_of first base)
    (automaton_of first).Last (part_of first n).last) (sym is) (is_part first base).last)
    (subst (λ (n : ℕ). AreIn (automaton_of second).State (number_of second (base + size_of first))
    (automaton_of second).First (part_of second (n + size_of first)).first) (sym is)
    (is_part second (base + size_of first)).first)
    (λ p. let at = number_within first base p in omega arith)
    (either_steps (automaton_of first) (automaton_of second) (number_of first base)
    (number_of second (base + size_of first)) before (follow_of first before)
    (follow_of second (follow_of first before)) (add_steps first base before is)
    (add_steps second (base + size_of first) (follow_of first before)
    (length-follow_of first before ∙ ap (λ n. n + size_of first) is)))
add_steps (star inner) base before is =
    let long = length-follow_of inner before in
    star_steps (automaton_of inner) (number_of inner base)
    (part_of inner (length before)).last (part_of inner (length before)).first
    before (follow_of inner before)
    (subst (λ (n : ℕ). AreIn (automaton_of inner).State (number_of inner base)
    (automaton_of inner).Last (part_of inner n).last) (sym is) (is_part inner base).last)
    (subst (λ (n : ℕ). AreIn (automaton_of inner).State (number_of inner base)
    (automaton_of inner).First (part_of inner n).first) (sym is) (is_part inner base).first)
    (λ p. let at = number_within inner base p in omega arith)
    (add_steps inner base before is)
