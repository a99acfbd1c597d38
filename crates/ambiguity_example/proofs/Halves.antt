-- Cuts of a word into two pieces.
use Rattle.std.proofs.Common.{◌≡◌, ℕ, ◌+◌, ◌<◌, ◌≤◌, List, [], ◌∷◌, ◌++◌, length, take, drop, sym}
use Rattle.std.proofs.Common.{ap, ◌∙◌, subst, arith}
use Rattle.std.proofs.lemmas.List.{append-nil, take-append-drop, length-take-le, length-append}
use Rattle.std.proofs.Math.Seq.{take-append_seam, drop-append_seam}
use Rattle.rate_expr.specs.Language.{In}
use Rattle.rate_expr.specs.Rates.{Regex}
use Rattle.rate_expr.specs.Words.{Word}
use Rattle.ambiguity_example.specs.Cuts.{ArePieces}
use Rattle.ambiguity_example.specs.Shows.{Shown, ShowsSplits}

module _ (word : Word) (cuts : List ℕ) (middle : ℕ)
    (are : cuts ≡ 0 ∷ middle ∷ length word ∷ []) where
  -- the pieces up to the middle and after it
  pub halves : middle ≤ length word → ArePieces word cuts (take middle word ∷ drop middle word ∷ [])
  halves within =
      let long : length (take middle word) ≡ middle = length-take-le middle word within in
      let there : 0 + length (take middle word) ≡ middle = omega arith in
      let whole : take middle word ++ drop middle word ≡ word = take-append-drop middle word in
      let end : middle + length (drop middle word) ≡ length word =
      omega (arith, ap length whole, length-append (take middle word) (drop middle word)) in
      record {
        whole = ap (λ w. take middle word ++ w) (append-nil (drop middle word)) ∙ whole;
        at = ap (λ (n : ℕ). 0 ∷ n ∷ (n + length (drop middle word)) ∷ []) there
            ∙ ap (λ (n : ℕ). 0 ∷ middle ∷ n ∷ []) end ∙ sym are;
      }

  -- and there are no others
  pub only_halves : (u v : Word) → ArePieces word cuts (u ∷ v ∷ [])
      → (take middle word ≡ u) × (drop middle word ≡ v)
  only_halves u v pieces =
      let same : 0 ∷ (0 + length u) ∷ ((0 + length u) + length v) ∷ []
      ≡ 0 ∷ middle ∷ length word ∷ [] = pieces.at ∙ are in
      let here : 0 + length u ≡ middle = cc in
      let there : length u ≡ middle = omega arith in
      let whole : u ++ v ≡ word = ap (λ w. u ++ w) (sym (append-nil v)) ∙ pieces.whole in (
        subst (λ (n : ℕ). take n word ≡ u) there
            (subst (λ w. take (length u) w ≡ u) whole (take-append_seam u v)),
        subst (λ (n : ℕ). drop n word ≡ v) there
            (subst (λ w. drop (length u) w ≡ v) whole (drop-append_seam u v)),
      )

-- a rate has a word up to a place, and another one after it
abbrev pub InBoth : Regex → Regex → Word → ℕ → Type 0
InBoth r s word middle = In r (take middle word) × In s (drop middle word)

module _ (r s : Regex) (shown : Shown) (shorter longer : ℕ)
    (first : shown.first ≡ 0 ∷ shorter ∷ length shown.items ∷ [])
    (second : shown.second ≡ 0 ∷ longer ∷ length shown.items ∷ []) where
  -- two splits at these places
  pub splits_shown : longer ≤ length shown.items → shorter < longer
      → InBoth r s shown.items shorter → InBoth r s shown.items longer → ShowsSplits r s shown
  splits_shown within less one other = record {
    u = take shorter shown.items;
    v = drop shorter shown.items;
    u' = take longer shown.items;
    v' = drop longer shown.items;
    first = halves shown.items shown.first shorter first (omega arith);
    second = halves shown.items shown.second longer second within;
    shorter = omega (
      arith,
      length-take-le shorter shown.items (omega arith),
      length-take-le longer shown.items within,
    );
    in_first = (one.0, other.0);
    in_second = (one.1, other.1);
  }

  -- splits that are shown are at these places
  pub shown_splits : ShowsSplits r s shown → (shorter < longer)
      × InBoth r s shown.items shorter × InBoth r s shown.items longer
  shown_splits shows =
      let one = only_halves shown.items shown.first shorter first shows.u shows.v shows.first in
      let other = only_halves shown.items shown.second longer second shows.u'
      shows.v' shows.second in
      let at : 0 ∷ (0 + length shows.u) ∷ ((0 + length shows.u) + length shows.v) ∷ []
      ≡ 0 ∷ shorter ∷ length shown.items ∷ [] = shows.first.at ∙ first in
      let at' : 0 ∷ (0 + length shows.u') ∷ ((0 + length shows.u') + length shows.v') ∷ []
      ≡ 0 ∷ longer ∷ length shown.items ∷ [] = shows.second.at ∙ second in
      let there : 0 + length shows.u ≡ shorter = cc in
      let there' : 0 + length shows.u' ≡ longer = cc in
      let less = shows.shorter in (
        omega arith,
        (subst (In r) (sym one.0) shows.in_first.0, subst (In s) (sym one.1) shows.in_second.0),
        (subst (In r) (sym other.0) shows.in_first.1, subst (In s) (sym other.1) shows.in_second.1),
      )
