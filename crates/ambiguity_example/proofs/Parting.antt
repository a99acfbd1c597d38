-- Cuts that part a word into words of a rate, piece by piece.
use Rattle.std.proofs.Common.{◌≡◌, ℕ, ◌+◌, ◌-◌, ◌<◌, ◌≤◌, get_or, List, [], ◌∷◌, ◌++◌, length, take}
use Rattle.std.proofs.Common.{drop, refl, sym, ap, ◌∙◌, subst, arith, length-append}
use Rattle.std.proofs.lemmas.List.{take-append-drop, length-take, length-drop}
use Rattle.std.proofs.Math.Seq.{take-append_seam, drop-append_seam, take-length}
use Rattle.std.specs.List.{AllByRecursion}
use Rattle.rate_expr.specs.Language.{In}
use Rattle.rate_expr.specs.Rates.{Regex}
use Rattle.rate_expr.specs.Words.{Word, join}
use Rattle.ambiguity_example.specs.Cuts.{cuts_from, PartsInto}
use Rattle.ambiguity_example.specs.Parts.{PartsFrom}

-- the cuts after the place where the pieces begin
abbrev pub ends_from : ℕ → List Word → List ℕ
ends_from at [] = []
ends_from at (piece ∷ pieces) = cuts_from (at + length piece) pieces

-- the first cut is where the pieces begin
pub begins_there : (at : ℕ) (pieces : List Word) → cuts_from at pieces ≡ at ∷ ends_from at pieces
begins_there at [] = refl
begins_there at (piece ∷ pieces) = refl

-- the numbers after the first
pub after_first : (cuts : List ℕ) → take (length cuts - 1) (drop 1 cuts) ≡ drop 1 cuts
after_first cuts = ap (λ (n : ℕ). take n (drop 1 cuts)) (sym (length-drop 1 cuts))
    ∙ take-length (drop 1 cuts)

module _ (rate : Regex) where
  -- pieces from a place on
  abbrev pub Pieces : ℕ → Word → List ℕ → Type 0
  Pieces at word cuts = (pieces : List Word) × (join pieces ≡ word)
      × (cuts_from at pieces ≡ at ∷ cuts) × AllByRecursion (In rate) pieces

  -- what is parted piece by piece has pieces
  pub pieces_of : (at : ℕ) (word : Word) (cuts : List ℕ) → PartsFrom rate at word cuts
      → Pieces at word cuts
  pieces_of at word [] none = ([], sym none, refl, tt)
  pieces_of at word (cut ∷ cuts) (below, within, in_rate, rest) =
      let more = pieces_of cut (drop (cut - at) word) cuts rest in
      let long : length (take (cut - at) word) ≡ cut - at =
      omega (arith, length-take (cut - at) word) in
      let there : at + length (take (cut - at) word) ≡ cut = omega (arith, long) in (
        take (cut - at) word ∷ more.0,
        ap (λ w. take (cut - at) word ++ w) more.1 ∙ take-append-drop (cut - at) word,
        ap (λ cs. at ∷ cs) (ap (λ (n : ℕ). cuts_from n more.0) there ∙ more.2),
        (in_rate, more.3),
      )

  -- what has pieces is parted piece by piece
  pub from_pieces : (at : ℕ) (pieces : List Word) → AllByRecursion (In rate) pieces
      → PartsFrom rate at (join pieces) (ends_from at pieces)
  from_pieces at [] all = refl
  from_pieces at (piece ∷ pieces) all =
      let long : (at + length piece) - at ≡ length piece = omega arith in
      subst (λ cs. PartsFrom rate at (piece ++ join pieces) cs)
      (sym (begins_there (at + length piece) pieces)) (
        omega arith,
        omega (arith, length-append piece (join pieces)),
        subst (λ (n : ℕ). In rate (take n (piece ++ join pieces))) (sym long)
            (subst (In rate) (sym (take-append_seam piece (join pieces))) all.0),
        subst (λ (n : ℕ). PartsFrom rate (at + length piece) (drop n (piece ++ join pieces))
            (ends_from (at + length piece) pieces)) (sym long)
            (subst
            (λ w. PartsFrom rate (at + length piece) w (ends_from (at + length piece) pieces))
            (sym (drop-append_seam piece (join pieces)))
            (from_pieces (at + length piece) pieces all.1)),
      )

  -- cuts from the place 0 on part the word
  pub parted : (word : Word) (cuts : List ℕ) → PartsFrom rate 0 word cuts
      → PartsInto rate word (0 ∷ cuts)
  parted word cuts from =
      let pieces = pieces_of 0 word cuts from in
      (pieces.0, record { whole = pieces.1; at = pieces.2 }, pieces.3)

  -- cuts that part the word begin with 0, and the others part it from there
  pub parted_from : (word : Word) (first : ℕ) (cuts : List ℕ) → PartsInto rate word (first ∷ cuts)
      → (first ≡ 0) × PartsFrom rate 0 word cuts
  parted_from word first cuts (pieces, are, all) =
      let same : 0 ∷ ends_from 0 pieces ≡ first ∷ cuts = sym (begins_there 0 pieces) ∙ are.at in
      let begins : first ≡ 0 = cc in
      let ends : ends_from 0 pieces ≡ cuts = cc in (
        begins,
        subst (λ w. PartsFrom rate 0 w cuts) are.whole
            (subst (λ cs. PartsFrom rate 0 (join pieces) cs) ends (from_pieces 0 pieces all)),
      )

  -- no cuts part no word
  pub none_parted : (word : Word) → PartsInto rate word [] → ⊥
  none_parted word (pieces, are, all) =
      let same : 0 ∷ ends_from 0 pieces ≡ [] = sym (begins_there 0 pieces) ∙ are.at in cc

  -- the pieces are the one up to the first cut and those after it
  pub piece_on : (at : ℕ) (word : Word) (cut : ℕ) (cuts : List ℕ) (front rest : Word)
      → front ≡ take (cut - at) word → rest ≡ drop (cut - at) word
      → PartsFrom rate at word (cut ∷ cuts) → PartsFrom rate cut rest cuts
  piece_on at word cut cuts front rest here after from =
      subst (λ w. PartsFrom rate cut w cuts) (sym after) from.3

  pub piece_back : (at : ℕ) (word : Word) (cut : ℕ) (cuts : List ℕ) (front rest : Word)
      → front ≡ take (cut - at) word → rest ≡ drop (cut - at) word → at ≤ cut
      → cut - at ≤ length word → In rate front
      → PartsFrom rate cut rest cuts → PartsFrom rate at word (cut ∷ cuts)
  piece_back at word cut cuts front rest here after below within in_rate from = (
    below,
    within,
    subst (In rate) here in_rate,
    subst (λ w. PartsFrom rate cut w cuts) after from,
  )

  -- the same, by where the cut is
  pub first_parted : (word : Word) (cuts : List ℕ) → 0 < length cuts → PartsInto rate word cuts
      → (get_or cuts 0 0 ≡ 0) × PartsFrom rate 0 word (drop 1 cuts)
  first_parted word [] some into = absurd (omega arith)
  first_parted word (first ∷ cuts) some into = parted_from word first cuts into

  pub parted_first : (word : Word) (cuts : List ℕ) → 0 < length cuts → get_or cuts 0 0 ≡ 0
      → PartsFrom rate 0 word (drop 1 cuts) → PartsInto rate word cuts
  parted_first word [] some begins from = absurd (omega arith)
  parted_first word (first ∷ cuts) some begins from =
      subst (λ (n : ℕ). PartsInto rate word (n ∷ cuts)) (sym begins) (parted word cuts from)

  pub no_cuts : (word : Word) (cuts : List ℕ) → length cuts < 1 → PartsInto rate word cuts → ⊥
  no_cuts word [] none into = none_parted word into
  no_cuts word (first ∷ cuts) none into = absurd (omega arith)
