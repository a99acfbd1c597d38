-- A byte list has exactly one list of lines.
use Rattle.std.proofs.Common.{◌≡◌, ◌≢◌, ◌⊎◌, inl, inr, ℕ, Bool, true, false, eqb, List, [], ◌∷◌}
use Rattle.std.proofs.Common.{◌++◌, refl, sym, ap, ◌∙◌, append_assoc, append-nil, map}
use Rattle.std.specs.List.{flat_map, AllByRecursion}
use Rattle.std.proofs.lemmas.Bool.Decides.{eqb_tells}
use Rattle.std.proofs.lemmas.List.Elements.{All-nil, All-push}
use Rattle.io_edge.specs.Lines.{Shown, NoLf, AreLines, ended_by_lf, last_line, lines_from, lines}
use Rattle.io_edge.proofs.LineLaws.{lines_from-piece}

-- a line and its LF
abbrev with_lf : List ℕ → List ℕ
with_lf raw = raw ++ 10 ∷ []

-- the lines of bytes that are taken apart at each LF
lines_from-parts : (raws : List (List ℕ)) (rest : List ℕ) (ended : Bool)
    → AllByRecursion NoLf raws → NoLf rest
    → lines (flat_map with_lf raws ++ rest) ended ≡ map ended_by_lf raws ++ last_line rest ended
lines_from-parts [] rest ended each last =
    ap (λ l. lines l ended) (sym (append-nil rest)) ∙ lines_from-piece [] rest [] ended last
lines_from-parts (raw ∷ raws) rest ended each last =
    let after = flat_map with_lf raws ++ rest in
    ap (λ l. lines l ended) (append_assoc (with_lf raw) (flat_map with_lf raws) rest)
    ∙ ap (λ l. lines l ended) (append_assoc raw (10 ∷ []) after)
    ∙ lines_from-piece [] raw (10 ∷ after) ended each.0
    ∙ ap (λ l. ended_by_lf raw ∷ l) (lines_from-parts raws rest ended each.1 last)

-- no other list is one of the lines
pub lines-only : (bytes : List ℕ) (ended : Bool) (shown : List Shown) → AreLines bytes ended shown
    → shown ≡ lines bytes ended
lines-only bytes ended shown are =
    are.are ∙ sym (lines_from-parts are.raws are.rest ended are.each are.last)
    ∙ ap (λ l. lines l ended) (sym are.whole)

-- a line before an LF comes before the lines of the bytes after it
AreLines-cut : (start bytes : List ℕ) (ended : Bool) (shown : List Shown) → NoLf start
    → AreLines bytes ended shown
    → AreLines (start ++ 10 ∷ bytes) ended (ended_by_lf start ∷ shown)
AreLines-cut start bytes ended shown no_lf are = record {
  raws = start ∷ are.raws;
  rest = are.rest;
  whole = ap (λ l. start ++ 10 ∷ l) are.whole ∙ sym (append_assoc start (10 ∷ []) _)
      ∙ sym (append_assoc (with_lf start) (flat_map with_lf are.raws) are.rest);
  each = (no_lf, are.each);
  last = are.last;
  are = ap (λ l. ended_by_lf start ∷ l) are.are;
}

-- the next byte ends the line that has begun, or goes into it
AreLines-next : (start : List ℕ) (x : ℕ) (bytes : List ℕ) (ended : Bool) → NoLf start
    → ((eqb x 10 ≡ true) × (x ≡ 10)) ⊎ ((eqb x 10 ≡ false) × (x ≢ 10))
    → AreLines bytes ended (lines bytes ended)
    → (x ≢ 10
    → AreLines ((start ++ x ∷ []) ++ bytes) ended (lines_from (start ++ x ∷ []) bytes ended))
    → AreLines (start ++ x ∷ bytes) ended (lines_from start (x ∷ bytes) ended)
AreLines-next start x bytes ended no_lf (inl is) cut continues =
    rw is.1 (AreLines-cut start bytes ended (lines bytes ended) no_lf cut)
AreLines-next start x bytes ended no_lf (inr is) cut continues =
    rw (is.0, ← append_assoc start (x ∷ []) bytes) (continues is.1)

-- the function gives the lines, where the first one has begun
lines_from-are : (start bytes : List ℕ) (ended : Bool) → NoLf start
    → AreLines (start ++ bytes) ended (lines_from start bytes ended)
lines_from-are start [] ended no_lf =
    record {
      raws = [];
      rest = start;
      whole = append-nil start;
      each = tt;
      last = no_lf;
      are = refl;
    }
lines_from-are start (x ∷ bytes) ended no_lf =
    AreLines-next start x bytes ended no_lf (eqb_tells x 10)
    (lines_from-are [] bytes ended (All-nil (λ b. b ≢ 10)))
    (λ not_lf. lines_from-are (start ++ x ∷ []) bytes ended
    (All-push (λ b. b ≢ 10) start x no_lf not_lf))

-- the function gives the lines
pub lines-are : (bytes : List ℕ) (ended : Bool) → AreLines bytes ended (lines bytes ended)
lines-are bytes ended = lines_from-are [] bytes ended (All-nil (λ b. b ≢ 10))
