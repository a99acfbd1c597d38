-- The last line among the bytes of a chunk, and those that are not searched yet.
use Rattle.std.proofs.Common.{◌≡◌, ◌≢◌, ◌<◌, ◌≤◌, ◌==◌, ℕ, ◌+◌, ◌-◌, List, length, get_or, take}
use Rattle.std.proofs.Common.{drop, Some, None, true, refl, sym, ap, ◌∙◌, arith, length-drop}
use Rattle.std.proofs.lemmas.Bool.Decides.{nat_tests}
use Rattle.std.proofs.lemmas.List.{drop-take, drop-drop, get_or-drop, get_or_default}
use Rattle.std.proofs.lemmas.List.Elements.{All-drop, All-same}
use Rattle.memchr.specs.Find.{IsLastByte, is_byte}
use Rattle.io_edge.specs.Lines.{NoLf}
use Rattle.io_edge.specs.LinesEnd.{EndsLines}

-- where no bytes are, none is an LF
pub ends_nothing : (bytes : List ℕ) → EndsLines (take 0 bytes) 0
ends_nothing bytes = record {
  within = omega arith;
  lf = λ some. absurd (omega (arith, some));
  rest = λ k d within. absurd (omega (arith, within));
}

-- an LF at a place after the first bytes
lf_at : (bytes : List ℕ) (from k d at : ℕ) → from + k ≡ at → k < length (drop from bytes)
    → get_or (drop from bytes) k d ≡ 10 → (get_or bytes at 0 == 10) ≡ true
lf_at bytes from k d at later within is =
    let inside : at < length bytes = omega (arith, length-drop from bytes, within, later) in
    let same : get_or bytes at 0 ≡ 10 =
    get_or_default bytes at 0 d inside ∙ ap (λ i. get_or bytes i d) (sym later)
    ∙ sym (get_or-drop from bytes k d) ∙ is
    in
    rw same refl

-- the last LF, if there is one
pub ends_found : (bytes : List ℕ) (at : ℕ) → IsLastByte (is_byte 10) bytes (Some at)
    → EndsLines bytes (at + 1)
ends_found bytes at last =
    let lf : get_or bytes at 0 ≡ 10 = grind (arith, nat_tests, last.1) in
    let before : at + 1 - 1 ≡ at = omega arith in
    record {
      within = omega (arith, last.0.high);
      lf = λ some. ap (λ i. get_or bytes i 0) before ∙ lf;
      rest = λ k d within is.
          last.0.after (at + 1 + k) (omega arith)
          (omega (arith, length-drop (at + 1) bytes, within))
          (lf_at bytes (at + 1) k d (at + 1 + k) refl within is);
    }

pub ends_none : (bytes : List ℕ) → IsLastByte (is_byte 10) bytes None → EndsLines bytes 0
ends_none bytes none = record {
  within = omega arith;
  lf = λ some. absurd (omega (arith, some));
  rest = λ k d within is. none k (omega arith) within (lf_at bytes 0 k d k (omega arith) within is);
}

-- a part of the bytes up to some place
part_taken : (bytes : List ℕ) (from to : ℕ) → from ≤ to
    → take (to - from) (drop from bytes) ≡ drop from (take to bytes)
part_taken bytes from to ordered =
    let whole : to ≡ from + (to - from) = omega (arith, ordered) in
    sym (ap (λ n. drop from (take n bytes)) whole ∙ drop-take from (to - from) bytes)

-- an LF stands in a part that begins before the last line ends
pub part_lf : (bytes : List ℕ) (end from to : ℕ) → from ≤ to
    → EndsLines (take to bytes) end → from < end → NoLf (take (to - from) (drop from bytes)) → ⊥
part_lf bytes end from to ordered ends before no_lf =
    let none = All-same (λ x. x ≢ 10) _ _ (sym (part_taken bytes from to ordered)) no_lf in
    let at : from + (end - 1 - from) ≡ end - 1 = omega (arith, before) in
    let lf : get_or (drop from (take to bytes)) (end - 1 - from) 0 ≡ 10 =
    get_or-drop from (take to bytes) (end - 1 - from) 0 ∙ ap (λ i. get_or (take to bytes) i 0) at
    ∙ ends.lf (omega (arith, before))
    in
    none (end - 1 - from) 0
    (omega (arith, length-drop from (take to bytes), ends.within, before)) lf

-- and none in one that begins after it
pub part_no_lf : (bytes : List ℕ) (end from to : ℕ) → from ≤ to
    → EndsLines (take to bytes) end → end ≤ from → NoLf (take (to - from) (drop from bytes))
part_no_lf bytes end from to ordered ends later =
    let at : end + (from - end) ≡ from = omega (arith, later) in
    let rest : drop (from - end) (drop end (take to bytes)) ≡ drop from (take to bytes) =
    drop-drop (from - end) end (take to bytes) ∙ ap (λ n. drop n (take to bytes)) at
    in
    All-same (λ x. x ≢ 10) _ _ (part_taken bytes from to ordered ∙ sym rest)
    (All-drop (λ x. x ≢ 10) (from - end) (drop end (take to bytes)) ends.rest)
