-- What is shown of the two sides of a place.
use Rattle.std.proofs.Common.{◌≡◌, ◌≢◌, ◌≤◌, ℕ, ◌+◌, ◌-◌, Bool, true, false, List, [], ◌++◌, length}
use Rattle.std.proofs.Common.{take, drop, sym, ap, ◌∙◌, append_assoc, append-nil, length-drop}
use Rattle.std.proofs.Common.{arith}
use Rattle.std.specs.Prelude.{if◌then◌else◌}
use Rattle.std.specs.Io.BufRead.{ends_with_byte, strip_last}
use Rattle.std.specs.List.{All, before_first, position_or_len, suffix_len}
use Rattle.std.specs.Prelude.{not}
use Rattle.std.proofs.lemmas.List.{drop-drop, length-take, take-append-drop, take_all}
use Rattle.std.proofs.lemmas.List.Elements.{All-drop, All-take}
use Rattle.place_in_text.specs.Laws.{IsWindow}
use Rattle.place_in_text.specs.Places.{before_place, from_place, is_lf}
use Rattle.place_in_text.specs.Windows.{count_before, count_from, shown_before, shown_from}
use Rattle.place_in_text.proofs.OneLine.{first_line-no_lf, last_line-no_lf}

-- how many bytes are shown of each side
before-within : (before from : ℕ) → count_before before from ≤ before
before-within before from = omega arith

both-short : (before from : ℕ) → count_before before from + count_from before from ≤ 100
both-short before from = omega arith

before-whole : (before from : ℕ) → before + from ≤ 100 → count_before before from ≡ before
before-whole before from short = omega arith

from-whole : (before from : ℕ) → before + from ≤ 100 → from ≤ count_from before from
from-whole before from short = omega arith

-- what is left out of a list that is cut at its front twice
cut-twice : (i j : ℕ) (bytes : List ℕ) → bytes ≡ take (i + j) bytes ++ drop j (drop i bytes)
cut-twice i j bytes =
    sym (take-append-drop (i + j) bytes)
    ∙ ap (λ (l : List ℕ). take (i + j) bytes ++ l) (sym (drop-drop j i bytes))

-- and of one that is cut at its end three times
front-of-front : (bytes line cut shown a b c : List ℕ) → bytes ≡ line ++ a → line ≡ cut ++ b
    → cut ≡ shown ++ c → bytes ≡ shown ++ (c ++ (b ++ a))
front-of-front bytes line cut shown a b c first second third =
    first ∙ ap (λ (l : List ℕ). l ++ a) (second ∙ ap (λ (l : List ℕ). l ++ b) third)
    ∙ apart shown c b a
  where
    apart : (s x y z : List ℕ) → ((s ++ x) ++ y) ++ z ≡ s ++ (x ++ (y ++ z))
    apart s x y z = simp append_assoc

-- a line is what is left without its CR, and the CR or nothing
cut-cr : (line : List ℕ) → (rest : List ℕ) × (line ≡ strip_last 13 line ++ rest)
cut-cr line = by (ends_with_byte 13 line)
  where
    by : (ends : Bool)
        → (rest : List ℕ) × (line ≡ (if ends then take (length line - 1) line else line) ++ rest)
    by true = (drop (length line - 1) line, sym (take-append-drop (length line - 1) line))
    by false = ([], sym (append-nil line))

-- of a line without LF no byte is one, with its CR or without
cut-no_lf : (line : List ℕ) → All (λ byte. byte ≢ 10) line
    → All (λ byte. byte ≢ 10) (strip_last 13 line)
cut-no_lf line none = by (ends_with_byte 13 line)
  where
    by : (ends : Bool)
        → All (λ byte. byte ≢ 10) (if ends then take (length line - 1) line else line)
    by true = All-take (λ byte. byte ≢ 10) (length line - 1) line none
    by false = none

-- this many bytes at the end, where these are all
all-last : (bytes : List ℕ) (count : ℕ) → count ≡ length bytes
    → drop (length bytes - count) bytes ≡ bytes
all-last bytes count is = let none : length bytes - count ≡ 0 = omega arith in
    ap (λ (n : ℕ). drop n bytes) none

last-length : (bytes : List ℕ) (count : ℕ) → count ≤ length bytes
    → length (drop (length bytes - count) bytes) ≡ count
last-length bytes count fits = omega (arith, length-drop (length bytes - count) bytes)

first-length : (bytes : List ℕ) (count : ℕ) → length (take count bytes) ≤ count
first-length bytes count = omega (arith, length-take count bytes)

-- no more is shown than there is room for
short : (before from : List ℕ)
    → length (drop (length before - count_before (length before) (length from)) before)
    + length (take (count_from (length before) (length from)) from) ≤ 100
short before from =
    let most : count_before (length before) (length from) + count_from (length before) (length from)
    ≤ 100 =
    both-short (length before) (length from) in
    omega (
      arith,
      last-length before (count_before (length before) (length from))
          (before-within (length before) (length from)),
      first-length from (count_from (length before) (length from)),
    )

-- what is shown is a part of the line with the place in it
pub windows : (text : List ℕ) (place : ℕ)
    → IsWindow text place (shown_before text place) (shown_from text place)
windows text place =
    let head = take place text in
    let tail = drop place text in
    let before = before_place text place in
    let from = from_place text place in
    let line = before_first is_lf tail in
    let start = length head - suffix_len (λ byte. not (is_lf byte)) head in
    let beyond = length before - count_before (length before) (length from) in
    let cut = cut-cr line in
    record {
      ends_there = (take (start + beyond) head, cut-twice start beyond head);
      begins_there = (
        drop (count_from (length before) (length from)) from
            ++ (cut.0 ++ drop (position_or_len is_lf tail) tail),
        front-of-front tail line from (shown_from text place)
            (drop (position_or_len is_lf tail) tail) cut.0
            (drop (count_from (length before) (length from)) from)
            (sym (take-append-drop (position_or_len is_lf tail) tail)) cut.1
            (sym (take-append-drop (count_from (length before) (length from)) from)),
      );
      one_line = (
        All-drop (λ byte. byte ≢ 10) beyond before (last_line-no_lf head),
        All-take (λ byte. byte ≢ 10) (count_from (length before) (length from)) from
            (cut-no_lf line (first_line-no_lf tail)),
      );
      short = short before from;
      whole = λ few. (
        all-last before (count_before (length before) (length from))
            (before-whole (length before) (length from) few),
        take_all (count_from (length before) (length from)) from
            (from-whole (length before) (length from) few),
      );
    }
