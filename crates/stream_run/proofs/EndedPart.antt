-- A front of what a run has to write was written, and the ends that were met.
use Rattle.std.proofs.Common.{◌≡◌, ◌⊎◌, inl, inr, ℕ, true, false, List, [], ◌++◌, Option, Some, None}
use Rattle.std.proofs.Common.{IfSome, sym, ap}
use Rattle.std.proofs.Common.{◌∙◌, append_assoc, append-nil, arith}
use Rattle.std.proofs.KnownBytes.{Appends-trans}
use Rattle.std.specs.Io.KnownBytes.{Appends, Consumes}
use Rattle.io_edge.specs.Counts.{Rose, next_count}
use Rattle.io_edge.specs.Lines.{Shown, lines}
use Rattle.io_edge.specs.Reading.{Reading, lines_after}
use Rattle.io_edge.specs.Written.{AppendsSome}
use Rattle.stream_run.specs.Endings.{Begins, EndedBy, Writes}
use Rattle.stream_run.specs.Outside.{MeetsOneAtMost, Outside}
use Rattle.stream_run.specs.Running.{Showed}
use Rattle.stream_run.specs.declared.status.Status.{Status}
use Rattle.stream_run.specs.declared.status.Status.TheVariants.{Done, Refused, Usage, QueryFault}
use Rattle.stream_run.specs.declared.status.Status.TheVariants.{ItemFault, SinkFault, Memory, Limit}
use Rattle.stream_run.proofs.Showing.{Showed-lines, Showed-split, true_or_false}

-- a count that is one more rose
pub one_more : (before now : ℕ) → now ≡ next_count before → Rose before now
one_more before now is = omega (arith, is)

-- no end was met, or one, as the reading has met none or one
pub one_at_most : (ends ends' : ℕ) (reading : Reading)
    → (reading.met ≡ true → ends' ≡ next_count ends) → (reading.met ≡ false → ends' ≡ ends)
    → MeetsOneAtMost ends ends'
one_at_most ends ends' reading met going = at (true_or_false reading.met)
  where
    at : (reading.met ≡ true) ⊎ (reading.met ≡ false) → MeetsOneAtMost ends ends'
    at (inl is) = inr (met is)
    at (inr not) = inl (going not)

-- the lines of what was read begin with these, and so do those that an LF ends if no end was met
pub record Begin (old new : Outside) (got : List ℕ) (shown : List Shown) : Type 0 where
  pub all : Begins shown (lines got true)
  pub whole : (Rose old.ends new.ends → ⊥) → Begins shown (lines got false)

-- lines that were shown are such
pub showed_begin : (old new : Outside) (got : List ℕ) (shown : List Shown) (reading : Reading)
    → Showed got shown reading → (reading.met ≡ true → new.ends ≡ next_count old.ends)
    → Begin old new got shown
showed_begin old new got shown reading showed met = record {
  all = Showed-split got shown reading showed;
  whole = λ none. at none (true_or_false reading.met);
}
  where
    at : (Rose old.ends new.ends → ⊥) → (reading.met ≡ true) ⊎ (reading.met ≡ false)
        → Begins shown (lines got false)
    at none (inl is) = absurd (none (one_more old.ends new.ends (met is)))
    at none (inr going) =
        (lines_after reading [] false, Showed-lines got shown reading false showed going)

-- a front of a text for some lines was written, and the sink failed
pub ended_part : (Says : List Shown → List ℕ → Type 0) (old new : Outside) (got : List ℕ)
    (shown : List Shown) (text : List ℕ) → MeetsOneAtMost old.ends new.ends
    → Consumes old.left new.left got → Begin old new got shown → Says shown text
    → AppendsSome old.taken new.taken text → EndedBy Says SinkFault old new
ended_part Says old new got shown text ends read begin said wrote = (
  ends,
  got,
  read,
  record {
    some = shown;
    text = text;
    said = said;
    wrote = wrote;
    begins = begin.all;
    no_end = begin.whole;
  },
)

-- a whole text is a front of itself
pub all_part : (old new : Option (List ℕ)) (text : List ℕ) → Appends old new text
    → AppendsSome old new text
all_part old new text appends = (text, [], sym (append-nil text), appends)

-- after a text, a front of another one is a front of both
pub part_after : (old now new : Option (List ℕ)) (text more : List ℕ) → Appends old now text
    → AppendsSome now new more → AppendsSome old new (text ++ more)
part_after old now new text more wrote (front, rest, parts, appends) = (
  text ++ front,
  rest,
  ap (λ (l : List ℕ). text ++ l) parts ∙ sym (append_assoc text front rest),
  Appends-trans _ _ _ _ _ wrote appends,
)

-- what holds of the bytes that are left, where it follows from another fact
pub left_so : (left : Option (List ℕ)) (P Q : List ℕ → Type 0) → ((bytes : List ℕ) → P bytes → Q bytes)
    → IfSome left P → IfSome left Q
left_so (Some bytes) P Q so holds = so bytes holds
left_so None P Q so holds = tt

-- what was written for lines is what another relation says of it, too
writes_so : (Says Tells : List Shown → List ℕ → Type 0)
    → ((shown : List Shown) (text : List ℕ) → Says shown text → Tells shown text)
    → (old new : Outside) (shown : List Shown) → Writes Says old new shown
    → Writes Tells old new shown
writes_so Says Tells so old new shown (text, said, wrote) = (text, so shown text said, wrote)

-- and so is how a run ended
pub ended_so : (Says Tells : List Shown → List ℕ → Type 0)
    → ((shown : List Shown) (text : List ℕ) → Says shown text → Tells shown text)
    → (status : Status) (old new : Outside) → EndedBy Says status old new
    → EndedBy Tells status old new
ended_so Says Tells so Done old new (ends, wrote) = (
  ends,
  left_so old.left _ _ (λ bytes. writes_so Says Tells so old new (lines bytes true)) wrote,
)
ended_so Says Tells so ItemFault old new (ends, got, read, wrote) =
    (ends, got, read, writes_so Says Tells so old new (lines got false) wrote)
ended_so Says Tells so SinkFault old new (ends, got, read, part) = (
  ends,
  got,
  read,
  record {
    some = part.some;
    text = part.text;
    said = so part.some part.text part.said;
    wrote = part.wrote;
    begins = part.begins;
    no_end = part.no_end;
  },
)
ended_so Says Tells so Memory old new (ends, got, read, wrote) = (
  ends,
  got,
  read,
  record {
    some = wrote.some;
    whole = wrote.whole;
    wrote = writes_so Says Tells so old new wrote.some wrote.wrote;
  },
)
ended_so Says Tells so Limit old new (ends, got, all, read, wrote) =
    (ends, got, all, read, writes_so Says Tells so old new (lines got false) wrote)
ended_so Says Tells so Usage old new ended = ended
ended_so Says Tells so QueryFault old new ended = ended
ended_so Says Tells so Refused old new ended = ended
