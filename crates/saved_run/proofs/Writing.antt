-- A snapshot that is written after its length.
use Rattle.std.proofs.Common.{◌≡◌, ℕ, List, ◌++◌, length, Option, Ok, sym, ap, subst, ◌∙◌}
use Rattle.std.proofs.Common.{append_assoc}
use Rattle.std.proofs.KnownBytes.{Appends-trans}
use Rattle.std.specs.Io.KnownBytes.{Appends}
use Rattle.io_edge.specs.Written.{AppendsSome}
use Rattle.stream_run.specs.Written.{Reported}
use Rattle.stream_run.specs.declared.status.Status.{Status}
use Rattle.stream_run.specs.declared.status.Status.TheVariants.{Done, SinkFault}
use Rattle.saved_run.specs.Texts.{length_text, snapshot_text}
use Rattle.saved_run.specs.Written.{IsWritten}

-- a part of the line is a part of it and the snapshot
pub part_of_line : (old new : Option (List ℕ)) (line text bytes : List ℕ) → line ≡ text
    → AppendsSome old new line → AppendsSome old new (text ++ bytes)
part_of_line old new line text bytes is (front, rest, parts, appends) = (
  front,
  rest ++ bytes,
  ap (λ (l : List ℕ). l ++ bytes) (sym is ∙ parts) ∙ append_assoc front rest bytes,
  appends,
)

-- the snapshot after the line
pub after_line : (old mid new : Option (List ℕ)) (line bytes : List ℕ)
    → line ≡ length_text (length bytes) → Appends old mid line → (status : Status)
    → Reported status (Ok bytes) mid new → IsWritten snapshot_text (Ok status) (Ok bytes) old new
after_line old mid new line bytes is wrote Done more =
    subst (λ (l : List ℕ). Appends old new (l ++ bytes)) is
    (Appends-trans old mid new line bytes wrote more)
after_line old mid new line bytes is wrote SinkFault (front, rest, parts, more) = (
  line ++ front,
  rest,
  ap (λ (l : List ℕ). l ++ bytes) (sym is) ∙ ap (λ (l : List ℕ). line ++ l) parts
      ∙ sym (append_assoc line front rest),
  Appends-trans old mid new line front wrote more,
)
after_line old mid new line bytes is wrote status more = absurd more
