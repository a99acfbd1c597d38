use Rattle.std.proofs.Common.{◌≡◌, ℕ, ◌^◌, ◌-◌, min, take, true}
use Rattle.std.specs.Char.{is_ascii_digit}
use Rattle.std.specs.List.{list_all}
use Rattle.std.specs.Str.Parse.{digits_value_after}
use Rattle.line_reader.proofs.number.size_after.Given as goal

-- all bytes so far are digits, and what they write
abbrev pub invariant-loop-digit : goal.invariant-loop-digit
invariant-loop-digit l = record {
  digits : list_all is_ascii_digit (take l.digit-index l.digits) ≡ true;
  kept : (exact : ℕ) → l.fn.size ≡ min exact (2 ^ 64 - 1)
      → l.after ≡ min (digits_value_after 10 exact (take l.digit-index l.digits)) (2 ^ 64 - 1);
}
