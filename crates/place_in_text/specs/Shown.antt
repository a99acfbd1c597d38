-- Statement. How a byte is shown, so that each takes one column.
use Rattle.std.specs.Prelude.{ℕ, ◌==◌, ◌&&◌, nat_le, if◌then◌else◌}

-- a byte from a space to `~` is shown as it is, a tab as a space, and any other as a question mark
abbrev pub shown_byte : ℕ → ℕ
shown_byte byte =
    if nat_le 32 byte && nat_le byte 126 then byte else (if byte == 9 then 32 else 63)
