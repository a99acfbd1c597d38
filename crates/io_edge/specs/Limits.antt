-- Statement. The limits of lines and of buffers. A value that is equal to its limit is accepted.
use Rattle.std.specs.Prelude.{ℕ, ◌-◌, ◌^◌}

-- the bytes before its line end of a line that is shown
abbrev pub max_line : ℕ
max_line = 65536

-- the bytes that wait to be flushed
abbrev pub max_held : ℕ
max_held = 65536

-- the bytes that are taken in all
abbrev pub max_count : ℕ
max_count = 2 ^ 63 - 1
