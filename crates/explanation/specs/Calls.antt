-- Statement. The calls that are open at the end of a text. Its bytes are read from the front,
-- strings and comments are distinguished from the rest, and open brackets are counted. The call
-- around a place at some level is the one that was opened last at that level.
use Rattle.std.specs.Prelude.{ℕ, ◌+◌, ◌-◌, ◌==◌, List, if◌then◌else◌}
use Rattle.std.specs.List.{fold}
use Rattle.query_tokens.specs.Raw.{is_word_byte}
use Rattle.explanation.specs.declared.calls.Call.{Call}
use Rattle.explanation.specs.declared.calls.Part.{Part}
use Rattle.explanation.specs.declared.calls.Part.TheVariants.{Plain, Text, Escape, Comment}
use Rattle.explanation.specs.declared.calls.Scan.{Scan}

-- what the byte after this one is part of
abbrev pub part_after : Part → ℕ → Part
part_after Plain byte = if byte == 34 then Text else (if byte == 35 then Comment else Plain)
part_after Text byte = if byte == 34 then Plain else (if byte == 92 then Escape else Text)
part_after Escape byte = Text
part_after Comment byte = if byte == 10 then Plain else Comment

-- an opening bracket
abbrev pub opened : ℕ → Scan → Scan
opened level scan = record scan {
  level = scan.level + 1;
  call = if scan.level + 1 == level then record { head = scan.word; argument = 0 } else scan.call;
}

-- a comma
abbrev pub parted : ℕ → Scan → Scan
parted level scan =
    if scan.level == level
    then record scan { call = record scan.call { argument = scan.call.argument + 1 } } else scan

-- another byte: a word continues as long as its bytes follow each other
abbrev pub worded : Scan → ℕ → Scan
worded scan byte =
    if is_word_byte byte
    then record scan {
      word = record {
        from = if scan.word.to == scan.at then scan.word.from else scan.at;
        to = scan.at + 1;
      };
    }
    else scan

-- a byte outside of strings and comments
abbrev pub token_byte : ℕ → Scan → ℕ → Scan
token_byte level scan byte =
    if byte == 40 then opened level scan
    else (if byte == 41 then record scan { level = scan.level - 1 }
    else (if byte == 44 then parted level scan else worded scan byte))

-- a byte in a part
abbrev pub in_part : Part → ℕ → Scan → ℕ → Scan
in_part Plain level scan byte = token_byte level scan byte
in_part _ level scan byte = scan

-- one byte more
abbrev pub scanned : ℕ → Scan → ℕ → Scan
scanned level scan byte = record (in_part scan.part level scan byte) {
  part = part_after scan.part byte;
  at = scan.at + 1;
}

-- before the text
abbrev pub start : Scan
start = record {
  part = Plain;
  at = 0;
  word = record { from = 0; to = 0 };
  level = 0;
  call = record { head = record { from = 0; to = 0 }; argument = 0 };
}

-- after the text
abbrev pub scan_of : ℕ → List ℕ → Scan
scan_of level text = fold (scanned level) start text

-- how many calls are open
abbrev pub level_of : List ℕ → ℕ
level_of text = (scan_of 0 text).level

-- the call that was opened last at this level
abbrev pub call_at : List ℕ → ℕ → Call
call_at text level = (scan_of level text).call
