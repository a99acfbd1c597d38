-- Statement. The words of the command line, and what they ask for.
use Rattle.std.specs.Prelude.{◌<◌, ℕ, Bool, ◌&&◌, nat_eq, nat_le, nat_lt, if◌then◌else◌, List, []}
use Rattle.std.specs.Prelude.{◌∷◌, length, codes, Option, Some, None}
use Rattle.std.specs.Char.{is_ascii_digit}
use Rattle.std.specs.Cmp.Lexicographic.{pointwise}
use Rattle.std.specs.List.{list_all}
use Rattle.std.specs.Str.Parse.{digits_value}
use Rattle.shard_run.specs.declared.command.Command.{Command}
use Rattle.shard_run.specs.declared.command.Command.TheVariants.{Text, Route}
use Rattle.shard_run.specs.declared.command.Piece.TheVariants.{Shard, Mask}

-- the most shards
abbrev pub max_shards : ℕ
max_shards = 1000000

-- the word is this text
abbrev pub says : List ℕ → List ℕ → Bool
says word text = pointwise nat_eq word text

-- the number of shards, from 1 on, that is written with at most 7 decimal digits, unless it is too
-- great
abbrev pub shards_in : List ℕ → Option ℕ
shards_in word =
    if nat_le (length word) 7 && list_all is_ascii_digit word
    && nat_lt 0 (digits_value 10 word) && nat_le (digits_value 10 word) max_shards
    then Some (digits_value 10 word) else None

-- `part` or `mask`
abbrev pub piece_of : List ℕ → Option Command
piece_of word =
    if says word (codes "part") then Some (Text Shard)
    else if says word (codes "mask") then Some (Text Mask) else None

-- among this many shards
abbrev pub route_among : Option ℕ → Option Command
route_among (Some shards) = Some (Route shards)
route_among None = None

-- `route`, with a number of shards
abbrev pub route_of : List ℕ → List ℕ → Option Command
route_of word shards =
    if says word (codes "route") then route_among (shards_in shards) else None

-- what the words ask for, if they have one of the forms: `part QUERY`, `mask QUERY` or
-- `route QUERY SHARDS ITEMS`
abbrev pub command_of : List (List ℕ) → Option Command
command_of (word ∷ query ∷ []) = piece_of word
command_of (word ∷ query ∷ shards ∷ items ∷ []) = route_of word shards
command_of words = None

-- a command that names a number of shards names one above 0
abbrev pub HasShards : Command → Type 0
HasShards (Text piece) = Unit {0}
HasShards (Route shards) = 0 < shards
