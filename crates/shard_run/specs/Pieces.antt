-- Statement. The queries that are made of a collect, and why a command refuses a query text.
use Rattle.std.specs.Prelude.{◌≡◌, ℕ, List, None, Some}
use Rattle.language_base.specs.declared.refusal.Refusal.{Refusal}
use Rattle.language_base.specs.declared.rule.Rule.TheVariants.{Size}
use Rattle.language_base.specs.declared.span.Span.{Span}
use Rattle.key_shards.specs.Collections.{Collection, collection_in, mask_of, shard_of}
use Rattle.key_shards.specs.Parted.{IsTooLarge}
use Rattle.query_compiler.specs.Compiled.{Compiles}
use Rattle.query_model.specs.Monitors.{Monitor}
use Rattle.query_model.specs.Queries.{Qre}
use Rattle.query_text.specs.Programs.{text_of}
use Rattle.report_writer.specs.Texts.{refusal_text}
use Rattle.type_checker.specs.Judged.{refused}
use Rattle.shard_run.specs.Texts.{whole_text}
use Rattle.shard_run.specs.Verdicts.{IsAccepted}
use Rattle.shard_run.specs.declared.command.Command.{Command}
use Rattle.shard_run.specs.declared.command.Command.TheVariants as asks
use Rattle.shard_run.specs.declared.command.Piece.{Piece}
use Rattle.shard_run.specs.declared.command.Piece.TheVariants.{Shard, Mask}
use Rattle.shard_run.specs.declared.reply.Reply.{Reply}
use Rattle.shard_run.specs.declared.reply.Reply.TheVariants as reply

-- the query of a shard, or the mask
abbrev pub query_of : Piece → Collection → Qre
query_of Shard given = shard_of given
query_of Mask given = mask_of given

-- the query is made: that of a shard, unless it would keep more slots than a query may
abbrev pub IsMade : Piece → Qre → Type 0
IsMade Shard query = IsTooLarge query → ⊥
IsMade Mask query = Unit {0}

-- the line by which a command refuses a query text
pub data IsRefusal (command : Command) (text : List ℕ) : List ℕ → Type 0 where
  -- the text breaks a rule
  broken : (why : Refusal) → Compiles text (refused why)
      → IsRefusal command text (refusal_text why)
  -- the main query is no collect
  whole : (monitor : Monitor) (place : Span) → IsAccepted text monitor place
      → collection_in monitor.query ≡ None → IsRefusal command text (whole_text place)
  -- the query of a shard would keep more slots than a query may
  large : (monitor : Monitor) (place : Span) → IsAccepted text monitor place
      → command ≡ asks.Text Shard → IsTooLarge monitor.query
      → IsRefusal command text (refusal_text (record { rule = Size; span = place }))

-- the reply to a command that asks for one of these queries, where the main query stands there
abbrev pub IsReplyFor : Piece → Monitor → Span → Reply → Type 0
IsReplyFor piece monitor place (reply.Text bytes) = (given : Collection)
    × (collection_in monitor.query ≡ Some given) × IsMade piece monitor.query
    × (bytes ≡ text_of monitor.layout (query_of piece given))
IsReplyFor piece monitor place (reply.Refusal lines) = (text : List ℕ)
    → IsAccepted text monitor place → IsRefusal (asks.Text piece) text lines
