-- The replies to commands that ask for a query of a collect.
use Rattle.std.proofs.Common.{◌≡◌, ℕ, List, Option, Some, None, Result, Ok, Err, IfOk}
use Rattle.std.proofs.Common.{refl, subst}
use Rattle.std.specs.Option.{option_map}
use Rattle.language_base.specs.declared.span.Span.{Span}
use Rattle.key_shards.specs.Collections.{Collection, collection_in}
use Rattle.query_model.specs.Monitors.{Monitor}
use Rattle.query_model.specs.Queries.{Qre}
use Rattle.shard_run.specs.Pieces.{IsRefusal, IsReplyFor, query_of, whole}
use Rattle.shard_run.specs.Texts.{whole_text}
use Rattle.shard_run.specs.Verdicts.{IsAccepted}
use Rattle.shard_run.specs.declared.command.Command.TheVariants as asks
use Rattle.shard_run.specs.declared.command.Piece.{Piece}
use Rattle.shard_run.specs.declared.reply.Reply.{Reply}
use Rattle.shard_run.specs.declared.reply.Reply.TheVariants.{Text, Refusal}

-- where no query was made of what was found, nothing was
pub made_of_none : (found : Option Collection) (of : Collection → Qre) → None ≡ option_map of found
    → found ≡ None
made_of_none None of is = refl
made_of_none (Some given) of is = absurd (cc)

module _ (piece : Piece) (monitor : Monitor) (place : Span) where
  -- a line that refuses whatever text is accepted so
  pub reply_refused : {E : Type 0} (line : List ℕ) (result : Result Reply E)
      → ((text : List ℕ) → IsAccepted text monitor place → IsRefusal (asks.Text piece) text line)
      → IfOk result (λ reply. reply ≡ Refusal line)
      → IfOk result (IsReplyFor piece monitor place)
  reply_refused line (Ok (Text text)) refuses is = absurd (cc)
  reply_refused line (Ok (Refusal written)) refuses is = λ text accepted.
      let same : line ≡ written = cc in
      subst (IsRefusal (asks.Text piece) text) same (refuses text accepted)
  reply_refused line (Err error) refuses is = tt

  -- that the main query is no collect
  pub reply_whole : {E : Type 0} (result : Result Reply E)
      → None ≡ option_map (query_of piece) (collection_in monitor.query)
      → IfOk result (λ reply. reply ≡ Refusal (whole_text place))
      → IfOk result (IsReplyFor piece monitor place)
  reply_whole result is = reply_refused (whole_text place) result
      (λ text accepted. whole monitor place accepted
      (made_of_none (collection_in monitor.query) (query_of piece) is))
