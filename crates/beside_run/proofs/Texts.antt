-- What the texts of the two commands are to the lines.
use Rattle.std.proofs.Common.{◌≡◌, ℕ, max, length, List, [], ◌∷◌, Option, refl, sym, ap, subst, ◌∙◌}
use Rattle.std.specs.List.{AllByRecursion, AllZip}
use Rattle.io_edge.specs.Lines.{Shown}
use Rattle.item_schema.specs.Layout.{Layout}
use Rattle.value_ops.specs.declared.value.Value.{Value}
use Rattle.rate_expr.specs.Words.{Word}
use Rattle.query_model.specs.Checked.{CheckedQuery}
use Rattle.query_model.specs.Following.{IsAnswer}
use Rattle.query_model.specs.Monitors.{monitor_of}
use Rattle.query_model.specs.Queries.{Qre, plain_of}
use Rattle.query_model.specs.Rules.{free, IsClear}
use Rattle.stream_run.specs.Meanings.{IsMeaning, Meaning}
use Rattle.stream_run.specs.Output.{items_of, value_after}
use Rattle.stream_run.specs.Sessions.{IsAfter, first_origin}
use Rattle.stream_run.specs.declared.session.Session.{Session}
use Rattle.stream_run.proofs.OneAnswer.{one_answer}
use Rattle.beside_lines.specs.Besides.{AreBeside, BeginsFor}
use Rattle.beside_lines.specs.Filling.{most, origins_of}
use Rattle.beside_run.specs.Compiling.{IsNew, monitors_in}
use Rattle.beside_run.specs.Outputs.{AreBesides}

-- from the first line on, a text is what is written beside lines, whatever the queries mean
pub begins_for : {F : Type 0} (follows : F → Word → Type 0) (sessions : List (Session F))
    (meanings : List Meaning) → AllByRecursion (IsNew follows) sessions
    → AllZip IsMeaning (monitors_in sessions) meanings
    → AllZip (BeginsFor follows) (origins_of sessions) meanings
begins_for follows [] [] new mean = tt
begins_for follows [] (meaning ∷ meanings) new mean = absurd mean
begins_for follows (session ∷ sessions) [] new mean = absurd mean
begins_for follows (session ∷ sessions) (meaning ∷ meanings) new mean = (
  record { no_line = new.0.no_line; no_item = new.0.no_item; means = mean.0 },
  begins_for follows sessions meanings new.1 mean.1,
)

pub besides_so : {F : Type 0} (follows : F → Word → Type 0) (sessions : List (Session F))
    → AllByRecursion (IsNew follows) sessions → (shown : List Shown) (text : List ℕ)
    → AreBeside follows (origins_of sessions) shown text
    → AreBesides (monitors_in sessions) shown text
besides_so follows sessions new shown text said meanings mean =
    said meanings (begins_for follows sessions meanings new mean)

-- none has taken an item
pub none_taken : {F : Type 0} (follows : F → Word → Type 0) (position : F → ℕ)
    → ((follower : F) (word : Word) → follows follower word → position follower ≡ length word)
    → (sessions : List (Session F)) → AllByRecursion (IsNew follows) sessions
    → most position sessions ≡ 0
none_taken follows position ends [] new = refl
none_taken follows position ends (session ∷ sessions) new =
    ap (λ (n : ℕ). max n (most position sessions))
    (ends session.follower [] new.0.no_item)
    ∙ ap (λ (n : ℕ). max 0 n) (none_taken follows position ends sessions new.1)

-- the answer of a session that began before the first line is the value on all items of its lines
pub value_of_all : {F : Type 0} (follows : F → Word → Type 0) (query : F → Qre) (on : CheckedQuery)
    (first : F) (shown : List Shown) (session : Session F) (answer : Option Value)
    → IsClear free on.layout.columns (plain_of on.main.shape) → follows first []
    → IsAfter follows (first_origin on first) shown session
    → query session.follower ≡ plain_of session.checked.now.main.shape
    → ((word : Word) → follows session.follower word
    → IsAnswer (query session.follower) word answer)
    → (meaning : Meaning) → IsMeaning (monitor_of on) meaning → answer ≡ value_after meaning shown
value_of_all follows query on first shown session answer clear none after query_is answers meaning
    means =
    let items = items_of on.layout shown in
    let asked : query session.follower ≡ plain_of on.main.shape =
    query_is ∙ ap (λ (o : CheckedQuery). plain_of o.main.shape) after.same
    in
    one_answer free on.layout.columns (plain_of on.main.shape) items answer (meaning.value items)
    clear after.is_word
    (subst (λ (q : Qre). IsAnswer q items answer) asked (answers items (after.carries [] none)))
    (means.value items after.is_word)
    ∙ ap (λ (l : Layout). meaning.value (items_of l shown)) (sym means.layout)
