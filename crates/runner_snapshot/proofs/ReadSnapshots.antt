-- Snapshots are read as they are spelled, and so have one spelling.
use Rattle.std.proofs.Common.{◌≡◌, ◌<◌, ◌≤◌, ◌^◌, ℕ, zero, suc, Bool, true, false, cond, leb, List}
use Rattle.std.proofs.Common.{[]}
use Rattle.std.proofs.Common.{◌∷◌, ◌++◌, length, None, Some, refl, sym, ap, subst, ◌∙◌}
use Rattle.std.proofs.Common.{arith}
use Rattle.std.proofs.lemmas.Bool.{leb-true, le-leb}
use Rattle.std.proofs.lemmas.List.{append-nil, append_cancel_left}
use Rattle.std.proofs.lemmas.Option.{none-some, same_Some}
use Rattle.language_base.specs.Limits.{max_text}
use Rattle.runner_snapshot.specs.Bytes.{Snapshot, body_bytes, flag, head, runner_bytes}
use Rattle.runner_snapshot.specs.Bytes.{snapshot_bytes}
use Rattle.runner_snapshot.specs.Bytes.{text_bytes}
use Rattle.runner_snapshot.specs.Dumps.{Runner}
use Rattle.runner_snapshot.specs.Ranges.{IsNode, IsRunner, IsSnapshot, max_levels}
use Rattle.runner_snapshot.specs.Reading.{Read, ◌>>=◌, body_at, flag_at, node_at, pair_at}
use Rattle.runner_snapshot.specs.Reading.{query_text_at, runner_at, text_at}
use Rattle.runner_snapshot.proofs.Readers.{IsBytes, IsBytes-rest, Takes, bind_some, Reads, both}
use Rattle.runner_snapshot.proofs.Readers.{made}
use Rattle.runner_snapshot.proofs.Readers.{alone_takes}
use Rattle.runner_snapshot.proofs.ReadNumbers.{texts}
use Rattle.runner_snapshot.proofs.ReadValues.{guard_met}
use Rattle.runner_snapshot.proofs.ReadNodes.{all_nodes, runners_one}

abbrev IsQueryText : List ℕ → Type 0
IsQueryText text = length text ≤ max_text

query_texts : Reads text_bytes IsQueryText query_text_at
unfolding query_text_at
query_texts = record {
  takes = λ bytes x rest are_bytes e.
      let a = bind_some (text_at bytes) (λ text. cond (leb (length text.0) max_text) (Some text)
      None)
      (x, rest) e in
      let g = guard_met (leb (length a.0.0) max_text) (Some a.0) (x, rest) a.2 in
      let front = texts.takes bytes a.0.0 a.0.1 are_bytes a.1 in
      subst (λ (r : List ℕ × List ℕ). Takes bytes (text_bytes r.0) r.1 × IsQueryText r.0)
      (same_Some a.0 (x, rest) g.1) (front.0, leb-true (length a.0.0) max_text g.0);
  again = λ x rest short.
      let few : length x < 2 ^ 32 = omega arith in
      let met : leb (length x) max_text ≡ true = le-leb (length x) max_text short in
      ap (λ (r : Read (List ℕ)). r >>= λ text.
      cond (leb (length text.0) max_text) (Some text) None) (texts.again x rest few)
      ∙ ap (λ (test : Bool). cond test (Some (x, rest)) None) met;
}

abbrev flag_bytes : Bool → List ℕ
flag_bytes began = flag began ∷ []

abbrev IsFlag : Bool → Type 0
IsFlag began = Unit {0}

flag_takes : (bytes : List ℕ) (x : Bool) (rest : List ℕ) → IsBytes bytes
    → flag_at bytes ≡ Some (x, rest) → Takes bytes (flag_bytes x) rest × IsFlag x
unfolding flag_at
flag_takes [] x rest are_bytes e = absurd (none-some (x, rest) e)
flag_takes (zero ∷ bytes) x rest are_bytes e =
    alone_takes false flag_bytes IsFlag 0 refl tt bytes x rest (IsBytes-rest 0 bytes are_bytes) e
flag_takes (suc zero ∷ bytes) x rest are_bytes e =
    alone_takes true flag_bytes IsFlag 1 refl tt bytes x rest (IsBytes-rest 1 bytes are_bytes) e
flag_takes (suc (suc byte) ∷ bytes) x rest are_bytes e = absurd (none-some (x, rest) e)

flag_again : (x : Bool) (rest : List ℕ) → IsFlag x → flag_at (flag_bytes x ++ rest) ≡ Some (x, rest)
unfolding flag_at
flag_again false rest is = refl
flag_again true rest is = refl

flags : Reads flag_bytes IsFlag flag_at
flags = record { takes = flag_takes; again = flag_again }

runners : Reads runner_bytes IsRunner (runner_at (node_at max_levels))
runners = runners_one (IsNode max_levels) (node_at max_levels) (all_nodes max_levels)

abbrev Parts : Type 0
Parts = (List ℕ × Bool) × Runner

pub bodies : Reads body_bytes IsSnapshot body_at
unfolding body_at
bodies =
    made (λ (p : Parts). (text_bytes p.0.0 ++ flag_bytes p.0.1) ++ runner_bytes p.1)
    (λ (p : Parts). (IsQueryText p.0.0 × IsFlag p.0.1) × IsRunner p.1)
    (pair_at (pair_at query_text_at flag_at) (runner_at (node_at max_levels)))
    (λ p. record { text = p.0.0; began = p.0.1; dump = p.1 })
    (λ snapshot. ((snapshot.text, snapshot.began), snapshot.dump)) body_bytes IsSnapshot
    (λ snapshot is. refl) (λ p are. refl) (λ p are. record { text = are.0.0; dump = are.1 })
    (λ snapshot is. ((is.text, tt), is.dump))
    (both (λ (p : List ℕ × Bool). text_bytes p.0 ++ flag_bytes p.1)
    (λ (p : List ℕ × Bool). IsQueryText p.0 × IsFlag p.1) (pair_at query_text_at flag_at)
    runner_bytes IsRunner (runner_at (node_at max_levels))
    (both text_bytes IsQueryText query_text_at flag_bytes IsFlag flag_at query_texts flags)
    runners)

-- the whole of a body is read
read_whole : (snapshot : Snapshot) → IsSnapshot snapshot
    → body_at (body_bytes snapshot) ≡ Some (snapshot, [])
read_whole snapshot is =
    ap body_at (sym (append-nil (body_bytes snapshot))) ∙ bodies.again snapshot [] is

-- two snapshots with the same bytes are the same
pub one_spelling : (a b : Snapshot) → IsSnapshot a → IsSnapshot b
    → snapshot_bytes a ≡ snapshot_bytes b → a ≡ b
one_spelling a b is_a is_b same =
    let bodies_same : body_bytes a ≡ body_bytes b =
    append_cancel_left head (body_bytes a) (body_bytes b) same in
    let first : Snapshot × List ℕ = (a, []) in
    let second : Snapshot × List ℕ = (b, []) in
    let read : Some first ≡ Some second =
    sym (read_whole a is_a) ∙ ap body_at bodies_same ∙ read_whole b is_b in
    ap (λ (r : Snapshot × List ℕ). r.0) (same_Some first second read)

-- what is read to the end is a snapshot that is spelled so
pub is_spelled : (rest : List ℕ) (snapshot : Snapshot) → IsBytes rest
    → body_at rest ≡ Some (snapshot, [])
    → IsSnapshot snapshot × (head ++ rest ≡ snapshot_bytes snapshot)
is_spelled rest snapshot are_bytes e =
    let read = bodies.takes rest snapshot [] are_bytes e in (
      read.1,
      ap (λ (bytes : List ℕ). head ++ bytes)
          (read.0.parts ∙ append-nil (body_bytes snapshot)),
    )

-- where nothing is read to the end, no snapshot is spelled so
pub not_spelled : (rest : List ℕ)
    → ((snapshot : Snapshot) → body_at rest ≡ Some (snapshot, []) → ⊥)
    → (snapshot : Snapshot) → IsSnapshot snapshot → head ++ rest ≡ snapshot_bytes snapshot → ⊥
not_spelled rest none snapshot is same =
    let body : rest ≡ body_bytes snapshot =
    append_cancel_left head rest (body_bytes snapshot) same in
    none snapshot (ap body_at body ∙ read_whole snapshot is)
