-- What is read of a top term, by itself.
use Rattle.std.proofs.Common.{◌≡◌, ℕ, zero, suc, ◌-◌, ◌<◌, ◌≤◌, Bool, true, false, ◌&&◌, ◌==◌, List}
use Rattle.std.proofs.Common.{◌∷◌, length, get_or, drop, take, replicate, codes, cond, nat_le, ◌⊎◌}
use Rattle.std.proofs.Common.{Option, Some, refl, sym, ap, ◌∙◌, subst, arith}
use Rattle.std.proofs.lemmas.List.{drop_more, take-replicate}
use Rattle.std.proofs.lemmas.Bool.Decides.{nat_tests}
use Rattle.std.specs.Str.{bytes_eq}
use Rattle.language_base.specs.declared.span.Span.{Span}
use Rattle.query_tokens.specs.declared.token.Token.{Token}
use Rattle.query_trees.specs.declared.tree.Tree.{Tree}
use Rattle.query_trees.specs.Trees as trees
use Rattle.query_trees.specs.Trees.{Trees, tree_before, trees_of}
use Rattle.query_forms.specs.Terms.{Terms, none, word, number, string, call, bytes_at, Say}
use Rattle.query_forms.specs.File.{first_place}
use Rattle.query_forms.specs.declared.term_place.TermPlace.{TermPlace}
use Rattle.query_forms.specs.declared.term_place.TermPlace.TheVariants.{Mode, Column}
use Rattle.query_forms.specs.Tops.{is_call, arguments_in, stream_places, unfit_call, unfit_stream}
use Rattle.query_forms.proofs.Calls.{count_said}
use Rattle.query_forms.proofs.Parts.{alone, say_alone}

-- the first term has its place by itself too
pub place_alone : (terms : Terms) → first_place (alone terms) ≡ first_place terms
place_alone none = refl
place_alone (word bytes span rest) = refl
place_alone (number value span rest) = refl
place_alone (string bytes span rest) = refl
place_alone (call head arguments span rest) = refl

-- the place of the first tree is that of the first term
pub place_read : (text : List ℕ) (list : List Tree) (tree : Tree) (span : Span) → 0 < length list
    → tree ≡ get_or list 0 tree → ((terms : Terms) → Say text (tree_before tree trees.none) terms
    → first_place terms ≡ Some span) → (terms : Terms) → Say text (trees_of list) terms
    → Some span ≡ first_place terms
place_read text list tree span some is place terms say =
    let split : list ≡ tree ∷ drop 1 list =
    drop_more list 0 tree some ∙ ap (λ t. t ∷ drop 1 list) (sym is) in
    let first = say_alone text tree (trees_of (drop 1 list)) terms
    (subst (λ l. Say text (trees_of l) terms) split say) in
    sym (place (alone terms) first) ∙ place_alone terms

-- the arguments of a call say the arguments of what it says
pub arguments_said : (text : List ℕ) (head : Token) (inner : Trees) (span : Span) (terms : Terms)
    → Say text (trees.call head inner span trees.none) terms → Say text inner (arguments_in terms)
arguments_said text head inner span none say = absurd say
arguments_said text head inner span (word bytes at rest) say = absurd say
arguments_said text head inner span (number value at rest) say = absurd say
arguments_said text head inner span (string bytes at rest) say = absurd say
arguments_said text head inner span (call bytes arguments at rest) say = say.2

-- the test of a call, from what was read of it
pub call_read : (text : List ℕ) (head : Token)
    (list : List Tree) (span : Span) (name read : List ℕ) (count len : ℕ) (same : Bool)
    → read ≡ bytes_at text head.span → len ≡ length list → same ≡ bytes_eq read name
    → (terms : Terms) → Say text (trees.call head (trees_of list) span trees.none) terms
    → (same && (len == count)) ≡ is_call name count terms
call_read text head list span name read count len same is_read is_len is_same none say = absurd say
call_read text head list span name read count len same is_read is_len is_same (word bytes at rest)
    say = absurd say
call_read text head list span name read count len same is_read is_len is_same (number value at rest)
    say = absurd say
call_read text head list span name read count len same is_read is_len is_same (string bytes at rest)
    say = absurd say
call_read text head list span name read count len same is_read is_len is_same
    (call bytes inner at rest) say =
    ap (λ b. b && (len == count)) (is_same ∙ ap (λ b. bytes_eq b name) (is_read ∙ sym say.0))
    ∙ ap (λ n. bytes_eq bytes name && (n == count))
    (is_len ∙ sym (count_said text list inner say.2))

-- this many of the places of a `stream` with 32 columns are those of one with fewer
pub stream_places_read : (count : ℕ) → 2 ≤ count → count ≤ 33
    → take count (Mode ∷ replicate 32 Column) ≡ stream_places count
stream_places_read zero some few = absurd (omega arith)
stream_places_read (suc n) some few =
    let less : suc n - 1 ≡ n = omega arith in
    ap (λ places. Mode ∷ places)
    (take-replicate n 32 Column (omega arith) ∙ ap (λ m. replicate m Column) (sym less))

-- the answer at a `stream`, where this many arguments stand
stream_at : Terms → ℕ → Option Span
stream_at terms count =
    cond (nat_le 2 count && nat_le count 33)
    (unfit_call (codes "stream") (stream_places count) terms) (first_place terms)

-- a call with as many arguments as a `stream` may have
pub stream_read : (text : List ℕ) (list : List Tree) (terms : Terms)
    (places : List TermPlace) (answer : Option Span) → Say text (trees_of list) (arguments_in terms)
    → 2 ≤ length list → length list ≤ 33 → places ≡ take (length list) (Mode ∷ replicate 32 Column)
    → answer ≡ unfit_call (codes "stream") places terms → answer ≡ unfit_stream terms
unfolding stream_at
stream_read text list terms places answer say some few are answers =
    let tested : (nat_le 2 (length list) && nat_le (length list) 33) ≡ true =
    grind (arith, nat_tests) in
    answers ∙ ap (λ ps. unfit_call (codes "stream") ps terms)
    (are ∙ stream_places_read (length list) some few)
    ∙ sym (ap (λ b. cond b (unfit_call (codes "stream") (stream_places (length list)) terms)
    (first_place terms)) tested)
    ∙ ap (stream_at terms) (sym (count_said text list (arguments_in terms) say))

-- a term with fewer or more
pub stream_not_read : (text : List ℕ) (list : List Tree) (terms : Terms) (answer : Option Span)
    → Say text (trees_of list) (arguments_in terms)
    → ((2 ≤ length list) × (33 < length list)) ⊎ (length list < 2) → answer ≡ first_place terms
    → answer ≡ unfit_stream terms
unfolding stream_at
stream_not_read text list terms answer say other answers =
    let tested : (nat_le 2 (length list) && nat_le (length list) 33) ≡ false =
    grind (arith, nat_tests) in
    answers
    ∙ sym (ap (λ b. cond b (unfit_call (codes "stream") (stream_places (length list)) terms)
    (first_place terms)) tested)
    ∙ ap (stream_at terms) (sym (count_said text list (arguments_in terms) say))
