-- What the form of a call says of the first unfit term in it.
use Rattle.std.proofs.Common.{◌≡◌, ℕ, ◌+◌, List, [], ◌∷◌, length, Option, Some, None, refl, sym, ap}
use Rattle.std.proofs.Common.{◌∙◌, arith}
use Rattle.language_base.specs.declared.span.Span.{Span}
use Rattle.query_tokens.specs.declared.token.Token.{Token}
use Rattle.query_trees.specs.declared.tree.Tree.{Tree, Leaf, Call'}
use Rattle.query_trees.specs.Trees as trees
use Rattle.query_trees.specs.Trees.{Trees, tree_before, trees_of, first_of_two}
use Rattle.query_forms.specs.declared.term_place.TermPlace.{TermPlace}
use Rattle.query_forms.specs.Terms.{Terms, none, word, number, string, call, bytes_at, count_of}
use Rattle.query_forms.specs.Terms.{Say}
use Rattle.query_forms.specs.Forms.{places_of, unfit_in, first_unfit}
use Rattle.query_forms.proofs.Parts.{after, say_after, first_of_two-None}

count_before : (text : List ℕ) (tree : Tree) (others : Trees) (terms : Terms)
    → Say text (tree_before tree others) terms → count_of terms ≡ count_of (after terms) + 1
count_before text (Leaf token) others none say = absurd say
count_before text (Call' first shape row place) others none say = absurd say
count_before text tree others (word bytes span rest) say = refl
count_before text tree others (number value span rest) say = refl
count_before text tree others (string bytes span rest) say = refl
count_before text tree others (call head arguments span rest) say = refl

-- trees say as many terms as there are trees
pub count_said : (text : List ℕ) (list : List Tree) (terms : Terms) → Say text (trees_of list) terms
    → count_of terms ≡ length list
count_said text [] none say = refl
count_said text [] (word bytes span rest) say = absurd say
count_said text [] (number value span rest) say = absurd say
count_said text [] (string bytes span rest) say = absurd say
count_said text [] (call head arguments span rest) say = absurd say
count_said text (tree ∷ list) terms say =
    let after_it = count_said text list (after terms)
    (say_after text tree (trees_of list) terms say) in
    omega (arith, count_before text tree (trees_of list) terms say)

-- the places of the arguments, from what was read of the call
places_read : (text : List ℕ) (place : TermPlace) (head : Token) (list : List Tree)
    (read : List ℕ) (count : ℕ) (places : Option (List TermPlace)) (bytes : List ℕ) (inner : Terms)
    → read ≡ bytes_at text head.span → count ≡ length list → places_of place read count ≡ places
    → bytes ≡ bytes_at text head.span → Say text (trees_of list) inner
    → places_of place bytes (count_of inner) ≡ places
places_read text place head list read count places bytes inner is_read is_count of bytes_are say =
    ap (λ b. places_of place b (count_of inner)) (bytes_are ∙ sym is_read)
    ∙ ap (λ n. places_of place read n) (count_said text list inner say ∙ sym is_count) ∙ of

-- a call that has a form
pub call_fits : (text : List ℕ) (place : TermPlace) (head : Token) (list : List Tree)
    (span : Span) (read : List ℕ) (count : ℕ) (places : List TermPlace) (answer : Option Span)
    → read ≡ bytes_at text head.span
    → count ≡ length list → places_of place read count ≡ Some places
    → ((terms : Terms) → Say text (trees_of list) terms → answer ≡ first_unfit places terms)
    → (terms : Terms) → Say text (trees.call head (trees_of list) span trees.none) terms
    → answer ≡ first_unfit (place ∷ []) terms
call_fits text place head list span read count places answer is_read is_count of inside none say =
    absurd say
call_fits text place head list span read count places answer is_read is_count of inside
    (word bytes at rest) say = absurd say
call_fits text place head list span read count places answer is_read is_count of inside
    (number value at rest) say = absurd say
call_fits text place head list span read count places answer is_read is_count of inside
    (string bytes at rest) say = absurd say
call_fits text place head list span read count places answer is_read is_count of inside
    (call bytes inner at rest) say =
    inside inner say.2 ∙ sym (first_of_two-None _)
    ∙ ap (λ found. first_of_two (unfit_in found at (λ ps. first_unfit ps inner)) None)
    (sym (places_read text place head list read count (Some places) bytes inner is_read is_count
    of say.0 say.2))

-- a call that has none
pub call_unfit : (text : List ℕ) (place : TermPlace) (head : Token)
    (list : List Tree) (span : Span) (read : List ℕ) (count : ℕ) → read ≡ bytes_at text head.span
    → count ≡ length list → places_of place read count ≡ None → (terms : Terms)
    → Say text (trees.call head (trees_of list) span trees.none) terms
    → Some span ≡ first_unfit (place ∷ []) terms
call_unfit text place head list span read count is_read is_count of none say = absurd say
call_unfit text place head list span read count is_read is_count of (word bytes at rest) say =
    absurd say
call_unfit text place head list span read count is_read is_count of (number value at rest) say =
    absurd say
call_unfit text place head list span read count is_read is_count of (string bytes at rest) say =
    absurd say
call_unfit text place head list span read count is_read is_count of (call bytes inner at rest) say =
    ap Some (sym say.1)
    ∙ ap (λ found. first_of_two (unfit_in found at (λ ps. first_unfit ps inner)) None) (sym
    (places_read text place head list read count None bytes inner is_read is_count of say.0 say.2))
