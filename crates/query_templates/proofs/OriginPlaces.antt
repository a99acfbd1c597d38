-- The laws: origins are written at the places of the plain nodes, and without definitions no node
-- came of a use.
use Rattle.std.proofs.Common.{◌≡◌, ℕ, Bool, true, false, cond, List, [], ◌∷◌, ◌++◌, codes, Option}
use Rattle.std.proofs.Common.{Some, None, refl, sym, ap, ◌∙◌}
use Rattle.language_base.specs.declared.span.Span.{Span}
use Rattle.query_tokens.specs.declared.token.Token.{Token}
use Rattle.query_trees.specs.Trees.{Trees, none, leaf, call}
use Rattle.query_templates.specs.declared.origin.Origin.{Origin}
use Rattle.query_templates.specs.declared.origin.Use.{Use}
use Rattle.query_templates.specs.Definitions.{definition_in}
use Rattle.query_templates.specs.Expansion.{call_use, expanded, instance, word_use}
use Rattle.query_templates.specs.File.{plain_after, with_definition}
use Rattle.query_templates.specs.Fronts.{IsOtherFirst}
use Rattle.query_templates.specs.Names.{is_named}
use Rattle.query_templates.specs.Origins.{call_origins, came_of, node_places, origins}
use Rattle.query_templates.specs.Origins.{origins_after, origins_of, places_of, use_at}
use Rattle.query_templates.specs.Origins.{word_origins, word_used}
use Rattle.query_templates.specs.Templates.{Template, template_at}
use Rattle.query_templates.proofs.NodePlaces.{append-none, places-joined}
use Rattle.query_templates.proofs.Tracing.{came-append}

placed : (used : Option Use) (places : List Span) → places_of (came_of used places) ≡ places
placed used [] = refl
placed used (place ∷ places) = ap (λ l. place ∷ l) (placed used places)

places-append : (a b : List Origin) → places_of (a ++ b) ≡ places_of a ++ places_of b
places-append [] b = refl
places-append (origin ∷ a) b = ap (λ l. origin.place ∷ l) (places-append a b)

call_placed : (text : List ℕ) (found : Option Template) (head : Token) (parts : Trees)
    (span : Span) (inside : List Origin) → places_of inside ≡ node_places parts
    → places_of (call_origins text found head parts span inside)
    ≡ node_places (call_use text found head parts span)
call_placed text None head parts span inside is =
    ap (λ l. span ∷ head.span ∷ l) (is ∙ sym (append-none (node_places parts)))
call_placed text (Some template) head parts span inside is =
    placed (Some (use_at span template)) (node_places (instance text template parts))

-- the first of terms, and then the others
both_placed : (first others : List Origin) (one rest : Trees)
    → places_of first ≡ node_places one → places_of others ≡ node_places rest
    → places_of (first ++ others) ≡ node_places one ++ node_places rest
both_placed first others one rest here after =
    places-append first others ∙ ap (λ l. l ++ places_of others) here
    ∙ ap (λ l. node_places one ++ l) after

pub terms_placed : (text : List ℕ) (templates : List Template) (terms : Trees)
    → places_of (origins_of text templates terms) ≡ node_places (expanded text templates terms)
terms_placed text templates none = refl
terms_placed text templates (leaf word rest) =
    let found = template_at text templates word.span in
    let made = word_use text found word in
    both_placed (word_origins text found word) (origins_of text templates rest) made
    (expanded text templates rest)
    (placed (word_used found word.span) (node_places made)) (terms_placed text templates rest)
    ∙ sym (places-joined made (expanded text templates rest))
terms_placed text templates (call head arguments span rest) =
    let found = template_at text templates head.span in
    let parts = expanded text templates arguments in
    let inside = origins_of text templates arguments in
    let made = call_use text found head parts span in
    both_placed (call_origins text found head parts span inside)
    (origins_of text templates rest) made (expanded text templates rest)
    (call_placed text found head parts span inside (terms_placed text templates arguments))
    (terms_placed text templates rest)
    ∙ sym (places-joined made (expanded text templates rest))

choice_placed : (b : Bool) (one two : List Origin) (made other : Trees)
    → places_of one ≡ node_places made → places_of two ≡ node_places other
    → places_of (cond b one two) ≡ node_places (cond b made other)
choice_placed true one two made other first second = first
choice_placed false one two made other first second = second

file_placed : (text : List ℕ) (templates : List Template) (terms : Trees)
    → places_of (origins_after text templates terms)
    ≡ node_places (plain_after text templates terms)
file_placed text templates none = refl
file_placed text templates (leaf word rest) = terms_placed text templates (leaf word rest)
file_placed text templates (call head arguments span rest) =
    let more = with_definition text templates (definition_in arguments) span in
    let all = call head arguments span rest in
    choice_placed (is_named text head.span (codes "def"))
    (origins_after text more rest) (origins_of text templates all)
    (plain_after text more rest) (expanded text templates all)
    (file_placed text more rest) (terms_placed text templates all)

pub law : (text : List ℕ) (terms : Trees)
    → places_of (origins text terms) ≡ node_places (plain_after text [] terms)
law text terms = file_placed text [] terms

-- without templates there is no use
own_terms : (text : List ℕ) (terms : Trees)
    → origins_of text [] terms ≡ came_of None (node_places terms)
own_terms text none = refl
own_terms text (leaf word rest) =
    ap (λ l. came_of None (word.span ∷ []) ++ l) (own_terms text rest)
own_terms text (call head arguments span rest) =
    let top = came_of None (span ∷ head.span ∷ []) in
    ap (λ l. top ++ l ++ origins_of text [] rest) (own_terms text arguments)
    ∙ ap (λ l. top ++ came_of None (node_places arguments) ++ l) (own_terms text rest)
    ∙ ap (λ l. top ++ l) (sym (came-append None (node_places arguments) (node_places rest)))

pub plain_law : (text : List ℕ) (terms : Trees) → IsOtherFirst text terms
    → origins text terms ≡ came_of None (node_places terms)
plain_law text none is = refl
plain_law text (leaf word rest) is = own_terms text (leaf word rest)
plain_law text (call head arguments place rest) is =
    ap (λ (b : Bool). cond b
    (origins_after text (with_definition text [] (definition_in arguments) place) rest)
    (origins_of text [] (call head arguments place rest))) is
    ∙ own_terms text (call head arguments place rest)
