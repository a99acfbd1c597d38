-- A plain text has as many nodes as the terms have that it was made of.
use Rattle.std.proofs.Common.{◌≡◌, ◌<◌, ℕ, suc, ◌+◌, List, length, refl, sym, ap, ◌∙◌}
use Rattle.std.specs.Prelude.{All}
use Rattle.std.proofs.lemmas.List.{length-append, length-map}
use Rattle.query_forms.specs.Terms.{Say, Terms, none, word, number, string, call}
use Rattle.query_parser.specs.Printing.{unplaced}
use Rattle.query_parser.specs.TreeReading.{AreShallow}
use Rattle.query_parser.proofs.OneReading.{same_trees}
use Rattle.query_templates.specs.File.{plain_terms}
use Rattle.query_templates.specs.Origins.{node_places, origins, places_of}
use Rattle.query_templates.specs.declared.origin.Origin.{Origin}
use Rattle.query_trees.specs.Trees as trees
use Rattle.query_trees.specs.Trees.{Trees}
use Rattle.template_expansion.specs.Meaning.{IsExpansionOf}
use Rattle.template_expansion.proofs.Again.{read_again}

-- how many nodes terms have
abbrev nodes : Terms → ℕ
nodes none = 0
nodes (word bytes span rest) = suc (nodes rest)
nodes (number value span rest) = suc (nodes rest)
nodes (string bytes span rest) = suc (nodes rest)
nodes (call head arguments span rest) = suc (suc (nodes arguments + nodes rest))

-- trees have as many as the terms that they say
said_nodes : (text : List ℕ) (list : Trees) (terms : Terms) → Say text list terms
    → length (node_places list) ≡ nodes terms
said_nodes text trees.none none say = refl
said_nodes text (trees.leaf token rest) (word bytes span more) say =
    ap suc (said_nodes text rest more say.3)
said_nodes text (trees.leaf token rest) (number value span more) say =
    ap suc (said_nodes text rest more say.3)
said_nodes text (trees.leaf token rest) (string bytes span more) say =
    ap suc (said_nodes text rest more say.3)
said_nodes text (trees.call head arguments place rest) (call bytes inner span more) say =
    let after = length (node_places rest) in
    ap (λ n. suc (suc n)) (length-append (node_places arguments) (node_places rest)
    ∙ ap (λ n. n + after) (said_nodes text arguments inner say.2)
    ∙ ap (λ n. nodes inner + n) (said_nodes text rest more say.3))
said_nodes text trees.none terms say = absurd say
said_nodes text (trees.leaf token rest) terms say = absurd say
said_nodes text (trees.call head arguments place rest) terms say = absurd say

-- terms have as many as without their places
unplaced_nodes : (terms : Terms) → nodes (unplaced terms) ≡ nodes terms
unplaced_nodes none = refl
unplaced_nodes (word bytes span rest) = ap suc (unplaced_nodes rest)
unplaced_nodes (number value span rest) = ap suc (unplaced_nodes rest)
unplaced_nodes (string bytes span rest) = ap suc (unplaced_nodes rest)
unplaced_nodes (call head arguments span rest) =
    let after = nodes (unplaced rest) in
    ap (λ n. suc (suc n)) (ap (λ n. n + after) (unplaced_nodes arguments)
    ∙ ap (λ n. nodes arguments + n) (unplaced_nodes rest))

-- so a plain text has a node for each origin, where origins are those of the plain terms
pub as_many : ((text : List ℕ) (terms : Trees)
    → places_of (origins text terms) ≡ node_places (plain_terms text terms))
    → (text plain : List ℕ) (list again : Trees) → All (λ byte. byte < 256) text
    → AreShallow text list → IsExpansionOf text plain → AreShallow plain again
    → length (origins text list) ≡ length (node_places again)
as_many placed text plain list again small shallow made there =
    let back = read_again text plain small made there.has.has.short in
    let terms = made.stands.trees in
    let same : terms ≡ list =
    same_trees text list terms shallow.has made.stands.has.shallow.has in
    let found : back.1.has.has.trees ≡ again =
    same_trees plain again back.1.has.has.trees there.has back.1.has.has.has in
    sym (length-map (origins text list) (λ (o : Origin). o.place))
    ∙ ap length (placed text list)
    ∙ ap (λ (t : Trees). length (node_places (plain_terms text t))) (sym same)
    ∙ said_nodes text (plain_terms text terms) made.terms made.stands.file.say
    ∙ sym (unplaced_nodes made.terms) ∙ ap nodes (sym back.2) ∙ unplaced_nodes back.0
    ∙ sym (said_nodes plain back.1.has.has.trees back.0 back.1.has.has.say)
    ∙ ap (λ (t : Trees). length (node_places t)) found
