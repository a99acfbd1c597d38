-- Definitions, and the names in them.
use Rattle.std.proofs.Common.{◌≡◌, ◌≤◌, ◌<◌, ◌+◌, ◌==◌, ℕ, Bool, true, false, cond, List, [], ◌∷◌}
use Rattle.std.proofs.Common.{◌++◌, length, get_or, take, drop, Option, Some, None, Vec, Global, refl}
use Rattle.std.proofs.Common.{sym, ap, ◌∙◌, append_assoc, append-nil, arith}
use Rattle.std.proofs.lemmas.List.{drop_more, take_more}
use Rattle.std.specs.Option.{option_map}
use Rattle.language_base.specs.declared.span.Span.{Span}
use Rattle.query_tokens.specs.declared.token.Token.{Token}
use Rattle.query_trees.specs.declared.tree.Tree.{Tree, Call}
use Rattle.query_trees.specs.Trees.{Trees, none, leaf, tree_before, trees_of}
use Rattle.query_templates.specs.Definitions.{Definition, definition_before, definition_in, is_word}
use Rattle.query_templates.specs.Definitions.{words_in, wrong_declared, wrong_names}
use Rattle.query_templates.specs.Lists.{count_of}
use Rattle.query_templates.specs.Made.{words_before}
use Rattle.query_templates.specs.Refusals.{first_of}
use Rattle.query_templates.specs.Templates.{Template}
use Rattle.query_templates.proofs.Lists.{call_before, count-trees}

-- two arguments
pub definition_two : (head body : Tree) (arguments : List Tree)
    → arguments ≡ head ∷ body ∷ []
    → definition_in (trees_of arguments)
    ≡ definition_before (tree_before head (tree_before body none))
definition_two head body arguments is =
    let two : count_of (trees_of (head ∷ body ∷ [])) ≡ 2 = count-trees (head ∷ body ∷ []) in
    ap (λ (l : List Tree). definition_in (trees_of l)) is
    ∙ ap (λ (n : ℕ). cond (n == 2) (definition_before (tree_before head (tree_before body none)))
    None) two

-- another number
pub definition_else : (arguments : List Tree) → (length arguments == 2) ≡ false
    → definition_in (trees_of arguments) ≡ None
definition_else arguments other =
    ap (λ (n : ℕ). cond (n == 2) (definition_before (trees_of arguments)) None)
    (count-trees arguments)
    ∙ ap (λ (b : Bool). cond b (definition_before (trees_of arguments)) None) other

-- the words of a list, with one before them
joined_words : (words : List Span) (word : Span) (more : Option (List Span))
    → option_map (λ (l : List Span). words ++ l) (option_map (λ (l : List Span). word ∷ l) more)
    ≡ option_map (λ (l : List Span). (words ++ word ∷ []) ++ l) more
joined_words words word None = refl
joined_words words word (Some more) =
    ap (λ (l : List Span). Some l) (sym (append_assoc words (word ∷ []) more))

pub words_more : (trees : List Tree) (at : ℕ) (tree : Tree) (word : Span) (words : List Span)
    → at < length trees → tree ≡ get_or trees at tree
    → ((others : Trees) → words_in (tree_before tree others)
    ≡ words_before (Some word) (words_in others))
    → words_in (trees_of trees)
    ≡ option_map (λ (l : List Span). words ++ l) (words_in (trees_of (drop at trees)))
    → words_in (trees_of trees)
    ≡ option_map (λ (l : List Span). (words ++ word ∷ []) ++ l)
    (words_in (trees_of (drop (at + 1) trees)))
words_more trees at tree word words within is one before =
    before
    ∙ ap (λ (l : List Tree). option_map (λ (l : List Span). words ++ l) (words_in (trees_of l)))
    (drop_more trees at tree within ∙ ap (λ (t : Tree). t ∷ drop (at + 1) trees) (sym is))
    ∙ ap (option_map (λ (l : List Span). words ++ l)) (one (trees_of (drop (at + 1) trees)))
    ∙ joined_words words word (words_in (trees_of (drop (at + 1) trees)))

-- the term at the index is no word
pub words_none : (trees : List Tree) (at : ℕ) (tree : Tree) (words : List Span)
    → at < length trees → tree ≡ get_or trees at tree
    → ((others : Trees) → words_in (tree_before tree others)
    ≡ words_before None (words_in others))
    → words_in (trees_of trees)
    ≡ option_map (λ (l : List Span). words ++ l) (words_in (trees_of (drop at trees)))
    → None ≡ words_in (trees_of trees)
words_none trees at tree words within is no_word before =
    sym (before
    ∙ ap (λ (l : List Tree). option_map (λ (l : List Span). words ++ l) (words_in (trees_of l)))
    (drop_more trees at tree within ∙ ap (λ (t : Tree). t ∷ drop (at + 1) trees) (sym is))
    ∙ ap (option_map (λ (l : List Span). words ++ l)) (no_word (trees_of (drop (at + 1) trees))))

-- a call is no word
pub call_no_word : (tree : Tree) (head : Token) (inner : Vec Tree Global) (span : Span)
    → tree ≡ Call head inner span → (others : Trees)
    → words_in (tree_before tree others) ≡ words_before None (words_in others)
call_no_word tree head inner span is others =
    ap words_in (call_before tree head inner span inner.items others is refl)

-- a word alone, or another token
pub word_alone_is : (token : Token) (word : Bool) → is_word token.kind ≡ word → (others : Trees)
    → words_in (leaf token others)
    ≡ words_before (cond word (Some token.span) None) (words_in others)
word_alone_is token true is others =
    ap (λ (b : Bool). cond b
    (option_map (λ (l : List Span). token.span ∷ l) (words_in others)) None) is
word_alone_is token false is others =
    ap (λ (b : Bool). cond b
    (option_map (λ (l : List Span). token.span ∷ l) (words_in others)) None) is

-- the end of the words
pub words_end : (trees : List Tree) (at : ℕ) (words : List Span) → length trees ≤ at
    → words_in (trees_of trees)
    ≡ option_map (λ (l : List Span). words ++ l) (words_in (trees_of (drop at trees)))
    → drop at trees ≡ [] → Some words ≡ words_in (trees_of trees)
words_end trees at words past before empty =
    sym (before
    ∙ ap (λ (l : List Tree). option_map (λ (l : List Span). words ++ l) (words_in (trees_of l)))
    empty
    ∙ ap (λ (l : List Span). Some l) (append-nil words))

-- one parameter more
pub names_at : (text : List ℕ) (templates : List Template) (name : Span) (parameters : List Span)
    (at : ℕ) → at < length parameters
    → wrong_names text templates (name ∷ take at parameters) (drop at parameters)
    ≡ first_of
    (wrong_declared text templates (name ∷ take at parameters) (get_or parameters at name))
    (wrong_names text templates (name ∷ take (at + 1) parameters) (drop (at + 1) parameters))
names_at text templates name parameters at within =
    let known = name ∷ take at parameters in
    let next = get_or parameters at name in
    ap (wrong_names text templates known) (drop_more parameters at name within)
    ∙ ap (λ (l : List Span). first_of (wrong_declared text templates known next)
    (wrong_names text templates (name ∷ l) (drop (at + 1) parameters)))
    (sym (take_more parameters at name within))

-- a name with the names of parameters
pub heading_call : (tree : Tree) (name : Token) (inner : Vec Tree Global) (span : Span)
    (list : List Tree) → tree ≡ Call name inner span → list ≡ inner.items
    → (words : Option (List Span)) → words ≡ words_in (trees_of list) → (body : Trees)
    → definition_before (tree_before tree body) ≡ option_map
    (λ (w : List Span). let d : Definition = record {
      name = name.span;
      parameters = w;
      body = body;
    } in d) words
heading_call tree name inner span list is items words found body =
    ap definition_before (call_before tree name inner span list body is items)
    ∙ ap (option_map (λ (w : List Span). let d : Definition = record {
      name = name.span;
      parameters = w;
      body = body;
    } in d)) (sym found)

-- a list of two
pub two_items : (list : List Tree) (one two : Tree) → length list ≡ 2 → one ≡ get_or list 0 one
    → two ≡ get_or list 1 two → list ≡ one ∷ two ∷ []
two_items [] one two both first second = absurd (omega arith)
two_items (a ∷ []) one two both first second = absurd (omega arith)
two_items (a ∷ b ∷ []) one two both first second =
    ap (λ (t : Tree). t ∷ b ∷ []) (sym first) ∙ ap (λ (t : Tree). one ∷ t ∷ []) (sym second)
two_items (a ∷ b ∷ d ∷ rest) one two both first second = absurd (omega arith)
