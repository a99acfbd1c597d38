-- Terms and trees, one after the other.
use Rattle.std.proofs.Common.{◌≡◌, ℕ, suc, ◌+◌, ◌-◌, ◌<◌, ◌≤◌, List, [], ◌∷◌, ◌++◌, length, map}
use Rattle.std.proofs.Common.{get_or, take, drop, refl, sym, ap, ◌∙◌, arith}
use Rattle.std.proofs.lemmas.List.{take_all, take_more}
use Rattle.query_forms.specs.Terms.{Terms, none}
use Rattle.query_parser.specs.declared.term.Term.{Term}
use Rattle.query_parser.specs.Plain.{term_before, terms_of}
use Rattle.query_syntax.specs.Files.{all_before}

-- some before others
pub before_append : {X : Type 0} (f : X → Terms → Terms) (xs ys : List X) (rest : Terms)
    → all_before f (xs ++ ys) rest ≡ all_before f xs (all_before f ys rest)
before_append f [] ys rest = refl
before_append f (x ∷ xs) ys rest = ap (f x) (before_append f xs ys rest)

-- a list of terms, each before the others
pub terms_before : (list : List Term) → terms_of list ≡ all_before term_before list none
terms_before [] = refl
terms_before (term ∷ list) = ap (term_before term) (terms_before list)

-- trees that are made plain first
pub mapped_before : {X Y : Type 0} (plain : X → Y) (f : Y → Terms → Terms)
    (xs : List X) (rest : Terms)
    → all_before (λ x. f (plain x)) xs rest ≡ all_before f (map plain xs) rest
mapped_before plain f [] rest = refl
mapped_before plain f (x ∷ xs) rest = ap (f (plain x)) (mapped_before plain f xs rest)

-- the step of a loop that reads one term after another
pub more_before : {X : Type 0} (f : X → Terms → Terms) (list : List Term) (index : ℕ) (one : Term)
    (read now : List X) (x : X) → index < length list → one ≡ get_or list index one
    → now ≡ read ++ x ∷ []
    → ((rest : Terms) → all_before term_before (take index list) rest ≡ all_before f read rest)
    → ((rest : Terms) → term_before one rest ≡ f x rest)
    → (rest : Terms) → all_before term_before (take (index + 1) list) rest ≡ all_before f now rest
more_before f list index one read now x lt is pushed before written rest =
    rw (pushed, take_more list index one lt, ← is)
    (before_append term_before (take index list) (one ∷ []) rest
    ∙ before (term_before one rest)
    ∙ ap (all_before f read) (written rest)
    ∙ sym (before_append f read (x ∷ []) rest))

-- a list that is not empty ends with its last term
ends_with : (list : List Term) (last : Term) → 1 ≤ length list
    → last ≡ get_or list (length list - 1) last → list ≡ take (length list - 1) list ++ last ∷ []
ends_with list last some is =
    let index = length list - 1 in
    let more = take_more list index last (omega arith) in
    let whole : take (index + 1) list ≡ list = take_all (index + 1) list (omega arith) in
    sym whole ∙ more ∙ ap (λ (t : Term). take index list ++ t ∷ []) (sym is)

-- a file: its first term, those between and the last
pub file_split : (list : List Term) (first last : Term) → 1 ≤ length list
    → 1 ≤ length (take (length list - 1) (drop 1 list)) → first ≡ get_or list 0 first
    → last ≡ get_or (take (length list - 1) (drop 1 list))
    (length (take (length list - 1) (drop 1 list)) - 1) last
    → terms_of list ≡ term_before first (all_before term_before
    (take (length (take (length list - 1) (drop 1 list)) - 1)
    (take (length list - 1) (drop 1 list))) (term_before last none))
file_split [] first last some body is-first is-last = absurd (omega arith)
file_split (term ∷ list) first last some body is-first is-last =
    let after = take (suc (length list) - 1) list in
    let rest : after ≡ list = take_all _ list (omega arith) in
    let split = ends_with after last body is-last in
    let front = take (length after - 1) after in
    ap (λ (t : Term). term_before t (terms_of list)) (sym is-first)
    ∙ ap (term_before first) (ap terms_of (sym rest) ∙ terms_before after
    ∙ ap (λ l. all_before term_before l none) split
    ∙ before_append term_before front (last ∷ []) none)
