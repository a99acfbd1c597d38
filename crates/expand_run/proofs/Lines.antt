-- The lines of nodes, one after the other.
use Rattle.std.proofs.Common.{◌≡◌, ◌<◌, ℕ, ◌+◌, List, [], ◌∷◌, ◌++◌, length, get_or, take, sym, ap}
use Rattle.std.proofs.Common.{ap₂, ◌∙◌, arith}
use Rattle.std.specs.List.{flat_map, zip}
use Rattle.std.proofs.lemmas.List.{flat_map_more, take_more}
use Rattle.std.proofs.lemmas.Slice.Zip.{get_or-zip, length-zip}
use Rattle.language_base.specs.declared.span.Span.{Span}
use Rattle.query_templates.specs.declared.origin.Origin.{Origin}
use Rattle.expand_run.specs.OriginLines.{node_line}

-- the line of a node
abbrev pub line_of : Span × Origin → List ℕ
line_of node = node_line node.0 node.1

-- one line more
pub lines_more : (places : List Span) (written : List Origin) (at : ℕ) (place : Span)
    (origin : Origin) → at < length places → at < length written
    → place ≡ get_or places at place → origin ≡ get_or written at origin → (before after : List ℕ)
    → before ≡ flat_map line_of (take at (zip places written))
    → after ≡ before ++ node_line place origin
    → after ≡ flat_map line_of (take (at + 1) (zip places written))
lines_more places written at place origin first second here there before after was now =
    let all = zip places written in
    let node : get_or all at (place, origin) ≡ (place, origin) =
    get_or-zip places written at (place, origin) first second
    ∙ ap₂ (λ p o. (p, o)) (sym here) (sym there) in
    let longer : at < length all = omega (arith, length-zip places written) in
    now ∙ ap (λ l. l ++ node_line place origin) was
    ∙ flat_map_more line_of [] (take at all) (place, origin)
    ∙ ap (λ n. flat_map line_of (take at all ++ n ∷ [])) (sym node)
    ∙ ap (flat_map line_of) (sym (take_more all at (place, origin) longer))
