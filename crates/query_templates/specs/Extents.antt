-- Statement. How much space terms take: their bytes as they are spelled, with two more for each
-- term, for what stands about it, and how many levels they have.
use Rattle.std.specs.Prelude.{◌+◌, ◌-◌, max}
use Rattle.query_tokens.specs.declared.token.Token.{Token}
use Rattle.query_trees.specs.Trees.{Trees, none, leaf, call}
use Rattle.query_templates.specs.declared.extent.Extent.{Extent}

abbrev pub nothing : Extent
nothing = record { bytes = 0; levels = 0 }

-- of terms beside others
abbrev pub beside : Extent → Extent → Extent
beside one other = record {
  bytes = one.bytes + other.bytes;
  levels = max one.levels other.levels;
}

-- of a word, a number or a string
abbrev pub token_extent : Token → Extent
token_extent token = record { bytes = token.span.to - token.span.from + 2; levels = 1 }

-- of a call whose arguments have this
abbrev pub call_extent : Token → Extent → Extent
call_extent head inner = record {
  bytes = (token_extent head).bytes + inner.bytes;
  levels = inner.levels + 1;
}

abbrev pub extent_of : Trees → Extent
extent_of none = nothing
extent_of (leaf token rest) = beside (token_extent token) (extent_of rest)
extent_of (call head arguments span rest) =
    beside (call_extent head (extent_of arguments)) (extent_of rest)
