-- Spans of tokens that were loaded. The tokens of a loaded text have the ids from 0 on, and tokens that rules add have greater
-- ones.
use Rattle.std.specs.Prelude.{ℕ, nat_lt, List, map, Option, None, Some, slice_get, option_and_then, if◌then◌else◌}
use Rattle.std.specs.List.{filter_map, last_or}
use Rattle.c_terms.specs.declared.token.Token.{Token}
use Rattle.c_terms.specs.declared.tree.Tree.{Tree}
use Rattle.c_terms.specs.Trees.{leaves}
use Rattle.c_terms.specs.Places.{subtree}
use Rattle.smpl_patch.specs.declared.witness.Witness.{Witness}
use Rattle.wit_places.specs.declared.spans.TokenSpan.{TokenSpan}
use Rattle.wit_places.specs.Touches.{touch_paths}

-- from a first to a last token, if there is one
abbrev pub between : Option ℕ → Option ℕ → Option TokenSpan
between (Some first) (Some last) = Some (record { first = first; last = last })
between (Some first) None = None
between None last = None

-- from the first to the last of some tokens
abbrev pub span_of : List ℕ → Option TokenSpan
span_of ids = between (slice_get ids 0) (last_or None ids)

-- how many tokens the loaded text has
module _ (loaded : ℕ) where
  -- the id of a token that was loaded
  abbrev pub loaded_id : Token → Option ℕ
  loaded_id token = if nat_lt token.id loaded then Some token.id else None

  -- the ids of a tree's tokens that were loaded, from left to right
  abbrev pub loaded_ids : Tree → List ℕ
  loaded_ids t = filter_map loaded_id (leaves t)

  -- the span of the subtree at a path; None if the path leads nowhere
  abbrev pub span_at : Tree → List ℕ → Option TokenSpan
  span_at t path = option_and_then (λ part. span_of (loaded_ids part)) (subtree t path)

  -- the spans of all touches
  abbrev pub touch_spans : Tree → List Witness → List (Option TokenSpan)
  touch_spans t forest = map (span_at t) (touch_paths forest)
