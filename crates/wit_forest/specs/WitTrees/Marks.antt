-- Which atoms are touched: those with a token that is removed or starred, or with plus code at a token.
use Rattle.std.specs.Prelude.{Bool, true, false, not, ◌||◌, Option, None, Some, List, slice_get}
use Rattle.std.specs.List.{list_any}
use Rattle.c_terms.specs.declared.tree.Tree.{Tree}
use Rattle.c_terms.specs.Trees.{leaves}
use Rattle.smpl_patch.specs.declared.pattern.Mark.{Mark}
use Rattle.smpl_patch.specs.declared.pattern.Mark.TheVariants as mark
use Rattle.smpl_patch.specs.declared.pattern.PatToken.{PatToken}
use Rattle.smpl_patch.specs.declared.pattern.Pattern.{Pattern}
use Rattle.smpl_patch.specs.declared.pattern.PlusBlock.{PlusBlock}
use Rattle.smpl_patch.specs.Held.{held}
use Rattle.smpl_patch.specs.Patterns.{in_first}

abbrev pub is_context : Mark → Bool
is_context mark.Context = true
is_context _ = false

abbrev pub is_there : Option PlusBlock → Bool
is_there None = false
is_there (Some b) = true

-- it has a mark, or plus code
abbrev pub is_marked : Option PatToken → Bool
is_marked None = false
is_marked (Some p) = not (is_context p.mark) || (is_there p.before || is_there p.after)

module _ (tokens : List PatToken) where
  abbrev pub is_marked_tree : Tree → Bool
  is_marked_tree t = list_any (λ a. is_marked (slice_get tokens a.id)) (leaves t)

  -- some token of the compared part of the pattern's first form is marked
  abbrev pub is_touched : Pattern → Bool
  is_touched p = in_first (λ form. list_any is_marked_tree (held p.spot form)) p.forms
