-- How deep atoms are in the statements that their patterns name.
use Rattle.std.specs.Prelude.{suc, Bool, true, ◌&&◌, List, [], ◌∷◌, ◌++◌, slice_get, if◌then◌else◌}
use Rattle.std.specs.Prelude.{Option, None, Some}
use Rattle.std.specs.List.{list_all}
use Rattle.c_terms.specs.declared.tree.Tree.{Tree}
use Rattle.c_terms.specs.Trees.{leaves}
use Rattle.smpl_patch.specs.declared.pattern.PatToken.{PatToken}
use Rattle.smpl_patch.specs.declared.pattern.Pattern.{Pattern}
use Rattle.smpl_patch.specs.Bodies.{Element, Atom, Compound, Block, Gap, Nest, AnyOf, AllOf, Body, End, Then, Bodies, NoMore, More}
use Rattle.edit_marks.specs.declared.tidy.depth.AtomDepth.{AtomDepth}
use Rattle.edit_marks.specs.Removals.{is_minus_at}

abbrev pub is_minus_leaves : List PatToken → Tree → Bool
is_minus_leaves tokens t = list_all (λ l. is_minus_at tokens l.id) (leaves t)

abbrev pub is_minus_tree : List PatToken → Option Tree → Bool
is_minus_tree tokens None = true
is_minus_tree tokens (Some t) = is_minus_leaves tokens t

-- all tokens of a pattern's first form are marked by `-`
abbrev pub is_minus_pattern : List PatToken → Pattern → Bool
is_minus_pattern tokens p = is_minus_tree tokens (slice_get p.forms 0)

abbrev pub is_minus_tail : List PatToken → Option Pattern → Bool
is_minus_tail tokens None = true
is_minus_tail tokens (Some p) = is_minus_pattern tokens p

-- an element that is in no compound, or is not the first of a body
abbrev pub outermost : AtomDepth
outermost = record { around = 0; removed = 0 }

-- the depth of the first element of a body of a compound at this depth, whose head and tail the rule removes or not
abbrev pub deeper : Bool → AtomDepth → AtomDepth
deeper removes d = record { around = suc d.around; removed = if removes then suc d.removed else 0 }

abbrev pub one_depth : AtomDepth → List AtomDepth
one_depth d = d ∷ []

abbrev pub tail_depths : AtomDepth → Option Pattern → List AtomDepth
tail_depths d None = []
tail_depths d (Some p) = d ∷ []

module _ (tokens : List PatToken) where
  -- The depths of the patterns, in their order: the first element of a body of a compound is one deeper than the compound, the
  -- first of a branch is as deep as the branches, and any other element is outermost. The heads and tails of a compound and the
  -- braces of a block are as deep as it.
  abbrev mutual
    pub depths_element : AtomDepth → Element → List AtomDepth
    depths_element d (Atom p) = d ∷ []
    depths_element d (Compound h bs t) =
        d ∷ depths_bodies (deeper (is_minus_tail tokens t && is_minus_pattern tokens h) d) bs ++ tail_depths d t
    depths_element d (Block o b c) = d ∷ depths_body outermost b ++ d ∷ []
    depths_element d (Gap whens any strict) = depths_bodies outermost whens
    depths_element d (Nest plus b whens any strict) = depths_body outermost b ++ depths_bodies outermost whens
    depths_element d (AnyOf bs) = depths_bodies d bs
    depths_element d (AllOf bs) = depths_bodies d bs

    pub depths_body : AtomDepth → Body → List AtomDepth
    depths_body d End = []
    depths_body d (Then e rest) = depths_element d e ++ depths_body outermost rest

    pub depths_bodies : AtomDepth → Bodies → List AtomDepth
    depths_bodies d NoMore = []
    depths_bodies d (More b bs) = depths_body d b ++ depths_bodies d bs
