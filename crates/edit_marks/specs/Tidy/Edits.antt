-- The tidied edit of a touch: what an alignment removes, and the plus code that it inserts.
use Rattle.std.specs.Prelude.{ℕ, ◌≡◌, ◌↔◌, ◌+◌, ◌==◌, Bool, List, [], ◌∷◌, ◌++◌, Contains, Option, None, Some, option_and_then}
use Rattle.std.specs.Prelude.{length, slice_get}
use Rattle.std.specs.Option.{option_copied}
use Rattle.std.specs.List.{list_any}
use Rattle.std.specs.List.Sorted.{IsPermutation, IsSortedBy, IsStrictlyIncreasing}
use Rattle.std.specs.Ordering.{is_lt}
use Rattle.c_terms.specs.declared.tree.Tree.{Tree}
use Rattle.smpl_patch.specs.declared.pattern.VarDecl.{VarDecl}
use Rattle.smpl_patch.specs.declared.pattern.PatToken.{PatToken}
use Rattle.smpl_patch.specs.declared.pattern.PlusBlock.{PlusBlock}
use Rattle.edit_marks.specs.declared.edit_conflict.edit.Insert.{Insert}
use Rattle.edit_marks.specs.declared.edit_conflict.edit.Edit.{Edit}
use Rattle.edit_marks.specs.declared.insert.Anchor.{Anchor}
use Rattle.edit_marks.specs.declared.removals.Aligned.{Aligned}
use Rattle.edit_marks.specs.declared.spot.PlusSpot.{PlusSpot}
use Rattle.edit_marks.specs.declared.tidy.depth.AtomDepth.{AtomDepth}
use Rattle.edit_marks.specs.declared.tidy.edges.PlacedBlock.{PlacedBlock}
use Rattle.edit_marks.specs.declared.tidy.words.BlockWord.{BlockWord}
use Rattle.edit_marks.specs.declared.tidy.edit.TouchLocation.{TouchLocation}
use Rattle.edit_marks.specs.declared.file_tokens.FileToken.{FileToken}
use Rattle.edit_marks.specs.Blocks.{Environment, lead_of, least_lead}
use Rattle.edit_marks.specs.Edits.{anchor_of, block_of, side_of}
use Rattle.edit_marks.specs.Inserts.{line_end}
use Rattle.edit_marks.specs.Removals.{minus_tokens}
use Rattle.edit_marks.specs.Spots.{spot_order, all_spots}
use Rattle.edit_marks.specs.Tidy.Words.{words_of}
use Rattle.edit_marks.specs.Tidy.Layout.{tidy_text}
use Rattle.edit_marks.specs.Tidy.Reach.{indent_of, reach_of}
use Rattle.edit_marks.specs.Tidy.Neighbours.{words_at}

-- Where a touch is, as far as the indentation goes: the tree of its item, its path there, how deep its atom is, and whether its
-- pattern is compared with the expressions in a node.
pub record TouchAt : Type 0 where
  pub tree : Option Tree
  pub path : List ℕ
  pub depth : AtomDepth
  pub inside : Bool

abbrev pub touch_of : TouchLocation → TouchAt
touch_of t = record { tree = option_copied t.tree; path = t.path.now; depth = t.depth; inside = t.is_inside }

abbrev pub placed : List VarDecl → Environment → PlusSpot → PlusBlock → PlacedBlock
placed decls env s b = record {
  spot = s;
  many = b.many;
  lines = length b.lines;
  lead = lead_of (least_lead None b.lines);
  words = words_of decls env b.lines;
}

abbrev pub block_if : List VarDecl → Environment → PlusSpot → Option PlusBlock → List PlacedBlock
block_if decls env s None = []
block_if decls env s (Some b) = placed decls env s b ∷ []

-- the blocks at these places
abbrev pub blocks_at : List VarDecl → List PatToken → Environment → List PlusSpot → List PlacedBlock
blocks_at decls tokens env [] = []
blocks_at decls tokens env (s ∷ spots) = block_if decls env s (block_of tokens s) ++ blocks_at decls tokens env spots

abbrev pub or_own : List ℕ → Option (List ℕ) → List ℕ
or_own own None = own
or_own own (Some indent) = indent

-- the blanks that begin the line of the tree that the touch names for an anchor, if it is in a tree
abbrev pub named_indent : List ℕ → List FileToken → TouchAt → Anchor → Option (List ℕ)
named_indent ids files t anchor = option_and_then (λ tree. indent_of ids files tree (reach_of anchor t.inside t.depth tree t.path)) t.tree

-- the blanks that begin the lines of a block at an anchor; else those of the anchor's line
abbrev pub indent_at_anchor : List ℕ → List FileToken → TouchAt → Anchor → FileToken → List ℕ
indent_at_anchor ids files t anchor f = or_own f.indent (named_indent ids files t anchor)

module _ (ids : List ℕ) (files : List FileToken) (t : TouchAt) (removed : List ℕ) where
  abbrev pub anchor_in : PlacedBlock → FileToken → Anchor
  anchor_in b f = anchor_of (list_any (λ n. n == b.spot.token) removed) b.spot.after f.text

  abbrev pub joint_at : Anchor → FileToken → List ℕ
  joint_at anchor f = line_end f.returns ++ indent_at_anchor ids files t anchor f

  -- what a block inserts that has these words with brackets
  abbrev pub insert_with : List BlockWord → PlacedBlock → FileToken → Insert
  insert_with words b f = record {
    token = b.spot.token;
    side = side_of b.spot.after;
    many = b.many;
    text = tidy_text (anchor_in b f) (joint_at (anchor_in b f) f) b.lead b.lines words;
  }

module _ (ids : List ℕ) (files : List FileToken) (t : TouchAt) (removed : List ℕ) (blocks : List PlacedBlock) where
  abbrev pub insert_of_block : ℕ → PlacedBlock → FileToken → Insert
  insert_of_block number b f = insert_with ids files t removed (words_at files removed blocks number) b f

  abbrev pub insert_if : ℕ → PlacedBlock → Option FileToken → List Insert
  insert_if number b None = []
  insert_if number b (Some f) = insert_of_block number b f ∷ []

  abbrev pub inserts_at : ℕ → Option PlacedBlock → List Insert
  inserts_at number None = []
  inserts_at number (Some b) = insert_if number b (slice_get files b.spot.token)

  -- the inserts of blocks from a number on
  abbrev pub tidy_inserts : ℕ → List PlacedBlock → List Insert
  tidy_inserts number [] = []
  tidy_inserts number (b ∷ bs) = insert_if number b (slice_get files b.spot.token) ++ tidy_inserts (number + 1) bs

-- the tokens aligned with minus tokens, and the blocks of all plus code whose anchors are aligned, in order
pub record TidyEditOf (decls : List VarDecl) (tokens : List PatToken) (env : Environment) (ids : List ℕ) (files : List FileToken)
    (t : TouchAt) (pairs : List Aligned) (edit : Edit) : Type 0 where
  pub rise : IsStrictlyIncreasing edit.removed
  pub removed : (n : ℕ) → Contains edit.removed n ↔ Contains (minus_tokens tokens pairs) n
  pub spots : List PlusSpot
  pub all : IsPermutation (all_spots tokens pairs) spots
  pub sorted : IsSortedBy (λ a b. is_lt (spot_order a b)) spots
  pub inserts : edit.inserts ≡ tidy_inserts ids files t edit.removed (blocks_at decls tokens env spots) 0 (blocks_at decls tokens env spots)
