-- What is anchored up to some line, as the reader keeps it.
use Rattle.std.specs.Prelude.{ℕ, suc, ◌≡◌, ◌≤◌, ◌<◌, ◌==◌, if◌then◌else◌, ⊤, List, [], ◌∷◌, map, length, take, drop, Option, Some, None}
use Rattle.smpl_patch.specs.declared.pattern.VarDecl.{VarDecl}
use Rattle.smpl_patch.specs.declared.pattern.PlusBlock.{PlusBlock}
use Rattle.smpl_patch.specs.Faults.{first_from}
use Rattle.smpl_meta.specs.declared.patterns.Placed.{Placed}
use Rattle.smpl_plus.specs.declared.anchors.OpenBlock.{OpenBlock}
use Rattle.smpl_plus.specs.declared.anchors.Anchoring.{Anchoring}
use Rattle.smpl_plus.specs.Blocks.{Block, Blocks, is_many, ArePlusLines, ArePlusBlocks}
use Rattle.smpl_plus.specs.Anchors.{tokens_before, place_of_block, other_in, anchor_faults, bare, with_blocks}

-- ---- lines of tokens

-- the lines of the tokens do not decrease, from this line on
abbrev pub RisingFrom : ℕ → List Placed → Type 0
RisingFrom m [] = Unit {0}
RisingFrom m (p ∷ ps) = (m ≤ p.line) × RisingFrom p.line ps

abbrev pub AllBelow : ℕ → List Placed → Type 0
AllBelow n [] = Unit {0}
AllBelow n (p ∷ ps) = (p.line < n) × AllBelow n ps

-- how many tokens at the start of the list are in this line
abbrev pub run_length : ℕ → List Placed → ℕ
run_length line [] = 0
run_length line (p ∷ ps) = if p.line == line then suc (run_length line ps) else 0

-- k tokens are in lines before this one, and the others in this line or later
pub record AtLine (line k : ℕ) (ps : List Placed) : Type 0 where
  pub within : k ≤ length ps
  pub below : AllBelow line (take k ps)
  pub rising : RisingFrom line (drop k ps)

-- ---- blocks

-- a block to which more lines may be added, as it is kept
pub record IsKept (vars : List VarDecl) (ps : List Placed) (b : Block) (o : OpenBlock) : Type 0 where
  pub some : 0 < length b.lines
  pub lines : ArePlusLines vars b.lines o.lines
  pub before : o.before ≡ tokens_before b.first ps
  pub at : o.at ≡ place_of_block b.lines
  pub many : o.many ≡ is_many b.lines
  pub other : o.other ≡ other_in (is_many b.lines) b.lines

-- the block that is open, as it is kept
abbrev pub IsOpen : List VarDecl → List Placed → Option Block → Option OpenBlock → Type 0
IsOpen vars ps None None = ⊤
IsOpen vars ps None (Some o) = ⊥
IsOpen vars ps (Some b) None = ⊥
IsOpen vars ps (Some b) (Some o) = IsKept vars ps b o

pub record SoFar (vars : List VarDecl) (ps : List Placed) (b : Blocks) (a : Anchoring) : Type 0 where
  pub blocks : List PlusBlock
  pub lines : ArePlusBlocks vars b.whole blocks
  pub tokens : a.tokens.items ≡ with_blocks ps (map bare ps) b.whole blocks
  pub first : a.first ≡ first_from None (anchor_faults ps b.whole)
  pub last : IsOpen vars ps b.last a.pending
