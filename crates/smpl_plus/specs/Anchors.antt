-- Where plus code is anchored, and what belongs to each token of a pattern.
use Rattle.std.specs.Prelude.{ℕ, zero, suc, ◌-◌, ◌≡◌, ◌==◌, ◌&&◌, not, nat_lt, Bool, true, false, if◌then◌else◌, List, [], ◌∷◌}
use Rattle.std.specs.Prelude.{◌++◌, map, length, Option, Some, None, slice_index_or, All, ◌<◌, ◌^◌}
use Rattle.smpl_patch.specs.declared.pattern.VarDecl.{VarDecl}
use Rattle.smpl_patch.specs.declared.pattern.Mark.{Mark}
use Rattle.smpl_patch.specs.declared.pattern.Mark.TheVariants as mark
use Rattle.smpl_patch.specs.declared.pattern.PlusBlock.{PlusBlock}
use Rattle.smpl_patch.specs.declared.pattern.PatToken.{PatToken}
use Rattle.smpl_patch.specs.declared.fault.PatchFault.{PatchFault}
use Rattle.smpl_patch.specs.declared.fault.PatchFault.TheVariants.{StarWithEdit, PlusWithoutAnchor}
use Rattle.smpl_patch.specs.Faults.{first_of}
use Rattle.smpl_lexer.specs.declared.text.BodyLine.{BodyLine}
use Rattle.smpl_meta.specs.Heads.{has_edit}
use Rattle.smpl_meta.specs.declared.patterns.Placed.{Placed}
use Rattle.smpl_meta.specs.Patterns.{pattern_tokens}
use Rattle.smpl_plus.specs.Outside.{may_anchor}
use Rattle.smpl_plus.specs.Blocks.{Block, blocks_of, is_many, ArePlusBlocks}
use Rattle.smpl_plus.specs.declared.anchors.Anchor.{Anchor}
use Rattle.smpl_plus.specs.declared.anchors.Anchor.TheVariants.{Before, After}

-- ---- anchors

abbrev pub may_at : List Bool → ℕ → Bool
may_at may k = slice_index_or may k false

abbrev pub anchor_before : List Bool → ℕ → Option Anchor
anchor_before may n = if may_at may n then Some (Before n) else None

-- the anchor of code that comes after n tokens: after the last of them, or else before the next one
abbrev pub anchor_at : List Bool → ℕ → Option Anchor
anchor_at may n = if nat_lt 0 n && may_at may (n - 1) then Some (After (n - 1)) else anchor_before may n

-- how many tokens are in lines before this one
abbrev pub tokens_before : ℕ → List Placed → ℕ
tokens_before line [] = 0
tokens_before line (p ∷ ps) = if nat_lt p.line line then suc (tokens_before line ps) else tokens_before line ps

abbrev pub anchor_of : List Placed → Block → Option Anchor
anchor_of ps b = anchor_at (may_anchor ps) (tokens_before b.first ps)

-- ---- what is wrong with plus code, phase by phase

abbrev pub has_star : List BodyLine → Bool
has_star [] = false
has_star (l ∷ ls) = if l.sign == 42 then true else has_star ls

abbrev pub star_faults : ℕ → List BodyLine → List PatchFault
star_faults rule body = if has_star body && has_edit body then StarWithEdit rule ∷ [] else []

abbrev pub place_of_block : List BodyLine → ℕ
place_of_block [] = 0
place_of_block (l ∷ ls) = l.start

abbrev pub no_anchor : Option Anchor → ℕ → List PatchFault
no_anchor None at = PlusWithoutAnchor at ∷ []
no_anchor (Some a) at = []

-- one of two lines begins with `+` alone, and the other with `++`
abbrev pub differ : Bool → Bool → Bool
differ true b = not b
differ false b = b

-- where the first line begins that is not of this kind
abbrev pub other_in : Bool → List BodyLine → Option ℕ
other_in many [] = None
other_in many (l ∷ ls) = if differ many l.many then Some l.start else other_in many ls

abbrev pub mixed_at : Option ℕ → List PatchFault
mixed_at None = []
mixed_at (Some at) = PlusWithoutAnchor at ∷ []

-- A block must have an anchor, and only lines of the kind of its first one.
abbrev pub block_faults : List Placed → Block → List PatchFault
block_faults ps b = no_anchor (anchor_of ps b) (place_of_block b.lines) ++ mixed_at (other_in (is_many b.lines) b.lines)

abbrev pub anchor_faults : List Placed → List Block → List PatchFault
anchor_faults ps [] = []
anchor_faults ps (b ∷ bs) = block_faults ps b ++ anchor_faults ps bs

-- the first of a phase's faults, or if there is none, the first of the phases after it
abbrev pub first_phase : List (List PatchFault) → Option PatchFault
first_phase [] = None
first_phase ([] ∷ phases) = first_phase phases
first_phase ((f ∷ fs) ∷ phases) = first_of (f ∷ fs)

abbrev pub plus_faults : List VarDecl → ℕ → List BodyLine → List (List PatchFault)
plus_faults vars rule body =
    let ps = pattern_tokens vars body in star_faults rule body ∷ anchor_faults ps (blocks_of ps body) ∷ []

-- ---- what belongs to the tokens

abbrev pub mark_of : ℕ → Mark
mark_of sign = if sign == 45 then mark.Minus else (if sign == 42 then mark.Star else mark.Context)

-- a token without plus code
abbrev pub bare : Placed → PatToken
bare p = record { mark = mark_of p.sign; positions = p.positions; before = None; after = None }

abbrev pub with_before : PlusBlock → PatToken → PatToken
with_before c t = record { mark = t.mark; positions = t.positions; before = Some c; after = t.after }

abbrev pub with_after : PlusBlock → PatToken → PatToken
with_after c t = record { mark = t.mark; positions = t.positions; before = t.before; after = Some c }

-- the list with the item at a place changed
abbrev pub changed : (PatToken → PatToken) → ℕ → List PatToken → List PatToken
changed f n [] = []
changed f zero (t ∷ ts) = f t ∷ ts
changed f (suc n) (t ∷ ts) = t ∷ changed f n ts

abbrev pub with_block : List PatToken → Option Anchor → PlusBlock → List PatToken
with_block ts None c = ts
with_block ts (Some (Before n)) c = changed (with_before c) n ts
with_block ts (Some (After n)) c = changed (with_after c) n ts

-- the tokens with each block at its anchor
abbrev pub with_blocks : List Placed → List PatToken → List Block → List PlusBlock → List PatToken
with_blocks ps ts [] cs = ts
with_blocks ps ts (b ∷ bs) [] = ts
with_blocks ps ts (b ∷ bs) (c ∷ cs) = with_blocks ps (with_block ts (anchor_of ps b) c) bs cs

-- Nothing is wrong with the plus code, and these are the tokens of the patterns with their marks, positions and plus code.
pub record AreAnchored (vars : List VarDecl) (rule : ℕ) (body : List BodyLine) (tokens : List PatToken) : Type 0 where
  pub faultless : first_phase (plus_faults vars rule body) ≡ None
  pub blocks : List PlusBlock
  pub lines : ArePlusBlocks vars (blocks_of (pattern_tokens vars body) body) blocks
  pub are : let ps = pattern_tokens vars body in tokens ≡ with_blocks ps (map bare ps) (blocks_of ps body) blocks

-- as the bodies of all patches are that have no more bytes than a patch may have
pub record IsShort (body : List BodyLine) : Type 0 where
  pub count : length body < 2 ^ 32
  pub lines : All (λ (l : BodyLine). length l.text < 2 ^ 31) body
