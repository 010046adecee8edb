-- Internal: what is read so far, and what the parts of a reader return.
use Rattle.std.specs.Prelude.{ℕ, ◌≡◌, ◌<◌, ◌≤◌, ◌+◌, ◌&&◌, ◌||◌, ⊤, Bool, true, false, List, [], ◌∷◌, ◌++◌, length}
use Rattle.std.specs.Prelude.{slice_index_or, Option, Some, None, is_some, Result, Ok, Err}
use Rattle.c_terms.specs.declared.token.TokenKind.{TokenKind}
use Rattle.smpl_lexer.specs.Pieces.{has_newline}
use Rattle.smpl_lexer.specs.Tokens.{made}
use Rattle.smpl_lexer.specs.declared.token.PatchToken.{PatchToken}
use Rattle.iso_file.specs.declared.cut.Cutting.{Cutting}
use Rattle.c_terms.specs.declared.tree.Tree.{Tree}
use Rattle.c_expr.specs.declared.fault.ParseFault.{ParseFault}
use Rattle.c_expr.specs.declared.fault.ParseFault.TheVariants.{NoMemory}
use Rattle.smpl_patch.specs.declared.pattern.VarDecl.{VarDecl}
use Rattle.smpl_patch.specs.declared.fault.PatchFault.{PatchFault}
use Rattle.smpl_patch.specs.declared.fault.PatchFault.TheVariants as patch
use Rattle.iso_file.specs.declared.side.Parting.{Parting}
use Rattle.iso_file.specs.declared.block.CheckedBlock.{CheckedBlock}
use Rattle.iso_file.specs.declared.block.Block.{Block}
use Rattle.iso_file.specs.Lines.{filled}
use Rattle.iso_file.specs.Blocks.{is_header}
use Rattle.iso_file.specs.Sides.{is_expression_line, arrow_of, arrows_in, sides_in}
use Rattle.iso_file.specs.Lost.{lost_between, BothWays, Loses, FirstLost, KeepsAll}
use Rattle.smpl_patch.specs.declared.rule.Iso.{Iso}
use Rattle.iso_file.specs.declared.fault.IsoFault.{IsoFault}
use Rattle.iso_file.specs.declared.fault.IsoFault.TheVariants as fault
use Rattle.iso_file.specs.Isos.{AreSides, IsBehind, IsOfForm, AreIsos}

abbrev pub ended : Cutting → Cutting
ended c = record { lines = c.lines ++ filled (c.tokens ∷ []); tokens = [] }

abbrev pub ended_by : Bool → Cutting → Cutting
ended_by true c = ended c
ended_by false c = c

abbrev pub with_piece : Option TokenKind → List ℕ → ℕ → Cutting → Cutting
with_piece (Some k) text at c = record { lines = c.lines; tokens = c.tokens ++ made k text at ∷ [] }
with_piece None text at c = ended_by (has_newline text) c

-- the groups of what is left continue the current line
abbrev pub join : {A : Type 0} → List A → List (List A) → List (List A)
join ts [] = ts ∷ []
join ts (g ∷ gs) = (ts ++ g) ∷ gs

abbrev pub lines_with : Cutting → List (List PatchToken) → List (List PatchToken)
lines_with c gs = c.lines ++ filled (join c.tokens gs)

-- ---- sides

abbrev pub arrow_first : List PatchToken → Option Bool
arrow_first (t ∷ n ∷ ts) = arrow_of t n
arrow_first _ = None

abbrev pub with_arrow : Bool → Parting → Parting
with_arrow way p = record { both = p.both ++ way ∷ []; sides = p.sides ++ p.side ∷ []; side = [] }

abbrev pub with_token : PatchToken → Parting → Parting
with_token t p = record { both = p.both; sides = p.sides; side = p.side ++ t ∷ [] }

abbrev pub sides_with : Parting → List (List PatchToken) → List (List PatchToken)
sides_with p gs = p.sides ++ join p.side gs

-- ---- results

-- a result that is of the form, or none if nothing is
abbrev pub Decides : {A : Type 0} → (A → Type 0) → Option A → Type 0
Decides Is (Some a) = Is a
Decides {A} Is None = (a : A) → Is a → ⊥

-- what a parser returns, unless it is out of memory
abbrev pub Tells : Result Tree ParseFault → Option Tree → Type 0
Tells (Ok tree) found = found ≡ Some tree
Tells (Err NoMemory) found = ⊥
Tells (Err _) found = found ≡ None

-- the fault is that memory ran out
abbrev pub is_no_memory : PatchFault → Bool
is_no_memory patch.NoMemory = true
is_no_memory _ = false

-- each list has an element
abbrev pub AllFilled : {A : Type 0} → List (List A) → Type 0
AllFilled [] = ⊤
AllFilled ([] ∷ ls) = ⊥
AllFilled ((a ∷ l) ∷ ls) = AllFilled ls

-- ---- what is lost

-- what is lost between one side and those that it may become
pub record IsLostAt (vars : List VarDecl) (sides : List (List PatchToken)) (arrows : List Bool) (i at : ℕ) : Type 0 where
  pub j : ℕ
  pub loses : Loses vars sides arrows i j at
  pub least : (l n : ℕ) → l < j → Loses vars sides arrows i l n → ⊥

abbrev pub IsLostFrom : List VarDecl → List (List PatchToken) → List Bool → ℕ → Option ℕ → Type 0
IsLostFrom vars sides arrows i None = (j at : ℕ) → Loses vars sides arrows i j at → ⊥
IsLostFrom vars sides arrows i (Some at) = IsLostAt vars sides arrows i at

abbrev pub IsLost : List VarDecl → List (List PatchToken) → List Bool → Option ℕ → Type 0
IsLost vars sides arrows None = KeepsAll vars sides arrows
IsLost vars sides arrows (Some at) = FirstLost vars sides arrows at

abbrev pub side_at : List (List PatchToken) → ℕ → List PatchToken
side_at sides i = slice_index_or sides i []

-- a variable is lost from the side to the next, or from the next to the side if the arrow goes both ways
abbrev pub is_break : List VarDecl → List (List PatchToken) → List Bool → ℕ → Bool
is_break vars sides arrows i =
    is_some (lost_between vars (side_at sides i) (side_at sides (i + 1)))
    || (slice_index_or arrows i false && is_some (lost_between vars (side_at sides (i + 1)) (side_at sides i)))

abbrev pub IsUnbroken : List VarDecl → List (List PatchToken) → List Bool → ℕ → Type 0
IsUnbroken vars sides arrows end = (n : ℕ) → n < end → is_break vars sides arrows n ≡ false

pub record IsBreak (vars : List VarDecl) (sides : List (List PatchToken)) (arrows : List Bool) (k : ℕ) : Type 0 where
  pub within : k < length arrows
  pub here : is_break vars sides arrows k ≡ true
  pub before : IsUnbroken vars sides arrows k

abbrev pub IsFirstBreak : List VarDecl → List (List PatchToken) → List Bool → Option ℕ → Type 0
IsFirstBreak vars sides arrows None = IsUnbroken vars sides arrows (length arrows)
IsFirstBreak vars sides arrows (Some k) = IsBreak vars sides arrows k

-- the first of the sides from which only arrows that go both ways lead to this one
pub record IsStart (arrows : List Bool) (i start : ℕ) : Type 0 where
  pub within : start ≤ i
  pub leads : BothWays arrows start i
  pub first : (j : ℕ) → j < start → BothWays arrows j i → ⊥

-- ---- a block

pub record IsCheckedBlock (vars : List VarDecl) (sides : List (List PatchToken)) (arrows : List Bool) (j : CheckedBlock) : Type 0 where
  pub trees : AreSides vars sides j.trees
  pub lost : IsLost vars sides arrows j.lost

-- these sides under these variables, or none if they aren't of the form
abbrev pub ChecksBlock : List VarDecl → List (List PatchToken) → List Bool → Option CheckedBlock → Type 0
ChecksBlock vars sides arrows None = (trees : List Tree) → AreSides vars sides trees → ⊥
ChecksBlock vars sides arrows (Some j) = IsCheckedBlock vars sides arrows j

-- the tokens after `@@`, under variables
pub record IsUnder (vars : List VarDecl) (tokens : List PatchToken) (b : Block) : Type 0 where
  pub vars_are : b.vars ≡ vars
  pub arrows_are : b.both ≡ arrows_in tokens
  pub some : 0 < length b.both
  pub trees : AreSides vars (sides_in tokens) b.trees
  pub lost : IsLost vars (sides_in tokens) (arrows_in tokens) b.lost

abbrev pub Under : List VarDecl → List PatchToken → Option Block → Type 0
Under vars tokens None = (trees : List Tree) → 0 < length (arrows_in tokens) → AreSides vars (sides_in tokens) trees → ⊥
Under vars tokens (Some b) = IsUnder vars tokens b

-- the lines after `@ name @`
pub record IsBlockOf (lines : List (List PatchToken)) (b : Block) : Type 0 where
  pub sides : List (List PatchToken)
  pub behind : IsBehind lines b.vars sides b.both b.trees
  pub lost : IsLost b.vars sides b.both b.lost

abbrev pub Behind : List (List PatchToken) → Option Block → Type 0
Behind lines None = (vars : List VarDecl) (sides : List (List PatchToken)) (arrows : List Bool) (trees : List Tree)
    → IsBehind lines vars sides arrows trees → ⊥
Behind lines (Some b) = IsBlockOf lines b

-- `Expression` and `@ name @`, each alone on its line, and more lines
abbrev pub is_begun : List (List PatchToken) → Bool
is_begun (word ∷ header ∷ lines) = is_expression_line word && is_header header
is_begun _ = false

-- the faults of a block whose first token is at this place, and is the word
pub data IsFormFault (block : List (List PatchToken)) (at : ℕ) : IsoFault → Type 0 where
  of_no_form : ((iso : Iso) (sides : List (List PatchToken)) → IsOfForm block iso sides → ⊥) → IsFormFault block at (fault.BadIso at)
  lost : (iso : Iso) (sides : List (List PatchToken)) (place : ℕ) → IsOfForm block iso sides → FirstLost iso.vars sides iso.both place
      → IsFormFault block at (fault.VariableLost place)

-- ---- blocks

-- the isomorphisms so far, and those of more blocks
pub record Adds (isos : List Iso) (blocks : List (List (List PatchToken))) (all : List Iso) : Type 0 where
  pub more : List Iso
  pub all_are : all ≡ isos ++ more
  pub fine : AreIsos blocks more
