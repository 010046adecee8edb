-- Isomorphisms of a file, and its first fault.
use Rattle.std.specs.Prelude.{ℕ, ◌≡◌, ◌<◌, ◌≤◌, ◌+◌, ◌⊎◌, ⊤, Bool, true, List, [], ◌∷◌, ◌++◌, length, take, drop, map, Option, Some, None, codes}
use Rattle.c_terms.specs.declared.tree.Tree.{Tree}
use Rattle.c_terms.specs.Names.{listed_names}
use Rattle.c_rows.specs.declared.kind.Kind.TheVariants as kinds
use Rattle.c_rows.specs.Trees.{IsTreeOf}
use Rattle.c_rows.specs.Limits.{most_open}
use Rattle.c_rows.specs.Depth.{opens_of}
use Rattle.smpl_patch.specs.declared.pattern.VarDecl.{VarDecl}
use Rattle.smpl_patch.specs.declared.rule.Iso.{Iso}
use Rattle.smpl_lexer.specs.declared.token.PatchToken.{PatchToken}
use Rattle.smpl_lexer.specs.Tokens.{is_word}
use Rattle.smpl_meta.specs.Decls.{IsDecls}
use Rattle.smpl_meta.specs.Patterns.{made}
use Rattle.iso_file.specs.declared.fault.IsoFault.{IsoFault}
use Rattle.iso_file.specs.declared.fault.IsoFault.TheVariants as fault
use Rattle.iso_file.specs.Lines.{AreLinesOf}
use Rattle.iso_file.specs.Blocks.{is_header, header_name, blocks}
use Rattle.iso_file.specs.Sides.{is_expression_line, second_at, concatenated, are_of_kinds, have_kinds, sides_in, arrows_in}
use Rattle.iso_file.specs.Lost.{FirstLost, KeepsAll}

-- the tree of a side, under the declared variables
pub record IsSide (vars : List VarDecl) (tokens : List PatchToken) (tree : Tree) : Type 0 where
  pub shallow : opens_of (map (made vars 0) tokens) ≤ most_open
  pub tree_is : IsTreeOf kinds.Expr listed_names (map (made vars 0) tokens) tree

abbrev pub AreSides : List VarDecl → List (List PatchToken) → List Tree → Type 0
AreSides vars [] [] = ⊤
AreSides vars [] (t ∷ ts) = ⊥
AreSides vars (s ∷ ss) [] = ⊥
AreSides vars (s ∷ ss) (t ∷ ts) = IsSide vars s t × AreSides vars ss ts

-- well-formed declarations of expressions, constants and identifiers
pub record AreVars (tokens : List PatchToken) (vars : List VarDecl) : Type 0 where
  pub kinds : are_of_kinds true tokens ≡ true
  pub decls : IsDecls [] 0 tokens vars
  pub have : have_kinds vars ≡ true

-- the lines after `@ name @` are of the form: with these variables and sides
pub record IsBehind (lines : List (List PatchToken)) (vars : List VarDecl) (sides : List (List PatchToken)) (arrows : List Bool) (trees : List Tree)
    : Type 0 where
  pub second : ℕ
  pub second_is : second_at lines ≡ Some second
  pub vars_are : AreVars (concatenated (take second lines)) vars
  pub sides_are : sides ≡ sides_in (concatenated (drop (second + 1) lines))
  pub arrows_are : arrows ≡ arrows_in (concatenated (drop (second + 1) lines))
  pub some : 0 < length arrows
  pub trees_are : AreSides vars sides trees

-- the block is of the form
pub record IsOfForm (block : List (List PatchToken)) (iso : Iso) (sides : List (List PatchToken)) : Type 0 where
  pub word : List PatchToken
  pub header : List PatchToken
  pub lines : List (List PatchToken)
  pub block_is : block ≡ word ∷ header ∷ lines
  pub word_is : is_expression_line word ≡ true
  pub header_is : is_header header ≡ true
  pub name_is : header_name header ≡ Some iso.name
  pub behind : IsBehind lines iso.vars sides iso.both iso.sides

-- The block has no fault, and this is its isomorphism.
pub record IsIso (block : List (List PatchToken)) (iso : Iso) : Type 0 where
  pub sides : List (List PatchToken)
  pub form : IsOfForm block iso sides
  pub keeps : KeepsAll iso.vars sides iso.both

-- the block's first word
abbrev pub first_word : List (List PatchToken) → Option PatchToken
first_word ((t ∷ ts) ∷ ls) = Some t
first_word _ = None

-- The first fault of a block: its first word, its form, then a variable that is lost.
pub data IsBlockFault (block : List (List PatchToken)) : IsoFault → Type 0 where
  other_word : (t : PatchToken) → first_word block ≡ Some t → (is_word (codes "Expression") t ≡ true → ⊥)
      → IsBlockFault block (fault.NotExpression t.at)
  of_no_form : (t : PatchToken) → first_word block ≡ Some t → is_word (codes "Expression") t ≡ true
      → ((iso : Iso) (sides : List (List PatchToken)) → IsOfForm block iso sides → ⊥) → IsBlockFault block (fault.BadIso t.at)
  lost : (t : PatchToken) (iso : Iso) (sides : List (List PatchToken)) (at : ℕ) → first_word block ≡ Some t
      → is_word (codes "Expression") t ≡ true → IsOfForm block iso sides → FirstLost iso.vars sides iso.both at
      → IsBlockFault block (fault.VariableLost at)

abbrev pub AreIsos : List (List (List PatchToken)) → List Iso → Type 0
AreIsos [] [] = ⊤
AreIsos [] (i ∷ is) = ⊥
AreIsos (b ∷ bs) [] = ⊥
AreIsos (b ∷ bs) (i ∷ is) = IsIso b i × AreIsos bs is

-- the first fault of the first block that has one
pub record IsFirstBlockFault (all : List (List (List PatchToken))) (f : IsoFault) : Type 0 where
  pub before : List (List (List PatchToken))
  pub block : List (List PatchToken)
  pub after : List (List (List PatchToken))
  pub all_are : all ≡ before ++ block ∷ after
  pub isos : List Iso
  pub fine : AreIsos before isos
  pub wrong : IsBlockFault block f

abbrev pub most_bytes : ℕ
most_bytes = 1048576

-- These are the isomorphisms of a file.
pub record AreIsosOf (bytes : List ℕ) (isos : List Iso) : Type 0 where
  pub short : length bytes ≤ most_bytes
  pub lines : List (List PatchToken)
  pub lines_are : AreLinesOf bytes lines
  pub isos_are : AreIsos (blocks lines) isos

-- The first fault of a file: it is too long, or a block has a fault.
pub data IsFileFault (bytes : List ℕ) : IsoFault → Type 0 where
  too_long : most_bytes < length bytes → IsFileFault bytes fault.TooLong
  in_block : {f : IsoFault} → length bytes ≤ most_bytes → (lines : List (List PatchToken)) → AreLinesOf bytes lines
      → IsFirstBlockFault (blocks lines) f → IsFileFault bytes f

abbrev pub OrNoMemory : (IsoFault → Type 0) → IsoFault → Type 0
OrNoMemory P f = (f ≡ fault.NoMemory) ⊎ P f
