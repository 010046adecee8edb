-- The definitions, on worked cases.
use Rattle.std.proofs.Common.{◌≡◌, ℕ, ◌+◌, true, false, List, [], ◌∷◌, Some, None, refl, codes}
use Rattle.c_terms.specs.declared.token.TokenKind.TheVariants as token
use Rattle.c_terms.specs.declared.token.MetaKind.TheVariants as meta
use Rattle.c_lexer.specs.declared.state.Kind.TheVariants as kind
use Rattle.smpl_patch.specs.declared.pattern.VarKind.TheVariants.{Meta}
use Rattle.smpl_patch.specs.declared.pattern.VarDecl.{VarDecl}
use Rattle.smpl_patch.specs.Wants.{anything}
use Rattle.smpl_lexer.specs.declared.token.PatchToken.{PatchToken}
use Rattle.smpl_lexer.specs.Tokens.{made}
use Rattle.iso_file.specs.Lines.{groups, filled}
use Rattle.iso_file.specs.Blocks.{blocks}
use Rattle.iso_file.specs.Sides.{are_of_kinds, sides_in, arrows_in}
use Rattle.iso_file.specs.Lost.{lost_between}

abbrev name : List ℕ → ℕ → PatchToken
name text at = made token.Name text at

abbrev sign : List ℕ → ℕ → PatchToken
sign text at = made token.Punct text at

-- ---- lines

-- a comment that spans lines ends a line, and an empty line doesn't count
lines_of_pieces : filled (groups 0
    (record { kind = kind.Name; text = codes "a" } ∷ record { kind = kind.Comment; text = 47 ∷ 42 ∷ 10 ∷ 42 ∷ 47 ∷ [] }
    ∷ record { kind = kind.Blank; text = 10 ∷ 10 ∷ [] } ∷ record { kind = kind.Name; text = codes "b" } ∷ []))
    ≡ (name (codes "a") 0 ∷ []) ∷ (name (codes "b") 8 ∷ []) ∷ []
lines_of_pieces = refl

-- a blank within a line doesn't end it
one_line : filled (groups 0
    (record { kind = kind.Name; text = codes "a" } ∷ record { kind = kind.Blank; text = codes " " } ∷ record { kind = kind.Name; text = codes "b" } ∷ []))
    ≡ (name (codes "a") 0 ∷ name (codes "b") 2 ∷ []) ∷ []
one_line = refl

-- ---- blocks

abbrev word : ℕ → List PatchToken
word at = name (codes "Expression") at ∷ []

abbrev header : ℕ → List PatchToken
header at = made token.Stray (codes "@") at ∷ name (codes "r") (at + 1) ∷ made token.Stray (codes "@") (at + 2) ∷ []

-- the line before the second header begins the second block
two_blocks : blocks (word 0 ∷ header 11 ∷ word 20 ∷ header 31 ∷ []) ≡ (word 0 ∷ header 11 ∷ []) ∷ (word 20 ∷ header 31 ∷ []) ∷ []
two_blocks = refl

-- the line before the first header does not
one_block : blocks (word 0 ∷ word 11 ∷ header 22 ∷ []) ≡ (word 0 ∷ word 11 ∷ header 22 ∷ []) ∷ []
one_block = refl

-- of two consecutive headers, the first is the line before the second
headers_alone : blocks (header 0 ∷ header 4 ∷ []) ≡ (header 0 ∷ header 4 ∷ []) ∷ []
headers_alone = refl

no_block : blocks [] ≡ []
no_block = refl

-- ---- sides

-- `X <=> Y => Z`
two_arrows : arrows_in (name (codes "X") 0 ∷ sign (codes "<=") 2 ∷ sign (codes ">") 4 ∷ name (codes "Y") 6 ∷ sign (codes "=") 8
    ∷ sign (codes ">") 9 ∷ name (codes "Z") 11 ∷ [])
    ≡ true ∷ false ∷ []
two_arrows = refl

three_sides : sides_in (name (codes "X") 0 ∷ sign (codes "<=") 2 ∷ sign (codes ">") 4 ∷ name (codes "Y") 6 ∷ sign (codes "=") 8
    ∷ sign (codes ">") 9 ∷ name (codes "Z") 11 ∷ [])
    ≡ (name (codes "X") 0 ∷ []) ∷ (name (codes "Y") 6 ∷ []) ∷ (name (codes "Z") 11 ∷ []) ∷ []
three_sides = refl

-- `X = > Y`: no arrow, since there is a blank in it
no_arrow : arrows_in (name (codes "X") 0 ∷ sign (codes "=") 2 ∷ sign (codes ">") 4 ∷ name (codes "Y") 6 ∷ []) ≡ []
no_arrow = refl

-- `X =>`: the second side is empty
empty_side : sides_in (name (codes "X") 0 ∷ sign (codes "=") 2 ∷ sign (codes ">") 3 ∷ []) ≡ (name (codes "X") 0 ∷ []) ∷ [] ∷ []
empty_side = refl

-- ---- declarations

symbols : are_of_kinds true (name (codes "symbol") 0 ∷ name (codes "X") 7 ∷ sign (codes ";") 8 ∷ []) ≡ false
symbols = refl

expressions : are_of_kinds true (name (codes "expression") 0 ∷ name (codes "X") 11 ∷ sign (codes ";") 12 ∷ []) ≡ true
expressions = refl

-- ---- variables that are lost

abbrev var : List ℕ → VarDecl
var text = record { var = record { rule = 0; name = text }; kind = Meta meta.Expr; inherited = false; not_names = []; not_places = []; wanted = anything }

-- the second variable is lost, at its first place
lost : lost_between (var (codes "X") ∷ var (codes "Y") ∷ []) (name (codes "X") 0 ∷ [])
    (name (codes "X") 5 ∷ name (codes "Y") 7 ∷ name (codes "Y") 9 ∷ []) ≡ Some 7
lost = refl

-- a name that is no variable is never lost
kept : lost_between (var (codes "X") ∷ []) (name (codes "X") 0 ∷ []) (name (codes "X") 5 ∷ name (codes "NULL") 7 ∷ []) ≡ None
kept = refl
