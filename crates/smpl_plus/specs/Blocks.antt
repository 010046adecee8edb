-- Plus code: longest runs of plus lines with no token of a pattern between them.
use Rattle.std.specs.Prelude.{ℕ, suc, ◌≡◌, ◌==◌, Bool, false, if◌then◌else◌, ⊤, List, [], ◌∷◌, ◌++◌, map, length, Option, Some, None}
use Rattle.std.specs.List.{list_any}
use Rattle.c_lexer.specs.declared.state.Kind.{Kind}
use Rattle.c_lexer.specs.declared.state.Kind.TheVariants as kind
use Rattle.c_lexer.specs.First.{IsFirst}
use Rattle.smpl_patch.specs.declared.pattern.VarDecl.{VarDecl}
use Rattle.smpl_patch.specs.declared.pattern.PlusLine.{PlusLine}
use Rattle.smpl_patch.specs.declared.pattern.PlusBlock.{PlusBlock}
use Rattle.smpl_lexer.specs.declared.text.BodyLine.{BodyLine}
use Rattle.smpl_meta.specs.declared.patterns.Placed.{Placed}
use Rattle.smpl_meta.specs.Patterns.{made}

-- ---- blocks

-- the number of its first line, and its lines
pub record Block : Type 0 where
  pub first : ℕ
  pub lines : List BodyLine

-- the blocks that are complete, and the one to which more lines may be added
pub record Blocks : Type 0 where
  pub whole : List Block
  pub last : Option Block

-- a token of a pattern is in the line with this number
abbrev pub has_tokens : List Placed → ℕ → Bool
has_tokens ps line = list_any (λ (p : Placed). p.line == line) ps

abbrev pub ended : Option Block → List Block
ended None = []
ended (Some b) = b ∷ []

abbrev pub with_plus : Option Block → ℕ → BodyLine → Block
with_plus None line l = record { first = line; lines = l ∷ [] }
with_plus (Some b) line l = record { first = b.first; lines = b.lines ++ l ∷ [] }

abbrev pub put_line : List Placed → ℕ → Blocks → BodyLine → Blocks
put_line ps line b l =
    if l.sign == 43 then record { whole = b.whole; last = Some (with_plus b.last line l) }
    else (if has_tokens ps line then record { whole = b.whole ++ ended b.last; last = None } else b)

abbrev pub put_lines : List Placed → ℕ → Blocks → List BodyLine → Blocks
put_lines ps line b [] = b
put_lines ps line b (l ∷ ls) = put_lines ps (suc line) (put_line ps line b l) ls

abbrev pub all_blocks : Blocks → List Block
all_blocks b = b.whole ++ ended b.last

abbrev pub no_blocks : Blocks
no_blocks = record { whole = []; last = None }

abbrev pub blocks_of : List Placed → List BodyLine → List Block
blocks_of ps body = all_blocks (put_lines ps 0 no_blocks body)

-- ---- lines of plus code, cut again for their blanks

pub record Piece : Type 0 where
  pub kind : Kind
  pub text : List ℕ

abbrev pub joined : List Piece → List ℕ
joined [] = []
joined (p ∷ ps) = p.text ++ joined ps

-- each piece is the one that C has at its place
abbrev pub Cut : List Piece → Type 0
Cut [] = Unit {0}
Cut (p ∷ ps) = IsFirst p.kind p.text (joined ps) × Cut ps

-- the blanks directly before each token; comments are left out first
abbrev pub gaps_by : Kind → List ℕ → List ℕ → (List ℕ → List (List ℕ)) → List (List ℕ)
gaps_by kind.Blank text blank more = more (blank ++ text)
gaps_by kind.Comment text blank more = more blank
gaps_by kind.Line text blank more = more blank
gaps_by _ text blank more = blank ∷ more []

abbrev pub gaps_from : List ℕ → List Piece → List (List ℕ)
gaps_from blank [] = []
gaps_from blank (p ∷ ps) = gaps_by p.kind p.text blank (λ b. gaps_from b ps)

abbrev pub lead_of : List (List ℕ) → ℕ
lead_of [] = 0
lead_of (gap ∷ gaps) = length gap

-- The line, cut together with a newline, has these blanks.
pub record AreGaps (text : List ℕ) (gaps : List (List ℕ)) : Type 0 where
  pub pieces : List Piece
  pub joins : joined pieces ≡ text
  pub cut : Cut pieces
  pub are : gaps ≡ gaps_from [] pieces

-- The line has these tokens, of which those with declared names are metavariables, and these blanks.
pub record IsPlusLine (vars : List VarDecl) (l : BodyLine) (p : PlusLine) : Type 0 where
  pub tokens : p.tokens ≡ map (made vars 0) l.tokens
  pub gaps : AreGaps (l.text ++ 10 ∷ []) p.gaps
  pub lead : p.lead ≡ lead_of p.gaps

abbrev pub ArePlusLines : List VarDecl → List BodyLine → List PlusLine → Type 0
ArePlusLines vars [] [] = ⊤
ArePlusLines vars [] (p ∷ ps) = ⊥
ArePlusLines vars (l ∷ ls) [] = ⊥
ArePlusLines vars (l ∷ ls) (p ∷ ps) = IsPlusLine vars l p × ArePlusLines vars ls ps

-- the first of the lines begins with `++`
abbrev pub is_many : List BodyLine → Bool
is_many [] = false
is_many (l ∷ ls) = l.many

-- The block has these lines, and the kind of the first of them.
pub record IsPlusBlock (vars : List VarDecl) (b : Block) (c : PlusBlock) : Type 0 where
  pub lines : ArePlusLines vars b.lines c.lines
  pub many : c.many ≡ is_many b.lines

abbrev pub ArePlusBlocks : List VarDecl → List Block → List PlusBlock → Type 0
ArePlusBlocks vars [] [] = ⊤
ArePlusBlocks vars [] (c ∷ cs) = ⊥
ArePlusBlocks vars (b ∷ bs) [] = ⊥
ArePlusBlocks vars (b ∷ bs) (c ∷ cs) = IsPlusBlock vars b c × ArePlusBlocks vars bs cs
