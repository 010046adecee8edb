-- Lines with their pieces, and the tokens and faults of each.
use Rattle.std.specs.Prelude.{ℕ, ◌≡◌, ◌+◌, ⊤, List, [], ◌∷◌, ◌++◌, drop}
use Rattle.smpl_patch.specs.declared.fault.PatchFault.{PatchFault}
use Rattle.smpl_lexer.specs.declared.section.Section.{Section}
use Rattle.smpl_lexer.specs.declared.section.Role.{Role}
use Rattle.smpl_lexer.specs.declared.section.Role.TheVariants as role
use Rattle.smpl_lexer.specs.declared.token.PatchToken.{PatchToken}
use Rattle.smpl_lexer.specs.Lines.{Line, end_of, at_sign, begins_with}
use Rattle.smpl_lexer.specs.Sections.{role_in, section_after, skipped, is_plus, has_signs}
use Rattle.smpl_lexer.specs.Pieces.{LinePiece, joined, Cut}
use Rattle.smpl_lexer.specs.Tokens.{tokens_from, bad_from}
use Rattle.smpl_lexer.specs.Headers.{virtual_faults, header_faults, second_faults, is_second}

-- a line, its role in the patch, and its pieces without the sign
pub record CutLine : Type 0 where
  pub role : Role
  pub line : Line
  pub pieces : List LinePiece

-- the pieces are cut from the line's bytes after the sign
pub record IsCutLine (c : CutLine) : Type 0 where
  pub text : joined c.pieces ≡ drop (skipped c.role c.line.bytes) c.line.bytes
  pub cut : Cut (has_signs c.role c.line.bytes) c.pieces

-- these are the lines from a section on, each with its role and its pieces
abbrev pub AreCutLines : Section → List Line → List CutLine → Type 0
AreCutLines s [] [] = ⊤
AreCutLines s [] (c ∷ cs) = ⊥
AreCutLines s (l ∷ ls) [] = ⊥
AreCutLines s (l ∷ ls) (c ∷ cs) = (c.line ≡ l) × ((c.role ≡ role_in s (begins_with at_sign l.bytes))
    × (IsCutLine c × AreCutLines (section_after c.role) ls cs))

-- where its pieces begin
abbrev pub place_in : CutLine → ℕ
place_in c = c.line.start + skipped c.role c.line.bytes

-- the tokens as they are
abbrev pub plain_tokens : CutLine → List PatchToken
plain_tokens c = tokens_from (place_in c) c.pieces

-- what is wrong with the tokens of a line that begins and ends at these places
abbrev pub role_faults : Role → ℕ → List PatchToken → ℕ → List PatchFault
role_faults role.Virtual start ts end = virtual_faults ts end
role_faults role.Header start ts end = header_faults start ts end
role_faults role.Declaration start ts end = []
role_faults role.Second start ts end = second_faults (is_second ts) start
role_faults role.Body start ts end = []

abbrev pub faults_of : CutLine → List PatchFault
faults_of c =
    bad_from (is_plus c.role c.line.bytes) (place_in c) c.pieces
    ++ role_faults c.role c.line.start (plain_tokens c) (end_of c.line)
