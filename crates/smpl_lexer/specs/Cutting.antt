-- What the reader keeps of the lines that it cuts and reads.
use Rattle.std.specs.Prelude.{◌≡◌, ℕ, Bool, List, [], ◌∷◌, Option, None}
use Rattle.smpl_patch.specs.declared.fault.PatchFault.{PatchFault}
use Rattle.smpl_patch.specs.Faults.{first_from}
use Rattle.smpl_lexer.specs.declared.section.Section.TheVariants as section
use Rattle.smpl_lexer.specs.declared.cut.LineTokens.{LineTokens}
use Rattle.smpl_lexer.specs.declared.reading.Reading.{Reading}
use Rattle.smpl_lexer.specs.Lines.{lines_from, at_sign, begins_with}
use Rattle.smpl_lexer.specs.Sections.{role_in, section_after}
use Rattle.smpl_lexer.specs.Pieces.{LinePiece, joined, Cut}
use Rattle.smpl_lexer.specs.Tokens.{tokens_from, bad_from}
use Rattle.smpl_lexer.specs.CutLines.{CutLine, IsCutLine, AreCutLines, plain_tokens, faults_of}
use Rattle.smpl_lexer.specs.Texts.{gather_line, nothing}

-- the bytes of a line that begin at a place were cut
pub record IsCutTo (signs plus : Bool) (at : ℕ) (bytes : List ℕ) (first : Option PatchFault) (cut : LineTokens)
    : Type 0 where
  pub pieces : List LinePiece
  pub text : joined pieces ≡ bytes
  pub cuts : Cut signs pieces
  pub tokens : cut.tokens ≡ tokens_from at pieces
  pub faults : cut.first ≡ first_from first (bad_from plus at pieces)

abbrev pub after_line : Reading → CutLine → Reading
after_line r c = record {
  section = section_after c.role;
  first = first_from r.first (faults_of c);
  gathered = gather_line c.role c.line.start c.line.bytes (plain_tokens c) r.gathered;
}

-- one line was read
pub record IsReadTo (before : Reading) (start : ℕ) (bytes : List ℕ) (after : Reading) : Type 0 where
  pub line : CutLine
  pub line_is : line.line ≡ record { start = start; bytes = bytes }
  pub role : line.role ≡ role_in before.section (begins_with at_sign bytes)
  pub cut : IsCutLine line
  pub after_is : after ≡ after_line before line

abbrev pub after_lines : Reading → List CutLine → Reading
after_lines r [] = r
after_lines r (c ∷ cs) = after_lines (after_line r c) cs

abbrev pub unread : Reading
unread = record { section = section.Before; first = None; gathered = nothing }

-- all lines were read
pub record AreReadTo (bytes : List ℕ) (after : Reading) : Type 0 where
  pub lines : List CutLine
  pub cut : AreCutLines section.Before (lines_from 0 bytes) lines
  pub after_is : after ≡ after_lines unread lines
