-- A patch as its rules, and the first fault of its text.
use Rattle.std.specs.Prelude.{ℕ, ◌≡◌, ◌<◌, ◌≤◌, ◌⊎◌, List, [], ◌∷◌, ◌++◌, drop, length, All, Option, Some, None}
use Rattle.smpl_patch.specs.declared.fault.PatchFault.{PatchFault}
use Rattle.smpl_patch.specs.declared.fault.PatchFault.TheVariants as fault
use Rattle.smpl_patch.specs.Faults.{first_of}
use Rattle.smpl_lexer.specs.declared.section.Section.{Section}
use Rattle.smpl_lexer.specs.declared.section.Section.TheVariants as section
use Rattle.smpl_lexer.specs.declared.section.Role.{Role}
use Rattle.smpl_lexer.specs.declared.section.Role.TheVariants as role
use Rattle.smpl_lexer.specs.declared.token.PatchToken.{PatchToken}
use Rattle.smpl_lexer.specs.declared.text.BodyLine.{BodyLine}
use Rattle.smpl_lexer.specs.declared.text.RuleText.{RuleText}
use Rattle.smpl_lexer.specs.declared.text.PatchText.{PatchText}
use Rattle.smpl_lexer.specs.declared.gather.Gathered.{Gathered}
use Rattle.smpl_lexer.specs.Lines.{lines_from, content}
use Rattle.smpl_lexer.specs.Sections.{section_after, sign_of, is_many, skipped}
use Rattle.smpl_lexer.specs.Tokens.{as_branch}
use Rattle.smpl_lexer.specs.Headers.{virtual_names, header_stop}
use Rattle.smpl_lexer.specs.CutLines.{CutLine, AreCutLines, plain_tokens, faults_of}

-- ---- what each line adds to the patch: `last` is the rule to which more lines may be added

-- the rule ends here, if there is one
abbrev pub ended : Option RuleText → ℕ → List RuleText
ended None end = []
ended (Some r) end = record r { end = end } ∷ []

abbrev pub with_decls : Option RuleText → List PatchToken → Option RuleText
with_decls None ts = None
with_decls (Some r) ts = Some (record r { decls = r.decls ++ ts })

abbrev pub with_line : Option RuleText → BodyLine → Option RuleText
with_line None l = None
with_line (Some r) l = Some (record r { body = r.body ++ l ∷ [] })

abbrev pub new_rule : ℕ → List PatchToken → RuleText
new_rule start tokens = record { start = start; end = start; header = tokens; decls = []; body = [] }

-- a line of a body
abbrev pub body_line : ℕ → List ℕ → List PatchToken → BodyLine
body_line start bytes tokens = record {
  sign = sign_of bytes;
  many = is_many bytes;
  start = start;
  text = content (drop (skipped role.Body bytes) bytes);
  tokens = as_branch start tokens;
}

-- A `virtual` line adds its names. A header ends the rule before it and begins one. Declarations and body lines are added
-- to the last rule.
abbrev pub gather_line : Role → ℕ → List ℕ → List PatchToken → Gathered → Gathered
gather_line role.Virtual start bytes tokens g = record g { virtuals = g.virtuals ++ virtual_names tokens }
gather_line role.Header start bytes tokens g =
    record g { rules = g.rules ++ ended g.last start; last = Some (new_rule start tokens) }
gather_line role.Declaration start bytes tokens g = record g { last = with_decls g.last tokens }
gather_line role.Second start bytes tokens g = g
gather_line role.Body start bytes tokens g = record g { last = with_line g.last (body_line start bytes tokens) }

abbrev pub gather : Gathered → List CutLine → Gathered
gather g [] = g
gather g (c ∷ cs) = gather (gather_line c.role c.line.start c.line.bytes (plain_tokens c) g) cs

abbrev pub finished : ℕ → Gathered → PatchText
finished end g = record { virtuals = g.virtuals; rules = g.rules ++ ended g.last end }

abbrev pub nothing : Gathered
nothing = record { virtuals = []; rules = []; last = None }

-- the virtual names and the rules of cut lines, up to the text's end
abbrev pub text_of : ℕ → List CutLine → PatchText
text_of end cs = finished end (gather nothing cs)

-- ---- faults

-- the section after the lines
abbrev pub section_of : Section → List CutLine → Section
section_of s [] = s
section_of s (c ∷ cs) = section_of (section_after c.role) cs

-- a rule whose `@@` is missing ends with the text
abbrev pub end_faults : Section → ℕ → List PatchFault
end_faults section.Declarations end = fault.BadHeader end ∷ []
end_faults section.Before end = []
end_faults section.Body end = []

abbrev pub line_faults : List CutLine → List PatchFault
line_faults [] = []
line_faults (c ∷ cs) = faults_of c ++ line_faults cs

-- everything that is wrong with the text: with each line, and with its end
abbrev pub text_faults : ℕ → List CutLine → List PatchFault
text_faults end cs = line_faults cs ++ end_faults (section_of section.Before cs) end

-- ---- the whole text

-- how many bytes a patch may have
abbrev pub most_bytes : ℕ
most_bytes = 1048576

-- The lines of a text that is not too long, cut.
pub record AreLinesOf (bytes : List ℕ) (cs : List CutLine) : Type 0 where
  pub short : length bytes ≤ most_bytes
  pub cut : AreCutLines section.Before (lines_from 0 bytes) cs

-- Nothing is wrong with the text, and these are its virtual names and its rules.
pub record IsTextOf (bytes : List ℕ) (text : PatchText) : Type 0 where
  pub lines : List CutLine
  pub are : AreLinesOf bytes lines
  pub faultless : text_faults (length bytes) lines ≡ []
  pub is : text ≡ text_of (length bytes) lines

-- This is the first fault of the text: it is too long, or this is the fault at the least place, and at one place the one
-- with the least number.
pub data IsTextFault (bytes : List ℕ) : PatchFault → Type 0 where
  too_long : most_bytes < length bytes → IsTextFault bytes fault.PatchTooLong
  first : {f : PatchFault} → (lines : List CutLine) → AreLinesOf bytes lines
      → first_of (text_faults (length bytes) lines) ≡ Some f → IsTextFault bytes f

-- the header is complete
abbrev pub GoesOn : RuleText → Type 0
GoesOn r = (end : ℕ) × (header_stop r.header end ≡ None)

abbrev pub AllGoOn : List RuleText → Type 0
AllGoOn [] = Unit {0}
AllGoOn (r ∷ rs) = GoesOn r × AllGoOn rs

-- A rule has at most as many lines as a patch may have bytes, and each of them has at most that many bytes.
pub record IsSmallRule (r : RuleText) : Type 0 where
  pub lines : length r.body ≤ most_bytes
  pub texts : All (λ (l : BodyLine). length l.text ≤ most_bytes) r.body

-- A text has at most as many rules as a patch may have bytes, and each of them is small.
pub record IsSmall (text : PatchText) : Type 0 where
  pub rules : length text.rules ≤ most_bytes
  pub each : All IsSmallRule text.rules

-- the fault of a phase, or out of memory
abbrev pub OrNoMemory : (PatchFault → Type 0) → PatchFault → Type 0
OrNoMemory P f = (f ≡ fault.NoMemory) ⊎ P f
