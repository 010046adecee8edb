-- In a text without faults, each header is complete.
use Rattle.std.proofs.Common.{◌≡◌, ℕ, List, [], ◌∷◌, ◌++◌, Option, Some, None, length, refl, sym, subst}
use Rattle.smpl_lexer.specs.declared.section.Section.TheVariants as section
use Rattle.smpl_lexer.specs.declared.section.Role.{Role}
use Rattle.smpl_lexer.specs.declared.section.Role.TheVariants as role
use Rattle.smpl_lexer.specs.declared.token.PatchToken.{PatchToken}
use Rattle.smpl_lexer.specs.declared.text.BodyLine.{BodyLine}
use Rattle.smpl_lexer.specs.declared.text.RuleText.{RuleText}
use Rattle.smpl_lexer.specs.declared.text.PatchText.{PatchText}
use Rattle.smpl_lexer.specs.declared.gather.Gathered.{Gathered}
use Rattle.smpl_lexer.specs.Headers.{header_stop, stop_faults, script_faults, has_script}
use Rattle.smpl_lexer.specs.Lines.{end_of}
use Rattle.smpl_lexer.specs.Tokens.{bad_from}
use Rattle.smpl_lexer.specs.Sections.{is_plus}
use Rattle.smpl_lexer.specs.CutLines.{CutLine, plain_tokens, place_in, role_faults, faults_of}
use Rattle.smpl_lexer.specs.Texts.{AllGoOn, ended, with_decls, with_line, body_line, gather_line, gather, nothing, line_faults}
use Rattle.smpl_lexer.specs.Texts.{end_faults, section_of, IsTextOf}

nil_left : {A : Type 0} (xs ys : List A) → xs ++ ys ≡ [] → xs ≡ []
nil_left [] ys e = refl
nil_left (x ∷ xs) ys e = absurd (cc)

nil_right : {A : Type 0} (xs ys : List A) → xs ++ ys ≡ [] → ys ≡ []
nil_right [] ys e = e
nil_right (x ∷ xs) ys e = absurd (cc)

no_stop : (o : Option ℕ) → stop_faults o ≡ [] → o ≡ None
no_stop None e = refl
no_stop (Some at) e = absurd (cc)

all_more : (rs ss : List RuleText) → AllGoOn rs → AllGoOn ss → AllGoOn (rs ++ ss)
all_more [] ss a b = b
all_more (r ∷ rs) ss a b = (a.0, all_more rs ss a.1 b)

record Good (g : Gathered) : Type 0 where
  rules : AllGoOn g.rules
  last : AllGoOn (ended g.last 0)

-- it does not matter where a rule ends
last_ends : (o : Option RuleText) (a b : ℕ) → AllGoOn (ended o a) → AllGoOn (ended o b)
last_ends None a b all = tt
last_ends (Some r) a b all = all

last_decls : (o : Option RuleText) (ts : List PatchToken) → AllGoOn (ended o 0) → AllGoOn (ended (with_decls o ts) 0)
last_decls None ts all = tt
last_decls (Some r) ts all = all

last_line : (o : Option RuleText) (l : BodyLine) → AllGoOn (ended o 0) → AllGoOn (ended (with_line o l) 0)
last_line None l all = tt
last_line (Some r) l all = all

good_line : (r : Role) (start : ℕ) (bytes : List ℕ) (ts : List PatchToken) (end : ℕ) (g : Gathered)
    → role_faults r start ts end ≡ [] → Good g → Good (gather_line r start bytes ts g)
good_line role.Virtual start bytes ts end g none good = record { rules = good.rules; last = good.last }
good_line role.Header start bytes ts end g none good = record {
  rules = all_more g.rules (ended g.last start) good.rules (last_ends g.last 0 start good.last);
  last = ((end, no_stop (header_stop ts end) (nil_right (script_faults (has_script ts) start) (stop_faults (header_stop ts end)) none)), tt);
}
good_line role.Declaration start bytes ts end g none good = record { rules = good.rules; last = last_decls g.last ts good.last }
good_line role.Second start bytes ts end g none good = good
good_line role.Body start bytes ts end g none good = record { rules = good.rules; last = last_line g.last (body_line start bytes ts) good.last }

good_lines : (g : Gathered) (cs : List CutLine) → line_faults cs ≡ [] → Good g → Good (gather g cs)
good_lines g [] none good = good
good_lines g (c ∷ cs) none good =
    let here : role_faults c.role c.line.start (plain_tokens c) (end_of c.line) ≡ []
    = nil_right (bad_from (is_plus c.role c.line.bytes) (place_in c) c.pieces)
    (role_faults c.role c.line.start (plain_tokens c) (end_of c.line)) (nil_left (faults_of c) (line_faults cs) none) in
    good_lines (gather_line c.role c.line.start c.line.bytes (plain_tokens c) g) cs (nil_right (faults_of c) (line_faults cs) none)
    (good_line c.role c.line.start c.line.bytes (plain_tokens c) (end_of c.line) g here good)

pub headers_go_on : (bytes : List ℕ) (t : PatchText) → IsTextOf bytes t → AllGoOn t.rules
headers_go_on bytes t text =
    let cs = text.lines in
    let none : line_faults cs ≡ [] = nil_left (line_faults cs) (end_faults (section_of section.Before cs) (length bytes)) text.faultless in
    let good = good_lines nothing cs none (record { rules = tt; last = tt }) in
    let g = gather nothing cs in
    subst (λ (x : PatchText). AllGoOn x.rules) (sym text.is)
    (all_more g.rules (ended g.last (length bytes)) good.rules (last_ends g.last 0 (length bytes) good.last))
