-- Patches that are spelled are sound.
use Rattle.std.proofs.Common.{◌≡◌, ℕ, suc, nat_lt, nat_eq, Bool, true, ◌&&◌, refl, sym, ap, ◌∙◌, arith, List, [], ◌∷◌, ◌++◌, length, Option, Some, None}
use Rattle.std.specs.List.{list_all}
use Rattle.std.specs.Str.{bytes_eq}
use Rattle.std.proofs.lemmas.List.{length-map}
use Rattle.std.proofs.lemmas.Bool.Decides.{nat_tests}
use Rattle.c_terms.specs.declared.token.Token.{Token}
use Rattle.smpl_terms.specs.declared.var.Var.{Var as Variable}
use Rattle.smpl_patch.specs.declared.pattern.VarDecl.{VarDecl}
use Rattle.smpl_patch.specs.declared.pattern.VarKind.TheVariants.{Position}
use Rattle.smpl_patch.specs.declared.pattern.PatToken.{PatToken}
use Rattle.smpl_patch.specs.declared.pattern.Pattern.{Pattern}
use Rattle.smpl_patch.specs.declared.pattern.PlusLine.{PlusLine}
use Rattle.smpl_patch.specs.declared.pattern.PlusBlock.{PlusBlock}
use Rattle.smpl_patch.specs.declared.rule.Rule.{Rule}
use Rattle.smpl_patch.specs.declared.rule.Patch.{Patch}
use Rattle.smpl_patch.specs.Bodies.{body as plain}
use Rattle.smpl_patch.specs.Shapes.{is_formed_body, patterns_body}
use Rattle.smpl_patch.specs.Sound.{declares, none_alike, is_own_var, is_sound_decl, is_sound_wanted, is_below, is_sound_pattern, lengths}
use Rattle.smpl_patch.specs.Sound.{is_plus_token, is_gap, leads, is_sound_line, is_sound_block, is_sound_token, AreSoundRules}
use Rattle.smpl_patch.specs.Sound.{IsSound}
use Rattle.smpl_lexer.specs.declared.text.BodyLine.{BodyLine}
use Rattle.smpl_lexer.specs.declared.text.RuleText.{RuleText}
use Rattle.smpl_meta.specs.declared.head.RuleHead.{RuleHead}
use Rattle.smpl_meta.specs.Patterns.{made}
use Rattle.smpl_plus.specs.Blocks.{ArePlusLines}
use Rattle.smpl_file.specs.Exports.{taken}
use Rattle.smpl_file.specs.Patches.{IsRule, AreRules, IsSpelled}
use Rattle.sound_laws.specs.SmplSound.Parts.{EachPasses, EachHas, leads_block, leads_token, whole_block, whole_token, gaps_block, gaps_token}
use Rattle.sound_laws.proofs.SmplSound.BoolLemmas.{both-true, front-true, back-true}
use Rattle.sound_laws.proofs.SmplSound.LineLemmas.{AllLines, AllBodies}
use Rattle.sound_laws.proofs.SmplSound.PlusLemmas.{WhenPlus, at_block, at_token, anchored_pass}
use Rattle.sound_laws.proofs.SmplSound.GapLemmas.{BlankLaw}
use Rattle.sound_laws.proofs.SmplAllSound.LineLemmas.{Even, text-even}

-- ---- as many gaps as tokens

abbrev even_line : PlusLine → Bool
even_line l = nat_eq (length l.gaps) (length l.tokens)

abbrev even_block : PlusBlock → Bool
even_block b = list_all even_line b.lines

eq-true : (m n : ℕ) → m ≡ n → nat_eq m n ≡ true
eq-true m n e = grind (arith, nat_tests)

lines-even : (vars : List VarDecl) (ls : List BodyLine) (ps : List PlusLine) → ArePlusLines vars ls ps → AllLines Even ls → list_all even_line ps ≡ true
lines-even vars [] [] a h = refl
lines-even vars [] (p ∷ ps) a h = absurd a
lines-even vars (l ∷ ls) [] a h = absurd a
lines-even vars (l ∷ ls) (p ∷ ps) a h =
    let tokens : length p.tokens ≡ length l.tokens = ap length a.0.tokens ∙ length-map l.tokens (made vars 0) in
    both-true (even_line p) (list_all even_line ps)
    (eq-true (length p.gaps) (length p.tokens) (h.0 p.gaps a.0.gaps ∙ sym tokens)) (lines-even vars ls ps a.1 h.1)

abbrev even_tokens : Rule → Type 0
even_tokens r = list_all (at_token even_block) r.tokens ≡ true

rule-even : (known : List Variable) (n : ℕ) (t : RuleText) (h : RuleHead) (x : Rule) → IsRule known n t h x → AllLines (WhenPlus Even) t.body → even_tokens x
rule-even known n t h x made lines =
    anchored_pass Even h.vars even_block (length t.body) (λ b c a e le. lines-even h.vars b.lines c.lines a e) n t.body x.tokens made.tokens lines (omega arith)

rules-even : (known : List Variable) (n : ℕ) (ts : List RuleText) (hs : List RuleHead) (xs : List Rule)
    → AreRules known n ts hs xs → AllBodies (WhenPlus Even) ts → EachHas even_tokens xs
rules-even known n [] [] [] a lines = tt
rules-even known n [] [] (x ∷ xs) a lines = absurd a
rules-even known n [] (h ∷ hs) [] a lines = absurd a
rules-even known n [] (h ∷ hs) (x ∷ xs) a lines = absurd a
rules-even known n (t ∷ ts) [] [] a lines = absurd a
rules-even known n (t ∷ ts) [] (x ∷ xs) a lines = absurd a
rules-even known n (t ∷ ts) (h ∷ hs) [] a lines = absurd a
rules-even known n (t ∷ ts) (h ∷ hs) (x ∷ xs) a lines = (rule-even known n t h x a.0 lines.0, rules-even known (suc n) ts hs xs a.1 lines.1)

-- ---- tokens

lines-sound : (vars : List VarDecl) (ls : List PlusLine)
    → list_all (λ (l : PlusLine). list_all (λ (t : Token). is_plus_token vars t.kind t.text) l.tokens) ls ≡ true → list_all even_line ls ≡ true
    → list_all (λ (l : PlusLine). list_all is_gap l.gaps) ls ≡ true → list_all (λ (l : PlusLine). leads l.lead l.gaps) ls ≡ true
    → list_all (is_sound_line vars) ls ≡ true
lines-sound vars [] w e g l = refl
lines-sound vars (x ∷ xs) w e g l =
    let whole : Bool = list_all (λ (t : Token). is_plus_token vars t.kind t.text) x.tokens in
    let wholes : Bool = list_all (λ (y : PlusLine). list_all (λ (t : Token). is_plus_token vars t.kind t.text) y.tokens) xs in
    let gaps : Bool = list_all is_gap x.gaps in
    let all_gaps : Bool = list_all (λ (y : PlusLine). list_all is_gap y.gaps) xs in
    let lead : Bool = leads x.lead x.gaps in
    let all_leads : Bool = list_all (λ (y : PlusLine). leads y.lead y.gaps) xs in
    let evens : Bool = list_all even_line xs in
    both-true (is_sound_line vars x) (list_all (is_sound_line vars) xs)
    (both-true whole (even_line x && (gaps && lead)) (front-true whole wholes w)
    (both-true (even_line x) (gaps && lead) (front-true (even_line x) evens e)
    (both-true gaps lead (front-true gaps all_gaps g) (front-true lead all_leads l))))
    (lines-sound vars xs (back-true whole wholes w) (back-true (even_line x) evens e) (back-true gaps all_gaps g) (back-true lead all_leads l))

block-sound : (vars : List VarDecl) (o : Option PlusBlock) → whole_block vars o ≡ true → at_block even_block o ≡ true
    → gaps_block o ≡ true → leads_block o ≡ true → is_sound_block vars o ≡ true
block-sound vars None w e g l = refl
block-sound vars (Some b) w e g l = lines-sound vars b.lines w e g l

abbrev positions_in : List VarDecl → PatToken → Bool
positions_in vars t = list_all (λ x. declares vars x Position) t.positions

tokens-sound : (vars : List VarDecl) (ts : List PatToken) → list_all (positions_in vars) ts ≡ true
    → list_all (whole_token vars) ts ≡ true → list_all (at_token even_block) ts ≡ true
    → list_all gaps_token ts ≡ true → list_all leads_token ts ≡ true → list_all (is_sound_token vars) ts ≡ true
tokens-sound vars [] p w e g l = refl
tokens-sound vars (t ∷ ts) p w e g l =
    let w0 = front-true (whole_token vars t) (list_all (whole_token vars) ts) w in
    let e0 = front-true (at_token even_block t) (list_all (at_token even_block) ts) e in
    let g0 = front-true (gaps_token t) (list_all gaps_token ts) g in
    let l0 = front-true (leads_token t) (list_all leads_token ts) l in
    let before : is_sound_block vars t.before ≡ true = block-sound vars t.before
    (front-true (whole_block vars t.before) (whole_block vars t.after) w0) (front-true (at_block even_block t.before) (at_block even_block t.after) e0)
    (front-true (gaps_block t.before) (gaps_block t.after) g0) (front-true (leads_block t.before) (leads_block t.after) l0) in
    let after : is_sound_block vars t.after ≡ true = block-sound vars t.after
    (back-true (whole_block vars t.before) (whole_block vars t.after) w0) (back-true (at_block even_block t.before) (at_block even_block t.after) e0)
    (back-true (gaps_block t.before) (gaps_block t.after) g0) (back-true (leads_block t.before) (leads_block t.after) l0) in
    both-true (is_sound_token vars t) (list_all (is_sound_token vars) ts)
    (both-true (positions_in vars t) (is_sound_block vars t.before && is_sound_block vars t.after)
    (front-true (positions_in vars t) (list_all (positions_in vars) ts) p)
    (both-true (is_sound_block vars t.before) (is_sound_block vars t.after) before after))
    (tokens-sound vars ts (back-true (positions_in vars t) (list_all (positions_in vars) ts) p)
    (back-true (whole_token vars t) (list_all (whole_token vars) ts) w)
    (back-true (at_token even_block t) (list_all (at_token even_block) ts) e)
    (back-true (gaps_token t) (list_all gaps_token ts) g) (back-true (leads_token t) (list_all leads_token ts) l))

-- ---- rules

pub record Parts (earlier rules : List Rule) : Type 0 where
  pub names : EachPasses (λ earlier r. none_alike (λ d e. bytes_eq d.var.name e.var.name) r.vars) earlier rules
  pub exports : EachPasses (λ earlier r. list_all (is_own_var r.vars) r.exports) earlier rules
  pub vars : EachPasses (λ earlier r. list_all (is_sound_decl earlier) r.vars) earlier rules
  pub wanted : EachPasses (λ earlier r. list_all (is_sound_wanted earlier) r.vars) earlier rules
  pub depends : EachPasses (λ earlier r. is_below (length earlier) r.depends) earlier rules
  pub atoms : EachPasses (λ earlier r. none_alike (λ (p q : Pattern). nat_eq p.atom q.atom) (patterns_body (plain r.body))) earlier rules
  pub patterns : EachPasses (λ earlier r. list_all (is_sound_pattern r.vars r.tokens) (patterns_body (plain r.body))) earlier rules
  pub formed : EachPasses (λ earlier r. is_formed_body (plain r.body)) earlier rules
  pub few : EachPasses (λ earlier r. list_all (λ n. nat_lt n 4294967296) (lengths r)) earlier rules
  pub positions : EachPasses (λ earlier r. list_all (positions_in r.vars) r.tokens) earlier rules
  pub leads : EachPasses (λ earlier r. list_all leads_token r.tokens) earlier rules
  pub whole : EachPasses (λ earlier r. list_all (whole_token r.vars) r.tokens) earlier rules
  pub gaps : EachPasses (λ earlier r. list_all gaps_token r.tokens) earlier rules

rules-sound : (earlier rules : List Rule) → Parts earlier rules → EachHas even_tokens rules → AreSoundRules earlier rules
rules-sound earlier [] p e = tt
rules-sound earlier (r ∷ rs) p e = (
  record {
    names = p.names.0;
    exports = p.exports.0;
    vars = p.vars.0;
    wanted = p.wanted.0;
    depends = p.depends.0;
    atoms = p.atoms.0;
    patterns = p.patterns.0;
    tokens = tokens-sound r.vars r.tokens p.positions.0 p.whole.0 e.0 p.gaps.0 p.leads.0;
    formed = p.formed.0;
    few = p.few.0;
  },
  rules-sound (earlier ++ r ∷ []) rs (record {
    names = p.names.1;
    exports = p.exports.1;
    vars = p.vars.1;
    wanted = p.wanted.1;
    depends = p.depends.1;
    atoms = p.atoms.1;
    patterns = p.patterns.1;
    formed = p.formed.1;
    few = p.few.1;
    positions = p.positions.1;
    leads = p.leads.1;
    whole = p.whole.1;
    gaps = p.gaps.1;
  }) e.1,
)

pub patch-sound : BlankLaw → (bytes : List ℕ) (patch : Patch) → IsSpelled bytes patch
    → nat_lt (length patch.virtuals) 4294967296 ≡ true → nat_lt (length patch.rules) 4294967296 ≡ true
    → Parts [] patch.rules → IsSound patch
patch-sound law bytes patch s virtuals count parts = record {
  virtuals = virtuals;
  count = count;
  rules = rules-sound [] patch.rules parts
      (rules-even (taken s.heads) 0 s.text.rules s.heads patch.rules s.are_rules.rules (text-even law bytes s.text s.is_text));
}
