-- Patches that are spelled have the parts of soundness that headers and declarations give.
use Rattle.std.proofs.Common.{◌≡◌, ℕ, suc, ◌<◌, ◌≤◌, nat_lt, Bool, true, refl, sym, ap, ◌∙◌, subst, List, [], ◌∷◌, ◌++◌}
use Rattle.std.proofs.Common.{length, Option, None, arith, append_assoc, map}
use Rattle.std.specs.List.{list_all}
use Rattle.std.proofs.lemmas.List.{append-nil}
use Rattle.std.specs.Str.{bytes_eq}
use Rattle.std.proofs.lemmas.Bool.Decides.{nat_tests}
use Rattle.smpl_terms.specs.declared.var.Var.{Var as Variable}
use Rattle.smpl_patch.specs.declared.pattern.VarDecl.{VarDecl}
use Rattle.smpl_patch.specs.declared.pattern.VarKind.TheVariants.{Position}
use Rattle.smpl_patch.specs.declared.pattern.PatToken.{PatToken}
use Rattle.smpl_patch.specs.declared.rule.Dep.{Dep}
use Rattle.smpl_patch.specs.declared.rule.Rule.{Rule}
use Rattle.smpl_patch.specs.declared.rule.Patch.{Patch}
use Rattle.smpl_patch.specs.Sound.{declares, none_alike, is_own_var, is_sound_decl, is_sound_wanted, is_below}
use Rattle.smpl_lexer.specs.declared.token.PatchToken.{PatchToken}
use Rattle.smpl_lexer.specs.declared.text.BodyLine.{BodyLine}
use Rattle.smpl_lexer.specs.declared.text.RuleText.{RuleText}
use Rattle.smpl_lexer.specs.declared.text.PatchText.{PatchText}
use Rattle.smpl_lexer.specs.Headers.{header_stop}
use Rattle.smpl_lexer.specs.Texts.{IsTextOf, IsSmall, AllGoOn}
use Rattle.smpl_meta.specs.declared.head.RuleHead.{RuleHead}
use Rattle.smpl_meta.specs.declared.item.Item.{Item}
use Rattle.smpl_meta.specs.Forms.{parts}
use Rattle.smpl_meta.specs.Decls.{items_of, items_faults, form_faults, decl_faults, vars_of_items}
use Rattle.smpl_meta.specs.Heads.{name_token, name_fault, depends_tokens, unknown_faults, head_faults, DependsOn, IsHead, AreHeads}
use Rattle.smpl_meta.specs.declared.patterns.Placed.{Placed}
use Rattle.smpl_meta.specs.Patterns.{pattern_tokens}
use Rattle.smpl_plus.specs.Anchors.{AreAnchored}
use Rattle.smpl_file.specs.Exports.{taken_by_all, taken, exports_of}
use Rattle.smpl_file.specs.Patches.{IsRule, AreRules, IsSpelled}
use Rattle.sound_laws.specs.SmplSound.Parts.{EachPasses, leads_token}
use Rattle.sound_laws.proofs.SmplSound.NameLemmas.{back-nil, names-differ}
use Rattle.sound_laws.proofs.SmplSound.OwnLemmas.{GoodDecls, GoodHeads}
use Rattle.sound_laws.proofs.SmplSound.HomeLemmas.{items-good}
use Rattle.sound_laws.proofs.SmplSound.FormLemmas.{items-fitting}
use Rattle.sound_laws.proofs.SmplSound.DependLemmas.{depends-below}
use Rattle.sound_laws.proofs.SmplSound.LeadLemmas.{anchored-lead}
use Rattle.sound_laws.proofs.SmplSound.PositionLemmas.{positions-declared}
use Rattle.sound_laws.proofs.SmplSound.ExportLemmas.{Under, AllKnown, exports-own, known-front, known-back, known-self, decls-sound}
use Rattle.sound_laws.proofs.SmplSound.WantLemmas.{decls-wanted}

-- ---- one rule

abbrev pub names_differ : List Rule → Rule → Bool
names_differ earlier r = none_alike (λ d e. bytes_eq d.var.name e.var.name) r.vars

abbrev pub exports_are_own : List Rule → Rule → Bool
exports_are_own earlier r = list_all (is_own_var r.vars) r.exports

abbrev pub vars_are_sound : List Rule → Rule → Bool
vars_are_sound earlier r = list_all (is_sound_decl earlier) r.vars

abbrev pub wants_are_sound : List Rule → Rule → Bool
wants_are_sound earlier r = list_all (is_sound_wanted earlier) r.vars

abbrev pub positions_are_declared : List Rule → Rule → Bool
positions_are_declared earlier r = list_all (λ (t : PatToken). list_all (λ x. declares r.vars x Position) t.positions) r.tokens

abbrev pub depends_are_earlier : List Rule → Rule → Bool
depends_are_earlier earlier r = is_below (length earlier) r.depends

-- what stands before a rule: heads and rules
record Ahead (known : List Variable) (heads : List RuleHead) (rules : List Rule) : Type 0 where
  pub good : GoodHeads [] heads
  pub under : Under known heads rules

same-length : (known : List Variable) (hs : List RuleHead) (rs : List Rule) → Under known hs rs → length hs ≡ length rs
same-length known [] [] u = refl
same-length known [] (r ∷ rs) u = absurd u
same-length known (h ∷ hs) [] u = absurd u
same-length known (h ∷ hs) (r ∷ rs) u = ap suc (same-length known hs rs u.1)

good-last : (pre hs : List RuleHead) (h : RuleHead) → GoodHeads pre hs → GoodDecls (pre ++ hs) h.vars → GoodHeads pre (hs ++ h ∷ [])
good-last pre [] h g d = (subst (λ (l : List RuleHead). GoodDecls l h.vars) (append-nil pre) d, tt)
good-last pre (f ∷ hs) h g d = (
  g.0,
  good-last (pre ++ f ∷ []) hs h g.1
      (subst (λ (l : List RuleHead). GoodDecls l h.vars) (sym (append_assoc pre (f ∷ []) hs)) d),
)

under-last : (known : List Variable) (hs : List RuleHead) (rs : List Rule) (h : RuleHead) (r : Rule) → Under known hs rs
    → (r.vars ≡ h.vars) × (r.exports ≡ exports_of known h.vars) → Under known (hs ++ h ∷ []) (rs ++ r ∷ [])
under-last known [] [] h r u e = (e, tt)
under-last known [] (x ∷ rs) h r u e = absurd u
under-last known (f ∷ hs) [] h r u e = absurd u
under-last known (f ∷ hs) (x ∷ rs) h r u e = (u.0, under-last known hs rs h r u.1 e)

items-right : (virtuals : List (List ℕ)) (earlier : List RuleHead) (answers : List (Option (List Item))) (r : RuleText)
    → head_faults virtuals earlier answers r ≡ [] → items_faults earlier [] (items_of answers) ≡ []
items-right virtuals earlier answers r e =
    let names = name_fault virtuals earlier (name_token r.header) in
    let unknown = unknown_faults virtuals earlier (depends_tokens r.header) in
    let decls = back-nil unknown (decl_faults earlier answers r.decls) (back-nil names (unknown ++ decl_faults earlier answers r.decls) e) in
    back-nil (form_faults (parts r.decls) answers) (items_faults earlier [] (items_of answers)) decls

module _ (virtuals : List (List ℕ)) (known : List Variable) (heads : List RuleHead) (rules : List Rule)
    (ahead : Ahead known heads rules) (r : RuleText) (h : RuleHead)
    (is : IsHead virtuals heads (length heads) r h) (x : Rule) (n : ℕ) (made : IsRule known n r h x) where
  right : items_faults heads [] (items_of is.answers) ≡ []
  right = items-right virtuals heads is.answers r is.faultless

  vars-of : x.vars ≡ vars_of_items heads (length heads) (items_of is.answers)
  vars-of = made.vars ∙ is.vars

  rule-names : names_differ rules x ≡ true
  rule-names = ap (none_alike (λ (d e : VarDecl). bytes_eq d.var.name e.var.name)) vars-of
      ∙ names-differ heads (length heads) [] (items_of is.answers) right

  rule-exports : exports_are_own rules x ≡ true
  rule-exports = ap (λ (l : List Variable). list_all (is_own_var x.vars) l) made.exports
      ∙ ap (λ (ds : List VarDecl). list_all (is_own_var ds) (exports_of known h.vars)) made.vars
      ∙ exports-own known h.vars

  decls-good : GoodDecls heads h.vars
  decls-good = subst (λ (ds : List VarDecl). GoodDecls heads ds) (sym is.vars)
      (items-good heads ahead.good (length heads) refl [] (items_of is.answers) (items-fitting [] (parts r.decls) is.answers is.read) right)

  rule-vars : AllKnown known (taken_by_all h.vars) → vars_are_sound rules x ≡ true
  rule-vars a = ap (list_all (is_sound_decl rules)) made.vars
      ∙ decls-sound known heads rules ahead.under (same-length known heads rules ahead.under) h.vars a decls-good

  rule-wanted : wants_are_sound rules x ≡ true
  rule-wanted = ap (list_all (is_sound_wanted rules)) made.vars ∙ decls-wanted known heads rules ahead.under h.vars decls-good

  rule-depends : ((d : Dep) × DependsOn heads (depends_tokens r.header) d) → depends_are_earlier rules x ≡ true
  rule-depends c =
      let count = same-length known heads rules ahead.under in
      ap (is_below (length rules)) (made.depends ∙ is.depends c.0 c.1) ∙ ap (λ (m : ℕ). is_below m c.0) (sym count)
      ∙ depends-below heads (depends_tokens r.header) c.0 c.1

  ahead-more : Ahead known (heads ++ h ∷ []) (rules ++ x ∷ [])
  ahead-more = record { good = good-last [] heads h ahead.good decls-good; under = under-last known heads rules h x ahead.under (made.vars, made.exports) }

-- ---- all rules

pub record Passes (earlier rules : List Rule) : Type 0 where
  pub names : EachPasses names_differ earlier rules
  pub exports : EachPasses exports_are_own earlier rules
  pub vars : EachPasses vars_are_sound earlier rules
  pub wanted : EachPasses wants_are_sound earlier rules
  pub depends : EachPasses depends_are_earlier earlier rules

abbrev pub HaveConditions : Type 0
HaveConditions = (earlier : List RuleHead) (ts : List PatchToken) (end : ℕ) → header_stop ts end ≡ None → (d : Dep) × DependsOn earlier (depends_tokens ts) d

passed : HaveConditions → (text : PatchText) (known : List Variable) (n : ℕ) (heads : List RuleHead) (rules : List Rule)
    (ts : List RuleText) (hs : List RuleHead) (xs : List Rule)
    → Ahead known heads rules → AllGoOn ts → AreHeads text heads ts hs → AreRules known n ts hs xs → AllKnown known (taken hs) → Passes rules xs
passed c text known n heads rules [] [] [] a go are made k = record { names = tt; exports = tt; vars = tt; wanted = tt; depends = tt }
passed c text known n heads rules [] [] (x ∷ xs) a go are made k = absurd made
passed c text known n heads rules [] (h ∷ hs) xs a go are made k = absurd are
passed c text known n heads rules (t ∷ ts) [] xs a go are made k = absurd are
passed c text known n heads rules (t ∷ ts) (h ∷ hs) [] a go are made k = absurd made
passed c text known n heads rules (t ∷ ts) (h ∷ hs) (x ∷ xs) a go are made k =
    let b = ahead-more text.virtuals known heads rules a t h are.0 x n made.0 in
    let rest = passed c text known (suc n) (heads ++ h ∷ []) (rules ++ x ∷ []) ts hs xs b go.1 are.1 made.1
    (known-back known (taken_by_all h.vars) (taken hs) k) in
    let front = known-front known (taken_by_all h.vars) (taken hs) k in
    record {
      names = (rule-names text.virtuals known heads rules a t h are.0 x n made.0, rest.names);
      exports = (rule-exports text.virtuals known heads rules a t h are.0 x n made.0, rest.exports);
      vars = (rule-vars text.virtuals known heads rules a t h are.0 x n made.0 front, rest.vars);
      wanted = (rule-wanted text.virtuals known heads rules a t h are.0 x n made.0, rest.wanted);
      depends = (rule-depends text.virtuals known heads rules a t h are.0 x n made.0 (c heads t.header go.0.0 go.0.1), rest.depends);
    }

pub patch-passes : HaveConditions → ((bytes : List ℕ) (text : PatchText) → IsTextOf bytes text → AllGoOn text.rules)
    → (bytes : List ℕ) (patch : Patch) → IsSpelled bytes patch
    → Passes [] patch.rules
patch-passes c go bytes patch s =
    passed c s.text (taken s.heads) 0 [] [] s.text.rules s.heads patch.rules (record { good = tt; under = tt })
    (go bytes s.text s.is_text) s.are_heads s.are_rules.rules
    (known-self (taken s.heads))

-- ---- positions

abbrev pub KeepPositions : Type 0
KeepPositions = (vars : List VarDecl) (rule : ℕ) (body : List BodyLine) (tokens : List PatToken) → AreAnchored vars rule body tokens
    → map (λ (t : PatToken). t.positions) tokens ≡ map (λ (p : Placed). p.positions) (pattern_tokens vars body)

declared-in : KeepPositions → (known : List Variable) (n : ℕ) (before : List Rule) (ts : List RuleText) (hs : List RuleHead)
    (xs : List Rule) → AreRules known n ts hs xs
    → EachPasses positions_are_declared before xs
declared-in c known n before [] [] [] a = tt
declared-in c known n before [] [] (x ∷ xs) a = absurd a
declared-in c known n before [] (h ∷ hs) [] a = absurd a
declared-in c known n before [] (h ∷ hs) (x ∷ xs) a = absurd a
declared-in c known n before (t ∷ ts) [] [] a = absurd a
declared-in c known n before (t ∷ ts) [] (x ∷ xs) a = absurd a
declared-in c known n before (t ∷ ts) (h ∷ hs) [] a = absurd a
declared-in c known n before (t ∷ ts) (h ∷ hs) (x ∷ xs) a =
    let here = positions-declared h.vars t.body x.tokens (c h.vars n t.body x.tokens a.0.tokens) in (
      ap (λ (ds : List VarDecl). list_all (λ (u : PatToken). list_all (λ y. declares ds y Position) u.positions) x.tokens) a.0.vars ∙ here,
      declared-in c known (suc n) (before ++ x ∷ []) ts hs xs a.1,
    )

pub patch-positions : KeepPositions → (bytes : List ℕ) (patch : Patch) → IsSpelled bytes patch → EachPasses positions_are_declared [] patch.rules
patch-positions c bytes patch s = declared-in c (taken s.heads) 0 [] s.text.rules s.heads patch.rules s.are_rules.rules

-- ---- leads

abbrev pub leads_are_lengths : List Rule → Rule → Bool
leads_are_lengths earlier r = list_all leads_token r.tokens

leads-in : (known : List Variable) (n : ℕ) (before : List Rule) (ts : List RuleText) (hs : List RuleHead) (xs : List Rule) → AreRules known n ts hs xs
    → EachPasses leads_are_lengths before xs
leads-in known n before [] [] [] a = tt
leads-in known n before [] [] (x ∷ xs) a = absurd a
leads-in known n before [] (h ∷ hs) [] a = absurd a
leads-in known n before [] (h ∷ hs) (x ∷ xs) a = absurd a
leads-in known n before (t ∷ ts) [] [] a = absurd a
leads-in known n before (t ∷ ts) [] (x ∷ xs) a = absurd a
leads-in known n before (t ∷ ts) (h ∷ hs) [] a = absurd a
leads-in known n before (t ∷ ts) (h ∷ hs) (x ∷ xs) a =
    (anchored-lead h.vars n t.body x.tokens a.0.tokens, leads-in known (suc n) (before ++ x ∷ []) ts hs xs a.1)

pub patch-leads : (bytes : List ℕ) (patch : Patch) → IsSpelled bytes patch → EachPasses leads_are_lengths [] patch.rules
patch-leads bytes patch s = leads-in (taken s.heads) 0 [] s.text.rules s.heads patch.rules s.are_rules.rules

-- ---- how many rules there are

as-many : (known : List Variable) (n : ℕ) (ts : List RuleText) (hs : List RuleHead) (xs : List Rule) → AreRules known n ts hs xs → length xs ≡ length ts
as-many known n [] [] [] a = refl
as-many known n [] [] (x ∷ xs) a = absurd a
as-many known n [] (h ∷ hs) [] a = absurd a
as-many known n [] (h ∷ hs) (x ∷ xs) a = absurd a
as-many known n (t ∷ ts) [] [] a = absurd a
as-many known n (t ∷ ts) [] (x ∷ xs) a = absurd a
as-many known n (t ∷ ts) (h ∷ hs) [] a = absurd a
as-many known n (t ∷ ts) (h ∷ hs) (x ∷ xs) a = ap suc (as-many known (suc n) ts hs xs a.1)

below : (n : ℕ) → n ≤ 1048576 → nat_lt n 4294967296 ≡ true
below n h = let s : n < 4294967296 = omega arith in grind (arith, nat_tests)

pub rules-few : ((bytes : List ℕ) (text : PatchText) → IsTextOf bytes text → IsSmall text) → (bytes : List ℕ) (patch : Patch) → IsSpelled bytes patch
    → nat_lt (length patch.rules) 4294967296 ≡ true
rules-few small bytes patch s =
    let w : length s.text.rules ≤ 1048576 = (small bytes s.text s.is_text).rules in
    let e : length patch.rules ≡ length s.text.rules = as-many (taken s.heads) 0 s.text.rules s.heads patch.rules s.are_rules.rules in
    below (length patch.rules) (omega (arith, w, e))
