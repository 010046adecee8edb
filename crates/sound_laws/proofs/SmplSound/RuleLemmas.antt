-- Patches that are spelled have the parts of soundness that their bodies give.
use Rattle.std.proofs.Common.{◌≡◌, ℕ, suc, ◌<◌, ◌≤◌, nat_lt, nat_eq, Bool, true, ◌&&◌, refl, ap, ◌∙◌, List, [], ◌∷◌, ◌++◌}
use Rattle.std.proofs.Common.{length, arith, map, Option, Some, None}
use Rattle.std.specs.Prelude.{All}
use Rattle.std.specs.List.{list_all}
use Rattle.std.proofs.lemmas.List.Elements.{All-head, All-tail}
use Rattle.std.proofs.lemmas.List.{length-map, length-append}
use Rattle.std.proofs.lemmas.Bool.Decides.{nat_tests}
use Rattle.c_terms.specs.declared.token.Token.{Token}
use Rattle.c_terms.specs.Trees.{leaves}
use Rattle.smpl_terms.specs.declared.var.Var.{Var as Variable}
use Rattle.smpl_patch.specs.declared.pattern.VarDecl.{VarDecl}
use Rattle.smpl_patch.specs.declared.pattern.PatToken.{PatToken}
use Rattle.smpl_patch.specs.declared.pattern.Pattern.{Pattern}
use Rattle.smpl_patch.specs.declared.pattern.PlusBlock.{PlusBlock}
use Rattle.smpl_patch.specs.declared.elem.Elem.{Elem}
use Rattle.smpl_patch.specs.declared.rule.Rule.{Rule}
use Rattle.smpl_patch.specs.declared.rule.Patch.{Patch}
use Rattle.smpl_patch.specs.Bodies.{body as plain}
use Rattle.smpl_patch.specs.Shapes.{is_formed_body, patterns_body}
use Rattle.smpl_patch.specs.Sound.{none_alike, is_declared, has_form, is_sound_pattern}
use Rattle.smpl_lexer.specs.declared.token.PatchToken.{PatchToken}
use Rattle.smpl_lexer.specs.declared.text.RuleText.{RuleText}
use Rattle.smpl_lexer.specs.declared.text.PatchText.{PatchText}
use Rattle.smpl_lexer.specs.Texts.{most_bytes, IsTextOf, IsSmallRule, IsSmall}
use Rattle.smpl_meta.specs.declared.head.RuleHead.{RuleHead}
use Rattle.smpl_meta.specs.declared.item.Item.{Item}
use Rattle.smpl_meta.specs.Decls.{vars_of, AreAnswers}
use Rattle.smpl_meta.specs.Heads.{AreHeads}
use Rattle.smpl_meta.specs.declared.patterns.Placed.{Placed}
use Rattle.smpl_meta.specs.Patterns.{pattern_tokens}
use Rattle.smpl_body.specs.Bodies.{IsBody}
use Rattle.sound_laws.specs.SmplFormed.Bodies.{tokens_of, CountFrom, AllStand}
use Rattle.smpl_file.specs.Exports.{taken}
use Rattle.smpl_file.specs.Patches.{IsRule, AreRules, IsSpelled}
use Rattle.sound_laws.specs.SmplSound.Parts.{EachPasses, EachHas, whole_block, whole_token, gaps_block, gaps_token}
use Rattle.sound_laws.proofs.SmplSound.PatchLemmas.{KeepPositions}
use Rattle.sound_laws.proofs.SmplSound.TextLemmas.{HasFew, AllFew, text_few}
use Rattle.sound_laws.proofs.SmplSound.LineLemmas.{AllLines, AllBodies, Unmarked, gives_unmarked, text_holds}
use Rattle.sound_laws.proofs.SmplSound.PlacedLemmas.{ArePlaced, are_placed, all_numbered}
use Rattle.sound_laws.proofs.SmplSound.PlusLemmas.{WhenPlus, at_block, at_token, anchored_pass}
use Rattle.sound_laws.proofs.SmplSound.GapLemmas.{BlankLaw, block_gaps, gaps_blank}
use Rattle.sound_laws.proofs.SmplSound.KindLemmas.{Whole, gives_whole, block_whole, block_is_whole}

-- ---- how many names stand in `virtual` lines

pub names-few : (bytes : List ℕ) (patch : Patch) → IsSpelled bytes patch → nat_lt (length patch.virtuals) 4294967296 ≡ true
names-few bytes patch s = below (length patch.virtuals) (omega (arith, ap length s.are_rules.virtuals, (text_few bytes s.text s.is_text).virtuals))
  where
    below : (n : ℕ) → n ≤ 1048576 → nat_lt n 4294967296 ≡ true
    below n h = let s : n < 4294967296 = omega arith in grind (arith, nat_tests)

-- ---- every rule, beside its text and its head

pub record OfText (t : RuleText) : Type 0 where
  pub few : HasFew most_bytes t
  pub lines : AllLines Unmarked t.body
  pub whole : AllLines (WhenPlus Whole) t.body
  pub short : length t.body ≤ most_bytes

abbrev pub SmallLaw : Type 0
SmallLaw = (bytes : List ℕ) (text : PatchText) → IsTextOf bytes text → IsSmall text

-- the variables are what declarations declare
pub record HasVars (earlier : List RuleHead) (n : ℕ) (decls : List PatchToken) (vars : List VarDecl) : Type 0 where
  pub answers : List (Option (List Item))
  pub read : AreAnswers decls answers
  pub are : vars ≡ vars_of earlier n answers

abbrev Gives : (Rule → Type 0) → Type 0
Gives Q = (known : List Variable) (n : ℕ) (t : RuleText) (h : RuleHead) (x : Rule) (earlier : List RuleHead)
    → IsRule known n t h x → HasVars earlier n t.decls h.vars → OfText t → Q x

each-has : (Q : Rule → Type 0) → Gives Q
    → (text : PatchText) (known : List Variable) (n : ℕ) (earlier : List RuleHead) (ts : List RuleText) (hs : List RuleHead)
    (xs : List Rule) → length earlier ≡ n
    → AreRules known n ts hs xs → AreHeads text earlier ts hs → AllFew most_bytes ts → AllBodies Unmarked ts
    → AllBodies (WhenPlus Whole) ts → All IsSmallRule ts → EachHas Q xs
each-has Q gives text known n earlier [] [] [] e a are few lines whole small = tt
each-has Q gives text known n earlier [] [] (x ∷ xs) e a are few lines whole small = absurd a
each-has Q gives text known n earlier [] (h ∷ hs) xs e a are few lines whole small = absurd are
each-has Q gives text known n earlier (t ∷ ts) [] xs e a are few lines whole small = absurd are
each-has Q gives text known n earlier (t ∷ ts) (h ∷ hs) [] e a are few lines whole small = absurd a
each-has Q gives text known n earlier (t ∷ ts) (h ∷ hs) (x ∷ xs) e a are few lines whole small =
    let vars : HasVars earlier n t.decls h.vars = record {
      answers = are.0.answers;
      read = are.0.read;
      are = are.0.vars ∙ ap (λ (m : ℕ). vars_of earlier m are.0.answers) e;
    } in (
      gives known n t h x earlier a.0 vars (record { few = few.0; lines = lines.0; whole = whole.0; short = (All-head IsSmallRule t ts small).lines }),
      each-has Q gives text known (suc n) (earlier ++ h ∷ []) ts hs xs
          (omega (arith, e, length-append earlier (h ∷ []))) a.1 are.1 few.1 lines.1 whole.1 (All-tail IsSmallRule t ts small),
    )

pub patch-has : (Q : Rule → Type 0) → Gives Q → SmallLaw → (bytes : List ℕ) (patch : Patch) → IsSpelled bytes patch → EachHas Q patch.rules
patch-has Q gives small bytes patch s =
    each-has Q gives s.text (taken s.heads) 0 [] s.text.rules s.heads patch.rules refl s.are_rules.rules s.are_heads (text_few bytes s.text s.is_text).rules
    (text_holds Unmarked gives_unmarked bytes s.text s.is_text) (text_holds (WhenPlus Whole) gives_whole bytes s.text s.is_text)
    (small bytes s.text s.is_text).each

-- a test that does not look at the rules before
pub as-passes : (test : Rule → Bool) (before rules : List Rule) → EachHas (λ r. test r ≡ true) rules → EachPasses (λ earlier r. test r) before rules
as-passes test before [] e = tt
as-passes test before (r ∷ rs) e = (e.0, as-passes test (before ++ r ∷ []) rs e.1)

-- ---- bodies

module _ (known : List Variable) (n : ℕ) (t : RuleText) (h : RuleHead) (x : Rule) (made : IsRule known n t h x) (of : OfText t) where
  abbrev pub ps : List Placed
  ps = pattern_tokens h.vars t.body

  pub placed : ArePlaced h.vars t.body ps
  placed = are_placed h.vars t.body of.lines

  pub short : length ps < 2147483648
  short = omega (arith, placed.short, of.few.body)

  pub as-long : KeepPositions → length ps ≡ length x.tokens
  as-long keep =
      let same : length (map (λ (u : PatToken). u.positions) x.tokens) ≡ length (map (λ (p : Placed). p.positions) ps) =
      ap length (keep h.vars n t.body x.tokens made.tokens) in
      omega (arith, same, length-map x.tokens (λ (u : PatToken). u.positions), length-map ps (λ (p : Placed). p.positions))

abbrev pub FormedLaw : Type 0
FormedLaw = (ps : List Placed) (es : List Elem) → length ps < 2147483648 → IsBody ps es → is_formed_body (plain es) ≡ true

pub patch-formed : FormedLaw → SmallLaw → (bytes : List ℕ) (patch : Patch) → IsSpelled bytes patch
    → EachPasses (λ earlier r. is_formed_body (plain r.body)) [] patch.rules
patch-formed law small bytes patch s =
    as-passes (λ r. is_formed_body (plain r.body)) [] patch.rules
    (patch-has (λ r. is_formed_body (plain r.body) ≡ true)
    (λ known n t h x earlier made vars of. law (ps known n t h x made of) x.body (short known n t h x made of) made.body) small bytes patch s)

abbrev pub AtomsLaw : Type 0
AtomsLaw = (ps : List Placed) (es : List Elem) → CountFrom 0 ps → IsBody ps es
    → none_alike (λ (p q : Pattern). nat_eq p.atom q.atom) (patterns_body (plain es)) ≡ true

pub patch-atoms : AtomsLaw → SmallLaw → (bytes : List ℕ) (patch : Patch) → IsSpelled bytes patch
    → EachPasses (λ earlier r. none_alike (λ (p q : Pattern). nat_eq p.atom q.atom) (patterns_body (plain r.body))) [] patch.rules
patch-atoms law small bytes patch s =
    as-passes (λ r. none_alike (λ (p q : Pattern). nat_eq p.atom q.atom) (patterns_body (plain r.body))) [] patch.rules
    (patch-has (λ r. none_alike (λ (p q : Pattern). nat_eq p.atom q.atom) (patterns_body (plain r.body)) ≡ true)
    (λ known n t h x earlier made vars of. law (ps known n t h x made of) x.body (placed known n t h x made of).count made.body) small bytes patch s)

abbrev pub PatternsLaw : Type 0
PatternsLaw = (ok : Token → Bool) (ps : List Placed) (es : List Elem) → length ps < 2147483648 → list_all ok (tokens_of ps) ≡ true → IsBody ps es
    → list_all (λ (p : Pattern). has_form p.forms && list_all (λ f. list_all ok (leaves f)) p.forms) (patterns_body (plain es)) ≡ true

rule-patterns : PatternsLaw → KeepPositions → (known : List Variable) (n : ℕ) (t : RuleText) (h : RuleHead) (x : Rule) → IsRule known n t h x → OfText t
    → list_all (is_sound_pattern x.vars x.tokens) (patterns_body (plain x.body)) ≡ true
rule-patterns law keep known n t h x made of =
    let qs = ps known n t h x made of in
    let le : length qs ≤ length x.tokens = omega (arith, as-long known n t h x made of keep) in
    ap (λ (ds : List VarDecl). list_all (is_sound_pattern ds x.tokens) (patterns_body (plain x.body))) made.vars
    ∙ law (λ (a : Token). nat_lt a.id (length x.tokens) && is_declared h.vars a.kind a.text) qs x.body (short known n t h x made of)
    (all_numbered h.vars (length x.tokens) t.body qs (placed known n t h x made of) le) made.body

pub patch-patterns : PatternsLaw → KeepPositions → SmallLaw → (bytes : List ℕ) (patch : Patch) → IsSpelled bytes patch
    → EachPasses (λ earlier r. list_all (is_sound_pattern r.vars r.tokens) (patterns_body (plain r.body))) [] patch.rules
patch-patterns law keep small bytes patch s =
    as-passes (λ r. list_all (is_sound_pattern r.vars r.tokens) (patterns_body (plain r.body))) [] patch.rules
    (patch-has (λ r. list_all (is_sound_pattern r.vars r.tokens) (patterns_body (plain r.body)) ≡ true)
    (λ known n t h x earlier made vars of. rule-patterns law keep known n t h x made of) small bytes patch s)

abbrev pub SureLaw : Type 0
SureLaw = (decls : List VarDecl) (tokens : List PatToken) (ps : List Placed) (es : List Elem) → length ps < 2147483648
    → IsBody ps es → AllStand decls tokens (patterns_body (plain es))

pub patch-sure : SureLaw → SmallLaw → (bytes : List ℕ) (patch : Patch) → IsSpelled bytes patch
    → EachHas (λ r. AllStand r.vars r.tokens (patterns_body (plain r.body))) patch.rules
patch-sure law small bytes patch s =
    patch-has (λ r. AllStand r.vars r.tokens (patterns_body (plain r.body)))
    (λ known n t h x earlier made vars of. law x.vars x.tokens (ps known n t h x made of) x.body (short known n t h x made of) made.body) small bytes patch s

-- ---- plus code

block-as : (vars : List VarDecl) (o : Option PlusBlock) → whole_block vars o ≡ at_block (block_whole vars) o
block-as vars None = refl
block-as vars (Some c) = refl

all-as : (vars : List VarDecl) (us : List PatToken) → list_all (whole_token vars) us ≡ list_all (at_token (block_whole vars)) us
all-as vars [] = refl
all-as vars (u ∷ us) = (λ i. (block-as vars u.before i && block-as vars u.after i) && all-as vars us i)

rule-whole : (known : List Variable) (n : ℕ) (t : RuleText) (h : RuleHead) (x : Rule) → IsRule known n t h x → OfText t
    → list_all (whole_token x.vars) x.tokens ≡ true
rule-whole known n t h x made of =
    ap (λ (ds : List VarDecl). list_all (whole_token ds) x.tokens) made.vars
    ∙ (all-as h.vars x.tokens ∙ anchored_pass Whole h.vars (block_whole h.vars) (length t.body)
    (block_is_whole h.vars (length t.body)) n t.body x.tokens made.tokens of.whole (omega arith))

pub patch-whole : SmallLaw → (bytes : List ℕ) (patch : Patch) → IsSpelled bytes patch
    → EachPasses (λ earlier r. list_all (whole_token r.vars) r.tokens) [] patch.rules
patch-whole small bytes patch s =
    as-passes (λ r. list_all (whole_token r.vars) r.tokens) [] patch.rules
    (patch-has (λ r. list_all (whole_token r.vars) r.tokens ≡ true)
    (λ known n t h x earlier made vars of. rule-whole known n t h x made of) small bytes patch s)

-- ---- gaps

gaps-as : (o : Option PlusBlock) → gaps_block o ≡ at_block block_gaps o
gaps-as None = refl
gaps-as (Some c) = refl

all-gaps : (us : List PatToken) → list_all gaps_token us ≡ list_all (at_token block_gaps) us
all-gaps [] = refl
all-gaps (u ∷ us) = (λ i. (gaps-as u.before i && gaps-as u.after i) && all-gaps us i)

rule-gaps : BlankLaw → (known : List Variable) (n : ℕ) (t : RuleText) (h : RuleHead) (x : Rule) → IsRule known n t h x
    → OfText t → list_all gaps_token x.tokens ≡ true
rule-gaps law known n t h x made of =
    all-gaps x.tokens ∙ anchored_pass Whole h.vars block_gaps (length t.body)
    (gaps_blank law h.vars Whole (length t.body)) n t.body x.tokens made.tokens of.whole (omega arith)

pub patch-gaps : BlankLaw → SmallLaw → (bytes : List ℕ) (patch : Patch) → IsSpelled bytes patch
    → EachPasses (λ earlier r. list_all gaps_token r.tokens) [] patch.rules
patch-gaps law small bytes patch s =
    as-passes (λ r. list_all gaps_token r.tokens) [] patch.rules
    (patch-has (λ r. list_all gaps_token r.tokens ≡ true) (λ known n t h x earlier made vars of. rule-gaps law known n t h x made of) small bytes patch s)
