-- Bytes have at most one first fault, in whichever phase.
-- Proof: each phase has at most one, and if a phase has one, those before it have none.
use Rattle.std.proofs.Common.{◌≡◌, ℕ, List, [], Some, sym, ap, ◌∙◌, subst}
use Rattle.smpl_patch.specs.declared.rule.Patch.{Patch}
use Rattle.smpl_patch.specs.declared.fault.PatchFault.{PatchFault}
use Rattle.smpl_lexer.specs.declared.text.RuleText.{RuleText}
use Rattle.smpl_lexer.specs.declared.text.PatchText.{PatchText}
use Rattle.smpl_lexer.specs.Texts.{IsTextOf, IsTextFault, AllGoOn}
use Rattle.smpl_meta.specs.declared.head.RuleHead.{RuleHead}
use Rattle.smpl_meta.specs.Heads.{AreHeads, IsFirstHeadFault}
use Rattle.smpl_file.specs.SmplCheck.Checks.{first_fault}
use Rattle.smpl_file.specs.Patches.{IsFirstRuleFault, IsSpelled, IsSpellingFault, IsFirstFault}
use Rattle.smpl_file.specs.Patches.IsSpellingFault.{in_text, in_heads, in_rules}
use Rattle.smpl_file.specs.Patches.IsFirstFault.{spelling, meaning}

-- the laws of texts and heads
pub record TextLaws : Type 0 where
  pub once : (bytes : List ℕ) (one other : PatchText) → IsTextOf bytes one → IsTextOf bytes other → one ≡ other
  pub fault : (bytes : List ℕ) (one other : PatchFault) → IsTextFault bytes one → IsTextFault bytes other → one ≡ other
  pub apart : (bytes : List ℕ) (text : PatchText) (fault : PatchFault) → IsTextOf bytes text → IsTextFault bytes fault → ⊥
  pub go : (bytes : List ℕ) (text : PatchText) → IsTextOf bytes text → AllGoOn text.rules

pub record HeadLaws : Type 0 where
  pub once : (text : PatchText) (earlier : List RuleHead) (rules : List RuleText) (one other : List RuleHead) → AllGoOn rules → AreHeads text earlier rules one
      → AreHeads text earlier rules other → one ≡ other
  pub first : (text : PatchText) (one other : PatchFault) → AllGoOn text.rules → IsFirstHeadFault text one → IsFirstHeadFault text other → one ≡ other
  pub alone : (text : PatchText) (heads : List RuleHead) (fault : PatchFault) → AllGoOn text.rules
      → AreHeads text [] text.rules heads → IsFirstHeadFault text fault → ⊥

abbrev pub RuleFaultOnce : Type 0
RuleFaultOnce = (text : PatchText) (heads : List RuleHead) (one other : PatchFault) → AreHeads text [] text.rules heads
    → IsFirstRuleFault text heads one → IsFirstRuleFault text heads other → one ≡ other

abbrev pub SpellingOnce : Type 0
SpellingOnce = (bytes : List ℕ) (one other : PatchFault) → IsSpellingFault bytes one → IsSpellingFault bytes other → one ≡ other

-- the laws of patches
abbrev pub PatchOnce : Type 0
PatchOnce = (bytes : List ℕ) (one other : Patch) → IsSpelled bytes one → IsSpelled bytes other → one ≡ other

abbrev pub PatchApart : Type 0
PatchApart = (bytes : List ℕ) (patch : Patch) (fault : PatchFault) → IsSpelled bytes patch → IsSpellingFault bytes fault → ⊥

module _ (texts : TextLaws) (heads : HeadLaws) (rules : RuleFaultOnce) where
  -- heads are read: no head has a fault
  read : (bytes : List ℕ) (t u : PatchText) (hs : List RuleHead) (f : PatchFault) → IsTextOf bytes t → IsTextOf bytes u
      → AreHeads t [] t.rules hs → IsFirstHeadFault u f → ⊥
  read bytes t u hs f is also are w =
      let e : u ≡ t = texts.once bytes u t also is in
      heads.alone t hs f (texts.go bytes t is) are (subst (λ (x : PatchText). IsFirstHeadFault x f) e w)

  heads-fault : (bytes : List ℕ) (t u : PatchText) (f g : PatchFault) → IsTextOf bytes t → IsTextOf bytes u
      → IsFirstHeadFault t f → IsFirstHeadFault u g → f ≡ g
  heads-fault bytes t u f g is also v w =
      let e : u ≡ t = texts.once bytes u t also is in
      heads.first t f g (texts.go bytes t is) v (subst (λ (x : PatchText). IsFirstHeadFault x g) e w)

  rules-fault : (bytes : List ℕ) (t u : PatchText) (hs ks : List RuleHead) (f g : PatchFault) → IsTextOf bytes t
      → IsTextOf bytes u → AreHeads t [] t.rules hs → AreHeads u [] u.rules ks
      → IsFirstRuleFault t hs f → IsFirstRuleFault u ks g → f ≡ g
  rules-fault bytes t u hs ks f g is also one other v w =
      let e : u ≡ t = texts.once bytes u t also is in
      let there : AreHeads t [] t.rules ks = subst (λ (x : PatchText). AreHeads x [] x.rules ks) e other in
      let same : ks ≡ hs = heads.once t [] t.rules ks hs (texts.go bytes t is) there one in
      rules t hs f g one v (subst (λ (l : List RuleHead). IsFirstRuleFault t l g) same (subst (λ (x : PatchText). IsFirstRuleFault x ks g) e w))

  pub spelling-once : (bytes : List ℕ) (f g : PatchFault) → IsSpellingFault bytes f → IsSpellingFault bytes g → f ≡ g
  spelling-once bytes f g (in_text v) (in_text w) = texts.fault bytes f g v w
  spelling-once bytes f g (in_text v) (in_heads u also w) = absurd (texts.apart bytes u f also v)
  spelling-once bytes f g (in_text v) (in_rules u ks also other w) = absurd (texts.apart bytes u f also v)
  spelling-once bytes f g (in_heads t is v) (in_text w) = absurd (texts.apart bytes t g is w)
  spelling-once bytes f g (in_heads t is v) (in_heads u also w) = heads-fault bytes t u f g is also v w
  spelling-once bytes f g (in_heads t is v) (in_rules u ks also other w) = absurd (read bytes u t ks f also is other v)
  spelling-once bytes f g (in_rules t hs is one v) (in_text w) = absurd (texts.apart bytes t g is w)
  spelling-once bytes f g (in_rules t hs is one v) (in_heads u also w) = absurd (read bytes t u hs g is also one w)
  spelling-once bytes f g (in_rules t hs is one v) (in_rules u ks also other w) = rules-fault bytes t u hs ks f g is also one other v w

pub whole-once : SpellingOnce → PatchOnce → PatchApart → (bytes : List ℕ) (f g : PatchFault) → IsFirstFault bytes f → IsFirstFault bytes g → f ≡ g
whole-once spell once apart bytes f g (spelling v) (spelling w) = spell bytes f g v w
whole-once spell once apart bytes f g (spelling v) (meaning q other w) = absurd (apart bytes q f other v)
whole-once spell once apart bytes f g (meaning p one v) (spelling w) = absurd (apart bytes p g one w)
whole-once spell once apart bytes f g (meaning p one v) (meaning q other w) =
    let same : p ≡ q = once bytes p q one other in
    let both : Some f ≡ Some g = sym v ∙ (ap first_fault same ∙ w) in
    cc
