-- The rules of a text have at most one list of heads, or one first fault.
use Rattle.std.proofs.Common.{◌≡◌, ℕ, Option, List, [], ◌∷◌, ◌++◌, Some, None, length, refl, sym, ap, ◌∙◌, subst}
use Rattle.smpl_patch.specs.declared.pattern.VarDecl.{VarDecl}
use Rattle.smpl_patch.specs.declared.rule.Dep.{Dep}
use Rattle.smpl_patch.specs.declared.rule.Mode.{Mode}
use Rattle.smpl_patch.specs.declared.fault.PatchFault.{PatchFault}
use Rattle.smpl_patch.specs.Faults.{first_of}
use Rattle.smpl_lexer.specs.declared.text.RuleText.{RuleText}
use Rattle.smpl_lexer.specs.declared.text.PatchText.{PatchText}
use Rattle.smpl_lexer.specs.Texts.{GoesOn, AllGoOn}
use Rattle.smpl_meta.specs.declared.head.RuleHead.{RuleHead}
use Rattle.smpl_meta.specs.Heads.{IsHead, IsHeadFault, AreHeads}
use Rattle.smpl_meta.specs.declared.item.Item.{Item}
use Rattle.smpl_meta.specs.Decls.{vars_of}
use Rattle.smpl_meta.specs.Heads.{head_faults}
use Rattle.smpl_meta.proofs.HasCondition.{has_condition}
use Rattle.smpl_meta.proofs.DeclsOnce.{OneTree, answers-once}

abbrev made : List ℕ → Dep → Mode → List VarDecl → RuleHead
made name depends mode vars = record { name = name; depends = depends; mode = mode; vars = vars }

module _ (law : OneTree) where
  pub head_once : (virtuals : List (List ℕ)) (earlier : List RuleHead) (rule : ℕ) (r : RuleText) (one other : RuleHead)
      → GoesOn r
      → IsHead virtuals earlier rule r one → IsHead virtuals earlier rule r other → one ≡ other
  head_once virtuals earlier rule r one other goes a b =
      let d = has_condition earlier goes.0 r.header goes.1 in
      let answers : a.answers ≡ b.answers = answers-once law r.decls a.answers b.answers a.read b.read in
      let vars : one.vars ≡ other.vars = a.vars ∙ (ap (λ (l : List (Option (List Item))). vars_of earlier rule l) answers ∙ sym b.vars) in
      ap (λ (x : List ℕ). made x one.depends one.mode one.vars) (a.name ∙ sym b.name)
      ∙ (ap (λ (x : Dep). made other.name x one.mode one.vars) (a.depends d.0 d.1 ∙ sym (b.depends d.0 d.1))
      ∙ (ap (λ (x : Mode). made other.name other.depends x one.vars) (a.mode ∙ sym b.mode)
      ∙ ap (λ (x : List VarDecl). made other.name other.depends other.mode x) vars))

  pub head_or_fault : (virtuals : List (List ℕ)) (earlier : List RuleHead) (rule : ℕ) (r : RuleText) (h : RuleHead) (f : PatchFault)
      → IsHead virtuals earlier rule r h → IsHeadFault virtuals earlier r f → ⊥
  head_or_fault virtuals earlier rule r h f a is =
      let same : is.answers ≡ a.answers = answers-once law r.decls is.answers a.answers is.read a.read in
      let first : first_of (head_faults virtuals earlier a.answers r) ≡ Some f
      = subst (λ (l : List (Option (List Item))). first_of (head_faults virtuals earlier l r) ≡ Some f) same is.first in
      let none : None ≡ Some f = sym (ap first_of a.faultless) ∙ first in
      absurd (cc)

  pub heads_once : (text : PatchText) (earlier : List RuleHead) (rs : List RuleText) (one other : List RuleHead)
      → AllGoOn rs → AreHeads text earlier rs one → AreHeads text earlier rs other → one ≡ other
  heads_once text earlier [] [] [] goes a b = refl
  heads_once text earlier [] [] (h ∷ hs) goes a b = absurd b
  heads_once text earlier [] (h ∷ hs) other goes a b = absurd a
  heads_once text earlier (r ∷ rs) [] other goes a b = absurd a
  heads_once text earlier (r ∷ rs) (h ∷ hs) [] goes a b = absurd b
  heads_once text earlier (r ∷ rs) (h ∷ hs) (k ∷ ks) goes a b =
      let same = head_once text.virtuals earlier (length earlier) r h k goes.0 a.0 b.0 in
      let rest = heads_once text (earlier ++ k ∷ []) rs hs ks goes.1 (subst (λ (x : RuleHead). AreHeads text (earlier ++ x ∷ []) rs hs) same a.1) b.1 in
      ap (λ (x : RuleHead). x ∷ hs) same ∙ ap (λ (l : List RuleHead). k ∷ l) rest
