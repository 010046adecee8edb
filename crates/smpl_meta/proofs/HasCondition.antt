-- Each header that has no stop has a condition, `Always` if it has no `depends on`.
use Rattle.std.proofs.Common.{◌≡◌, ℕ, ◌||◌, Bool, true, false, List, [], ◌∷◌, Some, None, refl, sym, ap, ◌∙◌, subst, codes, if◌then◌else◌}
use Rattle.smpl_patch.specs.declared.rule.Dep.{Dep}
use Rattle.smpl_patch.specs.declared.rule.Dep.TheVariants as dep
use Rattle.smpl_lexer.specs.declared.token.PatchToken.{PatchToken}
use Rattle.smpl_lexer.specs.declared.places.HeaderPlace.{HeaderPlace}
use Rattle.smpl_lexer.specs.declared.places.HeaderPlace.TheVariants as h
use Rattle.smpl_lexer.specs.Tokens.{is_word, is_at}
use Rattle.smpl_lexer.specs.Headers.{is_rule_name, is_mode, after_mode, after_depends, after_name, header_stop}
use Rattle.smpl_meta.specs.declared.head.RuleHead.{RuleHead}
use Rattle.smpl_meta.specs.Heads.{Spells, DependsOn, condition, behind_on, depends_tokens}
use Rattle.smpl_meta.specs.Heads.Level.{Either}
use Rattle.smpl_meta.proofs.Marks.{plain, at_not_on, word_not_on}
use Rattle.smpl_meta.proofs.Conditions.{behind, Ends, stepped}

pub skipped : (t : PatchToken) (ts : List PatchToken) → is_word (codes "on") t ≡ false → behind_on (t ∷ ts) ≡ behind_on ts
skipped t ts e = ap (λ (b : Bool). if b then ts else behind_on ts) e

pub found : (t : PatchToken) (ts : List PatchToken) → is_word (codes "on") t ≡ true → behind_on (t ∷ ts) ≡ ts
found t ts e = ap (λ (b : Bool). if b then ts else behind_on ts) e

pub mode_not_on : (t : PatchToken) (a b : Bool) → is_word (codes "exists") t ≡ a → is_word (codes "forall") t ≡ b
    → (a || b) ≡ true → is_word (codes "on") t ≡ false
mode_not_on t true b is also e = word_not_on (codes "exists") t is refl
mode_not_on t false true is also e = word_not_on (codes "forall") t also refl
mode_not_on t false false is also e = absurd (cc)

module _ (earlier : List RuleHead) (end : ℕ) where
  -- the tokens after `on` have a condition
  abbrev Has : List PatchToken → Type 0
  Has ts = (d : Dep) × DependsOn earlier (condition ts) d

  always : (ts : List PatchToken) → ts ≡ [] → Has ts
  always ts e = subst (λ (l : List PatchToken). Has l) (sym e) (dep.Always, refl)

  closed : (ts : List PatchToken) → Ends h.Closed ts end → behind_on ts ≡ []
  closed [] e = refl
  closed (t ∷ ts) e = absurd (cc)

  at_by : (t : PatchToken) (ts : List PatchToken) (q : HeaderPlace) (b : Bool) → is_at t ≡ b
      → (if b then Some h.Closed else None) ≡ Some q → Ends q ts end → behind_on (t ∷ ts) ≡ []
  at_by t ts q true is e ends =
      let q_is : q ≡ h.Closed = cc in
      skipped t ts (at_not_on t is) ∙ closed ts (subst (λ (p : HeaderPlace). Ends p ts end) q_is ends)
  at_by t ts q false is e ends = absurd (cc)

  moded : (ts : List PatchToken) → Ends h.Moded ts end → behind_on ts ≡ []
  moded [] e = refl
  moded (t ∷ ts) e = let s = stepped h.Moded t ts end e in at_by t ts s.next (is_at t) refl s.is s.ends

  mode_by : (t : PatchToken) (ts : List PatchToken) (q : HeaderPlace) (b : Bool) → is_mode t ≡ b
      → (if b then Some h.Moded else after_mode t) ≡ Some q → Ends q ts end → behind_on (t ∷ ts) ≡ []
  mode_by t ts q true is e ends =
      let q_is : q ≡ h.Moded = cc in
      skipped t ts (mode_not_on t (is_word (codes "exists") t) (is_word (codes "forall") t) refl refl is)
      ∙ moded ts (subst (λ (p : HeaderPlace). Ends p ts end) q_is ends)
  mode_by t ts q false is e ends = at_by t ts q (is_at t) refl e ends

  spelled : (cs : List PatchToken) → (d : Dep) × Spells earlier Either cs d [] → (d : Dep) × DependsOn earlier cs d
  spelled [] g = (dep.Always, refl)
  spelled (c ∷ cs) g = g

  on_by : (t : PatchToken) (ts : List PatchToken) (q : HeaderPlace) (b : Bool) → is_word (codes "on") t ≡ b
      → (if b then Some (h.Operand 0 200) else None) ≡ Some q → Ends q ts end → Has (behind_on (t ∷ ts))
  on_by t ts q true is e ends =
      let q_is : q ≡ h.Operand 0 200 = cc in
      subst (λ (l : List PatchToken). Has l) (sym (found t ts is))
      (spelled (condition ts) (behind earlier ts 200 end (subst (λ (p : HeaderPlace). Ends p ts end) q_is ends)))
  on_by t ts q false is e ends = absurd (cc)

  depends : (ts : List PatchToken) → Ends h.Depends ts end → Has (behind_on ts)
  depends [] e = always [] refl
  depends (t ∷ ts) e = let s = stepped h.Depends t ts end e in
      on_by t ts s.next (is_word (codes "on") t) refl s.is s.ends

  depends_by : (t : PatchToken) (ts : List PatchToken) (q : HeaderPlace) (b : Bool) → is_word (codes "depends") t ≡ b
      → (if b then Some h.Depends else after_depends t) ≡ Some q → Ends q ts end → Has (behind_on (t ∷ ts))
  depends_by t ts q true is e ends =
      let q_is : q ≡ h.Depends = cc in
      subst (λ (l : List PatchToken). Has l) (sym (skipped t ts (word_not_on (codes "depends") t is refl)))
      (depends ts (subst (λ (p : HeaderPlace). Ends p ts end) q_is ends))
  depends_by t ts q false is e ends = always (behind_on (t ∷ ts)) (mode_by t ts q (is_mode t) refl e ends)

  named : (ts : List PatchToken) → Ends h.Named ts end → Has (behind_on ts)
  named [] e = always [] refl
  named (t ∷ ts) e = let s = stepped h.Named t ts end e in
      depends_by t ts s.next (is_word (codes "depends") t) refl s.is s.ends

  name_by : (t : PatchToken) (ts : List PatchToken) (q : HeaderPlace) (b : Bool) → is_rule_name t ≡ b
      → (if b then Some h.Named else after_name t) ≡ Some q → Ends q ts end → Has (behind_on (t ∷ ts))
  name_by t ts q true is e ends =
      let q_is : q ≡ h.Named = cc in
      let p = plain t is in
      subst (λ (l : List PatchToken). Has l) (sym (skipped t ts p.on)) (named ts (subst (λ (p : HeaderPlace). Ends p ts end) q_is ends))
  name_by t ts q false is e ends = depends_by t ts q (is_word (codes "depends") t) refl e ends

  opened : (ts : List PatchToken) → Ends h.Opened ts end → Has (behind_on ts)
  opened [] e = always [] refl
  opened (t ∷ ts) e = let s = stepped h.Opened t ts end e in name_by t ts s.next (is_rule_name t) refl s.is s.ends

  start_by : (t : PatchToken) (ts : List PatchToken) (q : HeaderPlace) (b : Bool) → is_at t ≡ b
      → (if b then Some h.Opened else None) ≡ Some q → Ends q ts end → Has (behind_on (t ∷ ts))
  start_by t ts q true is e ends =
      let q_is : q ≡ h.Opened = cc in
      subst (λ (l : List PatchToken). Has l) (sym (skipped t ts (at_not_on t is))) (opened ts (subst (λ (p : HeaderPlace). Ends p ts end) q_is ends))
  start_by t ts q false is e ends = absurd (cc)

  pub has_condition : (ts : List PatchToken) → header_stop ts end ≡ None
      → (d : Dep) × DependsOn earlier (depends_tokens ts) d
  has_condition [] e = always [] refl
  has_condition (t ∷ ts) e = let s = stepped h.Start t ts end e in start_by t ts s.next (is_at t) refl s.is s.ends
