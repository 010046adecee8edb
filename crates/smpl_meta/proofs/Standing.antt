-- Tokens can begin a header exactly if the table goes through them.
use Rattle.std.proofs.Common.{◌≡◌, ℕ, ◌≤◌, ◌⊎◌, inl, inr, Bool, true, false, List, [], ◌∷◌, ◌++◌, Some, None, refl, sym}
use Rattle.std.proofs.Common.{ap, ◌∙◌, subst, codes, append_assoc, arith, if◌then◌else◌}
use Rattle.smpl_patch.specs.declared.rule.Dep.{Dep}
use Rattle.smpl_lexer.specs.declared.token.PatchToken.{PatchToken}
use Rattle.smpl_lexer.specs.declared.places.HeaderPlace.{HeaderPlace}
use Rattle.smpl_lexer.specs.declared.places.HeaderPlace.TheVariants as h
use Rattle.smpl_lexer.specs.Tokens.{is_word, is_at}
use Rattle.smpl_lexer.specs.Headers.{is_rule_name, is_mode, after_depends, after_name, header_step}
use Rattle.smpl_meta.specs.declared.head.RuleHead.{RuleHead}
use Rattle.smpl_meta.specs.Heads.{Spells, condition, behind_on, depends_tokens}
use Rattle.smpl_meta.specs.Heads.Level.{Either}
use Rattle.smpl_meta.specs.Spelled.{counted_in, Closes, Goes, IsHeader, CanStand}
use Rattle.smpl_meta.specs.Spelled.Goes.{depends}
use Rattle.smpl_meta.specs.Spelled.IsHeader.{unnamed, named}
use Rattle.smpl_meta.proofs.Marks.{plain, at_not_on, word_not_on}
use Rattle.smpl_meta.proofs.HasCondition.{skipped, found, mode_not_on}
use Rattle.smpl_meta.proofs.Conditions.{Ends, behind}
use Rattle.smpl_meta.proofs.Spelling.{rest_of, header_is_spelled}
use Rattle.smpl_meta.proofs.Spelling.In.{hole}
use Rattle.smpl_meta.proofs.Passing.{Passes, Live, completion, ended}
use Rattle.smpl_meta.proofs.Passing.Passes.{here, on}
use Rattle.smpl_meta.proofs.Passing.{Live as live}
use Rattle.smpl_meta.proofs.Carrying.{outer_of, outer_live}
use Rattle.smpl_meta.proofs.Carried.{few_passed, carried}

-- ---- the parts of what a header goes through

-- there is no `on` after the condition
at_by : (t : PatchToken) (ts : List PatchToken) (q r : HeaderPlace) (b : Bool) → is_at t ≡ b → (if b then Some h.Closed else None) ≡ Some q
    → Passes q ts r → behind_on (t ∷ ts) ≡ []
at_by t [] q r true is e pass = skipped t [] (at_not_on t is)
at_by t (u ∷ ts) q r true is e (on {q = next} step rest) =
    let q_is : q ≡ h.Closed = cc in
    let none : header_step h.Closed u ≡ Some next = subst (λ (p : HeaderPlace). header_step p u ≡ Some next) q_is step in
    absurd (cc)
at_by t ts q r false is e pass = absurd (cc)

moded_behind : (ts : List PatchToken) (r : HeaderPlace) → Passes h.Moded ts r → behind_on ts ≡ []
moded_behind [] r pass = refl
moded_behind (t ∷ ts) r (on {q = q} step rest) = at_by t ts q r (is_at t) refl step rest

outer_by : (t : PatchToken) (ts : List PatchToken) (q r : HeaderPlace) (b : Bool) → is_mode t ≡ b
    → (if b then Some h.Moded else (if is_at t then Some h.Closed else None)) ≡ Some q → Passes q ts r → behind_on (t ∷ ts) ≡ []
outer_by t ts q r true is e pass =
    let q_is : q ≡ h.Moded = cc in
    skipped t ts (mode_not_on t (is_word (codes "exists") t) (is_word (codes "forall") t) refl refl is)
    ∙ moded_behind ts r (subst (λ (p : HeaderPlace). Passes p ts r) q_is pass)
outer_by t ts q r false is e pass = at_by t ts q r (is_at t) refl e pass

module _ (earlier : List RuleHead) where
  -- what a header goes through ends before `on`, or it has a condition up to here, after which anything that ends a
  -- condition makes tokens of a kind
  record Within (Whole : (most : ℕ) → List PatchToken → Type 0) (ts : List PatchToken) (q : HeaderPlace) : Type 0 where
    first : List PatchToken
    begun : List PatchToken
    is : ts ≡ first ++ begun
    behind_is : behind_on ts ≡ begun
    passes : Passes (h.Operand 0 200) begun q
    whole : (most : ℕ) (cs last : List PatchToken) (d : Dep) → Spells earlier Either cs d [] → counted_in cs ≤ most → Closes last
        → Whole most (first ++ (cs ++ last))

  record Before (ts : List PatchToken) (q : HeaderPlace) : Type 0 where
    none : behind_on ts ≡ []
    live : Live q

  abbrev Parts : ((most : ℕ) → List PatchToken → Type 0) → List PatchToken → HeaderPlace → Type 0
  Parts Whole ts q = Before ts q ⊎ Within Whole ts q

  on_by : (w o : PatchToken) (ts : List PatchToken) (q r : HeaderPlace) (b : Bool) → is_word (codes "depends") w ≡ true
      → is_word (codes "on") o ≡ b → (if b then Some (h.Operand 0 200) else None) ≡ Some q → Passes q ts r
      → Parts (Goes earlier) (w ∷ o ∷ ts) r
  on_by w o ts q r true word_is is e pass =
      let q_is : q ≡ h.Operand 0 200 = cc in
      inr (record {
        first = w ∷ o ∷ [];
        begun = ts;
        is = refl;
        behind_is = skipped w (o ∷ ts) (word_not_on (codes "depends") w word_is refl) ∙ found o ts is;
        passes = subst (λ (p : HeaderPlace). Passes p ts r) q_is pass;
        whole = λ most cs last d spelled few ends. depends w o word_is is spelled few ends;
      })
  on_by w o ts q r false word_is is e pass = absurd (cc)

  depends_parts : (w : PatchToken) (ts : List PatchToken) (r : HeaderPlace) → is_word (codes "depends") w ≡ true → Passes h.Depends ts r
      → Parts (Goes earlier) (w ∷ ts) r
  depends_parts w _ _ is here = inl (record { none = skipped w [] (word_not_on (codes "depends") w is refl); live = live.depends })
  depends_parts w _ r is (on {q = q} {t = o} {ts = ts} step rest) = on_by w o ts q r (is_word (codes "on") o) is refl step rest

  behind_name_by : (t : PatchToken) (ts : List PatchToken) (q r : HeaderPlace) (b : Bool) → is_word (codes "depends") t ≡ b
      → (if b then Some h.Depends else after_depends t) ≡ Some q → Passes q ts r → Parts (Goes earlier) (t ∷ ts) r
  behind_name_by t ts q r true is e pass =
      let q_is : q ≡ h.Depends = cc in
      depends_parts t ts r is (subst (λ (p : HeaderPlace). Passes p ts r) q_is pass)
  behind_name_by t ts q r false is e pass =
      inl (record { none = outer_by t ts q r (is_mode t) refl e pass; live = outer_live (outer_of t q e) pass })

  named_parts : (ts : List PatchToken) (r : HeaderPlace) → Passes h.Named ts r → Parts (Goes earlier) ts r
  named_parts _ _ here = inl (record { none = refl; live = live.named })
  named_parts _ r (on {q = q} {t = t} {ts = ts} step rest) = behind_name_by t ts q r (is_word (codes "depends") t) refl step rest

  -- tokens before them that are not `on`
  put_first : {A B : (most : ℕ) → List PatchToken → Type 0} (t : PatchToken) (ts : List PatchToken) (r : HeaderPlace)
      → is_word (codes "on") t ≡ false → ((most : ℕ) (l : List PatchToken) → A most l → B most (t ∷ l)) → Parts A ts r → Parts B (t ∷ ts) r
  put_first t ts r other more (inl b) = inl (record { none = skipped t ts other ∙ b.none; live = b.live })
  put_first t ts r other more (inr w) = inr (record {
    first = t ∷ w.first;
    begun = w.begun;
    is = ap (λ (l : List PatchToken). t ∷ l) w.is;
    behind_is = skipped t ts other ∙ w.behind_is;
    passes = w.passes;
    whole = λ most cs last d spelled few ends. more most (w.first ++ (cs ++ last)) (w.whole most cs last d spelled few ends);
  })

  -- after `@`
  abbrev Tail : (most : ℕ) → List PatchToken → Type 0
  Tail most ts = (a : PatchToken) → is_at a ≡ true → IsHeader earlier most (a ∷ ts)

  bare_tail : (ts : List PatchToken) (r : HeaderPlace) → Parts (Goes earlier) ts r → Parts Tail ts r
  bare_tail ts r (inl b) = inl (record { none = b.none; live = b.live })
  bare_tail ts r (inr w) = inr (record {
    first = w.first;
    begun = w.begun;
    is = w.is;
    behind_is = w.behind_is;
    passes = w.passes;
    whole = λ most cs last d spelled few ends. λ a is. unnamed a is (w.whole most cs last d spelled few ends);
  })

  opened_by : (t : PatchToken) (ts : List PatchToken) (q r : HeaderPlace) (b : Bool) → is_rule_name t ≡ b
      → (if b then Some h.Named else after_name t) ≡ Some q → Passes q ts r → Parts Tail (t ∷ ts) r
  opened_by t ts q r true is e pass =
      let q_is : q ≡ h.Named = cc in
      put_first {A = Goes earlier} {B = Tail} t ts r (plain t is).on (λ most l goes. λ a at. named a t at is goes)
      (named_parts ts r (subst (λ (p : HeaderPlace). Passes p ts r) q_is pass))
  opened_by t ts q r false is e pass = bare_tail (t ∷ ts) r (behind_name_by t ts q r (is_word (codes "depends") t) refl e pass)

  opened_parts : (ts : List PatchToken) (r : HeaderPlace) → Passes h.Opened ts r → Parts Tail ts r
  opened_parts _ _ here = inl (record { none = refl; live = live.opened })
  opened_parts _ r (on {q = q} {t = t} {ts = ts} step rest) = opened_by t ts q r (is_rule_name t) refl step rest

  start_by : (t : PatchToken) (ts : List PatchToken) (q r : HeaderPlace) (b : Bool) → is_at t ≡ b
      → (if b then Some h.Opened else None) ≡ Some q → Passes q ts r → Parts (IsHeader earlier) (t ∷ ts) r
  start_by t ts q r true is e pass =
      let q_is : q ≡ h.Opened = cc in
      put_first {A = Tail} {B = IsHeader earlier} t ts r (at_not_on t is) (λ most l tail. tail t is)
      (opened_parts ts r (subst (λ (p : HeaderPlace). Passes p ts r) q_is pass))
  start_by t ts q r false is e pass = absurd (cc)

  parts : (ts : List PatchToken) (r : HeaderPlace) → Passes h.Start ts r → Parts (IsHeader earlier) ts r
  parts _ _ here = inl (record { none = refl; live = live.starts })
  parts _ r (on {q = q} {t = t} {ts = ts} step rest) = start_by t ts q r (is_at t) refl step rest

  -- ---- if the table goes through, the tokens can begin a header

  few_of : (ts : List PatchToken) (n : ℕ) → behind_on ts ≡ [] → counted_in (depends_tokens ts) ≤ n
  few_of ts n none = let zero_is : counted_in (depends_tokens ts) ≡ 0 = ap (λ (l : List PatchToken). counted_in (condition l)) none in
      omega (arith, zero_is)

  stands_before : (ts : List PatchToken) (q : HeaderPlace) → Passes h.Start ts q → Before ts q → CanStand earlier ts
  stands_before ts q pass b =
      let c = completion 0 q b.live in
      record {
        most = 200;
        more = c.tokens;
        header = header_is_spelled 0 earlier (ts ++ c.tokens) (ended 0 c.tokens pass c.ends);
        few = few_of ts 200 b.none;
      }

  stands_within : (ts : List PatchToken) (q : HeaderPlace) → Within (IsHeader earlier) ts q → CanStand earlier ts
  stands_within ts q w =
      let few = few_passed w.begun 200 q w.passes in
      let c = carried w.begun 200 201 q w.passes (omega (arith, few)) in
      let last = completion 0 c.at (c.live (omega (arith, few))) in
      let all = w.begun ++ last.tokens in
      let ends : Ends (h.Operand 0 201) all 0 = ended 0 last.tokens c.passes last.ends in
      let d = behind earlier all 201 0 ends in
      let rest = rest_of 0 all (h.Operand 0 201) 201 (hole 0) ends in
      let whole : IsHeader earlier 201 (w.first ++ (condition all ++ rest.tail)) = w.whole 201 (condition all) rest.tail d.0 d.1 rest.few rest.closed in
      let whole_is : IsHeader earlier 201 (w.first ++ all) = subst (λ (l : List PatchToken). IsHeader earlier 201 (w.first ++ l)) (sym rest.is) whole in
      let together : ts ++ last.tokens ≡ w.first ++ all = ap (λ (l : List PatchToken). l ++ last.tokens) w.is ∙ append_assoc w.first w.begun last.tokens in
      record {
        most = 201;
        more = last.tokens;
        header = subst (λ (l : List PatchToken). IsHeader earlier 201 l) (sym together) whole_is;
        few = let same : counted_in (depends_tokens ts) ≡ counted_in (condition w.begun) = ap (λ (l : List PatchToken). counted_in (condition l)) w.behind_is in
            omega (arith, same, few);
      }

  pub stands : (ts : List PatchToken) (q : HeaderPlace) → Passes h.Start ts q → CanStand earlier ts
  stands ts q pass = elim (parts ts q pass) [
    | inl b ↦ stands_before ts q pass b
    | inr w ↦ stands_within ts q w
  ]
