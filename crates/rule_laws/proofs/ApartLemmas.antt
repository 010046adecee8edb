-- Each exported variable of a rule occurs once, and none is inherited.
-- Proof: they are declared variables, in declared order, and declared names differ. A rule's own variables have its number,
-- and an inherited one that of an earlier rule.
use Rattle.std.proofs.Common.{◌≡◌, ℕ, suc, ◌+◌, ◌<◌, Bool, true, false, not, ◌&&◌, ◌||◌, refl, sym, ap, ◌∙◌, subst, inl, inr}
use Rattle.std.proofs.Common.{true≢false, List, [], ◌∷◌, ◌++◌, length, if◌then◌else◌, cond, nat_eq, arith}
use Rattle.std.specs.List.{list_any, list_all, flat_map, AllByRecursion}
use Rattle.std.specs.Str.{bytes_eq}
use Rattle.std.proofs.lemmas.Bool.Decides.{nat_tests}
use Rattle.std.proofs.lemmas.Slice.Eq.{bytes_eq-Decides}
use Rattle.smpl_terms.specs.declared.var.Var.{Var as Variable}
use Rattle.smpl_terms.specs.Vars.{same_var}
use Rattle.smpl_terms.proofs.VarLaws.{same_var-equal}
use Rattle.smpl_patch.specs.declared.pattern.VarDecl.{VarDecl}
use Rattle.smpl_patch.specs.declared.pattern.VarKind.{VarKind}
use Rattle.smpl_patch.specs.declared.pattern.VarKind.TheVariants.{Position}
use Rattle.smpl_patch.specs.declared.rule.Rule.{Rule}
use Rattle.smpl_patch.specs.declared.rule.Patch.{Patch}
use Rattle.smpl_patch.specs.Sound.{declares, none_alike, exported_from, is_sound_decl, AreSoundRules, IsSound}
use Rattle.smpl_lexer.specs.declared.text.RuleText.{RuleText}
use Rattle.smpl_meta.specs.declared.head.RuleHead.{RuleHead}
use Rattle.smpl_file.specs.Exports.{has_var, is_exported, exports_of, taken}
use Rattle.smpl_file.specs.Patches.{IsRule, AreRules, IsSpelled}
use Rattle.env_parts.specs.Parts.{is_among}
use Rattle.rule_envs.specs.Inherited.{inherited_by, inherited_of}
use Rattle.rule_chain.specs.RuleMatches.Matching.{AreApart}
use Rattle.rule_laws.proofs.TestLemmas.{and-left, and-right, either, neither-left, neither-right, not-true}

-- ---- each stands once

same-name : (x : List ℕ) → bytes_eq x x ≡ true
same-name x = (bytes_eq-Decides x x).1 refl

other-name : (x y : Variable) → bytes_eq x.name y.name ≡ false → same_var y x ≡ false
other-name x y e = by (same_var y x) refl
  where
    by : (b : Bool) → same_var y x ≡ b → b ≡ false
    by true h =
        let names : x.name ≡ y.name = ap (λ (v : Variable). v.name) (sym (same_var-equal y x h)) in
        absurd (true≢false (sym (same-name x.name) ∙ ap (bytes_eq x.name) names ∙ e))
    by false h = refl

-- a variable that none of the declarations has the name of
fresh : (vs : List Variable) (x : Variable) (ds : List VarDecl) → list_any (λ (e : VarDecl). bytes_eq x.name e.var.name) ds ≡ false
    → is_among (exports_of vs ds) x ≡ false
fresh vs x [] e = refl
fresh vs x (d ∷ ds) e =
    let first = bytes_eq x.name d.var.name in
    let later = list_any (λ (f : VarDecl). bytes_eq x.name f.var.name) ds in
    by (is_exported vs d) (other-name x d.var (neither-left first later e)) (fresh vs x ds (neither-right first later e))
  where
    by : (b : Bool) → same_var d.var x ≡ false → is_among (exports_of vs ds) x ≡ false
        → is_among (if b then d.var ∷ exports_of vs ds else exports_of vs ds) x ≡ false
    by true h more = ap (λ z. z || is_among (exports_of vs ds) x) h ∙ more
    by false h more = more

-- ---- none is inherited

-- variables of rules before the one of this number
abbrev Earlier : ℕ → List Variable → Type 0
Earlier n ys = AllByRecursion (λ (y : Variable). y.rule < n) ys

equal-numbers : (n m : ℕ) → nat_eq n m ≡ true → n ≡ m
equal-numbers n m e = grind (arith, nat_tests)

exported-earlier : (n : ℕ) (rs : List Rule) (x : Variable) (k : VarKind) → exported_from n rs x k ≡ true → x.rule < n + length rs
exported-earlier n [] x k e = absurd (true≢false (sym e))
exported-earlier n (r ∷ rs) x k e =
    let here = list_any (λ y. same_var y x) r.exports && declares r.vars x k in
    elim (either (nat_eq n x.rule && here) (exported_from (n + 1) rs x k) e) [
      | inl h ↦ (let same : n ≡ x.rule = equal-numbers n x.rule (and-left (nat_eq n x.rule) here h) in omega arith)
      | inr h ↦ (let more : x.rule < (n + 1) + length rs = exported-earlier (n + 1) rs x k h in omega arith)
    ]

places-earlier : (rs : List Rule) (ys : List Variable) → list_all (λ y. exported_from 0 rs y Position) ys ≡ true → Earlier (length rs) ys
places-earlier rs [] e = tt
places-earlier rs (y ∷ ys) e =
    let later = list_all (λ z. exported_from 0 rs z Position) ys in
    let first : y.rule < 0 + length rs = exported-earlier 0 rs y Position (and-left (exported_from 0 rs y Position) later e) in
    (omega (arith, first), places-earlier rs ys (and-right (exported_from 0 rs y Position) later e))

decl-earlier : (rs : List Rule) (d : VarDecl) → is_sound_decl rs d ≡ true → Earlier (length rs) (inherited_by d)
decl-earlier rs d e = by d.inherited e
  where
    by : (b : Bool)
        → (cond b (exported_from 0 rs d.var d.kind) (nat_eq d.var.rule (length rs)) && list_all (λ y. exported_from 0 rs y Position) d.not_places) ≡ true
        → Earlier (length rs) (cond b (d.var ∷ []) [] ++ d.not_places)
    by true h =
        let places = list_all (λ y. exported_from 0 rs y Position) d.not_places in
        let first : d.var.rule < 0 + length rs =
        exported-earlier 0 rs d.var d.kind (and-left (exported_from 0 rs d.var d.kind) places h) in
        (omega (arith, first), places-earlier rs d.not_places (and-right (exported_from 0 rs d.var d.kind) places h))
    by false h =
        places-earlier rs d.not_places
        (and-right (nat_eq d.var.rule (length rs)) (list_all (λ y. exported_from 0 rs y Position) d.not_places) h)

earlier-append : (n : ℕ) (xs ys : List Variable) → Earlier n xs → Earlier n ys → Earlier n (xs ++ ys)
earlier-append n [] ys h k = k
earlier-append n (x ∷ xs) ys h k = (h.0, earlier-append n xs ys h.1 k)

inherited-earlier : (rs : List Rule) (ds : List VarDecl) → list_all (is_sound_decl rs) ds ≡ true → Earlier (length rs) (flat_map inherited_by ds)
inherited-earlier rs [] e = tt
inherited-earlier rs (d ∷ ds) e =
    let later = list_all (is_sound_decl rs) ds in
    earlier-append (length rs) (inherited_by d) (flat_map inherited_by ds)
    (decl-earlier rs d (and-left (is_sound_decl rs d) later e)) (inherited-earlier rs ds (and-right (is_sound_decl rs d) later e))

other-rule : (n : ℕ) (x y : Variable) → y.rule < n → x.rule ≡ n → same_var y x ≡ false
other-rule n x y below own = by (same_var y x) refl
  where
    by : (b : Bool) → same_var y x ≡ b → b ≡ false
    by true h =
        let rules : y.rule ≡ x.rule = ap (λ (v : Variable). v.rule) (same_var-equal y x h) in
        absurd (omega arith)
    by false h = refl

not-among : (n : ℕ) (ys : List Variable) (x : Variable) → Earlier n ys → x.rule ≡ n → is_among ys x ≡ false
not-among n [] x h own = refl
not-among n (y ∷ ys) x h own = ap (λ z. z || is_among ys x) (other-rule n x y h.0 own) ∙ not-among n ys x h.1 own

own-number : (rs : List Rule) (vs : List Variable) (d : VarDecl) → is_exported vs d ≡ true → is_sound_decl rs d ≡ true → d.var.rule ≡ length rs
own-number rs vs d e s = by d.inherited e s
  where
    by : (b : Bool) → (not b && has_var vs d.var) ≡ true
        → (cond b (exported_from 0 rs d.var d.kind) (nat_eq d.var.rule (length rs)) && list_all (λ y. exported_from 0 rs y Position) d.not_places) ≡ true
        → d.var.rule ≡ length rs
    by true h k = absurd (true≢false (sym h))
    by false h k =
        equal-numbers d.var.rule (length rs)
        (and-left (nat_eq d.var.rule (length rs)) (list_all (λ y. exported_from 0 rs y Position) d.not_places) k)

-- ---- both

apart : (rs : List Rule) (vs inherited : List Variable) → Earlier (length rs) inherited → (ds : List VarDecl)
    → none_alike (λ (d e : VarDecl). bytes_eq d.var.name e.var.name) ds ≡ true → list_all (is_sound_decl rs) ds ≡ true
    → AreApart (exports_of vs ds) inherited
apart rs vs inherited early [] names sound = tt
apart rs vs inherited early (d ∷ ds) names sound =
    let again = list_any (λ (e : VarDecl). bytes_eq d.var.name e.var.name) ds in
    let later = none_alike (λ (e f : VarDecl). bytes_eq e.var.name f.var.name) ds in
    let are_sound = list_all (is_sound_decl rs) ds in
    by (is_exported vs d) refl (not-true again (and-left (not again) later names)) (and-left (is_sound_decl rs d) are_sound sound)
    (apart rs vs inherited early ds (and-right (not again) later names) (and-right (is_sound_decl rs d) are_sound sound))
  where
    by : (b : Bool) → is_exported vs d ≡ b → list_any (λ (e : VarDecl). bytes_eq d.var.name e.var.name) ds ≡ false → is_sound_decl rs d ≡ true
        → AreApart (exports_of vs ds) inherited → AreApart (if b then d.var ∷ exports_of vs ds else exports_of vs ds) inherited
    by true h once good more =
        (not-among (length rs) inherited d.var early (own-number rs vs d h good), fresh vs d.var ds once, more)
    by false h once good more = more

rule-apart : (known : List Variable) (earlier : List Rule) (n : ℕ) (t : RuleText) (h : RuleHead) (r : Rule) → IsRule known n t h r
    → none_alike (λ (d e : VarDecl). bytes_eq d.var.name e.var.name) r.vars ≡ true → list_all (is_sound_decl earlier) r.vars ≡ true
    → AreApart r.exports (inherited_of r)
rule-apart known earlier n t h r made names sound =
    let same : r.exports ≡ exports_of known r.vars = made.exports ∙ ap (exports_of known) (sym made.vars) in
    subst (λ (xs : List Variable). AreApart xs (inherited_of r)) (sym same)
    (apart earlier known (inherited_of r) (inherited-earlier earlier r.vars sound) r.vars names sound)

abbrev pub Apart : Rule → Type 0
Apart r = AreApart r.exports (inherited_of r)

rules-apart : (known : List Variable) (n : ℕ) (before : List Rule) (ts : List RuleText) (hs : List RuleHead) (xs : List Rule)
    → AreRules known n ts hs xs → AreSoundRules before xs → AllByRecursion Apart xs
rules-apart known n before [] [] [] a s = tt
rules-apart known n before [] [] (x ∷ xs) a s = absurd a
rules-apart known n before [] (h ∷ hs) xs a s = absurd a
rules-apart known n before (t ∷ ts) [] xs a s = absurd a
rules-apart known n before (t ∷ ts) (h ∷ hs) [] a s = absurd a
rules-apart known n before (t ∷ ts) (h ∷ hs) (x ∷ xs) a s =
    (rule-apart known before n t h x a.0 s.0.names s.0.vars, rules-apart known (suc n) (before ++ x ∷ []) ts hs xs a.1 s.1)

pub patch-apart : (bytes : List ℕ) (patch : Patch) → IsSpelled bytes patch → IsSound patch → AllByRecursion Apart patch.rules
patch-apart bytes patch s sound = rules-apart (taken s.heads) 0 [] s.text.rules s.heads patch.rules s.are_rules.rules sound.rules
