-- What rules export, and what later rules take from them.
use Rattle.std.proofs.Common.{◌≡◌, ℕ, suc, ◌+◌, Bool, true, false, not, ◌&&◌, ◌||◌, refl, sym, ap, ◌∙◌, true≢false, List, []}
use Rattle.std.proofs.Common.{◌∷◌, ◌++◌, length, if◌then◌else◌, cond, nat_eq, arith, eqb, inl, inr}
use Rattle.std.specs.List.{list_any, list_all}
use Rattle.std.proofs.lemmas.Bool.Decides.{nat_tests}
use Rattle.c_terms.specs.declared.token.MetaKind.{MetaKind}
use Rattle.c_terms.specs.declared.token.MetaKind.TheVariants as meta
use Rattle.c_terms.specs.Numbers.{meta_number}
use Rattle.smpl_terms.specs.declared.var.Var.{Var as Variable}
use Rattle.smpl_terms.specs.Vars.{same_var}
use Rattle.smpl_terms.proofs.VarLaws.{same_var-refl}
use Rattle.smpl_patch.specs.declared.pattern.VarDecl.{VarDecl}
use Rattle.smpl_patch.specs.declared.pattern.VarKind.{VarKind}
use Rattle.smpl_patch.specs.declared.pattern.VarKind.TheVariants.{Meta, Position}
use Rattle.smpl_patch.specs.declared.wanted.Wanted.{Wanted}
use Rattle.smpl_patch.specs.declared.rule.Rule.{Rule}
use Rattle.smpl_patch.specs.Sound.{same_kind, declares, exported_from, is_sound_decl, is_own_var}
use Rattle.smpl_meta.specs.declared.head.RuleHead.{RuleHead}
use Rattle.smpl_meta.specs.Known.{kind_number}
use Rattle.smpl_file.specs.Exports.{taken_by, taken_by_all, has_var, is_exported, exports_of}
use Rattle.sound_laws.proofs.SmplSound.OwnLemmas.{Is, OwnIn, Home, HomeAll, GoodDecl, GoodDecls}

-- ---- tests

or-right : (a b : Bool) → b ≡ true → (a || b) ≡ true
or-right true b e = refl
or-right false b e = e

or-left : (a b : Bool) → a ≡ true → (a || b) ≡ true
or-left true b e = refl
or-left false b e = absurd (true≢false (sym e))

pub both-true : (a b : Bool) → a ≡ true → b ≡ true → (a && b) ≡ true
both-true true b e f = f
both-true false b e f = e

same-meta : (k j : MetaKind) → meta_number k ≡ meta_number j → eqb (meta_number k) (meta_number j) ≡ true
same-meta k j e = grind (arith, nat_tests)

not-seven : (k : MetaKind) → meta_number k ≡ 7 → ⊥
not-seven meta.Expr e = absurd (cc)
not-seven meta.Ident e = absurd (cc)
not-seven meta.Constant e = absurd (cc)
not-seven meta.Typ e = absurd (cc)
not-seven meta.Stmt e = absurd (cc)
not-seven meta.ExprList e = absurd (cc)
not-seven meta.Params e = absurd (cc)

kinds : (k j : VarKind) → kind_number k ≡ kind_number j → same_kind k j ≡ true
kinds (Meta k) (Meta j) e = same-meta k j e
kinds (Meta k) Position e = absurd (not-seven k e)
kinds Position (Meta j) e = absurd (not-seven j (sym e))
kinds Position Position e = refl

-- ---- exports are own

own-later : (d : VarDecl) (ds : List VarDecl) (xs : List Variable) → list_all (is_own_var ds) xs ≡ true → list_all (is_own_var (d ∷ ds)) xs ≡ true
own-later d ds [] e = refl
own-later d ds (x ∷ xs) e = by (is_own_var ds x) refl e (own-later d ds xs)
  where
    by : (b : Bool) → is_own_var ds x ≡ b → (b && list_all (is_own_var ds) xs) ≡ true
        → (list_all (is_own_var ds) xs ≡ true → list_all (is_own_var (d ∷ ds)) xs ≡ true)
        → (is_own_var (d ∷ ds) x && list_all (is_own_var (d ∷ ds)) xs) ≡ true
    by true h e more = both-true (is_own_var (d ∷ ds) x) (list_all (is_own_var (d ∷ ds)) xs)
        (or-right (same_var d.var x && not d.inherited) (is_own_var ds x) h) (more e)
    by false h e more = absurd (true≢false (sym e))

not-inherited : (i has : Bool) → (not i && has) ≡ true → not i ≡ true
not-inherited true has e = e
not-inherited false has e = refl

pub exports-own : (vs : List Variable) (ds : List VarDecl) → list_all (is_own_var ds) (exports_of vs ds) ≡ true
exports-own vs [] = refl
exports-own vs (d ∷ ds) = by (is_exported vs d) refl (own-later d ds (exports_of vs ds) (exports-own vs ds))
  where
    by : (b : Bool) → is_exported vs d ≡ b → list_all (is_own_var (d ∷ ds)) (exports_of vs ds) ≡ true
        → list_all (is_own_var (d ∷ ds)) (if b then d.var ∷ exports_of vs ds else exports_of vs ds) ≡ true
    by true h more =
        let own = both-true (same_var d.var d.var) (not d.inherited) (same_var-refl d.var) (not-inherited d.inherited (has_var vs d.var) h) in
        both-true (is_own_var (d ∷ ds) d.var) (list_all (is_own_var (d ∷ ds)) (exports_of vs ds))
        (or-left (same_var d.var d.var && not d.inherited) (is_own_var ds d.var) own) more
    by false h more = more

-- ---- what is taken is exported

module _ (vs : List Variable) (x : Variable) (known : has_var vs x ≡ true) (k : VarKind) (w : Wanted) where
  exported-by : (ds : List VarDecl) (d : VarDecl) (b : Bool) → list_any (λ y. same_var y x) (exports_of vs ds) ≡ true
      → list_any (λ y. same_var y x) (if b then d.var ∷ exports_of vs ds else exports_of vs ds) ≡ true
  exported-by ds d true e = or-right (same_var d.var x) (list_any (λ y. same_var y x) (exports_of vs ds)) e
  exported-by ds d false e = e

  exported-here : (ds : List VarDecl) (d : VarDecl) (b : Bool) → is_exported vs d ≡ b → Is x k w d
      → list_any (λ y. same_var y x) (if b then d.var ∷ exports_of vs ds else exports_of vs ds) ≡ true
  exported-here ds d true h is =
      or-left (same_var d.var x) (list_any (λ y. same_var y x) (exports_of vs ds)) (ap (λ (y : Variable). same_var y x) is.0 ∙ same_var-refl x)
  exported-here ds d false h is =
      let yes : is_exported vs d ≡ true = both-true (not d.inherited) (has_var vs d.var) (ap not is.1) (ap (has_var vs) is.0 ∙ known) in
      absurd (true≢false (sym yes ∙ h))

  own-exported : (ds : List VarDecl) → OwnIn ds x k w → list_any (λ y. same_var y x) (exports_of vs ds) ≡ true
  own-exported [] o = absurd o
  own-exported (d ∷ ds) (inl is) = exported-here ds d (is_exported vs d) refl is
  own-exported (d ∷ ds) (inr o) = exported-by ds d (is_exported vs d) (own-exported ds o)

  own-declared : (ds : List VarDecl) → OwnIn ds x k w → declares ds x k ≡ true
  own-declared [] o = absurd o
  own-declared (d ∷ ds) (inl is) =
      or-left (same_var d.var x && same_kind d.kind k) (declares ds x k)
      (both-true (same_var d.var x) (same_kind d.kind k) (ap (λ (y : Variable). same_var y x) is.0 ∙ same_var-refl x) (kinds d.kind k is.2))
  own-declared (d ∷ ds) (inr o) = or-right (same_var d.var x && same_kind d.kind k) (declares ds x k) (own-declared ds o)

-- the rules have the declarations of the heads, and export what is taken
abbrev pub Under : List Variable → List RuleHead → List Rule → Type 0
Under vs [] [] = Unit {0}
Under vs [] (r ∷ rs) = ⊥
Under vs (h ∷ hs) [] = ⊥
Under vs (h ∷ hs) (r ∷ rs) = ((r.vars ≡ h.vars) × (r.exports ≡ exports_of vs h.vars)) × Under vs hs rs

same-number : (n m : ℕ) → n ≡ m → nat_eq n m ≡ true
same-number n m e = grind (arith, nat_tests)

pub home-exported : (vs : List Variable) (n : ℕ) (hs : List RuleHead) (rs : List Rule) (x : Variable) (k : VarKind)
    (w : Wanted) → has_var vs x ≡ true → Under vs hs rs → Home n hs x k w
    → exported_from n rs x k ≡ true
home-exported vs n [] rs x k w known u o = absurd o
home-exported vs n (h ∷ hs) [] x k w known u o = absurd u
home-exported vs n (h ∷ hs) (r ∷ rs) x k w known u (inl is) =
    let exports = ap (list_any (λ y. same_var y x)) u.0.1 ∙ own-exported vs x known k w h.vars is.1 in
    let declared = ap (λ (ds : List VarDecl). declares ds x k) u.0.0 ∙ own-declared vs x known k w h.vars is.1 in
    or-left (nat_eq n x.rule && (list_any (λ y. same_var y x) r.exports && declares r.vars x k)) (exported_from (n + 1) rs x k)
    (both-true (nat_eq n x.rule) (list_any (λ y. same_var y x) r.exports && declares r.vars x k) (same-number n x.rule is.0)
    (both-true (list_any (λ y. same_var y x) r.exports) (declares r.vars x k) exports declared))
home-exported vs n (h ∷ hs) (r ∷ rs) x k w known u (inr o) =
    let more : exported_from (n + 1) rs x k ≡ true = ap (λ (m : ℕ). exported_from m rs x k) (omega arith) ∙ home-exported vs (suc n) hs rs x k w known u.1 o in
    or-right (nat_eq n x.rule && (list_any (λ y. same_var y x) r.exports && declares r.vars x k)) (exported_from (n + 1) rs x k) more

-- ---- a sound declaration

abbrev pub AllKnown : List Variable → List Variable → Type 0
AllKnown vs [] = Unit {0}
AllKnown vs (y ∷ ys) = (has_var vs y ≡ true) × AllKnown vs ys

pub known-front : (vs xs ys : List Variable) → AllKnown vs (xs ++ ys) → AllKnown vs xs
known-front vs [] ys a = tt
known-front vs (x ∷ xs) ys a = (a.0, known-front vs xs ys a.1)

pub known-back : (vs xs ys : List Variable) → AllKnown vs (xs ++ ys) → AllKnown vs ys
known-back vs [] ys a = a
known-back vs (x ∷ xs) ys a = known-back vs xs ys a.1

known-more : (vs : List Variable) (x : Variable) (ys : List Variable) → AllKnown vs ys → AllKnown (x ∷ vs) ys
known-more vs x [] a = tt
known-more vs x (y ∷ ys) a = (or-right (same_var x y) (has_var vs y) a.0, known-more vs x ys a.1)

pub known-self : (vs : List Variable) → AllKnown vs vs
known-self [] = tt
known-self (v ∷ vs) = (or-left (same_var v v) (has_var vs v) (same_var-refl v), known-more vs v vs (known-self vs))

module _ (vs : List Variable) (hs : List RuleHead) (rs : List Rule) (under : Under vs hs rs) where
  places-sound : (ys : List Variable) → AllKnown vs ys → HomeAll hs ys → list_all (λ y. exported_from 0 rs y Position) ys ≡ true
  places-sound [] a o = refl
  places-sound (y ∷ ys) a o =
      both-true (exported_from 0 rs y Position) (list_all (λ y. exported_from 0 rs y Position) ys)
      (home-exported vs 0 hs rs y Position o.0.0 a.0 under o.0.1) (places-sound ys a.1 o.1)

  decl-sound : (number : length hs ≡ length rs) (d : VarDecl) → AllKnown vs (taken_by d) → GoodDecl hs d → is_sound_decl rs d ≡ true
  decl-sound number d a g = by d.inherited refl a
    where
      by : (b : Bool) → d.inherited ≡ b → AllKnown vs ((if b then d.var ∷ [] else []) ++ d.not_places)
          → (cond b (exported_from 0 rs d.var d.kind) (nat_eq d.var.rule (length rs)) && list_all (λ y. exported_from 0 rs y Position) d.not_places) ≡ true
      by true i a =
          both-true (exported_from 0 rs d.var d.kind) (list_all (λ y. exported_from 0 rs y Position) d.not_places)
          (home-exported vs 0 hs rs d.var d.kind d.wanted a.0 under (g.inherits i))
          (places-sound d.not_places a.1 g.places)
      by false i a =
          both-true (nat_eq d.var.rule (length rs)) (list_all (λ y. exported_from 0 rs y Position) d.not_places)
          (same-number d.var.rule (length rs) (g.owned i ∙ number))
          (places-sound d.not_places a g.places)

  pub decls-sound : (number : length hs ≡ length rs) (ds : List VarDecl) → AllKnown vs (taken_by_all ds) → GoodDecls hs ds
      → list_all (is_sound_decl rs) ds ≡ true
  decls-sound number [] a g = refl
  decls-sound number (d ∷ ds) a g =
      both-true (is_sound_decl rs d) (list_all (is_sound_decl rs) ds) (decl-sound number d (known-front vs (taken_by d) (taken_by_all ds) a) g.0)
      (decls-sound number ds (known-back vs (taken_by d) (taken_by_all ds) a) g.1)
