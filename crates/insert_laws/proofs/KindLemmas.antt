-- Each variable of a sound patch is a position in all rules that declare it, or in none.
use Rattle.std.proofs.Common.{◌≡◌, ℕ, zero, suc, ◌+◌, Bool, true, false, not, ◌&&◌, cond, nat_eq, eq-eqb, refl, sym, ap, ◌∙◌, subst, arith, ⊎_elim}
use Rattle.std.proofs.Common.{List, [], ◌∷◌, ◌++◌, append_assoc, length, Option, None, Some, slice_get}
use Rattle.std.specs.Prelude.{All}
use Rattle.std.specs.List.{list_any, list_all}
use Rattle.std.specs.Str.{bytes_eq}
use Rattle.std.proofs.lemmas.Bool.Decides.{nat_tests}
use Rattle.std.proofs.lemmas.Slice.Eq.{bytes_eq-Decides}
use Rattle.std.proofs.lemmas.List.Elements.{All-nil, All-cons, All-head, All-tail, All-weaker, All-contains}
use Rattle.c_terms.specs.Numbers.{meta_number}
use Rattle.smpl_terms.specs.declared.var.Var.{Var}
use Rattle.smpl_terms.specs.Vars.{same_var}
use Rattle.smpl_terms.proofs.VarLaws.{same_var-refl, same_var-equal}
use Rattle.smpl_patch.specs.declared.pattern.VarDecl.{VarDecl}
use Rattle.smpl_patch.specs.declared.pattern.VarKind.{VarKind}
use Rattle.smpl_patch.specs.declared.pattern.VarKind.TheVariants as var_kind
use Rattle.smpl_patch.specs.declared.pattern.PatToken.{PatToken}
use Rattle.smpl_patch.specs.declared.rule.Rule.{Rule}
use Rattle.smpl_patch.specs.Patterns.{is_position_kind, is_position_of}
use Rattle.smpl_patch.specs.Sound.{same_kind, declares, none_alike, exported_from, is_sound_decl, is_sound_token, is_sound_block, AreSoundRules}
use Rattle.ctl_fixpoint.proofs.CtlHolds.TestLemmas.{or_cases, or_left, or_right, and_left, and_right, and_both, not_both, not_true, any_found, all_has}
use Rattle.wit_forest.specs.WitTrees.Forest.{is_hidden}
use Rattle.insert_laws.specs.TermLaws.Terms.{IsNoPosition}
use Rattle.insert_laws.specs.TouchLaws.Metas.{AreMetas}

-- ---- kinds

same_kind-refl : (k : VarKind) → same_kind k k ≡ true
same_kind-refl (var_kind.Meta k) = eq-eqb (meta_number k) (meta_number k) refl
same_kind-refl var_kind.Position = refl

same_position : (k j : VarKind) → same_kind k j ≡ true → is_position_kind k ≡ is_position_kind j
same_position (var_kind.Meta k) (var_kind.Meta j) h = refl
same_position (var_kind.Meta k) var_kind.Position h = not_both false h refl
same_position var_kind.Position (var_kind.Meta j) h = not_both false h refl
same_position var_kind.Position var_kind.Position h = refl

-- each declaration declares its variable with its kind
declares-self : (ds : List VarDecl) → All (λ d. declares ds d.var d.kind ≡ true) ds
declares-self [] = All-nil (λ d. declares [] d.var d.kind ≡ true)
declares-self (d ∷ ds) =
    All-cons (λ (e : VarDecl). declares (d ∷ ds) e.var e.kind ≡ true) d ds
    (or_left (same_var d.var d.var && same_kind d.kind d.kind) (declares ds d.var d.kind)
    (and_both (same_var d.var d.var) (same_kind d.kind d.kind) (same_var-refl d.var) (same_kind-refl d.kind)))
    (All-weaker (λ (e : VarDecl). declares ds e.var e.kind ≡ true) (λ (e : VarDecl). declares (d ∷ ds) e.var e.kind ≡ true)
    (λ e h. or_right (same_var d.var e.var && same_kind d.kind e.kind) (declares ds e.var e.kind) h) ds (declares-self ds))

-- of different names only one declaration has a name
abbrev alike : VarDecl → VarDecl → Bool
alike d e = bytes_eq d.var.name e.var.name

clash : (d : VarDecl) (ds : List VarDecl) (x : Var) (k : VarKind) → same_var d.var x ≡ true → declares ds x k ≡ true → list_any (alike d) ds ≡ true
clash d [] x k e h = not_both false h refl
clash d (f ∷ ds) x k e h = ⊎_elim
    (λ a.
    let same : d.var ≡ f.var = same_var-equal d.var x e ∙ sym (same_var-equal f.var x (and_left (same_var f.var x) (same_kind f.kind k) a)) in
    or_left (alike d f) (list_any (alike d) ds) ((bytes_eq-Decides d.var.name f.var.name).1 (ap (λ (v : Var). v.name) same)))
    (λ a. or_right (alike d f) (list_any (alike d) ds) (clash d ds x k e a))
    (or_cases (same_var f.var x && same_kind f.kind k) (declares ds x k) h)

one_kind : (ds : List VarDecl) → none_alike alike ds ≡ true → (x : Var) (k j : VarKind) → declares ds x k ≡ true → declares ds x j ≡ true
    → is_position_kind k ≡ is_position_kind j
one_kind [] n x k j h g = not_both false h refl
one_kind (d ∷ ds) n x k j h g = ⊎_elim
    (λ a. ⊎_elim
    (λ b. sym (same_position d.kind k (and_right (same_var d.var x) (same_kind d.kind k) a))
    ∙ same_position d.kind j (and_right (same_var d.var x) (same_kind d.kind j) b))
    (λ b. absurd (lone (and_left (same_var d.var x) (same_kind d.kind k) a) j b))
    (or_cases (same_var d.var x && same_kind d.kind j) (declares ds x j) g))
    (λ a. ⊎_elim
    (λ b. absurd (lone (and_left (same_var d.var x) (same_kind d.kind j) b) k a))
    (λ b. one_kind ds (and_right (not (list_any (alike d) ds)) (none_alike alike ds) n) x k j a b)
    (or_cases (same_var d.var x && same_kind d.kind j) (declares ds x j) g))
    (or_cases (same_var d.var x && same_kind d.kind k) (declares ds x k) h)
  where
    lone : same_var d.var x ≡ true → (i : VarKind) → declares ds x i ≡ true → ⊥
    lone e i b =
        not_both (list_any (alike d) ds) (clash d ds x i e b)
        (not_true (list_any (alike d) ds) (and_left (not (list_any (alike d) ds)) (none_alike alike ds) n))

-- ---- the rule of a variable's number declares it

record Home (all : List Rule) (x : Var) (k : VarKind) : Type 0 where
  rule : Rule
  rule_is : slice_get all x.rule ≡ Some rule
  declared : declares rule.vars x k ≡ true

record Exported (rs : List Rule) (n : ℕ) (x : Var) (k : VarKind) : Type 0 where
  at : ℕ
  rule : Rule
  number : n + at ≡ x.rule
  rule_is : slice_get rs at ≡ Some rule
  declared : declares rule.vars x k ≡ true

number_is : (n m : ℕ) → nat_eq n m ≡ true → n + 0 ≡ m
number_is n m h = grind (arith, nat_tests)

exported_at : (n : ℕ) (rs : List Rule) (x : Var) (k : VarKind) → exported_from n rs x k ≡ true → Exported rs n x k
exported_at n [] x k h = not_both false h refl
exported_at n (r ∷ rs) x k h = ⊎_elim
    (λ a. record {
      at = 0;
      rule = r;
      number = number_is n x.rule (and_left (nat_eq n x.rule) (list_any (λ y. same_var y x) r.exports && declares r.vars x k) a);
      rule_is = refl;
      declared = and_right (list_any (λ y. same_var y x) r.exports) (declares r.vars x k)
          (and_right (nat_eq n x.rule) (list_any (λ y. same_var y x) r.exports && declares r.vars x k) a);
    })
    (λ a.
    let e = exported_at (n + 1) rs x k a in record {
      at = suc e.at;
      rule = e.rule;
      number = let m = e.number in omega (arith, m);
      rule_is = e.rule_is;
      declared = e.declared;
    })
    (or_cases (nat_eq n x.rule && (list_any (λ y. same_var y x) r.exports && declares r.vars x k)) (exported_from (n + 1) rs x k) h)

front_get : (xs ys : List Rule) (i : ℕ) (r : Rule) → slice_get xs i ≡ Some r → slice_get (xs ++ ys) i ≡ Some r
front_get [] ys i r e = absurd (cc)
front_get (x ∷ xs) ys zero r e = e
front_get (x ∷ xs) ys (suc i) r e = front_get xs ys i r e

here_get : (xs ys : List Rule) (r : Rule) → slice_get (xs ++ r ∷ ys) (length xs) ≡ Some r
here_get [] ys r = refl
here_get (x ∷ xs) ys r = here_get xs ys r

same_number : (n m : ℕ) → nat_eq n m ≡ true → n ≡ m
same_number n m h = grind (arith, nat_tests)

decl_home : (earlier rest : List Rule) (r : Rule) (d : VarDecl) → declares r.vars d.var d.kind ≡ true → (b : Bool)
    → cond b (exported_from 0 earlier d.var d.kind) (nat_eq d.var.rule (length earlier)) ≡ true → Home (earlier ++ r ∷ rest) d.var d.kind
decl_home earlier rest r d h true e =
    let x = exported_at 0 earlier d.var d.kind e in
    let number : x.at ≡ d.var.rule = let m = x.number in omega (arith, m) in record {
      rule = x.rule;
      rule_is = front_get earlier (r ∷ rest) d.var.rule x.rule (subst (λ (n : ℕ). slice_get earlier n ≡ Some x.rule) number x.rule_is);
      declared = x.declared;
    }
decl_home earlier rest r d h false e = record {
  rule = r;
  rule_is = subst (λ (n : ℕ). slice_get (earlier ++ r ∷ rest) n ≡ Some r) (sym (same_number d.var.rule (length earlier) e)) (here_get earlier rest r);
  declared = h;
}

decls_home : (earlier rest : List Rule) (r : Rule) (ds : List VarDecl) → All (λ d. declares r.vars d.var d.kind ≡ true) ds
    → list_all (is_sound_decl earlier) ds ≡ true → All (λ d. Home (earlier ++ r ∷ rest) d.var d.kind) ds
decls_home earlier rest r [] h s = All-nil (λ d. Home (earlier ++ r ∷ rest) d.var d.kind)
decls_home earlier rest r (d ∷ ds) h s =
    All-cons (λ (e : VarDecl). Home (earlier ++ r ∷ rest) e.var e.kind) d ds
    (decl_home earlier rest r d (All-head (λ d. declares r.vars d.var d.kind ≡ true) d ds h) d.inherited
    (and_left (cond d.inherited (exported_from 0 earlier d.var d.kind) (nat_eq d.var.rule (length earlier))) _
    (and_left (is_sound_decl earlier d) (list_all (is_sound_decl earlier) ds) s)))
    (decls_home earlier rest r ds (All-tail (λ d. declares r.vars d.var d.kind ≡ true) d ds h)
    (and_right (is_sound_decl earlier d) (list_all (is_sound_decl earlier) ds) s))

-- what is known of each rule
record IsHome (all : List Rule) (r : Rule) : Type 0 where
  homes : All (λ (d : VarDecl). Home all d.var d.kind) r.vars
  names : none_alike alike r.vars ≡ true
  tokens : list_all (is_sound_token r.vars) r.tokens ≡ true

rules_home : (earlier rs : List Rule) → AreSoundRules earlier rs → All (IsHome (earlier ++ rs)) rs
rules_home earlier [] s = All-nil (IsHome (earlier ++ []))
rules_home earlier (r ∷ rs) s =
    All-cons (IsHome (earlier ++ r ∷ rs)) r rs
    (record { homes = decls_home earlier rs r r.vars (declares-self r.vars) s.0.vars; names = s.0.names; tokens = s.0.tokens })
    (subst (λ (l : List Rule). All (IsHome l) rs) (append_assoc earlier (r ∷ []) rs) (rules_home (earlier ++ r ∷ []) rs s.1))

-- ---- metavariables

-- the variable is declared here, and is no position
abbrev pub is_meta_in : List VarDecl → Var → Bool
is_meta_in ds x = list_any (λ d. same_var d.var x && not (is_position_kind d.kind)) ds

-- so it is in some of the rules
abbrev pub is_meta_of_some : List Rule → Var → Bool
is_meta_of_some rs x = list_any (λ r. is_meta_in r.vars x) rs

get_all : (Q : Rule → Type 0) (rs : List Rule) (n : ℕ) (r : Rule) → slice_get rs n ≡ Some r → All Q rs → Q r
get_all Q [] n r e h = absurd (cc)
get_all Q (x ∷ rs) zero r e h = let same : x ≡ r = cc in subst Q same (All-head Q x rs h)
get_all Q (x ∷ rs) (suc n) r e h = get_all Q rs n r e (All-tail Q x rs h)

module _ (all : List Rule) (home : All (IsHome all) all) where
  one_position : (x : Var) (k j : VarKind) → Home all x k → Home all x j → is_position_kind k ≡ is_position_kind j
  one_position x k j h g =
      let same : h.rule ≡ g.rule = let e : Some h.rule ≡ Some g.rule = sym h.rule_is ∙ g.rule_is in cc in
      one_kind g.rule.vars (get_all (IsHome all) all x.rule g.rule g.rule_is home).names x k j
      (subst (λ (r : Rule). declares r.vars x k ≡ true) same h.declared) g.declared

  position_at : (r : Rule) → IsHome all r → (x : Var) (n : ℕ) → is_position_of (slice_get r.tokens n) x ≡ true → declares r.vars x var_kind.Position ≡ true
  position_at r h x n e = at_token (slice_get r.tokens n) refl e
    where
      get_token : (ts : List PatToken) (n : ℕ) (p : PatToken) → slice_get ts n ≡ Some p → list_all (is_sound_token r.vars) ts ≡ true
          → is_sound_token r.vars p ≡ true
      get_token [] n p e a = absurd (cc)
      get_token (t ∷ ts) zero p e a =
          let same : t ≡ p = cc in
          subst (λ (u : PatToken). is_sound_token r.vars u ≡ true) same (and_left (is_sound_token r.vars t) (list_all (is_sound_token r.vars) ts) a)
      get_token (t ∷ ts) (suc n) p e a = get_token ts n p e (and_right (is_sound_token r.vars t) (list_all (is_sound_token r.vars) ts) a)

      among : (ys : List Var) → list_all (λ y. declares r.vars y var_kind.Position) ys ≡ true → list_any (λ y. same_var y x) ys ≡ true
          → declares r.vars x var_kind.Position ≡ true
      among ys a m =
          let y = any_found (λ y. same_var y x) ys m in
          subst (λ (z : Var). declares r.vars z var_kind.Position ≡ true) (same_var-equal y.0 x y.2)
          (all_has (λ y. declares r.vars y var_kind.Position) y.0 ys y.1 a)

      at_token : (o : Option PatToken) → slice_get r.tokens n ≡ o → is_position_of o x ≡ true → declares r.vars x var_kind.Position ≡ true
      at_token None g m = not_both false m refl
      at_token (Some p) g m =
          among p.positions
          (and_left (list_all (λ y. declares r.vars y var_kind.Position) p.positions) (is_sound_block r.vars p.before && is_sound_block r.vars p.after)
          (get_token r.tokens n p g h.tokens)) m

  position_home : (r : Rule) → IsHome all r → (x : Var) → declares r.vars x var_kind.Position ≡ true
      → (k : VarKind) × (Home all x k × (is_position_kind k ≡ true))
  position_home r h x e =
      let d = any_found (λ (d : VarDecl). same_var d.var x && same_kind d.kind var_kind.Position) r.vars e in
      let same = same_var-equal d.0.var x (and_left (same_var d.0.var x) (same_kind d.0.kind var_kind.Position) d.2) in (
        d.0.kind,
        (
          subst (λ (z : Var). Home all z d.0.kind) same (All-contains (λ (d : VarDecl). Home all d.var d.kind) r.vars d.0 h.homes d.1),
          same_position d.0.kind var_kind.Position (and_right (same_var d.0.var x) (same_kind d.0.kind var_kind.Position) d.2),
        ),
      )

  meta_in_home : (r : Rule) → IsHome all r → (x : Var) → is_meta_in r.vars x ≡ true → (k : VarKind) × (Home all x k × (is_position_kind k ≡ false))
  meta_in_home r h x e =
      let d = any_found (λ (d : VarDecl). same_var d.var x && not (is_position_kind d.kind)) r.vars e in
      let same = same_var-equal d.0.var x (and_left (same_var d.0.var x) (not (is_position_kind d.0.kind)) d.2) in (
        d.0.kind,
        (
          subst (λ (z : Var). Home all z d.0.kind) same (All-contains (λ (d : VarDecl). Home all d.var d.kind) r.vars d.0 h.homes d.1),
          not_true (is_position_kind d.0.kind) (and_right (same_var d.0.var x) (not (is_position_kind d.0.kind)) d.2),
        ),
      )

  meta_home : (x : Var) → is_meta_of_some all x ≡ true → (k : VarKind) × (Home all x k × (is_position_kind k ≡ false))
  meta_home x e =
      let r = any_found (λ (r : Rule). is_meta_in r.vars x) all e in
      meta_in_home r.0 (All-contains (IsHome all) all r.0 home r.1) x r.2

  no_position : (r : Rule) → IsHome all r → (x : Var) → is_meta_of_some all x ≡ true → IsNoPosition r.tokens x
  no_position r h x m n = by (is_position_of (slice_get r.tokens n) x) refl
    where
      by : (b : Bool) → is_position_of (slice_get r.tokens n) x ≡ b → b ≡ false
      by true e =
          let p = position_home r h x (position_at r h x n e) in
          let q = meta_home x m in
          not_both (is_position_kind p.0) p.1.1 (one_position x p.0 q.0 p.1.0 q.1.0 ∙ q.1.1)
      by false e = refl

  open_meta : (x : Var) → is_meta_of_some all x ≡ true → All (λ (r : Rule). All (λ (d : VarDecl). is_hidden d.var ≡ false) r.vars) all → is_hidden x ≡ false
  open_meta x m names =
      let r = any_found (λ (r : Rule). is_meta_in r.vars x) all m in
      let d = any_found (λ (d : VarDecl). same_var d.var x && not (is_position_kind d.kind)) r.0.vars r.2 in
      let same = same_var-equal d.0.var x (and_left (same_var d.0.var x) (not (is_position_kind d.0.kind)) d.2) in
      ap is_hidden (sym same)
      ∙ All-contains (λ (d : VarDecl). is_hidden d.var ≡ false) r.0.vars d.0
      (All-contains (λ (r : Rule). All (λ (d : VarDecl). is_hidden d.var ≡ false) r.vars) all r.0 names r.1) d.1

-- the metavariables of a sound patch whose names are open are such in each rule
pub all_metas : (all : List Rule) → AreSoundRules [] all → All (λ (r : Rule). All (λ (d : VarDecl). is_hidden d.var ≡ false) r.vars) all
    → All (AreMetas (is_meta_of_some all)) all
all_metas all sound names =
    let home = rules_home [] all sound in
    All-weaker (IsHome all) (AreMetas (is_meta_of_some all))
    (λ r h. record { no_positions = λ x m. no_position all home r h x m; not_hidden = λ x m. open_meta all home x m names }) all home
