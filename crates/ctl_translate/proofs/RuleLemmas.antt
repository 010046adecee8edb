-- A rule's formula is guarded if none of its variables may stay unbound.
use Rattle.std.proofs.Common.{◌≡◌, ℕ, Bool, true, false, not, ◌&&◌, ◌||◌, cond, if◌then◌else◌, refl, sym, ap, ◌∙◌, ◌⊎◌, inl, inr}
use Rattle.std.proofs.Common.{List, [], ◌∷◌, map, length, get_or, drop, ◌+◌, ◌<◌, Option, None, Some, arith}
use Rattle.std.specs.List.{filter, list_all}
use Rattle.std.proofs.lemmas.List.{drop_more, get_or-map, length-map}
use Rattle.std.proofs.lemmas.List.Folds.{list_any_at}
use Rattle.smpl_terms.specs.declared.var.Var.{Var}
use Rattle.smpl_terms.specs.Vars.{same_var}
use Rattle.smpl_terms.proofs.VarLaws.{same_var-equal, same_var-refl}
use Rattle.smpl_patch.specs.declared.pattern.VarDecl.{VarDecl}
use Rattle.smpl_patch.specs.declared.pattern.PatToken.{PatToken}
use Rattle.smpl_patch.specs.declared.elem.Elem.{Elem}
use Rattle.smpl_patch.specs.declared.rule.Rule.{Rule}
use Rattle.smpl_patch.specs.Patterns as patterns
use Rattle.smpl_patch.specs.Bodies.{Body, body}
use Rattle.ctl_formula.specs.Plain.{Plain, fits}
use Rattle.ctl_formula.specs.Formulas.{FormulaOf}
use Rattle.ctl_formula.specs.Bounds.{bound, guarded, guarded_for}
use Rattle.ctl_translate.specs.declared.ctl_bound.masks.Binds.{Binds}
use Rattle.ctl_translate.specs.declared.ctl_bound.groups.Bindings.{Bindings}
use Rattle.ctl_translate.specs.CtlBound.Binding.{binds_at}
use Rattle.ctl_translate.specs.CtlBound.Saying.{binds_in}
use Rattle.pattern_vars.specs.Reads.{has, is_declared}
use Rattle.ctl_formula.specs.declared.node.Node.{Node}
use Rattle.ctl_formula.specs.Tables.{at, plains}
use Rattle.ctl_formula.proofs.TableLemmas.{and-left, and-right}
use Rattle.pattern_vars.specs.VarPlaces.Placing.{Reading, is_alone}
use Rattle.ctl_table.specs.Blocks.{blocks}
use Rattle.ctl_table.specs.Table as table
use Rattle.ctl_table.specs.Table.{in_scope}
use Rattle.ctl_translate.specs.Rules as rules
use Rattle.ctl_translate.specs.Answers.{IsFormulaOf}
use Rattle.ctl_translate.proofs.GuardLemmas.{known, known-seq, all-filter}
use Rattle.ctl_translate.proofs.GuardedLemmas.{guarded-all}

or-cases : (a b : Bool) → (a || b) ≡ true → (a ≡ true) ⊎ (b ≡ true)
or-cases true b h = inl refl
or-cases false b h = inr h

or-right : (a b : Bool) → b ≡ true → (a || b) ≡ true
or-right true b h = refl
or-right false b h = h

both : (a b : Bool) → a ≡ true → b ≡ true → (a && b) ≡ true
both a b h k = ap (λ z. z && b) h ∙ k

all-more : (xs ys : List Var) (y : Var) → list_all (in_scope ys) xs ≡ true → list_all (in_scope (y ∷ ys)) xs ≡ true
all-more [] ys y h = refl
all-more (x ∷ xs) ys y h =
    both (in_scope (y ∷ ys) x) (list_all (in_scope (y ∷ ys)) xs)
    (or-right (same_var y x) (in_scope ys x) (and-left (in_scope ys x) (list_all (in_scope ys) xs) h))
    (all-more xs ys y (and-right (in_scope ys x) (list_all (in_scope ys) xs) h))

all-self : (xs : List Var) → list_all (in_scope xs) xs ≡ true
all-self [] = refl
all-self (x ∷ xs) =
    ap (λ z. (z || in_scope xs x) && list_all (in_scope (x ∷ xs)) xs) (same_var-refl x) ∙ all-more xs xs x (all-self xs)

-- either the declaration passes the test and declares the variable, or one of the others declares it
among : (b : Bool) (d : VarDecl) (ds : List VarDecl) (x : Var) → in_scope (map (λ e. e.var) (cond b (d ∷ ds) ds)) x ≡ true
    → ((b ≡ true) × (same_var d.var x ≡ true)) ⊎ (in_scope (map (λ e. e.var) ds) x ≡ true)
among true d ds x h = elim (or-cases (same_var d.var x) (in_scope (map (λ e. e.var) ds) x) h) [ inl e ↦ inl (refl, e) | inr e ↦ inr e ]
among false d ds x h = inr h

none-first : (u : Bool) (x : Var) (o : Option Var) → (if u then Some x else o) ≡ None → (u ≡ false) × (o ≡ None)
none-first true x o h = absurd cc
none-first false x o h = (refl, h)

by-tests : (inherited exported b g : Bool) → (not inherited && (if exported then not b else not g)) ≡ false → (not inherited && not exported) ≡ true → g ≡ true
by-tests true exported b g h k = absurd cc
by-tests false true b g h k = absurd cc
by-tests false false b true h k = refl
by-tests false false b false h k = absurd cc

guarded-from : (r : Rule) (ds : List VarDecl) (x : Var) → rules.first_unbound_from r ds ≡ None
    → in_scope (map (λ d. d.var) (filter (λ d. not d.inherited && not (rules.is_exported r d.var)) ds)) x ≡ true
    → guarded_for (patterns.sure r.vars r.tokens) x (rules.formula_of r) ≡ true
guarded-from r [] x h k = absurd cc
guarded-from r (d ∷ ds) x h k =
    let n = none-first (rules.is_unbound r d) d.var (rules.first_unbound_from r ds) h in
    elim (among (not d.inherited && not (rules.is_exported r d.var)) d (filter (λ e. not e.inherited && not (rules.is_exported r e.var)) ds) x k) [
      | inl e ↦ let s : d.var ≡ x = same_var-equal d.var x e.1 in
          let g : guarded_for (patterns.sure r.vars r.tokens) d.var (rules.formula_of r) ≡ true =
          by-tests d.inherited (rules.is_exported r d.var) (bound (patterns.sure r.vars r.tokens) (rules.formula_of r) d.var)
          (guarded_for (patterns.sure r.vars r.tokens) d.var (rules.formula_of r)) n.0 e.0 in
          ap (λ (z : Var). guarded_for (patterns.sure r.vars r.tokens) z (rules.formula_of r)) (sym s) ∙ g
      | inr e ↦ guarded-from r ds x n.1 e
    ]

known-formula : (r : Rule) → known (patterns.sure r.vars r.tokens) (rules.locals r) (rules.formula_of r) ≡ true
known-formula r =
    let xs = rules.locals r in
    let b = body r.body in
    let m : table.Setting = table.setting (rules.reading r) (rules.ranges_over_all r.mode) xs b in
    known-seq (patterns.sure r.vars r.tokens) xs m
    (all-self xs) (all-filter (in_scope xs) (is_alone (rules.reading r) b) xs (all-self xs)) (λ o. same_var-refl (table.hidden m o))
    None b table.nothing (filter (λ x. not (is_alone (rules.reading r) b x)) xs) [] []
    (all-filter (in_scope xs) (λ x. not (is_alone (rules.reading r) b x)) xs (all-self xs)) (λ u. refl)

pub formula-guarded : (r : Rule) → rules.first_unbound r ≡ None → guarded (patterns.sure r.vars r.tokens) (rules.formula_of r) ≡ true
formula-guarded r h =
    guarded-all (patterns.sure r.vars r.tokens) (rules.locals r) same_var-refl (rules.formula_of r) (known-formula r) (λ x k. guarded-from r r.vars x h k)

-- what the code reads patterns with
abbrev pub read : List VarDecl → List PatToken → Reading
read decls tokens = record { stands = patterns.stands decls tokens; used = patterns.used decls tokens; is_statement = patterns.is_statement }

-- the formula of a rule's parts
abbrev pub whole : List VarDecl → List PatToken → Bool → List Var → List Var → List ℕ → List Elem → List Var → List Var → Plain
whole decls tokens forall_walks locals alone bs es w s =
    let m : table.Setting =
    record { reading = read decls tokens; forall_walks = forall_walks; locals = locals; alone = alone; blocks = bs; around = None } in
    table.seq m None (body es) table.nothing w s s

pub rule-formula : (r : Rule) (decls : List VarDecl) (tokens : List PatToken) (forall_walks : Bool) (locals alone : List Var)
    (bs : List ℕ) (es : List Elem) (w s : List Var)
    → decls ≡ r.vars → tokens ≡ r.tokens → forall_walks ≡ rules.ranges_over_all r.mode → locals ≡ rules.locals r
    → alone ≡ filter (is_alone (rules.reading r) (body r.body)) (rules.locals r) → bs ≡ blocks (body r.body) → es ≡ r.body
    → w ≡ filter (λ x. not (is_alone (rules.reading r) (body r.body) x)) (rules.locals r)
    → s ≡ [] → whole decls tokens forall_walks locals alone bs es w s ≡ rules.formula_of r
rule-formula r decls tokens forall_walks locals alone bs es w s d t f l a b e v n =
    ap (λ (z : List VarDecl). whole z tokens forall_walks locals alone bs es w s) d
    ∙ ap (λ (z : List PatToken). whole r.vars z forall_walks locals alone bs es w s) t
    ∙ ap (λ (z : Bool). whole r.vars r.tokens z locals alone bs es w s) f
    ∙ ap (λ (z : List Var). whole r.vars r.tokens (rules.ranges_over_all r.mode) z alone bs es w s) l
    ∙ ap (λ (z : List Var). whole r.vars r.tokens (rules.ranges_over_all r.mode) (rules.locals r) z bs es w s) a
    ∙ ap (λ (z : List ℕ). whole r.vars r.tokens (rules.ranges_over_all r.mode) (rules.locals r)
    (filter (is_alone (rules.reading r) (body r.body)) (rules.locals r)) z es w s) b
    ∙ ap (λ (z : List Elem). whole r.vars r.tokens (rules.ranges_over_all r.mode) (rules.locals r)
    (filter (is_alone (rules.reading r) (body r.body)) (rules.locals r)) (blocks (body r.body)) z w s) e
    ∙ ap (λ (z : List Var). whole r.vars r.tokens (rules.ranges_over_all r.mode) (rules.locals r)
    (filter (is_alone (rules.reading r) (body r.body)) (rules.locals r)) (blocks (body r.body)) r.body z s) v
    ∙ ap (λ (z : List Var). whole r.vars r.tokens (rules.ranges_over_all r.mode) (rules.locals r)
    (filter (is_alone (rules.reading r) (body r.body)) (rules.locals r)) (blocks (body r.body)) r.body
    (filter (λ x. not (is_alone (rules.reading r) (body r.body) x)) (rules.locals r)) z) n

-- the formula is guarded, in the terms of the code
pub root-guarded : (r : Rule) (decls : List VarDecl) (tokens : List PatToken) (f : Plain) → decls ≡ r.vars → tokens ≡ r.tokens → f ≡ rules.formula_of r
    → rules.first_unbound r ≡ None → guarded (patterns.sure decls tokens) f ≡ true
root-guarded r decls tokens f d t e h =
    ap (λ (z : List VarDecl). guarded (patterns.sure z tokens) f) d
    ∙ ap (λ (z : List PatToken). guarded (patterns.sure r.vars z) f) t
    ∙ ap (guarded (patterns.sure r.vars r.tokens)) e ∙ formula-guarded r h

pub is-formula : (r : Rule) (f : FormulaOf) (ns : List Node) (i : ℕ) (decls : List VarDecl) (tokens : List PatToken)
    → f.nodes ≡ ns → f.root ≡ i → f.decls ≡ decls → f.tokens ≡ tokens
    → decls ≡ r.vars → tokens ≡ r.tokens → at (plains ns) i ≡ rules.formula_of r → fits (rules.formula_of r) ≡ true → rules.first_unbound r ≡ None
    → IsFormulaOf r f
is-formula r f ns i decls tokens n p d t e v q l b = record {
  formula = ap (λ (z : List Node). at (plains z) f.root) n ∙ ap (at (plains ns)) p ∙ q;
  decls = d ∙ e;
  tokens = t ∙ v;
  in_limits = l;
  bound = b;
}

abbrev pub kept_by : (Reading → Body → Var → Bool) → List VarDecl → List PatToken → List Elem → List Var → List Var
kept_by test decls tokens es xs = filter (test (read decls tokens) (body es)) xs

pub kept-is : (test : Reading → Body → Var → Bool) (r : Rule) (decls : List VarDecl) (tokens : List PatToken) (es : List Elem) (xs : List Var)
    → decls ≡ r.vars → tokens ≡ r.tokens → es ≡ r.body → xs ≡ rules.locals r
    → kept_by test decls tokens es xs ≡ filter (test (rules.reading r) (body r.body)) (rules.locals r)
kept-is test r decls tokens es xs d t e l =
    ap (λ (z : List VarDecl). kept_by test z tokens es xs) d
    ∙ ap (λ (z : List PatToken). kept_by test r.vars z es xs) t
    ∙ ap (λ (z : List Elem). kept_by test r.vars r.tokens z xs) e
    ∙ ap (λ (z : List Var). kept_by test r.vars r.tokens r.body z) l

-- what a rule's formula says about each of its variables, in the terms of the code
abbrev pub AllWhenFlags : Rule → Bindings → Type 0
AllWhenFlags r found = (x : Var) → is_declared r.vars x ≡ true
    → binds_in found x ≡ Some (binds_at (patterns.sure r.vars r.tokens) x (rules.formula_of r))

declared-at : (ds : List VarDecl) (i : ℕ) (d : VarDecl) → i < length ds → d ≡ get_or ds i d → is_declared ds d.var ≡ true
declared-at ds i d h e =
    let within : i < length (map (λ c. c.var) ds) = omega (arith, h, length-map ds (λ c. c.var)) in
    list_any_at (λ (y : Var). same_var y d.var) (map (λ c. c.var) ds) i d.var within
    (ap (λ (y : Var). same_var y d.var) (get_or-map (λ c. c.var) ds i d d.var h ∙ ap (λ c. c.var) (sym e)) ∙ same_var-refl d.var)

-- what the code asks about the declaration with this number
module _ (r : Rule) (exports : List Var) (found : Bindings) (ds : List VarDecl) (i : ℕ) (d : VarDecl) (u : Bool) (w : Option Var)
    (e : (x : Var) → has exports x ≡ rules.is_exported r x) (s : AllWhenFlags r found) (v : ds ≡ r.vars)
    (h : i < length ds) (g : d ≡ get_or ds i d)
    (a : (b : Binds) → binds_in found d.var ≡ Some b
    → u ≡ (not d.inherited && (if has exports d.var then not b.holding else not b.guarded)))
    (k : rules.first_unbound_from r (drop i ds) ≡ w) where
  unbound-is : u ≡ rules.is_unbound r d
  unbound-is =
      let f = rules.formula_of r in let sure = patterns.sure r.vars r.tokens in
      let declared = ap (λ (z : List VarDecl). is_declared z d.var) (sym v) ∙ declared-at ds i d h g in
      a (binds_at sure d.var f) (s d.var declared)
      ∙ ap (λ (z : Bool). not d.inherited && (if z then not (bound sure f d.var) else not (guarded_for sure d.var f))) (e d.var)

  here : rules.first_unbound_from r (drop i ds) ≡ (if u then Some d.var else rules.first_unbound_from r (drop (i + 1) ds))
  here =
      ap (rules.first_unbound_from r) (drop_more ds i d h ∙ ap (λ (z : VarDecl). z ∷ drop (i + 1) ds) (sym g))
      ∙ ap (λ (z : Bool). if z then Some d.var else rules.first_unbound_from r (drop (i + 1) ds)) (sym unbound-is)

  -- the variable is bound, and the next one is checked
  pub passed : u ≡ false → rules.first_unbound_from r (drop (i + 1) ds) ≡ w
  passed q = ap (λ (z : Bool). if z then Some d.var else rules.first_unbound_from r (drop (i + 1) ds)) (sym q) ∙ sym here ∙ k

  -- the variable may stay unbound
  pub found-first : u ≡ true → Some d.var ≡ w
  found-first q = ap (λ (z : Bool). if z then Some d.var else rules.first_unbound_from r (drop (i + 1) ds)) (sym q) ∙ sym here ∙ k
