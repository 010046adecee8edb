-- The faults of what a patch means are those of rules of its text.
use Rattle.std.proofs.Common.{◌≡◌, ◌∙◌, ◌<◌, ◌≤◌, ◌+◌, ℕ, suc, Bool, true, false, cond, List, [], ◌∷◌, ◌++◌, Option, Some, None, refl, subst, sym, ap, arith}
use Rattle.std.specs.Prelude.{◌&&◌, not, length}
use Rattle.std.proofs.lemmas.List.{length-append}
use Rattle.smpl_terms.specs.declared.var.Var.{Var as Variable}
use Rattle.smpl_patch.specs.declared.pattern.VarDecl.{VarDecl}
use Rattle.smpl_patch.specs.declared.pattern.VarKind.{VarKind}
use Rattle.smpl_patch.specs.declared.rule.Rule.{Rule}
use Rattle.smpl_patch.specs.declared.fault.PatchFault.{PatchFault}
use Rattle.smpl_patch.specs.declared.fault.PatchFault.TheVariants.{MayStayUnbound, UnboundInPlus, TooLarge}
use Rattle.smpl_lexer.specs.declared.token.PatchToken.{PatchToken}
use Rattle.smpl_lexer.specs.declared.text.RuleText.{RuleText}
use Rattle.smpl_lexer.specs.declared.text.PatchText.{PatchText}
use Rattle.smpl_meta.specs.declared.head.RuleHead.{RuleHead}
use Rattle.smpl_meta.specs.declared.item.Item.{Item}
use Rattle.smpl_meta.specs.declared.item.DeclKind.{DeclKind}
use Rattle.smpl_meta.specs.declared.item.DeclKind.TheVariants as declares
use Rattle.smpl_meta.specs.Known.{var_of}
use Rattle.smpl_meta.specs.Decls.{items_of, inherited_from, var_by, vars_in, vars_of_items, vars_of}
use Rattle.smpl_meta.specs.Heads.{AreHeads}
use Rattle.ctl_formula.specs.Plain.{fits}
use Rattle.ctl_translate.specs.Rules.{formula_of, is_unbound}
use Rattle.smpl_file.specs.SmplCheck.Checks.{is_unbound_in_plus, or_later, fault_of_var, fault_of_vars, fault_of_rule, fault_from}
use Rattle.smpl_file.specs.Patches.{AreRules}
use Rattle.place_laws.proofs.Below.{Below}

-- ---- a rule's own variables have its number

abbrev OwnIs : ℕ → VarDecl → Type 0
OwnIs rule d = d.inherited ≡ false → d.var.rule ≡ rule

abbrev AllOwn : ℕ → List VarDecl → Type 0
AllOwn rule [] = Unit {0}
AllOwn rule (d ∷ ds) = OwnIs rule d × AllOwn rule ds

own_both : (rule : ℕ) (ds es : List VarDecl) → AllOwn rule ds → AllOwn rule es → AllOwn rule (ds ++ es)
own_both rule [] es one other = other
own_both rule (d ∷ ds) es one other = (one.0, own_both rule ds es one.1 other)

inherited_own : (rule : ℕ) (kind : VarKind) (o : Option VarDecl) → AllOwn rule (inherited_from kind o)
inherited_own rule kind None = tt
inherited_own rule kind (Some d) = ((λ e. absurd cc), tt)

by_own : (earlier : List RuleHead) (rule : ℕ) (kind : VarKind) (o : Option PatchToken) (i : Item) → AllOwn rule (var_by earlier rule kind o i)
by_own earlier rule kind None i = ((λ e. refl), tt)
by_own earlier rule kind (Some r) i = inherited_own rule kind (var_of earlier r.token.text i.named.name.token.text)

in_own : (earlier : List RuleHead) (rule : ℕ) (kind : DeclKind) (i : Item) → AllOwn rule (vars_in earlier rule kind i)
in_own earlier rule declares.Symbol i = tt
in_own earlier rule (declares.Var kind) i = by_own earlier rule kind i.named.from i

items_own : (earlier : List RuleHead) (rule : ℕ) (is : List Item) → AllOwn rule (vars_of_items earlier rule is)
items_own earlier rule [] = tt
items_own earlier rule (i ∷ is) =
    own_both rule (vars_in earlier rule i.kind i) (vars_of_items earlier rule is) (in_own earlier rule i.kind i) (items_own earlier rule is)

vars_own : (earlier : List RuleHead) (rule : ℕ) (answers : List (Option (List Item))) → AllOwn rule (vars_of earlier rule answers)
vars_own earlier rule answers = items_own earlier rule (items_of answers)

-- ---- faults of variables

isnt : (a b : Bool) → (not a && b) ≡ true → a ≡ false
isnt false b e = refl
isnt true b e = absurd cc

module _ (limit rule : ℕ) (within : rule < limit) where
  own_below : (d : VarDecl) (b : Bool) → OwnIs rule d → (not d.inherited && b) ≡ true → d.var.rule < limit
  own_below d b is e = let same : d.var.rule ≡ rule = is (isnt d.inherited b e) in omega (arith, same, within)

  var_by_tests : (d : VarDecl) (plus may : Bool) (f : PatchFault) → (plus ≡ true → d.var.rule < limit) → (may ≡ true → d.var.rule < limit)
      → cond plus (Some (UnboundInPlus d.var)) (cond may (Some (MayStayUnbound d.var)) None) ≡ Some f → Below limit f
  var_by_tests d true may f one other e = let same : UnboundInPlus d.var ≡ f = cc in subst (Below limit) same (one refl)
  var_by_tests d false true f one other e = let same : MayStayUnbound d.var ≡ f = cc in subst (Below limit) same (other refl)
  var_by_tests d false false f one other e = absurd cc

  var_below : (r : Rule) (d : VarDecl) (f : PatchFault) → OwnIs rule d → fault_of_var r d ≡ Some f → Below limit f
  var_below r d f is e =
      var_by_tests d (is_unbound_in_plus r d) (is_unbound r d) f (λ h. own_below d _ is h) (λ h. own_below d _ is h) e

  either : (one other : Option PatchFault) (f : PatchFault) → (one ≡ Some f → Below limit f) → (other ≡ Some f → Below limit f)
      → or_later one other ≡ Some f → Below limit f
  either None other f first second e = second e
  either (Some g) other f first second e = first e

  vars_below : (r : Rule) (ds : List VarDecl) (f : PatchFault) → AllOwn rule ds → fault_of_vars r ds ≡ Some f → Below limit f
  vars_below r [] f all e = absurd cc
  vars_below r (d ∷ ds) f all e =
      either (fault_of_var r d) (fault_of_vars r ds) f (λ h. var_below r d f all.0 h) (λ h. vars_below r ds f all.1 h) e

  rule_by : (fit : Bool) (o : Option PatchFault) (f : PatchFault) → (o ≡ Some f → Below limit f) → cond fit o (Some (TooLarge rule)) ≡ Some f → Below limit f
  rule_by true o f vars e = vars e
  rule_by false o f vars e = let same : TooLarge rule ≡ f = cc in subst (Below limit) same within

  pub of_rule_below : (r : Rule) (f : PatchFault) → AllOwn rule r.vars → fault_of_rule rule r ≡ Some f → Below limit f
  of_rule_below r f all e = rule_by (fits (formula_of r)) (fault_of_vars r r.vars) f (λ h. vars_below r r.vars f all h) e

-- ---- rule by rule

module _ (text : PatchText) (known : List Variable) (limit : ℕ) where
  pub rules_below : (earlier : List RuleHead) (rs : List RuleText) (hs : List RuleHead) (rules : List Rule) (n : ℕ) (f : PatchFault)
      → n ≡ length earlier → n + length rs ≤ limit → AreHeads text earlier rs hs → AreRules known n rs hs rules → fault_from n rules ≡ Some f
      → Below limit f
  rules_below earlier [] [] [] n f count within heads are e = absurd cc
  rules_below earlier [] [] (rule ∷ rules) n f count within heads are e = absurd are
  rules_below earlier [] (h ∷ hs) rules n f count within heads are e = absurd heads
  rules_below earlier (r ∷ rs) [] rules n f count within heads are e = absurd heads
  rules_below earlier (r ∷ rs) (h ∷ hs) [] n f count within heads are e = absurd are
  rules_below earlier (r ∷ rs) (h ∷ hs) (rule ∷ rules) n f count within heads are e =
      let lt : n < limit = omega (arith, within) in
      let answers = heads.0.answers in
      let vars : rule.vars ≡ vars_of earlier (length earlier) answers = are.0.vars ∙ heads.0.vars in
      let numbered : vars_of earlier (length earlier) answers ≡ vars_of earlier n answers = ap (λ k. vars_of earlier k answers) (sym count) in
      let all : AllOwn n rule.vars = subst (AllOwn n) (sym (vars ∙ numbered)) (vars_own earlier n answers) in
      let more : length (earlier ++ h ∷ []) ≡ length earlier + 1 = length-append earlier (h ∷ []) in
      either limit n lt (fault_of_rule n rule) (fault_from (suc n) rules) f (λ first. of_rule_below limit n lt rule f all first)
      (λ later. rules_below (earlier ++ h ∷ []) rs hs rules (suc n) f (omega (arith, count, more)) (omega (arith, within)) heads.1 are.1 later) e
