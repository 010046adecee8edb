-- What is known of a rule that is ready to run has one proof, so that a struct may keep it.
use Rattle.std.specs.Prelude.{◌≡◌, refl, true, false, Option, None, Some, IfSome, List, [], ◌∷◌, length}
use Rattle.std.specs.List.{AllZip, list_all}
use Rattle.std.specs.Coded.{Coded, Coded-set, code_by, coded_ℕ, coded_bool, ×_prop, Π_prop, Unit-prop}
use mathlib.Core.Path.{ap, ◌∙◌}
use mathlib.Core.HLevel.{×₃_prop, ⊥_prop}
use Rattle.smpl_terms.specs.declared.var.Var.{Var}
use Rattle.smpl_patch.specs.declared.pattern.Mark.TheVariants.{Context}
use Rattle.smpl_patch.specs.declared.pattern.VarDecl.{VarDecl}
use Rattle.smpl_patch.specs.declared.pattern.PatToken.{PatToken}
use Rattle.smpl_patch.specs.declared.pattern.PlusLine.{PlusLine}
use Rattle.smpl_patch.specs.declared.rule.Rule.{Rule}
use Rattle.smpl_patch.specs.Patterns.{sure}
use Rattle.edit_marks.specs.Blocks.{AreEven}
use Rattle.edit_marks.specs.Edits.{HaveEvenBlocks, block_of}
use Rattle.env_parts.specs.Parts.{is_among}
use Rattle.ctl_formula.specs.Plain.{Plain}
use Rattle.ctl_formula.specs.Plain as plain
use Rattle.ctl_formula.specs.Formulas.{FormulaOf, plain as plain_of}
use Rattle.ctl_formula.specs.Bounds.{bound}
use Rattle.ctl_formula.specs.declared.node.Node.{Node}
use Rattle.ctl_formula.specs.declared.node.Node.TheVariants as node
use Rattle.ctl_fixpoint.specs.CtlHolds.Parts.{each_pattern-prop}
use Rattle.ctl_fixpoint.specs.CtlHolds.BoundLaw.{SureStand, sure_stand-prop}
use Rattle.ctl_translate.specs.Rules.{formula_of, first_unbound}
use Rattle.ctl_translate.specs.Answers.{IsFormulaOf}
use Rattle.ctl_formula.specs.Plain.{fits}
use Rattle.rule_envs.specs.declared.rule_formulas.prepared.PreparedRule.{PreparedRule}
use Rattle.rule_envs.specs.Inherited.{inherited_of}
use Rattle.rule_envs.specs.RuleFormulas.Prepared.{IsPrepared, ArePrepared}
use Rattle.rule_chain.specs.RuleMatches.Matching.{AreApart}
use Rattle.rule_chain.specs.Required.{MayRun}

-- ---- formulas are stored as lists of nodes

-- the nodes of a formula, each after those of its parts, and then these
abbrev pub nodes_before : Plain → List Node → List Node
nodes_before plain.True rest = node.True ∷ rest
nodes_before (plain.Atom p) rest = node.Atom p ∷ rest
nodes_before plain.EarlyExit rest = node.EarlyExit ∷ rest
nodes_before (plain.BraceOpen p b) rest = node.BraceOpen p b ∷ rest
nodes_before (plain.BraceClose p b) rest = node.BraceClose p b ∷ rest
nodes_before (plain.Inside b) rest = node.Inside b ∷ rest
nodes_before (plain.Outside b) rest = node.Outside b ∷ rest
nodes_before (plain.Not f) rest = nodes_before f (node.Not 0 ∷ rest)
nodes_before (plain.And f g) rest = nodes_before f (nodes_before g (node.And 0 0 ∷ rest))
nodes_before (plain.Or f g) rest = nodes_before f (nodes_before g (node.Or 0 0 ∷ rest))
nodes_before (plain.AX f) rest = nodes_before f (node.AX 0 ∷ rest)
nodes_before (plain.EX f) rest = nodes_before f (node.EX 0 ∷ rest)
nodes_before (plain.AU f g) rest = nodes_before f (nodes_before g (node.AU 0 0 ∷ rest))
nodes_before (plain.EU f g) rest = nodes_before f (nodes_before g (node.EU 0 0 ∷ rest))
nodes_before (plain.After f) rest = nodes_before f (node.After 0 ∷ rest)
nodes_before (plain.InBranch b f) rest = nodes_before f (node.InBranch b 0 ∷ rest)
nodes_before (plain.Exists x f) rest = nodes_before f (node.Exists x 0 ∷ rest)

-- the last formula in place, with this one made of it
abbrev pub with_one : (Plain → Plain) → List Plain → List Plain
with_one make [] = []
with_one make (f ∷ fs) = make f ∷ fs

-- the same of the last two
abbrev pub with_two : (Plain → Plain → Plain) → List Plain → List Plain
with_two make [] = []
with_two make (g ∷ []) = []
with_two make (g ∷ f ∷ fs) = make f g ∷ fs

-- a node's formula in place of those of its parts, which are the last that were read
abbrev pub read_node : Node → List Plain → List Plain
read_node node.True fs = plain.True ∷ fs
read_node (node.Atom p) fs = plain.Atom p ∷ fs
read_node node.EarlyExit fs = plain.EarlyExit ∷ fs
read_node (node.BraceOpen p b) fs = plain.BraceOpen p b ∷ fs
read_node (node.BraceClose p b) fs = plain.BraceClose p b ∷ fs
read_node (node.Inside b) fs = plain.Inside b ∷ fs
read_node (node.Outside b) fs = plain.Outside b ∷ fs
read_node (node.Not i) fs = with_one (λ f. plain.Not f) fs
read_node (node.And i j) fs = with_two (λ f g. plain.And f g) fs
read_node (node.Or i j) fs = with_two (λ f g. plain.Or f g) fs
read_node (node.AX i) fs = with_one (λ f. plain.AX f) fs
read_node (node.EX i) fs = with_one (λ f. plain.EX f) fs
read_node (node.AU i j) fs = with_two (λ f g. plain.AU f g) fs
read_node (node.EU i j) fs = with_two (λ f g. plain.EU f g) fs
read_node (node.After i) fs = with_one (λ f. plain.After f) fs
read_node (node.InBranch b i) fs = with_one (λ f. plain.InBranch b f) fs
read_node (node.Exists x i) fs = with_one (λ f. plain.Exists x f) fs

abbrev pub read_nodes : List Node → List Plain → List Plain
read_nodes [] fs = fs
read_nodes (n ∷ ns) fs = read_nodes ns (read_node n fs)

pub read_before : (f : Plain) (rest : List Node) (fs : List Plain) → read_nodes (nodes_before f rest) fs ≡ read_nodes rest (f ∷ fs)
read_before plain.True rest fs = refl
read_before (plain.Atom p) rest fs = refl
read_before plain.EarlyExit rest fs = refl
read_before (plain.BraceOpen p b) rest fs = refl
read_before (plain.BraceClose p b) rest fs = refl
read_before (plain.Inside b) rest fs = refl
read_before (plain.Outside b) rest fs = refl
read_before (plain.Not f) rest fs = read_before f (node.Not 0 ∷ rest) fs
read_before (plain.And f g) rest fs = read_before f (nodes_before g (node.And 0 0 ∷ rest)) fs ∙ read_before g (node.And 0 0 ∷ rest) (f ∷ fs)
read_before (plain.Or f g) rest fs = read_before f (nodes_before g (node.Or 0 0 ∷ rest)) fs ∙ read_before g (node.Or 0 0 ∷ rest) (f ∷ fs)
read_before (plain.AX f) rest fs = read_before f (node.AX 0 ∷ rest) fs
read_before (plain.EX f) rest fs = read_before f (node.EX 0 ∷ rest) fs
read_before (plain.AU f g) rest fs = read_before f (nodes_before g (node.AU 0 0 ∷ rest)) fs ∙ read_before g (node.AU 0 0 ∷ rest) (f ∷ fs)
read_before (plain.EU f g) rest fs = read_before f (nodes_before g (node.EU 0 0 ∷ rest)) fs ∙ read_before g (node.EU 0 0 ∷ rest) (f ∷ fs)
read_before (plain.After f) rest fs = read_before f (node.After 0 ∷ rest) fs
read_before (plain.InBranch b f) rest fs = read_before f (node.InBranch b 0 ∷ rest) fs
read_before (plain.Exists x f) rest fs = read_before f (node.Exists x 0 ∷ rest) fs

abbrev pub first_formula : List Plain → Plain
first_formula [] = plain.True
first_formula (f ∷ fs) = f

-- a token with these positions
abbrev pub with_positions : List Var → List PatToken
with_positions xs = record { mark = Context; positions = xs; before = None; after = None } ∷ []

abbrev pub positions_of : List PatToken → List Var
positions_of [] = []
positions_of (t ∷ ts) = t.positions

abbrev pub one_or_none : Option Var → List Var
one_or_none None = []
one_or_none (Some x) = x ∷ []

abbrev pub first_var : List Var → Option Var
first_var [] = None
first_var (x ∷ xs) = Some x

pub first_of_one : (x : Option Var) → first_var (one_or_none x) ≡ x
first_of_one None = refl
first_of_one (Some x) = refl

-- each of these is stored in a table of a formula
module _ (c : Coded FormulaOf) where
  abbrev pub plain_code : Coded Plain
  plain_code = code_by FormulaOf c (λ f. record { nodes = nodes_before f []; root = 0; decls = []; tokens = [] })
      (λ t. first_formula (read_nodes t.nodes [])) (λ f. ap first_formula (read_before f [] []))

  abbrev pub decls_code : Coded (List VarDecl)
  decls_code = code_by FormulaOf c (λ ds. record { nodes = []; root = 0; decls = ds; tokens = [] }) (λ t. t.decls) (λ _. refl)

  abbrev pub tokens_code : Coded (List PatToken)
  tokens_code = code_by FormulaOf c (λ ts. record { nodes = []; root = 0; decls = []; tokens = ts }) (λ t. t.tokens) (λ _. refl)

  abbrev pub vars_code : Coded (List Var)
  vars_code = code_by (List PatToken) tokens_code (λ xs. with_positions xs) (λ ts. positions_of ts) (λ _. refl)

  abbrev pub var_code : Coded (Option Var)
  var_code = code_by (List Var) vars_code (λ x. one_or_none x) (λ xs. first_var xs) first_of_one

-- ---- lists side by side, and options

pub all_zip-prop : {A B : Type 0} (R : A → B → Type 0) → ((a : A) (b : B) → IsProp (R a b)) → (xs : List A) (ys : List B) → IsProp (AllZip R xs ys)
all_zip-prop R h [] [] = Unit-prop
all_zip-prop R h [] (y ∷ ys) = ⊥_prop
all_zip-prop R h (x ∷ xs) [] = ⊥_prop
all_zip-prop R h (x ∷ xs) (y ∷ ys) = ×_prop (h x y) (all_zip-prop R h xs ys)

pub if_some-prop : {A : Type 0} (P : A → Type 0) → ((a : A) → IsProp (P a)) → (o : Option A) → IsProp (IfSome o P)
if_some-prop P h None = Unit-prop
if_some-prop P h (Some a) = h a

-- ---- what is known of a prepared rule

pub is_formula_of-prop : Coded FormulaOf → (r : Rule) (f : FormulaOf) → IsProp (IsFormulaOf r f)
is_formula_of-prop c r f x y = λ i. record {
  formula = Coded-set (plain_code c) (plain_of f) (formula_of r) x.formula y.formula i;
  decls = Coded-set (decls_code c) f.decls r.vars x.decls y.decls i;
  tokens = Coded-set (tokens_code c) f.tokens r.tokens x.tokens y.tokens i;
  in_limits = Coded-set coded_bool (fits (formula_of r)) true x.in_limits y.in_limits i;
  bound = Coded-set (var_code c) (first_unbound r) None x.bound y.bound i;
}

pub is_prepared-prop : Coded FormulaOf → (r : Rule) (p : PreparedRule) → IsProp (IsPrepared r p)
is_prepared-prop c r p x y = λ i. record {
  formula = is_formula_of-prop c r p.formula x.formula y.formula i;
  inherited = Coded-set (vars_code c) p.inherited (inherited_of r) x.inherited y.inherited i;
}

pub are_prepared-prop : Coded FormulaOf → (rules : List Rule) (prepared : List PreparedRule) → IsProp (ArePrepared rules prepared)
are_prepared-prop c rules prepared = all_zip-prop IsPrepared (is_prepared-prop c) rules prepared

-- ---- what is required of a rule that is run

pub are_apart-prop : (xs inherited : List Var) → IsProp (AreApart xs inherited)
are_apart-prop [] inherited = Unit-prop
are_apart-prop (x ∷ xs) inherited =
    ×₃_prop (Coded-set coded_bool (is_among inherited x) false) (Coded-set coded_bool (is_among xs x) false) (are_apart-prop xs inherited)

pub are_even-prop : (lines : List PlusLine) → IsProp (AreEven lines)
are_even-prop [] = Unit-prop
are_even-prop (line ∷ lines) = ×_prop (Coded-set coded_ℕ (length line.gaps) (length line.tokens)) (are_even-prop lines)

pub have_even_blocks-prop : (tokens : List PatToken) → IsProp (HaveEvenBlocks tokens)
have_even_blocks-prop tokens = Π_prop (λ s. if_some-prop (λ block. AreEven block.lines) (λ block. are_even-prop block.lines) (block_of tokens s))

pub may_run-prop : (r : Rule) (p : PreparedRule) → IsProp (MayRun r p)
may_run-prop r p x y = λ i. record {
  stand = each_pattern-prop (SureStand p.formula.decls p.formula.tokens) (sure_stand-prop p.formula.decls p.formula.tokens) (plain_of p.formula)
      x.stand y.stand i;
  binds = Coded-set coded_bool (list_all (bound (sure p.formula.decls p.formula.tokens) (plain_of p.formula)) r.exports) true x.binds y.binds i;
  apart = are_apart-prop r.exports p.inherited x.apart y.apart i;
  even = have_even_blocks-prop r.tokens x.even y.even i;
}

pub all_may_run-prop : (rules : List Rule) (prepared : List PreparedRule) → IsProp (AllZip MayRun rules prepared)
all_may_run-prop rules prepared = all_zip-prop MayRun may_run-prop rules prepared
