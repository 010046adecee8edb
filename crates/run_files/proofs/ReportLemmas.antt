-- Ids of tokens are not shown: the report and the summary are the same for witnesses without their ids.
use Rattle.std.proofs.Common.{◌≡◌, ℕ, ◌+◌, true, false, cond, eqb, refl, sym, ap, ◌∙◌, List, [], ◌∷◌, ◌++◌, length, map, codes}
use Rattle.std.specs.Prelude.{Option, Some, None, option_map}
use Rattle.std.specs.Fmt.{decimal}
use Rattle.std.specs.List.{filter, flat_map}
use Rattle.std.proofs.lemmas.List.{length-map}
use Rattle.std.proofs.Math.Path.{fun_ext}
use Rattle.c_terms.specs.Bare.{bare}
use Rattle.c_terms.specs.declared.tree.Tree.{Tree}
use Rattle.c_terms.proofs.BareLaws.{bare-Leaf, bare-Branch}
use Rattle.c_terms.proofs.Induct as terms
use Rattle.outer_io.specs.EscapedNames.Escapes.{escaped_name}
use Rattle.c_show.specs.declared.page.Role.TheVariants.{Plain}
use Rattle.c_show.specs.Show.{shown, shown_kids, joined}
use Rattle.c_show.proofs.Pages.{shown-Leaf, shown-Branch}
use Rattle.smpl_terms.specs.declared.var.Var.{Var}
use Rattle.smpl_terms.specs.declared.value.Value.{Value}
use Rattle.smpl_terms.specs.declared.value.Value.TheVariants.{Term, Place}
use Rattle.smpl_terms.specs.Environments.{value_in}
use Rattle.smpl_patch.specs.declared.pattern.VarDecl.{VarDecl}
use Rattle.smpl_patch.specs.declared.rule.Rule.{Rule}
use Rattle.smpl_patch.specs.declared.rule.Patch.{Patch}
use Rattle.smpl_patch.specs.declared.witness.Witness.{Witness}
use Rattle.smpl_patch.specs.declared.witness.Witness.TheVariants.{Touch, Bind, rolls-Touch, rolls-Bind}
use Rattle.smpl_patch.specs.declared.witness.Witness.TheFolds.{fold-roll-Witness}
use Rattle.smpl_patch.specs.declared.witness.RuleWitness.{RuleWitness}
use Rattle.wit_forest.proofs.WitOrder.Induct.{Each, witness_induction}
use Rattle.env_parts.specs.Parts.{Pairs, bare_value, bare_env}
use Rattle.env_parts.proofs.PartLemmas.{value_in-bare}
use Rattle.rule_chain.specs.RuleWitnesses.Bare.{bare_tree, bare_step, bare_witness}
use Rattle.wit_print.specs.Report.{line, value_text, tree_lines, is_reported, reported_name, let_text, let_lines, witness_lines}
use Rattle.wit_print.specs.Report.{shown_name, rule_lines, rules_lines, report_of}
use Rattle.wit_print.proofs.Lines.{bind_lines}
use Rattle.run_files.specs.RunLines.Summary as sums

-- ---- terms

abbrev Unseen : Tree → Type 0
Unseen t = shown (bare t) ≡ shown t

kids_unseen : (cs : List Tree) → terms.Each Unseen cs → map shown (map bare cs) ≡ map shown cs
kids_unseen [] e = refl
kids_unseen (c ∷ cs) e = let rest = kids_unseen cs e.1 in λ i. e.0 i ∷ rest i

tree_unseen : (t : Tree) → Unseen t
tree_unseen = terms.tree_induction Unseen
    (λ t. fun_ext (λ role. ap (λ u. shown u role) (bare-Leaf t) ∙ shown-Leaf (record t { id = 0 }) role ∙ sym (shown-Leaf t role)))
    (λ l cs e. fun_ext (λ role. ap (λ u. shown u role) (bare-Branch l cs) ∙ shown-Branch l (map bare cs) role
    ∙ ap (shown_kids l 0) (kids_unseen cs e) ∙ sym (shown-Branch l cs role)))

value_unseen : (v : Value) → value_text (bare_value v) ≡ value_text v
value_unseen (Term t) = ap (λ f. joined None (f Plain)) (tree_unseen t)
value_unseen (Place p) = refl

-- ---- forests

bare-Touch : (n a : ℕ) (p : List ℕ) → bare_tree (Touch n a p) ≡ Touch n a p
bare-Touch n a p = ap bare_tree (sym (rolls-Touch n a p)) ∙ fold-roll-Witness Witness bare_step _

bare-Bind : (n : ℕ) (x : Var) (v : Value) (ws : List Witness) → bare_tree (Bind n x v ws) ≡ Bind n x (bare_value v) (map bare_tree ws)
bare-Bind n x v ws = ap bare_tree (sym (rolls-Bind n x v ws)) ∙ fold-roll-Witness Witness bare_step _

abbrev Alike : Witness → Type 0
Alike w = (blanks : List ℕ) → tree_lines (bare_tree w) blanks ≡ tree_lines w blanks

forest_alike : (ws : List Witness) → Each Alike ws → (blanks : List ℕ)
    → flat_map (λ t. tree_lines t blanks) (map bare_tree ws) ≡ flat_map (λ t. tree_lines t blanks) ws
forest_alike [] e blanks = refl
forest_alike (w ∷ ws) e blanks = let first = e.0 blanks in let rest = forest_alike ws e.1 blanks in λ i. first i ++ rest i

-- the line of a bind whose value has this text
abbrev bind_as : ℕ → Var → List ℕ → List ℕ
bind_as node x text = line (codes "bind " ++ decimal node ++ codes " " ++ x.name ++ codes " = " ++ text)

tree_alike : (w : Witness) → Alike w
tree_alike = witness_induction Alike
    (λ n a p blanks. ap (λ t. tree_lines t blanks) (bare-Touch n a p))
    (λ n x v ws e blanks.
    let text = value_unseen v in
    let under = forest_alike ws e (blanks ++ 32 ∷ []) in
    ap (λ t. tree_lines t blanks) (bare-Bind n x v ws) ∙ bind_lines n x (bare_value v) (map bare_tree ws) blanks
    ∙ (λ i. blanks ++ bind_as n x (text i) ++ under i) ∙ sym (bind_lines n x v ws blanks))

each_alike : (ws : List Witness) → Each Alike ws
each_alike [] = tt
each_alike (w ∷ ws) = (tree_alike w, each_alike ws)

-- ---- variables

let_alike : (rules : List Rule) (d : VarDecl) (o : Option Value) → let_text rules d (option_map bare_value o) ≡ let_text rules d o
let_alike rules d None = refl
let_alike rules d (Some v) = ap (λ text. line (codes " let " ++ reported_name rules d ++ codes " = " ++ text)) (value_unseen v)

lets_alike : (rules : List Rule) (vars : List VarDecl) (env : Pairs) → let_lines rules vars (bare_env env) ≡ let_lines rules vars env
lets_alike rules [] env = refl
lets_alike rules (d ∷ vars) env =
    let first = ap (let_text rules d) (value_in-bare env d.var) ∙ let_alike rules d (value_in env d.var) in
    let rest = lets_alike rules vars env in
    λ i. first i ++ rest i

-- ---- witnesses

witness_alike : (rules : List Rule) (vars : List VarDecl) (w : RuleWitness) → witness_lines rules vars (bare_witness w) ≡ witness_lines rules vars w
witness_alike rules vars w =
    let lets = lets_alike rules vars w.env in
    let forest = forest_alike w.forest (each_alike w.forest) (32 ∷ []) in
    λ i. line (codes "at " ++ decimal w.item ++ codes " " ++ decimal w.node) ++ lets i ++ forest i

witnesses_alike : (rules : List Rule) (vars : List VarDecl) (ws : List RuleWitness)
    → flat_map (witness_lines rules vars) (map bare_witness ws) ≡ flat_map (witness_lines rules vars) ws
witnesses_alike rules vars [] = refl
witnesses_alike rules vars (w ∷ ws) =
    let first = witness_alike rules vars w in let rest = witnesses_alike rules vars ws in λ i. first i ++ rest i

-- the witnesses of one rule are still the same
own_bare : (n : ℕ) (ws : List RuleWitness) → filter (λ w. eqb w.rule n) (map bare_witness ws) ≡ map bare_witness (filter (λ w. eqb w.rule n) ws)
own_bare n [] = refl
own_bare n (w ∷ ws) =
    let test = λ (u : RuleWitness). eqb u.rule n in
    let rest = own_bare n ws in
    elim (eqb w.rule n) as (λ b. cond b (bare_witness w ∷ filter test (map bare_witness ws)) (filter test (map bare_witness ws))
    ≡ map bare_witness (cond b (w ∷ filter test ws) (filter test ws))) [
      | true ↦ ap (λ (us : List RuleWitness). bare_witness w ∷ us) rest
      | false ↦ rest
    ]

-- ---- the report, and the summary

rules_alike : (all : List Rule) (ws : List RuleWitness) (n : ℕ) (rules : List Rule) → rules_lines all (map bare_witness ws) n rules ≡ rules_lines all ws n rules
rules_alike all ws n [] = refl
rules_alike all ws n (r ∷ rs) =
    let first = ap (rule_lines all n r) (own_bare n ws) ∙ ap (λ lines. line (codes "rule " ++ decimal n ++ codes " " ++ shown_name r.name) ++ lines)
    (witnesses_alike all (filter (is_reported r.exports) r.vars) (filter (λ w. eqb w.rule n) ws)) in
    let rest = rules_alike all ws (n + 1) rs in
    λ i. first i ++ rest i

pub report-bare : (patch : Patch) (name : List ℕ) (ws : List RuleWitness) → report_of patch name (map bare_witness ws) ≡ report_of patch name ws
report-bare patch name ws = ap (λ lines. line (codes "file " ++ escaped_name name) ++ lines) (rules_alike patch.rules ws 0 patch.rules)

count-bare : (n : ℕ) (ws : List RuleWitness) → sums.count_of n (map bare_witness ws) ≡ sums.count_of n ws
count-bare n ws = ap length (own_bare n ws) ∙ length-map (filter (λ w. eqb w.rule n) ws) bare_witness

sum_lines-bare : (ws : List RuleWitness) (n : ℕ) (rules : List Rule) → sums.rule_lines n rules (map bare_witness ws) ≡ sums.rule_lines n rules ws
sum_lines-bare ws n [] = refl
sum_lines-bare ws n (r ∷ rs) =
    let first = ap (λ k. codes "rule " ++ decimal n ++ codes " " ++ shown_name r.name ++ codes " witnesses " ++ decimal k ++ codes "\n") (count-bare n ws) in
    let rest = sum_lines-bare ws (n + 1) rs in
    λ i. first i ++ rest i

pub summary-bare : (rules : List Rule) (ws : List RuleWitness) (bytes : ℕ) → sums.summary rules (map bare_witness ws) bytes ≡ sums.summary rules ws bytes
summary-bare rules ws bytes = ap (λ lines. lines ++ codes "bytes " ++ decimal bytes ++ codes "\n") (sum_lines-bare ws 0 rules)
