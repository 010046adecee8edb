-- Trees of witnesses, and names of rules.
use Rattle.std.proofs.Common.{◌≡◌, ℕ, zero, suc, ◌+◌, ◌<◌, ◌≤◌, refl, sym, ap, ◌∙◌, List, [], ◌∷◌, ◌++◌, map, append_assoc, arith, length, get_or, drop}
use Rattle.std.proofs.lemmas.List.{append-nil, drop_all}
use Rattle.std.specs.List.{flat_map}
use Rattle.std.proofs.lemmas.List.Folds.{flat_map-map}
use Rattle.smpl_terms.specs.declared.var.Var.{Var}
use Rattle.smpl_terms.specs.declared.value.Value.{Value}
use Rattle.smpl_patch.specs.declared.rule.Rule.{Rule}
use Rattle.smpl_patch.specs.declared.witness.Witness.{Witness}
use Rattle.smpl_patch.specs.declared.witness.Witness.TheVariants.{Bind, Touch, rolls-Bind, rolls-Touch}
use Rattle.smpl_patch.specs.declared.witness.Witness.TheFolds.{fold-roll-Witness}
use Rattle.wit_print.specs.Report.{touch_line, bind_line, tree_lines, tree_step, rule_name}

pub touch_lines : (node atom : ℕ) (path blanks : List ℕ) → tree_lines (Touch node atom path) blanks ≡ blanks ++ touch_line node atom path
touch_lines node atom path blanks =
    ap (λ t. tree_lines t blanks) (sym (rolls-Touch node atom path)) ∙ ap (λ f. f blanks) (fold-roll-Witness (List ℕ → List ℕ) tree_step _)

pub bind_lines : (node : ℕ) (x : Var) (v : Value) (under : List Witness) (blanks : List ℕ) → tree_lines (Bind node x v under) blanks
    ≡ blanks ++ bind_line node x v ++ flat_map (λ t. tree_lines t (blanks ++ 32 ∷ [])) under
bind_lines node x v under blanks =
    ap (λ t. tree_lines t blanks) (sym (rolls-Bind node x v under)) ∙ ap (λ f. f blanks) (fold-roll-Witness (List ℕ → List ℕ) tree_step _)
    ∙ ap (λ more. blanks ++ bind_line node x v ++ more) (flat_map-map (λ f. f (blanks ++ 32 ∷ [])) tree_lines under)

-- a tree whose first line and whose subtrees are written
pub bind_whole : (start indented begun end : List ℕ) (node : ℕ) (x : Var) (v : Value) (under items : List Witness) (blanks inner : List ℕ) (n : ℕ) (t : Witness)
    → t ≡ Bind node x v under → indented ≡ start ++ blanks → begun ≡ indented ++ bind_line node x v
    → items ≡ under → inner ≡ blanks ++ 32 ∷ [] → length items ≤ n
    → end ++ flat_map (λ u. tree_lines u inner) (drop n items) ≡ begun ++ flat_map (λ u. tree_lines u inner) items
    → end ≡ start ++ tree_lines t blanks
bind_whole start indented begun end node x v under items blanks inner n t is first begin same deep done rest =
    let f = λ (u : Witness). tree_lines u inner in
    let below = flat_map (λ u. tree_lines u (blanks ++ 32 ∷ [])) under in
    let none : flat_map f (drop n items) ≡ [] = ap (flat_map f) (drop_all n items done) in
    let whole : end ≡ begun ++ flat_map f items = sym (append-nil end) ∙ ap (λ l. end ++ l) (sym none) ∙ rest in
    let trees : flat_map f items ≡ below = ap (flat_map f) same ∙ ap (λ b. flat_map (λ u. tree_lines u b) under) deep in
    whole ∙ ap (λ l. begun ++ l) trees ∙ ap (λ b. b ++ below) (begin ∙ ap (λ i. i ++ bind_line node x v) first ∙ append_assoc start blanks (bind_line node x v))
    ∙ append_assoc start (blanks ++ bind_line node x v) below
    ∙ ap (λ l. start ++ l) (sym (ap (λ u. tree_lines u blanks) is ∙ bind_lines node x v under blanks))

pub name_of_rule : (rules : List Rule) (n : ℕ) (d : Rule) → n < length rules → rule_name rules n ≡ (get_or rules n d).name
name_of_rule [] n d lt = absurd (omega (arith, lt))
name_of_rule (x ∷ xs) zero d lt = refl
name_of_rule (x ∷ xs) (suc n) d lt = name_of_rule xs n d (omega (arith, lt))

pub name_of_no_rule : (rules : List Rule) (n : ℕ) → length rules ≤ n → rule_name rules n ≡ []
name_of_no_rule [] n le = refl
name_of_no_rule (x ∷ xs) zero le = absurd (omega (arith, le))
name_of_no_rule (x ∷ xs) (suc n) le = name_of_no_rule xs n (omega (arith, le))
