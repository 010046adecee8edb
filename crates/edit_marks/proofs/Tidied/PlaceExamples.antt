-- The tree on whose first line an insert is indented, in a small item, worked out by hand.
use Rattle.std.proofs.Common.{◌≡◌, ◌∙◌, ℕ, Bool, true, false, refl, ap, List, [], ◌∷◌, codes}
use Rattle.std.specs.Prelude.{Option, None, Some, slice_get, if◌then◌else◌}
use Rattle.std.specs.Option.{option_map}
use Rattle.c_terms.specs.declared.label.Label.{Label}
use Rattle.c_terms.specs.declared.label.Label.TheVariants as label
use Rattle.c_terms.specs.declared.token.TokenKind.TheVariants.{Name}
use Rattle.c_terms.specs.declared.tree.Tree.{Tree}
use Rattle.c_terms.specs.declared.tree.Tree.TheOpen.{Tree-F}
use Rattle.c_terms.specs.declared.tree.Tree.TheVariants.{Leaf, Branch}
use Rattle.c_terms.specs.Places.{child}
use Rattle.c_terms.proofs.SameLemmas.{out-Branch}
use Rattle.c_terms.proofs.PlaceLemmas.{child-Branch}
use Rattle.edit_marks.specs.declared.insert.Anchor.TheVariants.{Removed, AfterLine, BeforeToken}
use Rattle.edit_marks.specs.declared.tidy.depth.AtomDepth.{AtomDepth}
use Rattle.edit_marks.specs.Tidy.Reach.{is_statement_at, with_step, node_path, without_last, reach_of}

abbrev leaf : List ℕ → Tree
leaf text = Leaf (record { kind = Name; text = text; id = 0 })

-- `{ if (a) d; }`
abbrev body : Tree
body = Branch label.ExprStat (leaf (codes "d") ∷ leaf (codes ";") ∷ [])

abbrev statement : Tree
statement = Branch label.If (leaf (codes "if") ∷ leaf (codes "(") ∷ leaf (codes "a") ∷ leaf (codes ")") ∷ body ∷ [])

abbrev block : Tree
block = Branch label.Block (leaf (codes "{") ∷ statement ∷ leaf (codes "}") ∷ [])

-- a step to a statement, and one that leads into it
goes_on : (l : Label) (cs : List Tree) (i : ℕ) (path : List ℕ) (c : Tree) → is_statement_at (Tree-F.Branch l cs) i ≡ true → slice_get cs i ≡ Some c
    → node_path (Branch l cs) (i ∷ path) ≡ i ∷ node_path c path
goes_on l cs i path c here at =
    let is = ap (λ (t : Tree-F Tree). is_statement_at t i) (out-Branch l cs) ∙ here in
    let there = child-Branch l cs i ∙ at in
    λ k. if is k then with_step i (option_map (λ (t : Tree). node_path t path) (there k)) else []

ends : (l : Label) (cs : List Tree) (i : ℕ) (path : List ℕ) → is_statement_at (Tree-F.Branch l cs) i ≡ false → node_path (Branch l cs) (i ∷ path) ≡ []
ends l cs i path here =
    let is = ap (λ (t : Tree-F Tree). is_statement_at t i) (out-Branch l cs) ∙ here in
    λ k. if is k then with_step i (option_map (λ (t : Tree). node_path t path) (child (Branch l cs) i)) else []

-- the name in the body, the body itself, and the condition
in_body : node_path block (1 ∷ 4 ∷ 0 ∷ []) ≡ 1 ∷ 4 ∷ []
in_body =
    goes_on label.Block _ 1 (4 ∷ 0 ∷ []) statement refl refl
    ∙ ap (λ (p : List ℕ). 1 ∷ p) (goes_on label.If _ 4 (0 ∷ []) body refl refl ∙ ap (λ (p : List ℕ). 4 ∷ p) (ends label.ExprStat _ 0 [] refl))

of_body : node_path block (1 ∷ 4 ∷ []) ≡ 1 ∷ 4 ∷ []
of_body = goes_on label.Block _ 1 (4 ∷ []) statement refl refl ∙ ap (λ (p : List ℕ). 1 ∷ p) (goes_on label.If _ 4 [] body refl refl)

in_head : node_path block (1 ∷ 2 ∷ []) ≡ 1 ∷ []
in_head = goes_on label.Block _ 1 (2 ∷ []) statement refl refl ∙ ap (λ (p : List ℕ). 1 ∷ p) (ends label.If _ 2 [] refl)

abbrev depth : ℕ → ℕ → AtomDepth
depth around removed = record { around = around; removed = removed }

-- `- if (E) d;` and `+ e;`: as the statement that goes
instead_of_both : reach_of Removed false (depth 1 1) block (1 ∷ 4 ∷ []) ≡ 1 ∷ []
instead_of_both = ap (without_last 1) of_body

-- `- d;` and `+ e;`: as the body
instead_of_body : reach_of Removed false (depth 0 0) block (1 ∷ 4 ∷ []) ≡ 1 ∷ 4 ∷ []
instead_of_body = ap (without_last 0) of_body

-- ` if (x) d;` and `+ e;`: as the statement of the pattern, while ` d;` and `+ e;` alone has the line of the body
behind_both : reach_of AfterLine false (depth 1 0) block (1 ∷ 4 ∷ []) ≡ 1 ∷ []
behind_both = refl

behind_body : reach_of AfterLine false (depth 0 0) block (1 ∷ 4 ∷ []) ≡ 1 ∷ 4 ∷ []
behind_body = refl

-- an expression in the condition: as the statement around it
in_condition : reach_of AfterLine true (depth 0 0) block (1 ∷ 2 ∷ []) ≡ 1 ∷ []
in_condition = in_head

-- before a token that stays
before_body : reach_of BeforeToken false (depth 1 0) block (1 ∷ 4 ∷ []) ≡ 1 ∷ 4 ∷ []
before_body = of_body
