-- A tree of few tokens has no branch that is too wide.
use Rattle.std.proofs.Common.{◌≡◌, ℕ, ◌≤◌, true, arith, nat_lt, List, map, length}
use Rattle.std.proofs.lemmas.Bool.Decides.{nat_tests}
use Rattle.std.proofs.lemmas.List.{length-map}
use Rattle.c_terms.specs.declared.tree.Tree.{Tree}
use Rattle.c_terms.specs.Names.{listed_names}
use Rattle.c_terms.specs.Trees.{greatest, width}
use Rattle.c_terms.proofs.TreeLemmas.{width-Leaf, width-Branch}
use Rattle.c_rows.specs.declared.kind.Kind.TheVariants as kinds
use Rattle.c_rows.specs.Trees.{NoRival, IsTreeOf}
use Rattle.smpl_patch.specs.declared.pattern.VarDecl.{VarDecl}
use Rattle.smpl_lexer.specs.declared.token.PatchToken.{PatchToken}
use Rattle.smpl_meta.specs.Patterns.{made}
use Rattle.sound_laws.specs.SmplFormed.Shapes.{Formed, token, branch, AllFormed, none, more}
use Rattle.sound_laws.proofs.SmplFormed.RowShapes.{tree_formed}

module _ (most : ℕ) where
  mutual
    narrow : {t : Tree} → Formed most t → width t ≤ most
    narrow (token a) = omega (arith, width-Leaf a)
    narrow (branch l cs f le all) = omega (arith, width-Branch l cs, le, all-narrow all)

    all-narrow : {cs : List Tree} → AllFormed most cs → greatest (map width cs) ≤ most
    all-narrow none = omega arith
    all-narrow (more c cs one rest) = omega (arith, narrow one, all-narrow rest)

below : (n : ℕ) → n ≤ 2097152 → nat_lt n 4294967296 ≡ true
below n h = grind (arith, nat_tests)

pub side-narrow : (vars : List VarDecl) (tokens : List PatchToken) (t : Tree) → length tokens ≤ 1048576
    → IsTreeOf kinds.Expr listed_names (map (made vars 0) tokens) t → nat_lt (width t) 4294967296 ≡ true
side-narrow vars tokens t few is =
    let all = map (made vars 0) tokens in
    let same : length all ≡ length tokens = length-map tokens (made vars 0) in
    below (width t) (narrow 2097152 (tree_formed listed_names (NoRival listed_names (length all)) 2097152 (omega (arith, few, same)) is.derived))
