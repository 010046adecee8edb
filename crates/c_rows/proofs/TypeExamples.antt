-- Where a type may be a member of an argument list.
use Rattle.std.proofs.Common.{◌≡◌, ◌≤◌, ℕ, arith, [], ◌∷◌, refl, ap, ◌∙◌}
use Rattle.std.specs.Prelude.{true, false, ◌&&◌, IsTrue, codes}
use Rattle.c_terms.specs.declared.token.Token.{Token}
use Rattle.c_terms.specs.declared.token.TokenKind.TheVariants as token
use Rattle.c_terms.specs.declared.label.Label.TheVariants as label
use Rattle.c_terms.specs.declared.tree.Tree.{Tree}
use Rattle.c_terms.specs.declared.tree.Tree.TheVariants as tree
use Rattle.c_terms.specs.Trees.{levels}
use Rattle.c_terms.proofs.TreeLemmas.{levels-Leaf}
use Rattle.c_terms.proofs.SameLemmas.{out-Leaf, out-Branch}
use Rattle.c_rows.specs.declared.kind.Kind.TheVariants as kind
use Rattle.c_rows.specs.declared.rule.Rule.TheVariants as rule
use Rattle.c_rows.specs.Rows.{build}
use Rattle.c_rows.specs.Branches.{is_plain, plain_at, plain_part}
use Rattle.c_rows.specs.Look.{look}
use Rattle.c_rows.specs.Derives.{Derives, leaf, branch, word, child, fork, done}
use Rattle.c_rows.specs.Trees.{NoRival}
use Rattle.c_rows.proofs.DerivesLemmas.{tree_first}

abbrev a : Token
a = record { kind = token.Name; text = codes "a"; id = 0 }

abbrev int : Token
int = record { kind = token.Keyword; text = codes "int"; id = 0 }

-- The tokens of `a` are those of an expression, so `f(a)` has no type.
name_is_rival : NoRival [] 1 (a ∷ []) [] → ⊥
unfolding look
name_is_rival h = h (tree.Leaf a) (leaf refl) (low (levels (tree.Leaf a)) (levels-Leaf a))
  where
    low : (n : ℕ) → n ≡ 0 → n ≤ 1000
    low n e = omega arith

-- `f(int)` may have a type, and does.
word_has_none : NoRival [] 1 (int ∷ []) []
unfolding look
word_has_none u d l = let h : IsTrue false = tree_first [] (NoRival [] 0) d refl in let never : ⊥ = cc in never

abbrev specs : Tree
specs = build rule.Specs (tree.Leaf int ∷ [])

specs_plain : IsTrue (is_plain specs)
specs_plain = ap plain_at (out-Branch label.Specs (tree.Leaf int ∷ [])) ∙ ap (λ x. plain_part x && true) (out-Leaf int)

word_is_type : Derives [] (NoRival [] 1) kind.TypeArg (int ∷ []) (build rule.TypeArg (build rule.TypeName (specs ∷ []) ∷ [])) []
unfolding look
word_is_type =
    branch rule.TypeArg refl refl refl (child (branch rule.TypeName refl refl specs_plain
    (child (branch rule.Specs refl refl refl (fork 1 refl refl (word refl (fork 1 refl refl done)))) (fork 1 refl refl done))) done)
