-- One less than the number of tokens is not enough: with 0 a type may be a member where `a` is the only token.
use Rattle.std.proofs.Common.{◌≡◌, ◌≤◌, length, ℕ, List, [], ◌∷◌, refl, arith}
use Rattle.std.specs.Prelude.{◌+◌, codes}
use Rattle.c_terms.specs.declared.token.Token.{Token}
use Rattle.c_terms.specs.declared.token.TokenKind.TheVariants as token
use Rattle.c_terms.specs.declared.tree.Tree.TheVariants as tree
use Rattle.c_terms.specs.Trees.{levels}
use Rattle.c_terms.proofs.TreeLemmas.{levels-Leaf}
use Rattle.c_rows.specs.Look.{Names, look}
use Rattle.c_rows.specs.Derives.{leaf}
use Rattle.c_rows.specs.Trees.{NoRival}

abbrev a : Token
a = record { kind = token.Name; text = codes "a"; id = 0 }

-- The tokens of `a` are those of an expression.
name_is_rival : NoRival [] 1 (a ∷ []) [] → ⊥
unfolding look
name_is_rival h = h (tree.Leaf a) (leaf refl) (low (levels (tree.Leaf a)) (levels-Leaf a))
  where
    low : (n : ℕ) → n ≡ 0 → n ≤ 1000
    low n e = omega arith

pub one_less : ((names : Names) (m n : ℕ) (xs ys : List Token) → length xs ≤ m + 1 → length xs ≤ n → NoRival names m xs ys → NoRival names n xs ys) → ⊥
one_less h = name_is_rival (h [] 0 1 (a ∷ []) [] (omega arith) (omega arith) tt)
