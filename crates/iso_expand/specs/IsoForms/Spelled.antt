-- A tree as bytes, without its ids: two trees are the same exactly if they are spelled alike.
use Rattle.std.specs.Prelude.{ℕ, List, [], ◌∷◌, ◌++◌}
use Rattle.c_terms.specs.declared.token.Token.{Token}
use Rattle.c_terms.specs.declared.tree.Tree.{Tree}
use Rattle.c_terms.specs.declared.tree.Tree.TheOpen.{Tree-F}
use Rattle.c_terms.specs.declared.tree.Tree.TheFolds.{fold-Tree}
use Rattle.c_terms.specs.Numbers.{kind_number, label_number}

abbrev pub spell_text : List ℕ → List ℕ
spell_text [] = 0 ∷ []
spell_text (b ∷ bs) = 1 ∷ b ∷ spell_text bs

abbrev pub spell_all : List (List ℕ) → List ℕ
spell_all [] = 0 ∷ []
spell_all (s ∷ ss) = 1 ∷ (s ++ spell_all ss)

abbrev pub spell_token : Token → List ℕ
spell_token a = 0 ∷ kind_number a.kind ∷ spell_text a.text

abbrev pub spell_step : Tree-F (List ℕ) → List ℕ
spell_step (Tree-F.Leaf a) = spell_token a
spell_step (Tree-F.Branch l ss) = 1 ∷ label_number l ∷ spell_all ss

abbrev pub spelled : Tree → List ℕ
spelled = fold-Tree (List ℕ) spell_step
