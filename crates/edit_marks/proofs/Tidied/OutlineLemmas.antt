-- The numbers of the tokens of a tree, child by child.
use Rattle.std.proofs.Common.{◌≡◌, ◌<◌, ◌≤◌, ◌+◌, ℕ, refl, sym, ap, ◌∙◌, List, [], ◌∷◌, ◌++◌, append_assoc, length, get_or, drop, map}
use Rattle.std.specs.Prelude.{Option, None, Some}
use Rattle.std.specs.List.{cons_option, filter_map}
use Rattle.std.proofs.lemmas.List.{append-nil, drop_all}
use Rattle.c_terms.specs.declared.label.Label.{Label}
use Rattle.c_terms.specs.declared.token.Token.{Token}
use Rattle.c_terms.specs.declared.tree.Tree.{Tree}
use Rattle.c_terms.specs.declared.tree.Tree.TheVariants.{Leaf, Branch}
use Rattle.c_terms.specs.Trees.{join, leaves}
use Rattle.c_terms.proofs.TreeLemmas.{leaves-Leaf, leaves-Branch}
use Rattle.edit_marks.specs.EditWalk.Keys.{number_of}
use Rattle.edit_marks.specs.Tidy.Outlines.{token_of, tokens_of, tokens_in}
use Rattle.edit_marks.proofs.Lines.{next}

module _ (ids : List ℕ) where
  abbrev numbers : List Token → List ℕ
  numbers ts = filter_map (number_of ids) (map (λ l. l.id) ts)

  cons_both : (o : Option ℕ) (xs ys : List ℕ) → cons_option o (xs ++ ys) ≡ cons_option o xs ++ ys
  cons_both None xs ys = refl
  cons_both (Some n) xs ys = refl

  both : (ts us : List Token) → numbers (ts ++ us) ≡ numbers ts ++ numbers us
  both [] us = refl
  both (t ∷ ts) us = ap (cons_option (number_of ids t.id)) (both ts us) ∙ cons_both (number_of ids t.id) (numbers ts) (numbers us)

  joined : (cs : List Tree) → numbers (join (map leaves cs)) ≡ tokens_in ids cs
  joined [] = refl
  joined (c ∷ cs) = both (leaves c) (join (map leaves cs)) ∙ ap (λ (l : List ℕ). tokens_of ids c ++ l) (joined cs)

  pub tokens_leaf : (t : Token) → tokens_of ids (Leaf t) ≡ token_of ids t.id
  tokens_leaf t = ap numbers (leaves-Leaf t)

  pub tokens_branch : (l : Label) (cs : List Tree) → tokens_of ids (Branch l cs) ≡ tokens_in ids cs
  tokens_branch l cs = ap numbers (leaves-Branch l cs) ∙ joined cs

  -- one more child
  pub tokens_more : (cs : List Tree) (i : ℕ) (c : Tree) (found next whole : List ℕ) → i < length cs → c ≡ get_or cs i c → next ≡ found ++ tokens_of ids c
      → found ++ tokens_in ids (drop i cs) ≡ whole → next ++ tokens_in ids (drop (i + 1) cs) ≡ whole
  tokens_more cs i c found new whole less is is_new h =
      let rest = tokens_in ids (drop (i + 1) cs) in
      ap (λ (l : List ℕ). l ++ rest) is_new ∙ append_assoc found (tokens_of ids c) rest
      ∙ ap (λ (l : List ℕ). found ++ l) (sym (ap (tokens_in ids) (next cs i c less is))) ∙ h

  pub tokens_end : (cs : List Tree) (i : ℕ) (found whole : List ℕ) → length cs ≤ i → found ++ tokens_in ids (drop i cs) ≡ whole → found ≡ whole
  tokens_end cs i found whole le h =
      sym (append-nil found) ∙ ap (λ (ts : List Tree). found ++ tokens_in ids ts) (sym (drop_all i cs le)) ∙ h
