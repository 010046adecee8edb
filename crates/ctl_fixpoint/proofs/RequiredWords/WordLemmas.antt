-- The words of trees, given their children, and the equations of `spells`.
use Rattle.std.proofs.Common.{◌≡◌, ℕ, Bool, true, false, ◌&&◌, ◌||◌, eqb, refl, sym, ap, ap₂, ◌∙◌, arith, List, [], ◌∷◌, map, inl, inr, ◌⊎◌}
use Rattle.std.specs.List.{list_any, list_all}
use Rattle.std.proofs.lemmas.List.Folds.{list_any-append}
use Rattle.std.proofs.lemmas.Bool.Decides.{nat_tests}
use Rattle.c_terms.specs.declared.token.Token.{Token}
use Rattle.c_terms.specs.declared.token.TokenKind.{TokenKind}
use Rattle.c_terms.specs.declared.label.Label.{Label}
use Rattle.c_terms.specs.declared.shape.Shape.{Shape}
use Rattle.c_terms.specs.declared.shape.Shape.TheVariants as shape
use Rattle.c_terms.specs.Shapes.{shape_of}
use Rattle.c_terms.specs.declared.tree.Tree.{Tree}
use Rattle.c_terms.specs.declared.tree.Tree.TheVariants.{Leaf, Branch, rolls-Leaf, rolls-Branch}
use Rattle.c_terms.specs.declared.tree.Tree.TheFolds.{fold-Tree, fold-roll-Tree}
use Rattle.c_terms.specs.Trees.{join, leaves}
use Rattle.c_terms.specs.Same.{same_bytes, same_token}
use Rattle.c_terms.specs.Numbers.{kind_number}
use Rattle.c_terms.proofs.NumberLaws.{kind_number-injective}
use Rattle.c_terms.proofs.BareLaws.{same_bytes-equal}
use Rattle.c_terms.proofs.SameLemmas.{out-Leaf, out-Branch}
use Rattle.c_terms.proofs.TreeLemmas.{leaves-Leaf, leaves-Branch}
use Rattle.c_terms.proofs.Induct.{tree_cases}
use Rattle.smpl_patch.specs.Patterns.{Sure, is_sign, is_sign_at, is_sign_tree}
use Rattle.ctl_fixpoint.specs.RequiredWords.Words.{is_word_kind, is_word, has_word, spells_by, spells_step, spells}

-- tests

pub and_left : (a b : Bool) → (a && b) ≡ true → a ≡ true
and_left true b h = refl
and_left false b h = absurd (cc)

pub and_right : (a b : Bool) → (a && b) ≡ true → b ≡ true
and_right true b h = h
and_right false b h = absurd (cc)

pub or_cases : (a b : Bool) → (a || b) ≡ true → (a ≡ true) ⊎ (b ≡ true)
or_cases true b h = inl refl
or_cases false b h = inr h

pub or_left : (a b : Bool) → a ≡ true → (a || b) ≡ true
or_left true b h = refl
or_left false b h = absurd (cc)

pub or_right : (a b : Bool) → b ≡ true → (a || b) ≡ true
or_right true b h = refl
or_right false b h = h

pub or_no_left : (a b : Bool) → (a || b) ≡ false → a ≡ false
or_no_left true b h = absurd (cc)
or_no_left false b h = refl

pub or_no_right : (a b : Bool) → (a || b) ≡ false → b ≡ false
or_no_right true b h = absurd (cc)
or_no_right false b h = h

pub or_nothing : (a : Bool) → (a || false) ≡ a
or_nothing true = refl
or_nothing false = refl

pub not_both : {A : Type 0} (b : Bool) → b ≡ true → b ≡ false → A
not_both b h k = absurd (cc)

-- tokens

kind-equal : (j k : TokenKind) → eqb (kind_number j) (kind_number k) ≡ true → j ≡ k
kind-equal j k h = kind_number-injective j k (grind (arith, nat_tests))

module _ (w : List ℕ) where
  -- a token that is the same is the same word
  pub same_word : (a b : Token) → same_token a b ≡ true → is_word w a ≡ true → is_word w b ≡ true
  same_word a b e h =
      let k : a.kind ≡ b.kind = kind-equal a.kind b.kind (and_left _ _ e) in
      let t : a.text ≡ b.text = same_bytes-equal a.text b.text (and_right _ _ e) in
      ap₂ (λ x y. is_word_kind x && same_bytes y w) (sym k) (sym t) ∙ h

  -- trees

  pub word-Leaf : (a : Token) → has_word w (Leaf a) ≡ is_word w a
  word-Leaf a = ap (list_any (is_word w)) (leaves-Leaf a) ∙ or_nothing (is_word w a)

  pub words-join : (cs : List Tree) → list_any (is_word w) (join (map leaves cs)) ≡ list_any (has_word w) cs
  words-join [] = refl
  words-join (c ∷ cs) = list_any-append (is_word w) (leaves c) (join (map leaves cs)) ∙ ap (λ b. has_word w c || b) (words-join cs)

  pub word-Branch : (l : Label) (cs : List Tree) → has_word w (Branch l cs) ≡ list_any (has_word w) cs
  word-Branch l cs = ap (list_any (is_word w)) (leaves-Branch l cs) ∙ words-join cs

  -- a word of a child
  pub word-kid : (l : Label) (cs : List Tree) → list_any (has_word w) cs ≡ true → has_word w (Branch l cs) ≡ true
  word-kid l cs h = word-Branch l cs ∙ h

  -- forms

  abbrev pub both : Tree → Sure
  both = fold-Tree Sure (spells_step w)

  both-Leaf : (a : Token) → both (Leaf a) ≡ record { sign = is_sign a.kind; sure = is_word w a }
  both-Leaf a = ap both (sym (rolls-Leaf a)) ∙ fold-roll-Tree Sure (spells_step w) _

  both-Branch : (l : Label) (cs : List Tree) → both (Branch l cs) ≡ record { sign = false; sure = spells_by w (shape_of l) (map both cs) }
  both-Branch l cs = ap both (sym (rolls-Branch l cs)) ∙ fold-roll-Tree Sure (spells_step w) _

  sign-both : (t : Tree) → (both t).sign ≡ is_sign_tree t
  sign-both = tree_cases (λ t. (both t).sign ≡ is_sign_tree t)
      (λ a. ap (λ (s : Sure). s.sign) (both-Leaf a) ∙ ap is_sign_at (sym (out-Leaf a)))
      (λ l cs. ap (λ (s : Sure). s.sign) (both-Branch l cs) ∙ ap is_sign_at (sym (out-Branch l cs)))

  every-both : (ts : List Tree) → list_all (λ (s : Sure). s.sign || s.sure) (map both ts) ≡ list_all (λ t. is_sign_tree t || spells w t) ts
  every-both [] = refl
  every-both (t ∷ ts) = let h = sign-both t in let r = every-both ts in cc

  some-both : (ts : List Tree) → list_any (λ (s : Sure). s.sure) (map both ts) ≡ list_any (λ t. spells w t) ts
  some-both [] = refl
  some-both (t ∷ ts) = let r = some-both ts in cc

  pub spells-Leaf : (a : Token) → spells w (Leaf a) ≡ is_word w a
  spells-Leaf a = ap (λ (s : Sure). s.sure) (both-Leaf a)

  -- what a branch of a shape spells
  abbrev pub spells_kids : Shape → List Tree → Bool
  spells_kids shape.Or cs = list_any (λ t. spells w t) cs && list_all (λ t. is_sign_tree t || spells w t) cs
  spells_kids shape.And cs = list_any (λ t. spells w t) cs
  spells_kids shape.List cs = list_any (λ t. spells w t) cs
  spells_kids shape.Plain cs = list_any (λ t. spells w t) cs

  kids : (s : Shape) (cs : List Tree) → spells_by w s (map both cs) ≡ spells_kids s cs
  kids shape.Or cs = ap₂ (λ a b. a && b) (some-both cs) (every-both cs)
  kids shape.And cs = some-both cs
  kids shape.List cs = some-both cs
  kids shape.Plain cs = some-both cs

  pub spells-Branch : (l : Label) (cs : List Tree) → spells w (Branch l cs) ≡ spells_kids (shape_of l) cs
  spells-Branch l cs = ap (λ (s : Sure). s.sure) (both-Branch l cs) ∙ kids (shape_of l) cs

  -- for the answers
  pub spells-shown : (u : Tree) (l : Label) (cs ds : List Tree) (s : Shape) (r : Bool) → u ≡ Branch l cs → s ≡ shape_of l → ds ≡ cs
      → r ≡ spells_kids s ds → r ≡ spells w u
  spells-shown u l cs ds s r e f g h = rw e (h ∙ ap (spells_kids s) g ∙ ap (λ z. spells_kids z cs) f ∙ sym (spells-Branch l cs))
