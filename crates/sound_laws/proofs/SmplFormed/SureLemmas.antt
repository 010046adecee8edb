-- Each sure variable of a pattern occurs in it.
-- Proof: by induction on the form. A disjunction has a first branch, and that has the variables that all branches have.
use Rattle.std.proofs.Common.{◌≡◌, ℕ, suc, refl, sym, ap, ◌∙◌, subst, List, [], ◌∷◌, ◌++◌, map, length}
use Rattle.std.proofs.lemmas.Bool.{false≢true}
use Rattle.std.specs.Prelude.{Bool, true, false, ◌||◌, if◌then◌else◌}
use Rattle.std.specs.List.{list_any, list_all}
use Rattle.c_terms.specs.declared.token.Token.{Token}
use Rattle.c_terms.specs.declared.label.Label.{Label}
use Rattle.c_terms.specs.declared.label.Label.TheVariants as label
use Rattle.c_terms.specs.declared.tree.Tree.{Tree}
use Rattle.c_terms.specs.declared.tree.Tree.TheOpen.{Tree-F}
use Rattle.c_terms.specs.declared.tree.Tree.TheVariants.{Leaf, Branch}
use Rattle.c_terms.specs.Shapes.{shape_of}
use Rattle.c_terms.specs.Trees.{leaves, join}
use Rattle.c_terms.proofs.SameLemmas.{out-Leaf, out-Branch}
use Rattle.c_terms.proofs.TreeLemmas.{leaves-Leaf, leaves-Branch}
use Rattle.smpl_terms.specs.declared.var.Var.{Var as Variable}
use Rattle.smpl_patch.specs.declared.pattern.VarDecl.{VarDecl}
use Rattle.smpl_patch.specs.declared.pattern.PatToken.{PatToken}
use Rattle.smpl_patch.specs.declared.pattern.Pattern.{Pattern}
use Rattle.smpl_patch.specs.declared.pattern.Spot.{Spot}
use Rattle.smpl_patch.specs.Held.{is_split_into_nodes, is_held, kept, held_at, held}
use Rattle.smpl_patch.specs.Patterns.{is_own, stands_in, is_sign_tree, is_sure, in_first, sure, stands}
use Rattle.smpl_patch.proofs.SureLemmas.{sure-Leaf, sure-Branch, sure_kids}
use Rattle.sound_laws.specs.SmplFormed.Shapes.{has_branch, is_firm, Sound, sound_token, sound_branch, AllSound, no_more, one_more}
use Rattle.sound_laws.proofs.SmplFormed.SequenceLemmas.{left_true, right_true, not_true, Good}

or_left : (a b : Bool) → a ≡ true → (a || b) ≡ true
or_left true b h = refl
or_left false b h = absurd (false≢true h)

or_right : (a b : Bool) → b ≡ true → (a || b) ≡ true
or_right true b h = refl
or_right false b h = h

or_second : (a b : Bool) → a ≡ false → (a || b) ≡ true → b ≡ true
or_second true b e h = absurd (false≢true (sym e))
or_second false b e h = h

any_front : {A : Type 0} (p : A → Bool) (xs ys : List A) → list_any p xs ≡ true → list_any p (xs ++ ys) ≡ true
any_front p [] ys h = absurd (false≢true h)
any_front p (x ∷ xs) ys h = by (p x) h (any_front p xs ys)
  where
    by : (b : Bool) → (b || list_any p xs) ≡ true → (list_any p xs ≡ true → list_any p (xs ++ ys) ≡ true) → (b || list_any p (xs ++ ys)) ≡ true
    by true h r = refl
    by false h r = r h

any_back : {A : Type 0} (p : A → Bool) (xs ys : List A) → list_any p ys ≡ true → list_any p (xs ++ ys) ≡ true
any_back p [] ys h = h
any_back p (x ∷ xs) ys h = or_right (p x) (list_any p (xs ++ ys)) (any_back p xs ys h)

module _ (decls : List VarDecl) (tokens : List PatToken) (x : Variable) where
  abbrev tells : Tree → Bool
  tells t = is_sure decls tokens x t

  abbrev own : Token → Bool
  own a = is_own decls tokens x a

  every_second : (cs : List Tree) → has_branch cs ≡ true → list_all (λ t. is_sign_tree t || tells t) cs ≡ true → list_any tells cs ≡ true
  every_second [] h e = absurd (false≢true h)
  every_second (a ∷ []) h e = absurd (false≢true h)
  every_second (a ∷ b ∷ cs) h e =
      let here = left_true (is_sign_tree b || tells b) (list_all (λ t. is_sign_tree t || tells t) cs)
      (right_true (is_sign_tree a || tells a) (list_all (λ t. is_sign_tree t || tells t) (b ∷ cs)) e)
      in
      or_right (tells a) (tells b || list_any tells cs)
      (or_left (tells b) (list_any tells cs) (or_second (is_sign_tree b) (tells b) (not_true (is_sign_tree b) h) here))

  some_child : (l : Label) (cs : List Tree) → is_firm l cs ≡ true → sure_kids decls tokens x (shape_of l) cs ≡ true → list_any tells cs ≡ true
  some_child label.PatOr cs f h = every_second cs f h
  some_child label.PatAnd cs f h = h
  some_child label.Args cs f h = h
  some_child label.Params cs f h = h
  some_child _ cs f h = h

  module _ (ok : Token → Bool) (most : ℕ) where
    mutual
      tree_stands : {t : Tree} → Sound ok most t → tells t ≡ true → stands_in decls tokens x t ≡ true
      tree_stands (sound_token a k) h = ap (list_any own) (leaves-Leaf a) ∙ or_left (own a) false (sym (sure-Leaf decls tokens x a) ∙ h)
      tree_stands (sound_branch l cs f le all) h =
          ap (list_any own) (leaves-Branch l cs) ∙ some_stands all (some_child l cs f (sym (sure-Branch decls tokens x l cs) ∙ h))

      some_stands : {cs : List Tree} → AllSound ok most cs → list_any tells cs ≡ true → list_any own (join (map leaves cs)) ≡ true
      some_stands no_more h = absurd (false≢true h)
      some_stands (one_more c cs one rest) h = by (tells c) refl h (tree_stands one) (some_stands rest)
        where
          by : (b : Bool) → tells c ≡ b → (b || list_any tells cs) ≡ true → (tells c ≡ true → stands_in decls tokens x c ≡ true)
              → (list_any tells cs ≡ true → list_any own (join (map leaves cs)) ≡ true)
              → list_any own (leaves c ++ join (map leaves cs)) ≡ true
          by true e g f r = any_front own (leaves c) (join (map leaves cs)) (f e)
          by false e g f r = any_back own (leaves c) (join (map leaves cs)) (r g)

    some_answer : {ts : List Tree} → AllSound ok most ts → list_any tells ts ≡ true → list_any (stands_in decls tokens x) ts ≡ true
    some_answer no_more h = absurd (false≢true h)
    some_answer (one_more c cs one rest) h = by (tells c) refl h (some_answer rest)
      where
        by : (b : Bool) → tells c ≡ b → (b || list_any tells cs) ≡ true → (list_any tells cs ≡ true → list_any (stands_in decls tokens x) cs ≡ true)
            → (stands_in decls tokens x c || list_any (stands_in decls tokens x) cs) ≡ true
        by true e g r = or_left (stands_in decls tokens x c) (list_any (stands_in decls tokens x) cs) (tree_stands one e)
        by false e g r = or_right (stands_in decls tokens x c) (list_any (stands_in decls tokens x) cs) (r g)

    kept_sound : (test : ℕ → Bool) (i : ℕ) {cs : List Tree} → AllSound ok most cs → AllSound ok most (kept test i cs)
    kept_sound test i no_more = no_more
    kept_sound test i (one_more c cs one rest) = by (test i) (kept_sound test (suc i) rest)
      where
        by : (b : Bool) → AllSound ok most (kept test (suc i) cs) → AllSound ok most (if b then c ∷ kept test (suc i) cs else kept test (suc i) cs)
        by true r = one_more c (kept test (suc i) cs) one r
        by false r = r

    held_sound : (s : Spot) {t : Tree} → Sound ok most t → AllSound ok most (held s t)
    held_sound s (sound_token a k) = subst (λ (ts : List Tree). AllSound ok most ts)
        (sym (ap (λ (o : Tree-F Tree). held_at s o (Leaf a)) (out-Leaf a))) (one_more (Leaf a) [] (sound_token a k) no_more)
    held_sound s (sound_branch l cs f le all) =
        subst (λ (ts : List Tree). AllSound ok most ts)
        (sym (ap (λ (o : Tree-F Tree). held_at s o (Branch l cs)) (out-Branch l cs))) (by (is_split_into_nodes s l))
      where
        by : (b : Bool) → AllSound ok most (if b then kept (is_held s l (length cs)) 0 cs else Branch l cs ∷ [])
        by true = kept_sound (is_held s l (length cs)) 0 all
        by false = one_more (Branch l cs) [] (sound_branch l cs f le all) no_more

    pub sure_stands : (p : Pattern) → Good ok most p → sure decls tokens p x ≡ true → stands decls tokens p x ≡ true
    sure_stands p g h =
        ap (λ (fs : List Tree). in_first (λ f. list_any (stands_in decls tokens x) (held p.spot f)) fs) g.are
        ∙ some_answer (held_sound p.spot g.sound) (sym (ap (λ (fs : List Tree). in_first (λ f. list_any tells (held p.spot f)) fs) g.are) ∙ h)
