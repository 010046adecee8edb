-- A file has at most one list of isomorphisms and at most one first fault, and not both.
use Rattle.std.proofs.Common.{◌≡◌, ℕ, ◌<◌, ◌≤◌, List, [], ◌∷◌, ◌++◌, length, refl, sym, ◌∙◌, subst, arith}
use Rattle.smpl_patch.specs.declared.rule.Iso.{Iso}
use Rattle.smpl_lexer.specs.declared.token.PatchToken.{PatchToken}
use Rattle.iso_file.specs.declared.fault.IsoFault.{IsoFault}
use Rattle.iso_file.specs.Blocks.{blocks}
use Rattle.iso_file.specs.Isos.{AreIsos, IsBlockFault, IsFirstBlockFault, AreIsosOf, IsFileFault, most_bytes}
use Rattle.iso_file.specs.Isos.IsFileFault.{too_long, in_block}
use Rattle.read_laws.proofs.IsoOnce.PieceLemmas.{lines-once}
use Rattle.read_laws.proofs.IsoOnce.BlockLemmas.{OneTree, iso-once, fault-once, iso-apart}

not-both : (n : ℕ) → most_bytes < n → n ≤ most_bytes → ⊥
not-both n long short = omega (arith, long, short)

module _ (law : OneTree) where
  isos-once : (bs : List (List (List PatchToken))) (is js : List Iso) → AreIsos bs is → AreIsos bs js → is ≡ js
  isos-once [] [] [] a b = refl
  isos-once [] [] (j ∷ js) a b = absurd b
  isos-once [] (i ∷ is) js a b = absurd a
  isos-once (x ∷ bs) [] js a b = absurd a
  isos-once (x ∷ bs) (i ∷ is) [] a b = absurd b
  isos-once (x ∷ bs) (i ∷ is) (j ∷ js) a b =
      let head = iso-once law x i j a.0 b.0 in
      let rest = isos-once bs is js a.1 b.1 in
      λ n. head n ∷ rest n

  -- blocks of which one has a fault have no isomorphisms
  fine-apart : (bs : List (List (List PatchToken))) (b : List (List PatchToken)) (more : List (List (List PatchToken))) (is : List Iso) (f : IsoFault)
      → AreIsos (bs ++ b ∷ more) is → IsBlockFault b f → ⊥
  fine-apart [] b more [] f a w = a
  fine-apart [] b more (i ∷ is) f a w = iso-apart law b i f a.0 w
  fine-apart (x ∷ bs) b more [] f a w = a
  fine-apart (x ∷ bs) b more (i ∷ is) f a w = fine-apart bs b more is f a.1 w

  first-once : (bs cs : List (List (List PatchToken))) (b c : List (List PatchToken)) (more others : List (List (List PatchToken))) (is js : List Iso)
      (f g : IsoFault)
      → bs ++ b ∷ more ≡ cs ++ c ∷ others → AreIsos bs is → AreIsos cs js → IsBlockFault b f → IsBlockFault c g → f ≡ g
  first-once [] [] b c more others is js f g e a d v w =
      let same : b ≡ c = cc in
      fault-once law c f g (subst (λ (x : List (List PatchToken)). IsBlockFault x f) same v) w
  first-once [] (y ∷ cs) b c more others is [] f g e a d v w = absurd d
  first-once [] (y ∷ cs) b c more others is (j ∷ js) f g e a d v w =
      let same : b ≡ y = cc in
      absurd (iso-apart law y j f d.0 (subst (λ (x : List (List PatchToken)). IsBlockFault x f) same v))
  first-once (x ∷ bs) [] b c more others [] js f g e a d v w = absurd a
  first-once (x ∷ bs) [] b c more others (i ∷ is) js f g e a d v w =
      let same : c ≡ x = cc in
      absurd (iso-apart law x i g a.0 (subst (λ (y : List (List PatchToken)). IsBlockFault y g) same w))
  first-once (x ∷ bs) (y ∷ cs) b c more others [] js f g e a d v w = absurd a
  first-once (x ∷ bs) (y ∷ cs) b c more others (i ∷ is) [] f g e a d v w = absurd d
  first-once (x ∷ bs) (y ∷ cs) b c more others (i ∷ is) (j ∷ js) f g e a d v w =
      let rest : bs ++ b ∷ more ≡ cs ++ c ∷ others = cc in
      first-once bs cs b c more others is js f g rest a.1 d.1 v w

  block-fault-once : (all : List (List (List PatchToken))) (f g : IsoFault) → IsFirstBlockFault all f → IsFirstBlockFault all g → f ≡ g
  block-fault-once all f g a b =
      first-once a.before b.before a.block b.block a.after b.after a.isos b.isos f g (sym a.all_are ∙ b.all_are) a.fine b.fine a.wrong b.wrong

  pub list-once : (bytes : List ℕ) (one other : List Iso) → AreIsosOf bytes one → AreIsosOf bytes other → one ≡ other
  list-once bytes one other a b =
      let same : a.lines ≡ b.lines = lines-once bytes a.lines b.lines a.lines_are b.lines_are in
      isos-once (blocks b.lines) one other (subst (λ (ls : List (List PatchToken)). AreIsos (blocks ls) one) same a.isos_are) b.isos_are

  pub file-fault-once : (bytes : List ℕ) (f g : IsoFault) → IsFileFault bytes f → IsFileFault bytes g → f ≡ g
  file-fault-once bytes f g (too_long l) (too_long m) = refl
  file-fault-once bytes f g (too_long l) (in_block s ls are w) = absurd (not-both (length bytes) l s)
  file-fault-once bytes f g (in_block s ls are v) (too_long l) = absurd (not-both (length bytes) l s)
  file-fault-once bytes f g (in_block s ls are v) (in_block r ks also w) =
      let same : ls ≡ ks = lines-once bytes ls ks are also in
      block-fault-once (blocks ks) f g (subst (λ (l : List (List PatchToken)). IsFirstBlockFault (blocks l) f) same v) w

  pub file-apart : (bytes : List ℕ) (isos : List Iso) (f : IsoFault) → AreIsosOf bytes isos → IsFileFault bytes f → ⊥
  file-apart bytes isos f a (too_long l) = not-both (length bytes) l a.short
  file-apart bytes isos f a (in_block s ls are w) =
      let same : a.lines ≡ ls = lines-once bytes a.lines ls a.lines_are are in
      let there : AreIsos (blocks ls) isos = subst (λ (l : List (List PatchToken)). AreIsos (blocks l) isos) same a.isos_are in
      fine-apart w.before w.block w.after isos f (subst (λ (bs : List (List (List PatchToken))). AreIsos bs isos) w.all_are there) w.wrong
