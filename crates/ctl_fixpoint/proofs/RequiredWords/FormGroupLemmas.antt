-- Runs of forms that need a word: if the tree lacks it, none of them fits.
use Rattle.std.proofs.Common.{◌≡◌, ℕ, suc, zero, ◌+◌, ◌-◌, ◌<◌, ◌≤◌, Bool, true, false, ◌||◌, not, refl, sym, ap, ◌∙◌, subst, arith}
use Rattle.std.proofs.Common.{List, [], ◌∷◌, ◌++◌, length, drop, get_or, Option, Some, None, slice_get, ⊎_elim}
use Rattle.std.specs.List.{list_any, list_all}
use Rattle.std.proofs.lemmas.Bool.{cases_lt}
use Rattle.std.proofs.lemmas.List.{drop_all}
use Rattle.std.proofs.lemmas.Option.{slice_get_read}
use Rattle.c_terms.specs.declared.tree.Tree.{Tree}
use Rattle.c_terms.specs.Places.{Place}
use Rattle.c_types.specs.Tables.{ItemTypes}
use Rattle.smpl_terms.specs.Environments.{Environment}
use Rattle.smpl_patch.specs.declared.pattern.VarDecl.{VarDecl}
use Rattle.smpl_patch.specs.declared.pattern.PatToken.{PatToken}
use Rattle.smpl_patch.specs.declared.pattern.Pattern.{Pattern}
use Rattle.smpl_patch.specs.declared.pattern.Spot.{Spot}
use Rattle.pat_match.specs.declared.role.NodeRole.{NodeRole}
use Rattle.pat_match.specs.Spots.{seats}
use Rattle.pat_match.specs.Matching.{fits_seat}
use Rattle.ctl_fixpoint.proofs.CtlHolds.TestLemmas.{any_weaker}
use Rattle.ctl_fixpoint.specs.declared.required_words.form_groups.FormGroup.{FormGroup}
use Rattle.ctl_fixpoint.specs.RequiredWords.Words.{has_word, held_spells}
use Rattle.ctl_fixpoint.specs.RequiredWords.FormGroups.{finds, is_absent, IsRun, Covers, AreFormGroups, fits_some}
use Rattle.ctl_fixpoint.proofs.RequiredWords.WordLemmas.{and_left, and_right, or_nothing, not_both}
use Rattle.ctl_fixpoint.proofs.RequiredWords.HeldWords.{held_has_word}
use Rattle.ctl_fixpoint.proofs.RequiredWords.MatchWords.{here, seat-word}

-- a list from the next number on

skip-one : {X : Type 0} (q : X → Bool) (xs : List X) (n : ℕ) → ((x : X) → slice_get xs n ≡ Some x → q x ≡ false)
    → list_any q (drop n xs) ≡ list_any q (drop (suc n) xs)
skip-one q [] zero h = refl
skip-one q [] (suc n) h = refl
skip-one q (x ∷ xs) zero h = ap (λ b. b || list_any q xs) (h x refl)
skip-one q (x ∷ xs) (suc n) h = skip-one q xs n h

pub skip-some : {X : Type 0} (q : X → Bool) (xs : List X) (k n : ℕ)
    → ((i : ℕ) (x : X) → n ≤ i → i < k + n → slice_get xs i ≡ Some x → q x ≡ false)
    → list_any q (drop n xs) ≡ list_any q (drop (k + n) xs)
skip-some q xs zero n h = ap (λ m. list_any q (drop m xs)) (omega arith)
skip-some q xs (suc k) n h =
    skip-one q xs n (λ x e. h n x (omega arith) (omega arith) e)
    ∙ skip-some q xs k (suc n) (λ i x a b e. h i x (omega arith) (omega arith) e)
    ∙ ap (λ m. list_any q (drop m xs)) (omega arith)

pub one-more : {X : Type 0} (q : X → Bool) (xs : List X) (n : ℕ) (x : X) → slice_get xs n ≡ Some x
    → list_any q (drop n xs) ≡ (q x || list_any q (drop (suc n) xs))
one-more q [] n x e = absurd (cc)
one-more q (y ∷ xs) zero x e = let h : y ≡ x = cc in ap (λ z. q z || list_any q xs) h
one-more q (y ∷ xs) (suc n) x e = one-more q xs n x e

-- the element that was read is there
pub read-at : {X : Type 0} (xs ys : List X) (i : ℕ) (x : X) → ys ≡ xs → i < length xs → x ≡ get_or ys i x → slice_get xs i ≡ Some x
read-at xs ys i x e lt h = slice_get_read xs (length xs) i x refl lt (h ∙ ap (λ zs. get_or zs i x) e)

pub all-at : {X : Type 0} (q : X → Bool) (xs : List X) (i : ℕ) (x : X) → list_all q xs ≡ true → slice_get xs i ≡ Some x → q x ≡ true
all-at q [] i x h e = absurd (cc)
all-at q (y ∷ xs) zero x h e = let k : y ≡ x = cc in ap q (sym k) ∙ and_left _ _ h
all-at q (y ∷ xs) (suc i) x h e = all-at q xs i x (and_right _ _ h) e

or-both : (a b c : Bool) → ((a || b) || c) ≡ (a || (b || c))
or-both true b c = refl
or-both false b c = refl

-- one more form is tried
pub tried-more : {X : Type 0} (q : X → Bool) (xs : List X) (i : ℕ) (x : X) (a b new whole : Bool) → slice_get xs i ≡ Some x
    → new ≡ (a || b) → b ≡ q x → (a || list_any q (drop i xs)) ≡ whole → (new || list_any q (drop (i + 1) xs)) ≡ whole
tried-more q xs i x a b new whole g e f h =
    let same : i + 1 ≡ suc i = omega arith in
    let next : list_any q (drop (i + 1) xs) ≡ list_any q (drop (suc i) xs) = ap (λ m. list_any q (drop m xs)) same in
    ap (λ z. z || list_any q (drop (i + 1) xs)) (e ∙ ap (λ z. a || z) f)
    ∙ ap (λ z. (a || q x) || z) next
    ∙ or-both a (q x) (list_any q (drop (suc i) xs))
    ∙ ap (λ z. a || z) (sym (one-more q xs i x g))
    ∙ h

-- all forms are tried
pub tried-all : {X : Type 0} (q : X → Bool) (xs : List X) (n : ℕ) (a whole : Bool) → n ≡ length xs
    → (a || list_any q (drop n xs)) ≡ whole → a ≡ whole
tried-all q xs n a whole e h =
    sym (ap (λ zs. a || list_any q zs) (drop_all n xs (omega (arith, e))) ∙ or_nothing a) ∙ h

no : (b : Bool) → (b ≡ true → ⊥) → b ≡ false
no true h = absurd (h refl)
no false h = refl

not-true : (b : Bool) → not b ≡ true → b ≡ false
not-true true h = absurd (cc)
not-true false h = refl

module _ (decls : List VarDecl) (tokens : List PatToken) (types : ItemTypes) (env : Environment) where
  -- a form that needs a word fits nothing if the tree lacks the word
  lacks-fit : (w : List ℕ) (p : Pattern) (r : NodeRole) (form t : Tree) → held_spells w p.spot form ≡ true → has_word w t ≡ false
      → fits_some decls tokens types env p r t form ≡ false
  lacks-fit w p r form t h a = no (fits_some decls tokens types env p r t form) (λ e.
      not_both (has_word w t)
      (seat-word w p.spot r.kind t (any_weaker (λ (s : Place). fits_seat decls tokens types env p r form s.tree) (here w) (seats p.spot r.kind t)
      (λ s c q. held_has_word decls tokens types env w p.spot r.kind form s.tree (and_right _ _ q) h) e)) a)

  absent-fit : (w : Option (List ℕ)) (p : Pattern) (k : NodeRole) (form t : Tree) → finds w p.spot form ≡ true → is_absent w t ≡ true
      → fits_some decls tokens types env p k t form ≡ false
  absent-fit None p k form t h a = absurd (cc)
  absent-fit (Some w) p k form t h a = lacks-fit w p k form t h (not-true (has_word w t) a)

  -- no form of the run fits
  pub run-skipped : (p : Pattern) (k : NodeRole) (t : Tree) (w : Option (List ℕ)) (n e : ℕ) → n ≤ e → IsRun p.spot p.forms w n e
      → is_absent w t ≡ true
      → list_any (fits_some decls tokens types env p k t) (drop e p.forms) ≡ list_any (fits_some decls tokens types env p k t) (drop n p.forms)
  run-skipped p k t w n e le run a =
      sym (skip-some (fits_some decls tokens types env p k t) p.forms (e - n) n
      (λ i form l r g. absent-fit w p k form t (run i form l (omega arith) g) a)
      ∙ ap (λ m. list_any (fits_some decls tokens types env p k t) (drop m p.forms)) (omega arith))

-- consecutive runs

same-some : {X : Type 0} {x y : X} {o : Option X} → o ≡ Some x → o ≡ Some y → x ≡ y
same-some e f = cc

pub run-more : (s : Spot) (forms : List Tree) (w : Option (List ℕ)) (n e : ℕ) (x : Tree) → slice_get forms e ≡ Some x
    → IsRun s forms w n e → finds w s x ≡ true → IsRun s forms w n (e + 1)
run-more s forms w n e x g run f i form a b h = ⊎_elim
    (λ lt. run i form a lt h)
    (λ ge.
    let k : i ≡ e = omega (arith, b, ge) in
    let m : slice_get forms e ≡ Some form = sym (ap (λ z. slice_get forms z) k) ∙ h in
    ap (finds w s) (sym (same-some g m)) ∙ f)
    (cases_lt i e)

pub covers-push : (s : Spot) (forms : List Tree) (ls : List FormGroup) (l : FormGroup) (n m : ℕ) → Covers s forms n ls m
    → m ≤ l.end → l.end ≤ length forms → IsRun s forms l.word m l.end → Covers s forms n (ls ++ l ∷ []) l.end
covers-push s forms [] l n m c a b r = let e : n ≡ m = c in (subst (λ z. z ≤ l.end) (sym e) a, b, subst (λ z. IsRun s forms l.word z l.end) (sym e) r, refl)
covers-push s forms (k ∷ ls) l n m c a b r = (c.0, c.1, c.2, covers-push s forms ls l k.end m c.3 a b r)

pub covers-form_groups : (p : Pattern) (ls : List FormGroup) → Covers p.spot p.forms 0 ls (length p.forms) → AreFormGroups p ls
covers-form_groups p [] c = tt
covers-form_groups p (l ∷ ls) c = c

pub form_groups-cover : (p : Pattern) (ls : List FormGroup) → AreFormGroups p ls → (ls ≡ [] → ⊥) → Covers p.spot p.forms 0 ls (length p.forms)
form_groups-cover p [] c h = absurd (h refl)
form_groups-cover p (l ∷ ls) c h = c

-- where the run with this number begins, and the runs after it
pub covers-at : (s : Spot) (forms : List Tree) (ls : List FormGroup) (i : ℕ) (l : FormGroup) (n e : ℕ) → slice_get ls i ≡ Some l
    → Covers s forms n (drop i ls) e
    → (n ≤ l.end) × (l.end ≤ length forms) × IsRun s forms l.word n l.end × Covers s forms l.end (drop (suc i) ls) e
covers-at s forms [] i l n e g c = absurd (cc)
covers-at s forms (k ∷ ls) zero l n e g c =
    let h : k ≡ l = cc in
    subst (λ (z : FormGroup). (n ≤ z.end) × (z.end ≤ length forms) × IsRun s forms z.word n z.end × Covers s forms z.end ls e) h c
covers-at s forms (k ∷ ls) (suc i) l n e g c = covers-at s forms ls i l n e g c

-- after the last run nothing is left
pub covers-all : (s : Spot) (forms : List Tree) (ls : List FormGroup) (i n e : ℕ) → length ls ≤ i → Covers s forms n (drop i ls) e → n ≡ e
covers-all s forms ls i n e le c = subst (λ ks. Covers s forms n ks e) (drop_all i ls le) c
