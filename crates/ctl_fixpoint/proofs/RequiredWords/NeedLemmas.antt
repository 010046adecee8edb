-- Steps of the code that searches for words.
use Rattle.std.proofs.Common.{◌≡◌, ℕ, zero, suc, ◌+◌, ◌<◌, ◌≤◌, Bool, true, false, ◌&&◌, ◌||◌, refl, sym, subst, ap, ◌∙◌, arith}
use Rattle.std.proofs.Common.{List, [], ◌∷◌, ◌++◌, map, length, take, drop, get_or, add-one, Some}
use Rattle.std.specs.Prelude.{slice_get}
use Rattle.std.specs.List.{list_any}
use Rattle.std.proofs.lemmas.List.{length-map, map_more}
use Rattle.std.proofs.lemmas.List.Folds.{list_any-append}
use Rattle.std.proofs.lemmas.Grind.{common_steps}
use Rattle.c_terms.specs.Same.{same_bytes}
use Rattle.c_terms.proofs.BareLaws.{same_bytes-equal}
use Rattle.ctl_formula.specs.Plain.{Plain}
use Rattle.ctl_formula.specs.Plain as plain
use Rattle.ctl_formula.specs.declared.node.Node.{Node}
use Rattle.ctl_formula.specs.Tables.{at, plain_of, plains, below}
use Rattle.ctl_formula.proofs.FrontLemmas.{node-front}
use Rattle.ctl_formula.proofs.TableLemmas.{length-plains}
use Rattle.c_terms.specs.declared.label.Label.{Label}
use Rattle.c_terms.specs.declared.tree.Tree.{Tree}
use Rattle.c_terms.specs.declared.tree.Tree.TheVariants.{Branch}
use Rattle.ctl_fixpoint.specs.RequiredWords.Words.{is_among, has_word, needs}
use Rattle.ctl_fixpoint.specs.RequiredWords.Standing.{stands_at}
use Rattle.ctl_fixpoint.proofs.RequiredWords.WordLemmas.{word-Branch}
use Rattle.ctl_fixpoint.proofs.RequiredWords.StandLemmas.{needed_stands}

-- ---- a table from its front

pub known-more : (g : Plain → Bool) (ns : List Node) (i : ℕ) (ks more : List Bool) (b : Bool) (n : Node)
    → i < length ns → below i n ≡ true
    → at (plains ns) i ≡ plain_of (plains ns) n → more ≡ ks ++ b ∷ [] → ks ≡ map g (take i (plains ns))
    → b ≡ g (plain_of (take i (plains ns)) n)
    → more ≡ map g (take (i + 1) (plains ns))
known-more g ns i ks more b n h k e m s r =
    let l : i < length (plains ns) = omega (arith, h, length-plains ns) in
    let a : map g (take (i + 1) (plains ns)) ≡ map g (take i (plains ns)) ++ g (get_or (plains ns) i plain.True) ∷ []
    = map_more g (plains ns) i plain.True l in
    let f : b ≡ g (get_or (plains ns) i plain.True) = r ∙ ap g (node-front (plains ns) i n l k ∙ sym e) in
    m ∙ ap (λ z. z ++ b ∷ []) s ∙ ap (λ z. map g (take i (plains ns)) ++ z ∷ []) f ∙ sym a

take-all : (fs : List Plain) (i : ℕ) → length fs ≤ i → take i fs ≡ fs
take-all fs i h = grind (arith, common_steps)

pub known-all : (g : Plain → Bool) (ns : List Node) (i : ℕ) (ks : List Bool) → length ns ≤ i
    → ks ≡ map g (take i (plains ns)) → ks ≡ map g (plains ns)
known-all g ns i ks h e = e ∙ ap (map g) (take-all (plains ns) i (omega (arith, h, length-plains ns)))

pub known-within : (g : Plain → Bool) (ns : List Node) (ks slice : List Bool) (root : ℕ) → root < length ns → slice ≡ ks
    → ks ≡ map g (plains ns) → root < length slice
known-within g ns ks slice root h s e =
    omega (arith, h, ap length s, ap length e, length-map (plains ns) g, length-plains ns)

-- ---- words that are added to a list

stays : (a n s : Bool) → (s ≡ true → a ≡ true) → a ≡ (a || (n && s))
stays true n s h = refl
stays false n true h = absurd (let e = h refl in cc)
stays false true false h = refl
stays false false false h = refl

left_out : (a n s : Bool) → (s ≡ true → n ≡ false) → a ≡ (a || (n && s))
left_out true n s h = refl
left_out false true true h = absurd (let e = h refl in cc)
left_out false true false h = refl
left_out false false s h = refl

same_if : (n s : Bool) → (s ≡ true → n ≡ true) → (s || false) ≡ (n && s)
same_if true true h = refl
same_if true false h = refl
same_if false true h = absurd (let e = h refl in cc)
same_if false false h = refl

-- what the list has then, if the words that pass the test are added
abbrev pub Puts : (List ℕ → Bool) → (List ℕ → Bool) → List (List ℕ) → List (List ℕ) → Type 0
Puts needed passes old new = (w : List ℕ) → is_among new w ≡ (is_among old w || (needed w && passes w))

module _ (needed : List ℕ → Bool) (words : List (List ℕ)) (x : List ℕ) where
  pub put-there : is_among words x ≡ true → Puts needed (λ w. same_bytes x w) words words
  put-there h w = stays (is_among words w) (needed w) (same_bytes x w)
      (λ e. subst (λ z. is_among words z ≡ true) (same_bytes-equal x w e) h)

  pub put-unneeded : needed x ≡ false → Puts needed (λ w. same_bytes x w) words words
  put-unneeded h w = left_out (is_among words w) (needed w) (same_bytes x w)
      (λ e. subst (λ z. needed z ≡ false) (same_bytes-equal x w e) h)

  pub put-new : (new : List (List ℕ)) → new ≡ words ++ x ∷ [] → needed x ≡ true → Puts needed (λ w. same_bytes x w) words new
  put-new new n h w =
      ap (λ ws. is_among ws w) n ∙ list_any-append (λ y. same_bytes y w) words (x ∷ [])
      ∙ ap (λ b. is_among words w || b) (same_if (needed w) (same_bytes x w) (λ e. subst (λ z. needed z ≡ true) (same_bytes-equal x w e) h))

no_more : (a n : Bool) → a ≡ (a || (n && false))
no_more true n = refl
no_more false true = refl
no_more false false = refl

-- no words are to be added
pub put-none : (needed passes : List ℕ → Bool) (words : List (List ℕ)) → ((w : List ℕ) → passes w ≡ false) → Puts needed passes words words
put-none needed passes words h w = no_more (is_among words w) (needed w) ∙ ap (λ b. is_among words w || (needed w && b)) (sym (h w))

shuffle : (a n c r : Bool) → ((a || (n && c)) || (n && r)) ≡ (a || (n && (c || r)))
shuffle true n c r = refl
shuffle false true c r = refl
shuffle false false c r = refl

-- these words are added, and then the rest
pub put-more : (a b n c r t z : Bool) → b ≡ (a || (n && c)) → t ≡ (c || r) → (a || (n && t)) ≡ z → (b || (n && r)) ≡ z
put-more a b n c r t z e f h = ap (λ y. y || (n && r)) e ∙ shuffle a n c r ∙ ap (λ y. a || (n && y)) (sym f) ∙ h

-- when nothing is left
pub put-all : (a n r z : Bool) → r ≡ false → (a || (n && r)) ≡ z → a ≡ z
put-all a n r z e h = no_more a n ∙ ap (λ y. a || (n && y)) (sym e) ∙ h

-- ---- the words of a tree, and of a table

pub kids_shown : (w : List ℕ) (u : Tree) (l : Label) (cs ds : List Tree) → u ≡ Branch l cs → ds ≡ cs → list_any (has_word w) ds ≡ has_word w u
kids_shown w u l cs ds e g = ap (list_any (has_word w)) g ∙ sym (word-Branch w l cs) ∙ ap (has_word w) (sym e)

next-suc : {X : Type 0} (q : X → Bool) (xs : List X) (i : ℕ) (x : X) → slice_get xs i ≡ Some x
    → list_any q (drop i xs) ≡ (q x || list_any q (drop (suc i) xs))
next-suc q [] i x e = absurd (cc)
next-suc q (y ∷ ys) zero x e = let s : y ≡ x = cc in ap (λ z. q z || list_any q ys) s
next-suc q (y ∷ ys) (suc i) x e = next-suc q ys i x e

any_next : {X : Type 0} (q : X → Bool) (xs : List X) (i : ℕ) (x : X) → slice_get xs i ≡ Some x
    → list_any q (drop i xs) ≡ (q x || list_any q (drop (i + 1) xs))
any_next q xs i x e = next-suc q xs i x e ∙ ap (λ k. q x || list_any q (drop k xs)) (sym (add-one i))

any_past : {X : Type 0} (q : X → Bool) (xs : List X) (i : ℕ) → length xs ≤ i → list_any q (drop i xs) ≡ false
any_past q [] zero h = refl
any_past q [] (suc i) h = refl
any_past q (x ∷ xs) zero h = absurd (omega (arith, h))
any_past q (x ∷ xs) (suc i) h = any_past q xs i (omega (arith, h))

both_if : (n s : Bool) → (n ≡ true → s ≡ true) → (n && s) ≡ n
both_if true s h = h refl
both_if false s h = refl

-- a node's words are added, and then those of the later nodes
pub node_more : (w : List ℕ) (n : Bool) (ns : List Node) (i : ℕ) (x : Node) (old new : List (List ℕ)) (z : Bool) → slice_get ns i ≡ Some x
    → is_among new w ≡ (is_among old w || (n && stands_at w x))
    → (is_among old w || (n && list_any (stands_at w) (drop i ns))) ≡ z
    → (is_among new w || (n && list_any (stands_at w) (drop (i + 1) ns))) ≡ z
node_more w n ns i x old new z e p h =
    put-more (is_among old w) (is_among new w) n (stands_at w x) (list_any (stands_at w) (drop (i + 1) ns)) (list_any (stands_at w) (drop i ns)) z
    p (any_next (stands_at w) ns i x e) h

-- when all nodes are done
pub nodes_all : (w : List ℕ) (ns : List Node) (root i : ℕ) (found : List (List ℕ)) → length ns ≤ i
    → (is_among found w || (needs w (at (plains ns) root) && list_any (stands_at w) (drop i ns)))
    ≡ (needs w (at (plains ns) root) && list_any (stands_at w) ns)
    → is_among found w ≡ needs w (at (plains ns) root)
nodes_all w ns root i found le h =
    put-all (is_among found w) (needs w (at (plains ns) root)) (list_any (stands_at w) (drop i ns)) (needs w (at (plains ns) root) && list_any (stands_at w) ns)
    (any_past (stands_at w) ns i le) h
    ∙ both_if (needs w (at (plains ns) root)) (list_any (stands_at w) ns) (needed_stands w ns root)
