-- The loop over a tree that grows to the right.
use Rattle.std.proofs.Common.{◌≡◌, ℕ, ◌≤◌, ◌<◌, List, [], ◌∷◌, length, refl, subst, ap, sym, ◌∙◌, arith}
use Rattle.std.specs.Prelude.{Bool, true, false, not, ◌&&◌, IsTrue, Option, Some, None, if◌then◌else◌, nat_le}
use Rattle.std.proofs.lemmas.Bool.Decides.{nat_tests}
use Rattle.c_terms.specs.declared.tree.Tree.{Tree}
use Rattle.c_terms.specs.Trees.{levels}
use Rattle.c_expr.proofs.Built.{levels-build}
use Rattle.c_expr.proofs.OfKind.{kind_inv, kind_held}
use Rattle.c_rows.specs.declared.class.Class.{Class}
use Rattle.c_rows.specs.declared.kind.Kind.{Kind}
use Rattle.c_rows.specs.declared.rule.Rule.{Rule}
use Rattle.c_rows.specs.declared.kind.Family.{Family}
use Rattle.c_rows.specs.declared.kind.Family.TheVariants as family
use Rattle.c_rows.specs.declared.symbol.Symbol.TheVariants as symbol
use Rattle.c_rows.specs.Kinds.{family_of, same_family, within, has_leaf, rank, side}
use Rattle.c_rows.specs.Rows.{Row, row}
use Rattle.c_rows.specs.Branches.{kind_of, build, allows}
use Rattle.c_rows.specs.Choice.{after, quiet, stops, opens, tail, left, own}
use Rattle.c_rows.specs.Seen.{Seen, front}
use Rattle.c_rows.specs.Spells.{Spells, leaf, branch, Runs, done, word, child, argument, fork}
use Rattle.c_rows.specs.Growth.{Root, root_kind, root_ends, Operand, token, headed, Grows, here, more}
use Rattle.c_expr.specs.Steps.{takes, taking, rule_of_kind, next_rule, goes_on, OnlyOperand, OnlyGrowth, NoOperand, NoGrowth, GrowsBy, OnlyTree, NoTreeAt}
use Rattle.c_rows.proofs.Checks.{and_left, and_right, both, bottom_within, family_bottom, ends_rule, tail_word, tail_is, left_ends, word_led, tail_begins}
use Rattle.c_rows.proofs.FirstLemmas.{within_family, within_trans, after_mono}
use Rattle.c_rows.proofs.LengthLemmas.{need, runs_shorter}
use Rattle.c_rows.proofs.GrowthLemmas.{own_head, own_tail, left_child, Unwound, unwind}

-- ---- kinds

same_refl : (f : Family) → IsTrue (same_family f f)
same_refl family.Expression = refl
same_refl _ = refl

le_refl : (n : ℕ) → IsTrue (nat_le n n)
le_refl n = grind (arith, nat_tests)

pub within_refl : (k : Kind) → IsTrue (within k k)
within_refl k =
    both (same_family (family_of k) (family_of k) && nat_le (rank k) (rank k)) (nat_le (side k) (side k))
    (both (same_family (family_of k) (family_of k)) (nat_le (rank k) (rank k)) (same_refl (family_of k)) (le_refl (rank k))) (le_refl (side k))

not_back : (a b : Bool) → (IsTrue a → IsTrue b) → IsTrue (not b) → IsTrue (not a)
not_back true true f n = n
not_back true false f n = f refl
not_back false b f n = refl

quiet_mono : (k m : Kind) (o : Option Rule) → IsTrue (within k m) → IsTrue (quiet m o) → IsTrue (quiet k o)
quiet_mono k m None w h = refl
quiet_mono k m (Some r) w h = not_back (within (kind_of r) k) (within (kind_of r) m) (λ v. within_trans (kind_of r) k m v w) h

pub stops_mono : (k m : Kind) (c : Class) → IsTrue (within k m) → IsTrue (stops m c) → IsTrue (stops k c)
stops_mono k m c w s =
    let e : family_of m ≡ family_of k = sym (within_family k m w) in
    let q : IsTrue (quiet k (tail (family_of m) c)) = quiet_mono k m (tail (family_of m) c) w (and_right (after m c) (quiet m (tail (family_of m) c)) s) in
    both (after k c) (quiet k (tail (family_of k) c))
    (after_mono k m c w (and_left (after m c) (quiet m (tail (family_of m) c)) s))
    (subst (λ (f : Family). IsTrue (quiet k (tail f c))) e q)

-- ---- the rule that comes next

taking_inv : (f : Family) (q : Root) (o : Option Rule) (r : Rule) → taking f q o ≡ Some r → (o ≡ Some r) × IsTrue (takes f (left r) q)
taking_inv f q None r e = let never : ⊥ = cc in absurd never
taking_inv f q (Some p) r e = split (takes f (left p) q) refl e
  where
    split : (b : Bool) → takes f (left p) q ≡ b → (if b then Some p else None) ≡ Some r → (Some p ≡ Some r) × IsTrue (takes f (left r) q)
    split true v e = let same : p ≡ r = cc in (e, subst (λ (s : Rule). IsTrue (takes f (left s) q)) same v)
    split false v e = let never : ⊥ = cc in absurd never

taking_of : (f : Family) (q : Root) (r : Rule) → IsTrue (takes f (left r) q) → taking f q (Some r) ≡ Some r
taking_of f q r t = pick (takes f (left r) q) t
  where
    pick : (b : Bool) → IsTrue b → (if b then Some r else None) ≡ Some r
    pick true h = refl
    pick false h = let never : ⊥ = cc in absurd never

next_inv : (m : Kind) (q : Root) (o : Option Rule) (r : Rule) → next_rule m q o ≡ Some r
    → (o ≡ Some r) × IsTrue (within (kind_of r) m) × IsTrue (takes (family_of m) (left r) q)
next_inv m q o r e =
    let t = taking_inv (family_of m) q (rule_of_kind m o) r e in
    let k = kind_inv m o r t.0 in
    (k.0, k.1, t.1)

pub next_of : (m : Kind) (q : Root) (r : Rule) → IsTrue (within (kind_of r) m) → IsTrue (takes (family_of m) (left r) q) → next_rule m q (Some r) ≡ Some r
next_of m q r w t = ap (taking (family_of m) q) (kind_held m r w) ∙ taking_of (family_of m) q r t

some_left : (f : Family) (q : Root) (o : Option Kind) → IsTrue (takes f o q) → (l : Kind) × (o ≡ Some l) × IsTrue (within (root_kind f q) l)
some_left f q None t = let never : ⊥ = cc in absurd never
some_left f q (Some l) t = (l, refl, t)

quiet_not : (m : Kind) (o : Option Rule) (r : Rule) → IsTrue (quiet m o) → o ≡ Some r → IsTrue (within (kind_of r) m) → ⊥
quiet_not m o r s e w = let h : IsTrue (quiet m (Some r)) = subst (λ (p : Option Rule). IsTrue (quiet m p)) e s in clash (within (kind_of r) m) h w
  where
    clash : (b : Bool) → IsTrue (not b) → IsTrue b → ⊥
    clash true h w = cc
    clash false h w = cc

led_need : (ps : Row) → IsTrue (word_led ps) → 1 ≤ need ps
led_need [] h = let never : ⊥ = cc in absurd never
led_need (symbol.Word w ∷ ps) h = omega arith
led_need (symbol.Child k ∷ ps) h = let never : ⊥ = cc in absurd never
led_need (symbol.Argument ∷ ps) h = let never : ⊥ = cc in absurd never
led_need (symbol.Fork f ∷ ps) h = let never : ⊥ = cc in absurd never

pub word_opens : {ps : Row} {xs ys : List Seen} {cs : List Tree} → Runs ps xs cs ys → IsTrue (word_led ps) → IsTrue (opens ps (front xs))
word_opens done h = refl
word_opens (word f rest) h = f
word_opens (child d rest) h = let never : ⊥ = cc in absurd never
word_opens (argument d rest) h = let never : ⊥ = cc in absurd never
word_opens (fork i w v way) h = let never : ⊥ = cc in absurd never

pub lift : {k m : Kind} {xs ys : List Seen} {t : Tree} → IsTrue (within k m) → Spells k xs t ys → Spells m xs t ys
lift {k} {m} w (leaf {s = s} {ys = ys} h) = leaf (subst (λ (f : Family). IsTrue (has_leaf f s.class)) (within_family k m w) h)
lift {k} {m} w (branch r v b al runs) = branch r (within_trans (kind_of r) k m v w) b al runs

pub grows_levels : {m : Kind} {p q : Root} {a t : Tree} {xs ys : List Seen} → Grows m p a xs q t ys → levels a ≤ levels t
grows_levels here = omega arith
grows_levels {a = a} (more {cs = cs} r l w e u al runs rest) = omega (arith, grows_levels rest, levels-build r (a ∷ cs))

root_stops : (m : Kind) (q : Root) (c : Class) → IsTrue (within (root_kind (family_of m) q) m) → IsTrue (stops m c) → IsTrue (root_ends q c)
root_stops m None c w s = refl
root_stops m (Some r) c w s = ends_rule r c (stops_mono (kind_of r) m c w s)

left_root : (f : Family) (r : Rule) (l : Kind) (q : Root) (c : Class) → left r ≡ Some l → IsTrue (within (root_kind f q) l)
    → IsTrue (opens (own r) c) → IsTrue (root_ends q c)
left_root f r l None c e w o = refl
left_root f r l (Some q) c e w o = left_ends r l q c e w o

-- the first tree ends where the whole tree continues
pub grows_ends : {m : Kind} {p q : Root} {a t : Tree} {xs ys : List Seen} → Grows m p a xs q t ys
    → IsTrue (within (root_kind (family_of m) p) m) → IsTrue (stops m (front ys))
    → IsTrue (root_ends p (front xs))
grows_ends {m} {p} {xs = xs} here w s = root_stops m p (front xs) w s
grows_ends {m} {p} {xs = xs} (more r l v e u al runs rest) w s = left_root (family_of m) r l p (front xs) e u (word_opens runs (tail_word r l e))

pub record Growing (most : ℕ) (m : Kind) (xs : List Seen) (q : Root) (t : Tree) (ys : List Seen) : Type 0 where
  pub sound : Spells (root_kind (family_of m) q) xs t ys
  pub memo : IsTrue (within (root_kind (family_of m) q) m)
  pub only : (u : Tree) (zs : List Seen) → Spells m xs u zs → IsTrue (stops m (front zs)) → levels u ≤ most → (p : Root) × Grows m q t ys p u zs

-- ---- the first operand

operand_sound : {m : Kind} {q : Root} {xs ys : List Seen} {t : Tree} → Operand m q xs t ys → Spells (root_kind (family_of m) q) xs t ys
operand_sound {m} (token {s = s} {ys = ys} h) = leaf (subst (λ (f : Family). IsTrue (has_leaf f s.class)) (sym (family_bottom (family_of m))) h)
operand_sound (headed {xs = xs} {ys = ys} {cs = cs} r v e b al runs) =
    branch r (within_refl (kind_of r)) b al (subst (λ (ps : Row). Runs ps xs cs ys) (own_head r e) runs)

pub operand_within : {m : Kind} {q : Root} {xs ys : List Seen} {t : Tree} → Operand m q xs t ys → IsTrue (within (root_kind (family_of m) q) m)
operand_within {m} (token h) = bottom_within m
operand_within (headed r v e b al runs) = v

start_only : (most : ℕ) (m : Kind) (xs : List Seen) (q : Root) (t : Tree) (ys : List Seen) → OnlyOperand most m xs q t ys
    → (u : Tree) (zs : List Seen) → IsTrue (stops m (front zs)) → levels u ≤ most
    → Unwound m xs u zs → (p : Root) × Grows m q t ys p u zs
start_only most m xs q t ys one u zs s le w =
    let e : IsTrue (root_ends w.first_root (front w.middle)) = grows_ends w.grown (operand_within w.operand) s in
    let l : levels w.first ≤ most = omega (arith, grows_levels w.grown) in
    let same = one w.first_root w.first w.middle w.operand e l in (
      w.root,
      subst (λ (a : Root). Grows m a t ys w.root u zs) (sym same.0)
          (subst (λ (a : Tree). Grows m w.first_root a ys w.root u zs) (sym same.1)
          (subst (λ (bs : List Seen). Grows m w.first_root w.first bs w.root u zs) (sym same.2) w.grown)),
    )

pub growing_start : (most : ℕ) (m : Kind) (xs : List Seen) (q : Root) (t : Tree) (ys : List Seen) → Operand m q xs t ys
    → OnlyOperand most m xs q t ys → Growing most m xs q t ys
growing_start most m xs q t ys o one = record {
  sound = operand_sound o;
  memo = operand_within o;
  only = λ u zs d s le. start_only most m xs q t ys one u zs s le (unwind d);
}

-- ---- one more turn

more_same : (most : ℕ) (m : Kind) (q : Root) (t : Tree) (ys : List Seen) (r : Rule) (cs : List Tree) (zs : List Seen)
    → goes_on m q (front ys) ≡ Some r → OnlyGrowth most r t ys cs zs
    → {p : Root} {u : Tree} {vs : List Seen} → Grows m q t ys p u vs → IsTrue (stops m (front vs)) → levels u ≤ most
    → Grows m (Some r) (build r (t ∷ cs)) zs p u vs
more_same most m q t ys r cs zs next one here s le =
    let n = next_inv m q (tail (family_of m) (front ys)) r next in
    absurd (quiet_not m (tail (family_of m) (front ys)) r (and_right (after m (front ys)) (quiet m (tail (family_of m) (front ys))) s) n.0 n.1)
more_same most m q t ys r cs zs next one {p} {u} {vs} (more {ys = xs'} {cs = ds} r' l' v e w al runs rest) s le =
    let n = next_inv m q (tail (family_of m) (front ys)) r next in
    let here_tail : tail (family_of m) (front ys) ≡ Some r' =
    subst (λ (f : Family). tail f (front ys) ≡ Some r') (within_family (kind_of r') m v) (tail_is r' l' (front ys) e (word_opens runs (tail_word r' l' e))) in
    let same : r' ≡ r = cc in
    let rest' : Grows m (Some r) (build r (t ∷ ds)) xs' p u vs = subst (λ (x : Rule). Grows m (Some x) (build x (t ∷ ds)) xs' p u vs) same rest in
    let runs' : Runs (own r) ys ds xs' = subst (λ (x : Rule). Runs (own x) ys ds xs') same runs in
    let lev : levels (build r (t ∷ ds)) ≤ most = omega (arith, grows_levels rest') in
    let al' : IsTrue (allows r (t ∷ ds)) = subst (λ (x : Rule). IsTrue (allows x (t ∷ ds))) same al in
    let done_here = one ds xs' runs' (grows_ends rest' n.1 s) al' lev in
    subst (λ (ks : List Tree). Grows m (Some r) (build r (t ∷ ks)) zs p u vs) (sym done_here.0)
    (subst (λ (bs : List Seen). Grows m (Some r) (build r (t ∷ ds)) bs p u vs) (sym done_here.1) rest')

pub growing_more : (most : ℕ) (m : Kind) (xs : List Seen) (q : Root) (t : Tree) (ys : List Seen) (r : Rule) (cs : List Tree)
    (zs : List Seen) → Growing most m xs q t ys
    → goes_on m q (front ys) ≡ Some r → Runs (own r) ys cs zs → OnlyGrowth most r t ys cs zs → IsTrue (allows r (t ∷ cs))
    → Growing most m xs (Some r) (build r (t ∷ cs)) zs
growing_more most m xs q t ys r cs zs g next runs one al =
    let n = next_inv m q (tail (family_of m) (front ys)) r next in
    let l = some_left (family_of m) q (left r) n.2 in
    let shape : symbol.Child l.0 ∷ own r ≡ row r =
    ap (λ (ps : Row). symbol.Child l.0 ∷ ps) (own_tail r l.0 l.1) ∙ sym (left_child (family_of (kind_of r)) (row r) l.0 l.1) in
    record {
      sound = branch r (within_refl (kind_of r)) (tail_begins r l.0 (front xs) l.1) al
          (subst (λ (ps : Row). Runs ps xs (t ∷ cs) zs) shape (child (lift l.2 g.sound) runs));
      memo = n.1;
      only = λ u vs d s le. let h = g.only u vs d s le in (h.0, more_same most m q t ys r cs zs next one h.1 s le);
    }

-- ---- the end

nothing_more : (m : Kind) (q : Root) (t : Tree) (ys : List Seen) → goes_on m q (front ys) ≡ None
    → {p : Root} {u : Tree} {vs : List Seen} → Grows m q t ys p u vs → (t ≡ u) × (ys ≡ vs)
nothing_more m q t ys none here = (refl, refl)
nothing_more m q t ys none (more r l v e w al runs rest) =
    let here_tail : tail (family_of m) (front ys) ≡ Some r =
    subst (λ (f : Family). tail f (front ys) ≡ Some r) (within_family (kind_of r) m v) (tail_is r l (front ys) e (word_opens runs (tail_word r l e))) in
    let takes_it : IsTrue (takes (family_of m) (left r) q) = subst (λ (o : Option Kind). IsTrue (takes (family_of m) o q)) (sym e) w in
    let goes : goes_on m q (front ys) ≡ Some r = ap (next_rule m q) here_tail ∙ next_of m q r v takes_it in
    let never : ⊥ = cc in absurd never

pub growing_end : (most : ℕ) (m : Kind) (xs : List Seen) (q : Root) (t : Tree) (ys : List Seen) → Growing most m xs q t ys → goes_on m q (front ys) ≡ None
    → (u : Tree) (zs : List Seen) → Spells m xs u zs → IsTrue (stops m (front zs)) → levels u ≤ most → (t ≡ u) × (ys ≡ zs)
growing_end most m xs q t ys g none u zs d s le = let h = g.only u zs d s le in nothing_more m q t ys none h.1

-- ---- as the code's answers cite it

pub turn : (most : ℕ) (m : Kind) (xs : List Seen) (q p : Root) (t u : Tree) (ys zs : List Seen) (c : Class) (r : Rule)
    → Growing most m xs q t ys → c ≡ front ys → Some r ≡ goes_on m q c
    → GrowsBy most r t ys p u zs → Growing most m xs p u zs
turn most m xs q p t u ys zs c r g e n by =
    subst (λ (a : Root). Growing most m xs a u zs) (sym by.1) (subst (λ (a : Tree). Growing most m xs (Some r) a zs) (sym by.2)
    (growing_more most m xs q t ys r by.0 zs g (ap (goes_on m q) (sym e) ∙ sym n) by.3 by.4 by.5))

pub shorter : (most : ℕ) (m : Kind) (q p : Root) (t u : Tree) (ys zs : List Seen) (c : Class) (r : Rule) → c ≡ front ys
    → Some r ≡ goes_on m q c → GrowsBy most r t ys p u zs → length zs < length ys
shorter most m q p t u ys zs c r e n by =
    let h = next_inv m q (tail (family_of m) (front ys)) r (ap (goes_on m q) (sym e) ∙ sym n) in
    let l = some_left (family_of m) q (left r) h.2 in
    let need_one : 1 ≤ need (own r) = led_need (own r) (tail_word r l.0 l.1) in
    omega (arith, runs_shorter by.3)

never_more : (most : ℕ) (m : Kind) (q : Root) (t : Tree) (ys : List Seen) (r : Rule) → goes_on m q (front ys) ≡ Some r → NoGrowth most r t ys
    → {p : Root} {u : Tree} {vs : List Seen} → Grows m q t ys p u vs → IsTrue (stops m (front vs)) → levels u ≤ most → ⊥
never_more most m q t ys r next none here s le =
    let n = next_inv m q (tail (family_of m) (front ys)) r next in
    quiet_not m (tail (family_of m) (front ys)) r (and_right (after m (front ys)) (quiet m (tail (family_of m) (front ys))) s) n.0 n.1
never_more most m q t ys r next none {p} {u} {vs} (more {ys = xs'} {cs = ds} r' l' v e w al runs rest) s le =
    let n = next_inv m q (tail (family_of m) (front ys)) r next in
    let here_tail : tail (family_of m) (front ys) ≡ Some r' =
    subst (λ (f : Family). tail f (front ys) ≡ Some r') (within_family (kind_of r') m v) (tail_is r' l' (front ys) e (word_opens runs (tail_word r' l' e))) in
    let same : r' ≡ r = cc in
    let rest' : Grows m (Some r) (build r (t ∷ ds)) xs' p u vs = subst (λ (x : Rule). Grows m (Some x) (build x (t ∷ ds)) xs' p u vs) same rest in
    let lev : levels (build r (t ∷ ds)) ≤ most = omega (arith, grows_levels rest') in
    none ds xs' (subst (λ (x : Rule). Runs (own x) ys ds xs') same runs) (grows_ends rest' n.1 s) (subst (λ (x : Rule). IsTrue (allows x (t ∷ ds))) same al) lev

pub stuck : (most : ℕ) (m : Kind) (xs : List Seen) (q : Root) (t : Tree) (ys : List Seen) (c : Class) (r : Rule)
    → Growing most m xs q t ys → c ≡ front ys → Some r ≡ goes_on m q c → NoGrowth most r t ys
    → NoTreeAt most m xs
stuck most m xs q t ys c r g e n none u zs d s le = let h = g.only u zs d s le in never_more most m q t ys r (ap (goes_on m q) (sym e) ∙ sym n) none h.1 s le

pub found : (most : ℕ) (m : Kind) (xs : List Seen) (q : Root) (t : Tree) (ys : List Seen) → Growing most m xs q t ys → Spells m xs t ys
found most m xs q t ys g = lift g.memo g.sound

pub finished : (most : ℕ) (m : Kind) (xs : List Seen) (q : Root) (t : Tree) (ys : List Seen) (c : Class)
    → Growing most m xs q t ys → c ≡ front ys → None ≡ goes_on m q c → OnlyTree most m xs t ys
finished most m xs q t ys c g e n = growing_end most m xs q t ys g (ap (goes_on m q) (sym e) ∙ sym n)

pub no_start : (most : ℕ) (m : Kind) (xs : List Seen) → NoOperand most m xs → NoTreeAt most m xs
no_start most m xs none u zs d s le =
    let w = unwind d in
    none w.first_root w.first w.middle w.operand (grows_ends w.grown (operand_within w.operand) s) (omega (arith, grows_levels w.grown))
