-- The counts that a table keeps are those of its formulas.
use Rattle.std.proofs.Common.{◌≡◌, ℕ, zero, suc, ◌+◌, ◌<◌, ◌≤◌, true, ◌&&◌, nat_le, min, take}
use Rattle.std.proofs.Common.{arith, sym, ap, ap₂, ◌∙◌, List, [], ◌∷◌, ◌++◌, map, length, get_or}
use Rattle.std.proofs.Common.{Some}
use Rattle.std.specs.Prelude.{slice_get}
use Rattle.std.proofs.lemmas.List.{get_or-map, length-map, map-append}
use Rattle.std.proofs.lemmas.Bool.Decides.{nat_tests}
use Rattle.ctl_formula.specs.Plain.{Plain, size, depth, fits, most_parts, most_around}
use Rattle.ctl_formula.specs.Plain as plain
use Rattle.ctl_formula.specs.declared.node.Node.{Node}
use Rattle.ctl_formula.specs.declared.parts.Part.{Part}
use Rattle.ctl_formula.specs.Tables.{at, plain_of, plains, below, ordered_from, ordered, Stands}
use Rattle.ctl_formula.specs.Counted.{nodes_of, IsCounted, counted_size, counted_depth}
use Rattle.ctl_formula.proofs.TableLemmas.{at-node, length-plains, plains-push, ordered-push, and-left}
use Rattle.ctl_formula.proofs.TableLemmas.{and-right}

pub get-some : {A : Type 0} (xs : List A) (i : ℕ) (x : A) → i < length xs → x ≡ get_or xs i x → slice_get xs i ≡ Some x
get-some [] i x h e = absurd (omega (arith, h))
get-some (y ∷ ys) zero x h e = ap Some (sym e)
get-some (y ∷ ys) (suc i) x h e = get-some ys i x (omega (arith, h)) e

pub some-within : {A : Type 0} (xs : List A) (i : ℕ) (x : A) → slice_get xs i ≡ Some x → i < length xs
some-within [] i x e = absurd cc
some-within (y ∷ ys) zero x e = omega arith
some-within (y ∷ ys) (suc i) x e = let r = some-within ys i x e in omega (arith, r)

get-map : (ps : List Part) (i : ℕ) (p : Part) → slice_get ps i ≡ Some p → slice_get (nodes_of ps) i ≡ Some p.node
get-map [] i p e = absurd cc
get-map (q ∷ ps) zero p e = let s : q ≡ p = cc in ap (λ (z : Part). Some z.node) s
get-map (q ∷ ps) (suc i) p e = get-map ps i p e

pub index-within : (ps : List Part) (ns : List Node) (i : ℕ) → nodes_of ps ≡ ns → i < length ns → i < length ps
index-within ps ns i v h = let l : length (nodes_of ps) ≡ length ps = length-map ps (λ (q : Part). q.node) in omega
    (arith, l, ap length v, h)

pub node-stands : (ps : List Part) (ns : List Node) (i : ℕ) (p : Part) → nodes_of ps ≡ ns → i < length ps
    → p ≡ get_or ps i p → Stands ns i p.node
node-stands ps ns i p v h e =
    let l : length (nodes_of ps) ≡ length ps = length-map ps (λ (q : Part). q.node) in
    let m : length (nodes_of ps) ≡ length ns = ap length v in
    record {
      within = omega (arith, l, m, h);
      is = ap (λ z. slice_get z i) (sym v)
          ∙ get-map ps i p (get-some ps i p h e);
    }

pub node-is : (ps : List Part) (ns : List Node) (i : ℕ) (p : Part) → nodes_of ps ≡ ns → IsCounted ps
    → i < length ps → p ≡ get_or ps i p
    → at (plains ns) i ≡ plain_of (plains ns) p.node
node-is ps ns i p v k h e = at-node ns i p.node (ap ordered (sym v) ∙ k.in_order) (node-stands ps ns i p v h e).is

below-at : (k : ℕ) (ns : List Node) (i : ℕ) (n : Node) → ordered_from k ns ≡ true → slice_get ns i ≡ Some n
    → below (k + i) n ≡ true
below-at k [] i n o e = absurd cc
below-at k (m ∷ ns) zero n o e = let z : k + 0 ≡ k = omega arith in let s : m ≡ n = cc in ap (λ q. below q n) z
    ∙ ap (below k) (sym s) ∙ and-left _ _ o
below-at k (m ∷ ns) (suc i) n o e = let z : k + suc i ≡ suc k + i = omega arith in ap (λ q. below q n) z
    ∙ below-at (suc k) ns i n (and-right _ _ o) e

pub node-below : (ps : List Part) (ns : List Node) (i : ℕ) (p : Part) → nodes_of ps ≡ ns → IsCounted ps
    → i < length ps → p ≡ get_or ps i p → below i p.node ≡ true
node-below ps ns i p v k h e = let z : 0 + i ≡ i = omega arith in
    ap (λ q. below q p.node) (sym z) ∙ below-at 0 ns i p.node (ap ordered (sym v)
    ∙ k.in_order) (node-stands ps ns i p v h e).is

counted-at : (f : Part → ℕ) (g : Plain → ℕ) (ps : List Part) (ns : List Node) (i : ℕ) (p : Part)
    → nodes_of ps ≡ ns → map f ps ≡ map g (plains (nodes_of ps))
    → i < length ps → p ≡ get_or ps i p → f p ≡ g (at (plains ns) i)
counted-at f g ps ns i p v m h e =
    let l : length (nodes_of ps) ≡ length ps = length-map ps (λ (q : Part). q.node) in
    let n : i < length (plains (nodes_of ps)) = omega (arith, l, h, length-plains (nodes_of ps)) in
    let a : get_or (map f ps) i 0 ≡ f (get_or ps i p) = get_or-map f ps i p 0 h in
    let b : get_or (map g (plains (nodes_of ps))) i 0 ≡ g (get_or (plains (nodes_of ps)) i plain.True) = get_or-map g
    (plains (nodes_of ps)) i plain.True 0 n in
    ap f e ∙ sym a ∙ ap (λ z. get_or z i 0) m ∙ b ∙ ap (λ z. g (at (plains z) i)) v

pub size-at : (ps : List Part) (ns : List Node) (i : ℕ) (p : Part) → nodes_of ps ≡ ns → IsCounted ps
    → i < length ps → p ≡ get_or ps i p → p.size ≡ counted_size (at (plains ns) i)
size-at ps ns i p v k h e = counted-at (λ q. q.size) counted_size ps ns i p v k.sizes h e

pub depth-at : (ps : List Part) (ns : List Node) (i : ℕ) (p : Part) → nodes_of ps ≡ ns → IsCounted ps
    → i < length ps → p ≡ get_or ps i p → p.depth ≡ counted_depth (at (plains ns) i)
depth-at ps ns i p v k h e = counted-at (λ q. q.depth) counted_depth ps ns i p v k.depths h e

pub size-few : (f : Plain) → counted_size f ≤ most_parts + 1
size-few f = omega arith

pub depth-few : (f : Plain) → counted_depth f ≤ most_around + 1
depth-few f = omega arith

le-counted : (a m : ℕ) → nat_le (min a (m + 1)) m ≡ nat_le a m
le-counted a m = grind (arith, nat_tests)

-- a formula fits exactly if its counts do
pub fits-counted : (f : Plain) → (nat_le (counted_size f) 100000 && nat_le (counted_depth f) 4000) ≡ fits f
fits-counted f = ap₂ (λ a b. a && b) (le-counted (size f) 100000) (le-counted (depth f) 4000)

counted-last : (ps : List Part) (p : Part) → IsCounted ps → below (length (nodes_of ps)) p.node ≡ true
    → p.size ≡ counted_size (plain_of (plains (nodes_of ps)) p.node)
    → p.depth ≡ counted_depth (plain_of (plains (nodes_of ps)) p.node)
    → IsCounted (ps ++ p ∷ [])
counted-last ps p k b s d =
    let ns = nodes_of ps in
    let n : nodes_of (ps ++ p ∷ []) ≡ ns ++ p.node ∷ [] = map-append (λ (q : Part). q.node) ps (p ∷ []) in
    let q : plains (nodes_of (ps ++ p ∷ [])) ≡ plains ns ++ plain_of (plains ns) p.node ∷ [] = ap plains n
    ∙ plains-push ns p.node in
    record {
      in_order = ap ordered n ∙ ordered-push ns p.node k.in_order b;
      sizes = map-append (λ (z : Part). z.size) ps (p ∷ []) ∙ ap (λ z. z ++ p.size ∷ []) k.sizes
          ∙ ap (λ z. map counted_size (plains ns) ++ z ∷ []) s
          ∙ sym (map-append counted_size (plains ns) (plain_of (plains ns) p.node ∷ []))
          ∙ ap (map counted_size) (sym q);
      depths = map-append (λ (z : Part). z.depth) ps (p ∷ []) ∙ ap (λ z. z ++ p.depth ∷ []) k.depths
          ∙ ap (λ z. map counted_depth (plains ns) ++ z ∷ []) d
          ∙ sym (map-append counted_depth (plains ns) (plain_of (plains ns) p.node ∷ []))
          ∙ ap (map counted_depth) (sym q);
    }

pub counted-push : (ps qs : List Part) (ns : List Node) (p : Part) → nodes_of ps ≡ ns → IsCounted ps
    → below (length ns) p.node ≡ true
    → p.size ≡ counted_size (plain_of (plains ns) p.node) → p.depth ≡ counted_depth (plain_of (plains ns) p.node)
    → qs ≡ ps ++ p ∷ [] → IsCounted qs
counted-push ps qs ns p v k b s d e = rw e (counted-last ps p k (rw v b) (rw v s) (rw v d))

-- one more node of the front
pub take-next : (ns : List Node) (i : ℕ) (m n : Node) → slice_get ns i ≡ Some n → m ≡ n
    → take i ns ++ m ∷ [] ≡ take (i + 1) ns
take-next [] i m n e q = absurd cc
take-next (x ∷ ns) zero m n e q = let s : x ≡ n = cc in ap (λ (z : Node). z ∷ []) (q ∙ sym s)
take-next (x ∷ ns) (suc i) m n e q =
    let s : suc (i + 1) ≡ suc i + 1 = omega arith in ap (λ z. x ∷ z) (take-next ns i m n e q)
    ∙ ap (λ z. take z (x ∷ ns)) s
