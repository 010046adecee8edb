-- Tables grow at their end, and existing parts keep their formulas.
use Rattle.std.proofs.Common.{◌≡◌, ℕ, zero, suc, ◌+◌, ◌<◌, ◌≤◌, Bool, true, false, ◌&&◌, nat_lt, arith, refl}
use Rattle.std.proofs.Common.{sym, ap, ◌∙◌, List, [], ◌∷◌, ◌++◌, length, append_assoc}
use Rattle.std.proofs.Common.{append-nil, length-append, Some}
use Rattle.std.specs.Prelude.{slice_get}
use Rattle.std.proofs.lemmas.Bool.Decides.{nat_tests}
use Rattle.ctl_formula.specs.Plain.{Plain}
use Rattle.ctl_formula.specs.Plain as plain
use Rattle.ctl_formula.specs.declared.node.Node.{Node}
use Rattle.ctl_formula.specs.declared.node.Node.TheVariants as node
use Rattle.ctl_formula.specs.Tables.{at, plain_of, plains_from, plains, below, ordered_from, ordered, Grows, Makes}

pub plains_from-append : (fs : List Plain) (ns ms : List Node)
    → plains_from fs (ns ++ ms) ≡ plains_from (plains_from fs ns) ms
plains_from-append fs [] ms = refl
plains_from-append fs (n ∷ ns) ms = plains_from-append (fs ++ plain_of fs n ∷ []) ns ms

-- one more node
pub plains-push : (ns : List Node) (n : Node) → plains (ns ++ n ∷ []) ≡ plains ns ++ plain_of (plains ns) n ∷ []
plains-push ns n = plains_from-append [] ns (n ∷ [])

-- existing formulas stay at the front
pub plains_from-front : (fs : List Plain) (ns : List Node) → (more : List Plain) × (plains_from fs ns ≡ fs ++ more)
plains_from-front fs [] = ([], sym (append-nil fs))
plains_from-front fs (n ∷ ns) =
    let r = plains_from-front (fs ++ plain_of fs n ∷ []) ns in
    ((plain_of fs n ∷ []) ++ r.0, r.1 ∙ append_assoc fs (plain_of fs n ∷ []) r.0)

pub length-plains_from : (fs : List Plain) (ns : List Node) → length (plains_from fs ns) ≡ length fs + length ns
length-plains_from fs [] = omega arith
length-plains_from fs (n ∷ ns) = let r = length-plains_from (fs ++ plain_of fs n ∷ []) ns in omega (
  arith,
  r,
  length-append fs (plain_of fs n ∷ []),
)

pub length-plains : (ns : List Node) → length (plains ns) ≡ length ns
length-plains ns = let r = length-plains_from [] ns in omega (arith, r)

-- parts at the front don't move
pub at-front : (fs more : List Plain) (i : ℕ) → i < length fs → at (fs ++ more) i ≡ at fs i
at-front [] more i h = absurd (omega (arith, h))
at-front (f ∷ fs) more zero h = refl
at-front (f ∷ fs) more (suc i) h = at-front fs more i (omega (arith, h))

pub at-last : (fs : List Plain) (f : Plain) (more : List Plain) → at (fs ++ f ∷ more) (length fs) ≡ f
at-last [] f more = refl
at-last (g ∷ fs) f more = at-last fs f more

-- parts keep their formulas while the table grows
pub at-grows : (old new : List Node) (i : ℕ) → Grows old new → i < length old → at (plains new) i ≡ at (plains old) i
at-grows old new i g h =
    let e = plains_from-append [] old g.0 in
    let r = plains_from-front (plains old) g.0 in
    let l : i < length (plains old) = omega (arith, h, length-plains old) in
    ap (λ z. at (plains z) i) g.1 ∙ ap (λ z. at z i) (e ∙ r.1) ∙ at-front (plains old) r.0 i l

pub grows-refl : (ns : List Node) → Grows ns ns
grows-refl ns = ([], sym (append-nil ns))

pub grows-trans : (a b c : List Node) → Grows a b → Grows b c → Grows a c
grows-trans a b c g h = (g.0 ++ h.0, h.1 ∙ ap (λ z. z ++ h.0) g.1 ∙ append_assoc a g.0 h.0)

pub grows-length : (a b : List Node) → Grows a b → length a ≤ length b
grows-length a b g = omega (arith, ap length g.1, length-append a g.0)

pub lt-true : (i n : ℕ) → nat_lt i n ≡ true → i < n
lt-true i n h = grind (arith, nat_tests)

pub and-left : (a b : Bool) → (a && b) ≡ true → a ≡ true
and-left true b h = refl
and-left false b h = h

pub and-right : (a b : Bool) → (a && b) ≡ true → b ≡ true
and-right true b h = h
and-right false b h = absurd cc

-- a node's formula over a longer list of parts
pub plain_of-front : (n : Node) (fs more : List Plain) → below (length fs) n ≡ true
    → plain_of (fs ++ more) n ≡ plain_of fs n
plain_of-front node.True fs more h = refl
plain_of-front (node.Atom p) fs more h = refl
plain_of-front node.EarlyExit fs more h = refl
plain_of-front (node.BraceOpen p b) fs more h = refl
plain_of-front (node.BraceClose p b) fs more h = refl
plain_of-front (node.Inside b) fs more h = refl
plain_of-front (node.Outside b) fs more h = refl
plain_of-front (node.Not i) fs more h = ap plain.Not (at-front fs more i (lt-true _ _ h))
plain_of-front (node.And i j) fs more h = let a = at-front fs more i (lt-true _ _ (and-left _ _ h)) in let b =
    at-front fs more j (lt-true _ _ (and-right _ _ h)) in cc
plain_of-front (node.Or i j) fs more h = let a = at-front fs more i (lt-true _ _ (and-left _ _ h)) in let b =
    at-front fs more j (lt-true _ _ (and-right _ _ h)) in cc
plain_of-front (node.AX i) fs more h = ap plain.AX (at-front fs more i (lt-true _ _ h))
plain_of-front (node.EX i) fs more h = ap plain.EX (at-front fs more i (lt-true _ _ h))
plain_of-front (node.AU i j) fs more h = let a = at-front fs more i (lt-true _ _ (and-left _ _ h)) in let b =
    at-front fs more j (lt-true _ _ (and-right _ _ h)) in cc
plain_of-front (node.EU i j) fs more h = let a = at-front fs more i (lt-true _ _ (and-left _ _ h)) in let b =
    at-front fs more j (lt-true _ _ (and-right _ _ h)) in cc
plain_of-front (node.After i) fs more h = ap plain.After (at-front fs more i (lt-true _ _ h))
plain_of-front (node.InBranch k i) fs more h = ap (plain.InBranch k) (at-front fs more i (lt-true _ _ h))
plain_of-front (node.Exists x i) fs more h = ap (plain.Exists x) (at-front fs more i (lt-true _ _ h))

-- a node's formula, in a table from some part on
at-node_from : (fs : List Plain) (ns : List Node) (j : ℕ) (n : Node) → ordered_from (length fs) ns ≡ true
    → slice_get ns j ≡ Some n
    → at (plains_from fs ns) (length fs + j) ≡ plain_of (plains_from fs ns) n
at-node_from fs [] j n o e = absurd cc
at-node_from fs (m ∷ ns) zero n o e =
    let same : m ≡ n = cc in
    let r = plains_from-front (fs ++ plain_of fs m ∷ []) ns in
    let s : plains_from fs (m ∷ ns) ≡ fs ++ (plain_of fs m ∷ r.0) = r.1 ∙ append_assoc fs (plain_of fs m ∷ []) r.0 in
    let a : at (fs ++ (plain_of fs m ∷ r.0)) (length fs) ≡ plain_of fs m = at-last fs (plain_of fs m) r.0 in
    let b : plain_of (fs ++ (plain_of fs m ∷ r.0)) m ≡ plain_of fs m = plain_of-front m fs _ (and-left _ _ o) in
    let z : length fs + 0 ≡ length fs = omega arith in
    ap (at (plains_from fs (m ∷ ns))) z ∙ ap (λ q. at q (length fs)) s ∙ a ∙ sym b
    ∙ ap (λ q. plain_of q m) (sym s) ∙ ap (plain_of (plains_from fs (m ∷ ns))) same
at-node_from fs (m ∷ ns) (suc j) n o e =
    let len : length (fs ++ plain_of fs m ∷ []) ≡ suc (length fs) = omega (
      arith,
      length-append fs (plain_of fs m ∷
          []),
    ) in
    let rest : ordered_from (length (fs ++ plain_of fs m ∷ [])) ns ≡ true = ap (λ k. ordered_from k ns) len
    ∙ and-right _ _ o in
    let r = at-node_from (fs ++ plain_of fs m ∷ []) ns j n rest e in
    let z : length fs + suc j ≡ length (fs ++ plain_of fs m ∷ []) + j = omega (arith, len) in
    ap (at (plains_from fs (m ∷ ns))) z ∙ r

-- the formula of part i is that of its node over the formulas of the table
pub at-node : (ns : List Node) (i : ℕ) (n : Node) → ordered ns ≡ true → slice_get ns i ≡ Some n
    → at (plains ns) i ≡ plain_of (plains ns) n
at-node ns i n o e = let z : i ≡ 0 + i = omega arith in ap (at (plains ns)) z ∙ at-node_from [] ns i n o e

ordered_from-push : (k : ℕ) (ns : List Node) (n : Node) → ordered_from k ns ≡ true
    → below (k + length ns) n ≡ true → ordered_from k (ns ++ n ∷ []) ≡ true
ordered_from-push k [] n o b =
    let z : k + 0 ≡ k = omega arith in
    let c : below k n ≡ true = ap (λ q. below q n) (sym z) ∙ b in
    ap (λ q. q && true) c
ordered_from-push k (m ∷ ns) n o b =
    let z : k + length (m ∷ ns) ≡ suc k + length ns = omega arith in
    let c : below (suc k + length ns) n ≡ true = ap (λ q. below q n) (sym z) ∙ b in
    let r = ordered_from-push (suc k) ns n (and-right _ _ o) c in
    let h = and-left _ _ o in
    ap (λ q. q && ordered_from (suc k) (ns ++ n ∷ [])) h ∙ r

pub ordered-push : (ns : List Node) (n : Node) → ordered ns ≡ true → below (length ns) n ≡ true
    → ordered (ns ++ n ∷ []) ≡ true
ordered-push ns n o b = let z : 0 + length ns ≡ length ns = omega arith in ordered_from-push 0 ns n o (ap (λ q. below
    q n) z ∙ b)

-- a node that is there already
pub made-found : (ns : List Node) (i : ℕ) (n : Node) → ordered ns ≡ true → i < length ns → slice_get ns i ≡ Some n
    → Makes ns ns i (plain_of (plains ns) n)
made-found ns i n o h e = record { within = h; is = at-node ns i n o e; grows = grows-refl ns }

-- a node that is added at the end
pub made-pushed : (ns : List Node) (n : Node) → Makes ns (ns ++ n ∷ []) (length ns) (plain_of (plains ns) n)
made-pushed ns n = record {
  within = omega (arith, length-append ns (n ∷ []));
  is = ap (at (plains (ns ++ n ∷ []))) (sym (length-plains ns))
      ∙ ap (λ z. at z (length (plains ns))) (plains-push ns n) ∙ at-last (plains ns) (plain_of (plains ns) n) [];
  grows = (n ∷ [], refl);
}

pub made-at_end : (old new : List Node) (n : Node) (i : ℕ) → i ≡ length old → new ≡ old ++ n ∷ []
    → Makes old new i (plain_of (plains old) n)
made-at_end old new n i e f = rw (e, f) (made-pushed old n)
