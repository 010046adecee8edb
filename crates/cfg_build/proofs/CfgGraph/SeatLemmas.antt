-- The paths of nodes that are kept: a path is that of the node to which the seat refers, and perhaps one step more.
use Rattle.std.proofs.Common.{◌≡◌, ℕ, zero, suc, ◌+◌, ◌≤◌, refl, sym, ap, ◌∙◌, arith, List, [], ◌∷◌, ◌++◌, length, get_or, reverse, append_assoc, length-append}
use Rattle.std.proofs.lemmas.List.{reverse-append, get_or_append_left}
use Rattle.cfg_build.specs.declared.cfg_graph.node.Seat.{Seat}
use Rattle.cfg_build.specs.declared.cfg_graph.node.Seat.TheVariants.{Item, With, Child}
use Rattle.cfg_build.specs.declared.cfg_graph.node.NodeEntry.{NodeEntry}
use Rattle.cfg_build.specs.CfgGraph.Seats.{path_to, paths_after, path_of, seat_needs, seat_at, AreSeated}

seated-from : (from : ℕ) (ns : List NodeEntry) (n : NodeEntry) → ((k : ℕ) → seat_needs (seat_at ns k) ≤ from + k) → seat_needs n.seat ≤ from + length ns
    → (k : ℕ) → seat_needs (seat_at (ns ++ n ∷ []) k) ≤ from + k
seated-from from [] n h s zero = omega arith
seated-from from [] n h s (suc k) = omega arith
seated-from from (m ∷ ns) n h s zero = h 0
seated-from from (m ∷ ns) n h s (suc k) =
    let r = seated-from (suc from) ns n (λ j. let g = h (suc j) in omega (arith, g)) (omega arith) k in omega (arith, r)

pub seated-snoc : (ns : List NodeEntry) (n : NodeEntry) → AreSeated ns → seat_needs n.seat ≤ length ns → AreSeated (ns ++ n ∷ [])
seated-snoc ns n h s k =
    let r = seated-from 0 ns n (λ j. let g = h j in omega (arith, g)) (omega arith) k in omega (arith, r)

-- a seat that refers to earlier nodes keeps its path
path_to-more : (paths more : List (List ℕ)) (s : Seat) → seat_needs s ≤ length paths → path_to (paths ++ more) s ≡ path_to paths s
path_to-more paths more Item h = refl
path_to-more paths more (With n) h = get_or_append_left paths more [] n (omega arith)
path_to-more paths more (Child n i) h = ap (λ p. p ++ i ∷ []) (get_or_append_left paths more [] n (omega arith))

path-after : (done : List (List ℕ)) (ns : List NodeEntry) (k : ℕ) → ((j : ℕ) → seat_needs (seat_at ns j) ≤ length done + j)
    → get_or (paths_after done ns) k [] ≡ path_to (done ++ paths_after done ns) (seat_at ns k)
path-after done [] k h = refl
path-after done (m ∷ ns) zero h =
    let p = path_to done m.seat in
    let s : seat_needs m.seat ≤ length done = let g = h 0 in omega (arith, g) in
    sym (path_to-more done (p ∷ paths_after (done ++ p ∷ []) ns) m.seat s)
path-after done (m ∷ ns) (suc k) h =
    let p = path_to done m.seat in
    let rest = paths_after (done ++ p ∷ []) ns in
    let c = length-append done (p ∷ []) in
    path-after (done ++ p ∷ []) ns k (λ j. let g = h (suc j) in omega (arith, g, c)) ∙ ap (λ ps. path_to ps (seat_at ns k)) (append_assoc done (p ∷ []) rest)

-- the path of a node by its seat
pub path-by : (ns : List NodeEntry) (k : ℕ) (s : Seat) → AreSeated ns → seat_at ns k ≡ s → path_of ns k ≡ path_to (paths_after [] ns) s
path-by ns k s h e = path-after [] ns k (λ j. let g = h j in omega (arith, g)) ∙ ap (path_to (paths_after [] ns)) e

-- the node to which a seat refers is an earlier one
pub earlier : (ns : List NodeEntry) (k : ℕ) (s : Seat) → AreSeated ns → seat_at ns k ≡ s → seat_needs s ≤ k
earlier ns k s h e = let g = h k in let n = ap seat_needs e in omega (arith, g, n)

-- one step up
pub way-up : (p q steps more : List ℕ) (i : ℕ) → p ≡ q ++ i ∷ [] → more ≡ steps ++ i ∷ [] → q ++ reverse more ≡ p ++ reverse steps
way-up p q steps more i e m =
    ap (λ s. q ++ reverse s) m ∙ ap (λ s. q ++ s) (reverse-append steps (i ∷ []))
    ∙ sym (append_assoc q (i ∷ []) (reverse steps)) ∙ ap (λ p. p ++ reverse steps) (sym e)
