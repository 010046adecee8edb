-- Paths to subtrees with the same token.
-- Proof: where two paths part, two children would have the token. If one ends first, its subtree has more levels.
use Rattle.std.proofs.Common.{◌≡◌, ℕ, zero, suc, ◌<◌, ◌≤◌, nat_eq, refl, sym, ap, subst, ◌∙◌, arith}
use Rattle.std.proofs.Common.{List, [], ◌∷◌, ◌++◌, map, Some, slice_get}
use Rattle.std.proofs.lemmas.List.{map-append}
use Rattle.std.proofs.lemmas.Option.{none-some, same_Some, option_and_then_some, slice_get_within, get_or_from_slice_get}
use Rattle.std.specs.List.{IsDistinct}
use Rattle.c_terms.specs.declared.token.Token.{Token}
use Rattle.c_terms.specs.declared.label.Label.{Label}
use Rattle.c_terms.specs.declared.tree.Tree.{Tree}
use Rattle.c_terms.specs.declared.tree.Tree.TheVariants.{Branch}
use Rattle.c_terms.specs.Trees.{join, leaves, levels}
use Rattle.c_terms.specs.Places.{child, subtree}
use Rattle.c_terms.proofs.Induct.{tree_cases}
use Rattle.c_terms.proofs.TreeLemmas.{leaves-Branch}
use Rattle.c_terms.proofs.PlaceLemmas.{child-Leaf, child-Branch}
use Rattle.c_terms.proofs.PathLemmas.{child-levels}
use Rattle.type_laws.specs.Places.{ids}
use Rattle.type_laws.proofs.IdLemmas.{IsAmong, among-left, among-right, distinct-left, distinct-right, apart}

-- ---- children, as a list

abbrev kid_ids : List Tree → List ℕ
kid_ids cs = map (λ (a : Token). a.id) (join (map leaves cs))

kid_ids-cons : (c : Tree) (cs : List Tree) → kid_ids (c ∷ cs) ≡ ids c ++ kid_ids cs
kid_ids-cons c cs = map-append (λ (a : Token). a.id) (leaves c) (join (map leaves cs))

split : (c : Tree) (cs : List Tree) → IsDistinct nat_eq (kid_ids (c ∷ cs)) → IsDistinct nat_eq (ids c ++ kid_ids cs)
split c cs d = subst (IsDistinct nat_eq) (kid_ids-cons c cs) d

kid-among : (cs : List Tree) (i : ℕ) (c : Tree) (x : ℕ) → slice_get cs i ≡ Some c → IsAmong x (ids c) → IsAmong x (kid_ids cs)
kid-among [] i c x e h = absurd (none-some c e)
kid-among (b ∷ cs) zero c x e h =
    subst (IsAmong x) (sym (kid_ids-cons b cs)) (among-left x (ids b) (kid_ids cs) (subst (λ t. IsAmong x (ids t)) (sym (same_Some b c e)) h))
kid-among (b ∷ cs) (suc i) c x e h =
    subst (IsAmong x) (sym (kid_ids-cons b cs)) (among-right x (ids b) (kid_ids cs) (kid-among cs i c x e h))

kid-distinct : (cs : List Tree) (i : ℕ) (c : Tree) → slice_get cs i ≡ Some c → IsDistinct nat_eq (kid_ids cs) → IsDistinct nat_eq (ids c)
kid-distinct [] i c e d = absurd (none-some c e)
kid-distinct (b ∷ cs) zero c e d =
    subst (λ t. IsDistinct nat_eq (ids t)) (same_Some b c e) (distinct-left (ids b) (kid_ids cs) (split b cs d))
kid-distinct (b ∷ cs) (suc i) c e d = kid-distinct cs i c e (distinct-right (ids b) (kid_ids cs) (split b cs d))

-- the token is not in the first child and in a later one
kid-once : (b : Tree) (cs : List Tree) (i : ℕ) (c d : Tree) (x : ℕ) → IsDistinct nat_eq (kid_ids (b ∷ cs)) → b ≡ c → slice_get cs i ≡ Some d
    → IsAmong x (ids c) → IsAmong x (ids d) → ⊥
kid-once b cs i c d x u e f g h =
    apart x (ids b) (kid_ids cs) (split b cs u) (subst (λ t. IsAmong x (ids t)) (sym e) g) (kid-among cs i d x f h)

kid-same : (cs : List Tree) (i j : ℕ) (c d : Tree) (x : ℕ) → IsDistinct nat_eq (kid_ids cs) → slice_get cs i ≡ Some c → slice_get cs j ≡ Some d
    → IsAmong x (ids c) → IsAmong x (ids d) → i ≡ j
kid-same [] i j c d x u e f g h = absurd (none-some c e)
kid-same (b ∷ cs) zero zero c d x u e f g h = refl
kid-same (b ∷ cs) zero (suc j) c d x u e f g h = absurd (kid-once b cs j c d x u (same_Some b c e) f g h)
kid-same (b ∷ cs) (suc i) zero c d x u e f g h = absurd (kid-once b cs i d c x u (same_Some b d f) e h g)
kid-same (b ∷ cs) (suc i) (suc j) c d x u e f g h =
    ap suc (kid-same cs i j c d x (distinct-right (ids b) (kid_ids cs) (split b cs u)) e f g h)

-- ---- children of a tree

abbrev IsBranch : Tree → Type 0
IsBranch t = (l : Label) × (cs : List Tree) × (t ≡ Branch l cs)

branch : (t : Tree) (i : ℕ) (c : Tree) → child t i ≡ Some c → IsBranch t
branch =
    tree_cases (λ t. (i : ℕ) (c : Tree) → child t i ≡ Some c → IsBranch t)
    (λ a i c e. absurd (none-some c (sym (child-Leaf a i) ∙ e))) (λ l cs i c e. (l, cs, refl))

module _ (t : Tree) (l : Label) (cs : List Tree) (b : t ≡ Branch l cs) where
  kid : (i : ℕ) (c : Tree) → child t i ≡ Some c → slice_get cs i ≡ Some c
  kid i c e = sym (child-Branch l cs i) ∙ ap (λ u. child u i) (sym b) ∙ e

  all_ids : ids t ≡ kid_ids cs
  all_ids = ap ids b ∙ ap (map (λ (a : Token). a.id)) (leaves-Branch l cs)

child-among : (t : Tree) (i : ℕ) (c : Tree) (x : ℕ) → child t i ≡ Some c → IsAmong x (ids c) → IsAmong x (ids t)
child-among t i c x e h =
    let b : IsBranch t = branch t i c e in
    subst (IsAmong x) (sym (all_ids t b.0 b.1 b.2)) (kid-among b.1 i c x (kid t b.0 b.1 b.2 i c e) h)

child-distinct : (t : Tree) (i : ℕ) (c : Tree) → child t i ≡ Some c → IsDistinct nat_eq (ids t) → IsDistinct nat_eq (ids c)
child-distinct t i c e d =
    let b : IsBranch t = branch t i c e in
    kid-distinct b.1 i c (kid t b.0 b.1 b.2 i c e) (subst (IsDistinct nat_eq) (all_ids t b.0 b.1 b.2) d)

child-same : (t : Tree) (i j : ℕ) (c d : Tree) (x : ℕ) → IsDistinct nat_eq (ids t) → child t i ≡ Some c → child t j ≡ Some d
    → IsAmong x (ids c) → IsAmong x (ids d) → i ≡ j
child-same t i j c d x u e f g h =
    let b : IsBranch t = branch t i c e in
    kid-same b.1 i j c d x (subst (IsDistinct nat_eq) (all_ids t b.0 b.1 b.2) u) (kid t b.0 b.1 b.2 i c e) (kid t b.0 b.1 b.2 j d f) g h

child-fewer : (t : Tree) (i : ℕ) (c : Tree) → child t i ≡ Some c → levels c < levels t
child-fewer t i c e =
    let b : IsBranch t = branch t i c e in
    let k : slice_get b.1 i ≡ Some c = kid t b.0 b.1 b.2 i c e in
    child-levels t b.0 b.1 i c b.2 (slice_get_within b.1 i c k) (sym (get_or_from_slice_get b.1 i c c k))

-- ---- subtrees

sub-among : (path : List ℕ) (t u : Tree) (x : ℕ) → subtree t path ≡ Some u → IsAmong x (ids u) → IsAmong x (ids t)
sub-among [] t u x e h = subst (λ w. IsAmong x (ids w)) (sym (same_Some t u e)) h
sub-among (i ∷ path) t u x e h =
    option_and_then_some (λ c. subtree c path) (child t i) u e (λ c f g. child-among t i c x f (sub-among path c u x g h))

pub sub-levels : (path : List ℕ) (t u : Tree) → subtree t path ≡ Some u → levels u ≤ levels t
sub-levels [] t u e = let n : levels t ≡ levels u = ap levels (same_Some t u e) in omega (arith, n)
sub-levels (i ∷ path) t u e =
    option_and_then_some (λ c. subtree c path) (child t i) u e
    (λ c f g. let n : levels c < levels t = child-fewer t i c f in let m : levels u ≤ levels c = sub-levels path c u g in omega (arith, n, m))

-- a subtree below a child has fewer levels
sub-fewer : (i : ℕ) (path : List ℕ) (t u : Tree) → subtree t (i ∷ path) ≡ Some u → levels u < levels t
sub-fewer i path t u e =
    option_and_then_some (λ c. subtree c path) (child t i) u e
    (λ c f g. let n : levels c < levels t = child-fewer t i c f in let m : levels u ≤ levels c = sub-levels path c u g in omega (arith, n, m))

pub same_path : (ps qs : List ℕ) (t u v : Tree) (x : ℕ) → IsDistinct nat_eq (ids t) → subtree t ps ≡ Some u → subtree t qs ≡ Some v
    → IsAmong x (ids u) → IsAmong x (ids v) → levels u ≡ levels v → ps ≡ qs
same_path [] [] t u v x d e f g h n = refl
same_path [] (j ∷ qs) t u v x d e f g h n =
    let m : levels t ≡ levels u = ap levels (same_Some t u e) in let less = sub-fewer j qs t v f in absurd (omega (arith, m, less, n))
same_path (i ∷ ps) [] t u v x d e f g h n =
    let m : levels t ≡ levels v = ap levels (same_Some t v f) in let less = sub-fewer i ps t u e in absurd (omega (arith, m, less, n))
same_path (i ∷ ps) (j ∷ qs) t u v x d e f g h n =
    option_and_then_some (λ c. subtree c ps) (child t i) u e
    (λ a at ae. option_and_then_some (λ c. subtree c qs) (child t j) v f
    (λ b bt be.
    let k : i ≡ j = child-same t i j a b x d at bt (sub-among ps a u x ae g) (sub-among qs b v x be h) in
    let same : b ≡ a = same_Some b a (sym bt ∙ ap (child t) (sym k) ∙ at) in
    let rest : ps ≡ qs = same_path ps qs a u v x (child-distinct t i a at d) ae (subst (λ c. subtree c qs ≡ Some v) same be) g h n in
    λ y. k y ∷ rest y))
