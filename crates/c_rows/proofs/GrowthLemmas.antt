-- A tree that the rows allow grows from its first operand.
use Rattle.std.proofs.Common.{◌≡◌, List, [], ◌∷◌, refl, subst, ap, sym}
use Rattle.std.specs.Prelude.{Bool, true, false, IsTrue, Option, Some, None, is_some, if◌then◌else◌}
use Rattle.c_terms.specs.declared.tree.Tree.{Tree}
use Rattle.c_terms.specs.declared.tree.Tree.TheVariants as tree
use Rattle.c_rows.specs.declared.kind.Kind.{Kind}
use Rattle.c_rows.specs.declared.rule.Rule.{Rule}
use Rattle.c_rows.specs.declared.kind.Family.{Family}
use Rattle.c_rows.specs.declared.symbol.Symbol.TheVariants as symbol
use Rattle.c_rows.specs.Kinds.{family_of, same_family, within, has_leaf}
use Rattle.c_rows.specs.Rows.{Row, row, kind_of, build}
use Rattle.c_rows.specs.Branches.{begins, allows}
use Rattle.c_rows.specs.Choice.{left, left_in, own, tail_of}
use Rattle.c_rows.specs.Seen.{Seen, front}
use Rattle.c_rows.specs.Spells.{Spells, leaf, branch, Runs, done, word, child, argument, fork}
use Rattle.c_rows.specs.Growth.{Root, root_kind, Operand, token, headed, Grows, here, more}
use Rattle.c_rows.proofs.Checks.{bottom_within, left_within}
use Rattle.c_rows.proofs.FirstLemmas.{within_family, within_trans}

pub own_head : (r : Rule) → left r ≡ None → own r ≡ row r
own_head r e = ap (λ (o : Option Kind). if is_some o then tail_of (row r) else row r) e

pub own_tail : (r : Rule) (l : Kind) → left r ≡ Some l → own r ≡ tail_of (row r)
own_tail r l e = ap (λ (o : Option Kind). if is_some o then tail_of (row r) else row r) e

-- the first part of a row that has a left kind
left_part : (b : Bool) (k l : Kind) → (if b then Some k else None) ≡ Some l → k ≡ l
left_part true k l e = cc
left_part false k l e = let no : ⊥ = cc in absurd no

pub left_child : (f : Family) (ps : Row) (l : Kind) → left_in f ps ≡ Some l → ps ≡ symbol.Child l ∷ tail_of ps
left_child f [] l e = let no : ⊥ = cc in absurd no
left_child f (symbol.Word w ∷ ps) l e = let no : ⊥ = cc in absurd no
left_child f (symbol.Child k ∷ ps) l e = ap (λ (j : Kind). symbol.Child j ∷ ps) (left_part (same_family (family_of k) f) k l e)
left_child f (symbol.Argument ∷ ps) l e = let no : ⊥ = cc in absurd no
left_child f (symbol.Fork g ∷ ps) l e = let no : ⊥ = cc in absurd no

pub record Unwound (m : Kind) (xs : List Seen) (t : Tree) (ys : List Seen) : Type 0 where
  pub first_root : Root
  pub first : Tree
  pub middle : List Seen
  pub root : Root
  pub operand : Operand m first_root xs first middle
  pub grown : Grows m first_root first middle root t ys
  pub kept : IsTrue (within (root_kind (family_of m) root) m)

weaken_operand : {l m : Kind} {q : Root} {xs ys : List Seen} {t : Tree} → IsTrue (within l m) → Operand l q xs t ys → Operand m q xs t ys
weaken_operand {l} {m} w (token {s = s} {ys = ys} h) = token (subst (λ (f : Family). IsTrue (has_leaf f s.class)) (within_family l m w) h)
weaken_operand {l} {m} w (headed r v e b al runs) = headed r (within_trans (kind_of r) l m v w) e b al runs

weaken : {l m : Kind} {p q : Root} {xs ys : List Seen} {a t : Tree} → IsTrue (within l m) → Grows l p a xs q t ys → Grows m p a xs q t ys
weaken w here = here
weaken {l} {m} {p} w (more r k v e u al runs rest) =
    more r k (within_trans (kind_of r) l m v w) e (subst (λ (f : Family). IsTrue (within (root_kind f p) k)) (within_family l m w) u) al runs (weaken w rest)

at_end : {m : Kind} {p q : Root} {xs ys zs : List Seen} {a t : Tree} {cs : List Tree} (r : Rule) (l : Kind)
    → Grows m p a xs q t ys → IsTrue (within (kind_of r) m) → left r ≡ Some l
    → IsTrue (within (root_kind (family_of m) q) l) → IsTrue (allows r (t ∷ cs)) → Runs (own r) ys cs zs → Grows m p a xs (Some r) (build r (t ∷ cs)) zs
at_end r l here v e u al runs = more r l v e u al runs here
at_end r l (more r' l' v' e' u' al' runs' rest) v e u al runs = more r' l' v' e' u' al' runs' (at_end r l rest v e u al runs)

abbrev FirstPart : Row → List Seen → List Tree → List Seen → Type 0
FirstPart [] xs cs ys = Unit {0}
FirstPart (symbol.Word w ∷ ps) xs cs ys = Unit {0}
FirstPart (symbol.Child k ∷ ps) xs cs ys = (t : Tree) × (more : List Tree) × (zs : List Seen) × (cs ≡ t ∷ more) × Unwound k xs t zs × Runs ps zs more ys
FirstPart (symbol.Argument ∷ ps) xs cs ys = Unit {0}
FirstPart (symbol.Fork f ∷ ps) xs cs ys = Unit {0}

extend : {m l : Kind} {xs zs ys : List Seen} {t : Tree} {more : List Tree} (r : Rule) → IsTrue (within (kind_of r) m) → left r ≡ Some l
    → Unwound l xs t zs → IsTrue (allows r (t ∷ more)) → Runs (own r) zs more ys → Unwound m xs (build r (t ∷ more)) ys
extend {m} {l} r v e u al runs =
    let w : IsTrue (within l m) = within_trans l (kind_of r) m (left_within r l e) v in
    record {
      first_root = u.first_root;
      first = u.first;
      middle = u.middle;
      root = Some r;
      operand = weaken_operand w u.operand;
      grown = at_end r l (weaken w u.grown) v e (subst (λ (f : Family). IsTrue (within (root_kind f u.root) l)) (within_family l m w) u.kept) al runs;
      kept = v;
    }

from_row : {m : Kind} {xs ys : List Seen} {cs : List Tree} (r : Rule) (o : Option Kind) → IsTrue (within (kind_of r) m)
    → IsTrue (begins r (front xs)) → IsTrue (allows r cs) → left r ≡ o → Runs (row r) xs cs ys
    → FirstPart (row r) xs cs ys → Unwound m xs (build r cs) ys
from_row {m} {xs} {ys} {cs} r None v b al e runs f = record {
  first_root = Some r;
  first = build r cs;
  middle = ys;
  root = Some r;
  operand = headed r v e b al (subst (λ (ps : Row). Runs ps xs cs ys) (sym (own_head r e)) runs);
  grown = here;
  kept = v;
}
from_row {m} {xs} {ys} {cs} r (Some l) v b al e runs f =
    let shape : row r ≡ symbol.Child l ∷ tail_of (row r) = left_child (family_of (kind_of r)) (row r) l e in
    let g = subst (λ (ps : Row). FirstPart ps xs cs ys) shape f in
    subst (λ (ds : List Tree). Unwound m xs (build r ds) ys) (sym g.3)
    (extend r v e g.4 (subst (λ (ds : List Tree). IsTrue (allows r ds)) g.3 al) (subst (λ (ps : Row). Runs ps g.2 g.1 ys) (sym (own_tail r l e)) g.5))

mutual
  pub unwind : {k : Kind} {xs ys : List Seen} {t : Tree} → Spells k xs t ys → Unwound k xs t ys
  unwind {k} (leaf {s = s} {ys = ys} h) = record {
    first_root = None;
    first = tree.Leaf s.token;
    middle = ys;
    root = None;
    operand = token h;
    grown = here;
    kept = bottom_within k;
  }
  unwind (branch r w b al runs) = from_row r (left r) w b al refl runs (first_part runs)

  first_part : {ps : Row} {xs ys : List Seen} {cs : List Tree} → Runs ps xs cs ys → FirstPart ps xs cs ys
  first_part done = tt
  first_part (word h rest) = tt
  first_part (child {ys = zs} {t = t} {cs = cs} d rest) = (t, cs, zs, refl, unwind d, rest)
  first_part (argument d rest) = tt
  first_part (fork i w v way) = tt
