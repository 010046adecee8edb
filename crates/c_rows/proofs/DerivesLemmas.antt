-- The class of the token at which a derived tree or the rest of a row begins.
use Rattle.std.proofs.Common.{◌≡◌, List, [], ◌∷◌, subst, ap, refl}
use Rattle.std.specs.Prelude.{true, false, IsTrue, Some, is_some}
use Rattle.c_terms.specs.declared.token.Token.{Token}
use Rattle.c_terms.specs.declared.tree.Tree.{Tree}
use Rattle.c_rows.specs.declared.class.Class.{Class}
use Rattle.c_rows.specs.declared.kind.Kind.{Kind}
use Rattle.c_rows.specs.declared.kind.Family.{Family}
use Rattle.c_rows.specs.declared.symbol.Fork.{Fork}
use Rattle.c_rows.specs.declared.symbol.Symbol.TheVariants as symbol
use Rattle.c_rows.specs.Kinds.{family_of}
use Rattle.c_rows.specs.Rows.{Row, kind_of}
use Rattle.c_rows.specs.Branches.{may_go}
use Rattle.c_rows.specs.Look.{Names, look}
use Rattle.c_rows.specs.Words.{ends_member}
use Rattle.c_rows.specs.Choice.{after, stops_fork, first, opens, choose, begins_way, every}
use Rattle.c_rows.specs.Derives.{Derives, leaf, branch, DerivesRow, done, word, child, argument, type_argument, fork}
use Rattle.c_rows.proofs.Checks.{and_left, and_right, modus, every_at, closes, joins, joins_at, member_at, joins_rule}
use Rattle.c_rows.proofs.Checks.{joins_way, closes_rule, closes_way, opens_rule, leaf_first, leads_way, unforked, unforked_way}
use Rattle.c_rows.proofs.Checks.{member_after, member_first, both}
use Rattle.c_rows.proofs.FirstLemmas.{within_family, after_mono}

open_at : (f : Fork) (ps : Row) (c : Class) → choose f c ≡ Some ps → IsTrue (is_some (choose f c))
open_at f ps c e = ap is_some e

leads_at : (f : Fork) (ps : Row) (c : Class) → IsTrue (unforked ps) → IsTrue (opens ps c) → (ps ≡ [] → IsTrue (stops_fork f c)) → IsTrue (begins_way f ps c)
leads_at f [] c u o s = s refl
leads_at f (symbol.Word w ∷ ps) c u o s = o
leads_at f (symbol.Child k ∷ ps) c u o s = o
leads_at f (symbol.Argument ∷ ps) c u o s = o
leads_at f (symbol.Fork g ∷ ps) c u o s = let no : ⊥ = cc in absurd no

module _ (names : Names) (may : List Token → List Token → Type 0) where
  at_end : {ps : Row} {xs ys : List Token} {cs : List Tree} (f : Fork) → DerivesRow names may ps xs cs ys → ps ≡ []
      → IsTrue (stops_fork f (look names ys)) → IsTrue (stops_fork f (look names xs))
  at_end f done e s = s
  at_end f (word h rest) e s = let no : ⊥ = cc in absurd no
  at_end f (child d rest) e s = let no : ⊥ = cc in absurd no
  at_end f (argument d rest) e s = let no : ⊥ = cc in absurd no
  at_end f (type_argument a d rest) e s = let no : ⊥ = cc in absurd no
  at_end f (fork i w v rest) e s = let no : ⊥ = cc in absurd no

  mutual
    pub tree_first : {k : Kind} {xs ys : List Token} {t : Tree} → Derives names may k xs t ys → IsTrue (after k (look names ys))
        → IsTrue (first (family_of k) (look names xs))
    tree_first {k} (leaf {t = t} {ys = ys} h) a = leaf_first (family_of k) (look names (t ∷ ys)) h
    tree_first {k} {xs} {ys} (branch r w b al parts) a =
        let e : family_of (kind_of r) ≡ family_of k = within_family (kind_of r) k w in
        let a' : IsTrue (after (kind_of r) (look names ys)) = after_mono (kind_of r) k (look names ys) w a in
        subst (λ (f : Family). IsTrue (first f (look names xs))) e
        (opens_rule r (look names xs) b (row_first parts (joins_rule r) (closes_rule r (look names ys) a')))

    pub row_first : {ps : Row} {xs ys : List Token} {cs : List Tree} → DerivesRow names may ps xs cs ys → IsTrue (joins ps)
        → IsTrue (closes ps (look names ys)) → IsTrue (opens ps (look names xs))
    row_first done j c = refl
    row_first (word h rest) j c = h
    row_first (child {k = k} {ps = []} {ys = ys} d done) j c = tree_first d c
    row_first (child {k = k} {ps = p ∷ ps} {ys = zs} d rest) j c =
        let o : IsTrue (opens (p ∷ ps) (look names zs)) = row_first rest (and_right (every (joins_at k (p ∷ ps))) (joins (p ∷ ps)) j) c in
        tree_first d (modus _ _ (every_at (joins_at k (p ∷ ps)) (and_left (every (joins_at k (p ∷ ps))) (joins (p ∷ ps)) j) (look names zs)) o)
    row_first (argument {ps = []} {xs = xs} {ys = ys} d done) j c =
        member_first false (look names xs) (tree_first d (member_after false (look names ys) c))
    row_first (argument {ps = p ∷ ps} {xs = xs} {ys = zs} d rest) j c =
        let o : IsTrue (opens (p ∷ ps) (look names zs)) = row_first rest (and_right (every (member_at (p ∷ ps))) (joins (p ∷ ps)) j) c in
        let e : IsTrue (ends_member (look names zs)) =
        modus _ _ (every_at (member_at (p ∷ ps)) (and_left (every (member_at (p ∷ ps))) (joins (p ∷ ps)) j) (look names zs)) o in
        member_first false (look names xs) (tree_first d (member_after false (look names zs) e))
    row_first (type_argument {ps = []} {xs = xs} {ys = ys} a d done) j c =
        member_first true (look names xs) (tree_first d (member_after true (look names ys) c))
    row_first (type_argument {ps = p ∷ ps} {xs = xs} {ys = zs} a d rest) j c =
        let o : IsTrue (opens (p ∷ ps) (look names zs)) = row_first rest (and_right (every (member_at (p ∷ ps))) (joins (p ∷ ps)) j) c in
        let e : IsTrue (ends_member (look names zs)) =
        modus _ _ (every_at (member_at (p ∷ ps)) (and_left (every (member_at (p ∷ ps))) (joins (p ∷ ps)) j) (look names zs)) o in
        member_first true (look names xs) (tree_first d (member_after true (look names zs) e))
    row_first (fork {f = f} {ps = ps} {xs = xs} {ys = ys} i w v way) j c =
        let o : IsTrue (opens ps (look names xs)) = row_first way (joins_way f i ps w) (closes_way f i ps (look names ys) w c) in
        open_at f ps (look names xs) (leads_way f i ps (look names xs) w
        (both (may_go f ps (look names xs)) _ v (leads_at f ps (look names xs) (unforked_way f i ps w) o (λ e. at_end f way e c))))

  -- a member of an argument list that is a part of a row ends where it may
  pub member_end : {ps : Row} {xs ys : List Token} {cs : List Tree} → DerivesRow names may ps xs cs ys → IsTrue (joins (symbol.Argument ∷ ps))
      → IsTrue (closes (symbol.Argument ∷ ps) (look names ys)) → IsTrue (ends_member (look names xs))
  member_end {ps = []} done j c = c
  member_end {ps = p ∷ ps} {xs} rest j c =
      modus _ _ (every_at (member_at (p ∷ ps)) (and_left (every (member_at (p ∷ ps))) (joins (p ∷ ps)) j) (look names xs))
      (row_first rest (and_right (every (member_at (p ∷ ps))) (joins (p ∷ ps)) j) c)

  -- a tree of another kind comes before what may follow it
  pub child_end : (k : Kind) {ps : Row} {xs ys : List Token} {cs : List Tree} → DerivesRow names may ps xs cs ys → IsTrue (joins (symbol.Child k ∷ ps))
      → IsTrue (closes (symbol.Child k ∷ ps) (look names ys)) → IsTrue (after k (look names xs))
  child_end k {ps = []} done j c = c
  child_end k {ps = p ∷ ps} {xs} rest j c =
      modus _ _ (every_at (joins_at k (p ∷ ps)) (and_left (every (joins_at k (p ∷ ps))) (joins (p ∷ ps)) j) (look names xs))
      (row_first rest (and_right (every (joins_at k (p ∷ ps))) (joins (p ∷ ps)) j) c)

-- the rest of a row after its first part
pub joins_rest : (k : Kind) (ps : Row) → IsTrue (joins (symbol.Child k ∷ ps)) → IsTrue (joins ps)
joins_rest k [] j = refl
joins_rest k (p ∷ ps) j = and_right (every (joins_at k (p ∷ ps))) (joins (p ∷ ps)) j

pub joins_member : (ps : Row) → IsTrue (joins (symbol.Argument ∷ ps)) → IsTrue (joins ps)
joins_member [] j = refl
joins_member (p ∷ ps) j = and_right (every (member_at (p ∷ ps))) (joins (p ∷ ps)) j

pub closes_rest : (k : Kind) (ps : Row) (c : Class) → IsTrue (closes (symbol.Child k ∷ ps) c) → IsTrue (closes ps c)
closes_rest k [] c h = refl
closes_rest k (p ∷ ps) c h = h

pub closes_member : (ps : Row) (c : Class) → IsTrue (closes (symbol.Argument ∷ ps) c) → IsTrue (closes ps c)
closes_member [] c h = refl
closes_member (p ∷ ps) c h = h
