-- The class of the token at which a tree or the rest of a row begins.
use Rattle.std.proofs.Common.{◌≡◌, ℕ, List, [], ◌∷◌, refl, subst, ap, sym, inl, inr, arith}
use Rattle.std.proofs.lemmas.Bool.Decides.{nat_tests}
use Rattle.std.specs.Prelude.{Bool, true, false, ◌&&◌, ◌||◌, ◌⊎◌, nat_le, IsTrue, Option, Some, None, is_some, slice_get}
use Rattle.c_terms.specs.declared.tree.Tree.{Tree}
use Rattle.c_rows.specs.declared.class.Class.{Class}
use Rattle.c_rows.specs.declared.kind.Kind.{Kind}
use Rattle.c_rows.specs.declared.rule.Rule.{Rule}
use Rattle.c_rows.specs.declared.kind.Family.{Family}
use Rattle.c_rows.specs.declared.kind.Family.TheVariants as family
use Rattle.c_rows.specs.declared.symbol.Fork.{Fork}
use Rattle.c_rows.specs.declared.symbol.Symbol.TheVariants as symbol
use Rattle.c_rows.specs.Words.{ends_member}
use Rattle.c_rows.specs.Kinds.{family_of, same_family, within, rank, side}
use Rattle.c_rows.specs.Rows.{Row, ways, kind_of}
use Rattle.c_rows.specs.Branches.{may_go}
use Rattle.c_rows.specs.Choice.{after, top, reach, takes_left, tail, left, stops_fork, first, opens, choose, begins_way, every}
use Rattle.c_rows.specs.Seen.{Seen, front, front_typed}
use Rattle.c_rows.specs.Spells.{Spells, leaf, branch, Runs, done, word, child, argument, fork}
use Rattle.c_rows.proofs.Checks.{and_left, and_right, both, modus, every_at, closes, joins, joins_at, member_at, joins_rule}
use Rattle.c_rows.proofs.Checks.{joins_way, closes_rule, closes_way, opens_rule, leaf_first, leads_way, unforked, unforked_way}
use Rattle.c_rows.proofs.Checks.{member_after, member_first}

same_is : (f g : Family) → IsTrue (same_family f g) → f ≡ g
same_is family.Expression family.Expression h = refl
same_is family.Args family.Args h = refl
same_is family.TypeArg family.TypeArg h = refl
same_is family.TypeName family.TypeName h = refl
same_is family.Specs family.Specs h = refl
same_is family.Tag family.Tag h = refl
same_is family.Field family.Field h = refl
same_is family.MacroItem family.MacroItem h = refl
same_is family.NamelessBits family.NamelessBits h = refl
same_is family.Declarator family.Declarator h = refl
same_is family.Params family.Params h = refl
same_is family.Param family.Param h = refl
same_is family.InitList family.InitList h = refl
same_is family.InitItem family.InitItem h = refl
same_is family.Designator family.Designator h = refl
same_is family.Enumerator family.Enumerator h = refl
same_is family.Decl family.Decl h = refl
same_is family.Statement family.Statement h = refl
same_is family.StmtList family.StmtList h = refl
same_is family.External family.External h = refl
same_is _ _ h = let no : ⊥ = cc in absurd no

within_parts : (k m : Kind) → IsTrue (within k m)
    → IsTrue (same_family (family_of k) (family_of m)) × IsTrue (nat_le (rank k) (rank m)) × IsTrue (nat_le (side k) (side m))
within_parts k m h =
    let both_ranks : IsTrue (same_family (family_of k) (family_of m) && nat_le (rank k) (rank m)) =
    and_left (same_family (family_of k) (family_of m) && nat_le (rank k) (rank m)) (nat_le (side k) (side m)) h in (
      and_left (same_family (family_of k) (family_of m)) (nat_le (rank k) (rank m)) both_ranks,
      and_right (same_family (family_of k) (family_of m)) (nat_le (rank k) (rank m)) both_ranks,
      and_right (same_family (family_of k) (family_of m) && nat_le (rank k) (rank m)) (nat_le (side k) (side m)) h,
    )

pub within_family : (k m : Kind) → IsTrue (within k m) → family_of k ≡ family_of m
within_family k m h = same_is (family_of k) (family_of m) (within_parts k m h).0

le_trans : (a b c : ℕ) → IsTrue (nat_le a b) → IsTrue (nat_le b c) → IsTrue (nat_le a c)
le_trans a b c h g = grind (arith, nat_tests)

pub within_trans : (a b c : Kind) → IsTrue (within a b) → IsTrue (within b c) → IsTrue (within a c)
within_trans a b c h g =
    let x = within_parts a b h in
    let y = within_parts b c g in
    both (same_family (family_of a) (family_of c) && nat_le (rank a) (rank c)) (nat_le (side a) (side c))
    (both (same_family (family_of a) (family_of c)) (nat_le (rank a) (rank c))
    (subst (λ (f : Family). IsTrue (same_family (family_of a) f)) (within_family b c g) x.0) (le_trans (rank a) (rank b) (rank c) x.1 y.1))
    (le_trans (side a) (side b) (side c) x.2 y.2)

either : (a b : Bool) → IsTrue (a || b) → IsTrue a ⊎ IsTrue b
either true b h = inl refl
either false b h = inr h

or_left : (a b : Bool) → IsTrue a → IsTrue (a || b)
or_left true b h = refl
or_left false b h = let no : ⊥ = cc in absurd no

or_right : (a b : Bool) → IsTrue b → IsTrue (a || b)
or_right true b h = refl
or_right false b h = h

left_mono : (j k : Kind) (o : Option Kind) → IsTrue (within j k) → IsTrue (takes_left k o) → IsTrue (takes_left j o)
left_mono j k None w h = h
left_mono j k (Some l) w h = within_trans j k l w h

reach_mono : (j k : Kind) (o : Option Rule) → IsTrue (within j k) → IsTrue (reach k o) → IsTrue (reach j o)
reach_mono j k None w h = h
reach_mono j k (Some r) w h = left_mono j k (left r) w h

pub after_mono : (j k : Kind) (c : Class) → IsTrue (within j k) → IsTrue (after k c) → IsTrue (after j c)
after_mono j k c w h =
    let e : family_of k ≡ family_of j = sym (within_family j k w) in
    elim (either (top (family_of k) c) (reach k (tail (family_of k) c)) h) as (λ _. IsTrue (after j c)) [
      | inl t ↦ or_left (top (family_of j) c) (reach j (tail (family_of j) c)) (subst (λ (f : Family). IsTrue (top f c)) e t)
      | inr r ↦ or_right (top (family_of j) c) (reach j (tail (family_of j) c))
          (subst (λ (f : Family). IsTrue (reach j (tail f c))) e (reach_mono j k (tail (family_of k) c) w r))
    ]

open_at : (f : Fork) (ps : Row) (c : Class) → choose f c ≡ Some ps → IsTrue (is_some (choose f c))
open_at f ps c e = ap is_some e

-- the class at which a way begins leads to it
leads_at : (f : Fork) (ps : Row) (c : Class) → IsTrue (unforked ps) → IsTrue (opens ps c) → (ps ≡ [] → IsTrue (stops_fork f c)) → IsTrue (begins_way f ps c)
leads_at f [] c u o s = s refl
leads_at f (symbol.Word w ∷ ps) c u o s = o
leads_at f (symbol.Child k ∷ ps) c u o s = o
leads_at f (symbol.Argument ∷ ps) c u o s = o
leads_at f (symbol.Fork g ∷ ps) c u o s = let no : ⊥ = cc in absurd no

at_end : {ps : Row} {xs ys : List Seen} {cs : List Tree} (f : Fork) → Runs ps xs cs ys → ps ≡ []
    → IsTrue (stops_fork f (front ys)) → IsTrue (stops_fork f (front xs))
at_end f done e s = s
at_end f (word h rest) e s = let no : ⊥ = cc in absurd no
at_end f (child d rest) e s = let no : ⊥ = cc in absurd no
at_end f (argument d rest) e s = let no : ⊥ = cc in absurd no
at_end f (fork i w v rest) e s = let no : ⊥ = cc in absurd no

mutual
  pub spells_first : {k : Kind} {xs ys : List Seen} {t : Tree} → Spells k xs t ys → IsTrue (after k (front ys)) → IsTrue (first (family_of k) (front xs))
  spells_first {k} (leaf {s = s} {ys = ys} h) a = leaf_first (family_of k) s.class h
  spells_first {k} {xs} {ys} (branch r w b al runs) a =
      let e : family_of (kind_of r) ≡ family_of k = within_family (kind_of r) k w in
      let a' : IsTrue (after (kind_of r) (front ys)) = after_mono (kind_of r) k (front ys) w a in
      subst (λ (f : Family). IsTrue (first f (front xs))) e (opens_rule r (front xs) b (runs_first runs (joins_rule r) (closes_rule r (front ys) a')))

  pub runs_first : {ps : Row} {xs ys : List Seen} {cs : List Tree} → Runs ps xs cs ys → IsTrue (joins ps)
      → IsTrue (closes ps (front ys)) → IsTrue (opens ps (front xs))
  runs_first done j c = refl
  runs_first (word h rest) j c = h
  runs_first (child {k = k} {ps = []} {ys = ys} d done) j c = spells_first d c
  runs_first (child {k = k} {ps = p ∷ ps} {ys = zs} d rest) j c =
      let o : IsTrue (opens (p ∷ ps) (front zs)) = runs_first rest (and_right (every (joins_at k (p ∷ ps))) (joins (p ∷ ps)) j) c in
      spells_first d (modus _ _ (every_at (joins_at k (p ∷ ps)) (and_left (every (joins_at k (p ∷ ps))) (joins (p ∷ ps)) j) (front zs)) o)
  runs_first (argument {ps = []} {xs = xs} {ys = ys} d done) j c =
      member_first (front_typed xs) (front xs) (spells_first d (member_after (front_typed xs) (front ys) c))
  runs_first (argument {ps = p ∷ ps} {xs = xs} {ys = zs} d rest) j c =
      let o : IsTrue (opens (p ∷ ps) (front zs)) = runs_first rest (and_right (every (member_at (p ∷ ps))) (joins (p ∷ ps)) j) c in
      let e : IsTrue (ends_member (front zs)) =
      modus _ _ (every_at (member_at (p ∷ ps)) (and_left (every (member_at (p ∷ ps))) (joins (p ∷ ps)) j) (front zs)) o in
      member_first (front_typed xs) (front xs) (spells_first d (member_after (front_typed xs) (front zs) e))
  runs_first (fork {f = f} {ps = ps} {xs = xs} {ys = ys} i w v way) j c =
      let o : IsTrue (opens ps (front xs)) = runs_first way (joins_way f i ps w) (closes_way f i ps (front ys) w c) in
      open_at f ps (front xs) (leads_way f i ps (front xs) w
      (both (may_go f ps (front xs)) _ v (leads_at f ps (front xs) (unforked_way f i ps w) o (λ e. at_end f way e c))))

-- the way that was taken is the one chosen
pub way_here : (f : Fork) (i : ℕ) (ps : Row) {xs ys : List Seen} {cs : List Tree} → slice_get (ways f) i ≡ Some ps
    → IsTrue (may_go f ps (front xs)) → Runs ps xs cs ys → IsTrue (stops_fork f (front ys)) → choose f (front xs) ≡ Some ps
way_here f i ps {xs} {ys} w v way s =
    let o : IsTrue (opens ps (front xs)) = runs_first way (joins_way f i ps w) (closes_way f i ps (front ys) w s) in
    leads_way f i ps (front xs) w (both (may_go f ps (front xs)) _ v (leads_at f ps (front xs) (unforked_way f i ps w) o (λ e. at_end f way e s)))
