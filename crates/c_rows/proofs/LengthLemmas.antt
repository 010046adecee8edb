-- How many tokens a tree and the rest of a row take.
use Rattle.std.proofs.Common.{◌≡◌, ℕ, ◌+◌, ◌*◌, ◌≤◌, ◌<◌, List, [], ◌∷◌, length, refl, subst, arith}
use Rattle.std.specs.Prelude.{◌||◌, Bool, true, false, IsTrue, Some, if◌then◌else◌, nat_le, slice_get}
use Rattle.std.specs.List.{list_all, list_any}
use Rattle.std.proofs.lemmas.Bool.Decides.{nat_tests}
use Rattle.c_terms.specs.declared.tree.Tree.{Tree}
use Rattle.c_rows.specs.declared.kind.Kind.{Kind}
use Rattle.c_rows.specs.declared.kind.Family.{Family}
use Rattle.c_rows.specs.declared.rule.Rule.{Rule}
use Rattle.c_rows.specs.declared.rule.Rule.TheVariants as rule
use Rattle.c_rows.specs.declared.symbol.Symbol.{Symbol}
use Rattle.c_rows.specs.declared.symbol.Symbol.TheVariants as symbol
use Rattle.c_rows.specs.declared.symbol.Fork.{Fork}
use Rattle.c_rows.specs.declared.symbol.Fork.TheVariants as forks
use Rattle.c_rows.specs.Kinds.{family_of}
use Rattle.c_rows.specs.Rows.{Row, ways, row, kind_of}
use Rattle.c_rows.specs.Choice.{full, weight, steady, row_ok, row_fine}
use Rattle.c_rows.specs.Seen.{Seen, front_typed}
use Rattle.c_rows.specs.Spells.{Spells, leaf, branch, Runs, done, word, child, argument, fork, member_kind}
use Rattle.c_rows.proofs.Checks.{and_left, and_right, both, row_at}
use Rattle.c_rows.proofs.FirstLemmas.{within_family}

abbrev pub least : Family → ℕ
least f = if full f then 1 else 0

abbrev empty : Row → Bool
empty [] = true
empty (p ∷ ps) = false

abbrev pub fork_need : Fork → ℕ
fork_need f = if list_any empty (ways f) then 0 else 1

abbrev pub need : Row → ℕ
need [] = 0
need (symbol.Word w ∷ ps) = need ps + 1
need (symbol.Child k ∷ ps) = least (family_of k) + need ps
need (symbol.Argument ∷ ps) = need ps + 1
need (symbol.Fork f ∷ ps) = fork_need f

needs_test : (r : Rule) → IsTrue (nat_le (least (family_of (kind_of r))) (need (row r)))
needs_test rule.Paren = refl
needs_test _ = refl

le_from : (a b : ℕ) → IsTrue (nat_le a b) → a ≤ b
le_from a b h = grind (arith, nat_tests)

abbrev needs_in : Fork → Row → Bool
needs_in f ps = nat_le (fork_need f) (need ps)

ways_need : (f : Fork) → IsTrue (list_all (needs_in f) (ways f))
ways_need forks.FirstString = refl
ways_need _ = refl

way_need : (f : Fork) (i : ℕ) (ps : Row) → slice_get (ways f) i ≡ Some ps → fork_need f ≤ need ps
way_need f i ps e = le_from (fork_need f) (need ps) (row_at (needs_in f) (ways f) i ps (ways_need f) e)

least_one : (b : Bool) → (if b then 1 else 0) ≤ 1
least_one true = omega arith
least_one false = omega arith

pub member_full : (b : Bool) → least (family_of (member_kind b)) ≡ 1
member_full true = refl
member_full false = refl

mutual
  pub spells_shorter : {k : Kind} {xs ys : List Seen} {t : Tree} → Spells k xs t ys → length ys + least (family_of k) ≤ length xs
  spells_shorter {k} (leaf h) = omega (arith, least_one (full (family_of k)))
  spells_shorter {k} {xs} {ys} (branch r w b al runs) =
      let n : least (family_of (kind_of r)) ≤ need (row r) = le_from (least (family_of (kind_of r))) (need (row r)) (needs_test r) in
      let g : length ys + least (family_of (kind_of r)) ≤ length xs = omega (arith, runs_shorter runs, n) in
      subst (λ (f : Family). length ys + least f ≤ length xs) (within_family (kind_of r) k w) g

  pub runs_shorter : {ps : Row} {xs ys : List Seen} {cs : List Tree} → Runs ps xs cs ys → length ys + need ps ≤ length xs
  runs_shorter done = omega arith
  runs_shorter (word h rest) = omega (arith, runs_shorter rest)
  runs_shorter (child d rest) = omega (arith, spells_shorter d, runs_shorter rest)
  runs_shorter (argument {xs = xs} d rest) = omega (arith, spells_shorter d, runs_shorter rest, member_full (front_typed xs))
  runs_shorter (fork {f = f} {ps = ps} i w v way) = omega (arith, runs_shorter way, way_need f i ps w)

-- ---- the measure of the loop over a row

weight_two : (b : Bool) → (if b then 0 else 2) ≤ 2
weight_two true = omega arith
weight_two false = omega arith

pub weight-small : (ps : Row) → weight ps ≤ 2
weight-small [] = omega arith
weight-small (symbol.Word w ∷ ps) = omega arith
weight-small (symbol.Child k ∷ ps) = weight_two (full (family_of k))
weight-small (symbol.Argument ∷ ps) = omega arith
weight-small (symbol.Fork f ∷ ps) = omega arith

full_or : (b : Bool) (n : ℕ) → IsTrue (b || nat_le n 1) → n ≤ 2 → (a c : ℕ) → a + (if b then 1 else 0) ≤ c → 3 * a + n < 3 * c + (if b then 0 else 2)
full_or true n h small a c le = omega arith
full_or false n h small a c le = omega (arith, le_from n 1 h)

pub smaller-child : (k : Kind) (ps : Row) (xs ys : List Seen) → IsTrue (steady (symbol.Child k ∷ ps)) → length ys + least (family_of k) ≤ length xs
    → 3 * length ys + weight ps < 3 * length xs + weight (symbol.Child k ∷ ps)
smaller-child k ps xs ys s le = full_or (full (family_of k)) (weight ps)
    (and_left (full (family_of k) || nat_le (weight ps) 1) (steady ps) s) (weight-small ps) (length ys) (length xs) le

pub smaller-argument : (ps : Row) (xs ys : List Seen) → length ys + 1 ≤ length xs → 3 * length ys + weight ps < 3 * length xs + weight (symbol.Argument ∷ ps)
smaller-argument ps xs ys le = omega (arith, weight-small ps)

-- ---- the rest of a fine row

ok_rest : (p : Symbol) (ps : Row) → IsTrue (row_ok (p ∷ ps)) → IsTrue (row_ok ps)
ok_rest (symbol.Word w) ps h = h
ok_rest (symbol.Child k) [] h = refl
ok_rest (symbol.Child k) (p ∷ ps) h = and_right _ (row_ok (p ∷ ps)) h
ok_rest symbol.Argument [] h = refl
ok_rest symbol.Argument (p ∷ ps) h = and_right _ (row_ok (p ∷ ps)) h
ok_rest (symbol.Fork f) [] h = refl
ok_rest (symbol.Fork f) (p ∷ ps) h = let no : ⊥ = cc in absurd no

steady_rest : (p : Symbol) (ps : Row) → IsTrue (row_ok (p ∷ ps)) → IsTrue (steady (p ∷ ps)) → IsTrue (steady ps)
steady_rest (symbol.Word w) ps o h = h
steady_rest (symbol.Child k) ps o h = and_right _ (steady ps) h
steady_rest symbol.Argument ps o h = h
steady_rest (symbol.Fork f) [] o h = refl
steady_rest (symbol.Fork f) (p ∷ ps) o h = let no : ⊥ = cc in absurd no

pub fine_ok : (ps : Row) → IsTrue (row_fine ps) → IsTrue (row_ok ps)
fine_ok ps h = and_left (row_ok ps) (steady ps) h

pub fine_steady : (ps : Row) → IsTrue (row_fine ps) → IsTrue (steady ps)
fine_steady ps h = and_right (row_ok ps) (steady ps) h

pub fine_rest : (p : Symbol) (ps : Row) → IsTrue (row_fine (p ∷ ps)) → IsTrue (row_fine ps)
fine_rest p ps h = both (row_ok ps) (steady ps) (ok_rest p ps (fine_ok (p ∷ ps) h)) (steady_rest p ps (fine_ok (p ∷ ps) h) (fine_steady (p ∷ ps) h))
