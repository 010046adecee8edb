-- The mark of the first token makes no difference to a tree that takes it.
use Rattle.std.proofs.Common.{◌≡◌, ℕ, List, [], ◌∷◌, refl, subst, sym}
use Rattle.std.specs.Prelude.{Bool, true, false, IsTrue, Some, slice_get}
use Rattle.std.specs.List.{list_all}
use Rattle.c_terms.specs.declared.tree.Tree.{Tree}
use Rattle.c_rows.specs.declared.class.Class.{Class}
use Rattle.c_rows.specs.declared.kind.Kind.{Kind}
use Rattle.c_rows.specs.declared.kind.Family.{Family}
use Rattle.c_rows.specs.declared.rule.Rule.{Rule}
use Rattle.c_rows.specs.declared.rule.Rule.TheVariants as rule
use Rattle.c_rows.specs.declared.symbol.Symbol.TheVariants as symbol
use Rattle.c_rows.specs.declared.symbol.Fork.{Fork}
use Rattle.c_rows.specs.declared.symbol.Fork.TheVariants as forks
use Rattle.c_rows.specs.Kinds.{family_of}
use Rattle.c_rows.specs.Rows.{Row, ways, row, kind_of}
use Rattle.c_rows.specs.Branches.{begins, may_go}
use Rattle.c_rows.specs.Seen.{Seen, front}
use Rattle.c_rows.specs.Spells.{Spells, leaf, branch, Runs, done, word, child, argument, fork}
use Rattle.c_rows.specs.Range.{NoMember, unmarked}
use Rattle.c_rows.specs.Choice.{implies, full}
use Rattle.c_rows.proofs.Checks.{modus, row_at}
use Rattle.c_rows.proofs.FirstLemmas.{within_family}

-- a row that begins with a token, which is not a member of an argument list
abbrev headed_fork : Fork → Bool
headed_fork forks.FirstString = true
headed_fork forks.NoType = true
headed_fork forks.MacroWords = true
headed_fork forks.MacroNames = true
headed_fork forks.NestStart = true
headed_fork _ = false

abbrev headed : Row → Bool
headed [] = false
headed (symbol.Word w ∷ ps) = true
headed (symbol.Child k ∷ ps) = full (family_of k)
headed (symbol.Argument ∷ ps) = false
headed (symbol.Fork f ∷ ps) = headed_fork f

abbrev headed_at : Rule → Bool
headed_at r = implies (full (family_of (kind_of r))) (headed (row r))

headed_test : (r : Rule) → IsTrue (headed_at r)
headed_test rule.Paren = refl
headed_test _ = refl

abbrev headed_ways_at : Fork → Bool
headed_ways_at f = implies (headed_fork f) (list_all headed (ways f))

headed_ways : (f : Fork) → IsTrue (headed_ways_at f)
headed_ways forks.FirstString = refl
headed_ways _ = refl

headed_way : (f : Fork) (i : ℕ) (ps : Row) → slice_get (ways f) i ≡ Some ps → IsTrue (headed_fork f) → IsTrue (headed ps)
headed_way f i ps e h = row_at headed (ways f) i ps (modus (headed_fork f) (list_all headed (ways f)) (headed_ways f) h) e

-- ---- the mark of the first token

abbrev flagged : Bool → Seen → Seen
flagged b s = record { token = s.token; class = s.class; typed = b }

abbrev reflagged : Bool → List Seen → List Seen
reflagged b [] = []
reflagged b (s ∷ ss) = flagged b s ∷ ss

front_same : (b : Bool) (xs : List Seen) → front (reflagged b xs) ≡ front xs
front_same b [] = refl
front_same b (s ∷ ss) = refl

mutual
  tree_flag : {k : Kind} {xs ys : List Seen} {t : Tree} → Spells k xs t ys → (b : Bool) → IsTrue (full (family_of k)) → Spells k (reflagged b xs) t ys
  tree_flag (leaf {s = s} {ys = ys} h) b f = leaf {s = flagged b s} h
  tree_flag {k} {xs} (branch r w g al runs) b f =
      branch r w (subst (λ (c : Class). IsTrue (begins r c)) (sym (front_same b xs)) g) al
      (row_flag runs b (modus (full (family_of (kind_of r))) (headed (row r)) (headed_test r)
      (subst (λ (o : Family). IsTrue (full o)) (sym (within_family (kind_of r) k w)) f)))

  row_flag : {ps : Row} {xs ys : List Seen} {cs : List Tree} → Runs ps xs cs ys → (b : Bool) → IsTrue (headed ps) → Runs ps (reflagged b xs) cs ys
  row_flag done b h = let never : ⊥ = cc in absurd never
  row_flag (word {s = s} f rest) b h = word {s = flagged b s} f rest
  row_flag (child d rest) b h = child (tree_flag d b h) rest
  row_flag (argument d rest) b h = let never : ⊥ = cc in absurd never
  row_flag (fork {f = f} {ps = ps} {xs = xs} i w v way) b h =
      fork i w (subst (λ (c : Class). IsTrue (may_go f ps c)) (sym (front_same b xs)) v) (row_flag way b (headed_way f i ps w h))

pub flag_free : (s : Seen) (ss : List Seen) → NoMember (unmarked s ∷ ss) → NoMember (s ∷ ss)
flag_free s ss n = λ u ys d e l. n u ys (tree_flag d false refl) e l

pub flag_set : (s : Seen) (ss : List Seen) → NoMember (s ∷ ss) → NoMember (unmarked s ∷ ss)
flag_set s ss n = λ u ys d e l. n u ys (tree_flag d s.typed refl) e l
