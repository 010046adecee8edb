-- Whole ranges, as the code's answers cite them.
use Rattle.std.proofs.Common.{◌≡◌, ◌≤◌, List, [], subst, sym}
use Rattle.std.specs.Prelude.{false, IsTrue, IfOk, Result, Ok, Err}
use Rattle.c_terms.specs.declared.token.Token.{Token}
use Rattle.c_terms.specs.declared.tree.Tree.{Tree}
use Rattle.c_terms.specs.Trees.{levels}
use Rattle.c_rows.specs.declared.class.Class.TheVariants as class
use Rattle.c_rows.specs.declared.kind.Kind.{Kind}
use Rattle.c_rows.specs.Choice.{stops}
use Rattle.c_rows.specs.Look.{Names}
use Rattle.c_rows.specs.Seen.{Seen}
use Rattle.c_rows.specs.Spells.{Spells}
use Rattle.c_rows.specs.Range.{AreSeenAs}
use Rattle.c_rows.specs.Trees.{IsTreeOf, stands_alone}
use Rattle.c_rows.proofs.TreeLemmas.{tree_spelled, spelled_tree}
use Rattle.c_expr.specs.declared.fault.ParseFault.{ParseFault}
use Rattle.c_expr.specs.declared.fault.ParseFault.TheVariants.{NoTree, TooDeep, NoMemory}
use Rattle.c_expr.specs.Steps.{OnFault, OnlyTree, NoTreeAt}
use Rattle.c_expr.specs.Answer.{Answers}

abbrev failed : ParseFault → Result Tree ParseFault
failed e = Err e

err_is : (a b : ParseFault) → failed a ≡ failed b → a ≡ b
err_is a b e = cc

-- ---- as the range is seen

pub whole_only : (k : Kind) (xs ys : List Seen) (t u : Tree) → IsTrue (stops k class.End) → OnlyTree 1000 k xs t ys
    → Spells k xs u [] → levels u ≤ 1000 → (t ≡ u) × (ys ≡ [])
whole_only k xs ys t u s one d l = one u [] d s l

pub err_answers : (k : Kind) (xs : List Seen) (e : ParseFault) (t : Tree) → IsTrue (stops k class.End)
    → OnFault e (NoTreeAt 1000 k xs) → Spells k xs t [] → levels t ≤ 1000 → Answers t (Err e)
err_answers k xs NoTree t s f d l = f t [] d s l
err_answers k xs TooDeep t s f d l = f
err_answers k xs NoMemory t s f d l = tt

err_none : (k : Kind) (xs : List Seen) (e : ParseFault) (t : Tree) → IsTrue (stops k class.End) → OnFault e (NoTreeAt 1000 k xs)
    → e ≡ NoTree → Spells k xs t [] → levels t ≤ 1000 → ⊥
err_none k xs NoTree t s f e d l = f t [] d s l
err_none k xs TooDeep t s f e d l = f
err_none k xs NoMemory t s f e d l = cc

pub err_none_at : (k : Kind) (xs : List Seen) (e : ParseFault) (t : Tree) → IsTrue (stops k class.End)
    → OnFault e (NoTreeAt 1000 k xs) → failed e ≡ failed NoTree → Spells k xs t [] → levels t ≤ 1000 → ⊥
err_none_at k xs e t s f n d l = err_none k xs e t s f (err_is e NoTree n) d l

err_deep : (P : Type 0) (e : ParseFault) → OnFault e P → e ≡ TooDeep → ⊥
err_deep P NoTree f s = cc
err_deep P TooDeep f s = f
err_deep P NoMemory f s = cc

pub err_never_deep : (P : Type 0) (e : ParseFault) → OnFault e P → failed e ≡ failed TooDeep → ⊥
err_never_deep P e f n = err_deep P e f (err_is e TooDeep n)

-- ---- as the range is

pub tree_found : (k : Kind) (names : Names) (ts : List Token) (ss : List Seen) (t : Tree) → IsTrue (stands_alone k)
    → AreSeenAs names false ts ss → Spells k ss t [] × (levels t ≤ 1000) → IsTreeOf k names ts t
tree_found k names ts ss t o a d = spelled_tree names k ts t ss o a d.0 d.1

-- a tree of the range spells it as it is seen
pub spelled_at : (k : Kind) (names : Names) (ts : List Token) (ss vs : List Seen) (t : Tree) → IsTrue (stands_alone k) → vs ≡ ss
    → AreSeenAs names false ts ss → IsTreeOf k names ts t → Spells k vs t []
spelled_at k names ts ss vs t o e a h = subst (λ (us : List Seen). Spells k us t []) (sym e) (tree_spelled names k ts t ss o a h)

pub found_at : (k : Kind) (names : Names) (ts : List Token) (ss vs : List Seen) (r : Result Tree ParseFault)
    → IsTrue (stands_alone k) → vs ≡ ss → AreSeenAs names false ts ss
    → IfOk r (λ t. Spells k vs t [] × (levels t ≤ 1000)) → IfOk r (λ t. IsTreeOf k names ts t)
found_at k names ts ss vs (Ok t) o e a d = tree_found k names ts ss t o a (subst (λ (us : List Seen). Spells k us t []) e d.0, d.1)
found_at k names ts ss vs (Err f) o e a d = d
