-- The steps, as the code's answers cite them.
use Rattle.std.proofs.Common.{◌≡◌, ℕ, ◌+◌, ◌*◌, ◌<◌, ◌≤◌, List, [], ◌∷◌, ◌++◌, length, get_or, take, drop, ◌-◌, subst, ap, sym, ◌∙◌, arith}
use Rattle.std.proofs.lemmas.Grind.{common_steps}
use Rattle.std.specs.Prelude.{IsTrue, Some, None}
use Rattle.c_terms.specs.declared.token.Token.{Token}
use Rattle.c_terms.specs.declared.tree.Tree.{Tree}
use Rattle.c_rows.specs.declared.class.Class.{Class}
use Rattle.c_terms.specs.declared.tree.Tree.TheVariants as tree
use Rattle.c_rows.specs.declared.kind.Kind.{Kind}
use Rattle.c_rows.specs.declared.word.Word.{Word}
use Rattle.c_rows.specs.declared.symbol.Fork.{Fork}
use Rattle.c_rows.specs.declared.symbol.Symbol.TheVariants as symbol
use Rattle.c_rows.specs.Words.{fits}
use Rattle.c_rows.specs.Rows.{Row}
use Rattle.c_rows.specs.Choice.{choose, row_fine, weight}
use Rattle.c_rows.specs.Seen.{Seen, front, front_typed}
use Rattle.c_rows.specs.Spells.{Spells, member_kind}
use Rattle.c_expr.specs.Steps.{place, Leads, Refuses, OnlyTree, NoTreeAt}
use Rattle.c_rows.proofs.LengthLemmas.{fine_ok, fine_steady, smaller-child, smaller-argument, weight-small, spells_shorter, member_full}
use Rattle.c_rows.proofs.Checks.{chosen_way, way_fine, weight_way}
use Rattle.c_expr.proofs.StepLemmas.{leads_word, leads_fork, refuses_fork, leads_child, refuses_child, leads_member, refuses_member}

pub tail_slice : {A : Type 0} (x : A) (xs : List A) → take (length (x ∷ xs) - 1) (drop 1 (x ∷ xs)) ≡ xs
tail_slice x xs = grind (arith, common_steps)

module _ (most : ℕ) where
  pub word_taken : (w : Word) (ps : Row) (xs : List Seen) (before now : List Tree) (s : Seen) (u : Token)
      → IsTrue (fits w (front xs)) → 1 ≤ length xs → s ≡ get_or xs 0 s → u ≡ s.token
      → now ≡ before ++ tree.Leaf u ∷ [] → Leads most (place (symbol.Word w ∷ ps) xs before) (place ps (take (length xs - 1) (drop 1 xs)) now)
  word_taken w ps [] before now s u f le g e n = absurd (omega arith)
  word_taken w ps (x ∷ xs) before now s u f le g e n =
      let same : now ≡ before ++ tree.Leaf x.token ∷ [] = n ∙ ap (λ (v : Token). before ++ tree.Leaf v ∷ []) (e ∙ ap (λ (y : Seen). y.token) g) in
      subst (λ (zs : List Seen). Leads most (place (symbol.Word w ∷ ps) (x ∷ xs) before) (place ps zs now)) (sym (tail_slice x xs))
      (subst (λ (all : List Tree). Leads most (place (symbol.Word w ∷ ps) (x ∷ xs) before) (place ps xs all)) (sym same) (leads_word most w ps x xs before f))

  pub way_taken : (f : Fork) (ps r : Row) (xs : List Seen) (before : List Tree) → IsTrue (row_fine (symbol.Fork f ∷ ps)) → choose f (front xs) ≡ Some r
      → Leads most (place (symbol.Fork f ∷ ps) xs before) (place r xs before)
  way_taken f ps r xs before ok e = leads_fork most f ps r xs before (fine_ok (symbol.Fork f ∷ ps) ok) e

  pub way_refused : (f : Fork) (ps : Row) (xs : List Seen) (before : List Tree) → IsTrue (row_fine (symbol.Fork f ∷ ps)) → choose f (front xs) ≡ None
      → Refuses most (place (symbol.Fork f ∷ ps) xs before)
  way_refused f ps xs before ok e = refuses_fork most f ps xs before (fine_ok (symbol.Fork f ∷ ps) ok) e

  pub member_taken : (k : Kind) (ps : Row) (xs zs : List Seen) (before now : List Tree) (t : Tree)
      → k ≡ member_kind (front_typed xs) → IsTrue (row_fine (symbol.Argument ∷ ps)) → now ≡ before ++ t ∷ []
      → Spells k xs t zs → OnlyTree most k xs t zs → Leads most (place (symbol.Argument ∷ ps) xs before) (place ps zs now)
  member_taken k ps xs zs before now t same ok e d one =
      subst (λ (all : List Tree). Leads most (place (symbol.Argument ∷ ps) xs before) (place ps zs all)) (sym e)
      (leads_member most ps t xs zs before (fine_ok (symbol.Argument ∷ ps) ok) (subst (λ (j : Kind). Spells j xs t zs) same d)
      (subst (λ (j : Kind). OnlyTree most j xs t zs) same one))

  pub member_refused : (k : Kind) (ps : Row) (xs : List Seen) (before : List Tree) → k ≡ member_kind (front_typed xs)
      → IsTrue (row_fine (symbol.Argument ∷ ps)) → NoTreeAt most k xs → Refuses most (place (symbol.Argument ∷ ps) xs before)
  member_refused k ps xs before same ok none =
      refuses_member most ps xs before (fine_ok (symbol.Argument ∷ ps) ok) (subst (λ (j : Kind). NoTreeAt most j xs) same none)

  pub child_taken : (k : Kind) (ps : Row) (xs zs : List Seen) (before now : List Tree) (t : Tree)
      → IsTrue (row_fine (symbol.Child k ∷ ps)) → now ≡ before ++ t ∷ [] → Spells k xs t zs → OnlyTree most k xs t zs
      → Leads most (place (symbol.Child k ∷ ps) xs before) (place ps zs now)
  child_taken k ps xs zs before now t ok e d one =
      subst (λ (all : List Tree). Leads most (place (symbol.Child k ∷ ps) xs before) (place ps zs all)) (sym e)
      (leads_child most k ps t xs zs before (fine_ok (symbol.Child k ∷ ps) ok) d one)

  pub child_refused : (k : Kind) (ps : Row) (xs : List Seen) (before : List Tree) → IsTrue (row_fine (symbol.Child k ∷ ps))
      → NoTreeAt most k xs → Refuses most (place (symbol.Child k ∷ ps) xs before)
  child_refused k ps xs before ok none = refuses_child most k ps xs before (fine_ok (symbol.Child k ∷ ps) ok) none

pub word_smaller : (w : Word) (ps : Row) (xs : List Seen) → 1 ≤ length xs
    → 3 * length (take (length xs - 1) (drop 1 xs)) + weight ps < 3 * length xs + weight (symbol.Word w ∷ ps)
word_smaller w ps [] le = absurd (omega arith)
word_smaller w ps (x ∷ xs) le = omega (arith, ap (λ (zs : List Seen). length zs) (tail_slice x xs), weight-small ps)

pub child_smaller : (k : Kind) (ps : Row) (xs zs : List Seen) (t : Tree) → IsTrue (row_fine (symbol.Child k ∷ ps))
    → Spells k xs t zs → 3 * length zs + weight ps < 3 * length xs + weight (symbol.Child k ∷ ps)
child_smaller k ps xs zs t ok d = smaller-child k ps xs zs (fine_steady (symbol.Child k ∷ ps) ok) (spells_shorter d)

pub member_smaller : (k : Kind) (ps : Row) (xs zs : List Seen) (t : Tree) → k ≡ member_kind (front_typed xs) → Spells k xs t zs
    → 3 * length zs + weight ps < 3 * length xs + weight (symbol.Argument ∷ ps)
member_smaller k ps xs zs t same d =
    let e : Spells (member_kind (front_typed xs)) xs t zs = subst (λ (j : Kind). Spells j xs t zs) same d in
    smaller-argument ps xs zs (omega (arith, spells_shorter e, member_full (front_typed xs)))

-- the way by which a row continues is fine
pub chosen_fine : (f : Fork) (c : Class) (r : Row) → choose f c ≡ Some r → IsTrue (row_fine r)
chosen_fine f c r e = let w = chosen_way f c r e in way_fine f w.0 r w.1

pub chosen_smaller : (f : Fork) (c : Class) (ps r : Row) (n : ℕ) → choose f c ≡ Some r → 3 * n + weight r < 3 * n + weight (symbol.Fork f ∷ ps)
chosen_smaller f c ps r n e = let w = chosen_way f c r e in omega (arith, weight_way f w.0 r w.1)
