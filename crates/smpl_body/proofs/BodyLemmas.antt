-- A body has elements or a fault, as the code finds them, and never two of them.
use Rattle.std.proofs.Common.{◌≡◌, ℕ, refl, sym, ◌∙◌, subst, List, [], ◌∷◌, ◌++◌, map, Option, Some, None, slice_get}
use Rattle.c_terms.specs.declared.tree.Tree.{Tree}
use Rattle.smpl_patch.specs.declared.elem.Elem.{Elem}
use Rattle.smpl_patch.specs.declared.fault.PatchFault.{PatchFault}
use Rattle.c_terms.specs.Trees.{join}
use Rattle.smpl_patch.specs.declared.fault.PatchFault.TheVariants.{BadPattern, DotsAtEdge}
use Rattle.smpl_patch.specs.Faults.{earlier, first_from, first_of}
use Rattle.smpl_meta.specs.declared.patterns.Placed.{Placed}
use Rattle.smpl_body.specs.declared.smpl_when.cutting.Cutting.{Cutting}
use Rattle.smpl_body.specs.SmplWhen.Cutting.{cut}
use Rattle.smpl_body.specs.Deep.{deep_fault}
use Rattle.smpl_body.specs.Spelled.{body_forms}
use Rattle.smpl_body.specs.DotsOf.{edges}
use Rattle.smpl_body.specs.Bodies.{Spells, place_in, at_of, nested_hosts, all_edges, edge_faults, minus_faults, first_some}
use Rattle.smpl_body.specs.Bodies.{tree_fault, IsBodyFault, deep, unspelled, misplaced, body_elements, IsBody}
use Rattle.smpl_body.specs.SoFar.{AllSpell, IsMade}
use Rattle.smpl_body.proofs.OnceLemmas.{OneTree, read-once, all-once}
use Rattle.smpl_body.proofs.SpelledLemmas.{NoneSpell}

pub fault-unspelled : (ps : List Placed) (end place : ℕ) → deep_fault ps ≡ None → NoneSpell ps → place ≡ place_in ps end → IsBodyFault ps end (BadPattern place)
fault-unspelled ps end place shallow none e = subst (λ (n : ℕ). IsBodyFault ps end (BadPattern n)) (sym e) (unspelled shallow none)

pub fault-misplaced : (ps : List Placed) (end : ℕ) (c : Cutting) (all : List Tree) (f : PatchFault) → deep_fault ps ≡ None → c ≡ cut ps → AllSpell ps all
    → tree_fault ps c all ≡ Some f → IsBodyFault ps end f
fault-misplaced ps end c all f shallow e s fault =
    misplaced shallow s.body s.codes s.spells
    (subst (λ (d : Cutting). tree_fault ps d (s.body ∷ s.codes) ≡ Some f) e (subst (λ (ts : List Tree). tree_fault ps c ts ≡ Some f) s.is fault))

pub body-made : (ps : List Placed) (c : Cutting) (all : List Tree) (es : List Elem) → deep_fault ps ≡ None → c ≡ cut ps → AllSpell ps all
    → tree_fault ps c all ≡ None → IsMade c.said all es → IsBody ps es
body-made ps c all es shallow e s none made = record {
  shallow = shallow;
  tree = s.body;
  codes = s.codes;
  spells = s.spells;
  faultless = subst (λ (d : Cutting). tree_fault ps d (s.body ∷ s.codes) ≡ None) e (subst (λ (ts : List Tree). tree_fault ps c ts ≡ None) s.is none);
  are = subst (λ (d : Cutting). es ≡ body_elements d.said s.body s.codes) e (subst (λ (ts : List Tree). IsMade c.said ts es) s.is made);
}

-- ---- never two

same-body : (law : OneTree) (ps : List Placed) (t u : Tree) (cs us : List Tree) → Spells ps t cs → Spells ps u us → t ≡ u
same-body law ps t u cs us one other = read-once law body_forms (cut ps).main t u one.body other.body

same-codes : (law : OneTree) (ps : List Placed) (t u : Tree) (cs us : List Tree) → Spells ps t cs → Spells ps u us → cs ≡ us
same-codes law ps t u cs us one other = all-once law (cut ps).codes cs us one.code other.code

abbrev no_fault : Option PatchFault
no_fault = None

some≢none : (f : PatchFault) (o : Option PatchFault) → o ≡ Some f → o ≡ None → ⊥
some≢none f o h n = let e : Some f ≡ no_fault = sym h ∙ n in cc

same-some : (f g : PatchFault) (o : Option PatchFault) → o ≡ Some f → o ≡ Some g → f ≡ g
same-some f g o h k = let e : Some f ≡ Some g = sym h ∙ k in cc

pub body-once : (law : OneTree) (ps : List Placed) (es fs : List Elem) → IsBody ps es → IsBody ps fs → es ≡ fs
body-once law ps es fs one other =
    let t = same-body law ps one.tree other.tree one.codes other.codes one.spells other.spells in
    let cs = same-codes law ps one.tree other.tree one.codes other.codes one.spells other.spells in
    one.are ∙ (λ i. body_elements (cut ps).said (t i) (cs i)) ∙ sym other.are

pub body-apart : (law : OneTree) (ps : List Placed) (end : ℕ) (es : List Elem) (f : PatchFault) → IsBody ps es → IsBodyFault ps end f → ⊥
body-apart law ps end es f one (deep e) = some≢none f (deep_fault ps) e one.shallow
body-apart law ps end es _ one (unspelled shallow none) = none one.tree one.codes one.spells
body-apart law ps end es f one (misplaced shallow t cs s e) =
    let b = same-body law ps one.tree t one.codes cs one.spells s in
    let k = same-codes law ps one.tree t one.codes cs one.spells s in
    some≢none f (tree_fault ps (cut ps) (t ∷ cs)) e ((λ i. tree_fault ps (cut ps) (sym b i ∷ sym k i)) ∙ one.faultless)

pub fault-once : (law : OneTree) (ps : List Placed) (end : ℕ) (f g : PatchFault) → IsBodyFault ps end f → IsBodyFault ps end g → f ≡ g
fault-once law ps end f g (deep e) (deep k) = same-some f g (deep_fault ps) e k
fault-once law ps end f _ (deep e) (unspelled shallow none) = absurd (some≢none f (deep_fault ps) e shallow)
fault-once law ps end f g (deep e) (misplaced shallow t cs s k) = absurd (some≢none f (deep_fault ps) e shallow)
fault-once law ps end _ g (unspelled shallow none) (deep k) = absurd (some≢none g (deep_fault ps) k shallow)
fault-once law ps end _ _ (unspelled shallow none) (unspelled shallow2 none2) = refl
fault-once law ps end _ g (unspelled shallow none) (misplaced shallow2 t cs s k) = absurd (none t cs s)
fault-once law ps end f g (misplaced shallow t cs s e) (deep k) = absurd (some≢none g (deep_fault ps) k shallow)
fault-once law ps end f _ (misplaced shallow t cs s e) (unspelled shallow2 none) = absurd (none t cs s)
fault-once law ps end f g (misplaced shallow t cs s e) (misplaced shallow2 u us r k) =
    let b = same-body law ps t u cs us s r in
    let d = same-codes law ps t u cs us s r in
    same-some f g (tree_fault ps (cut ps) (u ∷ us)) ((λ i. tree_fault ps (cut ps) (sym b i ∷ sym d i)) ∙ e) k

-- ---- code in code

some-stays : (f : PatchFault) (fs : List PatchFault) → first_from (Some f) fs ≡ None → ⊥
some-stays f [] h = some≢none f (Some f) refl h
some-stays f (g ∷ fs) h = some-stays (earlier (Some f) g) fs h

no-edges : (ps : List Placed) (ids : List ℕ) → first_of (edge_faults ps ids) ≡ None → ids ≡ []
no-edges ps [] h = refl
no-edges ps (id ∷ ids) h = absurd (some-stays (DotsAtEdge (at_of (slice_get ps id))) (edge_faults ps ids) h)

first-none : (o p : Option PatchFault) → first_some o p ≡ None → o ≡ None
first-none None p h = refl
first-none (Some f) p h = h

front-empty : (xs ys : List ℕ) → xs ++ ys ≡ [] → xs ≡ []
front-empty [] ys h = refl
front-empty (x ∷ xs) ys h = let k : x ∷ (xs ++ ys) ≡ [] = h in absurd (cc)

-- if no dots are at an edge, there is no code within code
pub body-flat : (ps : List Placed) (es : List Elem) → IsBody ps es → nested_hosts (cut ps).codes ≡ []
body-flat ps es b =
    let c = cut ps in
    let ts = b.tree ∷ b.codes in
    let none : first_of (edge_faults ps (all_edges c ts)) ≡ None =
    first-none (first_of (edge_faults ps (all_edges c ts))) (first_of (minus_faults ps ts)) b.faultless in
    front-empty (nested_hosts c.codes) (join (map edges ts)) (no-edges ps (all_edges c ts) none)
