-- The trees of sides.
use Rattle.std.proofs.Common.{◌≡◌, ◌≤◌, ◌<◌, ◌+◌, ◌-◌, ℕ, zero, suc, Bool, true, false, true≢false, refl, sym, ap, ◌∙◌, subst}
use Rattle.std.proofs.Common.{arith, List, [], ◌∷◌, ◌++◌, map, length, get_or, take, slice_range, Option, Some, None, Result}
use Rattle.std.proofs.Common.{Ok, Err}
use Rattle.std.proofs.Math.Nat.{lt_of_not-le}
use Rattle.std.proofs.Math.Seq.{take-length}
use Rattle.std.proofs.lemmas.List.{take_more}
use Rattle.c_terms.specs.declared.token.Token.{Token}
use Rattle.c_terms.specs.declared.tree.Tree.{Tree}
use Rattle.c_terms.specs.Names.{listed_names}
use Rattle.c_rows.specs.declared.kind.Kind.TheVariants as kinds
use Rattle.c_rows.specs.Depth.{opens_of}
use Rattle.c_expr.specs.declared.fault.ParseFault.{ParseFault}
use Rattle.c_expr.specs.declared.fault.ParseFault.TheVariants.{NoTree, TooDeep, NoMemory}
use Rattle.c_expr.specs.Answer.{Reads}
use Rattle.smpl_patch.specs.declared.pattern.VarDecl.{VarDecl}
use Rattle.smpl_lexer.specs.declared.token.PatchToken.{PatchToken}
use Rattle.smpl_meta.specs.Patterns.{made}
use Rattle.iso_file.specs.Isos.{IsSide, AreSides}
use Rattle.iso_file.specs.Stepped.{Decides, Tells}

all_left : (n : ℕ) → n - 0 ≡ n
all_left n = omega arith

-- the range of all tokens is the tokens
whole_range : (tokens : List Token) → slice_range tokens 0 (length tokens) ≡ tokens
whole_range tokens = ap (λ n. take n tokens) (all_left (length tokens)) ∙ take-length tokens

at_most : (n : ℕ) → (200 < n → ⊥) → n ≤ 200
at_most n refuted = let r : n < 201 = lt_of_not-le (λ (h : 201 ≤ n). refuted (omega (arith, h))) in omega (arith, r)

is_deep : Result Tree ParseFault → Bool
is_deep (Ok t) = false
is_deep (Err NoTree) = false
is_deep (Err TooDeep) = true
is_deep (Err NoMemory) = false

reads_side : (vars : List VarDecl) (side : List PatchToken) (r : Result Tree ParseFault) (found : Option Tree)
    → Reads kinds.Expr listed_names (map (made vars 0) side) r → Tells r found → Decides (IsSide vars side) found
unfolding is_deep
reads_side vars side (Ok t) found h e =
    let deep : opens_of (map (made vars 0) side) ≤ 200 =
    at_most (opens_of (map (made vars 0) side)) (λ big. true≢false (sym (ap is_deep (h.too_deep.1 big)))) in
    let here : IsSide vars side t = record { shallow = deep; tree_is = h.found } in
    subst (λ o. Decides (IsSide vars side) o) (sym e) here
reads_side vars side (Err NoMemory) found h e = absurd e
reads_side vars side (Err NoTree) found h e =
    let none : Decides (IsSide vars side) None = λ t s. h.no_tree refl t s.tree_is in
    subst (λ o. Decides (IsSide vars side) o) (sym e) none
reads_side vars side (Err TooDeep) found h e =
    let big : 200 < opens_of (map (made vars 0) side) = h.too_deep.0 refl in
    let none : Decides (IsSide vars side) None = λ t s. absurd (let d = s.shallow in omega arith) in
    subst (λ o. Decides (IsSide vars side) o) (sym e) none

-- what is decided about all tokens of a side
pub decides : (vars : List VarDecl) (side : List PatchToken) (tokens : List Token) (names : List (List ℕ)) (r : Result Tree ParseFault) (found : Option Tree)
    → tokens ≡ map (made vars 0) side → names ≡ listed_names → Reads kinds.Expr names (slice_range tokens 0 (length tokens)) r → Tells r found
    → Decides (IsSide vars side) found
decides vars side tokens names r found t n h e =
    let one : Reads kinds.Expr names tokens r = subst (λ ts. Reads kinds.Expr names ts r) (whole_range tokens) h in
    let two : Reads kinds.Expr listed_names tokens r = subst (λ ns. Reads kinds.Expr ns tokens r) n one in
    reads_side vars side r found (subst (λ ts. Reads kinds.Expr listed_names ts r) t two) e

-- ---- several

pub sides_more : (vars : List VarDecl) (sides : List (List PatchToken)) (trees : List Tree) (side : List PatchToken) (tree : Tree)
    → AreSides vars sides trees → IsSide vars side tree → AreSides vars (sides ++ side ∷ []) (trees ++ tree ∷ [])
sides_more vars [] [] side tree are is = (is, tt)
sides_more vars [] (t ∷ ts) side tree are is = absurd are
sides_more vars (s ∷ ss) [] side tree are is = absurd are
sides_more vars (s ∷ ss) (t ∷ ts) side tree are is = (are.0, sides_more vars ss ts side tree are.1 is)

-- if one of them has no tree, they have none
pub no_sides : (vars : List VarDecl) (sides : List (List PatchToken)) (i : ℕ) (d : List PatchToken) → i < length sides
    → ((t : Tree) → IsSide vars (get_or sides i d) t → ⊥) → (trees : List Tree) → AreSides vars sides trees → ⊥
no_sides vars [] i d within none trees are = absurd (omega (arith, within))
no_sides vars (s ∷ ss) i d within none [] are = are
no_sides vars (s ∷ ss) zero d within none (t ∷ ts) are = none t are.0
no_sides vars (s ∷ ss) (suc i) d within none (t ∷ ts) are = no_sides vars ss i d (omega (arith, within)) none ts are.1

-- ---- one after another

here_by : (vars : List VarDecl) (sides : List (List PatchToken)) (i : ℕ) (side item : List PatchToken) (o : Option Tree)
    → side ≡ item → item ≡ get_or sides i item
    → Decides (IsSide vars side) o → Decides (IsSide vars (get_or sides i item)) o
here_by vars sides i side item o s is d = subst (λ (x : List PatchToken). Decides (IsSide vars x) o) (s ∙ is) d

pub none_at : (vars : List VarDecl) (sides : List (List PatchToken)) (i : ℕ) (side item : List PatchToken) (o : Option Tree) → i < length sides → side ≡ item
    → item ≡ get_or sides i item → Decides (IsSide vars side) o → o ≡ None → Decides (AreSides vars sides) None
none_at vars sides i side item o within s is d none trees are =
    let here : Decides (IsSide vars (get_or sides i item)) None =
    subst (λ (x : Option Tree). Decides (IsSide vars (get_or sides i item)) x) none (here_by vars sides i side item o s is d) in
    no_sides vars sides i item within here trees are

pub more_at : (vars : List VarDecl) (sides : List (List PatchToken)) (i : ℕ) (side item : List PatchToken) (o : Option Tree)
    (tree : Tree) (trees new : List Tree)
    → i < length sides → side ≡ item → item ≡ get_or sides i item → Decides (IsSide vars side) o → o ≡ Some tree → AreSides vars (take i sides) trees
    → new ≡ trees ++ tree ∷ [] → AreSides vars (take (i + 1) sides) new
more_at vars sides i side item o tree trees new within s is d some are e =
    let here : IsSide vars (get_or sides i item) tree =
    subst (λ (x : Option Tree). Decides (IsSide vars (get_or sides i item)) x) some (here_by vars sides i side item o s is d) in
    subst (λ (x : List Tree). AreSides vars (take (i + 1) sides) x) (sym e)
    (subst (λ (x : List (List PatchToken)). AreSides vars x (trees ++ tree ∷ [])) (sym (take_more sides i item within))
    (sides_more vars (take i sides) trees (get_or sides i item) tree are here))
