-- Whether tokens are statements, by what the parser returns; and the first piece that isn't.
use Rattle.std.proofs.Common.{◌≡◌, ◌≤◌, ◌<◌, ◌+◌, ◌-◌, ℕ, suc, false, true, Bool, refl, sym, ap, ◌∙◌, arith, subst, List}
use Rattle.std.proofs.Common.{[], ◌∷◌, slice_range, length, take, drop, get_or, drop-cons, Result, Ok, Err, inl, inr}
use Rattle.std.specs.Prelude.{◌↔◌, ◌⊎◌, IsTrue}
use Rattle.std.proofs.Math.Nat.{lt_of_not-le}
use Rattle.std.proofs.Math.Seq.{take-length}
use Rattle.std.proofs.lemmas.Bool.{false≢true}
use Rattle.c_terms.specs.declared.token.Token.{Token}
use Rattle.c_terms.specs.declared.tree.Tree.{Tree}
use Rattle.c_terms.specs.Names.{listed_names}
use Rattle.c_rows.specs.declared.kind.Kind.TheVariants as kind
use Rattle.c_rows.specs.Look.{Names}
use Rattle.c_rows.specs.Depth.{opens_of}
use Rattle.c_expr.specs.declared.fault.ParseFault.{ParseFault}
use Rattle.c_expr.specs.declared.fault.ParseFault.TheVariants.{NoTree, TooDeep, NoMemory}
use Rattle.c_expr.specs.Answer.{Reads}
use Rattle.smpl_places.specs.declared.pieces.Piece.{Piece}
use Rattle.smpl_places.specs.Unspelled.{AreStatements, Tells, IsFirstUnspelled}

-- memory didn't run out, so the other alternative holds
pub not_memory : {A B : Type 0} (b : Bool) → b ≡ false → (IsTrue b ↔ A) → A ⊎ B → B
not_memory b isnt wanting (inl a) = absurd (false≢true (sym isnt ∙ wanting.1 a))
not_memory b isnt wanting (inr other) = other

all_left : (n : ℕ) → n - 0 ≡ n
all_left n = omega arith

whole_range : (tokens : List Token) → slice_range tokens 0 (length tokens) ≡ tokens
whole_range tokens = ap (λ n. take n tokens) (all_left (length tokens)) ∙ take-length tokens

-- the tokens are read as statements, with the listed names
abbrev pub IsRead : List Token → Result Tree ParseFault → Type 0
IsRead tokens r = Reads kind.StmtList listed_names tokens r

pub is_read : (names : Names) (tokens : List Token) (r : Result Tree ParseFault) → names ≡ listed_names
    → Reads kind.StmtList names (slice_range tokens 0 (length tokens)) r → IsRead tokens r
is_read names tokens r listed h =
    subst (λ (ns : Names). Reads kind.StmtList ns tokens r) listed
    (subst (λ (ts : List Token). Reads kind.StmtList names ts r) (whole_range tokens) h)

at_most : (n : ℕ) → (200 < n → ⊥) → n ≤ 200
at_most n refuted = let r : n < 201 = lt_of_not-le (λ (h : 201 ≤ n). refuted (omega (arith, h))) in omega (arith, r)

abbrev is_deep : Result Tree ParseFault → Bool
is_deep (Ok t) = false
is_deep (Err NoTree) = false
is_deep (Err TooDeep) = true
is_deep (Err NoMemory) = false

pub tells_tree : (tokens : List Token) (r : Result Tree ParseFault) (t : Tree) → IsRead tokens r → r ≡ Ok t → Tells true tokens
tells_tree tokens r t h e =
    let read : IsRead tokens (Ok t) = subst (IsRead tokens) e h in
    (t, record { shallow = at_most (opens_of tokens) (λ big. false≢true (ap is_deep (read.too_deep.1 big))); spells = read.found })

pub tells_none : (tokens : List Token) (r : Result Tree ParseFault) → IsRead tokens r → r ≡ Err NoTree → Tells false tokens
tells_none tokens r h e = λ t is. h.no_tree e t is.spells

pub tells_deep : (tokens : List Token) (r : Result Tree ParseFault) → IsRead tokens r → r ≡ Err TooDeep → Tells false tokens
tells_deep tokens r h e = λ t is. let big = h.too_deep.0 e in absurd (omega (arith, big, is.shallow))

pub tells_not : (spelled : Bool) (tokens : List Token) → Tells spelled tokens → spelled ≡ false → Tells false tokens
tells_not false tokens tells e = tells
tells_not true tokens tells e = absurd cc

-- ---- the first piece

-- what is found from the pieces from here on is found from all
abbrev pub Left : List Piece → ℕ → List Piece → Type 0
Left pieces all rest = (at : ℕ) → IsFirstUnspelled rest all at → IsFirstUnspelled pieces all at

one_more : (pieces : List Piece) (i : ℕ) (p : Piece) → i < length pieces → p ≡ get_or pieces i p → drop i pieces ≡ p ∷ drop (i + 1) pieces
one_more pieces i p lt at =
    let one : i + 1 ≡ suc i = omega arith in
    rw one (drop-cons pieces i p lt ∙ ap (λ x. x ∷ drop (suc i) pieces) (sym at))

pub found_here : (pieces : List Piece) (all i : ℕ) (p : Piece) → i < length pieces → p ≡ get_or pieces i p → Left pieces all (drop i pieces)
    → Tells false p.tokens → IsFirstUnspelled pieces all p.at
found_here pieces all i p lt at left tells =
    left p.at (subst (λ (ps : List Piece). IsFirstUnspelled ps all p.at) (sym (one_more pieces i p lt at)) (inl (tells, refl)))

pub goes_on : (pieces : List Piece) (all i : ℕ) (p : Piece) → i < length pieces → p ≡ get_or pieces i p → Left pieces all (drop i pieces)
    → Tells true p.tokens → Left pieces all (drop (i + 1) pieces)
goes_on pieces all i p lt at left tells = λ place first.
    left place (subst (λ (ps : List Piece). IsFirstUnspelled ps all place) (sym (one_more pieces i p lt at)) (inr (tells, first)))
