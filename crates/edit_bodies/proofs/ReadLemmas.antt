-- Tokens that are read as a list of statements.
use Rattle.std.proofs.Common.{◌≡◌, ◌≤◌, ◌<◌, ◌-◌, ℕ, Bool, true, false, inr, ap, ◌∙◌, arith, subst, List, slice_range, length, take, Result, Ok, Err}
use Rattle.std.specs.Prelude.{None, Some}
use Rattle.std.proofs.Math.Nat.{lt_of_not-le}
use Rattle.std.proofs.Math.Seq.{take-length}
use Rattle.std.proofs.lemmas.Bool.{false≢true}
use Rattle.c_terms.specs.declared.token.Token.{Token}
use Rattle.c_terms.specs.declared.tree.Tree.{Tree}
use Rattle.c_rows.specs.declared.kind.Kind.TheVariants as kind
use Rattle.c_rows.specs.Look.{Names}
use Rattle.c_rows.specs.Depth.{opens_of}
use Rattle.c_expr.specs.declared.fault.ParseFault.{ParseFault}
use Rattle.c_expr.specs.declared.fault.ParseFault.TheVariants.{NoTree, TooDeep, NoMemory}
use Rattle.c_expr.specs.Answer.{Reads}
use Rattle.edit_bodies.specs.Laid.{IsReading}

all_left : (n : ℕ) → n - 0 ≡ n
all_left n = omega arith

whole_range : (tokens : List Token) → slice_range tokens 0 (length tokens) ≡ tokens
whole_range tokens = ap (λ n. take n tokens) (all_left (length tokens)) ∙ take-length tokens

at_most : (n : ℕ) → (200 < n → ⊥) → n ≤ 200
at_most n refuted = let r : n < 201 = lt_of_not-le (λ (h : 201 ≤ n). refuted (omega (arith, h))) in omega (arith, r)

abbrev is_deep : Result Tree ParseFault → Bool
is_deep (Ok t) = false
is_deep (Err NoTree) = false
is_deep (Err TooDeep) = true
is_deep (Err NoMemory) = false

pub read_some : (names : Names) (tokens : List Token) (t : Tree) → Reads kind.StmtList names (slice_range tokens 0 (length tokens)) (Ok t)
    → IsReading names tokens (Some t)
read_some names tokens t r =
    let h : Reads kind.StmtList names tokens (Ok t) = subst (λ (ts : List Token). Reads kind.StmtList names ts (Ok t)) (whole_range tokens) r in
    (at_most (opens_of tokens) (λ big. false≢true (ap is_deep (h.too_deep.1 big))), h.found)

pub read_none : (names : Names) (tokens : List Token) (f : ParseFault) → Reads kind.StmtList names (slice_range tokens 0 (length tokens)) (Err f)
    → f ≡ NoTree → IsReading names tokens None
read_none names tokens f r same =
    let h : Reads kind.StmtList names tokens (Err f) = subst (λ (ts : List Token). Reads kind.StmtList names ts (Err f)) (whole_range tokens) r in
    inr (h.no_tree (λ i. Err (same i)))
