-- Reading one item after another.
use Rattle.std.proofs.Common.{◌≡◌, ◌≤◌, ◌<◌, ◌+◌, ◌-◌, ℕ, zero, suc, Bool, true, false, sym, ap, ◌∙◌, arith, subst, List, []}
use Rattle.std.proofs.Common.{◌∷◌, ◌++◌, slice_range, length, get_or, take, drop, append_assoc, Result, Ok, Err}
use Rattle.std.proofs.Math.Nat.{lt_of_not-le}
use Rattle.std.proofs.Math.Seq.{take-length}
use Rattle.std.proofs.lemmas.Bool.{false≢true}
use Rattle.std.proofs.lemmas.List.{drop_more, drop_all, append-nil}
use Rattle.c_terms.specs.declared.token.Token.{Token}
use Rattle.c_terms.specs.declared.tree.Tree.{Tree}
use Rattle.c_rows.specs.declared.kind.Kind.TheVariants as kind
use Rattle.c_rows.specs.Look.{Names}
use Rattle.c_rows.specs.Depth.{opens_of}
use Rattle.c_expr.specs.declared.fault.ParseFault.{ParseFault}
use Rattle.c_expr.specs.declared.fault.ParseFault.TheVariants.{NoTree, TooDeep, NoMemory}
use Rattle.c_expr.specs.Answer.{Reads}
use Rattle.cpp_lines.specs.declared.reading.Item.{Item}
use Rattle.cpp_lines.specs.declared.span.ItemSpan.{ItemSpan}
use Rattle.cpp_lines.specs.Items.{StandEndToEnd}
use Rattle.cpp_lines.specs.Visible.{VisibleTokens}
use Rattle.c_file.specs.Tokens.{tokens_in}
use Rattle.c_file.specs.Reads.{IsReading, ReadsFrom, names_after}

all-left : (n : ℕ) → n - 0 ≡ n
all-left n = omega arith

-- all tokens are a range of them
whole-range : (tokens : List Token) → slice_range tokens 0 (length tokens) ≡ tokens
whole-range tokens = ap (λ n. take n tokens) (all-left (length tokens)) ∙ take-length tokens

pub reads-whole : (names : Names) (tokens : List Token) (r : Result Tree ParseFault)
    → Reads kind.External names (slice_range tokens 0 (length tokens)) r → Reads kind.External names tokens r
reads-whole names tokens r h = subst (λ (ts : List Token). Reads kind.External names ts r) (whole-range tokens) h

at-most : (n : ℕ) → (200 < n → ⊥) → n ≤ 200
at-most n refuted = let r : n < 201 = lt_of_not-le (λ (h : 201 ≤ n). refuted (omega (arith, h))) in omega (arith, r)

abbrev is_deep : Result Tree ParseFault → Bool
is_deep (Ok t) = false
is_deep (Err NoTree) = false
is_deep (Err TooDeep) = true
is_deep (Err NoMemory) = false

pub shallow-of-Ok : (names : Names) (tokens : List Token) (t : Tree) → Reads kind.External names tokens (Ok t) → opens_of tokens ≤ 200
shallow-of-Ok names tokens t h = at-most (opens_of tokens) (λ big. false≢true (ap is_deep (h.too_deep.1 big)))

pub shallow-of-NoTree : (names : Names) (tokens : List Token) (r : Result Tree ParseFault) → Reads kind.External names tokens r
    → r ≡ Err NoTree → opens_of tokens ≤ 200
shallow-of-NoTree names tokens r h none = at-most (opens_of tokens) (λ big. false≢true (ap is_deep (sym none ∙ h.too_deep.1 big)))

stand-le : (from : ℕ) (spans : List ItemSpan) (to : ℕ) → StandEndToEnd from spans to → from ≤ to
stand-le from [] to h = omega (arith, h)
stand-le from (s ∷ spans) to h = let r = stand-le s.last spans to h.2 in omega (arith, h.1, r)

span-within : (from : ℕ) (spans : List ItemSpan) (to : ℕ) (i : ℕ) (d : ItemSpan) → StandEndToEnd from spans to → i < length spans
    → ((get_or spans i d).first ≤ (get_or spans i d).last) × ((get_or spans i d).last ≤ to)
span-within from [] to i d h lt = absurd (omega (arith, lt))
span-within from (s ∷ spans) to zero d h lt =
    let r = stand-le s.last spans to h.2 in (omega (arith, h.0, h.1), r)
span-within from (s ∷ spans) to (suc i) d h lt = span-within s.last spans to i d h.2 (omega (arith, lt))

-- no span ends before it begins
pub span-rises : (spans : List ItemSpan) (to : ℕ) (i : ℕ) (d : ItemSpan) → StandEndToEnd 0 spans to → i < length spans
    → (get_or spans i d).first ≤ (get_or spans i d).last
span-rises spans to i d h lt = (span-within 0 spans to i d h lt).0

-- and no span goes beyond the end
pub span-ends : (spans : List ItemSpan) (to : ℕ) (i : ℕ) (d : ItemSpan) → StandEndToEnd 0 spans to → i < length spans → (get_or spans i d).last ≤ to
span-ends spans to i d h lt = (span-within 0 spans to i d h lt).1

-- one more item is read: what remains after it is what remains of all
pub reads-more : (v : VisibleTokens) (start names more : Names) (spans : List ItemSpan) (i : ℕ) (d : ItemSpan)
    (items new : List Item) (tokens : List Token) (item : Item)
    → ((rest : List Item) → ReadsFrom v names (drop i spans) rest → ReadsFrom v start spans (items ++ rest))
    → i < length spans → tokens ≡ tokens_in v (get_or spans i d) → IsReading names tokens (get_or spans i d) item
    → more ≡ names_after names item → new ≡ items ++ item ∷ []
    → (rest : List Item) → ReadsFrom v more (drop (i + 1) spans) rest → ReadsFrom v start spans (new ++ rest)
reads-more v start names more spans i d items new tokens item h lt et r em en rest hr =
    let first = subst (λ (ts : List Token). IsReading names ts (get_or spans i d) item) et r in
    let later = subst (λ (ns : Names). ReadsFrom v ns (drop (i + 1) spans) rest) em hr in
    let both : ReadsFrom v names (drop i spans) (item ∷ rest) =
    subst (λ (ss : List ItemSpan). ReadsFrom v names ss (item ∷ rest)) (sym (drop_more spans i d lt)) (first, later) in
    subst (λ (is : List Item). ReadsFrom v start spans is) (sym (ap (λ xs. xs ++ rest) en ∙ append_assoc items (item ∷ []) rest)) (h (item ∷ rest) both)

-- after the last span nothing is left
pub reads-all : (v : VisibleTokens) (start names : Names) (spans : List ItemSpan) (i : ℕ) (items : List Item)
    → ((rest : List Item) → ReadsFrom v names (drop i spans) rest → ReadsFrom v start spans (items ++ rest))
    → length spans ≤ i → ReadsFrom v start spans items
reads-all v start names spans i items h le =
    let none : ReadsFrom v names (drop i spans) [] = subst (λ (ss : List ItemSpan). ReadsFrom v names ss []) (sym (drop_all i spans le)) tt in
    subst (λ (is : List Item). ReadsFrom v start spans is) (append-nil items) (h [] none)
