-- How many children the branches of a derived tree have: a row takes a token for each, except for parts that may be empty,
-- and no two of these are adjacent.
use Rattle.std.proofs.Common.{◌≡◌, ℕ, suc, ◌+◌, ◌-◌, ◌*◌, ◌≤◌, refl, sym, ap, subst, ◌∙◌, arith, List, [], ◌∷◌, map, length, drop}
use Rattle.std.specs.Prelude.{Bool, true, false, ◌&&◌, ◌||◌, IsTrue, if◌then◌else◌, nat_le, nat_lt, All}
use Rattle.std.specs.List.{list_all, slice_range}
use Rattle.std.proofs.lemmas.Bool.Decides.{nat_tests}
use Rattle.std.proofs.lemmas.List.{length-map, length-take, length-drop}
use Rattle.std.proofs.lemmas.List.Elements.{All-nil, All-cons}
use Rattle.c_terms.specs.declared.label.Label.{Label}
use Rattle.c_terms.specs.declared.token.Token.{Token}
use Rattle.c_terms.specs.declared.tree.Tree.{Tree}
use Rattle.c_terms.specs.declared.tree.Tree.TheVariants.{Leaf, Branch, rolls-Leaf, rolls-Branch}
use Rattle.c_terms.specs.declared.tree.Tree.TheFolds.{fold-roll-Tree}
use Rattle.c_terms.specs.Trees.{greatest, width}
use Rattle.c_terms.proofs.TreeLemmas.{width-Leaf, width-Branch}
use Rattle.c_lexer.specs.Pieces.{most_bytes}
use Rattle.c_rows.specs.declared.kind.Kind.{Kind}
use Rattle.c_rows.specs.declared.kind.Kind.TheVariants as kind
use Rattle.c_rows.specs.declared.kind.Family.{Family}
use Rattle.c_rows.specs.declared.rule.Rule.{Rule}
use Rattle.c_rows.specs.declared.rule.Rule.TheVariants as rule
use Rattle.c_rows.specs.declared.symbol.Symbol.TheVariants as symbol
use Rattle.c_rows.specs.declared.symbol.Fork.{Fork}
use Rattle.c_rows.specs.declared.symbol.Fork.TheVariants as forks
use Rattle.c_rows.specs.Kinds.{family_of}
use Rattle.c_rows.specs.Look.{Names}
use Rattle.c_rows.specs.Rows.{Row, row, ways}
use Rattle.c_rows.specs.Rows.{kind_of, label_of}
use Rattle.c_rows.specs.Choice.{full, weight, steady}
use Rattle.c_rows.specs.Derives.{Derives, leaf, branch, DerivesRow, done, word, child, argument, type_argument, fork}
use Rattle.c_rows.proofs.Checks.{and_left, and_right, row_at, weight_way, way_fine}
use Rattle.c_rows.proofs.FirstLemmas.{within_family}
use Rattle.c_rows.proofs.NamingLemmas.{both_pass, label_passes}
use Rattle.c_rows.proofs.LengthLemmas.{least, need, fork_need, weight-small, fine_steady}
use Rattle.cfg_build.specs.Forms.{form_of}
use Rattle.cfg_build.specs.Braces.{has_both, braces_step, has_braces}
use Rattle.cpp_lines.specs.declared.reading.Item.{Item}
use Rattle.cpp_lines.specs.declared.reading.Item.TheVariants.{Parsed, Skipped}
use Rattle.cpp_lines.specs.declared.span.ItemSpan.{ItemSpan}
use Rattle.cpp_lines.specs.Visible.{VisibleTokens}
use Rattle.c_file.specs.Tokens.{token_at, tokens_in}
use Rattle.c_file.specs.Reads.{IsReading, ReadsFrom, names_after}
use Rattle.c_file.specs.Fit.{IsFit}

le_from : (a b : ℕ) → IsTrue (nat_le a b) → a ≤ b
le_from a b h = grind (arith, nat_tests)

-- ---- tests of the rows

needs_test : (r : Rule) → IsTrue (nat_le (least (family_of (kind_of r))) (need (row r)))
needs_test rule.Paren = refl
needs_test _ = refl

abbrev needs_in : Fork → Row → Bool
needs_in f ps = nat_le (fork_need f) (need ps)

ways_need : (f : Fork) → IsTrue (list_all (needs_in f) (ways f))
ways_need forks.FirstString = refl
ways_need _ = refl

steady_row : (r : Rule) → IsTrue (steady (row r))
steady_row rule.Paren = refl
steady_row _ = refl

-- the least number of parts that a row has
abbrev parts_at_least : Row → ℕ
parts_at_least [] = 0
parts_at_least (symbol.Word w ∷ ps) = parts_at_least ps + 1
parts_at_least (symbol.Child k ∷ ps) = parts_at_least ps + 1
parts_at_least (symbol.Argument ∷ ps) = parts_at_least ps + 1
parts_at_least (symbol.Fork f ∷ ps) = fork_need f

abbrev parts_in : Fork → Row → Bool
parts_in f ps = nat_le (fork_need f) (parts_at_least ps)

ways_parts : (f : Fork) → IsTrue (list_all (parts_in f) (ways f))
ways_parts forks.FirstString = refl
ways_parts _ = refl

least_one : (b : Bool) → (if b then 1 else 0) ≤ 1
least_one true = omega arith
least_one false = omega arith

-- ---- the numbers of tokens and children that a derived row has

step-child : (b : Bool) (n a c k : ℕ) → IsTrue (b || nat_le n 1) → n ≤ 2 → a + (if b then 1 else 0) ≤ c → k ≤ 3 * a + n → suc k ≤ 3 * c + (if b then 0 else 2)
step-child true n a c k h small le w = omega arith
step-child false n a c k h small le w = omega (arith, le_from n 1 h)

module _ (names : Names) (may : List Token → List Token → Type 0) where
  mutual
    shorter : {k : Kind} {xs ys : List Token} {t : Tree} → Derives names may k xs t ys → length ys + least (family_of k) ≤ length xs
    shorter {k} (leaf h) = omega (arith, least_one (full (family_of k)))
    shorter {k} {xs} {ys} (branch r w b al parts) =
        let n : least (family_of (kind_of r)) ≤ need (row r) = le_from (least (family_of (kind_of r))) (need (row r)) (needs_test r) in
        let g : length ys + least (family_of (kind_of r)) ≤ length xs = omega (arith, row_shorter parts, n) in
        subst (λ (f : Family). length ys + least f ≤ length xs) (within_family (kind_of r) k w) g

    row_shorter : {ps : Row} {xs ys : List Token} {cs : List Tree} → DerivesRow names may ps xs cs ys → length ys + need ps ≤ length xs
    row_shorter done = omega arith
    row_shorter (word h rest) = omega (arith, row_shorter rest)
    row_shorter (child d rest) = omega (arith, shorter d, row_shorter rest)
    row_shorter (argument d rest) = let one : least (family_of kind.AssignLevel) ≡ 1 = refl in omega (arith, shorter d, row_shorter rest, one)
    row_shorter (type_argument m d rest) = let one : least (family_of kind.TypeArg) ≡ 1 = refl in omega (arith, shorter d, row_shorter rest, one)
    row_shorter (fork {f = f} {ps = ps} i w v way) =
        let n = le_from (fork_need f) (need ps) (row_at (needs_in f) (ways f) i ps (ways_need f) w) in omega (arith, row_shorter way, n)

  most_parts : {ps : Row} {xs ys : List Token} {cs : List Tree} → DerivesRow names may ps xs cs ys → IsTrue (steady ps) → length cs ≤ 3 * length xs + weight ps
  most_parts done s = omega arith
  most_parts (word {ps = ps} h rest) s = let r = most_parts rest s in omega (arith, r, weight-small ps)
  most_parts (child {k = k} {ps = ps} {xs = xs} {ys = ys} {cs = cs} d rest) s =
      let r = most_parts rest (and_right (full (family_of k) || nat_le (weight ps) 1) (steady ps) s) in
      step-child (full (family_of k)) (weight ps) (length ys) (length xs) (length cs)
      (and_left (full (family_of k) || nat_le (weight ps) 1) (steady ps) s) (weight-small ps) (shorter d) r
  most_parts (argument {ps = ps} d rest) s =
      let one : least (family_of kind.AssignLevel) ≡ 1 = refl in let r = most_parts rest s in omega (arith, shorter d, r, one, weight-small ps)
  most_parts (type_argument {ps = ps} m d rest) s =
      let one : least (family_of kind.TypeArg) ≡ 1 = refl in let r = most_parts rest s in omega (arith, shorter d, r, one, weight-small ps)
  most_parts (fork {f = f} {ps = ps} i w v way) s =
      let r = most_parts way (fine_steady ps (way_fine f i ps w)) in omega (arith, r, weight_way f i ps w)

  least_parts : {ps : Row} {xs ys : List Token} {cs : List Tree} → DerivesRow names may ps xs cs ys → parts_at_least ps ≤ length cs
  least_parts done = omega arith
  least_parts (word h rest) = omega (arith, least_parts rest)
  least_parts (child d rest) = omega (arith, least_parts rest)
  least_parts (argument d rest) = omega (arith, least_parts rest)
  least_parts (type_argument m d rest) = omega (arith, least_parts rest)
  least_parts (fork {f = f} {ps = ps} i w v way) =
      let n = le_from (fork_need f) (parts_at_least ps) (row_at (parts_in f) (ways f) i ps (ways_parts f) w) in omega (arith, least_parts way, n)

-- ---- only rows of blocks are blocks

block_both : (n : ℕ) → 2 ≤ n → nat_lt 1 n ≡ true
block_both n h = grind (arith, nat_tests)

abbrev has_both_of : ℕ → Label → Bool
has_both_of n l = has_both (form_of l) n

both_test : (r : Rule) (n : ℕ) → parts_at_least (row r) ≤ n → IsTrue (both_pass (has_both_of n) r)
both_test rule.Block n h = and_true (nat_lt 1 n) (block_both n h)
  where
    and_true : (b : Bool) → b ≡ true → IsTrue (b && b)
    and_true true e = refl
    and_true false e = e
both_test _ n h = refl

both_of : (r : Rule) (cs : List Tree) → parts_at_least (row r) ≤ length cs → has_both (form_of (label_of r cs)) (length cs) ≡ true
both_of r cs h = label_passes (has_both_of (length cs)) r cs (both_test r (length cs) h)

-- ---- trees

braces-Leaf : (t : Token) → has_braces (Leaf t) ≡ true
braces-Leaf t = ap has_braces (sym (rolls-Leaf t)) ∙ fold-roll-Tree Bool braces_step _

braces-Branch : (l : Label) (cs : List Tree) → has_braces (Branch l cs) ≡ (has_both (form_of l) (length cs) && list_all (λ b. b) (map has_braces cs))
braces-Branch l cs =
    ap has_braces (sym (rolls-Branch l cs)) ∙ fold-roll-Tree Bool braces_step _
    ∙ ap (λ n. has_both (form_of l) n && list_all (λ b. b) (map has_braces cs)) (length-map cs has_braces)

and-true : (a b : Bool) → a ≡ true → b ≡ true → (a && b) ≡ true
and-true true b e f = f
and-true false b e f = absurd (cc)

module _ (names : Names) (may : List Token → List Token → Type 0) where
  mutual
    pub narrow : {k : Kind} {xs ys : List Token} {t : Tree} → Derives names may k xs t ys → width t ≤ 3 * length xs + 2
    narrow (leaf {t = t} h) = omega (arith, width-Leaf t)
    narrow (branch {cs = cs} r w b al parts) =
        let m = most_parts names may parts (steady_row r) in
        let i = row_narrow parts in
        omega (arith, m, i, width-Branch (label_of r cs) cs, weight-small (row r))

    row_narrow : {ps : Row} {xs ys : List Token} {cs : List Tree} → DerivesRow names may ps xs cs ys → greatest (map width cs) ≤ 3 * length xs + 2
    row_narrow done = omega arith
    row_narrow (word {t = t} h rest) = let r = row_narrow rest in omega (arith, r, width-Leaf t)
    row_narrow (child d rest) = let r = row_narrow rest in let n = narrow d in omega (arith, r, n, shorter names may d)
    row_narrow (argument d rest) = let r = row_narrow rest in let n = narrow d in omega (arith, r, n, shorter names may d)
    row_narrow (type_argument m d rest) = let r = row_narrow rest in let n = narrow d in omega (arith, r, n, shorter names may d)
    row_narrow (fork i w v way) = row_narrow way

  mutual
    pub braced : {k : Kind} {xs ys : List Token} {t : Tree} → Derives names may k xs t ys → has_braces t ≡ true
    braced (leaf {t = t} h) = braces-Leaf t
    braced (branch {cs = cs} r w b al parts) =
        braces-Branch (label_of r cs) cs ∙ and-true (has_both (form_of (label_of r cs)) (length cs))
        (list_all (λ b. b) (map has_braces cs)) (both_of r cs (least_parts names may parts)) (row_braced parts)

    row_braced : {ps : Row} {xs ys : List Token} {cs : List Tree} → DerivesRow names may ps xs cs ys → list_all (λ b. b) (map has_braces cs) ≡ true
    row_braced done = refl
    row_braced (word {t = t} {cs = cs} h rest) = and-true (has_braces (Leaf t)) (list_all (λ b. b) (map has_braces cs)) (braces-Leaf t) (row_braced rest)
    row_braced (child {t = t} {cs = cs} d rest) = and-true (has_braces t) (list_all (λ b. b) (map has_braces cs)) (braced d) (row_braced rest)
    row_braced (argument {t = t} {cs = cs} d rest) = and-true (has_braces t) (list_all (λ b. b) (map has_braces cs)) (braced d) (row_braced rest)
    row_braced (type_argument {t = t} {cs = cs} m d rest) = and-true (has_braces t) (list_all (λ b. b) (map has_braces cs)) (braced d) (row_braced rest)
    row_braced (fork i w v way) = row_braced way

-- ---- items

item-fit : (names : Names) (tokens : List Token) (span : ItemSpan) (item : Item) → IsReading names tokens span item → length tokens ≤ most_bytes → IsFit item
item-fit names tokens span (Parsed t) h few =
    let n = narrow names _ h.1.derived in
    (h.2, omega (arith, n, few), braced names _ h.1.derived)
item-fit names tokens span (Skipped s why) h few = tt

tokens-few : (v : VisibleTokens) (span : ItemSpan) → length (tokens_in v span) ≤ length v.shown
tokens-few v span =
    let m = length-map (slice_range v.shown span.first span.last) (token_at v.pieces) in
    let t = length-take (span.last - span.first) (drop span.first v.shown) in
    let d = length-drop span.first v.shown in
    omega (arith, m, t, d)

pub all-fit : (v : VisibleTokens) (names : Names) (spans : List ItemSpan) (items : List Item) → ReadsFrom v names spans items
    → length v.shown ≤ most_bytes → All IsFit items
all-fit v names [] [] h few = All-nil IsFit
all-fit v names [] (i ∷ is) h few = absurd h
all-fit v names (s ∷ ss) [] h few = absurd h
all-fit v names (s ∷ ss) (i ∷ is) h few =
    let t = tokens-few v s in
    All-cons IsFit i is (item-fit names (tokens_in v s) s i h.0 (omega (arith, t, few))) (all-fit v (names_after names i) ss is h.1 few)
