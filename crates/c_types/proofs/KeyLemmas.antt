-- The key of a branch and the keys of the expressions in it, with one more child.
use Rattle.std.proofs.Common.{◌≡◌, ℕ, suc, ◌+◌, ◌<◌, ◌≤◌, ◌-◌, ◌^◌, min, max, Bool, true, false, cond, refl, sym, ap, ◌∙◌, arith, Option, Some, None, slice_get}
use Rattle.std.proofs.Common.{List, [], ◌∷◌, ◌++◌, map, length, drop, get_or, append_assoc}
use Rattle.std.specs.Option.{option_map, option_or}
use Rattle.std.proofs.lemmas.List.{map-append, append-nil}
use Rattle.c_terms.specs.declared.token.Token.{Token}
use Rattle.c_terms.specs.declared.label.Label.{Label}
use Rattle.c_terms.specs.declared.tree.Tree.{Tree}
use Rattle.c_terms.specs.declared.tree.Tree.TheVariants.{Leaf, Branch}
use Rattle.c_terms.specs.Trees.{join, leaves, levels, greatest}
use Rattle.c_terms.specs.Shapes.{is_expression_part}
use Rattle.c_terms.specs.Places.{Place, below, part_at, parts, parts_from}
use Rattle.c_terms.proofs.TreeLemmas.{leaves-Leaf, leaves-Branch, levels-Leaf, levels-Branch}
use Rattle.c_terms.proofs.PlaceLaws.{child_known, parts-Branch, parts-Leaf}
use Rattle.c_types.specs.declared.tree_key.TreeKey.{TreeKey}
use Rattle.c_types.specs.TreeKeys.{first_id, level_count, key_of, part_keys, child_keys}
use Rattle.c_types.proofs.JoinLemmas.{left-next, dropped}

-- ---- the first token

pub or_assoc : {A : Type 0} (a b c : Option A) → option_or (option_or a b) c ≡ option_or a (option_or b c)
or_assoc None b c = refl
or_assoc (Some x) b c = refl

pub or_none : {A : Type 0} (a : Option A) → option_or a None ≡ a
or_none None = refl
or_none (Some x) = refl

abbrev pub first_in : List Token → Option ℕ
first_in ts = option_map (λ (a : Token). a.id) (slice_get ts 0)

first-append : (xs ys : List Token) → first_in (xs ++ ys) ≡ option_or (first_in xs) (first_in ys)
first-append [] ys = refl
first-append (x ∷ xs) ys = refl

-- that of the children from child i on
abbrev pub first_from : List Tree → ℕ → Option ℕ
first_from cs i = first_in (join (map leaves (drop i cs)))

pub first-start : (l : Label) (cs : List Tree) → first_from cs 0 ≡ first_id (Branch l cs)
first-start l cs = ap first_in (sym (leaves-Branch l cs))

pub first-more : (cs : List Tree) (i : ℕ) (c : Tree) (old new all : Option ℕ) → i < length cs → c ≡ get_or cs i c → new ≡ option_or old (first_id c)
    → option_or old (first_from cs i) ≡ all → option_or new (first_from cs (i + 1)) ≡ all
first-more cs i c old new all lt e n h =
    let rest = first_from cs (i + 1) in
    let d : first_from cs i ≡ option_or (first_id c) rest =
    ap (λ ts. first_in (join (map leaves ts))) (left-next cs i c lt e) ∙ first-append (leaves c) (join (map leaves (drop (i + 1) cs))) in
    ap (λ o. option_or o rest) n ∙ or_assoc old (first_id c) rest ∙ ap (option_or old) (sym d) ∙ h

pub first-end : (cs : List Tree) (i : ℕ) (own all : Option ℕ) → length cs ≤ i → option_or own (first_from cs i) ≡ all → own ≡ all
first-end cs i own all past h =
    sym (or_none own) ∙ ap (λ ts. option_or own (first_in (join (map leaves ts)))) (sym (dropped cs i past)) ∙ h

-- ---- levels

-- those of the children from child i on
abbrev pub levels_from : List Tree → ℕ → ℕ
levels_from cs i = greatest (map levels (drop i cs))

-- the count of a branch: the most so far, and what is left
abbrev pub count_from : ℕ → List Tree → ℕ → ℕ
count_from most cs i = min (max most (levels_from cs i) + 1) (2 ^ 64 - 1)

pub count_start : (l : Label) (cs : List Tree) → count_from 0 cs 0 ≡ level_count (Branch l cs)
count_start l cs = let b = levels-Branch l cs in omega (arith, b)

pub count_more : (cs : List Tree) (i : ℕ) (c : Tree) (most next all : ℕ) → i < length cs → c ≡ get_or cs i c → next ≡ max most (level_count c)
    → count_from most cs i ≡ all → count_from next cs (i + 1) ≡ all
count_more cs i c most next all lt e n h =
    let d : levels_from cs i ≡ max (levels c) (levels_from cs (i + 1)) = ap (λ ts. greatest (map levels ts)) (left-next cs i c lt e) in
    omega (arith, d, n, h)

pub count_end : (cs : List Tree) (i : ℕ) (most all : ℕ) → length cs ≤ i → count_from most cs i ≡ all → min (most + 1) (2 ^ 64 - 1) ≡ all
count_end cs i most all past h =
    let d : levels_from cs i ≡ 0 = ap (λ ts. greatest (map levels ts)) (dropped cs i past) in omega (arith, d, h)

pub key-leaf : (a : Token) → record { first = Some a.id; levels = 0 } ≡ key_of (Leaf a)
key-leaf a =
    let f : Some a.id ≡ first_id (Leaf a) = ap first_in (sym (leaves-Leaf a)) in
    let n : 0 ≡ level_count (Leaf a) = let z = levels-Leaf a in omega (arith, z) in
    λ j. record { first = f j; levels = n j }

-- ---- the keys of expressions

-- what stands in a place that is kept for a key
abbrev pub no_key : TreeKey
no_key = record { first = None; levels = 0 }

abbrev pub key_at : Place → TreeKey
key_at p = key_of p.tree

keys-below : (i : ℕ) (ps : List Place) → map key_at (map (below i) ps) ≡ map key_at ps
keys-below i [] = refl
keys-below i (p ∷ ps) = let r = keys-below i ps in λ j. key_of p.tree ∷ r j

keys-own : (l : Label) (i : ℕ) (c : Tree) → map key_at (part_at is_expression_part l i c) ≡ cond (is_expression_part l i c) (key_of c ∷ []) []
keys-own l i c = by (is_expression_part l i c)
  where
    by : (b : Bool) → map key_at (cond b (record { path = i ∷ []; tree = c } ∷ []) []) ≡ cond b (key_of c ∷ []) []
    by true = refl
    by false = refl

-- those from child i on
abbrev pub keys_from : Label → List Tree → ℕ → List TreeKey
keys_from l cs i = map key_at (parts_from is_expression_part l i (map (child_known is_expression_part) (drop i cs)))

pub keys-leaf : (a : Token) → part_keys (Leaf a) ≡ []
keys-leaf a = ap (map key_at) (parts-Leaf is_expression_part a)

pub keys-start : (l : Label) (cs : List Tree) → keys_from l cs 0 ≡ part_keys (Branch l cs)
keys-start l cs = ap (map key_at) (sym (parts-Branch is_expression_part l cs))

-- those of child i, and those from the next child on
keys-step : (l : Label) (cs : List Tree) (i : ℕ) (c : Tree) → i < length cs → c ≡ get_or cs i c
    → keys_from l cs i ≡ child_keys (is_expression_part l i c) c ++ keys_from l cs (i + 1)
keys-step l cs i c lt e =
    let one : i + 1 ≡ suc i = omega arith in
    let own = part_at is_expression_part l i c in
    let deep = map (below i) (parts is_expression_part c) in
    let rest = parts_from is_expression_part l (suc i) (map (child_known is_expression_part) (drop (i + 1) cs)) in
    let o = keys-own l i c in
    let b = keys-below i (parts is_expression_part c) in
    ap (λ ts. map key_at (parts_from is_expression_part l i (map (child_known is_expression_part) ts))) (left-next cs i c lt e)
    ∙ map-append key_at (own ++ deep) rest ∙ ap (λ ts. ts ++ map key_at rest) (map-append key_at own deep)
    ∙ (λ j. (o j ++ b j) ++ map key_at (parts_from is_expression_part l (sym one j) (map (child_known is_expression_part) (drop (i + 1) cs))))

pub keys-more : (l : Label) (cs : List Tree) (i : ℕ) (c : Tree) (own after all : List TreeKey) (b : Bool) → i < length cs → c ≡ get_or cs i c
    → b ≡ is_expression_part l i c → after ≡ own ++ child_keys b c → own ++ keys_from l cs i ≡ all → after ++ keys_from l cs (i + 1) ≡ all
keys-more l cs i c own after all b lt e f g h =
    let now : after ≡ own ++ child_keys (is_expression_part l i c) c = g ∙ ap (λ t. own ++ child_keys t c) f in
    ap (λ xs. xs ++ keys_from l cs (i + 1)) now ∙ append_assoc own (child_keys (is_expression_part l i c) c) (keys_from l cs (i + 1))
    ∙ ap (λ xs. own ++ xs) (sym (keys-step l cs i c lt e)) ∙ h

pub keys-end : (l : Label) (cs : List Tree) (i : ℕ) (own all : List TreeKey) → length cs ≤ i → own ++ keys_from l cs i ≡ all → own ≡ all
keys-end l cs i own all past h =
    sym (append-nil own)
    ∙ ap (λ ts. own ++ map key_at (parts_from is_expression_part l i (map (child_known is_expression_part) ts))) (sym (dropped cs i past)) ∙ h
