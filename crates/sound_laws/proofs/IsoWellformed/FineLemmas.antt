-- The isomorphisms of a file are fine.
use Rattle.std.proofs.Common.{◌≡◌, ℕ, zero, suc, ◌+◌, ◌-◌, ◌<◌, ◌≤◌, ◌⊎◌, inl, inr, Bool, true, false, true≢false, not, ◌&&◌, ◌||◌}
use Rattle.std.proofs.Common.{nat_lt, refl, sym, ap, ◌∙◌, subst, arith, Option, None, Some, List, [], ◌∷◌, length, map, take, drop, slice_get}
use Rattle.std.specs.List.{list_all}
use Rattle.std.proofs.lemmas.Bool.Decides.{nat_tests}
use Rattle.std.proofs.lemmas.Option.{slice_get_within}
use Rattle.c_terms.specs.declared.tree.Tree.{Tree}
use Rattle.c_terms.specs.Trees.{width}
use Rattle.c_terms.specs.Names.{listed_names}
use Rattle.c_rows.specs.declared.kind.Kind.TheVariants as kinds
use Rattle.c_rows.proofs.RangeLemmas.{tree_leaves}
use Rattle.smpl_patch.specs.declared.pattern.VarDecl.{VarDecl}
use Rattle.smpl_patch.specs.declared.rule.Iso.{Iso}
use Rattle.smpl_lexer.specs.declared.token.PatchToken.{PatchToken}
use Rattle.smpl_meta.specs.Patterns.{made}
use Rattle.iso_file.specs.Lines.{joined, groups, filled, put}
use Rattle.iso_file.specs.Blocks.{blocks}
use Rattle.iso_file.specs.Sides.{concatenated, sides_in, arrows_in, arrow_of}
use Rattle.iso_file.specs.Lost.{lost_between, MayBecome, KeepsAll}
use Rattle.iso_file.specs.Isos.{IsSide, AreSides, IsIso, AreIsos, AreIsosOf}
use Rattle.iso_expand.specs.IsoForms.Replacing.{may_become}
use Rattle.sound_laws.specs.IsoLaws.Fine.{covers, covers_from, all_cover, IsFine, AreFine}
use Rattle.sound_laws.proofs.IsoWellformed.WeightLemmas.{weigh, weigh_lines, weigh_blocks, counted, lines-light, blocks-light, sides-of-lines}
use Rattle.sound_laws.proofs.IsoWellformed.WidthLemmas.{side-narrow}
use Rattle.sound_laws.proofs.IsoWellformed.CoverLemmas.{side-covers}

both_true : (a b : Bool) → a ≡ true → b ≡ true → (a && b) ≡ true
both_true true b h k = k
both_true false b h k = h

and_left : (a b : Bool) → (a && b) ≡ true → a ≡ true
and_left true b h = refl
and_left false b h = h

and_right : (a b : Bool) → (a && b) ≡ true → b ≡ true
and_right true b h = h
and_right false b h = absurd (true≢false (sym h))

either : (a b : Bool) → (a || b) ≡ true → (a ≡ true) ⊎ (b ≡ true)
either true b h = inl refl
either false b h = inr h

-- ---- one side more than arrows

put-length : (t : PatchToken) (gs : List (List PatchToken)) → 1 ≤ length gs → length (put t gs) ≡ length gs
put-length t [] h = absurd (omega (arith, h))
put-length t (g ∷ gs) h = refl

one_more : (ts : List PatchToken) → length (sides_in ts) ≡ length (arrows_in ts) + 1
one_more [] = refl
one_more (t ∷ []) = refl
one_more (t ∷ n ∷ ts) = by (arrow_of t n) (one_more ts) (one_more (n ∷ ts))
  where
    by : (o : Option Bool) → length (sides_in ts) ≡ length (arrows_in ts) + 1 → length (sides_in (n ∷ ts)) ≡ length (arrows_in (n ∷ ts)) + 1
        → length (elim o as (λ x. List (List PatchToken)) [ Some both ↦ [] ∷ sides_in ts | None ↦ put t (sides_in (n ∷ ts)) ])
        ≡ length (elim o as (λ x. List Bool) [ Some both ↦ both ∷ arrows_in ts | None ↦ arrows_in (n ∷ ts) ]) + 1
    by (Some b) h k = omega (arith, h)
    by None h k = put-length t (sides_in (n ∷ ts)) (omega (arith, k)) ∙ k

-- ---- arrows

first-both : (n : ℕ) (bs : List Bool) → n ≤ length bs → list_all (λ b. b) (take n bs) ≡ true → (k : ℕ) → k < n → slice_get bs k ≡ Some true
first-both zero bs le h k lt = absurd (omega (arith, lt))
first-both (suc n) [] le h k lt = absurd (omega (arith, le))
first-both (suc n) (b ∷ bs) le h zero lt = ap Some (and_left b (list_all (λ c. c) (take n bs)) h)
first-both (suc n) (b ∷ bs) le h (suc k) lt =
    first-both n bs (omega (arith, le)) (and_right b (list_all (λ c. c) (take n bs)) h) k (omega (arith, lt))

later-both : (j n : ℕ) (bs : List Bool) → j + n ≤ length bs → list_all (λ b. b) (take n (drop j bs)) ≡ true → (k : ℕ) → j ≤ k → k < j + n
    → slice_get bs k ≡ Some true
later-both zero n bs le h k from lt = first-both n bs (omega (arith, le)) h k (omega (arith, lt))
later-both (suc j) n [] le h k from lt = absurd (omega (arith, le))
later-both (suc j) n (b ∷ bs) le h zero from lt = absurd (omega (arith, from))
later-both (suc j) n (b ∷ bs) le h (suc k) from lt = later-both j n bs (omega (arith, le)) h k (omega (arith, from)) (omega (arith, lt))

less : (i j : ℕ) → nat_lt i j ≡ true → i < j
less i j h = grind (arith, nat_tests)

becomes : (both : List Bool) (i j : ℕ) → i ≤ length both → may_become both i j ≡ true → MayBecome both i j
becomes both i j le h =
    let ways = list_all (λ b. b) (take (i - j) (drop j both)) in
    elim (either (nat_lt i j) (nat_lt j i && ways) h) [
      | inl before ↦ inl (less i j before)
      | inr behind ↦ (
          let under : j < i = less j i (and_left (nat_lt j i) ways behind) in
          let all : ways ≡ true = and_right (nat_lt j i) ways behind in
          let within : j + (i - j) ≤ length both = omega (arith, under, le) in
          inr (under, λ k from lt. later-both j (i - j) both within all k from (omega (arith, under, lt)))
          )
    ]

-- ---- sides

-- a side of the trees, with its tokens
record HasTokens (vars : List VarDecl) (sides : List (List PatchToken)) (i : ℕ) (t : Tree) : Type 0 where
  tokens : List PatchToken
  tokens_are : slice_get sides i ≡ Some tokens
  is : IsSide vars tokens t
  light : weigh tokens ≤ weigh_lines sides

side-at : (vars : List VarDecl) (sides : List (List PatchToken)) (trees : List Tree) → AreSides vars sides trees → (i : ℕ) (t : Tree)
    → slice_get trees i ≡ Some t → HasTokens vars sides i t
side-at vars [] [] are i t e = absurd cc
side-at vars [] (u ∷ us) are i t e = absurd are
side-at vars (s ∷ ss) [] are i t e = absurd are
side-at vars (s ∷ ss) (u ∷ us) are zero t e =
    let same : u ≡ t = cc in
    record { tokens = s; tokens_are = refl; is = subst (IsSide vars s) same are.0; light = omega arith }
side-at vars (s ∷ ss) (u ∷ us) are (suc i) t e =
    let rest = side-at vars ss us are.1 i t e in
    let less = rest.light in
    record { tokens = rest.tokens; tokens_are = rest.tokens_are; is = rest.is; light = omega (arith, less) }

none-of : (o : Option ℕ) → ((at : ℕ) → o ≡ Some at → ⊥) → o ≡ None
none-of None h = refl
none-of (Some at) h = absurd (h at refl)

module _ (vars : List VarDecl) (sides : List (List PatchToken)) (both : List Bool) (trees : List Tree) (are : AreSides vars sides trees)
    (keeps : KeepsAll vars sides both) (many : length sides ≡ length both + 1) (light : weigh_lines sides ≤ 1048576) where
  pair-covers : (i j : ℕ) (s t : Tree) → slice_get trees i ≡ Some s → slice_get trees j ≡ Some t → may_become both i j ≡ true → covers s t ≡ true
  pair-covers i j s t at_i at_j may =
      let from = side-at vars sides trees are i s at_i in
      let to = side-at vars sides trees are j t at_j in
      let within : i < length sides = slice_get_within sides i from.tokens from.tokens_are in
      let can : MayBecome both i j = becomes both i j (omega (arith, within, many)) may in
      let to_light = to.light in
      side-covers vars from.tokens to.tokens s t
      (tree_leaves kinds.Expr listed_names (map (made vars 0) from.tokens) s from.is.tree_is)
      (tree_leaves kinds.Expr listed_names (map (made vars 0) to.tokens) t to.is.tree_is)
      (omega (arith, to_light, light))
      (none-of (lost_between vars from.tokens to.tokens) (λ at e.
      keeps i j at
      (record { may = can; from = from.tokens; from_is = from.tokens_are; to = to.tokens; to_is = to.tokens_are; lost = e })))

  -- a side covers each of these, of which the first has the number j
  from-covers : (i j : ℕ) (s : Tree) (ts : List Tree)
      → ((k : ℕ) (t : Tree) → slice_get ts k ≡ Some t → may_become both i (j + k) ≡ true → covers s t ≡ true) → covers_from both i j s ts ≡ true
  from-covers i j s [] h = refl
  from-covers i j s (t ∷ ts) h =
      both_true (not (may_become both i j) || covers s t) (covers_from both i (j + 1) s ts) (by (may_become both i j) refl)
      (from-covers i (j + 1) s ts (λ k u at may.
      h (suc k) u at (let next : (j + 1) + k ≡ j + suc k = omega arith in ap (may_become both i) (sym next) ∙ may)))
    where
      by : (b : Bool) → may_become both i j ≡ b → (not b || covers s t) ≡ true
      by true e = h zero t refl (let here : j + zero ≡ j = omega arith in ap (may_become both i) here ∙ e)
      by false e = refl

  each-covers : (iso : Iso) → iso.both ≡ both → iso.sides ≡ trees → (i : ℕ) (ss : List Tree)
      → ((k : ℕ) (s : Tree) → slice_get ss k ≡ Some s → slice_get trees (i + k) ≡ Some s) → all_cover iso i ss ≡ true
  each-covers iso ways are_trees i [] h = refl
  each-covers iso ways are_trees i (s ∷ ss) h =
      both_true (covers_from iso.both i 0 s iso.sides) (all_cover iso (i + 1) ss)
      (ap (λ (bs : List Bool). covers_from bs i 0 s iso.sides) ways ∙ ap (covers_from both i 0 s) are_trees
      ∙ from-covers i 0 s trees (λ k t at may.
      let here : i + zero ≡ i = omega arith in
      let there : 0 + k ≡ k = omega arith in
      pair-covers i k s t (ap (slice_get trees) (sym here) ∙ h zero s refl) at (ap (may_become both i) (sym there) ∙ may)))
      (each-covers iso ways are_trees (i + 1) ss (λ k t at.
      let next : (i + 1) + k ≡ i + suc k = omega arith in ap (slice_get trees) next ∙ h (suc k) t at))

all-narrow : (vars : List VarDecl) (sides : List (List PatchToken)) (trees : List Tree) → AreSides vars sides trees → weigh_lines sides ≤ 1048576
    → list_all (λ s. nat_lt (width s) 4294967296) trees ≡ true
all-narrow vars [] [] are light = refl
all-narrow vars [] (t ∷ ts) are light = absurd are
all-narrow vars (s ∷ ss) [] are light = absurd are
all-narrow vars (s ∷ ss) (t ∷ ts) are light =
    both_true (nat_lt (width t) 4294967296) (list_all (λ u. nat_lt (width u) 4294967296) ts)
    (side-narrow vars s t (omega (arith, counted s, light)) are.0.tree_is) (all-narrow vars ss ts are.1 (omega (arith, light)))

iso-fine : (block : List (List PatchToken)) (iso : Iso) → IsIso block iso → weigh_lines block ≤ 1048576 → IsFine iso
iso-fine block iso is light =
    let form = is.form in
    let behind = form.behind in
    let tokens = concatenated (drop (behind.second + 1) form.lines) in
    let weighs : weigh_lines block ≡ weigh_lines (form.word ∷ form.header ∷ form.lines) = ap weigh_lines form.block_is in
    let sides_weigh : weigh_lines is.sides ≡ weigh_lines (sides_in tokens) = ap weigh_lines behind.sides_are in
    let bound = sides-of-lines (behind.second + 1) form.lines in
    let small : weigh_lines is.sides ≤ 1048576 = omega (arith, weighs, sides_weigh, bound, light) in
    let many : length is.sides ≡ length iso.both + 1 =
    ap (λ (l : List (List PatchToken)). length l) behind.sides_are ∙ one_more tokens
    ∙ ap (λ (l : List Bool). length l + 1) (sym behind.arrows_are) in
    record {
      covered = each-covers iso.vars is.sides iso.both iso.sides behind.trees_are is.keeps many small iso refl refl 0 iso.sides
          (λ k s at. let here : 0 + k ≡ k = omega arith in ap (slice_get iso.sides) here ∙ at);
      narrow = all-narrow iso.vars is.sides iso.sides behind.trees_are small;
    }

all-fine : (bs : List (List (List PatchToken))) (isos : List Iso) → AreIsos bs isos → weigh_blocks bs ≤ 1048576 → AreFine isos
all-fine [] [] are light = tt
all-fine [] (i ∷ is) are light = absurd are
all-fine (b ∷ bs) [] are light = absurd are
all-fine (b ∷ bs) (i ∷ is) are light = (iso-fine b i are.0 (omega (arith, light)), all-fine bs is are.1 (omega (arith, light)))

pub file-fine : (bytes : List ℕ) (isos : List Iso) → AreIsosOf bytes isos → AreFine isos
file-fine bytes isos of =
    let lines = of.lines_are in
    let whole : weigh_lines of.lines ≡ weigh_lines (filled (groups 0 lines.pieces)) =
    ap weigh_lines lines.lines_are in
    let text : length (joined lines.pieces) ≡ length bytes = ap (λ (l : List ℕ). length l) lines.text in
    let least = lines-light lines.pieces lines.cut in
    let short = of.short in
    all-fine (blocks of.lines) isos of.isos_are (omega (arith, blocks-light of.lines, whole, text, least, short))
