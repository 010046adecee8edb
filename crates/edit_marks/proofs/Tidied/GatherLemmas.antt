-- What the branches of a tree have, child by child.
use Rattle.std.proofs.Common.{◌≡◌, ◌<◌, ◌≤◌, ◌+◌, ◌-◌, ℕ, suc, refl, sym, ap, subst, ◌∙◌, arith, List, [], ◌∷◌, ◌++◌, append_assoc, length, length-append, get_or, drop, map, take}
use Rattle.std.specs.Prelude.{Option, None, Some}
use Rattle.std.proofs.lemmas.List.{append-nil, drop_all}
use Rattle.std.proofs.Math.Seq.{take-append_seam}
use Rattle.c_terms.specs.declared.label.Label.{Label}
use Rattle.c_terms.specs.declared.token.Token.{Token}
use Rattle.c_terms.specs.declared.tree.Tree.{Tree}
use Rattle.c_terms.specs.declared.tree.Tree.TheOpen.{Tree-F}
use Rattle.c_terms.specs.declared.tree.Tree.TheVariants.{Leaf, Branch, rolls-Leaf, rolls-Branch}
use Rattle.c_terms.specs.declared.tree.Tree.TheFolds.{fold-Tree, fold-roll-Tree}
use Rattle.c_terms.proofs.Induct.{Each, tree_induction}
use Rattle.cpp_lines.specs.declared.reading.Item.{Item}
use Rattle.edit_marks.specs.EditWalk.Named.{tree_of}
use Rattle.edit_marks.specs.Tidy.Outlines.{Seen, bounds, gather, gather_in, gather_item, gather_items, gather_seen, gather_step, tokens_of, tokens_of_item}
use Rattle.edit_marks.specs.declared.tidy.shape.Body.{Body}
use Rattle.edit_marks.specs.declared.tidy.shape.BracketList.{BracketList}
use Rattle.edit_marks.specs.declared.tidy.shape.LeafRange.{LeafRange}
use Rattle.edit_marks.specs.Tidy.Outlines.{bodies_from, body_if, list_if, lists_from, range_at}
use Rattle.edit_marks.proofs.Lines.{next}

-- what is left to be added, joined to what was added
pub then_left : {A : Type 0} (old new one rest all : List A) → new ≡ old ++ one → old ++ (one ++ rest) ≡ all → new ++ rest ≡ all
then_left old new one rest all is h = ap (λ xs. xs ++ rest) is ∙ append_assoc old one rest ∙ h

pub none_left : {A : Type 0} (found all rest : List A) → rest ≡ [] → found ++ rest ≡ all → found ≡ all
none_left found all rest is h = sym (append-nil found) ∙ ap (λ xs. found ++ xs) (sym is) ∙ h

-- a path to which a step was added and from which it was taken again
pub popped : (before pushed after left : List ℕ) (x count : ℕ) → pushed ≡ before ++ x ∷ [] → after ≡ pushed → count ≡ length after
    → left ≡ take (count - 1) after → left ≡ before
popped before pushed after left x count is_pushed is_after is_count is_left =
    let same = is_after ∙ is_pushed in
    let shorter : length (before ++ x ∷ []) - 1 ≡ length before = omega (arith, length-append before (x ∷ [])) in
    is_left ∙ ap (λ (n : ℕ). take (n - 1) after) is_count ∙ ap (λ (l : List ℕ). take (length l - 1) l) same
    ∙ ap (λ (n : ℕ). take n (before ++ x ∷ [])) shorter ∙ take-append_seam before (x ∷ [])

module _ (ids : List ℕ) where
  -- where the children from one on begin
  pub bounds_more : (cs : List Tree) (i : ℕ) (c : Tree) (from : ℕ) → i < length cs → c ≡ get_or cs i c
      → bounds ids from (drop i cs) ≡ from ∷ bounds ids (from + length (tokens_of ids c)) (drop (i + 1) cs)
  bounds_more cs i c from less is = ap (bounds ids from) (next cs i c less is)

  pub bounds_step : (cs : List Tree) (i : ℕ) (c : Tree) (from after : ℕ) (old new all : List ℕ) → i < length cs → c ≡ get_or cs i c
      → after ≡ from + length (tokens_of ids c) → new ≡ old ++ from ∷ [] → old ++ bounds ids from (drop i cs) ≡ all
      → new ++ bounds ids after (drop (i + 1) cs) ≡ all
  bounds_step cs i c from after old new all less is is_after is_new h =
      then_left old new (from ∷ []) (bounds ids after (drop (i + 1) cs)) all is_new
      (ap (λ (n : ℕ). old ++ (from ∷ bounds ids n (drop (i + 1) cs))) is_after ∙ ap (λ (l : List ℕ). old ++ l) (sym (bounds_more cs i c from less is)) ∙ h)

  pub bounds_end : (cs : List Tree) (i from : ℕ) (found all : List ℕ) → length cs ≤ i → found ++ bounds ids from (drop i cs) ≡ all → found ++ from ∷ [] ≡ all
  bounds_end cs i from found all le h = ap (λ (ds : List Tree). found ++ bounds ids from ds) (sym (drop_all i cs le)) ∙ h

  module _ {A : Type 0} (own : List ℕ → ℕ → Label → List Tree → List A) where
    abbrev seen : Tree → Seen A
    seen t = fold-Tree (Seen A) (gather_step ids own) t

    seen_leaf : (a : Token) → seen (Leaf a) ≡ gather_step ids own (Tree-F.Leaf a)
    seen_leaf a = ap (fold-Tree (Seen A) (gather_step ids own)) (sym (rolls-Leaf a)) ∙ fold-roll-Tree (Seen A) (gather_step ids own) _

    seen_branch : (l : Label) (cs : List Tree) → seen (Branch l cs) ≡ gather_step ids own (Tree-F.Branch l (map (fold-Tree (Seen A) (gather_step ids own)) cs))
    seen_branch l cs = ap (fold-Tree (Seen A) (gather_step ids own)) (sym (rolls-Branch l cs)) ∙ fold-roll-Tree (Seen A) (gather_step ids own) _

    abbrev Keeps : Tree → Type 0
    Keeps t = (seen t).tree ≡ t

    kids_kept : (cs : List Tree) → Each Keeps cs → map (λ (k : Seen A). k.tree) (map (fold-Tree (Seen A) (gather_step ids own)) cs) ≡ cs
    kids_kept [] e = refl
    kids_kept (c ∷ cs) e = let h = e.0 in let r = kids_kept cs e.1 in λ i. h i ∷ r i

    kept : (t : Tree) → Keeps t
    kept = tree_induction Keeps (λ a. ap (λ (k : Seen A). k.tree) (seen_leaf a))
        (λ l cs e. ap (λ (k : Seen A). k.tree) (seen_branch l cs) ∙ ap (Branch l) (kids_kept cs e))

    all_kept : (cs : List Tree) → map (λ (k : Seen A). k.tree) (map (fold-Tree (Seen A) (gather_step ids own)) cs) ≡ cs
    all_kept [] = refl
    all_kept (c ∷ cs) = let h = kept c in let r = all_kept cs in λ i. h i ∷ r i

    seen_in : (path : List ℕ) (i from : ℕ) (cs : List Tree)
        → gather_seen ids own path i from (map (fold-Tree (Seen A) (gather_step ids own)) cs) ≡ gather_in ids own path i from cs
    seen_in path i from [] = refl
    seen_in path i from (c ∷ cs) =
        ap (λ (t : Tree). gather ids own c (path ++ i ∷ []) from
        ++ gather_seen ids own path (suc i) (from + length (tokens_of ids t)) (map (fold-Tree (Seen A) (gather_step ids own)) cs)) (kept c)
        ∙ ap (λ xs. gather ids own c (path ++ i ∷ []) from ++ xs) (seen_in path (suc i) (from + length (tokens_of ids c)) cs)

    pub gather_leaf : (a : Token) (path : List ℕ) (from : ℕ) → gather ids own (Leaf a) path from ≡ []
    gather_leaf a path from = ap (λ (k : Seen A). k.found path from) (seen_leaf a)

    pub gather_branch : (l : Label) (cs : List Tree) (path : List ℕ) (from : ℕ)
        → gather ids own (Branch l cs) path from ≡ gather_in ids own path 0 from cs ++ own path from l cs
    gather_branch l cs path from =
        ap (λ (k : Seen A). k.found path from) (seen_branch l cs)
        ∙ (λ i. seen_in path 0 from cs i ++ own path from l (all_kept cs i))

    -- the children from one on: what the child has, and then the others
    pub gather_more : (cs : List Tree) (i : ℕ) (c : Tree) (path : List ℕ) (from : ℕ) → i < length cs → c ≡ get_or cs i c
        → gather_in ids own path i from (drop i cs)
        ≡ gather ids own c (path ++ i ∷ []) from ++ gather_in ids own path (i + 1) (from + length (tokens_of ids c)) (drop (i + 1) cs)
    gather_more cs i c path from less is =
        let one : suc i ≡ i + 1 = omega arith in
        ap (gather_in ids own path i from) (next cs i c less is)
        ∙ ap (λ (n : ℕ). gather ids own c (path ++ i ∷ []) from ++ gather_in ids own path n (from + length (tokens_of ids c)) (drop (i + 1) cs)) one

    pub gather_end : (cs : List Tree) (i : ℕ) (path : List ℕ) (from : ℕ) → length cs ≤ i → gather_in ids own path i from (drop i cs) ≡ []
    gather_end cs i path from le = ap (gather_in ids own path i from) (drop_all i cs le)

    -- a loop over children: what was found, and what the others have, is all
    pub gather_step_more : (cs : List Tree) (i : ℕ) (c : Tree) (path : List ℕ) (from after : ℕ) (old new all : List A)
        → i < length cs → c ≡ get_or cs i c → after ≡ from + length (tokens_of ids c) → new ≡ old ++ gather ids own c (path ++ i ∷ []) from
        → old ++ gather_in ids own path i from (drop i cs) ≡ all → new ++ gather_in ids own path (i + 1) after (drop (i + 1) cs) ≡ all
    gather_step_more cs i c path from after old new all less is is_after is_new h =
        then_left old new (gather ids own c (path ++ i ∷ []) from) (gather_in ids own path (i + 1) after (drop (i + 1) cs)) all is_new
        (ap (λ (n : ℕ). old ++ (gather ids own c (path ++ i ∷ []) from ++ gather_in ids own path (i + 1) n (drop (i + 1) cs))) is_after
        ∙ ap (λ xs. old ++ xs) (sym (gather_more cs i c path from less is)) ∙ h)

    -- the leaf of a tree that was added, and the branch whose children were
    pub all_of_leaf : (t : Tree) (a : Token) (path : List ℕ) (from : ℕ) (old : List A) → t ≡ Leaf a → old ≡ old ++ gather ids own t path from
    all_of_leaf t a path from old is =
        sym (ap (λ (u : Tree). old ++ gather ids own u path from) is ∙ ap (λ xs. old ++ xs) (gather_leaf a path from) ∙ append-nil old)

    pub all_of_branch : (t : Tree) (l : Label) (cs cs' : List Tree) (i : ℕ) (path : List ℕ) (from after : ℕ) (old found new one : List A)
        → t ≡ Branch l cs' → cs ≡ cs' → length cs ≤ i
        → found ++ gather_in ids own path i after (drop i cs) ≡ old ++ gather_in ids own path 0 from cs
        → one ≡ own path from l cs → new ≡ found ++ one → new ≡ old ++ gather ids own t path from
    all_of_branch t l cs cs' i path from after old found new one is same le h is_one is_new =
        is_new
        ∙ ap (λ xs. xs ++ one) (none_left found (old ++ gather_in ids own path 0 from cs) (gather_in ids own path i after (drop i cs))
        (gather_end cs i path after le) h)
        ∙ append_assoc old (gather_in ids own path 0 from cs) one
        ∙ ap (λ xs. old ++ (gather_in ids own path 0 from cs ++ xs)) is_one
        ∙ ap (λ xs. old ++ xs) (sym (gather_branch l cs path from))
        ∙ ap (λ (ds : List Tree). old ++ gather ids own (Branch l ds) path from) same
        ∙ ap (λ (u : Tree). old ++ gather ids own u path from) (sym is)

  -- a loop over items
  pub items_more : {A : Type 0} (own : ℕ → List ℕ → ℕ → Label → List Tree → List A) (items : List Item) (touched : List ℕ) (i n : ℕ)
      (from after : ℕ) (old new all : List A) → i < length touched → n ≡ get_or touched i n → after ≡ from + length (tokens_of_item ids (tree_of items n))
      → new ≡ old ++ gather_item ids (own n) (tree_of items n) from
      → old ++ gather_items ids own items from (drop i touched) ≡ all → new ++ gather_items ids own items after (drop (i + 1) touched) ≡ all
  items_more own items touched i n from after old new all less is is_after is_new h =
      then_left old new (gather_item ids (own n) (tree_of items n) from) (gather_items ids own items after (drop (i + 1) touched)) all is_new
      (ap (λ (m : ℕ). old ++ (gather_item ids (own n) (tree_of items n) from ++ gather_items ids own items m (drop (i + 1) touched))) is_after
      ∙ ap (λ (ts : List ℕ). old ++ gather_items ids own items from ts) (sym (next touched i n less is)) ∙ h)

  pub items_end : {A : Type 0} (own : ℕ → List ℕ → ℕ → Label → List Tree → List A) (items : List Item) (touched : List ℕ) (i from : ℕ)
      (found all : List A) → length touched ≤ i → found ++ gather_items ids own items from (drop i touched) ≡ all → found ≡ all
  items_end own items touched i from found all le h =
      none_left found all (gather_items ids own items from (drop i touched)) (ap (gather_items ids own items from) (drop_all i touched le)) h

-- ---- the children of a branch

pub bodies_more : (item : ℕ) (path : List ℕ) (l : Label) (bounds : List ℕ) (count : ℕ) (cs : List Tree) (i : ℕ) (c : Tree) (old new all : List Body)
    → i < length cs → c ≡ get_or cs i c → new ≡ old ++ body_if item path l bounds count i c
    → old ++ bodies_from item path l bounds count i (drop i cs) ≡ all → new ++ bodies_from item path l bounds count (i + 1) (drop (i + 1) cs) ≡ all
bodies_more item path l bounds count cs i c old new all less is is_new h =
    let one : suc i ≡ i + 1 = omega arith in
    let own = body_if item path l bounds count i c in
    let rest = bodies_from item path l bounds count (i + 1) (drop (i + 1) cs) in
    then_left old new own rest all is_new
    (ap (λ (n : ℕ). old ++ (own ++ bodies_from item path l bounds count n (drop (i + 1) cs))) (sym one)
    ∙ ap (λ (ds : List Tree). old ++ bodies_from item path l bounds count i ds) (sym (next cs i c less is)) ∙ h)

pub bodies_end : (item : ℕ) (path : List ℕ) (l : Label) (bounds : List ℕ) (count : ℕ) (cs : List Tree) (i : ℕ) (found all : List Body)
    → length cs ≤ i → found ++ bodies_from item path l bounds count i (drop i cs) ≡ all → found ≡ all
bodies_end item path l bounds count cs i found all le h =
    none_left found all (bodies_from item path l bounds count i (drop i cs)) (ap (bodies_from item path l bounds count i) (drop_all i cs le)) h

pub lists_more : (whole : LeafRange) (bounds : List ℕ) (cs : List Tree) (i : ℕ) (c : Tree) (own : LeafRange) (old new all : List BracketList)
    → i < length cs → c ≡ get_or cs i c → own ≡ range_at bounds i → new ≡ old ++ list_if c whole own
    → old ++ lists_from whole bounds i (drop i cs) ≡ all → new ++ lists_from whole bounds (i + 1) (drop (i + 1) cs) ≡ all
lists_more whole bounds cs i c own old new all less is is_own is_new h =
    let one : suc i ≡ i + 1 = omega arith in
    let rest = lists_from whole bounds (i + 1) (drop (i + 1) cs) in
    then_left old new (list_if c whole own) rest all is_new
    (ap (λ (r : LeafRange). old ++ (list_if c whole r ++ rest)) is_own
    ∙ ap (λ (n : ℕ). old ++ (list_if c whole (range_at bounds i) ++ lists_from whole bounds n (drop (i + 1) cs))) (sym one)
    ∙ ap (λ (ds : List Tree). old ++ lists_from whole bounds i ds) (sym (next cs i c less is)) ∙ h)

pub lists_end : (whole : LeafRange) (bounds : List ℕ) (cs : List Tree) (i : ℕ) (found all : List BracketList)
    → length cs ≤ i → found ++ lists_from whole bounds i (drop i cs) ≡ all → found ≡ all
lists_end whole bounds cs i found all le h =
    none_left found all (lists_from whole bounds i (drop i cs)) (ap (lists_from whole bounds i) (drop_all i cs le)) h
