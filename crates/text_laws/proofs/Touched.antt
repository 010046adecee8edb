-- The edits of witnesses touch no Stray, and no token that follows one.
use Rattle.std.proofs.Common.{◌≡◌, ◌<◌, ◌-◌, ◌&&◌, ℕ, zero, suc, Bool, true, false, refl, sym, ap, subst, arith, List, [], ◌∷◌, length, ◌∙◌}
use Rattle.std.specs.Prelude.{Option, None, Some, All, Contains, slice_get, slice_index, option_and_then, is_some, nat_lt, ◌^◌, if◌then◌else◌}
use Rattle.std.specs.List.{flat_map, filter_map, cons_option}
use Rattle.std.proofs.lemmas.Bool.Decides.{Decides-ltb}
use Rattle.std.proofs.lemmas.List.Sorted.{All-permutation}
use Rattle.std.proofs.lemmas.List.Elements.{All-nil, All-cons, All-head, All-tail, All-append, All-weaker, All-contains, All-contains_itself, All-get_or}
use Rattle.c_terms.specs.declared.token.Token.{Token}
use Rattle.c_terms.specs.declared.token.TokenKind.{TokenKind}
use Rattle.c_terms.specs.declared.token.TokenKind.TheVariants.{Stray}
use Rattle.c_terms.specs.declared.tree.Tree.{Tree}
use Rattle.c_terms.specs.Trees.{leaves}
use Rattle.c_lexer.specs.Pieces.{TextPiece}
use Rattle.c_lexer.specs.Ids.{ids_of}
use Rattle.c_show.specs.PlainText.{is_plain_token}
use Rattle.cpp_lines.specs.declared.reading.Item.{Item}
use Rattle.cpp_lines.specs.declared.reading.Item.TheVariants.{Parsed, Skipped}
use Rattle.edit_marks.specs.declared.edit_walk.nodes.ItemNodes.{ItemNodes}
use Rattle.smpl_terms.specs.Environments.{total}
use Rattle.smpl_patch.specs.declared.pattern.VarDecl.{VarDecl}
use Rattle.smpl_patch.specs.declared.pattern.PatToken.{PatToken}
use Rattle.smpl_patch.specs.declared.pattern.Pattern.{Pattern}
use Rattle.smpl_patch.specs.declared.pattern.PlusBlock.{PlusBlock}
use Rattle.edit_marks.specs.declared.edit_conflict.edit.Insert.{Insert}
use Rattle.edit_marks.specs.declared.edit_conflict.edit.Edit.{Edit}
use Rattle.edit_marks.specs.declared.removals.Aligned.{Aligned}
use Rattle.edit_marks.specs.declared.spot.PlusSpot.{PlusSpot}
use Rattle.edit_marks.specs.declared.file_tokens.FileToken.{FileToken}
use Rattle.edit_marks.specs.Blocks.{Environment}
use Rattle.edit_marks.specs.Plain.{AreCTokens}
use Rattle.edit_marks.specs.Removals.{is_minus_at, minus_tokens}
use Rattle.edit_marks.specs.Spots.{token_spots, spots_of, all_spots}
use Rattle.edit_marks.specs.Edits.{block_of, insert_if, inserts_at, EditOf}
use Rattle.edit_unparse.specs.Fair.{is_stray}
use Rattle.pat_match.specs.declared.pat_pairs.pairs.AlignedToken.{AlignedToken}
use Rattle.pat_match.specs.Roles.{role_at}
use Rattle.pat_match.specs.PatPairs.Pairs.{aligned_tokens}
use Rattle.edit_marks.specs.EditWalk.Touches.{Touched}
use Rattle.edit_marks.specs.EditWalk.Keys.{number_of}
use Rattle.edit_marks.specs.EditWalk.Named.{pattern_of, part_of, tree_at, numbered, pairs_of, alignment, pairs_at}
use Rattle.edit_marks.specs.EditWalk.Nodes.{kind_at, types_at}
use Rattle.text_laws.specs.ReadingLaws.Sound.{StandsApart, IsSoundItem}
use Rattle.text_laws.specs.OutputLaws.Differ.{AllDiffer}
use Rattle.text_laws.proofs.OutputLaws.TreeTokens.{Have, TreeHas, SomeTreeHas, subtree_has}
use Rattle.text_laws.proofs.Aligned.{IdsHave, AlignedHave, FoundHave, tokens_found}
use Rattle.text_laws.proofs.Places.{GoodAt, number_good}
use Rattle.text_laws.proofs.Strays.{Touches}

-- ---- tokens of trees

abbrev IsApart : List TextPiece → Token → Type 0
IsApart pieces t = (is_stray t.kind ≡ false) × StandsApart false pieces t

plain_quiet : (k : TokenKind) → is_plain_token k ≡ true → is_stray k ≡ false
plain_quiet Stray e = absurd cc
plain_quiet _ e = refl

all_apart : (pieces : List TextPiece) (ts : List Token) → AreCTokens ts → All (StandsApart false pieces) ts → Have (IsApart pieces) ts
all_apart pieces [] c h = tt
all_apart pieces (t ∷ ts) c h =
    ((plain_quiet t.kind c.0.plain, All-head (StandsApart false pieces) t ts h), all_apart pieces ts c.1 (All-tail (StandsApart false pieces) t ts h))

part_apart : (pieces : List TextPiece) (item : Item) (path : List ℕ) → IsSoundItem pieces item → SomeTreeHas (IsApart pieces) (part_of item path)
part_apart pieces (Parsed t) path h = subtree_has (IsApart pieces) t path (all_apart pieces (leaves t) h.0 h.1)
part_apart pieces (Skipped span why) path h = tt

item_apart : (pieces : List TextPiece) (items : List Item) (n : ℕ) (path : List ℕ) → All (IsSoundItem pieces) items
    → SomeTreeHas (IsApart pieces) (option_and_then (λ i. part_of i path) (slice_get items n))
item_apart pieces [] n path h = tt
item_apart pieces (i ∷ items) zero path h = part_apart pieces i path (All-head (IsSoundItem pieces) i items h)
item_apart pieces (i ∷ items) (suc n) path h = item_apart pieces items n path (All-tail (IsSoundItem pieces) i items h)

-- ---- ids that are aligned

abbrev IsId : List TextPiece → ℕ → Type 0
IsId pieces id = (t : Token) × (t.id ≡ id) × IsApart pieces t

from_token : (pieces : List TextPiece) (t : Token) → IsApart pieces t → IsId pieces t.id
from_token pieces t h = (t, refl, h)

module _ (pieces : List TextPiece) where
  abbrev Found : Option (List AlignedToken) → Type 0
  Found = FoundHave (IsId pieces)

  then_tree : (f : Tree → Option (List AlignedToken)) → ((t : Tree) → TreeHas (IsApart pieces) t → Found (f t)) → (o : Option Tree)
      → SomeTreeHas (IsApart pieces) o → Found (option_and_then f o)
  then_tree f from None h = tt
  then_tree f from (Some t) h = from t h

  then_any : {A : Type 0} (f : A → Option (List AlignedToken)) → ((a : A) → Found (f a)) → (o : Option A) → Found (option_and_then f o)
  then_any f from None = tt
  then_any f from (Some a) = from a

  found_at : (patterns : List Pattern) (decls : List VarDecl) (tokens : List PatToken) (items : List Item) (nodes : List ItemNodes) (ids : List ℕ)
      (t : Touched)
      → All (IsSoundItem pieces) items → Found (alignment patterns decls tokens items nodes ids t)
  found_at patterns decls tokens items nodes ids t h =
      then_any (λ p. option_and_then (λ k. option_and_then
      (λ tree. aligned_tokens decls tokens (types_at nodes t.item) (total t.env) p (role_at k t.path) tree) (tree_at items t.item t.path))
      (kind_at nodes t.item t.node))
      (λ p. then_any (λ k. option_and_then (λ tree. aligned_tokens decls tokens (types_at nodes t.item) (total t.env) p (role_at k t.path) tree)
      (tree_at items t.item t.path))
      (λ k. then_tree (λ tree. aligned_tokens decls tokens (types_at nodes t.item) (total t.env) p (role_at k t.path) tree)
      (λ tree own. tokens_found (IsApart pieces) (IsId pieces) (from_token pieces) decls tokens (types_at nodes t.item) (total t.env) p
      (role_at k t.path) tree own)
      (tree_at items t.item t.path) (item_apart pieces items t.item t.path h))
      (kind_at nodes t.item t.node))
      (pattern_of patterns t.atom)

-- ---- numbers that are aligned

module _ (pieces : List TextPiece) (apart : AllDiffer (ids_of pieces)) where
  abbrev Good : ℕ → Type 0
  Good = GoodAt false 0 pieces

  one_good : (id n : ℕ) → IsId pieces id → number_of (ids_of pieces) id ≡ Some n → Good n
  one_good id n h e = number_good false 0 pieces n h.0 apart (h.2.0) (h.2.1) (ap (number_of (ids_of pieces)) h.1 ∙ e)

  cons_good : (o : Option ℕ) (rest : List ℕ) → ((n : ℕ) → o ≡ Some n → Good n) → All Good rest → All Good (cons_option o rest)
  cons_good None rest from all = all
  cons_good (Some n) rest from all = All-cons Good n rest (from n refl) all

  files_good : (files : List ℕ) → IdsHave (IsId pieces) files → All Good (filter_map (number_of (ids_of pieces)) files)
  files_good [] h = All-nil Good
  files_good (f ∷ files) h =
      cons_good (number_of (ids_of pieces) f) (filter_map (number_of (ids_of pieces)) files) (λ n e. one_good f n h.0 e) (files_good files h.1)

  abbrev AreGood : Aligned → Type 0
  AreGood p = All Good p.files

  if_good : (b : Bool) (p : Aligned) → AreGood p → All AreGood (if b then p ∷ [] else [])
  if_good true p h = All-cons AreGood p [] h (All-nil AreGood)
  if_good false p h = All-nil AreGood

  all_good : (pairs : List AlignedToken) → AlignedHave (IsId pieces) pairs → All AreGood (flat_map (numbered (ids_of pieces)) pairs)
  all_good [] h = All-nil AreGood
  all_good (p ∷ pairs) h =
      All-append AreGood (numbered (ids_of pieces) p) (flat_map (numbered (ids_of pieces)) pairs)
      (if_good (nat_lt p.pattern (2 ^ 32)) (record { pattern = p.pattern; files = filter_map (number_of (ids_of pieces)) p.files }) (files_good p.files h.0))
      (all_good pairs h.1)

  pairs_good : (found : Option (List AlignedToken)) → Found pieces found → All AreGood (pairs_of (ids_of pieces) found)
  pairs_good None h = All-nil AreGood
  pairs_good (Some pairs) h = all_good pairs h

  -- ---- what is removed

  if_minus : (b : Bool) (files : List ℕ) → All Good files → All Good (if b then files else [])
  if_minus true files h = h
  if_minus false files h = All-nil Good

  minus_good : (tokens : List PatToken) (pairs : List Aligned) → All AreGood pairs → All Good (minus_tokens tokens pairs)
  minus_good tokens [] h = All-nil Good
  minus_good tokens (p ∷ pairs) h =
      All-append Good (if is_minus_at tokens p.pattern then p.files else []) (minus_tokens tokens pairs)
      (if_minus (is_minus_at tokens p.pattern) p.files (All-head AreGood p pairs h)) (minus_good tokens pairs (All-tail AreGood p pairs h))

  -- ---- where something comes in

  abbrev SpotGood : PlusSpot → Type 0
  SpotGood s = Good s.token

  spot_if : (a b : Bool) (s : PlusSpot) → (b ≡ true → SpotGood s) → All SpotGood (if a && b then s ∷ [] else [])
  spot_if true true s h = All-cons SpotGood s [] (h refl) (All-nil SpotGood)
  spot_if true false s h = All-nil SpotGood
  spot_if false b s h = All-nil SpotGood

  first_good : (files : List ℕ) → All Good files → nat_lt 0 (length files) ≡ true → Good (slice_index files 0)
  first_good files h e = All-get_or Good files 0 0 ((Decides-ltb 0 (length files)).0 e) h

  last_good : (files : List ℕ) → All Good files → nat_lt 0 (length files) ≡ true → Good (slice_index files (length files - 1))
  last_good files h e =
      let some : 0 < length files = (Decides-ltb 0 (length files)).0 e in
      All-get_or Good files (length files - 1) 0 (omega (arith, some)) h

  token_good : (t : PatToken) (p : Aligned) → AreGood p → All SpotGood (token_spots t p)
  token_good t p h =
      let first : PlusSpot = record { token = slice_index p.files 0; after = false; pattern = p.pattern } in
      let last : PlusSpot = record { token = slice_index p.files (length p.files - 1); after = true; pattern = p.pattern } in
      All-append SpotGood (if is_some t.before && nat_lt 0 (length p.files) then first ∷ [] else [])
      (if is_some t.after && nat_lt 0 (length p.files) then last ∷ [] else [])
      (spot_if (is_some t.before) (nat_lt 0 (length p.files)) first (first_good p.files h))
      (spot_if (is_some t.after) (nat_lt 0 (length p.files)) last (last_good p.files h))

  spots_good : (o : Option PatToken) (p : Aligned) → AreGood p → All SpotGood (spots_of o p)
  spots_good None p h = All-nil SpotGood
  spots_good (Some t) p h = token_good t p h

  all_spots_good : (tokens : List PatToken) (pairs : List Aligned) → All AreGood pairs → All SpotGood (all_spots tokens pairs)
  all_spots_good tokens [] h = All-nil SpotGood
  all_spots_good tokens (p ∷ pairs) h =
      All-append SpotGood (spots_of (slice_get tokens p.pattern) p) (all_spots tokens pairs)
      (spots_good (slice_get tokens p.pattern) p (All-head AreGood p pairs h)) (all_spots_good tokens pairs (All-tail AreGood p pairs h))

  abbrev InsertGood : Insert → Type 0
  InsertGood i = Good i.token

  insert_good : (decls : List VarDecl) (env : Environment) (removed : List ℕ) (s : PlusSpot) (block : Option PlusBlock) (file : Option FileToken) → SpotGood s
      → All InsertGood (insert_if decls env removed s block file)
  insert_good decls env removed s None file h = All-nil InsertGood
  insert_good decls env removed s (Some b) None h = All-nil InsertGood
  insert_good decls env removed s (Some b) (Some f) h = All-cons InsertGood _ [] h (All-nil InsertGood)

  inserts_good : (decls : List VarDecl) (tokens : List PatToken) (env : Environment) (files : List FileToken) (removed : List ℕ) (spots : List PlusSpot)
      → All SpotGood spots
      → All InsertGood (inserts_at decls tokens env files removed spots)
  inserts_good decls tokens env files removed [] h = All-nil InsertGood
  inserts_good decls tokens env files removed (s ∷ spots) h =
      All-append InsertGood (insert_if decls env removed s (block_of tokens s) (slice_get files s.token)) (inserts_at decls tokens env files removed spots)
      (insert_good decls env removed s (block_of tokens s) (slice_get files s.token) (All-head SpotGood s spots h))
      (inserts_good decls tokens env files removed spots (All-tail SpotGood s spots h))

  -- the edit of an alignment whose tokens stand apart
  pub edit_good : (decls : List VarDecl) (tokens : List PatToken) (env : Environment) (files : List FileToken) (pairs : List Aligned) (edit : Edit)
      → All AreGood pairs
      → EditOf decls tokens env files pairs edit → Touches Good edit
  edit_good decls tokens env files pairs edit h is = (
    All-weaker (Contains edit.removed) Good (λ n has. All-contains Good (minus_tokens tokens pairs) n (minus_good tokens pairs h)
        ((is.removed n).0 has)) edit.removed (All-contains_itself edit.removed),
    subst (All InsertGood) (sym is.inserts)
        (inserts_good decls tokens env files edit.removed is.spots (All-permutation SpotGood (all_spots tokens pairs) is.spots is.all
        (all_spots_good tokens pairs h))),
  )

  pub touch_good : (patterns : List Pattern) (decls : List VarDecl) (tokens : List PatToken) (items : List Item) (nodes : List ItemNodes)
      (files : List FileToken) (t : Touched) (edit : Edit)
      → All (IsSoundItem pieces) items → EditOf decls tokens t.env files (pairs_at patterns decls tokens items nodes (ids_of pieces) t) edit
      → Touches Good edit
  touch_good patterns decls tokens items nodes files t edit h is =
      edit_good decls tokens t.env files (pairs_at patterns decls tokens items nodes (ids_of pieces) t) edit
      (pairs_good (alignment patterns decls tokens items nodes (ids_of pieces) t) (found_at pieces patterns decls tokens items nodes (ids_of pieces) t h)) is
