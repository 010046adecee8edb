-- The edits of touches fit their text.
use Rattle.std.proofs.Common.{◌≡◌, ◌<◌, ◌+◌, ℕ, zero, suc, Bool, true, false, refl, sym, ap, subst, arith, List, [], ◌∷◌, ◌++◌, length, fold}
use Rattle.std.specs.Prelude.{Option, None, Some, IfSome, All, Contains, slice_get, nat_lt, ◌^◌, if◌then◌else◌}
use Rattle.std.specs.List.{flat_map, filter_map, cons_option, list_any, AllZip}
use Rattle.std.proofs.lemmas.List.Elements.{All-nil, All-cons, All-head, All-tail, All-append, All-push, All-weaker, All-contains, All-contains_itself}
use Rattle.c_lexer.specs.declared.piece.PieceKind.{PieceKind}
use Rattle.c_lexer.specs.declared.piece.PieceKind.TheVariants.{Word, Blank, Comment, Line}
use Rattle.c_lexer.specs.Pieces.{TextPiece, text_of}
use Rattle.c_lexer.specs.Ids.{ids_of, id_before}
use Rattle.smpl_patch.specs.declared.pattern.VarDecl.{VarDecl}
use Rattle.smpl_patch.specs.declared.pattern.PatToken.{PatToken}
use Rattle.smpl_patch.specs.declared.pattern.PlusBlock.{PlusBlock}
use Rattle.edit_marks.specs.declared.edit_conflict.edit.Insert.{Insert}
use Rattle.edit_marks.specs.declared.edit_conflict.edit.Edit.{Edit}
use Rattle.edit_marks.specs.EditConflict.Same.{same_edit}
use Rattle.edit_marks.specs.EditConflict.Once.{once, with_edit}
use Rattle.edit_marks.specs.declared.removals.Aligned.{Aligned}
use Rattle.edit_marks.specs.declared.spot.PlusSpot.{PlusSpot}
use Rattle.edit_marks.specs.declared.file_tokens.FileToken.{FileToken}
use Rattle.edit_marks.specs.Blocks.{Environment}
use Rattle.edit_marks.specs.Inserts.{indent_at, returns_at}
use Rattle.edit_marks.specs.Removals.{is_minus_at, minus_tokens}
use Rattle.edit_marks.specs.Edits.{block_of, insert_if, inserts_at, EditOf}
use Rattle.pat_match.specs.declared.pat_pairs.pairs.AlignedToken.{AlignedToken}
use Rattle.edit_marks.specs.EditWalk.Touches.{Touched}
use Rattle.edit_marks.specs.Tokens.{token_of, tokens_from, file_tokens}
use Rattle.edit_marks.specs.EditWalk.Keys.{number_of}
use Rattle.edit_marks.specs.EditWalk.Named.{numbered, pairs_of}
use Rattle.edit_marks.specs.EditWalk.Fit.{FitsText, AreInOrder}
use Rattle.edit_marks.proofs.EditWalk.NumberLemmas.{number_within}
use Rattle.edit_marks.proofs.EditWalk.OrderLemmas.{inserts_in_order}

-- ---- what holds for each edit holds for each kept edit

module _ (P : Edit → Type 0) where
  with_all : (b : Bool) (edits : List Edit) (e : Edit) → All P edits → P e → All P (if b then edits else edits ++ e ∷ [])
  with_all true edits e all is = all
  with_all false edits e all is = All-push P edits e all is

  fold_all : (kept edits : List Edit) → All P kept → All P edits → All P (fold with_edit kept edits)
  fold_all kept [] have all = have
  fold_all kept (e ∷ edits) have all =
      fold_all (with_edit kept e) edits (with_all (list_any (same_edit e) kept) kept e have (All-head P e edits all)) (All-tail P e edits all)

  pub once_all : (edits : List Edit) → All P edits → All P (once edits)
  once_all edits all = fold_all [] edits (All-nil P) all

  -- and it holds for each edit if it holds for the edit of each touch
  pub each_all : (R : Touched → Edit → Type 0) (ts : List Touched) (edits : List Edit)
      → ((t : Touched) (e : Edit) → R t e → P e) → AllZip R ts edits → All P edits
  each_all R [] [] from zip = All-nil P
  each_all R [] (e ∷ edits) from zip = absurd zip
  each_all R (t ∷ ts) [] from zip = absurd zip
  each_all R (t ∷ ts) (e ∷ edits) from zip = All-cons P e edits (from t e zip.0) (each_all R ts edits from zip.1)

  -- the same, if more is known of each touch
  pub each_all_with : (R : Touched → Edit → Type 0) (Q : Touched → Type 0) (ts : List Touched) (edits : List Edit)
      → ((t : Touched) (e : Edit) → Q t → R t e → P e)
      → All Q ts → AllZip R ts edits → All P edits
  each_all_with R Q [] [] from have zip = All-nil P
  each_all_with R Q [] (e ∷ edits) from have zip = absurd zip
  each_all_with R Q (t ∷ ts) [] from have zip = absurd zip
  each_all_with R Q (t ∷ ts) (e ∷ edits) from have zip =
      All-cons P e edits (from t e (All-head Q t ts have) zip.0) (each_all_with R Q ts edits from (All-tail Q t ts have) zip.1)

-- ---- the numbers of aligned tokens are in range

cons_below : (n : ℕ) (o : Option ℕ) (rest : List ℕ) → IfSome o (λ m. m < n) → All (λ m. m < n) rest → All (λ m. m < n) (cons_option o rest)
cons_below n None rest one all = all
cons_below n (Some m) rest one all = All-cons (λ m. m < n) m rest one all

pub files_below : (ids files : List ℕ) → All (λ m. m < length ids) (filter_map (number_of ids) files)
files_below ids [] = All-nil (λ m. m < length ids)
files_below ids (f ∷ files) =
    cons_below (length ids) (number_of ids f) (filter_map (number_of ids) files) (number_within ids f) (files_below ids files)

abbrev pub AreBelow : ℕ → Aligned → Type 0
AreBelow n p = All (λ m. m < n) p.files

if_below : (n : ℕ) (b : Bool) (p : Aligned) → AreBelow n p → All (AreBelow n) (if b then p ∷ [] else [])
if_below n true p h = All-cons (AreBelow n) p [] h (All-nil (AreBelow n))
if_below n false p h = All-nil (AreBelow n)

all_below : (ids : List ℕ) (pairs : List AlignedToken) → All (AreBelow (length ids)) (flat_map (numbered ids) pairs)
all_below ids [] = All-nil (AreBelow (length ids))
all_below ids (p ∷ pairs) =
    All-append (AreBelow (length ids)) (numbered ids p) (flat_map (numbered ids) pairs)
    (if_below (length ids) (nat_lt p.pattern (2 ^ 32)) (record { pattern = p.pattern; files = filter_map (number_of ids) p.files }) (files_below ids p.files))
    (all_below ids pairs)

pub pairs_below : (ids : List ℕ) (found : Option (List AlignedToken)) → All (AreBelow (length ids)) (pairs_of ids found)
pairs_below ids None = All-nil (AreBelow (length ids))
pairs_below ids (Some pairs) = all_below ids pairs

if_minus : (n : ℕ) (b : Bool) (files : List ℕ) → All (λ m. m < n) files → All (λ m. m < n) (if b then files else [])
if_minus n true files h = h
if_minus n false files h = All-nil (λ m. m < n)

pub minus_below : (tokens : List PatToken) (n : ℕ) (pairs : List Aligned) → All (AreBelow n) pairs → All (λ m. m < n) (minus_tokens tokens pairs)
minus_below tokens n [] h = All-nil (λ m. m < n)
minus_below tokens n (p ∷ pairs) h =
    All-append (λ m. m < n) (if is_minus_at tokens p.pattern then p.files else []) (minus_tokens tokens pairs)
    (if_minus n (is_minus_at tokens p.pattern) p.files (All-head (AreBelow n) p pairs h)) (minus_below tokens n pairs (All-tail (AreBelow n) p pairs h))

-- ---- inserts are at tokens of the table

some_within : {A : Type 0} (xs : List A) (n : ℕ) (x : A) → slice_get xs n ≡ Some x → n < length xs
some_within [] n x at = absurd cc
some_within (y ∷ ys) zero x at = omega arith
some_within (y ∷ ys) (suc n) x at = let rest = some_within ys n x at in omega (arith, rest)

if_within : (decls : List VarDecl) (env : Environment) (removed : List ℕ) (n : ℕ) (s : PlusSpot) (block : Option PlusBlock) (file : Option FileToken)
    → ((f : FileToken) → file ≡ Some f → s.token < n) → All (λ (i : Insert). i.token < n) (insert_if decls env removed s block file)
if_within decls env removed n s None file h = All-nil (λ (i : Insert). i.token < n)
if_within decls env removed n s (Some b) None h = All-nil (λ (i : Insert). i.token < n)
if_within decls env removed n s (Some b) (Some f) h = All-cons (λ (i : Insert). i.token < n) _ [] (h f refl) (All-nil (λ (i : Insert). i.token < n))

inserts_within : (decls : List VarDecl) (tokens : List PatToken) (env : Environment) (files : List FileToken) (removed : List ℕ) (spots : List PlusSpot)
    → All (λ (i : Insert). i.token < length files) (inserts_at decls tokens env files removed spots)
inserts_within decls tokens env files removed [] = All-nil (λ (i : Insert). i.token < length files)
inserts_within decls tokens env files removed (s ∷ spots) =
    All-append (λ (i : Insert). i.token < length files)
    (insert_if decls env removed s (block_of tokens s) (slice_get files s.token)) (inserts_at decls tokens env files removed spots)
    (if_within decls env removed (length files) s (block_of tokens s) (slice_get files s.token) (λ f at. some_within files s.token f at))
    (inserts_within decls tokens env files removed spots)

-- ---- as many tokens as ids

pub count_of : (bytes : List ℕ) (at : ℕ) (pieces : List TextPiece) → length (tokens_from bytes at pieces) ≡ length (ids_of pieces)
count_of bytes at [] = refl
count_of bytes at (p ∷ pieces) = by p.kind (count_of bytes (at + length p.text) pieces)
  where
    by : (k : PieceKind) → length (tokens_from bytes (at + length p.text) pieces) ≡ length (ids_of pieces)
        → length (token_of k p.text (indent_at bytes at) (returns_at bytes at) ++ tokens_from bytes (at + length p.text) pieces) ≡ length (id_before k (ids_of pieces))
    by (Word a id) h = ap suc h
    by Blank h = h
    by Comment h = h
    by Line h = h

-- the edit of a touch fits the text
pub edit_fits : (decls : List VarDecl) (tokens : List PatToken) (env : Environment) (pieces : List TextPiece) (found : Option (List AlignedToken)) (edit : Edit)
    → EditOf decls tokens env (file_tokens pieces) (pairs_of (ids_of pieces) found) edit → FitsText (length (ids_of pieces)) edit
edit_fits decls tokens env pieces found edit is =
    let n = length (ids_of pieces) in
    let minus = minus_tokens tokens (pairs_of (ids_of pieces) found) in
    let below : All (λ m. m < n) minus = minus_below tokens n (pairs_of (ids_of pieces) found) (pairs_below (ids_of pieces) found) in
    record {
      rise = is.rise;
      removed = All-weaker (Contains edit.removed) (λ m. m < n)
          (λ m has. All-contains (λ k. k < n) minus m below ((is.removed m).0 has)) edit.removed (All-contains_itself edit.removed);
      inserts = subst (λ (l : List Insert). All (λ (i : Insert). i.token < n) l) (sym is.inserts)
          (subst (λ (m : ℕ). All (λ (i : Insert). i.token < m)
          (inserts_at decls tokens env (file_tokens pieces) edit.removed is.spots)) (count_of (text_of pieces) 0 pieces)
          (inserts_within decls tokens env (file_tokens pieces) edit.removed is.spots));
      in_order = subst AreInOrder (sym is.inserts) (inserts_in_order decls tokens env (file_tokens pieces) edit.removed is.spots is.sorted);
    }
