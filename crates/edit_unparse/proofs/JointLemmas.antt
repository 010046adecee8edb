-- Which tokens are joined to the one before them, by flags of tokens.
use Rattle.std.proofs.Common.{◌≡◌, ◌<◌, ◌≤◌, ◌+◌, ◌&&◌, ◌||◌, ℕ, zero, suc, Bool, true, false, refl, sym, ap, ◌∙◌, arith}
use Rattle.std.proofs.Common.{List, [], ◌∷◌, ◌++◌, append_assoc, length, length-append, get_or, drop}
use Rattle.std.specs.Prelude.{Some, slice_get, nat_le, if◌then◌else◌}
use Rattle.std.specs.List.{list_any}
use Rattle.std.proofs.lemmas.Bool.Decides.{nat_tests}
use Rattle.c_lexer.specs.declared.piece.PieceKind.{PieceKind}
use Rattle.c_lexer.specs.declared.piece.PieceKind.TheVariants.{Word, Blank, Comment, Line}
use Rattle.c_lexer.specs.Pieces.{TextPiece}
use Rattle.c_lexer.specs.Lexes.{id_after}
use Rattle.edit_marks.specs.declared.edit_conflict.edit.Edit.{Edit}
use Rattle.edit_unparse.specs.declared.tidy.flags.Extent.{Extent}
use Rattle.edit_unparse.specs.declared.tidy.flags.Owners.{Owners}
use Rattle.edit_unparse.specs.Output.{is_removed}
use Rattle.edit_unparse.specs.Tidy.Places.{is_within, are_gone, has_one_owner, is_joined, joint_of, joints_from, plain_after}
use Rattle.edit_unparse.specs.Tidy.Text.{token_piece, token_pieces}
use Rattle.edit_unparse.specs.Tidy.Flags.{IsOwners, are_one, holds, joint_with, reaches, removes_both}

-- one more piece

there : (pieces : List TextPiece) (i : ℕ) (p : TextPiece) → slice_get pieces i ≡ Some p → drop i pieces ≡ p ∷ drop (suc i) pieces
there [] i p at = absurd cc
there (q ∷ pieces) zero p at = let same : q ≡ p = cc in ap (λ (x : TextPiece). x ∷ pieces) same
there (q ∷ pieces) (suc i) p at = there pieces i p at

there_next : (pieces : List TextPiece) (i : ℕ) (p : TextPiece) → slice_get pieces i ≡ Some p → drop i pieces ≡ p ∷ drop (i + 1) pieces
there_next pieces i p at =
    let next : suc i ≡ i + 1 = omega arith in
    there pieces i p at ∙ ap (λ (k : ℕ). p ∷ drop k pieces) next

pub token_pieces_more : (pieces : List TextPiece) (i : ℕ) (p : TextPiece) (old new all : List ℕ) → slice_get pieces i ≡ Some p
    → new ≡ old ++ token_piece p.kind i → old ++ token_pieces i (drop i pieces) ≡ all → new ++ token_pieces (i + 1) (drop (i + 1) pieces) ≡ all
token_pieces_more pieces i p old new all at is before =
    ap (λ (l : List ℕ). l ++ token_pieces (i + 1) (drop (i + 1) pieces)) is
    ∙ append_assoc old (token_piece p.kind i) (token_pieces (i + 1) (drop (i + 1) pieces))
    ∙ ap (λ (l : List TextPiece). old ++ token_pieces i l) (sym (there_next pieces i p at))
    ∙ before

-- two tokens of one edit, or of one statement

any_or : (p q : Extent → Bool) (xs : List Extent) → list_any (λ x. p x || q x) xs ≡ (list_any p xs || list_any q xs)
any_or p q [] = refl
any_or p q (x ∷ xs) = ap (λ (b : Bool). (p x || q x) || b) (any_or p q xs) ∙ regroup (p x) (q x) (list_any p xs) (list_any q xs)
  where
    regroup : (a b c d : Bool) → ((a || b) || (c || d)) ≡ ((a || c) || (b || d))
    regroup true b c d = refl
    regroup false true true d = refl
    regroup false true false d = refl
    regroup false false true d = refl
    regroup false false false d = refl

any_same : (p q : Extent → Bool) (xs : List Extent) → ((x : Extent) → p x ≡ q x) → list_any p xs ≡ list_any q xs
any_same p q [] same = refl
any_same p q (x ∷ xs) same = λ i. same x i || any_same p q xs same i

both_within : (first last n : ℕ) → (nat_le (suc first) (suc n) && nat_le (suc n) last)
    ≡ ((nat_le first n && nat_le n last) && (nat_le first (suc n) && nat_le (suc n) last))
both_within first last n = grind (arith, nat_tests)

or_swap : (a b : Bool) → (a || b) ≡ (b || a)
or_swap true true = refl
or_swap true false = refl
or_swap false true = refl
or_swap false false = refl

all_three : (a b c : Bool) → (b && (a && c)) ≡ (a && b && c)
all_three true true c = refl
all_three true false c = refl
all_three false true c = refl
all_three false false c = refl

none_first : (edits : List Edit) → list_any (removes_both zero) edits ≡ false
none_first [] = refl
none_first (e ∷ edits) = none_first edits

one_owner : (o : Owners) (edits : List Edit) (gone : List Extent) (count n : ℕ) → IsOwners count edits gone o → suc n < count
    → are_one o (suc n) ≡ has_one_owner edits gone n (suc n)
one_owner o edits gone count n are less =
    let before : n < count = omega arith in
    let some : (get_or o.held.items (suc n) false || get_or o.held.items n false) ≡ list_any (λ x. is_within n x || is_within (suc n) x) gone =
    (λ i. are.held (suc n) less i || are.held n before i)
    ∙ or_swap (list_any (holds (suc n)) gone) (list_any (holds n) gone)
    ∙ sym (any_or (is_within n) (is_within (suc n)) gone) in
    let reached : get_or o.reached.items (suc n) false ≡ are_gone gone n (suc n) =
    are.reached (suc n) less
    ∙ any_same (reaches (suc n)) (λ x. is_within n x && is_within (suc n) x) gone (λ x. both_within x.first x.last n) in
    let own : (get_or o.removed.items (suc n) false && (get_or o.removed.items n false && get_or o.reached.items (suc n) false))
    ≡ (is_removed n edits && is_removed (suc n) edits && are_gone gone n (suc n)) =
    (λ i. are.removed (suc n) less i && (are.removed n before i && reached i))
    ∙ all_three (is_removed n edits) (is_removed (suc n) edits) (are_gone gone n (suc n)) in
    λ i. if some i then own i else are.shared (suc n) less i

no_first : (o : Owners) (edits : List Edit) (gone : List Extent) (count : ℕ) → IsOwners count edits gone o → 0 < count → are_one o zero ≡ false
no_first o edits gone count are some =
    ap (λ (b : Bool). if get_or o.held.items zero false || false then get_or o.removed.items zero false && (false && get_or o.reached.items zero false) else b)
    (are.shared zero some ∙ none_first edits)
    ∙ never (get_or o.held.items zero false || false) (get_or o.removed.items zero false)
  where
    never : (b r : Bool) → (if b then r && false else false) ≡ false
    never true true = refl
    never true false = refl
    never false r = refl

and_false : (b : Bool) → (b && false) ≡ false
and_false true = refl
and_false false = refl

joined_is : (o : Owners) (edits : List Edit) (gone : List Extent) (count t : ℕ) (plain : Bool) → IsOwners count edits gone o → t < count
    → (plain && are_one o t) ≡ is_joined edits gone plain t
joined_is o edits gone count zero plain are less = ap (λ (b : Bool). plain && b) (no_first o edits gone count are less) ∙ and_false plain
joined_is o edits gone count (suc n) plain are less = ap (λ (b : Bool). plain && b) (one_owner o edits gone count n are less)

joint_is : (o : Owners) (edits : List Edit) (gone : List Extent) (count t i : ℕ) (plain : Bool) (k : PieceKind) → IsOwners count edits gone o
    → t + length (token_piece k i) ≤ count → joint_with o k plain t ≡ joint_of k edits gone plain t
joint_is o edits gone count t i plain (Word kind id) are less = ap (λ (b : Bool). b ∷ []) (joined_is o edits gone count t plain are (omega arith))
joint_is o edits gone count t i plain Blank are less = refl
joint_is o edits gone count t i plain Comment are less = refl
joint_is o edits gone count t i plain Line are less = refl

after_joint : (o : Owners) (k : PieceKind) (plain : Bool) (t : ℕ) → t + length (joint_with o k plain t) ≡ id_after k t
after_joint o (Word kind id) plain t = omega arith
after_joint o Blank plain t = omega arith
after_joint o Comment plain t = omega arith
after_joint o Line plain t = omega arith

same_length : (o : Owners) (k : PieceKind) (plain : Bool) (t i : ℕ) → length (joint_with o k plain t) ≡ length (token_piece k i)
same_length o (Word kind id) plain t i = refl
same_length o Blank plain t i = refl
same_length o Comment plain t i = refl
same_length o Line plain t i = refl

-- how many tokens there are
pub count_more : (o : Owners) (pieces : List TextPiece) (i : ℕ) (p : TextPiece) (plain : Bool) (old new : List Bool) (count : ℕ)
    → slice_get pieces i ≡ Some p → new ≡ old ++ joint_with o p.kind plain (length old)
    → length old + length (token_pieces i (drop i pieces)) ≡ count → length new + length (token_pieces (i + 1) (drop (i + 1) pieces)) ≡ count
count_more o pieces i p plain old new count at is before =
    let here : length (token_pieces i (drop i pieces)) ≡ length (token_piece p.kind i) + length (token_pieces (i + 1) (drop (i + 1) pieces)) =
    ap (λ (l : List TextPiece). length (token_pieces i l)) (there_next pieces i p at)
    ∙ length-append (token_piece p.kind i) (token_pieces (i + 1) (drop (i + 1) pieces)) in
    omega (
      arith,
      here,
      before,
      ap length is,
      length-append old (joint_with o p.kind plain (length old)),
      same_length o p.kind plain (length old) i,
    )

pub joints_more : (o : Owners) (edits : List Edit) (gone : List Extent) (pieces : List TextPiece) (i : ℕ) (p : TextPiece) (plain next : Bool)
    (old new all : List Bool) (count : ℕ) → slice_get pieces i ≡ Some p → new ≡ old ++ joint_with o p.kind plain (length old)
    → next ≡ plain_after p.kind plain p.text → IsOwners count edits gone o → length old + length (token_pieces i (drop i pieces)) ≡ count
    → old ++ joints_from edits gone (length old) plain (drop i pieces) ≡ all
    → new ++ joints_from edits gone (length new) next (drop (i + 1) pieces) ≡ all
joints_more o edits gone pieces i p plain next old new all count at is following are few before =
    let own = joint_with o p.kind plain (length old) in
    let less : length old + length (token_piece p.kind i) ≤ count = omega (
      arith,
      few,
      ap (λ (l : List TextPiece). length (token_pieces i l)) (there_next pieces i p at),
      length-append (token_piece p.kind i) (token_pieces (i + 1) (drop (i + 1) pieces)),
    ) in
    let joint : own ≡ joint_of p.kind edits gone plain (length old) = joint_is o edits gone count (length old) i plain p.kind are less in
    let token : length new ≡ id_after p.kind (length old) =
    ap length is ∙ length-append old own ∙ after_joint o p.kind plain (length old) in
    let rest = λ (t : ℕ). joints_from edits gone t (plain_after p.kind plain p.text) (drop (i + 1) pieces) in
    (λ j. is j ++ joints_from edits gone (token j) (following j) (drop (i + 1) pieces))
    ∙ append_assoc old own (rest (id_after p.kind (length old)))
    ∙ ap (λ (l : List Bool). old ++ (l ++ rest (id_after p.kind (length old)))) joint
    ∙ ap (λ (l : List TextPiece). old ++ joints_from edits gone (length old) plain l) (sym (there_next pieces i p at))
    ∙ before
