-- Parts that are assembled from old pieces stay so when the commas of a list go.
use Rattle.std.proofs.Common.{◌≡◌, ◌≤◌, ◌<◌, ◌+◌, ◌==◌, ◌||◌, ℕ, zero, suc, Bool, true, false, refl, sym, ap, ◌∙◌, arith}
use Rattle.std.proofs.Common.{List, [], ◌∷◌, ◌++◌, length, get_or, subst}
use Rattle.std.specs.Prelude.{if◌then◌else◌}
use Rattle.std.specs.List.{list_any}
use Rattle.std.proofs.lemmas.Bool.{false≢true}
use Rattle.std.proofs.lemmas.Bool.Decides.{Decides-eqb}
use Rattle.c_lexer.specs.declared.piece.PieceKind.{PieceKind}
use Rattle.c_lexer.specs.declared.piece.PieceKind.TheVariants.{Word, Blank, Comment, Line}
use Rattle.c_lexer.specs.Pieces.{TextPiece}
use Rattle.c_lexer.specs.Lexes.{Cuts}
use Rattle.edit_unparse.specs.Output.{Part, old_part}
use Rattle.edit_unparse.specs.Fair.{after_stray}
use Rattle.edit_unparse.specs.Tidy.Commas.{front_of, inside, is_from, rest_of, with_list, without_commas}
use Rattle.edit_unparse.specs.Tidy.Fair.{behind_strays, token_flag}
use Rattle.edit_unparse.specs.Tidy.Text.{token_piece, token_pieces}
use Rattle.edit_unparse.proofs.Assembled as made
use Rattle.edit_unparse.proofs.Assembled.{Assembled, Prior, cut_part, gone, prior_of}
use Rattle.edit_unparse.proofs.CommasGone.{Has, Region, guarded_more, has_rest, in_list, none_less}

-- the pieces of tokens are numbered upward
least_token : (n : ℕ) (pieces : List TextPiece) (k : ℕ) → k < length (token_pieces n pieces) → n ≤ get_or (token_pieces n pieces) k 0
least_token n [] k less = absurd (omega arith)
least_token n (r ∷ rs) k less = by r.kind k less (least_token (n + 1) rs)
  where
    by : (kind : PieceKind) (k : ℕ) → k < length (token_piece kind n ++ token_pieces (n + 1) rs)
        → ((j : ℕ) → j < length (token_pieces (n + 1) rs) → n + 1 ≤ get_or (token_pieces (n + 1) rs) j 0)
        → n ≤ get_or (token_piece kind n ++ token_pieces (n + 1) rs) k 0
    by (Word a id) zero less more = omega arith
    by (Word a id) (suc k) less more = let next = more k (omega arith) in omega arith
    by Blank k less more = let next = more k less in omega arith
    by Comment k less more = let next = more k less in omega arith
    by Line k less more = let next = more k less in omega arith

-- a list whose opening and closing brackets are the old pieces with these numbers
module _ (begin close : ℕ) where
  pub record Ahead (n : ℕ) (pieces : List TextPiece) (i k : ℕ) (after : Bool) : Type 0 where
    pub opening : get_or (token_pieces n pieces) i 0 ≡ begin
    pub closing : get_or (token_pieces n pieces) k 0 ≡ close
    pub order : i < k
    pub within : k < length (token_pieces n pieces)
    pub calm : (j : ℕ) → i < j → j ≤ k → get_or (behind_strays after pieces) j false ≡ false

  record Later (n : ℕ) (r : TextPiece) (rs : List TextPiece) (after : Bool) : Type 0 where
    pub i : ℕ
    pub k : ℕ
    pub ahead : Ahead (n + 1) rs i k (after_stray r.kind after)

  module _ (n : ℕ) (r : TextPiece) (rs : List TextPiece) (i k : ℕ) (after : Bool) (ahead : Ahead n (r ∷ rs) i k after) where
    later : (n ≡ begin → ⊥) → Later n r rs after
    later other = by r.kind i k ahead.opening ahead.closing ahead.order ahead.within ahead.calm
      where
        by : (kind : PieceKind) (i k : ℕ) → get_or (token_piece kind n ++ token_pieces (n + 1) rs) i 0 ≡ begin
            → get_or (token_piece kind n ++ token_pieces (n + 1) rs) k 0 ≡ close → i < k → k < length (token_piece kind n ++ token_pieces (n + 1) rs)
            → ((j : ℕ) → i < j → j ≤ k → get_or (token_flag kind after ++ behind_strays (after_stray r.kind after) rs) j false ≡ false) → Later n r rs after
        by (Word a id) zero k opening closing order within calm = absurd (other opening)
        by (Word a id) (suc i) zero opening closing order within calm = absurd (omega arith)
        by (Word a id) (suc i) (suc k) opening closing order within calm = record {
          i = i;
          k = k;
          ahead = record {
            opening = opening;
            closing = closing;
            order = omega arith;
            within = omega arith;
            calm = λ j low high. calm (suc j) (omega arith) (omega arith);
          };
        }
        by Blank i k opening closing order within calm = record {
          i = i;
          k = k;
          ahead = record { opening = opening; closing = closing; order = order; within = within; calm = calm };
        }
        by Comment i k opening closing order within calm = record {
          i = i;
          k = k;
          ahead = record { opening = opening; closing = closing; order = order; within = within; calm = calm };
        }
        by Line i k opening closing order within calm = record {
          i = i;
          k = k;
          ahead = record { opening = opening; closing = closing; order = order; within = within; calm = calm };
        }

    -- the closing bracket is another piece
    not_close : n ≡ close → ⊥
    not_close same = by r.kind k ahead.closing ahead.order ahead.within
      where
        by : (kind : PieceKind) (k : ℕ) → get_or (token_piece kind n ++ token_pieces (n + 1) rs) k 0 ≡ close → i < k
            → k < length (token_piece kind n ++ token_pieces (n + 1) rs) → ⊥
        by (Word a id) zero closing order within = omega arith
        by (Word a id) (suc k) closing order within = let more = least_token (n + 1) rs k (omega arith) in omega arith
        by Blank k closing order within = let more = least_token (n + 1) rs k within in omega arith
        by Comment k closing order within = let more = least_token (n + 1) rs k within in omega arith
        by Line k closing order within = let more = least_token (n + 1) rs k within in omega arith

    record Entered : Type 0 where
      pub left : ℕ
      pub region : Region close (n + 1) rs left (after_stray r.kind after)

    -- behind the opening bracket
    enter : n ≡ begin → Entered
    enter same = by r.kind i k ahead.opening ahead.closing ahead.order ahead.within ahead.calm
      where
        by : (kind : PieceKind) (i k : ℕ) → get_or (token_piece kind n ++ token_pieces (n + 1) rs) i 0 ≡ begin
            → get_or (token_piece kind n ++ token_pieces (n + 1) rs) k 0 ≡ close → i < k → k < length (token_piece kind n ++ token_pieces (n + 1) rs)
            → ((j : ℕ) → i < j → j ≤ k → get_or (token_flag kind after ++ behind_strays (after_stray r.kind after) rs) j false ≡ false) → Entered
        by (Word a id) zero zero opening closing order within calm = absurd (omega arith)
        by (Word a id) zero (suc k) opening closing order within calm =
            record { left = k; region = record { closing = closing; calm = λ j high. calm (suc j) (omega arith) (omega arith) } }
        by (Word a id) (suc i) zero opening closing order within calm = absurd (omega arith)
        by (Word a id) (suc i) (suc k) opening closing order within calm = let more = least_token (n + 1) rs i (omega arith) in absurd (omega arith)
        by Blank i k opening closing order within calm = let more = least_token (n + 1) rs i (omega arith) in absurd (omega arith)
        by Comment i k opening closing order within calm = let more = least_token (n + 1) rs i (omega arith) in absurd (omega arith)
        by Line i k opening closing order within calm = let more = least_token (n + 1) rs i (omega arith) in absurd (omega arith)

  other : (a b : ℕ) → (a ≡ b → ⊥) → (a == b) ≡ false
  other a b differ = by (a == b) refl
    where
      by : (x : Bool) → (a == b) ≡ x → x ≡ false
      by true e = absurd (differ ((Decides-eqb a b).0 e))
      by false e = refl

  not_found : (may_end : Bool) (parts : List Part) → list_any (λ p. is_from begin p.from) parts ≡ false → with_list may_end begin close parts ≡ parts
  not_found may_end [] none = refl
  not_found may_end (p ∷ parts) none = by (is_from begin p.from) none (not_found may_end parts)
    where
      by : (x : Bool) → (x || list_any (λ q. is_from begin q.from) parts) ≡ false
          → (list_any (λ q. is_from begin q.from) parts ≡ false → with_list may_end begin close parts ≡ parts)
          → (if x then [] else p ∷ front_of begin parts) ++ inside may_end close (if x then p ∷ parts else rest_of begin parts) ≡ p ∷ parts
      by true e more = absurd (false≢true (sym e))
      by false e more = ap (λ (l : List Part). p ∷ l) (more e)

  -- what holds of the parts behind a place, as far as the list is ahead
  abbrev Found : Bool → Prior → Bool → ℕ → List TextPiece → List Part → Type 0
  Found may_end s b n pieces parts = (i k : ℕ) (after : Bool) → Ahead n pieces i k after → (b ≡ true → after ≡ true) → Has close parts
      → Assembled s b n pieces (with_list may_end begin close parts)

  pub found : (may_end : Bool) (s : Prior) (b : Bool) (n : ℕ) (pieces : List TextPiece) (parts : List Part) → Assembled s b n pieces parts → Cuts pieces
      → (i k : ℕ) (after : Bool) → Ahead n pieces i k after → (b ≡ true → after ≡ true) → Has close parts
      → Assembled s b n pieces (with_list may_end begin close parts)
  found may_end _ _ _ _ _ (made.done s b n) cuts i k after ahead guarded has = made.done s b n
  found may_end _ _ _ _ _ (made.more s b n pieces p parts new off first is) cuts i k after ahead guarded has =
      by (is_from begin p.from) refl
      (found may_end s b n pieces parts is cuts i k after ahead guarded (has_rest close p parts (ap (is_from close) new.from) has))
    where
      by : (x : Bool) → is_from begin p.from ≡ x → Assembled s b n pieces (with_list may_end begin close parts)
          → Assembled s b n pieces ((if x then [] else p ∷ front_of begin parts) ++ inside may_end close (if x then p ∷ parts else rest_of begin parts))
      by true e rest = absurd (false≢true (sym (ap (is_from begin) new.from) ∙ e))
      by false e rest = made.more s b n pieces p (with_list may_end begin close parts) new off first rest
  found may_end _ _ _ _ _ (made.keep s b n r rs parts is) cuts i k after ahead guarded has =
      by (n == begin) refl (found may_end (prior_of r.kind) (after_stray r.kind b) (n + 1) rs parts is cuts.1)
    where
      still : Has close parts
      still = has_rest close (old_part n r) parts (other n close (not_close n r rs i k after ahead)) has

      by : (x : Bool) → (n == begin) ≡ x → Found may_end (prior_of r.kind) (after_stray r.kind b) (n + 1) rs parts → Assembled s b n (r ∷ rs)
          ((if x then [] else old_part n r ∷ front_of begin parts) ++ inside may_end close (if x then old_part n r ∷ parts else rest_of begin parts))
      by true e more =
          let in_it = enter n r rs i k after ahead ((Decides-eqb n begin).0 e) in
          made.keep s b n r rs (without_commas may_end (front_of close parts) ++ rest_of close parts)
          (in_list close may_end (prior_of r.kind) (after_stray r.kind b) (n + 1) rs parts is cuts.1 in_it.left (after_stray r.kind after) in_it.region
          (guarded_more close r.kind b after guarded) still)
      by false e more =
          let next = later n r rs i k after ahead (λ same. false≢true (sym e ∙ (Decides-eqb n begin).1 same)) in
          made.keep s b n r rs (with_list may_end begin close parts)
          (more next.i next.k (after_stray r.kind after) next.ahead
          (guarded_more close r.kind b after guarded) still)
  found may_end _ _ _ _ _ (made.drop s b n r rs parts off begins is) cuts i k after ahead guarded has =
      by (n == begin) refl (found may_end gone false (n + 1) rs parts is cuts.1)
    where
      by : (x : Bool) → (n == begin) ≡ x → Found may_end gone false (n + 1) rs parts → Assembled s b n (r ∷ rs) (with_list may_end begin close parts)
      by true e more =
          let first = (Decides-eqb n begin).0 e in
          made.drop s b n r rs (with_list may_end begin close parts) off begins
          (subst (Assembled gone false (n + 1) rs) (sym (not_found may_end parts (none_less gone false (n + 1) rs parts is begin (omega arith)))) is)
      by false e more =
          let next = later n r rs i k after ahead (λ same. false≢true (sym e ∙ (Decides-eqb n begin).1 same)) in
          made.drop s b n r rs (with_list may_end begin close parts) off begins
          (more next.i next.k (after_stray r.kind after) next.ahead (λ f. absurd (false≢true f)) has)
  found may_end _ _ _ _ _ (made.cut s b n r rs parts text off blank of begins is) cuts i k after ahead guarded has =
      by (n == begin) refl (found may_end gone false (n + 1) rs parts is cuts.1)
    where
      still : Has close parts
      still = has_rest close (cut_part n text) parts (other n close (not_close n r rs i k after ahead)) has

      by : (x : Bool) → (n == begin) ≡ x → Found may_end gone false (n + 1) rs parts → Assembled s b n (r ∷ rs)
          ((if x then [] else cut_part n text ∷ front_of begin parts) ++ inside may_end close (if x then cut_part n text ∷ parts else rest_of begin parts))
      by true e more =
          let in_it = enter n r rs i k after ahead ((Decides-eqb n begin).0 e) in
          made.cut s b n r rs (without_commas may_end (front_of close parts) ++ rest_of close parts) text off blank of begins
          (in_list close may_end gone false (n + 1) rs parts is cuts.1 in_it.left (after_stray r.kind after) in_it.region (λ f. absurd (false≢true f)) still)
      by false e more =
          let next = later n r rs i k after ahead (λ same. false≢true (sym e ∙ (Decides-eqb n begin).1 same)) in
          made.cut s b n r rs (with_list may_end begin close parts) text off blank of begins
          (more next.i next.k (after_stray r.kind after) next.ahead (λ f. absurd (false≢true f)) still)
