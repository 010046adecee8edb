-- The tidied text is cut into the pieces that it was assembled from.
use Rattle.std.proofs.Common.{◌≡◌, ◌≤◌, ◌<◌, ◌+◌, ◌-◌, ◌==◌, ◌&&◌, ◌||◌, ℕ, zero, suc, Bool, true, false, not, refl, sym, ap, ◌∙◌, arith}
use Rattle.std.proofs.Common.{List, [], ◌∷◌, ◌++◌, length, get_or, drop, fold}
use Rattle.std.specs.Prelude.{nat_lt, if◌then◌else◌}
use Rattle.std.specs.List.{list_all, list_any, range_with_len}
use Rattle.std.proofs.lemmas.Bool.{false≢true}
use Rattle.std.proofs.lemmas.Bool.Decides.{Decides-eqb, nat_tests}
use Rattle.std.proofs.lemmas.List.Folds.{list_any-append}
use Rattle.c_lexer.specs.declared.piece.PieceKind.{PieceKind}
use Rattle.c_lexer.specs.declared.piece.PieceKind.TheVariants.{Word, Blank, Comment, Line}
use Rattle.c_lexer.specs.Pieces.{TextPiece, text_of}
use Rattle.c_lexer.specs.Ids.{ids_of}
use Rattle.c_lexer.specs.Lexes.{Cuts, id_after}
use Rattle.edit_marks.specs.declared.edit_conflict.edit.Edit.{Edit}
use Rattle.tidy_flags.specs.declared.signs.Sign.TheVariants as sign
use Rattle.tidy_flags.specs.Lines.{emptied}
use Rattle.tidy_flags.specs.Signs.{is_closing, is_comma, is_opening}
use Rattle.edit_unparse.specs.declared.tidy.commas.CommaList.{CommaList}
use Rattle.edit_unparse.specs.declared.tidy.parts.Brace.{Brace}
use Rattle.edit_unparse.specs.Output.{Part, added, kept, old_part}
use Rattle.edit_unparse.specs.Words.{ReadsAgain}
use Rattle.edit_unparse.specs.Tidy.Commas.{is_from, sign_of, with_list}
use Rattle.edit_unparse.specs.Tidy.Fair.{TidyFair, behind_strays, closings, has_stray, is_fair_list, token_flag}
use Rattle.edit_unparse.specs.Tidy.Lasting.{is_lasting, lasts}
use Rattle.edit_unparse.specs.Tidy.Places.{joints}
use Rattle.edit_unparse.specs.Tidy.Text.{Frame, Placement, braces_at, bytes_at, is_touched, line_bytes, placement_of, stays, tidied_of, tidied_parts}
use Rattle.edit_unparse.specs.Tidy.Text.{tidy_parts, tidy_placed, token_piece, token_pieces, with_braces, with_commas}
use Rattle.edit_unparse.proofs.Again.{both_first, reads_parts}
use Rattle.edit_unparse.proofs.Assembled.{Assembled, assembled_loose, gone}
use Rattle.edit_unparse.proofs.CommasGone.{Has}
use Rattle.edit_unparse.proofs.LastingLemmas.{left_in, list_left}
use Rattle.edit_unparse.proofs.TidyPlaced.{State, placed_made}
use Rattle.edit_unparse.proofs.TidySuits.{fair_suits}
use Rattle.edit_marks.proofs.Rows.{both_second}
use Rattle.edit_unparse.proofs.ListCommas.{found}

-- the closing bracket stays in the text

abbrev lasting_from : ℕ → List Part → Bool
lasting_from close parts = list_any (λ p. is_lasting p && is_from close p.from) parts

any_left : (close : ℕ) (parts : List Part) → lasting_from close parts ≡ list_any (λ p. is_from close p.from) (left_in parts)
any_left close [] = refl
any_left close (p ∷ parts) = elim (is_lasting p) as (λ b. ((b && is_from close p.from) || lasting_from close parts)
    ≡ list_any (λ q. is_from close q.from) (if b then p ∷ left_in parts else left_in parts)) [
      | true ↦ ap (λ (x : Bool). is_from close p.from || x) (any_left close parts)
      | false ↦ any_left close parts
    ]

lasting_has : (close : ℕ) (parts : List Part) → lasting_from close parts ≡ true → Has close parts
lasting_has close [] e = e
lasting_has close (p ∷ parts) e = by (is_lasting p) (is_from close p.from) e (lasting_has close parts)
  where
    by : (a b : Bool) → ((a && b) || lasting_from close parts) ≡ true → (lasting_from close parts ≡ true → Has close parts)
        → (b || list_any (λ q. is_from close q.from) parts) ≡ true
    by true true f more = refl
    by false true f more = refl
    by true false f more = more f
    by false false f more = more f

closing_lasts : (text : List ℕ) → is_closing text ≡ true
    → lasts (if is_opening text then sign.Opening else (if is_closing text then sign.Closing else (if is_comma text then sign.Comma else sign.Token))) ≡ true
closing_lasts text e = by (is_opening text) (is_closing text) e
  where
    by : (o c : Bool) → c ≡ true → lasts (if o then sign.Opening else (if c then sign.Closing else (if is_comma text then sign.Comma else sign.Token))) ≡ true
    by true c f = refl
    by false true f = refl
    by false false f = absurd (false≢true f)

or_true : (b : Bool) → (b || true) ≡ true
or_true true = refl
or_true false = refl

module _ (at : Placement) (braces : List Brace) (close : ℕ) where
  behind_others : (xs ys : List Part) → lasting_from close ys ≡ true → lasting_from close (xs ++ ys) ≡ true
  behind_others xs ys e =
      list_any-append (λ (p : Part). is_lasting p && is_from close p.from) xs ys ∙ ap (λ (b : Bool). lasting_from close xs || b) e
      ∙ or_true (lasting_from close xs)

  before_others : (xs ys : List Part) → lasting_from close xs ≡ true → lasting_from close (xs ++ ys) ≡ true
  before_others xs ys e = list_any-append (λ (p : Part). is_lasting p && is_from close p.from) xs ys ∙ ap (λ (b : Bool). b || lasting_from close ys) e

  closing_stays : (pieces : List TextPiece) (flags : List Bool) (token number k : ℕ) → get_or (token_pieces number pieces) k 0 ≡ close
      → k < length (token_pieces number pieces) → get_or (closings pieces) k false ≡ true → at.goes (token + k) ≡ false
      → lasting_from close (tidy_placed at added braces flags token number pieces) ≡ true
  closing_stays [] flags token number k is within closing stays = absurd (omega arith)
  closing_stays (r ∷ rs) flags token number k is within closing stays =
      by r.kind refl k is within closing stays
      (closing_stays rs (drop (length (bytes_at at r.kind token r.text)) flags) (id_after r.kind token) (number + 1))
    where
      rest : List Part
      rest = tidy_placed at added braces (drop (length (bytes_at at r.kind token r.text)) flags) (id_after r.kind token) (number + 1) rs

      by : (kind : PieceKind) → r.kind ≡ kind → (k : ℕ) → get_or (token_piece kind number ++ token_pieces (number + 1) rs) k 0 ≡ close
          → k < length (token_piece kind number ++ token_pieces (number + 1) rs) → get_or (token_flag kind (is_closing r.text) ++ closings rs) k false ≡ true
          → at.goes (token + k) ≡ false
          → ((j : ℕ) → get_or (token_pieces (number + 1) rs) j 0 ≡ close → j < length (token_pieces (number + 1) rs) → get_or (closings rs) j false ≡ true
          → at.goes (id_after r.kind token + j) ≡ false → lasting_from close rest ≡ true)
          → lasting_from close (tidy_parts at added braces kind flags token number r ++ rest) ≡ true
      by (Word a id) kind zero is within closing stays more =
          let here : at.goes token ≡ false = (let same : token ≡ token + 0 = omega arith in ap at.goes same ∙ stays) in
          let befores = added (with_braces (braces_at braces token false) (at.before token)) in
          let afters = added (with_braces (braces_at braces token true) (at.after token)) in
          let own : (is_lasting (old_part number r) && (number == close)) ≡ true =
          (λ i. (ap (λ (x : PieceKind). lasts (sign_of (old_part number (record { kind = x; text = r.text })))) kind ∙ closing_lasts r.text closing) i
          && (Decides-eqb number close).1 is i) in
          let middle : lasting_from close (kept (at.goes token) number r ++ afters) ≡ true =
          ap (λ (g : Bool). lasting_from close (kept g number r ++ afters)) here ∙ ap (λ (x : Bool). x || lasting_from close afters) own in
          before_others (befores ++ (kept (at.goes token) number r ++ afters)) rest (behind_others befores (kept (at.goes token) number r ++ afters) middle)
      by (Word a id) kind (suc k) is within closing stays more =
          let same : token + suc k ≡ token + 1 + k = omega arith in
          behind_others (tidy_parts at added braces (Word a id) flags token number r) rest
          (more k is (omega arith) closing (ap (λ (x : PieceKind). at.goes (id_after x token + k)) kind ∙ ap at.goes (sym same) ∙ stays))
      by Blank kind k is within closing stays more =
          behind_others (tidy_parts at added braces Blank flags token number r) rest
          (more k is within closing (ap (λ (x : PieceKind). at.goes (id_after x token + k)) kind ∙ stays))
      by Comment kind k is within closing stays more =
          behind_others (tidy_parts at added braces Comment flags token number r) rest
          (more k is within closing (ap (λ (x : PieceKind). at.goes (id_after x token + k)) kind ∙ stays))
      by Line kind k is within closing stays more =
          behind_others (tidy_parts at added braces Line flags token number r) rest
          (more k is within closing (ap (λ (x : PieceKind). at.goes (id_after x token + k)) kind ∙ stays))

-- lists one after another

none_any : (f : ℕ → Bool) (from len : ℕ) → list_any f (range_with_len from len) ≡ false → (j : ℕ) → from ≤ j → j < from + len → f j ≡ false
none_any f from zero e j low high = absurd (omega arith)
none_any f from (suc len) e j low high = by (f from) refl (j == from) refl (none_any f (from + 1) len)
  where
    by : (a : Bool) → f from ≡ a → (x : Bool) → (j == from) ≡ x
        → (list_any f (range_with_len (from + 1) len) ≡ false → (i : ℕ) → from + 1 ≤ i → i < from + 1 + len → f i ≡ false) → f j ≡ false
    by true is x g more = absurd (false≢true (sym e ∙ ap (λ (b : Bool). b || list_any f (range_with_len (from + 1) len)) is))
    by false is true g more = ap f ((Decides-eqb j from).0 g) ∙ is
    by false is false g more =
        let differ : j ≡ from → ⊥ = λ same. false≢true (sym g ∙ (Decides-eqb j from).1 same) in
        let later : from + 1 ≤ j = grind (arith, differ) in
        more (sym (ap (λ (b : Bool). b || list_any f (range_with_len (from + 1) len)) is) ∙ e) j later (omega arith)

less_of : (a b : ℕ) → nat_lt a b ≡ true → a < b
less_of a b e = grind (arith, nat_tests)

not_true : (b : Bool) → not b ≡ true → b ≡ false
not_true true e = absurd (false≢true e)
not_true false e = refl

module _ (pieces : List TextPiece) (at : Placement) (cuts : Cuts pieces) where
  abbrev tokens : List ℕ
  tokens = token_pieces 0 pieces

  lists_made : (lists : List CommaList) (parts : List Part) → list_all (is_fair_list pieces) lists ≡ true
      → ((l : ℕ) → l < length tokens → get_or (closings pieces) l false ≡ true → at.goes l ≡ false → lasting_from (get_or tokens l 0) parts ≡ true)
      → Assembled gone false 0 pieces parts → Assembled gone false 0 pieces (fold (with_commas at tokens) parts lists)
  lists_made [] parts fair stay is = is
  lists_made (l ∷ lists) parts fair stay is =
      lists_made lists (with_commas at tokens parts l) (both_second (is_fair_list pieces l) _ fair) still (by (is_touched at tokens l) refl)
    where
      own : is_fair_list pieces l ≡ true
      own = both_first (is_fair_list pieces l) _ fair

      begin : ℕ
      begin = get_or tokens l.opening 0

      close : ℕ
      close = get_or tokens l.closing 0

      still : (t : ℕ) → t < length tokens → get_or (closings pieces) t false ≡ true → at.goes t ≡ false
          → lasting_from (get_or tokens t 0) (with_commas at tokens parts l) ≡ true
      still t within closing remains =
          any_left (get_or tokens t 0) (with_commas at tokens parts l)
          ∙ ap (list_any (λ (p : Part). is_from (get_or tokens t 0) p.from)) (same (is_touched at tokens l))
          ∙ sym (any_left (get_or tokens t 0) parts) ∙ stay t within closing remains
        where
          same : (b : Bool) → left_in (if b then with_list l.may_end begin close parts else parts) ≡ left_in parts
          same true = list_left l.may_end begin close parts
          same false = refl

      by : (b : Bool) → is_touched at tokens l ≡ b → Assembled gone false 0 pieces (if b then with_list l.may_end begin close parts else parts)
      by false e = is
      by true e =
          let brackets = both_first (stays at tokens l.opening && stays at tokens l.closing) _ e in
          let closing_stays : stays at tokens l.closing ≡ true = both_second (stays at tokens l.opening) _ brackets in
          let within : l.closing < length tokens = less_of l.closing (length tokens) (both_first (nat_lt l.closing (length tokens)) _ closing_stays) in
          let kept_there : at.goes l.closing ≡ false = not_true (at.goes l.closing) (both_second (nat_lt l.closing (length tokens)) _ closing_stays) in
          let order : l.opening < l.closing = less_of l.opening l.closing (both_first (nat_lt l.opening l.closing) _ own) in
          let rest = both_second (nat_lt l.opening l.closing) _ own in
          let closing = both_first (get_or (closings pieces) l.closing false) _ rest in
          let calm : has_stray pieces l ≡ false = not_true (has_stray pieces l) (both_second (get_or (closings pieces) l.closing false) _ rest) in
          found begin close l.may_end gone false 0 pieces parts is cuts l.opening l.closing false
          (record {
            opening = refl;
            closing = refl;
            order = order;
            within = within;
            calm = λ j low high.
                none_any (λ n. get_or (behind_strays false pieces) n false) (l.opening + 1) (l.closing - l.opening) calm j (omega arith) (omega arith);
          }) (λ f. f) (lasting_has close parts (stay l.closing within closing kept_there))

pub tidied_again : (pieces : List TextPiece) (edits : List Edit) (frame : Frame) (next : ℕ) (bytes ids : List ℕ) → Cuts pieces
    → TidyFair pieces edits frame → bytes ≡ text_of (tidied_of pieces edits frame next) → ids ≡ ids_of (tidied_of pieces edits frame next)
    → ReadsAgain bytes ids (tidied_of pieces edits frame next)
tidied_again pieces edits frame next bytes ids cuts fair is are =
    let at = placement_of pieces edits frame in
    let joined = joints edits frame.gone pieces in
    let flags = emptied (line_bytes at 0 pieces) in
    let suits = fair_suits pieces edits frame fair in
    let start : State pieces edits frame.gone joined frame.braces at suits 0 pieces gone false flags = record {
      after = false;
      plain = true;
      line = [];
      stay = fair.fair.strays;
      guarded = λ e. e;
      flags_are = refl;
      joined_are = refl;
      behind = refl;
      strays_are = refl;
      anchored = λ other. absurd (other refl);
      steady = λ e. absurd (false≢true e);
      solid_plain = λ e. absurd cc;
    } in
    let placed = tidy_placed at added frame.braces flags 0 0 pieces in
    let first : Assembled gone false 0 pieces placed =
    placed_made pieces edits frame.gone joined frame.braces at suits pieces 0 0 gone false flags cuts start in
    let all = lists_made pieces at cuts frame.lists placed fair.lists
    (λ l within closing stays. closing_stays at frame.braces (get_or (token_pieces 0 pieces) l 0) pieces flags 0 0 l refl within closing
    (let same : 0 + l ≡ l = omega arith in ap at.goes same ∙ stays)) first in
    reads_parts (tidied_parts added pieces edits frame) next bytes ids (assembled_loose pieces (tidied_parts added pieces edits frame) cuts all) is are
