-- The parts of the tidied text, before commas go, are assembled from the old pieces.
use Rattle.std.proofs.Common.{◌≡◌, ◌+◌, ◌⊎◌, ℕ, zero, suc, Bool, true, false, refl, sym, ap, ◌∙◌, inl, inr, arith}
use Rattle.std.proofs.Common.{List, [], ◌∷◌, ◌++◌, append_assoc, length, get_or, take, drop, subst}
use Rattle.std.specs.Prelude.{if◌then◌else◌}
use Rattle.std.proofs.lemmas.Bool.{false≢true}
use Rattle.std.proofs.lemmas.List.{drop-drop, get_or-drop}
use Rattle.c_terms.specs.declared.token.TokenKind.{TokenKind}
use Rattle.c_lexer.specs.declared.piece.PieceKind.{PieceKind}
use Rattle.c_lexer.specs.declared.piece.PieceKind.TheVariants.{Word, Blank, Comment, Line}
use Rattle.c_lexer.specs.Pieces.{TextPiece, text_of}
use Rattle.c_lexer.specs.Lexes.{Cuts, id_after}
use Rattle.c_lexer.specs.Blanks.{AreBlanks}
use Rattle.c_lexer.specs.Beside.{IsOfKind}
use Rattle.c_lexer.proofs.Agree.{blank_agrees}
use Rattle.edit_marks.specs.declared.edit_conflict.edit.Side.TheVariants.{After}
use Rattle.edit_marks.specs.declared.edit_conflict.edit.Edit.{Edit}
use Rattle.tidy_flags.specs.declared.lines.LineByte.{LineByte}
use Rattle.tidy_flags.specs.Lines.{blank_bytes, left_of_lines, removed_bytes, solid_bytes}
use Rattle.edit_unparse.specs.declared.tidy.flags.Extent.{Extent}
use Rattle.edit_unparse.specs.declared.tidy.parts.Brace.{Brace}
use Rattle.edit_unparse.specs.Output.{Part, added, inserted, is_removed, is_word, kept, old_part}
use Rattle.edit_unparse.specs.Fair.{Stands, StraysStay, StrayStays, after_stray, is_stray}
use Rattle.edit_unparse.specs.Tidy.Fair.{behind_strays, stray_kind, strays, token_flag}
use Rattle.edit_unparse.specs.Tidy.Places.{is_joined, joint_of, joints_from, plain_after}
use Rattle.edit_unparse.specs.Tidy.Text.{Placement, braces_at, bytes_at, has_insert, line_bytes, tidy_parts, tidy_placed, unless_empty, with_braces}
use Rattle.edit_unparse.proofs.Assembled as made
use Rattle.edit_unparse.proofs.Assembled.{Assembled, Prior, WordFirst, gone, prior_of, solid, word}
use Rattle.edit_unparse.proofs.Beside.{Bytes, bytes_of, no_newline}
use Rattle.edit_unparse.proofs.EmptiedLemmas.{Anchored, Calm, Steady, anchored_after, anchored_steady, blank_first, blank_whole, blanks_left}
use Rattle.edit_unparse.proofs.EmptiedLemmas.{calm_blank, calm_nil, calm_solid, flags_at, flags_more, line_after, steady_after}
use Rattle.edit_unparse.proofs.OwnerLemmas.{both_go}
use Rattle.edit_unparse.proofs.Placing.{AllNew, of_first}

-- new parts before others
news : (s : Prior) (b : Bool) (n : ℕ) (pieces : List TextPiece) (new rest : List Part) → AllNew new → ((new ≡ [] → ⊥) → b ≡ false)
    → (s ≡ solid → WordFirst pieces) → Assembled s b n pieces rest → Assembled s b n pieces (new ++ rest)
news s b n pieces [] rest all off first is = is
news s b n pieces (x ∷ new) rest all off first is =
    made.more s b n pieces x (new ++ rest) all.0 (off (λ e. absurd cc)) first (news s b n pieces new rest all.1 (λ some. off (λ e. absurd cc)) first is)

-- which tokens are joined to the one before them

module _ (edits : List Edit) (gone_ones : List Extent) where
  abbrev next_joined : ℕ → Bool → List TextPiece → Bool
  next_joined token plain pieces = get_or (joints_from edits gone_ones token plain pieces) 0 false

  -- not behind a comment
  unplain : (pieces : List TextPiece) (token : ℕ) → next_joined token false pieces ≡ false
  unplain [] token = refl
  unplain (r ∷ rs) token = by r.kind (unplain rs)
    where
      first : (t : ℕ) → is_joined edits gone_ones false t ≡ false
      first zero = refl
      first (suc t) = refl

      by : (k : PieceKind) → ((t : ℕ) → next_joined t false rs ≡ false)
          → get_or (joint_of k edits gone_ones false token ++ joints_from edits gone_ones (id_after k token) (plain_after k false r.text) rs) 0 false ≡ false
      by (Word a id) more = first token
      by Blank more = more token
      by Comment more = more token
      by Line more = more token

  joined_token : (t : ℕ) (plain : Bool) → is_joined edits gone_ones plain t ≡ true → is_removed t edits ≡ true
  joined_token zero plain e = absurd (false≢true e)
  joined_token (suc m) true e =
      let both = both_go edits gone_ones m (suc m) e in both.1
  joined_token (suc m) false e = absurd (false≢true e)

  -- no token behind a Stray is joined
  joined_strays : (pieces : List TextPiece) (token : ℕ) (plain after : Bool) → StraysStay edits after token pieces → after ≡ true
      → next_joined token plain pieces ≡ true → ⊥
  joined_strays [] token plain after stay on e = false≢true e
  joined_strays (r ∷ rs) token plain after stay on e = by r.kind stay e (joined_strays rs token)
    where
      by : (k : PieceKind) → StrayStays k edits after token × StraysStay edits (after_stray k after) (id_after k token) rs
          → get_or (joint_of k edits gone_ones plain token ++ joints_from edits gone_ones (id_after k token) (plain_after k plain r.text) rs) 0 false ≡ true
          → ((p a : Bool) → StraysStay edits a token rs → a ≡ true → next_joined token p rs ≡ true → ⊥) → ⊥
      by (Word a id) stays f more = false≢true (sym (stays.0.0 on).0 ∙ joined_token token plain f)
      by Blank stays f more = more (plain_after Blank plain r.text) after stays.1 on f
      by Comment stays f more = false≢true (sym (unplain rs token) ∙ f)
      by Line stays f more = false≢true (sym (unplain rs token) ∙ f)

-- lists of flags of tokens, from a token on

flags_next : (all : List Bool) (token : ℕ) (k : PieceKind) (f : Bool) (rest : List Bool)
    → drop token all ≡ token_flag k f ++ rest → drop (id_after k token) all ≡ rest
flags_next all token (Word a id) f rest is = sym (drop-drop 1 token all) ∙ ap (drop 1) is
flags_next all token Blank f rest is = is
flags_next all token Comment f rest is = is
flags_next all token Line f rest is = is

flag_there : (all : List Bool) (token : ℕ) (f : Bool) (rest : List Bool) → drop token all ≡ f ∷ rest → get_or all token false ≡ f
flag_there all token f rest is =
    let same : token + 0 ≡ token = omega arith in
    ap (λ (k : ℕ). get_or all k false) (sym same) ∙ sym (get_or-drop token all 0 false) ∙ ap (λ (l : List Bool). get_or l 0 false) is

abbrev pub news_before : List Brace → Placement → ℕ → List Part
news_before braces at token = added (with_braces (braces_at braces token false) (at.before token))

abbrev pub news_after : List Brace → Placement → ℕ → List Part
news_after braces at token = added (with_braces (braces_at braces token true) (at.after token))

-- A placement of fair edits in this text, and braces: none of what comes is or stands behind a Stray.
pub record Suits (whole : List TextPiece) (edits : List Edit) (joined : List Bool) (braces : List Brace) (at : Placement) : Type 0 where
  pub goes : (token : ℕ) → at.goes token ≡ is_removed token edits
  pub joins : (token : ℕ) → at.joined token ≡ get_or joined token false
  pub befores : (token : ℕ) → AllNew (news_before braces at token)
  pub afters : (token : ℕ) → AllNew (news_after braces at token)
  pub none_before : (token : ℕ) → get_or (behind_strays false whole) token false ≡ true → Stands edits token → news_before braces at token ≡ []
  pub none_after : (token : ℕ) → get_or (strays whole) token false ≡ true → inserted After token edits ≡ [] → news_after braces at token ≡ []

after_more : (k : PieceKind) (b a : Bool) → (b ≡ true → a ≡ true) → after_stray k b ≡ true → after_stray k a ≡ true
after_more (Word kind id) b a more e = e
after_more Blank b a more e = more e
after_more Comment b a more e = e
after_more Line b a more e = e

module _ (whole : List TextPiece) (edits : List Edit) (gone_ones : List Extent) (joined : List Bool) (braces : List Brace) (at : Placement)
    (suits : Suits whole edits joined braces at) where
  abbrev pub lines : ℕ → List TextPiece → List LineByte
  lines token pieces = line_bytes at token pieces

  -- What is known before the pieces that are left: the old piece before them, whether it is or stands behind a Stray that stays,
  -- and which of the bytes are on emptied lines.
  pub record State (token : ℕ) (pieces : List TextPiece) (s : Prior) (b : Bool) (flags : List Bool) : Type 0 where
    pub after : Bool
    pub plain : Bool
    pub line : List LineByte
    pub stay : StraysStay edits after token pieces
    pub guarded : b ≡ true → after ≡ true
    pub flags_are : flags ≡ flags_at line (lines token pieces)
    pub joined_are : drop token joined ≡ joints_from edits gone_ones token plain pieces
    pub behind : drop token (behind_strays false whole) ≡ behind_strays after pieces
    pub strays_are : drop token (strays whole) ≡ strays pieces
    pub anchored : (s ≡ gone → ⊥) → Anchored line
    pub steady : b ≡ true → Steady line
    pub solid_plain : s ≡ solid → plain ≡ false

  joints_next : (token : ℕ) (k : PieceKind) (plain : Bool) (rest : List Bool) → drop token joined ≡ joint_of k edits gone_ones plain token ++ rest
      → drop (id_after k token) joined ≡ rest
  joints_next token (Word a id) plain rest is = sym (drop-drop 1 token joined) ∙ ap (drop 1) is
  joints_next token Blank plain rest is = is
  joints_next token Comment plain rest is = is
  joints_next token Line plain rest is = is

  module _ (token : ℕ) (r : TextPiece) (rs : List TextPiece) (s : Prior) (b : Bool) (flags : List Bool) (st : State token (r ∷ rs) s b flags) where
    abbrev own : List LineByte
    own = bytes_at at r.kind token r.text

    abbrev rest_flags : List Bool
    rest_flags = drop (length own) flags

    next : (t : Prior) (c : Bool) → ((t ≡ gone → ⊥) → Anchored (line_after st.line own)) → (c ≡ true → Steady (line_after st.line own))
        → (c ≡ true → after_stray r.kind st.after ≡ true) → (t ≡ solid → plain_after r.kind st.plain r.text ≡ false)
        → State (id_after r.kind token) rs t c rest_flags
    next t c anchored steady guarded solid_plain = record {
      after = after_stray r.kind st.after;
      plain = plain_after r.kind st.plain r.text;
      line = line_after st.line own;
      stay = st.stay.1;
      guarded = guarded;
      flags_are = ap (drop (length own)) st.flags_are ∙ flags_more st.line own (lines (id_after r.kind token) rs);
      joined_are = joints_next token r.kind st.plain
          (joints_from edits gone_ones (id_after r.kind token) (plain_after r.kind st.plain r.text) rs) st.joined_are;
      behind = flags_next (behind_strays false whole) token r.kind st.after (behind_strays (after_stray r.kind st.after) rs) st.behind;
      strays_are = flags_next (strays whole) token r.kind (stray_kind r.kind) (strays rs) st.strays_are;
      anchored = anchored;
      steady = steady;
      solid_plain = solid_plain;
    }

    -- behind a piece that goes
    next_gone : State (id_after r.kind token) rs gone false rest_flags
    next_gone = next gone false (λ other. absurd (other refl)) (λ e. absurd (false≢true e)) (λ e. absurd (false≢true e)) (λ e. absurd cc)

    -- behind a piece that stays, and is no blank
    next_kept : IsOfKind r → own ≡ solid_bytes r.text → (prior_of r.kind ≡ solid → plain_after r.kind st.plain r.text ≡ false)
        → State (id_after r.kind token) rs (prior_of r.kind) (after_stray r.kind b) rest_flags
    next_kept of bytes solid_plain =
        let y = bytes_of r of in
        let anchored : Anchored (line_after st.line own) =
        subst (λ (l : List LineByte). Anchored (line_after st.line l)) (sym (bytes ∙ ap solid_bytes y.is)) (anchored_after st.line y.byte y.more) in
        next (prior_of r.kind) (after_stray r.kind b) (λ other. anchored) (λ e. anchored_steady (line_after st.line own) anchored)
        (after_more r.kind b st.after st.guarded) solid_plain

    joined_there : at.joined token ≡ next_joined edits gone_ones token st.plain (r ∷ rs)
    joined_there =
        let same : token + 0 ≡ token = omega arith in
        suits.joins token ∙ ap (λ (k : ℕ). get_or joined k false) (sym same) ∙ sym (get_or-drop token joined 0 false)
        ∙ ap (λ (l : List Bool). get_or l 0 false) st.joined_are

    -- a blank of a run stands behind a token that goes
    joined_free : at.joined token ≡ true → (b ≡ false) × (s ≡ solid → ⊥)
    joined_free e = (
      by b refl,
      λ is.
          false≢true (sym (ap (λ (p : Bool). next_joined edits gone_ones token p (r ∷ rs)) (st.solid_plain is) ∙ unplain edits gone_ones (r ∷ rs) token)
          ∙ sym joined_there ∙ e),
    )
      where
        by : (x : Bool) → b ≡ x → b ≡ false
        by false is = is
        by true is = absurd (joined_strays edits gone_ones (r ∷ rs) token st.plain st.after st.stay (st.guarded is) (sym joined_there ∙ e))

  -- behind a Stray no line is emptied
  calm_rest : (pieces : List TextPiece) (token : ℕ) (after : Bool) → Cuts pieces → StraysStay edits after token pieces → after ≡ true
      → Calm (lines token pieces)
  calm_rest [] token after cuts stay on = calm_nil
  calm_rest (r ∷ rs) token after cuts stay on =
      by r.kind refl stay.0 (calm_rest rs (id_after r.kind token) (after_stray r.kind after) cuts.1 stay.1)
    where
      y : Bytes r
      y = bytes_of r (of_first r (text_of rs) cuts.0)

      hard : (ys : List LineByte) → Calm (solid_bytes r.text ++ ys)
      hard ys = subst (λ (l : List ℕ). Calm (solid_bytes l ++ ys)) (sym y.is) (calm_solid y.byte y.more ys)

      by : (k : PieceKind) → r.kind ≡ k → StrayStays k edits after token → (after_stray r.kind after ≡ true → Calm (lines (id_after r.kind token) rs))
          → Calm (bytes_at at k token r.text ++ lines (id_after r.kind token) rs)
      by (Word a id) is stands more =
          let stays : at.goes token ≡ false = suits.goes token ∙ (stands.0 on).0 in
          subst (λ (x : Bool). Calm ((if x then removed_bytes (has_insert at token) r.text else solid_bytes r.text) ++ lines (id_after r.kind token) rs))
          (sym stays) (hard (lines (id_after r.kind token) rs))
      by Blank is stands more =
          let rest = more (ap (λ (k : PieceKind). after_stray k after) is ∙ on) in
          elim (at.joined token) as (λ x. Calm ((if x then [] else blank_bytes r.text) ++ lines (id_after r.kind token) rs)) [
            | true ↦ rest
            | false ↦ calm_blank r.text (lines (id_after r.kind token) rs) rest
          ]
      by Comment is stands more = hard (lines (id_after r.kind token) rs)
      by Line is stands more = hard (lines (id_after r.kind token) rs)

  -- one piece, given what the rest is assembled from
  module _ (token n : ℕ) (r : TextPiece) (rs : List TextPiece) (s : Prior) (b : Bool) (flags : List Bool) (cuts : Cuts (r ∷ rs))
      (st : State token (r ∷ rs) s b flags) (rest : List Part)
      (more : (t : Prior) (c : Bool) → State (id_after r.kind token) rs t c (rest_flags token r rs s b flags st) → Assembled t c (n + 1) rs rest) where
    of_r : IsOfKind r
    of_r = of_first r (text_of rs) cuts.0

    gone_rest : Assembled gone false (n + 1) rs rest
    gone_rest = more gone false (next_gone token r rs s b flags st)

    at_token : (a : TokenKind) (id : ℕ) → r.kind ≡ Word a id → StrayStays (Word a id) edits st.after token
        → Assembled s b n (r ∷ rs) (tidy_parts at added braces (Word a id) flags token n r ++ rest)
    at_token a id is stays =
        subst (Assembled s b n (r ∷ rs)) (sym (append_assoc befores (kept (at.goes token) n r ++ afters) rest
        ∙ ap (λ (l : List Part). befores ++ l) (append_assoc (kept (at.goes token) n r) afters rest)))
        (news s b n (r ∷ rs) befores (kept (at.goes token) n r ++ (afters ++ rest)) (suits.befores token) off_before (λ own. ap is_word is)
        (by (at.goes token) refl))
      where
        befores : List Part
        befores = news_before braces at token

        afters : List Part
        afters = news_after braces at token

        is_behind : st.after ≡ true → get_or (behind_strays false whole) token false ≡ true
        is_behind on =
            flag_there (behind_strays false whole) token st.after (behind_strays (after_stray r.kind st.after) rs)
            (st.behind ∙ ap (λ (k : PieceKind). token_flag k st.after ++ behind_strays (after_stray r.kind st.after) rs) is) ∙ on

        is_stray_there : is_stray a ≡ true → get_or (strays whole) token false ≡ true
        is_stray_there on =
            flag_there (strays whole) token (is_stray a) (strays rs) (st.strays_are ∙ ap (λ (k : PieceKind). token_flag k (stray_kind k) ++ strays rs) is) ∙ on

        off_before : (befores ≡ [] → ⊥) → b ≡ false
        off_before some = off b refl
          where
            off : (x : Bool) → b ≡ x → b ≡ false
            off false e = e
            off true e = absurd (some (suits.none_before token (is_behind (st.guarded e)) (stays.0 (st.guarded e))))

        off_after : (afters ≡ [] → ⊥) → after_stray r.kind b ≡ false
        off_after some = ap (λ (k : PieceKind). after_stray k b) is ∙ off (is_stray a) refl
          where
            off : (x : Bool) → is_stray a ≡ x → is_stray a ≡ false
            off false e = e
            off true e = absurd (some (suits.none_after token (is_stray_there e) (stays.1 e)))

        by : (g : Bool) → at.goes token ≡ g → Assembled s b n (r ∷ rs) (kept g n r ++ (afters ++ rest))
        by false e =
            let bytes : own token r rs s b flags st ≡ solid_bytes r.text =
            (λ i. bytes_at at (is i) token r.text) ∙ ap (λ (x : Bool). if x then removed_bytes (has_insert at token) r.text else solid_bytes r.text) e in
            let st_next = next_kept token r rs s b flags st of_r bytes (λ own. absurd (let both : word ≡ solid = sym (ap prior_of is) ∙ own in cc)) in
            made.keep s b n r rs (afters ++ rest) (news (prior_of r.kind) (after_stray r.kind b) (n + 1) rs afters rest (suits.afters token) off_after
            (λ own. absurd (let both : word ≡ solid = sym (ap prior_of is) ∙ own in cc)) (more (prior_of r.kind) (after_stray r.kind b) st_next))
        by true e =
            made.drop s b n r rs (afters ++ rest) (off b refl) (λ own line. no_line line)
            (news gone false (n + 1) rs afters rest (suits.afters token) (λ some. refl) (λ own. absurd cc) gone_rest)
          where
            off : (x : Bool) → b ≡ x → b ≡ false
            off false f = f
            off true f = absurd (false≢true (sym (stays.0 (st.guarded f)).0 ∙ sym (suits.goes token) ∙ e))

            no_line : take 1 r.text ≡ 10 ∷ [] → ⊥
            no_line line =
                let y = bytes_of r of_r in
                let ten : y.byte ≡ 10 = (let both : y.byte ∷ [] ≡ 10 ∷ [] = sym (ap (take 1) y.is) ∙ line in cc) in
                no_newline r y.byte y.more y.is of_r (λ blank. false≢true (sym (ap is_word blank) ∙ ap is_word is)) ten

    at_blank : r.kind ≡ Blank → Assembled s b n (r ∷ rs) (tidy_parts at added braces Blank flags token n r ++ rest)
    at_blank is = by (at.joined token) refl
      where
        by : (j : Bool) → at.joined token ≡ j
            → Assembled s b n (r ∷ rs) ((if j then [] else unless_empty n Blank (left_of_lines flags r.text)) ++ rest)
        by true e =
            let free = joined_free token r rs s b flags st e in
            made.drop s b n r rs rest free.0 (λ own. absurd (free.1 own)) gone_rest
        by false e = at_flag b refl
          where
            y : Bytes r
            y = bytes_of r of_r

            ys : List LineByte
            ys = lines (id_after r.kind token) rs

            bytes : own token r rs s b flags st ≡ blank_bytes r.text
            bytes = (λ i. bytes_at at (is i) token r.text) ∙ ap (λ (x : Bool). if x then [] else blank_bytes r.text) e

            left : List ℕ
            left = left_of_lines flags r.text

            left_is : left_of_lines flags r.text ≡ left_of_lines (flags_at st.line (blank_bytes r.text ++ ys)) r.text
            left_is = ap (λ (l : List Bool). left_of_lines l r.text) (st.flags_are ∙ ap (λ (l : List LineByte). flags_at st.line (l ++ ys)) bytes)

            are : AreBlanks r.text
            are = ((blank_agrees r.text).0 (subst (λ (k : PieceKind). IsOfKind (record { kind = k; text = r.text })) is of_r)).0

            begins : (s ≡ gone → ⊥) → (take 1 left ≡ y.byte ∷ []) ⊎ ((left ≡ []) × (take 1 r.text ≡ 10 ∷ [] → ⊥))
            begins kept = subst (λ (l : List ℕ). (take 1 l ≡ y.byte ∷ []) ⊎ ((l ≡ []) × (take 1 r.text ≡ 10 ∷ [] → ⊥))) (sym left_is)
                (subst (λ (text : List ℕ). let l = left_of_lines (flags_at st.line (blank_bytes text ++ ys)) text in
                (take 1 l ≡ y.byte ∷ []) ⊎ ((l ≡ []) × (take 1 text ≡ 10 ∷ [] → ⊥))) (sym y.is) (blank_first st.line y.byte y.more ys (st.anchored kept)))

            at_flag : (x : Bool) → b ≡ x → Assembled s b n (r ∷ rs) (unless_empty n Blank (left_of_lines flags r.text) ++ rest)
            at_flag true on =
                let calm = calm_rest rs (id_after r.kind token) (after_stray r.kind st.after) cuts.1 st.stay.1
                (ap (λ (k : PieceKind). after_stray k st.after) is ∙ st.guarded on) in
                let all : left_of_lines flags r.text ≡ r.text = left_is ∙ blank_whole st.line r.text ys (st.steady on) calm in
                let whole_part : unless_empty n Blank r.text ≡ old_part n r ∷ [] =
                (λ i. unless_empty n Blank (y.is i)) ∙ (λ i. old_part n (record { kind = sym is i; text = sym y.is i }) ∷ []) in
                let steady : Steady (line_after st.line (own token r rs s b flags st)) =
                subst (λ (l : List LineByte). Steady (line_after st.line l)) (sym bytes) (steady_after st.line r.text (st.steady on)) in
                let st_next = next token r rs s b flags st (prior_of r.kind) (after_stray r.kind b) (λ other. absurd (other (ap prior_of is))) (λ f. steady)
                (after_more r.kind b st.after st.guarded) (λ own. absurd (let both : gone ≡ solid = sym (ap prior_of is) ∙ own in cc)) in
                subst (λ (l : List Part). Assembled s b n (r ∷ rs) (l ++ rest)) (sym (ap (unless_empty n Blank) all ∙ whole_part))
                (made.keep s b n r rs rest (more (prior_of r.kind) (after_stray r.kind b) st_next))
            at_flag false off = at_left left refl
              where
                at_left : (l : List ℕ) → left_of_lines flags r.text ≡ l → Assembled s b n (r ∷ rs) (unless_empty n Blank l ++ rest)
                at_left [] nothing =
                    made.drop s b n r rs rest off
                    (λ own. elim (begins (λ other. (let both : gone ≡ solid = sym other ∙ own in cc))) [
                      | inl first ↦ absurd (let both : [] ≡ y.byte ∷ [] = ap (take 1) (sym nothing) ∙ first in cc)
                      | inr none ↦ none.1
                    ]) gone_rest
                at_left (x ∷ xs) some =
                    let blanks : AreBlanks (x ∷ xs) = subst AreBlanks (sym left_is ∙ some) (blanks_left r.text are st.line ys) in
                    made.cut s b n r rs rest (x ∷ xs) off is ((blank_agrees (x ∷ xs)).1 (blanks, λ e. absurd cc))
                    (λ kept. elim (begins kept) [
                      | inl first ↦ ap (take 1) (sym some) ∙ first ∙ sym (ap (take 1) y.is)
                      | inr none ↦ absurd (let both : [] ≡ x ∷ xs = sym none.0 ∙ some in cc)
                    ]) gone_rest

    at_solid : own token r rs s b flags st ≡ solid_bytes r.text → (prior_of r.kind ≡ solid → plain_after r.kind st.plain r.text ≡ false)
        → Assembled s b n (r ∷ rs) (old_part n r ∷ rest)
    at_solid bytes plain =
        made.keep s b n r rs rest (more (prior_of r.kind) (after_stray r.kind b) (next_kept token r rs s b flags st of_r bytes plain))

    at_piece : Assembled s b n (r ∷ rs) (tidy_parts at added braces r.kind flags token n r ++ rest)
    at_piece = by r.kind refl st.stay.0
      where
        by : (k : PieceKind) → r.kind ≡ k → StrayStays k edits st.after token
            → Assembled s b n (r ∷ rs) (tidy_parts at added braces k flags token n r ++ rest)
        by (Word a id) is stays = at_token a id is stays
        by Blank is stays = at_blank is
        by Comment is stays = at_solid (λ i. bytes_at at (is i) token r.text) (λ own. ap (λ (k : PieceKind). plain_after k st.plain r.text) is)
        by Line is stays = at_solid (λ i. bytes_at at (is i) token r.text) (λ own. ap (λ (k : PieceKind). plain_after k st.plain r.text) is)

  pub placed_made : (pieces : List TextPiece) (token n : ℕ) (s : Prior) (b : Bool) (flags : List Bool) → Cuts pieces → State token pieces s b flags
      → Assembled s b n pieces (tidy_placed at added braces flags token n pieces)
  placed_made [] token n s b flags cuts st = made.done s b n
  placed_made (r ∷ rs) token n s b flags cuts st =
      at_piece token n r rs s b flags cuts st
      (tidy_placed at added braces (rest_flags token r rs s b flags st) (id_after r.kind token) (n + 1) rs)
      (λ t c next. placed_made rs (id_after r.kind token) (n + 1) t c (rest_flags token r rs s b flags st) cuts.1 next)
