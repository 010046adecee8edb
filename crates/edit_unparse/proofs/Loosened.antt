-- The new text's pieces are loose.
use Rattle.std.proofs.Common.{◌≡◌, ◌≤◌, ◌+◌, ◌&&◌, ℕ, Bool, true, false, not, refl, sym, ap, ◌∙◌, inl, inr, arith, List, []}
use Rattle.std.proofs.Common.{◌∷◌, ◌++◌, append_assoc, take, subst}
use Rattle.std.specs.Prelude.{Option, Some, None, if◌then◌else◌}
use Rattle.std.proofs.lemmas.Bool.{false≢true}
use Rattle.c_terms.specs.declared.token.TokenKind.{TokenKind}
use Rattle.c_lexer.specs.declared.state.Kind.TheVariants as kind
use Rattle.c_lexer.specs.declared.piece.PieceKind.{PieceKind}
use Rattle.c_lexer.specs.declared.piece.PieceKind.TheVariants.{Word, Blank, Comment, Line}
use Rattle.c_lexer.specs.Pieces.{TextPiece, text_of, kind_of_piece}
use Rattle.c_lexer.specs.Lexes.{Cuts, id_after}
use Rattle.c_lexer.specs.Beside.{IsOfKind}
use Rattle.c_lexer.specs.Loose.{Loose}
use Rattle.edit_marks.specs.declared.edit_conflict.edit.Edit.{Edit}
use Rattle.edit_marks.specs.declared.edit_conflict.edit.Side.TheVariants.{Before, After}
use Rattle.c_show.specs.Joint.{runs_together}
use Rattle.edit_unparse.specs.Output.{Part, left_of, is_word, space, needs_space, were_beside, added, inserted, is_removed}
use Rattle.edit_unparse.specs.Output.{kept, old_part, token_parts, parts_at, placed}
use Rattle.edit_unparse.specs.Fair.{Stands, after_stray, StrayStays, StraysStay}
use Rattle.edit_unparse.proofs.Beside.{plain, after, Good, Free, free_step, old_step, ends_before}
use Rattle.edit_unparse.proofs.Placing.{New, AllNew, new_beside, through, Head, news_first, take_front, of_first, heads}
use Rattle.edit_unparse.proofs.Placing.{dot_after, dot_word, Apart, Next, Ready, new_apart, gone_apart, apart_more}
use Rattle.edit_unparse.proofs.Placing.{word_not_blank, stray_token, plain_or_stray, back_stray}

no_gap : (q : Part) (from : Option ℕ) (text : List ℕ) → q.piece.kind ≡ Blank → needs_space (left_of q) from text ≡ false
no_gap q from text blank = λ i. is_word (blank i) && (not (were_beside q.from from) && runs_together q.piece.text text)

-- after blanks the next text begins as its first piece
after_blank : (q : Part) (n : ℕ) (r : TextPiece) (more : List Part) → q.piece.kind ≡ Blank → IsOfKind r
    → take 1 (text_of (after q (old_part n r ∷ more))) ≡ take 1 r.text
after_blank q n r more blank of =
    (λ i. take 1 (text_of ((if no_gap q (Some n) r.text blank i then space ∷ [] else []) ++ r ∷ after (old_part n r) more)))
    ∙ take_front r (text_of (after (old_part n r) more)) of

non_stray : (k : PieceKind) (b : Bool) → kind_of_piece k ≡ Some kind.Stray → after_stray k b ≡ true
non_stray (Word a id) b e = stray_token a id e
non_stray Blank b e = absurd cc
non_stray Comment b e = absurd cc
non_stray Line b e = absurd cc

number_least : (n m : ℕ) → Some n ≡ Some m → n ≤ m
number_least n m e = let same : n ≡ m = cc in omega arith

module _ (edits : List Edit) (plain_texts : (token : ℕ) → AllNew (added (inserted Before token edits)) × AllNew (added (inserted After token edits))) where
  back_next : (pieces : List TextPiece) (token n : ℕ) (q : Part) → Cuts pieces → StraysStay edits true token pieces
      → q.piece.kind ≡ Blank → take 1 (text_of (after q (placed edits token n pieces))) ≡ take 1 (text_of pieces)
  back_next [] token n q cuts stay blank = refl
  back_next (r ∷ rs) token n q cuts stay blank = by r.kind stay.0
    where
      of_r : IsOfKind r
      of_r = of_first r (text_of rs) cuts.0

      by : (k : PieceKind) → StrayStays k edits true token
          → take 1 (text_of (after q (parts_at k edits token n r ++ placed edits (id_after r.kind token) (n + 1) rs))) ≡ take 1 (r.text ++ text_of rs)
      by (Word a id) stands =
          let st = stands.0 refl in
          let is : token_parts edits token n r ≡ old_part n r ∷ added (inserted After token edits) =
          λ i. added (st.1 i) ++ (kept (st.0 i) n r ++ added (inserted After token edits)) in
          (λ i. take 1 (text_of (after q (is i ++ placed edits (id_after r.kind token) (n + 1) rs))))
          ∙ after_blank q n r (added (inserted After token edits) ++ placed edits (id_after r.kind token) (n + 1) rs) blank of_r
          ∙ sym (take_front r (text_of rs) of_r)
      by Blank stands = after_blank q n r (placed edits (id_after r.kind token) (n + 1) rs) blank of_r ∙ sym (take_front r (text_of rs) of_r)
      by Comment stands = after_blank q n r (placed edits (id_after r.kind token) (n + 1) rs) blank of_r ∙ sym (take_front r (text_of rs) of_r)
      by Line stands = after_blank q n r (placed edits (id_after r.kind token) (n + 1) rs) blank of_r ∙ sym (take_front r (text_of rs) of_r)

  -- an old piece after what is before it
  module _ (r : TextPiece) (rs : List TextPiece) (n : ℕ) (b : Bool) (cuts : Cuts (r ∷ rs)) where
    abbrev here : Part
    here = old_part n r

    of_here : IsOfKind r
    of_here = of_first r (text_of rs) cuts.0

    here_next : Next here (n + 1) (text_of rs) (after_stray r.kind b)
    here_next = record { number = n; from = refl; before = refl; was = cuts.0; stray = non_stray r.kind b }

    step_old : (p : Part) (parts : List Part) → IsOfKind p.piece → Ready p n (r.text ++ text_of rs) b → Head (n + 1) (text_of rs) parts
        → (b ≡ true → r.kind ≡ Blank → take 1 (text_of (after here parts)) ≡ take 1 (text_of rs)) → Good here parts → Good p (here ∷ parts)
    step_old p parts of ready head back good = elim ready [
      | inl a ↦ free_step p here parts of a.free (a.were (Some n) (λ m e. number_least n m e)) good
      | inr x ↦ old_step p here parts x.number (text_of rs) x.from (ap Some (sym x.before)) of of_here x.was
          (λ dot next. dot_after here n (text_of rs) parts refl (dot_word r of_here dot r.kind refl) head dot next)
          (λ lone blank. back (x.stray (back_stray p.piece of lone)) blank) good
    ]

    module _ (token : ℕ) (rest : List Part) (after_it : (p : Part) → IsOfKind p.piece → Ready p (n + 1) (text_of rs) (after_stray r.kind b) → Good p rest)
        (head : Head (n + 1) (text_of rs) rest) (a : TokenKind) (id : ℕ) (is : r.kind ≡ Word a id) (stays : StrayStays (Word a id) edits b token) where
      abbrev befores : List Part
      befores = added (inserted Before token edits)

      abbrev afters : List Part
      afters = added (inserted After token edits)

      not_blank : r.kind ≡ Blank → ⊥
      not_blank = word_not_blank r.kind a id is

      new_ends : (l : Part) → New l → Good l rest
      new_ends l new = after_it l new.of (inl (new_apart l (n + 1) new))

      kept_here : Good here (afters ++ rest)
      kept_here = through afters (plain_texts token).1 here rest of_here
          (λ none. after_it here of_here (inr here_next))
          (λ some. elim (plain_or_stray a id r is of_here) [ inl stray ↦ absurd (some (ap added (stays.1 stray))) | inr w ↦ inr (inl w) ])
          new_ends

      free_before : (p : Part) → IsOfKind p.piece → Ready p n (r.text ++ text_of rs) b → (Stands edits token → ⊥) → Free p.piece
      free_before p of ready goes = elim ready [
        | inl x ↦ x.free
        | inr x ↦ ends_before p.piece r (text_of rs) of of_here not_blank (λ stray. goes (stays.0 (x.stray stray))) x.was
      ]

      stays_there : (p : Part) → IsOfKind p.piece → Ready p n (r.text ++ text_of rs) b → Good p (befores ++ (here ∷ (afters ++ rest)))
      stays_there p of ready = through befores (plain_texts token).0 p (here ∷ (afters ++ rest)) of
          (λ none. step_old p (afters ++ rest) of ready (news_first (n + 1) (text_of rs) afters rest (plain_texts token).1 head)
          (λ t blank. absurd (not_blank blank)) kept_here)
          (λ some. free_before p of ready (λ stands. some (ap added stands.1)))
          (λ l new. free_step l here (afters ++ rest) new.of new.free (new_beside l.from (Some n) new.from) kept_here)

      goes_there : (p : Part) → IsOfKind p.piece → Ready p n (r.text ++ text_of rs) b → is_removed token edits ≡ true → Good p (befores ++ (afters ++ rest))
      goes_there p of ready gone =
          let free = free_before p of ready (λ stands. false≢true (sym stands.0 ∙ gone)) in
          let apart_from : Apart p (n + 1) = elim ready [ inl x ↦ apart_more p n x | inr x ↦ gone_apart p n (r.text ++ text_of rs) b x free ] in
          through befores (plain_texts token).0 p (afters ++ rest) of
          (λ none. through afters (plain_texts token).1 p rest of (λ none. after_it p of (inl apart_from)) (λ some. free) new_ends)
          (λ some. free)
          (λ l new. through afters (plain_texts token).1 l rest new.of (λ none. new_ends l new) (λ some. new.free) new_ends)

      at_token : (p : Part) → IsOfKind p.piece → Ready p n (r.text ++ text_of rs) b → Good p (token_parts edits token n r ++ rest)
      at_token p of ready = elim (is_removed token edits) as (λ gone. is_removed token edits ≡ gone → Good p ((befores ++ (kept gone n r ++ afters)) ++ rest)) [
        | false ↦ λ e. subst (Good p) (sym (append_assoc befores (here ∷ afters) rest)) (stays_there p of ready)
        | true ↦ λ e. subst (Good p) (sym (append_assoc befores afters rest)) (goes_there p of ready e)
      ] refl

  main : (pieces : List TextPiece) (token n : ℕ) (b : Bool) → Cuts pieces → StraysStay edits b token pieces → (p : Part)
      → IsOfKind p.piece → Ready p n (text_of pieces) b → Good p (placed edits token n pieces)
  main [] token n b cuts stay p of ready = of
  main (r ∷ rs) token n b cuts stay p of ready =
      by r.kind refl stay.0 (main rs (id_after r.kind token) (n + 1) (after_stray r.kind b) cuts.1 stay.1)
    where
      other : ((p : Part) → IsOfKind p.piece → Ready p (n + 1) (text_of rs) (after_stray r.kind b) → Good p (placed edits (id_after r.kind token) (n + 1) rs))
          → Good p (old_part n r ∷ placed edits (id_after r.kind token) (n + 1) rs)
      other after_it =
          step_old r rs n b cuts p (placed edits (id_after r.kind token) (n + 1) rs) of ready
          (heads edits plain_texts rs (id_after r.kind token) (n + 1) cuts.1)
          (λ t blank. back_next rs (id_after r.kind token) (n + 1) (old_part n r) cuts.1
          (subst (λ (s : Bool). StraysStay edits s (id_after r.kind token) rs) (λ i. after_stray (blank i) (t i)) stay.1) blank)
          (after_it (old_part n r) (of_here r rs n b cuts) (inr (here_next r rs n b cuts)))

      by : (k : PieceKind) → r.kind ≡ k → StrayStays k edits b token
          → ((p : Part) → IsOfKind p.piece → Ready p (n + 1) (text_of rs) (after_stray r.kind b) → Good p (placed edits (id_after r.kind token) (n + 1) rs))
          → Good p (parts_at k edits token n r ++ placed edits (id_after r.kind token) (n + 1) rs)
      by (Word a id) is stays after_it =
          at_token r rs n b cuts token (placed edits (id_after r.kind token) (n + 1) rs) after_it
          (heads edits plain_texts rs (id_after r.kind token) (n + 1) cuts.1) a id is stays p of ready
      by Blank is stays after_it = other after_it
      by Comment is stays after_it = other after_it
      by Line is stays after_it = other after_it

  -- nothing comes before everything; blanks there change nothing
  pub loose : (pieces : List TextPiece) → Cuts pieces → StraysStay edits false 0 pieces → Loose (plain None (placed edits 0 0 pieces))
  loose pieces cuts stay = by (placed edits 0 0 pieces)
      (main pieces 0 0 false cuts stay (record { from = None; piece = space }) refl (inl (record { free = inl refl; were = λ o least. refl })))
    where
      by : (parts : List Part) → Good (record { from = None; piece = space }) parts → Loose (plain None parts)
      by [] good = tt
      by (f ∷ fs) good = good.1.1
