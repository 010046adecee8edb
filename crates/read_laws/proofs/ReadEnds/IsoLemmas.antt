-- A file of isomorphisms is read or has a first fault.
use Rattle.std.proofs.Common.{◌≡◌, ◌<◌, ◌≤◌, ℕ, zero, suc, Bool, true, false, true≢false, Some, List, [], ◌∷◌, length, inl, inr}
use Rattle.std.proofs.Common.{refl, sym, ap, ◌∙◌, subst, arith}
use Rattle.smpl_patch.specs.declared.rule.Iso.{Iso}
use Rattle.smpl_patch.specs.declared.pattern.VarDecl.{VarDecl}
use Rattle.smpl_lexer.specs.declared.token.PatchToken.{PatchToken}
use Rattle.smpl_lexer.specs.Tokens.{is_word}
use Rattle.std.specs.Prelude.{codes, ◌&&◌, ◌||◌}
use Rattle.iso_file.specs.declared.fault.IsoFault.{IsoFault}
use Rattle.iso_file.specs.declared.fault.IsoFault.TheVariants as fault
use Rattle.iso_file.specs.Lines.{put, groups, filled, AreLinesOf}
use Rattle.iso_file.specs.Blocks.{is_header, header_next, begin, parts, blocks}
use Rattle.iso_file.specs.Lost.{Loses, Before, FirstLost}
use Rattle.iso_file.specs.Isos.{IsIso, first_word, IsBlockFault, AreIsos, IsFirstBlockFault, most_bytes, AreIsosOf, IsFileFault}
use Rattle.iso_file.specs.Isos.IsBlockFault.{other_word, of_no_form, lost}
use Rattle.iso_file.specs.Isos.IsFileFault.{too_long, in_block}
use Rattle.read_laws.proofs.ReadEnds.PieceLemmas.{CutLaw, iso_cut}
use Rattle.read_laws.proofs.ReadEnds.TextLemmas.{order}

-- ---- the least number

abbrev IsLeast : (ℕ → Type 0) → ℕ → Type 0
IsLeast P n = P n × ((k : ℕ) → k < n → P k → ⊥)

none_below : (P : ℕ → Type 0) → (((n : ℕ) × IsLeast P n) → ⊥) → (n k : ℕ) → k < n → P k → ⊥
none_below P absent zero k lt p = absurd (omega (arith, lt))
none_below P absent (suc n) k lt p = absent (k, (p, λ j less q. none_below P absent n j (omega (arith, less, lt)) q))

least : (P : ℕ → Type 0) (n : ℕ) → P n → (((m : ℕ) × IsLeast P m) → ⊥) → ⊥
least P n p absent = none_below P absent (suc n) n (omega arith) p

-- ---- a pair of sides that loses a variable

module _ (vars : List VarDecl) (sides : List (List PatchToken)) (arrows : List Bool) where
  abbrev LosesAt : ℕ → ℕ → Type 0
  LosesAt i j = (at : ℕ) × Loses vars sides arrows i j at

  abbrev LosesFrom : ℕ → Type 0
  LosesFrom i = (j : ℕ) × LosesAt i j

  not_less : (i j : ℕ) → ((k : ℕ) → k < i → LosesFrom k → ⊥) → ((l : ℕ) → l < j → LosesAt i l → ⊥) → (k l n : ℕ) → Before k l i j
      → Loses vars sides arrows k l n → ⊥
  not_less i j first second k l n (inl less) is = first k less (l, (n, is))
  not_less i j first second k l n (inr same) is = second l same.1 (n, subst (λ (m : ℕ). Loses vars sides arrows m l n) same.0 is)

  lost_some : (i j at : ℕ) → Loses vars sides arrows i j at → ((n : ℕ) → FirstLost vars sides arrows n → ⊥) → ⊥
  lost_some i j at is absent =
      least LosesFrom i (j, (at, is)) (λ a.
      least (LosesAt a.0) a.1.0.0 a.1.0.1 (λ b.
      absent b.1.0.0 (record { i = a.0; j = b.0; loses = b.1.0.1; least = not_less a.0 b.0 a.1.1 b.1.1 })))

-- ---- a block

module _ (block : List (List PatchToken)) (t : PatchToken) (first : first_word block ≡ Some t) (accept : (iso : Iso) → IsIso block iso → ⊥)
    (refuse : (f : IsoFault) → IsBlockFault block f → ⊥) where
  block_by : (b : Bool) → is_word (codes "Expression") t ≡ b → ⊥
  block_by false e = refuse (fault.NotExpression t.at) (other_word t first (λ is. true≢false (sym is ∙ e)))
  block_by true e =
      refuse (fault.BadIso t.at) (of_no_form t first e (λ iso sides form.
      accept iso (record {
        sides = sides;
        form = form;
        keeps = λ i j at loses. lost_some iso.vars sides iso.both i j at loses (λ n is. refuse (fault.VariableLost n) (lost t iso sides n first e form is));
      })))

  block_end : ⊥
  block_end = block_by (is_word (codes "Expression") t) refl

-- ---- the first word of each block

abbrev HaveWords : List (List (List PatchToken)) → Type 0
HaveWords [] = Unit {0}
HaveWords (b ∷ bs) = ((t : PatchToken) × (first_word b ≡ Some t)) × HaveWords bs

-- each line has tokens
abbrev AllFilled : {A : Type 0} → List (List A) → Type 0
AllFilled [] = Unit {0}
AllFilled ([] ∷ gs) = ⊥
AllFilled ((a ∷ g) ∷ gs) = AllFilled gs

filled_all : {A : Type 0} (gs : List (List A)) → AllFilled (filled gs)
filled_all [] = tt
filled_all ([] ∷ gs) = filled_all gs
filled_all ((a ∷ g) ∷ gs) = filled_all gs

-- so it is in each block
abbrev AllLines : List (List (List PatchToken)) → Type 0
AllLines [] = Unit {0}
AllLines (b ∷ bs) = AllFilled b × AllLines bs

begin_lines : (b : Bool) (gs : List (List (List PatchToken))) → AllLines gs → AllLines (begin b gs)
begin_lines true gs h = (tt, h)
begin_lines false gs h = h

put_lines : (t : PatchToken) (l : List PatchToken) (gs : List (List (List PatchToken))) → AllLines gs → AllLines (put (t ∷ l) gs)
put_lines t l [] h = (tt, tt)
put_lines t l (g ∷ gs) h = (h.0, h.1)

parts_lines : (seen : Bool) (ls : List (List PatchToken)) → AllFilled ls → AllLines (parts seen ls)
parts_lines seen [] h = (tt, tt)
parts_lines seen ([] ∷ ls) h = absurd h
parts_lines seen ((t ∷ l) ∷ ls) h =
    begin_lines ((seen || is_header (t ∷ l)) && header_next ls) (put (t ∷ l) (parts (seen || is_header (t ∷ l)) ls))
    (put_lines t l (parts (seen || is_header (t ∷ l)) ls) (parts_lines (seen || is_header (t ∷ l)) ls h))

filled_words : (gs : List (List (List PatchToken))) → AllLines gs → HaveWords (filled gs)
filled_words [] h = tt
filled_words ([] ∷ gs) h = filled_words gs h.1
filled_words (([] ∷ ls) ∷ gs) h = absurd h.0
filled_words (((t ∷ l) ∷ ls) ∷ gs) h = ((t, refl), filled_words gs h.1)

-- ---- all blocks

wrong_later : (b : List (List PatchToken)) (bs : List (List (List PatchToken))) (iso : Iso) (f : IsoFault) → IsIso b iso → IsFirstBlockFault bs f
    → IsFirstBlockFault (b ∷ bs) f
wrong_later b bs iso f is w = record {
  before = b ∷ w.before;
  block = w.block;
  after = w.after;
  all_are = ap (λ (l : List (List (List PatchToken))). b ∷ l) w.all_are;
  isos = iso ∷ w.isos;
  fine = (is, w.fine);
  wrong = w.wrong;
}

blocks_from : (bs : List (List (List PatchToken))) → HaveWords bs → ((isos : List Iso) → AreIsos bs isos → ⊥)
    → ((f : IsoFault) → IsFirstBlockFault bs f → ⊥) → ⊥
blocks_from [] words accept refuse = accept [] tt
blocks_from (b ∷ bs) words accept refuse =
    block_end b words.0.0 words.0.1
    (λ iso is. blocks_from bs words.1 (λ isos are. accept (iso ∷ isos) (is, are)) (λ f w. refuse f (wrong_later b bs iso f is w)))
    (λ f is. refuse f (record { before = []; block = b; after = bs; all_are = refl; isos = []; fine = tt; wrong = is }))

-- ---- the file

module _ (law : CutLaw) (bytes : List ℕ) (accept : (isos : List Iso) → AreIsosOf bytes isos → ⊥) (refuse : (f : IsoFault) → IsFileFault bytes f → ⊥) where
  short_end : length bytes ≤ most_bytes → ⊥
  short_end short =
      let cut = iso_cut law bytes in
      let lines : List (List PatchToken) = filled (groups 0 cut.pieces) in
      let are : AreLinesOf bytes lines = record { pieces = cut.pieces; text = cut.joins; cut = cut.cut; lines_are = refl } in
      blocks_from (blocks lines) (filled_words (parts false lines) (parts_lines false lines (filled_all (groups 0 cut.pieces))))
      (λ isos is. accept isos (record { short = short; lines = lines; lines_are = are; isos_are = is }))
      (λ f w. refuse f (in_block short lines are w))

  pub isos_end : ⊥
  isos_end = elim (order (length bytes) most_bytes) [
    | inl short ↦ short_end short
    | inr long ↦ refuse fault.TooLong (too_long long)
  ]
