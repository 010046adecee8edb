-- The text of a patch is read or has a first fault, and so have its headers and declarations.
use Rattle.std.proofs.Common.{◌≡◌, ◌<◌, ◌≤◌, ◌⊎◌, ℕ, suc, Option, Some, None, IfSome, List, [], ◌∷◌, ◌++◌, length, take, drop}
use Rattle.std.proofs.Common.{slice_get, inl, inr, refl, sym, subst, arith, append_assoc, append-nil}
use Rattle.smpl_patch.specs.declared.fault.PatchFault.{PatchFault}
use Rattle.smpl_patch.specs.declared.fault.PatchFault.TheVariants as fault
use Rattle.smpl_patch.specs.Faults.{first_of}
use Rattle.smpl_lexer.specs.declared.section.Section.{Section}
use Rattle.smpl_lexer.specs.declared.section.Section.TheVariants as section
use Rattle.smpl_lexer.specs.declared.text.RuleText.{RuleText}
use Rattle.smpl_lexer.specs.declared.text.PatchText.{PatchText}
use Rattle.smpl_lexer.specs.Lines.{Line, lines_from, at_sign, begins_with}
use Rattle.smpl_lexer.specs.Sections.{role_in, section_after, skipped, has_signs}
use Rattle.smpl_lexer.specs.CutLines.{CutLine, AreCutLines}
use Rattle.smpl_lexer.specs.Texts.{text_faults, text_of, most_bytes, AreLinesOf, IsTextOf, IsTextFault}
use Rattle.smpl_lexer.proofs.Readings.{no_first}
use Rattle.smpl_meta.specs.declared.head.RuleHead.{RuleHead}
use Rattle.smpl_meta.specs.declared.item.Item.{Item}
use Rattle.smpl_meta.specs.Decls.{vars_of, AreAnswers}
use Rattle.smpl_meta.specs.Heads.{head_faults, IsHead, IsHeadFault, AreHeads, IsFirstHeadFault}
use Rattle.smpl_meta.specs.Shunting.{head_of}
use Rattle.smpl_meta.proofs.HeadLemmas.{head_is}
use Rattle.read_laws.proofs.ReadEnds.PieceLemmas.{CutLaw, line_cut}
use Rattle.read_laws.proofs.ReadEnds.DeclLemmas.{answers_some}

pub order : (a b : ℕ) → (a ≤ b) ⊎ (b < a)
order a b = grind arith

-- ---- lines

module _ (law : CutLaw) where
  cut_lines : (s : Section) (ls : List Line) → (cs : List CutLine) × AreCutLines s ls cs
  cut_lines s [] = ([], tt)
  cut_lines s (l ∷ ls) =
      let role = role_in s (begins_with at_sign l.bytes) in
      let cut = line_cut law (has_signs role l.bytes) (drop (skipped role l.bytes) l.bytes) in
      let one : CutLine = record { role = role; line = l; pieces = cut.pieces } in
      let more = cut_lines (section_after role) ls in
      (one ∷ more.0, (refl, (refl, (record { text = cut.joins; cut = cut.cut }, more.1))))

  -- ---- the text

  text_by : (bytes : List ℕ) (cs : List CutLine) → AreLinesOf bytes cs → (first : Option PatchFault) → first_of (text_faults (length bytes) cs) ≡ first
      → ((text : PatchText) × IsTextOf bytes text) ⊎ ((f : PatchFault) × IsTextFault bytes f)
  text_by bytes cs are None e =
      inl (text_of (length bytes) cs, record { lines = cs; are = are; faultless = no_first (text_faults (length bytes) cs) e; is = refl })
  text_by bytes cs are (Some f) e = inr (f, IsTextFault.first cs are e)

  pub text_end : (bytes : List ℕ) → ((text : PatchText) × IsTextOf bytes text) ⊎ ((f : PatchFault) × IsTextFault bytes f)
  text_end bytes = elim (order (length bytes) most_bytes) [
    | inr long ↦ inr (fault.PatchTooLong, IsTextFault.too_long long)
    | inl short ↦
        let cut = cut_lines section.Before (lines_from 0 bytes) in
        text_by bytes cut.0 (record { short = short; cut = cut.1 }) (first_of (text_faults (length bytes) cut.0)) refl
  ]

-- ---- headers and declarations

module _ (text : PatchText) where
  -- the heads of rules before a number, and a first fault of the rule of this number
  record Wrong (earlier : List RuleHead) (rs : List RuleText) : Type 0 where
    rule : ℕ
    within : rule < length rs
    heads : List RuleHead
    before : AreHeads text earlier (take rule rs) heads
    fault : PatchFault
    here : IfSome (slice_get rs rule) (λ r. IsHeadFault text.virtuals (earlier ++ heads) r fault)

  wrong_here : (earlier : List RuleHead) (r : RuleText) (rs : List RuleText) (f : PatchFault) → IsHeadFault text.virtuals earlier r f → Wrong earlier (r ∷ rs)
  wrong_here earlier r rs f is = record {
    rule = 0;
    within = omega arith;
    heads = [];
    before = tt;
    fault = f;
    here = subst (λ (hs : List RuleHead). IsHeadFault text.virtuals hs r f) (sym (append-nil earlier)) is;
  }

  wrong_later : (earlier : List RuleHead) (r : RuleText) (rs : List RuleText) (h : RuleHead) → IsHead text.virtuals earlier (length earlier) r h
      → Wrong (earlier ++ h ∷ []) rs → Wrong earlier (r ∷ rs)
  wrong_later earlier r rs h is w = record {
    rule = suc w.rule;
    within = omega (arith, w.within);
    heads = h ∷ w.heads;
    before = (is, w.before);
    fault = w.fault;
    here = subst (λ (hs : List RuleHead). IfSome (slice_get rs w.rule) (λ q. IsHeadFault text.virtuals hs q w.fault))
        (append_assoc earlier (h ∷ []) w.heads) w.here;
  }

  -- heads, or a first fault: it is impossible that there is neither
  abbrev Ends : List RuleHead → List RuleText → Type 0
  Ends earlier rs = ((hs : List RuleHead) → AreHeads text earlier rs hs → ⊥) → (Wrong earlier rs → ⊥) → ⊥

  heads_by : (earlier : List RuleHead) (r : RuleText) (rs : List RuleText) → ((h : RuleHead) → Ends (earlier ++ h ∷ []) rs)
      → (answers : List (Option (List Item))) → AreAnswers r.decls answers
      → (first : Option PatchFault) → first_of (head_faults text.virtuals earlier answers r) ≡ first → Ends earlier (r ∷ rs)
  heads_by earlier r rs later answers read (Some f) e accept refuse =
      refuse (wrong_here earlier r rs f (record { answers = answers; read = read; first = e }))
  heads_by earlier r rs later answers read None e accept refuse =
      let vars = vars_of earlier (length earlier) answers in
      let h = head_of earlier r vars in
      let is = head_is text.virtuals earlier (length earlier) answers r vars h read e refl refl in
      later h (λ hs are. accept (h ∷ hs) (is, are)) (λ w. refuse (wrong_later earlier r rs h is w))

  heads_from : (earlier : List RuleHead) (rs : List RuleText) → Ends earlier rs
  heads_from earlier [] accept refuse = accept [] tt
  heads_from earlier (r ∷ rs) accept refuse =
      answers_some r.decls (λ answers read.
      heads_by earlier r rs (λ h. heads_from (earlier ++ h ∷ []) rs) answers read (first_of (head_faults text.virtuals earlier answers r)) refl accept refuse)

  pub heads_end : ((hs : List RuleHead) → AreHeads text [] text.rules hs → ⊥) → ((f : PatchFault) → IsFirstHeadFault text f → ⊥) → ⊥
  heads_end accept refuse =
      heads_from [] text.rules accept
      (λ w. refuse w.fault (record { rule = w.rule; within = w.within; heads = w.heads; before = w.before; here = w.here }))
