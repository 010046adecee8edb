-- In a sound patch, each line of plus code has as many gaps as tokens.
use Rattle.std.proofs.Common.{◌≡◌, ◌==◌, ◌&&◌, ℕ, true, refl, arith, nat_eq, Option, None, Some, List, [], ◌∷◌, length}
use Rattle.std.specs.List.{list_all, AllByRecursion}
use Rattle.std.proofs.lemmas.Bool.Decides.{nat_tests, Decides-eqb}
use Rattle.c_terms.specs.declared.token.Token.{Token}
use Rattle.smpl_patch.specs.declared.pattern.VarDecl.{VarDecl}
use Rattle.smpl_patch.specs.declared.pattern.VarKind.TheVariants.{Position}
use Rattle.smpl_patch.specs.declared.pattern.PatToken.{PatToken}
use Rattle.smpl_patch.specs.declared.pattern.PlusLine.{PlusLine}
use Rattle.smpl_patch.specs.declared.pattern.PlusBlock.{PlusBlock}
use Rattle.smpl_patch.specs.declared.rule.Rule.{Rule}
use Rattle.smpl_patch.specs.declared.rule.Patch.{Patch}
use Rattle.smpl_patch.specs.Sound.{declares, is_plus_token, is_gap, leads, is_sound_line, is_sound_block, is_sound_token, IsSound}
use Rattle.edit_marks.specs.Edits.{HaveEvenBlocks}
use Rattle.edit_marks.specs.Even.{is_even_line, is_even_side, is_even_token}
use Rattle.edit_marks.proofs.EvenLemmas.{blocks_even}
use Rattle.rule_laws.proofs.TestLemmas.{and-left, and-right, and-both, sound-each}

same-count : (n m : ℕ) → nat_eq n m ≡ true → (n == m) ≡ true
same-count n m e = let same : n ≡ m = grind (arith, nat_tests) in (Decides-eqb n m).1 same

module _ (vars : List VarDecl) where
  even-line : (l : PlusLine) → is_sound_line vars l ≡ true → is_even_line l ≡ true
  even-line l e =
      let words = list_all (λ (t : Token). is_plus_token vars t.kind t.text) l.tokens in
      let count = nat_eq (length l.gaps) (length l.tokens) in
      let rest = list_all is_gap l.gaps && leads l.lead l.gaps in
      same-count (length l.gaps) (length l.tokens) (and-left count rest (and-right words (count && rest) e))

  even-lines : (ls : List PlusLine) → list_all (is_sound_line vars) ls ≡ true → list_all is_even_line ls ≡ true
  even-lines [] e = refl
  even-lines (l ∷ ls) e =
      let first = is_sound_line vars l in
      let later = list_all (is_sound_line vars) ls in
      and-both (is_even_line l) (list_all is_even_line ls) (even-line l (and-left first later e)) (even-lines ls (and-right first later e))

  even-side : (b : Option PlusBlock) → is_sound_block vars b ≡ true → is_even_side b ≡ true
  even-side None e = refl
  even-side (Some b) e = even-lines b.lines e

  even-token : (p : PatToken) → is_sound_token vars p ≡ true → is_even_token p ≡ true
  even-token p e =
      let places = list_all (λ x. declares vars x Position) p.positions in
      let before = is_sound_block vars p.before in
      let after = is_sound_block vars p.after in
      let blocks = and-right places (before && after) e in
      and-both (is_even_side p.before) (is_even_side p.after) (even-side p.before (and-left before after blocks))
      (even-side p.after (and-right before after blocks))

  even-tokens : (ps : List PatToken) → list_all (is_sound_token vars) ps ≡ true → list_all is_even_token ps ≡ true
  even-tokens [] e = refl
  even-tokens (p ∷ ps) e =
      let first = is_sound_token vars p in
      let later = list_all (is_sound_token vars) ps in
      and-both (is_even_token p) (list_all is_even_token ps) (even-token p (and-left first later e)) (even-tokens ps (and-right first later e))

-- of each rule of a sound patch
abbrev pub Even : Rule → Type 0
Even r = HaveEvenBlocks r.tokens

pub patch-even : (patch : Patch) → IsSound patch → AllByRecursion Even patch.rules
patch-even patch s =
    sound-each Even (λ earlier r h. blocks_even r.tokens (even-tokens r.vars r.tokens h.tokens)) [] patch.rules s.rules
