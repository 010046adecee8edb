-- What is anchored at the end of a body.
use Rattle.std.proofs.Common.{◌≡◌, ℕ, suc, ◌+◌, ◌<◌, ◌&&◌, true, false, List, [], ◌∷◌, ◌++◌, length, take, Some, None, refl, sym, ap, ◌∙◌, arith, get_or}
use Rattle.smpl_patch.specs.declared.pattern.VarDecl.{VarDecl}
use Rattle.smpl_patch.specs.declared.pattern.PatToken.{PatToken}
use Rattle.smpl_patch.specs.declared.fault.PatchFault.{PatchFault}
use Rattle.smpl_patch.specs.Faults.{first_of}
use Rattle.std.proofs.lemmas.List.{take_more, length-take-le}
use Rattle.smpl_patch.specs.declared.fault.PatchFault.TheVariants.{StarWithEdit}
use Rattle.smpl_lexer.specs.declared.text.BodyLine.{BodyLine}
use Rattle.smpl_meta.specs.declared.patterns.Placed.{Placed}
use Rattle.smpl_meta.specs.Heads.{has_edit}
use Rattle.smpl_meta.specs.Patterns.{pattern_tokens}
use Rattle.smpl_plus.specs.declared.anchors.Anchoring.{Anchoring}
use Rattle.smpl_plus.specs.Blocks.{Blocks, put_line, put_lines, no_blocks, blocks_of}
use Rattle.smpl_plus.specs.Anchors.{has_star, anchor_faults, first_phase, plus_faults, AreAnchored}
use Rattle.smpl_plus.specs.SoFar.{SoFar}

-- one more line
lines-push : (ps : List Placed) (line : ℕ) (b : Blocks) (ls : List BodyLine) (l : BodyLine)
    → put_lines ps line b (ls ++ l ∷ []) ≡ put_line ps (line + length ls) (put_lines ps line b ls) l
lines-push ps line b [] l = ap (λ (n : ℕ). put_line ps n b l) (omega arith)
lines-push ps line b (k ∷ ls) l =
    lines-push ps (suc line) (put_line ps line b k) ls l
    ∙ ap (λ (n : ℕ). put_line ps n (put_lines ps (suc line) (put_line ps line b k) ls) l) (omega arith)

pub lines-more : (ps : List Placed) (body : List BodyLine) (i k : ℕ) (l : BodyLine) → k ≡ i → i < length body → l ≡ get_or body i l
    → put_line ps k (put_lines ps 0 no_blocks (take i body)) l ≡ put_lines ps 0 no_blocks (take (i + 1) body)
lines-more ps body i k l same within is =
    let longer : take (i + 1) body ≡ take i body ++ l ∷ [] = take_more body i l within ∙ ap (λ (y : BodyLine). take i body ++ y ∷ []) (sym is) in
    let n : 0 + length (take i body) ≡ i = omega (arith, length-take-le i body (omega arith)) in
    ap (λ (j : ℕ). put_line ps j (put_lines ps 0 no_blocks (take i body)) l) same
    ∙ sym (ap (put_lines ps 0 no_blocks) longer ∙ lines-push ps 0 no_blocks (take i body) l
    ∙ ap (λ (k : ℕ). put_line ps k (put_lines ps 0 no_blocks (take i body)) l) n)

-- ---- faults by phases

phase_by : (faults : List PatchFault) → first_phase ([] ∷ faults ∷ []) ≡ first_of faults
phase_by [] = refl
phase_by (f ∷ fs) = refl

pub no-star : (vars : List VarDecl) (rule : ℕ) (body : List BodyLine) → (has_star body && has_edit body) ≡ false
    → first_phase (plus_faults vars rule body) ≡ first_of (anchor_faults (pattern_tokens vars body) (blocks_of (pattern_tokens vars body) body))
no-star vars rule body none = rw none (phase_by (anchor_faults (pattern_tokens vars body) (blocks_of (pattern_tokens vars body) body)))

pub star-first : (vars : List VarDecl) (rule : ℕ) (body : List BodyLine) → (has_star body && has_edit body) ≡ true
    → first_phase (plus_faults vars rule body) ≡ Some (StarWithEdit rule)
star-first vars rule body some = rw some refl

pub anchored-all : (vars : List VarDecl) (rule : ℕ) (body : List BodyLine) (a : Anchoring) (tokens : List PatToken)
    → SoFar vars (pattern_tokens vars body) (record { whole = blocks_of (pattern_tokens vars body) body; last = None }) a
    → (has_star body && has_edit body) ≡ false → a.first ≡ None → tokens ≡ a.tokens.items → AreAnchored vars rule body tokens
anchored-all vars rule body a tokens s star none same = record {
  faultless = no-star vars rule body star ∙ (sym s.first ∙ none);
  blocks = s.blocks;
  lines = s.lines;
  are = same ∙ s.tokens;
}
