-- Plus code is read in one way, and keeps the marks and the positions of tokens.
use Rattle.std.proofs.Common.{◌≡◌, ℕ, zero, suc, List, [], ◌∷◌, ◌++◌, map, Option, Some, None, refl, sym, ap, ◌∙◌}
use Rattle.c_terms.specs.declared.token.Token.{Token}
use Rattle.c_lexer.specs.declared.state.Kind.{Kind}
use Rattle.c_lexer.specs.First.{IsFirst}
use Rattle.smpl_patch.specs.declared.fault.PatchFault.{PatchFault}
use Rattle.smpl_patch.specs.declared.pattern.VarDecl.{VarDecl}
use Rattle.smpl_patch.specs.declared.pattern.PlusLine.{PlusLine}
use Rattle.smpl_patch.specs.declared.pattern.PlusBlock.{PlusBlock}
use Rattle.smpl_patch.specs.declared.pattern.PatToken.{PatToken}
use Rattle.smpl_lexer.specs.declared.text.BodyLine.{BodyLine}
use Rattle.smpl_lexer.proofs.Once.{first_once, none_empty}
use Rattle.smpl_meta.specs.declared.patterns.Placed.{Placed}
use Rattle.smpl_meta.specs.Patterns.{pattern_tokens}
use Rattle.smpl_plus.specs.declared.anchors.Anchor.{Anchor}
use Rattle.smpl_plus.specs.declared.anchors.Anchor.TheVariants.{Before, After}
use Rattle.smpl_plus.specs.Blocks.{Block, blocks_of, Piece, joined, Cut, gaps_from, lead_of, AreGaps, IsPlusLine, ArePlusLines, ArePlusBlocks}
use Rattle.smpl_plus.specs.Anchors.{AreAnchored, first_phase, plus_faults, anchor_of, bare, with_before, with_after, changed, with_block, with_blocks}

-- ---- lines

empty_first : (k : Kind) (xs A : List ℕ) → IsFirst k xs A → [] ≡ xs ++ A → ⊥
empty_first k [] A one e = none_empty k A one
empty_first k (x ∷ xs) A one e = absurd (cc)

pieces_once : (ps qs : List Piece) → Cut ps → Cut qs → joined ps ≡ joined qs → ps ≡ qs
pieces_once [] [] one other e = refl
pieces_once [] (q ∷ qs) one other e = absurd (empty_first q.kind q.text (joined qs) other.0 e)
pieces_once (p ∷ ps) [] one other e = absurd (empty_first p.kind p.text (joined ps) one.0 (sym e))
pieces_once (p ∷ ps) (q ∷ qs) one other e =
    let same = first_once p.kind q.kind p.text q.text (joined ps) (joined qs) e one.0 other.0 in
    let rest = pieces_once ps qs one.1 other.1 same.1.1 in
    let piece : p ≡ q = ap (λ (k : Kind). record { kind = k; text = p.text }) same.0
    ∙ ap (λ (t : List ℕ). record { kind = q.kind; text = t }) same.1.0 in
    ap (λ (x : Piece). x ∷ ps) piece ∙ ap (λ (l : List Piece). q ∷ l) rest

gaps_once : (text : List ℕ) (g h : List (List ℕ)) → AreGaps text g → AreGaps text h → g ≡ h
gaps_once text g h one other = one.are
    ∙ (ap (gaps_from []) (pieces_once one.pieces other.pieces one.cut other.cut (one.joins ∙ sym other.joins)) ∙ sym other.are)

abbrev made : ℕ → List Token → List (List ℕ) → PlusLine
made lead tokens gaps = record { lead = lead; tokens = tokens; gaps = gaps }

module _ (vars : List VarDecl) where
  line_once : (l : BodyLine) (p q : PlusLine) → IsPlusLine vars l p → IsPlusLine vars l q → p ≡ q
  line_once l p q one other =
      let gaps = gaps_once (l.text ++ 10 ∷ []) p.gaps q.gaps one.gaps other.gaps in
      ap (λ (n : ℕ). made n p.tokens p.gaps) (one.lead ∙ (ap lead_of gaps ∙ sym other.lead))
      ∙ (ap (λ (ts : List Token). made q.lead ts p.gaps) (one.tokens ∙ sym other.tokens) ∙ ap (made q.lead q.tokens) gaps)

  lines_once : (ls : List BodyLine) (ps qs : List PlusLine) → ArePlusLines vars ls ps → ArePlusLines vars ls qs → ps ≡ qs
  lines_once [] [] [] one other = refl
  lines_once [] [] (q ∷ qs) one other = absurd other
  lines_once [] (p ∷ ps) qs one other = absurd one
  lines_once (l ∷ ls) [] qs one other = absurd one
  lines_once (l ∷ ls) (p ∷ ps) [] one other = absurd other
  lines_once (l ∷ ls) (p ∷ ps) (q ∷ qs) one other =
      ap (λ (x : PlusLine). x ∷ ps) (line_once l p q one.0 other.0)
      ∙ ap (λ (x : List PlusLine). q ∷ x) (lines_once ls ps qs one.1 other.1)

  blocks_once : (bs : List Block) (cs ds : List PlusBlock) → ArePlusBlocks vars bs cs → ArePlusBlocks vars bs ds → cs ≡ ds
  blocks_once [] [] [] one other = refl
  blocks_once [] [] (d ∷ ds) one other = absurd other
  blocks_once [] (c ∷ cs) ds one other = absurd one
  blocks_once (b ∷ bs) [] ds one other = absurd one
  blocks_once (b ∷ bs) (c ∷ cs) [] one other = absurd other
  blocks_once (b ∷ bs) (c ∷ cs) (d ∷ ds) one other =
      let lines = lines_once b.lines c.lines d.lines one.0.lines other.0.lines in
      let many = one.0.many ∙ sym other.0.many in
      let block : c ≡ d = λ i. record { many = many i; lines = lines i } in
      ap (λ (x : PlusBlock). x ∷ cs) block ∙ ap (λ (x : List PlusBlock). d ∷ x) (blocks_once bs cs ds one.1 other.1)

-- ---- tokens

pub tokens_once : (vars : List VarDecl) (rule : ℕ) (body : List BodyLine) (one other : List PatToken)
    → AreAnchored vars rule body one → AreAnchored vars rule body other → one ≡ other
tokens_once vars rule body one other a b =
    let ps = pattern_tokens vars body in
    a.are ∙ (ap (with_blocks (pattern_tokens vars body) (map bare (pattern_tokens vars body))
    (blocks_of (pattern_tokens vars body) body))
    (blocks_once vars (blocks_of (pattern_tokens vars body) body) a.blocks b.blocks a.lines b.lines) ∙ sym b.are)

pub tokens_or_fault : (vars : List VarDecl) (rule : ℕ) (body : List BodyLine) (tokens : List PatToken) (f : PatchFault)
    → AreAnchored vars rule body tokens → first_phase (plus_faults vars rule body) ≡ Some f → ⊥
tokens_or_fault vars rule body tokens f a is = let none : None ≡ Some f = sym a.faultless ∙ is in absurd (cc)

-- what plus code doesn't change
module _ {A : Type 0} (g : PatToken → A) (before : (c : PlusBlock) (t : PatToken) → g (with_before c t) ≡ g t)
    (after : (c : PlusBlock) (t : PatToken) → g (with_after c t) ≡ g t) where
  changed_keeps : (f : PatToken → PatToken) → ((t : PatToken) → g (f t) ≡ g t) → (n : ℕ) (ts : List PatToken)
      → map g (changed f n ts) ≡ map g ts
  changed_keeps f same n [] = refl
  changed_keeps f same zero (t ∷ ts) = ap (λ (a : A). a ∷ map g ts) (same t)
  changed_keeps f same (suc n) (t ∷ ts) = ap (λ (rest : List A). g t ∷ rest) (changed_keeps f same n ts)

  block_keeps : (ts : List PatToken) (o : Option Anchor) (c : PlusBlock) → map g (with_block ts o c) ≡ map g ts
  block_keeps ts None c = refl
  block_keeps ts (Some (Before n)) c = changed_keeps (with_before c) (before c) n ts
  block_keeps ts (Some (After n)) c = changed_keeps (with_after c) (after c) n ts

  blocks_keep : (ps : List Placed) (ts : List PatToken) (bs : List Block) (cs : List PlusBlock)
      → map g (with_blocks ps ts bs cs) ≡ map g ts
  blocks_keep ps ts [] cs = refl
  blocks_keep ps ts (b ∷ bs) [] = refl
  blocks_keep ps ts (b ∷ bs) (c ∷ cs) = blocks_keep ps (with_block ts (anchor_of ps b) c) bs cs ∙ block_keeps ts (anchor_of ps b) c

  bare_keeps : (ps : List Placed) → map g (map bare ps) ≡ map (λ (p : Placed). g (bare p)) ps
  bare_keeps [] = refl
  bare_keeps (p ∷ ps) = ap (λ (rest : List A). g (bare p) ∷ rest) (bare_keeps ps)

  pub anchored_keep : (vars : List VarDecl) (rule : ℕ) (body : List BodyLine) (tokens : List PatToken)
      → AreAnchored vars rule body tokens
      → map g tokens ≡ map (λ (p : Placed). g (bare p)) (pattern_tokens vars body)
  anchored_keep vars rule body tokens a = ap (λ (ts : List PatToken). map g ts) a.are
      ∙ (blocks_keep (pattern_tokens vars body) (map bare (pattern_tokens vars body)) (blocks_of (pattern_tokens vars body) body) a.blocks
      ∙ bare_keeps (pattern_tokens vars body))
