-- The first gap of a plus line is as long as its lead.
use Rattle.std.proofs.Common.{◌≡◌, ℕ, suc, zero, Bool, true, false, ◌&&◌, refl, sym, ap, ◌∙◌, true≢false, List, [], ◌∷◌, map}
use Rattle.std.proofs.Common.{length, Option, Some, None, nat_eq, arith}
use Rattle.std.specs.List.{list_all}
use Rattle.std.proofs.lemmas.Bool.Decides.{nat_tests}
use Rattle.smpl_patch.specs.declared.pattern.VarDecl.{VarDecl}
use Rattle.smpl_patch.specs.declared.pattern.PatToken.{PatToken}
use Rattle.smpl_patch.specs.declared.pattern.PlusLine.{PlusLine}
use Rattle.smpl_patch.specs.declared.pattern.PlusBlock.{PlusBlock}
use Rattle.smpl_patch.specs.Sound.{leads}
use Rattle.smpl_lexer.specs.declared.text.BodyLine.{BodyLine}
use Rattle.smpl_meta.specs.declared.patterns.Placed.{Placed}
use Rattle.smpl_meta.specs.Patterns.{pattern_tokens}
use Rattle.smpl_plus.specs.declared.anchors.Anchor.{Anchor}
use Rattle.smpl_plus.specs.declared.anchors.Anchor.TheVariants.{Before, After}
use Rattle.smpl_plus.specs.Blocks.{Block, lead_of, IsPlusLine, ArePlusLines, ArePlusBlocks, blocks_of}
use Rattle.smpl_plus.specs.Anchors.{anchor_of, bare, with_before, with_after, changed, with_block, with_blocks, AreAnchored}
use Rattle.sound_laws.specs.SmplSound.Parts.{leads_block, leads_token}
use Rattle.sound_laws.proofs.SmplSound.ExportLemmas.{both-true}

same-number : (n : ℕ) → nat_eq n n ≡ true
same-number n = grind (arith, nat_tests)

own-lead : (gaps : List (List ℕ)) → leads (lead_of gaps) gaps ≡ true
own-lead [] = refl
own-lead (gap ∷ gaps) = same-number (length gap)

line-leads : (vars : List VarDecl) (l : BodyLine) (p : PlusLine) → IsPlusLine vars l p → leads p.lead p.gaps ≡ true
line-leads vars l p is = ap (λ (n : ℕ). leads n p.gaps) is.lead ∙ own-lead p.gaps

lines-lead : (vars : List VarDecl) (ls : List BodyLine) (ps : List PlusLine) → ArePlusLines vars ls ps
    → list_all (λ (p : PlusLine). leads p.lead p.gaps) ps ≡ true
lines-lead vars [] [] a = refl
lines-lead vars [] (p ∷ ps) a = absurd a
lines-lead vars (l ∷ ls) [] a = absurd a
lines-lead vars (l ∷ ls) (p ∷ ps) a =
    both-true (leads p.lead p.gaps) (list_all (λ (q : PlusLine). leads q.lead q.gaps) ps) (line-leads vars l p a.0) (lines-lead vars ls ps a.1)

-- ---- tokens

front-true : (a b : Bool) → (a && b) ≡ true → a ≡ true
front-true true b e = refl
front-true false b e = absurd (true≢false (sym e))

back-true : (a b : Bool) → (a && b) ≡ true → b ≡ true
back-true true b e = e
back-true false b e = absurd (true≢false (sym e))

abbrev pub AllLead : List PatToken → Type 0
AllLead [] = Unit {0}
AllLead (t ∷ ts) = (leads_token t ≡ true) × AllLead ts

bare-lead : (ps : List Placed) → AllLead (map bare ps)
bare-lead [] = tt
bare-lead (p ∷ ps) = (refl, bare-lead ps)

changed-lead : (f : PatToken → PatToken) → ((t : PatToken) → leads_token t ≡ true → leads_token (f t) ≡ true)
    → (n : ℕ) (ts : List PatToken) → AllLead ts → AllLead (changed f n ts)
changed-lead f keeps n [] a = tt
changed-lead f keeps zero (t ∷ ts) a = (keeps t a.0, a.1)
changed-lead f keeps (suc n) (t ∷ ts) a = (a.0, changed-lead f keeps n ts a.1)

before-lead : (c : PlusBlock) → leads_block (Some c) ≡ true → (t : PatToken) → leads_token t ≡ true → leads_token (with_before c t) ≡ true
before-lead c h t e = both-true (leads_block (Some c)) (leads_block t.after) h (back-true (leads_block t.before) (leads_block t.after) e)

after-lead : (c : PlusBlock) → leads_block (Some c) ≡ true → (t : PatToken) → leads_token t ≡ true → leads_token (with_after c t) ≡ true
after-lead c h t e = both-true (leads_block t.before) (leads_block (Some c)) (front-true (leads_block t.before) (leads_block t.after) e) h

block-lead : (ts : List PatToken) (o : Option Anchor) (c : PlusBlock) → leads_block (Some c) ≡ true → AllLead ts → AllLead (with_block ts o c)
block-lead ts None c h a = a
block-lead ts (Some (Before n)) c h a = changed-lead (with_before c) (before-lead c h) n ts a
block-lead ts (Some (After n)) c h a = changed-lead (with_after c) (after-lead c h) n ts a

blocks-lead : (vars : List VarDecl) (ps : List Placed) (ts : List PatToken) (bs : List Block) (cs : List PlusBlock) → ArePlusBlocks vars bs cs → AllLead ts
    → AllLead (with_blocks ps ts bs cs)
blocks-lead vars ps ts [] cs a l = l
blocks-lead vars ps ts (b ∷ bs) [] a l = l
blocks-lead vars ps ts (b ∷ bs) (c ∷ cs) a l =
    blocks-lead vars ps (with_block ts (anchor_of ps b) c) bs cs a.1 (block-lead ts (anchor_of ps b) c (lines-lead vars b.lines c.lines a.0.lines) l)

all-lead : (ts us : List PatToken) → ts ≡ us → AllLead us → list_all leads_token ts ≡ true
all-lead ts us e a = ap (list_all leads_token) e ∙ every us a
  where
    every : (vs : List PatToken) → AllLead vs → list_all leads_token vs ≡ true
    every [] a = refl
    every (v ∷ vs) a = both-true (leads_token v) (list_all leads_token vs) a.0 (every vs a.1)

pub anchored-lead : (vars : List VarDecl) (rule : ℕ) (body : List BodyLine) (tokens : List PatToken)
    → AreAnchored vars rule body tokens → list_all leads_token tokens ≡ true
anchored-lead vars rule body tokens a =
    let ps = pattern_tokens vars body in
    all-lead tokens (with_blocks ps (map bare ps) (blocks_of ps body) a.blocks) a.are
    (blocks-lead vars ps (map bare ps) (blocks_of ps body) a.blocks a.lines (bare-lead ps))
