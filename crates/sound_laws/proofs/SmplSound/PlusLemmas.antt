-- Properties of each block of plus code, whichever token it is attached to.
use Rattle.std.proofs.Common.{◌≡◌, ℕ, suc, zero, ◌+◌, ◌≤◌, ◌==◌, Bool, true, false, ◌&&◌, refl, ap, ◌∙◌, subst, arith, List, []}
use Rattle.std.proofs.Common.{◌∷◌, ◌++◌, map, length, Option, Some, None, if◌then◌else◌}
use Rattle.std.specs.List.{list_all}
use Rattle.std.proofs.lemmas.List.{length-append}
use Rattle.smpl_patch.specs.declared.pattern.VarDecl.{VarDecl}
use Rattle.smpl_patch.specs.declared.pattern.PatToken.{PatToken}
use Rattle.smpl_patch.specs.declared.pattern.PlusBlock.{PlusBlock}
use Rattle.smpl_lexer.specs.declared.text.BodyLine.{BodyLine}
use Rattle.smpl_meta.specs.declared.patterns.Placed.{Placed}
use Rattle.smpl_meta.specs.Patterns.{pattern_tokens}
use Rattle.smpl_plus.specs.declared.anchors.Anchor.{Anchor}
use Rattle.smpl_plus.specs.declared.anchors.Anchor.TheVariants.{Before, After}
use Rattle.smpl_plus.specs.Blocks.{Block, Blocks, has_tokens, ended, with_plus, put_line, put_lines, no_blocks, blocks_of, ArePlusLines, ArePlusBlocks}
use Rattle.smpl_plus.specs.Anchors.{anchor_of, bare, with_before, with_after, changed, with_block, with_blocks, AreAnchored}
use Rattle.sound_laws.proofs.SmplSound.BoolLemmas.{both-true, front-true, back-true}
use Rattle.sound_laws.proofs.SmplSound.LineLemmas.{AllLines}

-- the test passes where there is a block
abbrev pub at_block : (PlusBlock → Bool) → Option PlusBlock → Bool
at_block ok None = true
at_block ok (Some c) = ok c

abbrev pub at_token : (PlusBlock → Bool) → PatToken → Bool
at_token ok t = at_block ok t.before && at_block ok t.after

-- where it is a plus line
abbrev pub WhenPlus : (BodyLine → Type 0) → BodyLine → Type 0
WhenPlus P l = (l.sign == 43) ≡ true → P l

module _ (P : BodyLine → Type 0) where
  record Has (n : ℕ) (b : Block) : Type 0 where
    lines : AllLines P b.lines
    short : length b.lines ≤ n

  abbrev AllHave : ℕ → List Block → Type 0
  AllHave n [] = Unit {0}
  AllHave n (b ∷ bs) = Has n b × AllHave n bs

  abbrev LastHas : ℕ → Option Block → Type 0
  LastHas n None = Unit {0}
  LastHas n (Some b) = Has n b

  more_has : (n m : ℕ) (b : Block) → n ≤ m → Has n b → Has m b
  more_has n m b h s = record { lines = s.lines; short = omega (arith, s.short, h) }

  more_have : (n m : ℕ) (bs : List Block) → n ≤ m → AllHave n bs → AllHave m bs
  more_have n m [] h s = tt
  more_have n m (b ∷ bs) h s = (more_has n m b h s.0, more_have n m bs h s.1)

  more_last : (n m : ℕ) (o : Option Block) → n ≤ m → LastHas n o → LastHas m o
  more_last n m None h s = tt
  more_last n m (Some b) h s = more_has n m b h s

  ended_have : (n : ℕ) (bs : List Block) (o : Option Block) → AllHave n bs → LastHas n o → AllHave n (bs ++ ended o)
  ended_have n [] None a l = tt
  ended_have n [] (Some b) a l = (l, tt)
  ended_have n (b ∷ bs) o a l = (a.0, ended_have n bs o a.1 l)

  lines_last : (ls : List BodyLine) (l : BodyLine) → AllLines P ls → P l → AllLines P (ls ++ l ∷ [])
  lines_last [] l a h = (h, tt)
  lines_last (k ∷ ls) l a h = (a.0, lines_last ls l a.1 h)

  plus_has : (n line : ℕ) (o : Option Block) (l : BodyLine) → LastHas n o → P l → Has (suc n) (with_plus o line l)
  plus_has n line None l a h = record { lines = (h, tt); short = omega arith }
  plus_has n line (Some b) l a h = record { lines = lines_last b.lines l a.lines h; short = omega (arith, a.short, length-append b.lines (l ∷ [])) }

  record Gathered (n : ℕ) (b : Blocks) : Type 0 where
    whole : AllHave n b.whole
    last : LastHas n b.last

  line_gathered : (ps : List Placed) (n line : ℕ) (b : Blocks) (l : BodyLine) → WhenPlus P l → Gathered n b → Gathered (suc n) (put_line ps line b l)
  line_gathered ps n line b l h g = by (l.sign == 43) h (has_tokens ps line)
    where
      by : (x : Bool) → (x ≡ true → P l) → (y : Bool)
          → Gathered (suc n) (if x then record { whole = b.whole; last = Some (with_plus b.last line l) } else
          (if y then record { whole = b.whole ++ ended b.last; last = None } else b))
      by true k y = record { whole = more_have n (suc n) b.whole (omega arith) g.whole; last = plus_has n line b.last l g.last (k refl) }
      by false k true = record { whole = more_have n (suc n) (b.whole ++ ended b.last) (omega arith) (ended_have n b.whole b.last g.whole g.last); last = tt }
      by false k false = record { whole = more_have n (suc n) b.whole (omega arith) g.whole; last = more_last n (suc n) b.last (omega arith) g.last }

  lines_gathered : (ps : List Placed) (n line : ℕ) (b : Blocks) (ls : List BodyLine) → AllLines (WhenPlus P) ls → Gathered n b
      → Gathered (n + length ls) (put_lines ps line b ls)
  lines_gathered ps n line b [] a g = subst (λ (m : ℕ). Gathered m b) (omega arith) g
  lines_gathered ps n line b (l ∷ ls) a g =
      subst (λ (m : ℕ). Gathered m (put_lines ps line b (l ∷ ls))) (omega arith)
      (lines_gathered ps (suc n) (suc line) (put_line ps line b l) ls a.1 (line_gathered ps n line b l a.0 g))

  blocks_have : (ps : List Placed) (ls : List BodyLine) → AllLines (WhenPlus P) ls → AllHave (0 + length ls) (blocks_of ps ls)
  blocks_have ps ls a =
      let g = lines_gathered ps 0 0 no_blocks ls a (record { whole = tt; last = tt }) in
      let b = put_lines ps 0 no_blocks ls in ended_have (0 + length ls) b.whole b.last g.whole g.last

  -- ---- at tokens

  module _ (vars : List VarDecl) (ok : PlusBlock → Bool) (n : ℕ) (gives : (b : Block) (c : PlusBlock)
      → ArePlusLines vars b.lines c.lines → AllLines P b.lines → length b.lines ≤ n → ok c ≡ true) where
    abbrev AllPass : List PatToken → Type 0
    AllPass [] = Unit {0}
    AllPass (t ∷ ts) = (at_token ok t ≡ true) × AllPass ts

    bare_pass : (ps : List Placed) → AllPass (map bare ps)
    bare_pass [] = tt
    bare_pass (p ∷ ps) = (refl, bare_pass ps)

    changed_pass : (f : PatToken → PatToken) → ((t : PatToken) → at_token ok t ≡ true → at_token ok (f t) ≡ true)
        → (k : ℕ) (ts : List PatToken) → AllPass ts → AllPass (changed f k ts)
    changed_pass f keeps k [] a = tt
    changed_pass f keeps zero (t ∷ ts) a = (keeps t a.0, a.1)
    changed_pass f keeps (suc k) (t ∷ ts) a = (a.0, changed_pass f keeps k ts a.1)

    before_pass : (c : PlusBlock) → ok c ≡ true → (t : PatToken) → at_token ok t ≡ true → at_token ok (with_before c t) ≡ true
    before_pass c h t e = both-true (ok c) (at_block ok t.after) h (back-true (at_block ok t.before) (at_block ok t.after) e)

    after_pass : (c : PlusBlock) → ok c ≡ true → (t : PatToken) → at_token ok t ≡ true → at_token ok (with_after c t) ≡ true
    after_pass c h t e = both-true (at_block ok t.before) (ok c) (front-true (at_block ok t.before) (at_block ok t.after) e) h

    block_pass : (ts : List PatToken) (o : Option Anchor) (c : PlusBlock) → ok c ≡ true → AllPass ts → AllPass (with_block ts o c)
    block_pass ts None c h a = a
    block_pass ts (Some (Before k)) c h a = changed_pass (with_before c) (before_pass c h) k ts a
    block_pass ts (Some (After k)) c h a = changed_pass (with_after c) (after_pass c h) k ts a

    blocks_pass : (ps : List Placed) (ts : List PatToken) (bs : List Block) (cs : List PlusBlock) → ArePlusBlocks vars bs cs
        → AllHave n bs → AllPass ts → AllPass (with_blocks ps ts bs cs)
    blocks_pass ps ts [] cs a h l = l
    blocks_pass ps ts (b ∷ bs) [] a h l = l
    blocks_pass ps ts (b ∷ bs) (c ∷ cs) a h l =
        blocks_pass ps (with_block ts (anchor_of ps b) c) bs cs a.1 h.1 (block_pass ts (anchor_of ps b) c (gives b c a.0.lines h.0.lines h.0.short) l)

    every_pass : (ts : List PatToken) → AllPass ts → list_all (at_token ok) ts ≡ true
    every_pass [] a = refl
    every_pass (t ∷ ts) a = both-true (at_token ok t) (list_all (at_token ok) ts) a.0 (every_pass ts a.1)

    -- each block that stands at a token passes the test
    pub anchored_pass : (rule : ℕ) (body : List BodyLine) (tokens : List PatToken) → AreAnchored vars rule body tokens
        → AllLines (WhenPlus P) body → length body ≤ n → list_all (at_token ok) tokens ≡ true
    anchored_pass rule body tokens a h le =
        let ps = pattern_tokens vars body in
        let have = more_have (0 + length body) n (blocks_of ps body) (omega (arith, le)) (blocks_have ps body h) in
        ap (list_all (at_token ok)) a.are ∙ every_pass (with_blocks ps (map bare ps) (blocks_of ps body) a.blocks)
        (blocks_pass ps (map bare ps) (blocks_of ps body) a.blocks a.lines have (bare_pass ps))
