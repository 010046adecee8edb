-- Blocks that are opened and closed.
use Rattle.std.proofs.Common.{◌≡◌, ℕ, zero, suc, ◌<◌, ◌≤◌, ◌==◌, Bool, true, false, if◌then◌else◌, List, [], ◌∷◌, ◌++◌, map}
use Rattle.std.proofs.Common.{length, Option, Some, None, is_some, refl, sym, ap, ◌∙◌, subst, append_assoc, arith, set, get_or}
use Rattle.std.proofs.lemmas.List.{append-nil, length-append}
use Rattle.std.proofs.lemmas.Bool.{eq-eqb}
use Rattle.std.proofs.lemmas.Bool.Decides.{nat_tests}
use Rattle.smpl_patch.specs.declared.pattern.VarDecl.{VarDecl}
use Rattle.smpl_patch.specs.declared.pattern.PlusLine.{PlusLine}
use Rattle.smpl_patch.specs.declared.pattern.PlusBlock.{PlusBlock}
use Rattle.smpl_patch.specs.declared.pattern.PatToken.{PatToken}
use Rattle.smpl_patch.specs.declared.fault.PatchFault.{PatchFault}
use Rattle.smpl_patch.specs.Faults.{first_from}
use Rattle.smpl_lexer.specs.declared.text.BodyLine.{BodyLine}
use Rattle.smpl_meta.specs.declared.patterns.Placed.{Placed}
use Rattle.smpl_meta.proofs.FirstLemmas.{first_append}
use Rattle.smpl_plus.specs.declared.anchors.Anchor.{Anchor}
use Rattle.smpl_plus.specs.declared.anchors.OpenBlock.{OpenBlock}
use Rattle.smpl_plus.specs.declared.anchors.Anchoring.{Anchoring}
use Rattle.smpl_plus.specs.Outside.{may_anchor}
use Rattle.smpl_plus.specs.Blocks.{Block, Blocks, ended, all_blocks, has_tokens, put_line, with_plus, is_many, IsPlusLine}
use Rattle.smpl_plus.specs.Blocks.{ArePlusLines, IsPlusBlock, ArePlusBlocks}
use Rattle.smpl_plus.specs.Anchors.{tokens_before, place_of_block, anchor_at, anchor_of, no_anchor, differ, other_in, mixed_at}
use Rattle.smpl_plus.specs.Anchors.{block_faults, anchor_faults, bare, changed, with_block, with_blocks}
use Rattle.smpl_plus.specs.SoFar.{IsKept, IsOpen, SoFar}

-- a changed item at a place
pub changed-set : (f : PatToken → PatToken) (n : ℕ) (ts : List PatToken) (d : PatToken) → n < length ts → changed f n ts ≡ set ts n (f (get_or ts n d))
changed-set f n [] d h = absurd (omega arith)
changed-set f zero (t ∷ ts) d h = refl
changed-set f (suc n) (t ∷ ts) d h = ap (λ (l : List PatToken). t ∷ l) (changed-set f n ts d (omega arith))

pub changed_past : (f : PatToken → PatToken) (n : ℕ) (ts : List PatToken) → length ts ≤ n → changed f n ts ≡ ts
changed_past f n [] h = refl
changed_past f zero (t ∷ ts) h = absurd (omega arith)
changed_past f (suc n) (t ∷ ts) h = ap (λ (l : List PatToken). t ∷ l) (changed_past f n ts (omega arith))

-- ---- one more block

blocks-append : (vars : List VarDecl) (bs : List Block) (cs : List PlusBlock) (b : Block) (c : PlusBlock)
    → ArePlusBlocks vars bs cs → IsPlusBlock vars b c → ArePlusBlocks vars (bs ++ b ∷ []) (cs ++ c ∷ [])
blocks-append vars [] [] b c are lines = (lines, tt)
blocks-append vars [] (d ∷ cs) b c are lines = absurd are
blocks-append vars (a ∷ bs) [] b c are lines = absurd are
blocks-append vars (a ∷ bs) (d ∷ cs) b c are lines = (are.0, blocks-append vars bs cs b c are.1 lines)

with_blocks-append : (vars : List VarDecl) (ps : List Placed) (ts : List PatToken) (bs : List Block) (cs : List PlusBlock) (b : Block) (c : PlusBlock)
    → ArePlusBlocks vars bs cs → with_blocks ps ts (bs ++ b ∷ []) (cs ++ c ∷ []) ≡ with_block (with_blocks ps ts bs cs) (anchor_of ps b) c
with_blocks-append vars ps ts [] [] b c are = refl
with_blocks-append vars ps ts [] (d ∷ cs) b c are = absurd are
with_blocks-append vars ps ts (a ∷ bs) [] b c are = absurd are
with_blocks-append vars ps ts (a ∷ bs) (d ∷ cs) b c are = with_blocks-append vars ps (with_block ts (anchor_of ps a) d) bs cs b c are.1

faults-append : (ps : List Placed) (bs : List Block) (b : Block) → anchor_faults ps (bs ++ b ∷ []) ≡ anchor_faults ps bs ++ block_faults ps b
faults-append ps [] b = append-nil (block_faults ps b)
faults-append ps (a ∷ bs) b =
    ap (λ (l : List PatchFault). block_faults ps a ++ l) (faults-append ps bs b)
    ∙ sym (append_assoc (block_faults ps a) (anchor_faults ps bs) (block_faults ps b))

-- the faults of one more block
first-block : (ps : List Placed) (first : Option PatchFault) (x : Block) (anchor : Option Anchor) (at : ℕ) (other : Option ℕ)
    → anchor ≡ anchor_of ps x → at ≡ place_of_block x.lines → other ≡ other_in (is_many x.lines) x.lines
    → first_from (first_from first (no_anchor anchor at)) (mixed_at other) ≡ first_from first (block_faults ps x)
first-block ps first x anchor at other a p o =
    (λ i. first_from (first_from first (no_anchor (a i) (p i))) (mixed_at (o i)))
    ∙ sym (first_append first (no_anchor (anchor_of ps x) (place_of_block x.lines)) (mixed_at (other_in (is_many x.lines) x.lines)))

-- ---- closing

-- the lines that are kept, and their kind
abbrev pub block_of : OpenBlock → PlusBlock
block_of o = record { many = o.many; lines = o.lines }

abbrev pub closed_blocks : Blocks → Blocks
closed_blocks b = record { whole = all_blocks b; last = None }

none_by : (vars : List VarDecl) (ps : List Placed) (b : Blocks) (a r : Anchoring) (last : Option Block) → b.last ≡ last
    → IsOpen vars ps last None → r.tokens.items ≡ a.tokens.items → r.first ≡ a.first → r.pending ≡ None
    → (s : SoFar vars ps b a) → SoFar vars ps (closed_blocks b) r
none_by vars ps b a r (Some x) e kept tokens first closed s = absurd kept
none_by vars ps b a r None e kept tokens first closed s =
    let same : b.whole ≡ all_blocks b = sym (append-nil b.whole) ∙ ap (λ (o : Option Block). b.whole ++ ended o) (sym e) in
    record {
      blocks = s.blocks;
      lines = subst (λ (l : List Block). ArePlusBlocks vars l s.blocks) same s.lines;
      tokens = tokens ∙ s.tokens ∙ ap (λ (l : List Block). with_blocks ps (map bare ps) l s.blocks) same;
      first = first ∙ s.first ∙ ap (λ (l : List Block). first_from None (anchor_faults ps l)) same;
      last = subst (IsOpen vars ps None) (sym closed) tt;
    }

pub close-none : (vars : List VarDecl) (ps : List Placed) (b : Blocks) (a r : Anchoring) → a.pending ≡ None
    → r.tokens.items ≡ a.tokens.items → r.first ≡ a.first
    → r.pending ≡ None → SoFar vars ps b a → SoFar vars ps (closed_blocks b) r
close-none vars ps b a r none tokens first closed s = none_by vars ps b a r b.last refl (subst (IsOpen vars ps b.last) none s.last) tokens first closed s

some_by : (vars : List VarDecl) (ps : List Placed) (may : List Bool) (b : Blocks) (a r : Anchoring) (o : OpenBlock)
    (anchor : Option Anchor) (c : PlusBlock) (last : Option Block) → b.last ≡ last
    → may ≡ may_anchor ps → IsOpen vars ps last (Some o) → anchor ≡ anchor_at may o.before → c ≡ block_of o
    → r.tokens.items ≡ with_block a.tokens.items anchor c
    → r.first ≡ first_from (first_from a.first (no_anchor anchor o.at)) (mixed_at o.other) → r.pending ≡ None
    → (s : SoFar vars ps b a) → SoFar vars ps (closed_blocks b) r
some_by vars ps may b a r o anchor c None e m kept an cl tokens first closed s = absurd kept
some_by vars ps may b a r o anchor c (Some x) e m kept an cl tokens first closed s =
    let same : b.whole ++ x ∷ [] ≡ all_blocks b = ap (λ (o : Option Block). b.whole ++ ended o) (sym e) in
    let its : anchor ≡ anchor_of ps x = an ∙ ap (λ (l : List Bool). anchor_at l o.before) m ∙ ap (anchor_at (may_anchor ps)) kept.before in
    let all-tokens : r.tokens.items ≡ with_blocks ps (map bare ps) (b.whole ++ x ∷ []) (s.blocks ++ c ∷ []) =
    tokens ∙ ap (λ (ts : List PatToken). with_block ts anchor c) s.tokens
    ∙ ap (λ (n : Option Anchor). with_block (with_blocks ps (map bare ps) b.whole s.blocks) n c) its
    ∙ sym (with_blocks-append vars ps (map bare ps) b.whole s.blocks x c s.lines) in
    let all-first : r.first ≡ first_from None (anchor_faults ps (b.whole ++ x ∷ [])) =
    first ∙ first-block ps a.first x anchor o.at o.other its kept.at kept.other
    ∙ ap (λ (f : Option PatchFault). first_from f (block_faults ps x)) s.first
    ∙ sym (first_append None (anchor_faults ps b.whole) (block_faults ps x))
    ∙ ap (first_from None) (sym (faults-append ps b.whole x)) in
    record {
      blocks = s.blocks ++ c ∷ [];
      lines = subst (λ (l : List Block). ArePlusBlocks vars l (s.blocks ++ c ∷ [])) same
          (blocks-append vars b.whole s.blocks x c s.lines (subst (IsPlusBlock vars x) (sym cl) (record { lines = kept.lines; many = kept.many })));
      tokens = all-tokens ∙ ap (λ (l : List Block). with_blocks ps (map bare ps) l (s.blocks ++ c ∷ [])) same;
      first = all-first ∙ ap (λ (l : List Block). first_from None (anchor_faults ps l)) same;
      last = subst (IsOpen vars ps None) (sym closed) tt;
    }

pub close-some : (vars : List VarDecl) (ps : List Placed) (may : List Bool) (b : Blocks) (a r : Anchoring) (o : OpenBlock)
    (anchor : Option Anchor) (c : PlusBlock)
    → a.pending ≡ Some o → may ≡ may_anchor ps → anchor ≡ anchor_at may o.before → c ≡ block_of o
    → r.tokens.items ≡ with_block a.tokens.items anchor c
    → r.first ≡ first_from (first_from a.first (no_anchor anchor o.at)) (mixed_at o.other) → r.pending ≡ None
    → SoFar vars ps b a → SoFar vars ps (closed_blocks b) r
close-some vars ps may b a r o anchor c some m an cl tokens first closed s =
    some_by vars ps may b a r o anchor c b.last refl m (subst (IsOpen vars ps b.last) some s.last) an cl tokens first closed s

-- ---- opening

lines-append : (vars : List VarDecl) (ls : List BodyLine) (qs : List PlusLine) (l : BodyLine) (q : PlusLine) → ArePlusLines vars ls qs → IsPlusLine vars l q
    → ArePlusLines vars (ls ++ l ∷ []) (qs ++ q ∷ [])
lines-append vars [] [] l q are is = (is, tt)
lines-append vars [] (p ∷ qs) l q are is = absurd are
lines-append vars (k ∷ ls) [] l q are is = absurd are
lines-append vars (k ∷ ls) (p ∷ qs) l q are is = (are.0, lines-append vars ls qs l q are.1 is)

place-append : (ls : List BodyLine) (l : BodyLine) → 0 < length ls → place_of_block (ls ++ l ∷ []) ≡ place_of_block ls
place-append [] l h = absurd (omega arith)
place-append (k ∷ ls) l h = refl

many-append : (ls : List BodyLine) (l : BodyLine) → 0 < length ls → is_many (ls ++ l ∷ []) ≡ is_many ls
many-append [] l h = absurd (omega arith)
many-append (k ∷ ls) l h = refl

-- the first line of the other kind, one more line included
abbrev pub other-with : Option ℕ → Bool → BodyLine → Option ℕ
other-with other many l = if is_some other then other else other_in many (l ∷ [])

other-append : (many : Bool) (ls : List BodyLine) (l : BodyLine) → other_in many (ls ++ l ∷ []) ≡ other-with (other_in many ls) many l
other-append many [] l = refl
other-append many (k ∷ ls) l = by (differ many k.many) (other-append many ls l)
  where
    by : (t : Bool) → other_in many (ls ++ l ∷ []) ≡ other-with (other_in many ls) many l
        → (if t then Some k.start else other_in many (ls ++ l ∷ [])) ≡ other-with (if t then Some k.start else other_in many ls) many l
    by true rest = refl
    by false rest = rest

same-kind : (many : Bool) → differ many many ≡ false
same-kind true = refl
same-kind false = refl

none-other : (l : BodyLine) → other_in l.many (l ∷ []) ≡ None
none-other l = ap (λ (t : Bool). if t then Some l.start else None) (same-kind l.many)

pub open-new : (vars : List VarDecl) (ps : List Placed) (b : Option Block) (n : ℕ) (l : BodyLine) (q : PlusLine) (o : OpenBlock)
    → IsOpen vars ps b None → o.before ≡ tokens_before n ps → o.at ≡ l.start → o.many ≡ l.many → o.other ≡ None
    → o.lines ≡ q ∷ [] → IsPlusLine vars l q → IsOpen vars ps (Some (with_plus b n l)) (Some o)
open-new vars ps (Some x) n l q o kept before at many other lines is = absurd kept
open-new vars ps None n l q o kept before at many other lines is = record {
  some = omega arith;
  lines = subst (ArePlusLines vars (l ∷ [])) (sym lines) (is, tt);
  before = before;
  at = at;
  many = many;
  other = other ∙ sym (none-other l);
}

pub open-more : (vars : List VarDecl) (ps : List Placed) (b : Option Block) (n : ℕ) (l : BodyLine) (q : PlusLine) (old o : OpenBlock)
    → IsOpen vars ps b (Some old) → o.before ≡ old.before → o.at ≡ old.at → o.many ≡ old.many
    → o.other ≡ other-with old.other old.many l → o.lines ≡ old.lines ++ q ∷ [] → IsPlusLine vars l q → IsOpen vars ps (Some (with_plus b n l)) (Some o)
open-more vars ps None n l q old o kept before at many other lines is = absurd kept
open-more vars ps (Some x) n l q old o kept before at many other lines is = record {
  some = omega (arith, length-append x.lines (l ∷ []));
  lines = subst (ArePlusLines vars (x.lines ++ l ∷ [])) (sym lines) (lines-append vars x.lines old.lines l q kept.lines is);
  before = before ∙ kept.before;
  at = at ∙ kept.at ∙ sym (place-append x.lines l kept.some);
  many = many ∙ kept.many ∙ sym (many-append x.lines l kept.some);
  other = other ∙ (λ i. other-with (kept.other i) (kept.many i) l) ∙ sym (other-append (is_many x.lines) x.lines l)
      ∙ ap (λ (t : Bool). other_in t (x.lines ++ l ∷ [])) (sym (many-append x.lines l kept.some));
}

-- ---- one more line

eqb_no : (a b : ℕ) → (a ≡ b → ⊥) → (a == b) ≡ false
eqb_no a b h = grind (arith, nat_tests)

plus_is : (ps : List Placed) (n : ℕ) (b : Blocks) (l : BodyLine) → l.sign ≡ 43
    → record { whole = b.whole; last = Some (with_plus b.last n l) } ≡ put_line ps n b l
plus_is ps n b l e =
    sym (ap (λ (t : Bool). if t then record { whole = b.whole; last = Some (with_plus b.last n l) } else
    (if has_tokens ps n then record { whole = all_blocks b; last = None } else b)) (eq-eqb l.sign 43 e))

other_is : (ps : List Placed) (n : ℕ) (b : Blocks) (l : BodyLine) (t : Bool) → (l.sign ≡ 43 → ⊥) → has_tokens ps n ≡ t
    → (if t then record { whole = all_blocks b; last = None } else b) ≡ put_line ps n b l
other_is ps n b l t e has =
    ap (λ (t : Bool). if t then record { whole = all_blocks b; last = None } else b) (sym has)
    ∙ sym (ap (λ (t : Bool). if t then record { whole = b.whole; last = Some (with_plus b.last n l) } else
    (if has_tokens ps n then record { whole = all_blocks b; last = None } else b)) (eqb_no l.sign 43 e))

pub plus-line : (vars : List VarDecl) (ps : List Placed) (b : Blocks) (a r : Anchoring) (n : ℕ) (l : BodyLine) (o : OpenBlock) → l.sign ≡ 43
    → r.tokens.items ≡ a.tokens.items → r.first ≡ a.first → r.pending ≡ Some o → IsOpen vars ps (Some (with_plus b.last n l)) (Some o)
    → SoFar vars ps b a → SoFar vars ps (put_line ps n b l) r
plus-line vars ps b a r n l o e tokens first pending kept s =
    subst (λ (c : Blocks). SoFar vars ps c r) (plus_is ps n b l e) (record {
      blocks = s.blocks;
      lines = s.lines;
      tokens = tokens ∙ s.tokens;
      first = first ∙ s.first;
      last = subst (IsOpen vars ps (Some (with_plus b.last n l))) (sym pending) kept;
    })

pub break-line : (vars : List VarDecl) (ps : List Placed) (b : Blocks) (r : Anchoring) (n : ℕ) (l : BodyLine) → (l.sign ≡ 43 → ⊥) → has_tokens ps n ≡ true
    → SoFar vars ps (closed_blocks b) r → SoFar vars ps (put_line ps n b l) r
break-line vars ps b r n l e has s = subst (λ (c : Blocks). SoFar vars ps c r) (other_is ps n b l true e has) s

pub plain-line : (vars : List VarDecl) (ps : List Placed) (b : Blocks) (a : Anchoring) (n : ℕ) (l : BodyLine) → (l.sign ≡ 43 → ⊥) → has_tokens ps n ≡ false
    → SoFar vars ps b a → SoFar vars ps (put_line ps n b l) a
plain-line vars ps b a n l e has s = subst (λ (c : Blocks). SoFar vars ps c a) (other_is ps n b l false e has) s
