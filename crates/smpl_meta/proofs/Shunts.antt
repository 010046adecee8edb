-- What is read from left to right is what the grammar spells.
--
-- Proof: by induction on how the tokens are spelled. At each level, reading them has the effect that the level's word says:
-- an operand is taken; what `&&` joins is alone after the last `||`; what `||` joins is what the group closes to.
use Rattle.std.proofs.Common.{◌≡◌, List, [], ◌∷◌, Option, Some, None, refl, sym, ap, ◌∙◌}
use Rattle.smpl_patch.specs.declared.rule.Dep.{Dep}
use Rattle.smpl_lexer.specs.declared.token.PatchToken.{PatchToken}
use Rattle.smpl_meta.specs.declared.head.RuleHead.{RuleHead}
use Rattle.smpl_meta.specs.declared.depends.Mark.{Mark}
use Rattle.smpl_meta.specs.declared.depends.Mark.TheVariants as mark
use Rattle.smpl_meta.specs.declared.depends.Pending.{Pending}
use Rattle.smpl_meta.specs.declared.depends.Pending.TheVariants as pending
use Rattle.smpl_meta.specs.Heads.{mark_of, Level, Spells, DependsOn}
use Rattle.smpl_meta.specs.Heads.Level.{Either, Both, Prefix}
use Rattle.smpl_meta.specs.Heads.Spells.{either, one_both, both, one_prefix, negated, group, name, ever, never}
use Rattle.smpl_meta.specs.Shunting.{Shunt, both_of, closed, take_on, close_on, step_by, run, or_always, dep_of}

-- no `!` waits for an operand
abbrev pub IsClear : List Pending → Type 0
IsClear [] = Unit {0}
IsClear (pending.Not ∷ ps) = ⊥
IsClear (pending.Open a b ∷ ps) = Unit {0}

abbrev pub state : Option Dep → Option Dep → List Pending → Shunt
state e b ps = record { either = e; both = b; word = mark.Name; waiting = ps }

takes_clear : (e b : Option Dep) (ps : List Pending) (d : Dep) → IsClear ps
    → take_on e b ps d ≡ state e (Some (both_of b d)) ps
takes_clear e b [] d clear = refl
takes_clear e b (pending.Not ∷ ps) d clear = absurd clear
takes_clear e b (pending.Open a c ∷ ps) d clear = refl

module _ (earlier : List RuleHead) where
  steps : (s : Shunt) (t : PatchToken) (ts : List PatchToken) (m : Mark) → mark_of t ≡ m
      → run earlier s (t ∷ ts) ≡ run earlier (step_by earlier m s t.token.text) ts
  steps s t ts m e = ap (λ (k : Mark). run earlier (step_by earlier k s t.token.text) ts) e

  -- what reading has done after a group of `||`
  pub record Closes (xs : List PatchToken) (d : Dep) (zs : List PatchToken) (ps : List Pending) : Type 0 where
    pub left : Option Dep
    pub right : Option Dep
    pub closes : closed left right ≡ Some d
    pub reads : run earlier (state None None ps) xs ≡ run earlier (state left right ps) zs

  -- by level, what reading the tokens does
  abbrev pub Does : Level → List PatchToken → Dep → List PatchToken → Type 0
  Does Either xs d zs = (ps : List Pending) → IsClear ps → Closes xs d zs ps
  Does Both xs d zs = (e : Option Dep) (ps : List Pending) → IsClear ps → run earlier (state e None ps) xs ≡ run earlier (state e (Some d) ps) zs
  Does Prefix xs d zs = (e b : Option Dep) (ps : List Pending) → run earlier (state e b ps) xs ≡ run earlier (take_on e b ps d) zs

  pub does : {l : Level} {xs zs : List PatchToken} {d : Dep} → Spells earlier l xs d zs → Does l xs d zs
  does (either {ys = ys} {zs = zs} {a = a} {b = b} t first is second) = λ ps clear.
      let f = does first ps clear in
      record {
        left = closed f.left f.right;
        right = Some b;
        closes = ap (λ (o : Option Dep). closed o (Some b)) f.closes;
        reads = f.reads ∙ (steps (state f.left f.right ps) t ys mark.Or is ∙ does second (closed f.left f.right) ps clear);
      }
  does (one_both {a = a} s) = λ ps clear. record { left = None; right = Some a; closes = refl; reads = does s None ps clear }
  does (both {ys = ys} {zs = zs} {a = a} {b = b} t first is second) = λ e ps clear.
      does first e ps clear ∙ (steps (state e (Some a) ps) t ys mark.And is ∙ (does second e (Some a) ps
      ∙ ap (λ (s : Shunt). run earlier s zs) (takes_clear e (Some a) ps b clear)))
  does (one_prefix {zs = zs} {a = a} s) = λ e ps clear. does s e None ps
      ∙ ap (λ (s : Shunt). run earlier s zs) (takes_clear e None ps a clear)
  does (negated {xs = xs} t is s) = λ e b ps. steps (state e b ps) t xs mark.Not is ∙ does s e b (pending.Not ∷ ps)
  does (group {xs = xs} {zs = zs} t u is s end) = λ e b ps.
      let f = does s (pending.Open e b ∷ ps) tt in
      steps (state e b ps) t xs mark.Open is
      ∙ (f.reads ∙ (steps (state f.left f.right (pending.Open e b ∷ ps)) u zs mark.Close end
      ∙ ap (λ (o : Option Dep). run earlier (close_on (pending.Open e b ∷ ps) o) zs) f.closes))
  does (name {zs = zs} t is) = λ e b ps. steps (state e b ps) t zs mark.Name is
  does (ever {zs = zs} w t is_word is) = λ e b ps. steps (state e b ps) w (t ∷ zs) mark.Ever is_word
      ∙ steps (record { either = e; both = b; word = mark.Ever; waiting = ps }) t zs mark.Name is
  does (never {zs = zs} w t is_word is) = λ e b ps. steps (state e b ps) w (t ∷ zs) mark.Never is_word
      ∙ steps (record { either = e; both = b; word = mark.Never; waiting = ps }) t zs mark.Name is

  pub condition_stack : (ts : List PatchToken) (d : Dep) → DependsOn earlier ts d → dep_of earlier ts ≡ d
  condition_stack [] d e = sym e
  condition_stack (t ∷ ts) d spelled =
      let f = does spelled [] tt in
      ap (λ (s : Shunt). or_always (closed s.either s.both)) f.reads ∙ ap or_always f.closes
