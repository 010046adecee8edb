-- A header that the grammar spells has no stop.
--
-- Proof: by induction on how a condition is spelled. Reading what is spelled leads from before an operand to after one, at
-- the same level of brackets, and uses up as many of the counted tokens as it contains.
use Rattle.std.proofs.Common.{◌≡◌, ℕ, ◌+◌, ◌-◌, ◌≤◌, ◌==◌, ◌||◌, Bool, true, false, List, [], ◌∷◌, ◌++◌, Option, Some, None}
use Rattle.std.proofs.Common.{refl, ap, ◌∙◌, subst, codes, arith, if◌then◌else◌}
use Rattle.std.specs.Prelude.{cond}
use Rattle.std.specs.Str.{bytes_eq}
use Rattle.std.proofs.lemmas.Bool.{eqb-true}
use Rattle.smpl_patch.specs.declared.rule.Dep.{Dep}
use Rattle.smpl_lexer.specs.declared.token.PatchToken.{PatchToken}
use Rattle.smpl_lexer.specs.declared.places.HeaderPlace.{HeaderPlace}
use Rattle.smpl_lexer.specs.declared.places.HeaderPlace.TheVariants as h
use Rattle.smpl_lexer.specs.Tokens.{is_word, is_sign, is_at, is_stray_kind}
use Rattle.smpl_lexer.specs.Headers.{is_rule_name, is_mode, after_mode, after_depends, after_name, counted, less, rule_name}
use Rattle.smpl_lexer.specs.Headers.{operand, operated, header_step, header_ends, header_stop, stop}
use Rattle.smpl_meta.specs.declared.head.RuleHead.{RuleHead}
use Rattle.smpl_meta.specs.declared.depends.Mark.{Mark}
use Rattle.smpl_meta.specs.declared.depends.Mark.TheVariants as mark
use Rattle.smpl_meta.specs.Heads.{mark_of, Level, Spells}
use Rattle.smpl_meta.specs.Heads.Level.{Either}
use Rattle.smpl_meta.specs.Heads.Spells.{either, one_both, both, one_prefix, negated, group, name, ever, never}
use Rattle.smpl_meta.specs.Spelled.{is_counted, counted_in, Closes, Goes, IsHeader}
use Rattle.smpl_meta.specs.Spelled.Closes.{bare, moded}
use Rattle.smpl_meta.specs.Spelled.Goes.{free, depends}
use Rattle.smpl_meta.specs.Spelled.IsHeader.{unnamed, named}
use Rattle.smpl_meta.proofs.Marks.{sign, word, no_sign, and_both, stray_kind, plain}
use Rattle.smpl_meta.proofs.Conditions.{Ends}

-- ---- what a token is, by its mark

pub data Marked (t : PatchToken) : Mark → Type 0 where
  bang : is_sign (codes "!") t ≡ true → Marked t mark.Not
  opens : is_sign (codes "(") t ≡ true → Marked t mark.Open
  closes : is_sign (codes ")") t ≡ true → Marked t mark.Close
  ors : is_sign (codes "||") t ≡ true → Marked t mark.Or
  ands : is_sign (codes "&&") t ≡ true → Marked t mark.And
  evers : is_word (codes "ever") t ≡ true → Marked t mark.Ever
  nevers : is_word (codes "never") t ≡ true → Marked t mark.Never
  names : is_rule_name t ≡ true → Marked t mark.Name
  others : Marked t mark.Other

module _ (t : PatchToken) where
  name_by : (n : Bool) → is_rule_name t ≡ n → Marked t (if n then mark.Name else mark.Other)
  name_by true is = names is
  name_by false is = others

  never_by : (g : Bool) → is_word (codes "never") t ≡ g
      → Marked t (if g then mark.Never else (if is_rule_name t then mark.Name else mark.Other))
  never_by true is = nevers is
  never_by false is = name_by (is_rule_name t) refl

  ever_by : (f : Bool) → is_word (codes "ever") t ≡ f
      → Marked t (if f then mark.Ever else (if is_word (codes "never") t then mark.Never else (if is_rule_name t then mark.Name else mark.Other)))
  ever_by true is = evers is
  ever_by false is = never_by (is_word (codes "never") t) refl

  and_by : (e : Bool) → is_sign (codes "&&") t ≡ e
      → Marked t (if e then mark.And else (if is_word (codes "ever") t then mark.Ever else
      (if is_word (codes "never") t then mark.Never else (if is_rule_name t then mark.Name else mark.Other))))
  and_by true is = ands is
  and_by false is = ever_by (is_word (codes "ever") t) refl

  or_by : (d : Bool) → is_sign (codes "||") t ≡ d
      → Marked t (if d then mark.Or else (if is_sign (codes "&&") t then mark.And else
      (if is_word (codes "ever") t then mark.Ever else
      (if is_word (codes "never") t then mark.Never else (if is_rule_name t then mark.Name else mark.Other)))))
  or_by true is = ors is
  or_by false is = and_by (is_sign (codes "&&") t) refl

  close_by : (c : Bool) → is_sign (codes ")") t ≡ c
      → Marked t (if c then mark.Close else (if is_sign (codes "||") t then mark.Or else
      (if is_sign (codes "&&") t then mark.And else
      (if is_word (codes "ever") t then mark.Ever else
      (if is_word (codes "never") t then mark.Never else (if is_rule_name t then mark.Name else mark.Other))))))
  close_by true is = closes is
  close_by false is = or_by (is_sign (codes "||") t) refl

  open_by : (b : Bool) → is_sign (codes "(") t ≡ b
      → Marked t (if b then mark.Open else (if is_sign (codes ")") t then mark.Close else
      (if is_sign (codes "||") t then mark.Or else
      (if is_sign (codes "&&") t then mark.And else
      (if is_word (codes "ever") t then mark.Ever else
      (if is_word (codes "never") t then mark.Never else (if is_rule_name t then mark.Name else mark.Other)))))))
  open_by true is = opens is
  open_by false is = close_by (is_sign (codes ")") t) refl

  bang_by : (a : Bool) → is_sign (codes "!") t ≡ a
      → Marked t (if a then mark.Not else (if is_sign (codes "(") t then mark.Open else
      (if is_sign (codes ")") t then mark.Close else
      (if is_sign (codes "||") t then mark.Or else
      (if is_sign (codes "&&") t then mark.And else
      (if is_word (codes "ever") t then mark.Ever else
      (if is_word (codes "never") t then mark.Never else (if is_rule_name t then mark.Name else mark.Other))))))))
  bang_by true is = bang is
  bang_by false is = open_by (is_sign (codes "(") t) refl

  marked : (m : Mark) → mark_of t ≡ m → Marked t m
  marked m e = subst (λ (k : Mark). Marked t k) e (bang_by (is_sign (codes "!") t) refl)

-- ---- one token

-- one of the counted tokens that may come is taken
taken_by : (left rest : ℕ) (f : ℕ → HeaderPlace) (b : Bool) → (left == 0) ≡ b → left ≡ rest + 1
    → counted left (f (less left)) ≡ Some (f rest)
taken_by left rest f true is e = absurd (omega (arith, eqb-true left 0 is, e))
taken_by left rest f false is e =
    ap (λ (c : Bool). if c then None else Some (f (if c then 0 else left - 1))) is
    ∙ ap (λ (m : ℕ). Some (f m)) (omega (arith, e))

pub taken : (left rest : ℕ) (f : ℕ → HeaderPlace) → left ≡ rest + 1 → counted left (f (less left)) ≡ Some (f rest)
taken left rest f e = taken_by left rest f (left == 0) refl e

-- what precedes an operand, by its tests in order
operand_by : (level left : ℕ) (a b c n : Bool) → Option HeaderPlace
operand_by level left a b c n =
    if a then counted left (h.Operand level (less left))
    else (if b then counted left (h.Operand (level + 1) (less left))
    else (if c then Some (h.Word level left)
    else (if n then counted left (h.Operated level (less left)) else None)))

not_zero_by : (n : ℕ) (b : Bool) → (n == 0) ≡ b → (n ≡ 0 → ⊥) → b ≡ false
not_zero_by n false is some = refl
not_zero_by n true is some = absurd (some (eqb-true n 0 is))

module _ (level : ℕ) (t : PatchToken) where
  pub bang_leads : (left : ℕ) → is_sign (codes "!") t ≡ true
      → operand level left t ≡ counted left (h.Operand level (less left))
  bang_leads left is = ap (λ (b : Bool). if b then counted left (h.Operand level (less left)) else
      (if is_sign (codes "(") t then counted left (h.Operand (level + 1) (less left)) else
      (if is_word (codes "ever") t || is_word (codes "never") t then Some (h.Word level left) else rule_name level left t))) is

  pub open_leads : (left : ℕ) → is_sign (codes "(") t ≡ true
      → operand level left t ≡ counted left (h.Operand (level + 1) (less left))
  open_leads left is = let s = sign (codes "(") t is in rw (s.0, s.1) refl

  pub ever_leads : (left : ℕ) → is_word (codes "ever") t ≡ true → operand level left t ≡ Some (h.Word level left)
  ever_leads left is = let s = word (codes "ever") t is in rw (s.0, s.1) refl

  pub never_leads : (left : ℕ) → is_word (codes "never") t ≡ true → operand level left t ≡ Some (h.Word level left)
  never_leads left is = let s = word (codes "never") t is in rw (s.0, s.1) refl

  pub word_leads : (left : ℕ) → is_rule_name t ≡ true → rule_name level left t ≡ counted left (h.Operated level (less left))
  word_leads left is = ap (λ (b : Bool). if b then counted left (h.Operated level (less left)) else None) is

  either_word : (a b : Bool) → a ≡ false → b ≡ false → (a || b) ≡ false
  either_word a b ea eb = rw (ea, eb) refl

  pub name_leads : (left : ℕ) → is_rule_name t ≡ true → operand level left t ≡ counted left (h.Operated level (less left))
  name_leads left is =
      let p = plain t is in
      ap (λ (b : Bool). if b then counted left (h.Operand level (less left)) else
      (if is_sign (codes "(") t then counted left (h.Operand (level + 1) (less left)) else
      (if is_word (codes "ever") t || is_word (codes "never") t then Some (h.Word level left) else rule_name level left t))) (no_sign (codes "!") t p.kind)
      ∙ (ap (λ (b : Bool). if b then counted left (h.Operand (level + 1) (less left)) else
      (if is_word (codes "ever") t || is_word (codes "never") t then Some (h.Word level left) else rule_name level left t)) (no_sign (codes "(") t p.kind)
      ∙ (ap (λ (b : Bool). if b then Some (h.Word level left) else rule_name level left t)
      (either_word (is_word (codes "ever") t) (is_word (codes "never") t) p.ever p.never)
      ∙ word_leads left is))

  pub or_leads : (left : ℕ) → is_sign (codes "||") t ≡ true → operated level left t ≡ Some (h.Operand level left)
  or_leads left is = let s = sign (codes "||") t is in rw (s.0, s.1) refl

  pub and_leads : (left : ℕ) → is_sign (codes "&&") t ≡ true → operated level left t ≡ Some (h.Operand level left)
  and_leads left is = let s = sign (codes "&&") t is in rw (s.0, s.1) refl

  -- a bracket closes the level that one opened
  pub close_leads : (left : ℕ) → is_sign (codes ")") t ≡ true → operated (level + 1) left t ≡ Some (h.Operated level left)
  close_leads left is =
      let s = sign (codes ")") t is in
      let some : ((level + 1) == 0) ≡ false = not_zero_by (level + 1) ((level + 1) == 0) refl (λ e. absurd (omega (arith, e))) in
      let sides : operated (level + 1) left t ≡
      (if (level + 1) == 0 then after_depends t else
      (if is_sign (codes ")") t then Some (h.Operated (level + 1 - 1) left) else None)) = rw (s.0, s.1) refl in
      sides
      ∙ (ap (λ (b : Bool). if b then after_depends t else (if is_sign (codes ")") t then Some (h.Operated (level + 1 - 1) left) else None)) some
      ∙ (ap (λ (b : Bool). if b then Some (h.Operated (level + 1 - 1) left) else None) is
      ∙ ap (λ (n : ℕ). Some (h.Operated n left)) (omega arith)))

-- ---- what is spelled

module _ (end : ℕ) where
  pub goes : (p q : HeaderPlace) (t : PatchToken) (ts : List PatchToken) → header_step p t ≡ Some q → Ends q ts end
      → Ends p (t ∷ ts) end
  goes p q t ts e next = ap (λ (o : Option HeaderPlace). elim o as (λ (x : Option HeaderPlace). Option ℕ) [
    | None ↦ Some t.at
    | Some r ↦ stop header_step header_ends r ts end
  ]) e ∙ next

  more : (t : PatchToken) (ts : List PatchToken) (m : Mark) → mark_of t ≡ m
      → counted_in (t ∷ ts) ≡ cond (is_counted m) 1 0 + counted_in ts
  more t ts m e = ap (λ (k : Mark). cond (is_counted k) 1 0 + counted_in ts) e

  uncounted : (b : Bool) → b ≡ false → cond {A = ℕ} b 1 0 ≡ 0
  uncounted b none = ap (λ (c : Bool). cond {A = ℕ} c 1 0) none

  -- there are this many counted tokens from the first list to the second, and reading them leads from before an operand to
  -- after one
  record Reads (xs zs : List PatchToken) : Type 0 where
    count : ℕ
    counts : counted_in xs ≡ count + counted_in zs
    leads : (level left rest : ℕ) (tail : List PatchToken) → left ≡ rest + count
        → Ends (h.Operated level rest) (zs ++ tail) end → Ends (h.Operand level left) (xs ++ tail) end

  module _ (earlier : List RuleHead) where
    bang_of : (t : PatchToken) → Marked t mark.Not → is_sign (codes "!") t ≡ true
    bang_of t (bang is) = is

    open_of : (t : PatchToken) → Marked t mark.Open → is_sign (codes "(") t ≡ true
    open_of t (opens is) = is

    close_of : (t : PatchToken) → Marked t mark.Close → is_sign (codes ")") t ≡ true
    close_of t (closes is) = is

    or_of : (t : PatchToken) → Marked t mark.Or → is_sign (codes "||") t ≡ true
    or_of t (ors is) = is

    and_of : (t : PatchToken) → Marked t mark.And → is_sign (codes "&&") t ≡ true
    and_of t (ands is) = is

    ever_of : (t : PatchToken) → Marked t mark.Ever → is_word (codes "ever") t ≡ true
    ever_of t (evers is) = is

    never_of : (t : PatchToken) → Marked t mark.Never → is_word (codes "never") t ≡ true
    never_of t (nevers is) = is

    name_of : (t : PatchToken) → Marked t mark.Name → is_rule_name t ≡ true
    name_of t (names is) = is

    -- two operands with a sign between them
    joined : {xs ys zs : List PatchToken} (t : PatchToken) (m : Mark) → mark_of t ≡ m → is_counted m ≡ false
        → ((level left : ℕ) → operated level left t ≡ Some (h.Operand level left)) → Reads xs (t ∷ ys) → Reads ys zs → Reads xs zs
    joined {ys = ys} {zs = zs} t m is none between first second = record {
      count = first.count + second.count;
      counts = let c = more t ys m is in
          let z = uncounted (is_counted m) none in
          omega (arith, first.counts, second.counts, c, z);
      leads = λ level left rest tail e next.
          first.leads level left (rest + second.count) tail (omega (arith, e))
          (goes (h.Operated level (rest + second.count)) (h.Operand level (rest + second.count)) t (ys ++ tail) (between level (rest + second.count))
          (second.leads level (rest + second.count) rest tail refl next));
    }

    reads : {l : Level} {xs zs : List PatchToken} {d : Dep} → Spells earlier l xs d zs → Reads xs zs
    reads (either t first is second) = joined t mark.Or is refl
        (λ level left. or_leads level t left (or_of t (marked t mark.Or is))) (reads first) (reads second)
    reads (one_both s) = reads s
    reads (both t first is second) = joined t mark.And is refl
        (λ level left. and_leads level t left (and_of t (marked t mark.And is))) (reads first) (reads second)
    reads (one_prefix s) = reads s
    reads (negated {xs = xs} t is s) =
        let r = reads s in
        record {
          count = 1 + r.count;
          counts = let c = more t xs mark.Not is in omega (arith, c, r.counts);
          leads = λ level left rest tail e next.
              goes (h.Operand level left) (h.Operand level (rest + r.count)) t (xs ++ tail)
              (bang_leads level t left (bang_of t (marked t mark.Not is)) ∙ taken left (rest + r.count) (λ (n : ℕ). h.Operand level n) (omega (arith, e)))
              (r.leads level (rest + r.count) rest tail refl next);
        }
    reads (group {xs = xs} {zs = zs} t u is s close) =
        let r = reads s in
        record {
          count = 1 + r.count;
          counts = let c = more t xs mark.Open is in let d = more u zs mark.Close close in omega (arith, c, d, r.counts);
          leads = λ level left rest tail e next.
              goes (h.Operand level left) (h.Operand (level + 1) (rest + r.count)) t (xs ++ tail)
              (open_leads level t left (open_of t (marked t mark.Open is))
              ∙ taken left (rest + r.count) (λ (n : ℕ). h.Operand (level + 1) n) (omega (arith, e)))
              (r.leads (level + 1) (rest + r.count) rest tail refl
              (goes (h.Operated (level + 1) rest) (h.Operated level rest) u (zs ++ tail)
              (close_leads level u rest (close_of u (marked u mark.Close close))) next));
        }
    reads (name {zs = zs} t is) = record {
      count = 1;
      counts = more t zs mark.Name is;
      leads = λ level left rest tail e next.
          goes (h.Operand level left) (h.Operated level rest) t (zs ++ tail)
          (name_leads level t left (name_of t (marked t mark.Name is)) ∙ taken left rest (λ (n : ℕ). h.Operated level n) e) next;
    }
    reads (ever {zs = zs} w t word_is is) = record {
      count = 1;
      counts = let c = more w (t ∷ zs) mark.Ever word_is in let d = more t zs mark.Name is in omega (arith, c, d);
      leads = λ level left rest tail e next.
          goes (h.Operand level left) (h.Word level left) w (t ∷ (zs ++ tail)) (ever_leads level w left (ever_of w (marked w mark.Ever word_is)))
          (goes (h.Word level left) (h.Operated level rest) t (zs ++ tail)
          (word_leads level t left (name_of t (marked t mark.Name is)) ∙ taken left rest (λ (n : ℕ). h.Operated level n) e) next);
    }
    reads (never {zs = zs} w t word_is is) = record {
      count = 1;
      counts = let c = more w (t ∷ zs) mark.Never word_is in let d = more t zs mark.Name is in omega (arith, c, d);
      leads = λ level left rest tail e next.
          goes (h.Operand level left) (h.Word level left) w (t ∷ (zs ++ tail)) (never_leads level w left (never_of w (marked w mark.Never word_is)))
          (goes (h.Word level left) (h.Operated level rest) t (zs ++ tail)
          (word_leads level t left (name_of t (marked t mark.Name is)) ∙ taken left rest (λ (n : ℕ). h.Operated level n) e) next);
    }

    -- ---- the whole header

    -- a token with which a header ends is none of those that continue one
    pub record Last (t : PatchToken) : Type 0 where
      pub name : is_rule_name t ≡ false
      pub depends : is_word (codes "depends") t ≡ false
      pub or : is_sign (codes "||") t ≡ false
      pub and : is_sign (codes "&&") t ≡ false

    at_leads : (t : PatchToken) → is_at t ≡ true → after_mode t ≡ Some h.Closed
    at_leads t is = ap (λ (b : Bool). if b then Some h.Closed else None) is

    at_last : (t : PatchToken) → is_at t ≡ true → Last t
    at_last t is = let k = stray_kind t.token.kind (and_both (is_stray_kind t.token.kind) (bytes_eq t.token.text (codes "@")) is).0 in
        record { name = rw k refl; depends = rw k refl; or = rw k refl; and = rw k refl }

    mode_by : (t : PatchToken) (a b : Bool) → is_word (codes "exists") t ≡ a → is_word (codes "forall") t ≡ b → (a || b) ≡ true → Last t
    mode_by t true b is also e = let w = word (codes "exists") t is in record {
      name = rw (w.0, w.1) refl;
      depends = rw (w.0, w.1) refl;
      or = no_sign (codes "||") t w.0;
      and = no_sign (codes "&&") t w.0;
    }
    mode_by t false true is also e = let w = word (codes "forall") t also in record {
      name = rw (w.0, w.1) refl;
      depends = rw (w.0, w.1) refl;
      or = no_sign (codes "||") t w.0;
      and = no_sign (codes "&&") t w.0;
    }
    mode_by t false false is also e = absurd (cc)

    mode_leads : (t : PatchToken) → is_mode t ≡ true → after_depends t ≡ Some h.Moded
    mode_leads t is = ap (λ (b : Bool). if b then Some h.Moded else after_mode t) is

    mode_last : (t : PatchToken) → is_mode t ≡ true → Last t
    mode_last t is = mode_by t (is_word (codes "exists") t) (is_word (codes "forall") t) refl refl is

    at_behind : (t : PatchToken) → is_at t ≡ true → after_depends t ≡ Some h.Closed
    at_behind t is = let k = stray_kind t.token.kind (and_both (is_stray_kind t.token.kind) (bytes_eq t.token.text (codes "@")) is).0 in
        let none : is_mode t ≡ false = rw k refl in
        ap (λ (b : Bool). if b then Some h.Moded else after_mode t) none ∙ at_leads t is

    -- a place at which a header may close
    abbrev pub MayClose : HeaderPlace → Type 0
    MayClose p = (t : PatchToken) → Last t → header_step p t ≡ after_depends t

    pub closed : (p : HeaderPlace) (ts : List PatchToken) → Closes ts → MayClose p → Ends p ts end
    closed p _ (bare a is) may = goes p h.Closed a [] (may a (at_last a is) ∙ at_behind a is) refl
    closed p _ (moded m a mode is) may =
        goes p h.Moded m (a ∷ []) (may m (mode_last m mode) ∙ mode_leads m mode) (goes h.Moded h.Closed a [] (at_leads a is) refl)

    pub named_closes : MayClose h.Named
    named_closes t last = ap (λ (b : Bool). if b then Some h.Depends else after_depends t) last.depends

    pub opened_closes : MayClose h.Opened
    opened_closes t last = ap (λ (b : Bool). if b then Some h.Named else after_name t) last.name ∙ named_closes t last

    operated_closes : (left : ℕ) → MayClose (h.Operated 0 left)
    operated_closes left t last =
        ap (λ (b : Bool). if b then Some (h.Operand 0 left) else after_depends t) (neither (is_sign (codes "||") t) (is_sign (codes "&&") t) last.or last.and)
      where
        neither : (a b : Bool) → a ≡ false → b ≡ false → (a || b) ≡ false
        neither a b ea eb = rw (ea, eb) refl

    -- after `depends on`
    pub condition_ends : (most : ℕ) {cs ts : List PatchToken} {d : Dep} → Spells earlier Either cs d [] → counted_in cs ≤ most
        → Closes ts → Ends (h.Operand 0 most) (cs ++ ts) end
    condition_ends most {cs = cs} {ts = ts} spelled few last =
        let r = reads spelled in
        r.leads 0 most (most - r.count) ts (omega (arith, few, r.counts))
        (closed (h.Operated 0 (most - r.count)) ts last (operated_closes (most - r.count)))

    -- after the name, or where the name is missing
    behind : (p : HeaderPlace) (ts : List PatchToken) → Goes earlier 200 ts → MayClose p
        → ((t : PatchToken) → is_word (codes "depends") t ≡ true → header_step p t ≡ Some h.Depends) → Ends p ts end
    behind p ts (free last) may on = closed p ts last may
    behind p _ (depends {cs = cs} {ts = ts} w o word_is is spelled few last) may on =
        goes p h.Depends w (o ∷ (cs ++ ts)) (on w word_is)
        (goes h.Depends (h.Operand 0 200) o (cs ++ ts) (ap (λ (b : Bool). if b then Some (h.Operand 0 200) else None) is)
        (condition_ends 200 spelled few last))

    pub named_depends : (t : PatchToken) → is_word (codes "depends") t ≡ true → header_step h.Named t ≡ Some h.Depends
    named_depends t is = ap (λ (b : Bool). if b then Some h.Depends else after_depends t) is

    pub opened_depends : (t : PatchToken) → is_word (codes "depends") t ≡ true → header_step h.Opened t ≡ Some h.Depends
    opened_depends t is =
        let w = word (codes "depends") t is in
        let none : is_rule_name t ≡ false = rw (w.0, w.1) refl in
        ap (λ (b : Bool). if b then Some h.Named else after_name t) none ∙ named_depends t is

    pub starts : (t : PatchToken) → is_at t ≡ true → header_step h.Start t ≡ Some h.Opened
    starts t is = ap (λ (b : Bool). if b then Some h.Opened else None) is

    pub header_goes_on : (ts : List PatchToken) → IsHeader earlier 200 ts → header_stop ts end ≡ None
    header_goes_on _ (unnamed {ts = ts} a is rest) =
        goes h.Start h.Opened a ts (starts a is) (behind h.Opened ts rest opened_closes opened_depends)
    header_goes_on _ (named {ts = ts} a n is name_is rest) =
        goes h.Start h.Opened a (n ∷ ts) (starts a is)
        (goes h.Opened h.Named n ts (ap (λ (b : Bool). if b then Some h.Named else after_name n) name_is)
        (behind h.Named ts rest named_closes named_depends))
