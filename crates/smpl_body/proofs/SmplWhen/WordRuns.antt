-- The steps over `when any`, `when strict` and a malformed `when`.
use Rattle.std.proofs.Common.{◌≡◌, ℕ, suc, Bool, true, false, not, List, [], ◌∷◌, ◌++◌, length, Option, Some, None, refl, sym}
use Rattle.std.proofs.Common.{ap, ◌∙◌, subst, append_assoc, codes}
use Rattle.std.specs.Prelude.{◌==◌, if◌then◌else◌}
use Rattle.c_terms.specs.declared.token.Token.{Token}
use Rattle.smpl_meta.specs.declared.patterns.Placed.{Placed}
use Rattle.smpl_body.specs.declared.smpl_when.clauses.WhenFlags.{WhenFlags}
use Rattle.smpl_body.specs.declared.smpl_when.cutting.Code.{Code}
use Rattle.smpl_body.specs.declared.smpl_when.cutting.Where.{Where}
use Rattle.smpl_body.specs.declared.smpl_when.cutting.Where.TheVariants.{Free, After, When}
use Rattle.smpl_body.specs.declared.smpl_when.cutting.OpenCode.{OpenCode}
use Rattle.smpl_body.specs.declared.smpl_when.cutting.Cutting.{Cutting}
use Rattle.smpl_meta.specs.Patterns.{is_word, is_differs}
use Rattle.smpl_body.specs.SmplWhen.Cutting as machine
use Rattle.smpl_body.specs.SmplWhen.Cutting.{changed, say_any, say_strict, say_code, steps, step, step_by, put, put_by}
use Rattle.smpl_body.specs.SmplWhen.Cutting.{finished, ended_by, goes_on, opened, open_codes, is_when}
use Rattle.smpl_body.specs.SmplWhen.Grammar as grammar
use Rattle.smpl_body.specs.SmplWhen.Grammar.{Form, form_of, form_behind, up_to_end_of, behind_end_of, Parts, nothing, with_own}
use Rattle.smpl_body.specs.SmplWhen.Grammar.{with_any, with_strict, with_code, with_malformed, Spot, Apart, Behind}
use Rattle.smpl_body.specs.SmplWhen.Grammar.{takes_clauses, IsParted, IsCut, said_from}
use Rattle.smpl_body.specs.SmplWhen.Grammar.IsParted.{ends, plain, dots, apart, any, strict, differs, malformed}
use Rattle.smpl_body.proofs.SmplWhen.Says.{said-any, said-strict, or-true}
use Rattle.smpl_body.proofs.SmplWhen.States.{st, Joined, GoOn, inner_of, Runs, goes, end_joined}

-- ---- after dots, a nest or a clause

-- no clause follows
pub free_joins : (nested : Bool) (h : ℕ) (p : Placed) (ps : List Placed) (r : Parts) (m : List Token) (cs : List Code)
    (o : OpenCode) (ss : List WhenFlags) (ws : List ℕ) (b : Bool)
    → is_word (codes "when") p ≡ false → GoOn (inner_of nested o) (p ∷ ps)
    → Joined (st m cs (inner_of nested o) ss ws b Free) r (finished (steps (st m cs (inner_of nested o) ss ws b Free) (p ∷ ps)))
    → Joined (st m cs (inner_of nested o) ss ws b (After h)) r (finished (steps (st m cs (inner_of nested o) ss ws b (After h)) (p ∷ ps)))
free_joins false h p ps r m cs o ss ws b e g j =
    let c : Cutting = st m cs None ss ws b (After h) in
    let same : step c p ≡ step (st m cs None ss ws b Free) p = ap (λ (x : Bool). if x then machine.put_word c p (When h p.line) else put c p) e in
    let Q : Cutting → Type 0 = λ d. Joined c r (finished (steps d ps)) in
    subst Q (sym same) (record { main = j.main; codes = j.codes; none = j.none; said = j.said; words = j.words; broken = j.broken; next = tt })
free_joins true h p ps r m cs o ss ws b e g j =
    let c : Cutting = st m cs (Some o) ss ws b (After h) in
    let same : step c p ≡ step (st m cs (Some o) ss ws b Free) p =
    goes c p g.0 ∙ ap (λ (x : Bool). if x then machine.put_word c p (When h p.line) else put c p) e ∙ sym (goes (st m cs (Some o) ss ws b Free) p g.0) in
    let Q : Cutting → Type 0 = λ d. Joined c r (finished (steps d ps)) in
    subst Q (sym same) (record { main = j.main; codes = j.codes; none = j.none; said = j.said; words = j.words; broken = j.broken; next = j.next })

pub runs_apart : (nested : Bool) (h : ℕ) (p : Placed) (ps : List Placed) → is_word (codes "when") p ≡ false
    → Runs nested Apart (p ∷ ps) → Runs nested (Behind h) (p ∷ ps)
runs_apart nested h p ps e r = record {
  parts = r.parts;
  are = apart (ap (λ (x : Bool). if x then form_behind p ps else grammar.NoClause) e) r.are;
  joins = λ m cs o ss ws b g. free_joins nested h p ps r.parts m cs o ss ws b e g (r.joins m cs o ss ws b g);
}

-- the word `when`
pub first : (i : Option OpenCode) (h : ℕ) (w : Placed) (m : List Token) (cs : List Code) (ss : List WhenFlags) (ws : List ℕ)
    (b : Bool) → goes_on i w.line ≡ true
    → is_word (codes "when") w ≡ true → step (st m cs i ss ws b (After h)) w ≡ st m cs i ss (ws ++ w.token.id ∷ []) b (When h w.line)
first i h w m cs ss ws b g e =
    let c : Cutting = st m cs i ss ws b (After h) in
    goes c w g ∙ ap (λ (x : Bool). if x then machine.put_word c w (When h w.line) else put c w) e

-- the word after it, by what it is
abbrev pub when_by : (c : Cutting) (h line : ℕ) (p : Placed) → Bool → Bool → Bool → Bool → Cutting
when_by c h line p x y z w =
    if not x then machine.after (machine.with_broken c) h p
    else (if y then machine.put_word (machine.with_said c (changed say_any h c.said)) p (After h)
    else (if z then machine.put_word (machine.with_said c (changed say_strict h c.said)) p (After h)
    else (if w then machine.with_code (machine.put_word c p Free) h line else machine.after (machine.with_broken c) h p)))

pub second : (c : Cutting) (h line : ℕ) (p : Placed) (x y z w : Bool) → c.next ≡ When h line → goes_on c.inner p.line ≡ true
    → (p.line == line) ≡ x → is_word (codes "any") p ≡ y → is_word (codes "strict") p ≡ z → is_differs p ≡ w → step c p ≡ when_by c h line p x y z w
second c h line p x y z w at g e f k l =
    goes c p g ∙ ap (λ (v : Where). step_by v c p) at
    ∙ ap (λ (t : Bool). when_by c h line p t (is_word (codes "any") p) (is_word (codes "strict") p) (is_differs p)) e
    ∙ ap (λ (t : Bool). when_by c h line p x t (is_word (codes "strict") p) (is_differs p)) f ∙ ap (λ (t : Bool). when_by c h line p x y t (is_differs p)) k
    ∙ ap (λ (t : Bool). when_by c h line p x y z t) l

abbrev pub form_by : Bool → Bool → Bool → Bool → Bool → Form
form_by v x y z w = if v then (if not x then grammar.Malformed else
    (if y then grammar.Any else (if z then grammar.Strict else (if w then grammar.Differs else grammar.Malformed)))) else grammar.NoClause

pub form_is : (q p : Placed) (ps : List Placed) (v x y z w : Bool) → is_word (codes "when") q ≡ v → (p.line == q.line) ≡ x
    → is_word (codes "any") p ≡ y → is_word (codes "strict") p ≡ z → is_differs p ≡ w
    → form_of (q ∷ p ∷ ps) ≡ form_by v x y z w
form_is q p ps v x y z w a e f k l =
    ap (λ (t : Bool). form_by t (p.line == q.line) (is_word (codes "any") p) (is_word (codes "strict") p) (is_differs p)) a
    ∙ ap (λ (t : Bool). form_by v t (is_word (codes "any") p) (is_word (codes "strict") p) (is_differs p)) e
    ∙ ap (λ (t : Bool). form_by v x t (is_word (codes "strict") p) (is_differs p)) f ∙ ap (λ (t : Bool). form_by v x y t (is_differs p)) k
    ∙ ap (λ (t : Bool). form_by v x y z t) l

-- ---- `when any` and `when strict`

abbrev pub words_join : (a b c r : List ℕ) → ((a ++ b) ++ c) ++ r ≡ a ++ (b ++ (c ++ r))
words_join a b c r = append_assoc (a ++ b) c r ∙ append_assoc a b (c ++ r)

pub any_joined : (nested : Bool) (h : ℕ) (w p : Placed) (r : Parts) (m : List Token) (cs : List Code) (o : OpenCode)
    (ss : List WhenFlags) (ws : List ℕ) (b : Bool) (v : Where) (d : Cutting)
    → Joined (st m cs (inner_of nested o) (changed say_any h ss) ((ws ++ w.token.id ∷ []) ++ p.token.id ∷ []) b v) r d
    → Joined (st m cs (inner_of nested o) ss ws b v) (with_any h w p r) d
any_joined false h w p r m cs o ss ws b v d j = record {
  main = j.main;
  codes = j.codes;
  none = j.none;
  said = j.said ∙ said-any (length cs) h w p r ss;
  words = j.words ∙ words_join ws (w.token.id ∷ []) (p.token.id ∷ []) r.words;
  broken = j.broken;
  next = tt;
}
any_joined true h w p r m cs o ss ws b v d j = record {
  main = j.main;
  codes = j.codes;
  none = j.none;
  said = j.said ∙ said-any (suc (length cs)) h w p r ss;
  words = j.words ∙ words_join ws (w.token.id ∷ []) (p.token.id ∷ []) r.words;
  broken = j.broken;
  next = j.next;
}

pub strict_joined : (nested : Bool) (h : ℕ) (w p : Placed) (r : Parts) (m : List Token) (cs : List Code) (o : OpenCode)
    (ss : List WhenFlags) (ws : List ℕ) (b : Bool) (v : Where) (d : Cutting)
    → Joined (st m cs (inner_of nested o) (changed say_strict h ss) ((ws ++ w.token.id ∷ []) ++ p.token.id ∷ []) b v) r d
    → Joined (st m cs (inner_of nested o) ss ws b v) (with_strict h w p r) d
strict_joined false h w p r m cs o ss ws b v d j = record {
  main = j.main;
  codes = j.codes;
  none = j.none;
  said = j.said ∙ said-strict (length cs) h w p r ss;
  words = j.words ∙ words_join ws (w.token.id ∷ []) (p.token.id ∷ []) r.words;
  broken = j.broken;
  next = tt;
}
strict_joined true h w p r m cs o ss ws b v d j = record {
  main = j.main;
  codes = j.codes;
  none = j.none;
  said = j.said ∙ said-strict (suc (length cs)) h w p r ss;
  words = j.words ∙ words_join ws (w.token.id ∷ []) (p.token.id ∷ []) r.words;
  broken = j.broken;
  next = j.next;
}

pub runs_any : (nested : Bool) (h : ℕ) (w p : Placed) (ps : List Placed) → is_word (codes "when") w ≡ true
    → (p.line == w.line) ≡ true → is_word (codes "any") p ≡ true
    → Runs nested (Behind h) ps → Runs nested (Behind h) (w ∷ p ∷ ps)
runs_any nested h w p ps e f k r = record {
  parts = with_any h w p r.parts;
  are = any w p (form_is w p ps true true true (is_word (codes "strict") p) (is_differs p) e f k refl refl) r.are;
  joins = λ m cs o ss ws b g.
      let i = inner_of nested o in
      let c : Cutting = st m cs i ss (ws ++ w.token.id ∷ []) b (When h w.line) in
      let one = first i h w m cs ss ws b g.0 e in
      let two = second c h w.line p true true (is_word (codes "strict") p) (is_differs p) refl g.1.0 f k refl refl in
      let same : step (step (st m cs i ss ws b (After h)) w) p ≡ st m cs i (changed say_any h ss) ((ws ++ w.token.id ∷ []) ++ p.token.id ∷ []) b (After h) =
      ap (λ (x : Cutting). step x p) one ∙ two in
      let Q : Cutting → Type 0 = λ d. Joined (st m cs i ss ws b (After h)) (with_any h w p r.parts) (finished (steps d ps)) in
      subst Q (sym same) (any_joined nested h w p r.parts m cs o ss ws b (After h) _
      (r.joins m cs o (changed say_any h ss) ((ws ++ w.token.id ∷ []) ++ p.token.id ∷ []) b g.1.1));
}

pub runs_strict : (nested : Bool) (h : ℕ) (w p : Placed) (ps : List Placed) → is_word (codes "when") w ≡ true
    → (p.line == w.line) ≡ true → is_word (codes "any") p ≡ false
    → is_word (codes "strict") p ≡ true → Runs nested (Behind h) ps → Runs nested (Behind h) (w ∷ p ∷ ps)
runs_strict nested h w p ps e f k l r = record {
  parts = with_strict h w p r.parts;
  are = strict w p (form_is w p ps true true false true (is_differs p) e f k l refl) r.are;
  joins = λ m cs o ss ws b g.
      let i = inner_of nested o in
      let c : Cutting = st m cs i ss (ws ++ w.token.id ∷ []) b (When h w.line) in
      let one = first i h w m cs ss ws b g.0 e in
      let two = second c h w.line p true false true (is_differs p) refl g.1.0 f k l refl in
      let same : step (step (st m cs i ss ws b (After h)) w) p ≡ st m cs i (changed say_strict h ss) ((ws ++ w.token.id ∷ []) ++ p.token.id ∷ []) b (After h) =
      ap (λ (x : Cutting). step x p) one ∙ two in
      let Q : Cutting → Type 0 = λ d. Joined (st m cs i ss ws b (After h)) (with_strict h w p r.parts) (finished (steps d ps)) in
      subst Q (sym same) (strict_joined nested h w p r.parts m cs o ss ws b (After h) _
      (r.joins m cs o (changed say_strict h ss) ((ws ++ w.token.id ∷ []) ++ p.token.id ∷ []) b g.1.1));
}

-- ---- a malformed `when`

pub malformed_joined : (nested : Bool) (w : Placed) (r : Parts) (m : List Token) (cs : List Code) (o : OpenCode)
    (ss : List WhenFlags) (ws : List ℕ) (b : Bool) (v : Where) (d : Cutting)
    → Joined (st m cs (inner_of nested o) ss (ws ++ w.token.id ∷ []) true v) r d → Joined (st m cs (inner_of nested o) ss ws b v) (with_malformed w r) d
malformed_joined false w r m cs o ss ws b v d j = record {
  main = j.main;
  codes = j.codes;
  none = j.none;
  said = j.said;
  words = j.words ∙ append_assoc ws (w.token.id ∷ []) r.words;
  broken = j.broken ∙ sym (or-true b);
  next = tt;
}
malformed_joined true w r m cs o ss ws b v d j = record {
  main = j.main;
  codes = j.codes;
  none = j.none;
  said = j.said;
  words = j.words ∙ append_assoc ws (w.token.id ∷ []) r.words;
  broken = j.broken ∙ sym (or-true b);
  next = j.next;
}

-- at the end it is reported, and otherwise the token after it is read afresh
pub lone_joined : (nested : Bool) (h line : ℕ) (m : List Token) (cs : List Code) (o : OpenCode) (ss : List WhenFlags) (ws : List ℕ) (b : Bool)
    → finished (st m cs (inner_of nested o) ss ws b (When h line)) ≡ finished (st m cs (inner_of nested o) ss ws true (When h line))
lone_joined false h line m cs o ss ws b = refl
lone_joined true h line m cs o ss ws b = ap (λ (x : Bool). st m (cs ++ o.code ∷ []) None ss ws x (After o.back)) (or-true b)

pub lone_is : (nested : Bool) (h line : ℕ) (m : List Token) (cs : List Code) (o : OpenCode) (ss : List WhenFlags) (ws : List ℕ)
    → Joined (st m cs (inner_of nested o) ss ws true (After h)) nothing (finished (st m cs (inner_of nested o) ss ws true (When h line)))
lone_is false h line m cs o ss ws = let j = end_joined false m cs o ss ws true in
    record { main = j.main; codes = j.codes; none = refl; said = j.said; words = j.words; broken = refl; next = tt }
lone_is true h line m cs o ss ws = let j = end_joined true m cs o ss ws true in
    record { main = j.main; codes = j.codes; none = refl; said = j.said; words = j.words; broken = refl; next = refl }

pub runs_lone : (nested : Bool) (h : ℕ) (w : Placed) → is_word (codes "when") w ≡ true → Runs nested (Behind h) (w ∷ [])
runs_lone nested h w e = record {
  parts = with_malformed w nothing;
  are = malformed w (ap (λ (x : Bool). if x then grammar.Malformed else grammar.NoClause) e) (apart refl ends);
  joins = λ m cs o ss ws b g.
      let i = inner_of nested o in
      let ws' = ws ++ w.token.id ∷ [] in
      let one = first i h w m cs ss ws b g.0 e in
      let same : finished (step (st m cs i ss ws b (After h)) w) ≡ finished (st m cs i ss ws' true (When h w.line)) =
      ap (λ (x : Cutting). finished x) one ∙ lone_joined nested h w.line m cs o ss ws' b in
      let Q : Cutting → Type 0 = λ d. Joined (st m cs i ss ws b (After h)) (with_malformed w nothing) d in
      subst Q (sym same) (malformed_joined nested w nothing m cs o ss ws b (After h) _ (lone_is nested h w.line m cs o ss ws'));
}

-- a token after a clause is taken in the same way, whatever came before
pub anew : (nested : Bool) (h : ℕ) (p : Placed) (m : List Token) (cs : List Code) (o : OpenCode) (ss : List WhenFlags) (ws : List ℕ) (b : Bool) (v : Where)
    → machine.after (machine.with_broken (st m cs (inner_of nested o) ss ws b v)) h p ≡ machine.after (st m cs (inner_of nested o) ss ws true (After h)) h p
anew false h p m cs o ss ws b v = refl
anew true h p m cs o ss ws b v = refl

pub malformed_joins : (nested : Bool) (h : ℕ) (w p : Placed) (ps : List Placed) (r : Runs nested (Behind h) (p ∷ ps)) → is_word (codes "when") w ≡ true
    → ((c : Cutting) → c.next ≡ When h w.line → goes_on c.inner p.line ≡ true → step c p ≡ machine.after (machine.with_broken c) h p)
    → (m : List Token) (cs : List Code) (o : OpenCode) (ss : List WhenFlags) (ws : List ℕ) (b : Bool) → GoOn (inner_of nested o) (w ∷ p ∷ ps)
    → Joined (st m cs (inner_of nested o) ss ws b (After h)) (with_malformed w r.parts)
    (finished (steps (st m cs (inner_of nested o) ss ws b (After h)) (w ∷ p ∷ ps)))
malformed_joins nested h w p ps r e two m cs o ss ws b g =
    let i = inner_of nested o in
    let ws' = ws ++ w.token.id ∷ [] in
    let c : Cutting = st m cs i ss ws' b (When h w.line) in
    let one = first i h w m cs ss ws b g.0 e in
    let same : step (step (st m cs i ss ws b (After h)) w) p ≡ step (st m cs i ss ws' true (After h)) p =
    ap (λ (y : Cutting). step y p) one ∙ two c refl g.1.0 ∙ anew nested h p m cs o ss ws' b (When h w.line)
    ∙ sym (goes (st m cs i ss ws' true (After h)) p g.1.0) in
    let Q : Cutting → Type 0 = λ d. Joined (st m cs i ss ws b (After h)) (with_malformed w r.parts) (finished (steps d ps)) in
    subst Q (sym same) (malformed_joined nested w r.parts m cs o ss ws b (After h) _ (r.joins m cs o ss ws' true g.1))

pub runs_other_line : (nested : Bool) (h : ℕ) (w p : Placed) (ps : List Placed) → is_word (codes "when") w ≡ true → (p.line == w.line) ≡ false
    → Runs nested (Behind h) (p ∷ ps) → Runs nested (Behind h) (w ∷ p ∷ ps)
runs_other_line nested h w p ps e f r = record {
  parts = with_malformed w r.parts;
  are = malformed w (form_is w p ps true false (is_word (codes "any") p) (is_word (codes "strict") p) (is_differs p) e f refl refl refl) r.are;
  joins = malformed_joins nested h w p ps r e
      (λ c at g. second c h w.line p false (is_word (codes "any") p) (is_word (codes "strict") p) (is_differs p) at g f refl refl refl);
}

pub runs_no_word : (nested : Bool) (h : ℕ) (w p : Placed) (ps : List Placed) → is_word (codes "when") w ≡ true
    → (p.line == w.line) ≡ true → is_word (codes "any") p ≡ false
    → is_word (codes "strict") p ≡ false → is_differs p ≡ false → Runs nested (Behind h) (p ∷ ps) → Runs nested (Behind h) (w ∷ p ∷ ps)
runs_no_word nested h w p ps e f k l q r = record {
  parts = with_malformed w r.parts;
  are = malformed w (form_is w p ps true true false false false e f k l q) r.are;
  joins = malformed_joins nested h w p ps r e (λ c at g. second c h w.line p true false false false at g f k l q);
}
