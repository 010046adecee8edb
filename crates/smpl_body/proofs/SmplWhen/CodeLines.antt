-- Code that is open: its line, the dots whose clauses it follows, and where it ends.
use Rattle.std.proofs.Common.{◌≡◌, ℕ, suc, ◌≤◌, Bool, true, false, not, List, [], ◌∷◌, length, Option, Some, refl, sym, ap, ◌∙◌, subst, arith, codes}
use Rattle.std.specs.Prelude.{◌==◌, if◌then◌else◌}
use Rattle.std.proofs.lemmas.Bool.Decides.{nat_tests}
use Rattle.c_terms.specs.declared.token.Token.{Token}
use Rattle.smpl_meta.specs.declared.patterns.Placed.{Placed}
use Rattle.smpl_body.specs.declared.smpl_when.clauses.WhenFlags.{WhenFlags}
use Rattle.smpl_body.specs.declared.smpl_when.cutting.Code.{Code}
use Rattle.smpl_body.specs.declared.smpl_when.cutting.Where.{Where}
use Rattle.smpl_body.specs.declared.smpl_when.cutting.Where.TheVariants.{Free, After, When}
use Rattle.smpl_body.specs.declared.smpl_when.cutting.OpenCode.{OpenCode}
use Rattle.smpl_body.specs.declared.smpl_when.cutting.Cutting.{Cutting}
use Rattle.smpl_meta.specs.Patterns.{is_word, is_differs}
use Rattle.smpl_body.specs.SmplWhen.Cutting as machine
use Rattle.smpl_body.specs.SmplWhen.Cutting.{changed, say_any, say_strict, say_code, steps, step, step_by, put, put_by}
use Rattle.smpl_body.specs.SmplWhen.Cutting.{finished, ended_by, goes_on, opened, open_codes, is_when}
use Rattle.smpl_body.specs.SmplWhen.Grammar.{up_to_end_of, behind_end_of}
use Rattle.smpl_body.proofs.SmplWhen.States.{st, GoOn, picked, goes}

-- ---- code

pub pick : (P : Cutting → Type 0) (x : Bool) (a b : Cutting) → P a → P b → P (if x then a else b)
pick P true a b k l = k
pick P false a b k l = l

-- the code that is open is in the line of this one, and goes back to the same dots
pub record Kept (o : OpenCode) (d : Cutting) : Type 0 where
  pub open_now : OpenCode
  pub inner : d.inner ≡ Some open_now
  pub line : open_now.line ≡ o.line
  pub back : open_now.back ≡ o.back

pub kept_by : (v : Where) (m : List Token) (cs : List Code) (o : OpenCode) (ss : List WhenFlags) (ws : List ℕ) (b : Bool)
    (u : Where) (p : Placed) → Kept o (step_by v (st m cs (Some o) ss ws b u) p)
kept_by Free m cs o ss ws b u p = record { open_now = machine.with_token o p.token; inner = refl; line = refl; back = refl }
kept_by (After h) m cs o ss ws b u p =
    pick (Kept o) (is_word (codes "when") p) _ _ (record { open_now = o; inner = refl; line = refl; back = refl })
    (record { open_now = machine.with_token o p.token; inner = refl; line = refl; back = refl })
kept_by (When h line) m cs o ss ws b u p =
    let anew = pick (Kept o) (is_word (codes "when") p) (machine.put_word (st m cs (Some o) ss ws true u) p (When h p.line))
    (put (st m cs (Some o) ss ws true u) p)
    (record { open_now = o; inner = refl; line = refl; back = refl })
    (record { open_now = machine.with_token o p.token; inner = refl; line = refl; back = refl }) in
    pick (Kept o) (not (p.line == line)) _ _ anew
    (pick (Kept o) (is_word (codes "any") p) _ _ (record { open_now = o; inner = refl; line = refl; back = refl })
    (pick (Kept o) (is_word (codes "strict") p) _ _ (record { open_now = o; inner = refl; line = refl; back = refl })
    (pick (Kept o) (is_differs p) _ _ (record { open_now = opened (Some o) h line; inner = refl; line = refl; back = refl }) anew)))

pub kept_step : (o : OpenCode) (c : Cutting) (p : Placed) → Kept o c → goes_on (Some o) p.line ≡ true → Kept o (step c p)
kept_step o c p k g =
    let P : Option OpenCode → Type 0 = λ i. Kept o (step (st c.main c.codes i c.said c.words c.broken c.next) p) in
    let d : Cutting = st c.main c.codes (Some k.open_now) c.said c.words c.broken c.next in
    let g' : goes_on (Some k.open_now) p.line ≡ true = ap (λ (l : ℕ). l == p.line) k.line ∙ g in
    let moved = kept_by c.next c.main c.codes k.open_now c.said c.words c.broken c.next p in
    let Q : Cutting → Type 0 = Kept o in
    let here : P (Some k.open_now) =
    subst Q (sym (goes d p g')) (record { open_now = moved.open_now; inner = moved.inner; line = moved.line ∙ k.line; back = moved.back ∙ k.back }) in
    subst P (sym k.inner) here

pub kept_steps : (o : OpenCode) (c : Cutting) (ps : List Placed) → Kept o c → GoOn (Some o) ps → Kept o (steps c ps)
kept_steps o c [] k g = k
kept_steps o c (p ∷ ps) k g = kept_steps o (step c p) ps (kept_step o c p k g.0) g.1

-- a list that begins in another line, or is empty
abbrev pub Stops : ℕ → List Placed → Type 0
Stops line [] = Unit {0}
Stops line (p ∷ ps) = (line == p.line) ≡ false

pub stops_by : (line : ℕ) (p : Placed) (ps : List Placed) (x : Bool) → (line == p.line) ≡ x → Stops line (behind_end_of line ps)
    → Stops line (if x then behind_end_of line ps else p ∷ ps)
stops_by line p ps true e k = k
stops_by line p ps false e k = e

pub stops : (line : ℕ) (ps : List Placed) → Stops line (behind_end_of line ps)
stops line [] = tt
stops line (p ∷ ps) = stops_by line p ps (line == p.line) refl (stops line ps)

-- code ends there
pub turn_st : (o : OpenCode) (m : List Token) (cs : List Code) (ss : List WhenFlags) (ws : List ℕ) (b : Bool) (v : Where) (qs : List Placed) → Stops o.line qs
    → finished (steps (st m cs (Some o) ss ws b v) qs) ≡ finished (steps (finished (st m cs (Some o) ss ws b v)) qs)
turn_st o m cs ss ws b v [] k = refl
turn_st o m cs ss ws b v (q ∷ qs) k = ap (λ (x : Bool). finished (steps (picked (st m cs (Some o) ss ws b v) q x) qs)) k

pub stops_as : (a b : ℕ) (qs : List Placed) → a ≡ b → Stops b qs → Stops a qs
stops_as a b qs e k = let P : ℕ → Type 0 = λ n. Stops n qs in subst P (sym e) k

pub turn : (o : OpenCode) (c : Cutting) (qs : List Placed) → Kept o c → Stops o.line qs → finished (steps c qs) ≡ finished (steps (finished c) qs)
turn o c qs k s =
    let P : Option OpenCode → Type 0 = λ i. finished (steps (st c.main c.codes i c.said c.words c.broken c.next) qs)
    ≡ finished (steps (finished (st c.main c.codes i c.said c.words c.broken c.next)) qs) in
    let here : P (Some k.open_now) = turn_st k.open_now c.main c.codes c.said c.words c.broken c.next qs (stops_as k.open_now.line o.line qs k.line s) in
    subst P (sym k.inner) here

-- tokens up to the end of the line, and those after it
pub split_by : (c : Cutting) (line : ℕ) (p : Placed) (ps : List Placed) (x : Bool)
    → steps (step c p) ps ≡ steps (steps (step c p) (up_to_end_of line ps)) (behind_end_of line ps)
    → steps c (p ∷ ps) ≡ steps (steps c (if x then p ∷ up_to_end_of line ps else [])) (if x then behind_end_of line ps else p ∷ ps)
split_by c line p ps true e = e
split_by c line p ps false e = refl

pub split_steps : (c : Cutting) (line : ℕ) (ps : List Placed) → steps c ps ≡ steps (steps c (up_to_end_of line ps)) (behind_end_of line ps)
split_steps c line [] = refl
split_steps c line (p ∷ ps) = split_by c line p ps (line == p.line) (split_steps (step c p) line ps)

pub go_by : (o : OpenCode) (p : Placed) (ps : List Placed) (x : Bool) → (o.line == p.line) ≡ x
    → GoOn (Some o) (up_to_end_of o.line ps) → GoOn (Some o) (if x then p ∷ up_to_end_of o.line ps else [])
go_by o p ps true e g = (e, g)
go_by o p ps false e g = tt

pub go_up : (o : OpenCode) (ps : List Placed) → GoOn (Some o) (up_to_end_of o.line ps)
go_up o [] = tt
go_up o (p ∷ ps) = go_by o p ps (o.line == p.line) refl (go_up o ps)

-- all tokens of code are in one line
pub same_up : (o : OpenCode) (line : ℕ) (ps : List Placed) → o.line ≡ line → GoOn (Some o) ps → up_to_end_of line ps ≡ ps
same_up o line [] e g = refl
same_up o line (p ∷ ps) e g =
    let here : (line == p.line) ≡ true = ap (λ (l : ℕ). l == p.line) (sym e) ∙ g.0 in
    ap (λ (x : Bool). if x then p ∷ up_to_end_of line ps else []) here ∙ ap (λ (l : List Placed). p ∷ l) (same_up o line ps e g.1)

pub no_rest : (o : OpenCode) (line : ℕ) (ps : List Placed) → o.line ≡ line → GoOn (Some o) ps → behind_end_of line ps ≡ []
no_rest o line [] e g = refl
no_rest o line (p ∷ ps) e g =
    let here : (line == p.line) ≡ true = ap (λ (l : ℕ). l == p.line) (sym e) ∙ g.0 in
    ap (λ (x : Bool). if x then behind_end_of line ps else p ∷ ps) here ∙ no_rest o line ps e g.1

pub go_as : (o u : OpenCode) (ps : List Placed) → o.line ≡ u.line → GoOn (Some o) ps → GoOn (Some u) ps
go_as o u [] e g = tt
go_as o u (p ∷ ps) e g = (ap (λ (l : ℕ). l == p.line) (sym e) ∙ g.0, go_as o u ps e g.1)

pub eqb-swap : (a b : ℕ) → (a == b) ≡ (b == a)
eqb-swap a b = grind (arith, nat_tests)

pub line_is : (a b : ℕ) → (a == b) ≡ true → a ≡ b
line_is a b e = grind (arith, e)

pub length_up_by : (p : Placed) (us ps : List Placed) (x : Bool) → length us ≤ length ps → length (if x then p ∷ us else []) ≤ suc (length ps)
length_up_by p us ps true h = omega arith
length_up_by p us ps false h = omega arith

pub length_up : (line : ℕ) (ps : List Placed) → length (up_to_end_of line ps) ≤ length ps
length_up line [] = omega arith
length_up line (p ∷ ps) = length_up_by p (up_to_end_of line ps) ps (line == p.line) (length_up line ps)

pub length_behind_by : (p : Placed) (us ps : List Placed) (x : Bool) → length us ≤ length ps → length (if x then us else p ∷ ps) ≤ suc (length ps)
length_behind_by p us ps true h = omega arith
length_behind_by p us ps false h = omega arith

pub length_behind : (line : ℕ) (ps : List Placed) → length (behind_end_of line ps) ≤ length ps
length_behind line [] = omega arith
length_behind line (p ∷ ps) = length_behind_by p (behind_end_of line ps) ps (line == p.line) (length_behind line ps)
