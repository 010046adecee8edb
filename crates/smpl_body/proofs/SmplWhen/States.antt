-- How the parts of the tokens ahead change a state of a cutting, and the step over a token of its own.
use Rattle.std.proofs.Common.{◌≡◌, ℕ, suc, Bool, true, false, ◌||◌, List, [], ◌∷◌, ◌++◌, length, Option, Some, None, refl, sym, ap, ◌∙◌, subst, append_assoc}
use Rattle.std.specs.Prelude.{if◌then◌else◌}
use Rattle.std.proofs.lemmas.List.{append-nil}
use Rattle.c_terms.specs.declared.token.Token.{Token}
use Rattle.smpl_meta.specs.declared.patterns.Placed.{Placed}
use Rattle.smpl_body.specs.declared.smpl_when.clauses.WhenFlags.{WhenFlags}
use Rattle.smpl_body.specs.declared.smpl_when.cutting.Code.{Code}
use Rattle.smpl_body.specs.declared.smpl_when.cutting.Where.{Where}
use Rattle.smpl_body.specs.declared.smpl_when.cutting.Where.TheVariants.{Free, After}
use Rattle.smpl_body.specs.declared.smpl_when.cutting.OpenCode.{OpenCode}
use Rattle.smpl_body.specs.declared.smpl_when.cutting.Cutting.{Cutting}
use Rattle.smpl_body.specs.SmplWhen.Cutting as machine
use Rattle.smpl_body.specs.SmplWhen.Cutting.{changed, say_any, say_strict, say_code, steps, step, step_by, put, put_by}
use Rattle.smpl_body.specs.SmplWhen.Cutting.{finished, ended_by, goes_on, opened, open_codes, is_when}
use Rattle.smpl_body.specs.SmplWhen.Grammar.{Parts, nothing, with_own, Spot, Apart, Behind, takes_clauses, IsParted}
use Rattle.smpl_body.specs.SmplWhen.Grammar.IsParted.{plain, dots}
use Rattle.smpl_body.proofs.SmplWhen.Says.{mapped, said_more, said-nothing, or-false}

abbrev pub st : List Token → List Code → Option OpenCode → List WhenFlags → List ℕ → Bool → Where → Cutting
st m cs i ss ws b next = record { main = m; codes = cs; inner = i; said = ss; words = ws; broken = b; next = next }

-- ---- how the parts of the tokens ahead change a state

abbrev pub own_with : Option OpenCode → Parts → List Token
own_with None r = r.own
own_with (Some o) r = []

abbrev pub codes_with : Option OpenCode → Parts → List Code
codes_with None r = r.codes
codes_with (Some o) r = record { host = o.code.host; nested = o.code.nested; tokens = o.code.tokens ++ r.own } ∷ r.codes

-- the number of the next code
abbrev pub next_code : Option OpenCode → List Code → ℕ
next_code None cs = length cs
next_code (Some o) cs = suc (length cs)

abbrev pub Returns : Option OpenCode → Where → Type 0
Returns None w = Unit {0}
Returns (Some o) w = w ≡ After o.back

pub record Joined (c : Cutting) (r : Parts) (d : Cutting) : Type 0 where
  pub main : d.main ≡ c.main ++ own_with c.inner r
  pub codes : d.codes ≡ c.codes ++ codes_with c.inner r
  pub none : d.inner ≡ None
  pub said : d.said ≡ mapped (said_more (next_code c.inner c.codes) r) 0 c.said
  pub words : d.words ≡ c.words ++ r.words
  pub broken : d.broken ≡ c.broken || r.broken
  pub next : Returns c.inner d.next

-- all tokens are in the line of the code that is open
abbrev pub GoOn : Option OpenCode → List Placed → Type 0
GoOn i [] = Unit {0}
GoOn i (p ∷ ps) = (goes_on i p.line ≡ true) × GoOn i ps

pub goes_none : (ps : List Placed) → GoOn None ps
goes_none [] = tt
goes_none (p ∷ ps) = (refl, goes_none ps)

abbrev pub inner_of : Bool → OpenCode → Option OpenCode
inner_of false o = None
inner_of true o = Some o

abbrev pub where_of : Spot → Where
where_of Apart = Free
where_of (Behind h) = After h

-- tokens are split, and the steps over them lead to these parts
pub record Runs (nested : Bool) (spot : Spot) (ps : List Placed) : Type 0 where
  pub parts : Parts
  pub are : IsParted nested spot ps parts
  pub joins : (m : List Token) (cs : List Code) (o : OpenCode) (ss : List WhenFlags) (ws : List ℕ) (b : Bool) → GoOn (inner_of nested o) ps
      → Joined (st m cs (inner_of nested o) ss ws b (where_of spot)) parts (finished (steps (st m cs (inner_of nested o) ss ws b (where_of spot)) ps))

-- ---- one step

abbrev pub picked : Cutting → Placed → Bool → Cutting
picked c p x = let d = (if x then c else ended_by c.inner c) in step_by d.next d p

pub goes : (c : Cutting) (p : Placed) → goes_on c.inner p.line ≡ true → step c p ≡ step_by c.next c p
goes c p e = ap (λ (x : Bool). picked c p x) e

-- ---- no token

pub end_joined : (nested : Bool) (m : List Token) (cs : List Code) (o : OpenCode) (ss : List WhenFlags) (ws : List ℕ) (b : Bool)
    → Joined (st m cs (inner_of nested o) ss ws b Free) nothing (finished (st m cs (inner_of nested o) ss ws b Free))
end_joined false m cs o ss ws b = record {
  main = sym (append-nil m);
  codes = sym (append-nil cs);
  none = refl;
  said = sym (said-nothing (length cs) 0 ss);
  words = sym (append-nil ws);
  broken = sym (or-false b);
  next = tt;
}
end_joined true m cs o ss ws b = record {
  main = sym (append-nil m);
  codes = ap (λ (l : List Token). cs ++ record { host = o.code.host; nested = o.code.nested; tokens = l } ∷ []) (sym (append-nil o.code.tokens));
  none = refl;
  said = sym (said-nothing (suc (length cs)) 0 ss);
  words = sym (append-nil ws);
  broken = refl;
  next = refl;
}

pub end_behind : (nested : Bool) (h : ℕ) (m : List Token) (cs : List Code) (o : OpenCode) (ss : List WhenFlags) (ws : List ℕ) (b : Bool)
    → Joined (st m cs (inner_of nested o) ss ws b (After h)) nothing (finished (st m cs (inner_of nested o) ss ws b (After h)))
end_behind false h m cs o ss ws b = let j = end_joined false m cs o ss ws b in
    record { main = j.main; codes = j.codes; none = refl; said = j.said; words = j.words; broken = j.broken; next = tt }
end_behind true h m cs o ss ws b = let j = end_joined true m cs o ss ws b in
    record { main = j.main; codes = j.codes; none = refl; said = j.said; words = j.words; broken = j.broken; next = refl }

-- ---- a token of its own

pub own_none : (m : List Token) (cs : List Code) (ss : List WhenFlags) (ws : List ℕ) (b : Bool) (v w : Where) (p : Placed) (r : Parts) (d : Cutting)
    → Joined (st (m ++ p.token ∷ []) cs None ss ws b v) r d → Joined (st m cs None ss ws b w) (with_own p r) d
own_none m cs ss ws b v w p r d j = record {
  main = j.main ∙ append_assoc m (p.token ∷ []) r.own;
  codes = j.codes;
  none = j.none;
  said = j.said;
  words = j.words;
  broken = j.broken;
  next = tt;
}

pub own_some : (m : List Token) (cs : List Code) (o : OpenCode) (ss : List WhenFlags) (ws : List ℕ) (b : Bool) (v w : Where)
    (p : Placed) (r : Parts) (d : Cutting)
    → Joined (st m cs (Some (machine.with_token o p.token)) ss ws b v) r d → Joined (st m cs (Some o) ss ws b w) (with_own p r) d
own_some m cs o ss ws b v w p r d j = record {
  main = j.main;
  codes = j.codes ∙ ap (λ (l : List Token). cs ++ record { host = o.code.host; nested = o.code.nested; tokens = l } ∷ r.codes)
      (append_assoc o.code.tokens (p.token ∷ []) r.own);
  none = j.none;
  said = j.said;
  words = j.words;
  broken = j.broken;
  next = j.next;
}

-- the line of the code that is open stays
pub same_goes : (o : OpenCode) (p : Placed) (ps : List Placed) → GoOn (Some o) ps → GoOn (Some (machine.with_token o p.token)) ps
same_goes o p [] g = tt
same_goes o p (q ∷ ps) g = (g.0, same_goes o p ps g.1)

pub own_joins : (nested : Bool) (p : Placed) (ps : List Placed) (x : Bool) (spot : Spot) → takes_clauses p ≡ x
    → where_of spot ≡ (if x then After p.token.id else Free)
    → (r : Runs nested spot ps) → (m : List Token) (cs : List Code) (o : OpenCode) (ss : List WhenFlags) (ws : List ℕ)
    (b : Bool) → GoOn (inner_of nested o) (p ∷ ps)
    → Joined (st m cs (inner_of nested o) ss ws b Free) (with_own p r.parts) (finished (steps (st m cs (inner_of nested o) ss ws b Free) (p ∷ ps)))
own_joins false p ps x spot e at r m cs o ss ws b g =
    let c : Cutting = st m cs None ss ws b Free in
    let P : Where → Type 0 = λ v. Joined c (with_own p r.parts) (finished (steps (st (m ++ p.token ∷ []) cs None ss ws b v) ps)) in
    let here : P (where_of spot) = own_none m cs ss ws b (where_of spot) Free p r.parts _ (r.joins (m ++ p.token ∷ []) cs o ss ws b g.1) in
    subst P (at ∙ ap (λ (y : Bool). if y then After p.token.id else Free) (sym e)) here
own_joins true p ps x spot e at r m cs o ss ws b g =
    let c : Cutting = st m cs (Some o) ss ws b Free in
    let P : Where → Type 0 = λ v. Joined c (with_own p r.parts) (finished (steps (st m cs (Some (machine.with_token o p.token)) ss ws b v) ps)) in
    let here : P (where_of spot) = own_some m cs o ss ws b (where_of spot) Free p r.parts _
    (r.joins m cs (machine.with_token o p.token) ss ws b (same_goes o p ps g.1)) in
    let put_here = subst P (at ∙ ap (λ (y : Bool). if y then After p.token.id else Free) (sym e)) here in
    let Q : Cutting → Type 0 = λ d. Joined c (with_own p r.parts) (finished (steps d ps)) in
    subst Q (sym (goes c p g.0)) put_here

pub runs_own : (nested : Bool) (p : Placed) (ps : List Placed) (x : Bool) → takes_clauses p ≡ x → Runs nested Apart ps
    → Runs nested (Behind p.token.id) ps → Runs nested Apart (p ∷ ps)
runs_own nested p ps false e r s = record { parts = with_own p r.parts; are = plain p e r.are; joins = own_joins nested p ps false Apart e refl r }
runs_own nested p ps true e r s = record { parts = with_own p s.parts; are = dots p e s.are; joins = own_joins nested p ps true (Behind p.token.id) e refl s }
