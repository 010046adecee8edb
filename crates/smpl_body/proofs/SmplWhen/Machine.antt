-- What the steps of a cutting lead to, part by part of the grammar.
use Rattle.std.proofs.Common.{◌≡◌, ℕ, zero, suc, ◌+◌, ◌≤◌, Bool, true, false, ◌||◌, List, [], ◌∷◌, ◌++◌, length, Option, Some}
use Rattle.std.proofs.Common.{None, refl, sym, ap, ◌∙◌, subst, arith, append_assoc, length-append, map, codes}
use Rattle.std.specs.Prelude.{◌==◌}
use Rattle.std.proofs.lemmas.List.{append-nil}
use Rattle.c_terms.specs.declared.token.Token.{Token}
use Rattle.smpl_meta.specs.declared.patterns.Placed.{Placed}
use Rattle.smpl_body.specs.declared.smpl_when.clauses.WhenFlags.{WhenFlags}
use Rattle.smpl_body.specs.declared.smpl_when.cutting.Code.{Code}
use Rattle.smpl_body.specs.declared.smpl_when.cutting.Where.{Where}
use Rattle.smpl_body.specs.declared.smpl_when.cutting.Where.TheVariants.{Free, After, When}
use Rattle.smpl_body.specs.declared.smpl_when.cutting.OpenCode.{OpenCode}
use Rattle.smpl_body.specs.declared.smpl_when.cutting.Cutting.{Cutting}
use Rattle.smpl_meta.specs.Patterns.{is_word, is_differs}
use Rattle.smpl_body.specs.SmplWhen.Cutting as machine
use Rattle.smpl_body.specs.SmplWhen.Cutting.{changed, say_any, say_strict, say_code, steps, step, step_by, put, put_by}
use Rattle.smpl_body.specs.SmplWhen.Cutting.{finished, ended_by, goes_on, opened, open_codes, is_when}
use Rattle.smpl_body.specs.SmplWhen.Grammar.{up_to_end_of, behind_end_of, Parts, nothing, with_code, Spot, Apart, Behind, takes_clauses, IsParted, IsCut}
use Rattle.smpl_body.specs.SmplWhen.Grammar.IsParted.{ends, apart, differs}
use Rattle.smpl_body.proofs.SmplWhen.Once.{parted_once}
use Rattle.smpl_body.proofs.SmplWhen.Says.{mapped, said_more, said-code, said-nothing, said-begun, or-false, or-assoc}
use Rattle.smpl_body.proofs.SmplWhen.States.{st, Joined, GoOn, goes_none, inner_of, Runs, end_joined, end_behind, runs_own}
use Rattle.smpl_body.proofs.SmplWhen.WordRuns.{runs_apart, first, second, form_is, words_join, runs_any, runs_strict, runs_lone, runs_other_line, runs_no_word}
use Rattle.smpl_body.proofs.SmplWhen.CodeLines.{kept_steps, stops, turn, split_steps, go_up, same_up, no_rest, go_as, line_is, length_up, length_behind}

-- ---- `when !=`

pub code_in_body : (h : ℕ) (w d : Placed) (m : List Token) (cs : List Code) (ss : List WhenFlags) (ws : List ℕ) (b : Bool) (c r : Parts) (e f : Cutting)
    → Joined (st m (cs ++ []) (Some (opened None h w.line)) (changed (say_code (length (cs ++ []))) h ss)
    ((ws ++ w.token.id ∷ []) ++ d.token.id ∷ []) b Free) c e
    → Joined (st e.main e.codes None e.said e.words e.broken (After h)) r f
    → Joined (st m cs None ss ws b (After h)) (with_code false h w d c r) f
code_in_body h w d m cs ss ws b c r e f j k =
    let own : Code = record { host = h; nested = false; tokens = c.own } in
    let no_more : cs ++ [] ≡ cs = append-nil cs in
    let coded : e.codes ≡ cs ++ (own ∷ c.codes) = j.codes ∙ ap (λ (l : List Code). l ++ (own ∷ c.codes)) no_more in
    let counted : length e.codes ≡ suc (length cs) + length c.codes = ap (λ (l : List Code). length l) coded ∙ length-append cs (own ∷ c.codes) ∙ omega arith in
    let K : ℕ → ℕ → Type 0 = λ n k. f.said ≡ mapped (said_more k r) 0 (mapped (said_more (suc n) c) 0 (changed (say_code n) h ss)) in
    let one : K (length (cs ++ [])) (length e.codes) = k.said ∙ ap (λ (l : List WhenFlags). mapped (said_more (length e.codes) r) 0 l) j.said in
    let two : K (length cs) (length e.codes) = let P : List Code → Type 0 = λ l. K (length l) (length e.codes) in subst P no_more one in
    let three : K (length cs) (suc (length cs) + length c.codes) = let P : ℕ → Type 0 = λ n. K (length cs) n in subst P counted two in
    record {
      main = k.main ∙ ap (λ (l : List Token). l ++ r.own) (j.main ∙ append-nil m);
      codes = k.codes ∙ ap (λ (l : List Code). l ++ r.codes) coded ∙ append_assoc cs (own ∷ c.codes) r.codes;
      none = k.none;
      said = three ∙ said-code (length cs) false h w d c r ss;
      words = k.words ∙ ap (λ (l : List ℕ). l ++ r.words) (j.words ∙ words_join ws (w.token.id ∷ []) (d.token.id ∷ []) c.words)
          ∙ append_assoc ws (w.token.id ∷ d.token.id ∷ c.words) r.words;
      broken = k.broken ∙ ap (λ (x : Bool). x || r.broken) j.broken ∙ or-assoc b c.broken r.broken;
      next = tt;
    }

pub code_in_code : (h : ℕ) (w d : Placed) (m : List Token) (cs : List Code) (o : OpenCode) (ss : List WhenFlags) (ws : List ℕ)
    (b : Bool) (c : Parts) (e : Cutting)
    → Joined (st m (cs ++ o.code ∷ []) (Some (opened (Some o) h w.line)) (changed (say_code (length (cs ++ o.code ∷ []))) h ss)
    ((ws ++ w.token.id ∷ []) ++ d.token.id ∷ []) b Free) c e
    → Joined (st m cs (Some o) ss ws b (After h)) (with_code true h w d c nothing) e
code_in_code h w d m cs o ss ws b c e j =
    let own : Code = record { host = h; nested = true; tokens = c.own } in
    let outer : Code = record { host = o.code.host; nested = o.code.nested; tokens = o.code.tokens ++ [] } in
    let same_outer : o.code ≡ outer = ap (λ (l : List Token). let x : Code =
    record { host = o.code.host; nested = o.code.nested; tokens = l } in x) (sym (append-nil o.code.tokens)) in
    let n = suc (length cs) in
    let counted : length (cs ++ o.code ∷ []) ≡ n = length-append cs (o.code ∷ []) ∙ omega arith in
    let P : ℕ → Type 0 = λ k. e.said ≡ mapped (said_more (suc k) c) 0 (changed (say_code k) h ss) in
    let one : P n = subst P counted j.said in
    record {
      main = j.main;
      codes = j.codes ∙ append_assoc cs (o.code ∷ []) (own ∷ c.codes) ∙ ap (λ (x : Code). cs ++ (x ∷ own ∷ c.codes)) same_outer
          ∙ ap (λ (l : List Code). cs ++ (outer ∷ own ∷ l)) (sym (append-nil c.codes));
      none = j.none;
      said = one ∙ sym (said-nothing (suc n + length c.codes) 0 (mapped (said_more (suc n) c) 0 (changed (say_code n) h ss)))
          ∙ said-code n true h w d c nothing ss;
      words = j.words ∙ words_join ws (w.token.id ∷ []) (d.token.id ∷ []) c.words
          ∙ ap (λ (l : List ℕ). ws ++ (w.token.id ∷ d.token.id ∷ l)) (sym (append-nil c.words));
      broken = j.broken ∙ ap (λ (x : Bool). b || x) (sym (or-false c.broken));
      next = j.next;
    }

-- after `when !=`
pub third : (i : Option OpenCode) (h : ℕ) (w p : Placed) (m : List Token) (cs : List Code) (ss : List WhenFlags) (ws : List ℕ)
    (b : Bool) → goes_on i w.line ≡ true → goes_on i p.line ≡ true
    → is_word (codes "when") w ≡ true → (p.line == w.line) ≡ true → is_word (codes "any") p ≡ false → is_word (codes "strict") p ≡ false → is_differs p ≡ true
    → step (step (st m cs i ss ws b (After h)) w) p
    ≡ st m (cs ++ open_codes i) (Some (opened i h w.line)) (changed (say_code (length (cs ++ open_codes i))) h ss)
    ((ws ++ w.token.id ∷ []) ++ p.token.id ∷ []) b Free
third i h w p m cs ss ws b gw gp e f k l q =
    ap (λ (x : Cutting). step x p) (first i h w m cs ss ws b gw e)
    ∙ second (st m cs i ss (ws ++ w.token.id ∷ []) b (When h w.line)) h w.line p true false false true refl gp f k l q

pub as_st : (d : Cutting) (v : Where) → d.inner ≡ None → d.next ≡ v → d ≡ st d.main d.codes None d.said d.words d.broken v
as_st d v e f =
    ap (λ (i : Option OpenCode). st d.main d.codes i d.said d.words d.broken d.next) e ∙ ap (λ (u : Where). st d.main d.codes None d.said d.words d.broken u) f

pub code_joins : (nested : Bool) (h : ℕ) (w p : Placed) (ps : List Placed) → is_word (codes "when") w ≡ true
    → (p.line == w.line) ≡ true → is_word (codes "any") p ≡ false
    → is_word (codes "strict") p ≡ false → is_differs p ≡ true
    → (c : Runs true Apart (up_to_end_of w.line ps)) (r : Runs nested (Behind h) (behind_end_of w.line ps))
    → (m : List Token) (cs : List Code) (o : OpenCode) (ss : List WhenFlags) (ws : List ℕ) (b : Bool) → GoOn (inner_of nested o) (w ∷ p ∷ ps)
    → Joined (st m cs (inner_of nested o) ss ws b (After h)) (with_code nested h w p c.parts r.parts)
    (finished (steps (st m cs (inner_of nested o) ss ws b (After h)) (w ∷ p ∷ ps)))
code_joins false h w p ps e f k l q c r m cs o ss ws b g =
    let on : OpenCode = opened None h w.line in
    let c0 : Cutting = st m cs None ss ws b (After h) in
    let c2 : Cutting = st m (cs ++ []) (Some on) (changed (say_code (length (cs ++ []))) h ss) ((ws ++ w.token.id ∷ []) ++ p.token.id ∷ []) b Free in
    let us = up_to_end_of w.line ps in
    let rest = behind_end_of w.line ps in
    let c3 = steps c2 us in
    let d1 = finished c3 in
    let j = c.joins m (cs ++ []) on (changed (say_code (length (cs ++ []))) h ss) ((ws ++ w.token.id ∷ []) ++ p.token.id ∷ []) b (go_up on ps) in
    let kept = kept_steps on c2 us (record { open_now = on; inner = refl; line = refl; back = refl }) (go_up on ps) in
    let start = third None h w p m cs ss ws b refl refl e f k l q in
    let d2 : Cutting = st d1.main d1.codes None d1.said d1.words d1.broken (After h) in
    let ahead : finished (steps (step (step c0 w) p) ps) ≡ finished (steps d2 rest) =
    ap (λ (x : Cutting). finished (steps x ps)) start ∙ ap (λ (x : Cutting). finished x) (split_steps c2 w.line ps) ∙ turn on c3 rest kept (stops w.line ps)
    ∙ ap (λ (x : Cutting). finished (steps x rest)) (as_st d1 (After h) j.none j.next) in
    let go_none : GoOn None rest = goes_none rest in
    let jr = r.joins d1.main d1.codes o d1.said d1.words d1.broken go_none in
    let Q : Cutting → Type 0 = λ x. Joined c0 (with_code false h w p c.parts r.parts) x in
    subst Q (sym ahead) (code_in_body h w p m cs ss ws b c.parts r.parts d1 (finished (steps d2 rest)) j jr)
code_joins true h w p ps e f k l q c r m cs o ss ws b g =
    let on : OpenCode = opened (Some o) h w.line in
    let c0 : Cutting = st m cs (Some o) ss ws b (After h) in
    let c2 : Cutting = st m (cs ++ o.code ∷ []) (Some on) (changed (say_code (length (cs ++ o.code ∷ []))) h ss)
    ((ws ++ w.token.id ∷ []) ++ p.token.id ∷ []) b Free in
    let us = up_to_end_of w.line ps in
    let in_line : o.line ≡ w.line = line_is o.line w.line g.0 in
    let all : us ≡ ps = same_up o w.line ps in_line g.1.1 in
    let none : behind_end_of w.line ps ≡ [] = no_rest o w.line ps in_line g.1.1 in
    let nothing_more : r.parts ≡ nothing =
    let P : List Placed → Type 0 = λ qs. IsParted true (Behind h) qs r.parts in
    parted_once r.parts nothing (subst P none r.are) (apart refl ends) in
    let go_us : GoOn (Some on) us = let P : List Placed → Type 0 = λ qs. GoOn (Some on) qs in subst P (sym all) (go_as o on ps refl g.1.1) in
    let j = c.joins m (cs ++ o.code ∷ []) on (changed (say_code (length (cs ++ o.code ∷ []))) h ss) ((ws ++ w.token.id ∷ []) ++ p.token.id ∷ []) b go_us in
    let ahead : finished (steps (step (step c0 w) p) ps) ≡ finished (steps c2 us) =
    ap (λ (x : Cutting). finished (steps x ps)) (third (Some o) h w p m cs ss ws b g.0 g.1.0 e f k l q)
    ∙ ap (λ (qs : List Placed). finished (steps c2 qs)) (sym all) in
    let Q : Cutting → Type 0 = λ x. Joined c0 (with_code true h w p c.parts nothing) x in
    let at_nothing = subst Q (sym ahead) (code_in_code h w p m cs o ss ws b c.parts (finished (steps c2 us)) j) in
    let R : Parts → Type 0 = λ x. Joined c0 (with_code true h w p c.parts x) (finished (steps c0 (w ∷ p ∷ ps))) in
    subst R (sym nothing_more) at_nothing

pub runs_code : (nested : Bool) (h : ℕ) (w p : Placed) (ps : List Placed) → is_word (codes "when") w ≡ true
    → (p.line == w.line) ≡ true → is_word (codes "any") p ≡ false
    → is_word (codes "strict") p ≡ false → is_differs p ≡ true → Runs true Apart (up_to_end_of w.line ps) → Runs nested (Behind h) (behind_end_of w.line ps)
    → Runs nested (Behind h) (w ∷ p ∷ ps)
runs_code nested h w p ps e f k l q c r = record {
  parts = with_code nested h w p c.parts r.parts;
  are = differs w p (form_is w p ps true true false false true e f k l q) c.are r.are;
  joins = code_joins nested h w p ps e f k l q c r;
}

-- ---- all together

abbrev pub All : ℕ → Type 0
All n = (nested : Bool) (spot : Spot) (ps : List Placed) → length ps ≤ n → Runs nested spot ps

pub at_second : (n : ℕ) → All n → (nested : Bool) (h : ℕ) (w p : Placed) (ps : List Placed) → suc (length ps) ≤ n
    → (x y z t : Bool) → is_word (codes "when") w ≡ true
    → (p.line == w.line) ≡ x → is_word (codes "any") p ≡ y → is_word (codes "strict") p ≡ z → is_differs p ≡ t → Runs nested (Behind h) (w ∷ p ∷ ps)
at_second n ih nested h w p ps le false y z t e f k l q = runs_other_line nested h w p ps e f (ih nested (Behind h) (p ∷ ps) le)
at_second n ih nested h w p ps le true true z t e f k l q = runs_any nested h w p ps e f k (ih nested (Behind h) ps (omega arith))
at_second n ih nested h w p ps le true false true t e f k l q = runs_strict nested h w p ps e f k l (ih nested (Behind h) ps (omega arith))
at_second n ih nested h w p ps le true false false true e f k l q =
    runs_code nested h w p ps e f k l q (ih true Apart (up_to_end_of w.line ps) (omega (arith, length_up w.line ps)))
    (ih nested (Behind h) (behind_end_of w.line ps) (omega (arith, length_behind w.line ps)))
at_second n ih nested h w p ps le true false false false e f k l q = runs_no_word nested h w p ps e f k l q (ih nested (Behind h) (p ∷ ps) le)

pub at_when : (n : ℕ) → All n → (nested : Bool) (h : ℕ) (w : Placed) (ps : List Placed) → length ps ≤ n → (x : Bool) → is_word (codes "when") w ≡ x
    → Runs nested Apart (w ∷ ps) → Runs nested (Behind h) (w ∷ ps)
at_when n ih nested h w ps le false e r = runs_apart nested h w ps e r
at_when n ih nested h w [] le true e r = runs_lone nested h w e
at_when n ih nested h w (p ∷ ps) le true e r =
    at_second n ih nested h w p ps le (p.line == w.line) (is_word (codes "any") p) (is_word (codes "strict") p) (is_differs p) e refl refl refl refl

pub runs_none : (nested : Bool) → Runs nested Apart []
runs_none nested = record { parts = nothing; are = ends; joins = λ m cs o ss ws b g. end_joined nested m cs o ss ws b }

pub runs_end : (nested : Bool) (h : ℕ) → Runs nested (Behind h) []
runs_end nested h = record { parts = nothing; are = apart refl ends; joins = λ m cs o ss ws b g. end_behind nested h m cs o ss ws b }

pub own_here : (n : ℕ) → All n → (nested : Bool) (p : Placed) (ps : List Placed) → length ps ≤ n → Runs nested Apart (p ∷ ps)
own_here n ih nested p ps le = runs_own nested p ps (takes_clauses p) refl (ih nested Apart ps le) (ih nested (Behind p.token.id) ps le)

pub runs : (n : ℕ) → All n
runs n nested Apart [] le = runs_none nested
runs n nested (Behind h) [] le = runs_end nested h
runs zero nested spot (p ∷ ps) le = absurd (omega arith)
runs (suc n) nested Apart (p ∷ ps) le = own_here n (runs n) nested p ps (omega arith)
runs (suc n) nested (Behind h) (p ∷ ps) le =
    at_when n (runs n) nested h p ps (omega arith) (is_word (codes "when") p) refl (own_here n (runs n) nested p ps (omega arith))

-- a body is split as the grammar splits it
pub cut-is : (ps : List Placed) → IsCut ps (machine.cut ps)
cut-is ps =
    let r = runs (length ps) false Apart ps (omega arith) in
    let o : OpenCode = record { line = 0; back = 0; code = record { host = 0; nested = false; tokens = [] } } in
    let j = r.joins [] [] o (map machine.unsaid ps) [] false (goes_none ps) in
    record {
      parts = r.parts;
      are = r.are;
      main = j.main;
      codes = j.codes;
      none = j.none;
      said = j.said ∙ said-begun r.parts 0 ps;
      words = j.words;
      broken = j.broken;
    }
