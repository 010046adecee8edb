-- The tokens outside clauses are those that a split leaves outside its clauses.
use Rattle.std.proofs.Common.{◌≡◌, ℕ, Bool, true, false, not, List, [], ◌∷◌, ◌++◌, Option, Some, None, refl, sym, ap, ◌∙◌, subst, map, codes}
use Rattle.std.specs.Prelude.{◌==◌, if◌then◌else◌}
use Rattle.c_terms.specs.declared.token.Token.{Token}
use Rattle.smpl_meta.specs.declared.patterns.Placed.{Placed}
use Rattle.smpl_meta.specs.Patterns as split
use Rattle.smpl_meta.specs.Patterns.{Split, is_host_of, is_word, is_differs, split_by, split_all}
use Rattle.smpl_body.specs.declared.smpl_when.clauses.WhenFlags.{WhenFlags}
use Rattle.smpl_body.specs.declared.smpl_when.cutting.Code.{Code}
use Rattle.smpl_body.specs.declared.smpl_when.cutting.Where.{Where}
use Rattle.smpl_body.specs.declared.smpl_when.cutting.Where.TheVariants.{Free, After, When}
use Rattle.smpl_body.specs.declared.smpl_when.cutting.OpenCode.{OpenCode}
use Rattle.smpl_body.specs.declared.smpl_when.cutting.Cutting.{Cutting}
use Rattle.smpl_body.specs.SmplWhen.Cutting as machine
use Rattle.smpl_body.specs.SmplWhen.Cutting.{steps, step, step_by, finished, ended_by}
use Rattle.smpl_body.proofs.SmplWhen.States.{st, picked}
use Rattle.smpl_body.proofs.SmplWhen.CodeLines.{pick, Kept, kept_by, eqb-swap}

abbrev tokens_of : List Placed → List Token
tokens_of ps = map (λ (p : Placed). p.token) ps

tokens-snoc : (ps : List Placed) (p : Placed) → tokens_of (ps ++ p ∷ []) ≡ tokens_of ps ++ p.token ∷ []
tokens-snoc [] p = refl
tokens-snoc (q ∷ ps) p = ap (λ (l : List Token). q.token ∷ l) (tokens-snoc ps p)

-- the context of the next token, whichever token has the clause
data Place : Type 0 where
  Apart : Place
  Behind : Place
  Word : (line : ℕ) → Place
  Inside : (line : ℕ) → Place

abbrev place_by : Option OpenCode → Where → Place
place_by (Some o) w = Inside o.line
place_by None Free = Apart
place_by None (After h) = Behind
place_by None (When h line) = Word line

abbrev split_place : split.Where → Place
split_place split.Free = Apart
split_place (split.After h) = Behind
split_place (split.When h line) = Word line
split_place (split.Code h line code) = Inside line

-- both have the same tokens outside clauses, and the same context
record Alike (c : Cutting) (s : Split) : Type 0 where
  pub main : c.main ≡ tokens_of s.main
  pub place : place_by c.inner c.next ≡ split_place s.next

both : (x : Bool) (a b : Cutting) (s t : Split) → Alike a s → Alike b t → Alike (if x then a else b) (if x then s else t)
both true a b s t k l = k
both false a b s t k l = l

host_by : (x : Bool) (id : ℕ) → place_by None (if x then After id else Free) ≡ split_place (if x then split.After id else split.Free)
host_by true id = refl
host_by false id = refl

alike-own : (m : List Token) (cs : List Code) (ss : List WhenFlags) (ws : List ℕ) (b : Bool) (v : Where) (s : Split) (p : Placed) → m ≡ tokens_of s.main
    → Alike (machine.put (st m cs None ss ws b v) p) (split.to_main s p)
alike-own m cs ss ws b v s p e = record {
  main = ap (λ (l : List Token). l ++ p.token ∷ []) e ∙ sym (tokens-snoc s.main p);
  place = host_by (is_host_of p.token.kind p.token.text) p.token.id;
}

alike-after : (m : List Token) (cs : List Code) (ss : List WhenFlags) (ws : List ℕ) (b : Bool) (v : Where) (h k : ℕ) (s : Split)
    (p : Placed) → m ≡ tokens_of s.main
    → Alike (machine.after (st m cs None ss ws b v) h p) (split.after k s p)
alike-after m cs ss ws b v h k s p e = both (is_word (codes "when") p) _ _ _ _ (record { main = e; place = refl }) (alike-own m cs ss ws b v s p e)

alike-when : (m : List Token) (cs : List Code) (ss : List WhenFlags) (ws : List ℕ) (b : Bool) (v : Where) (h k line : ℕ)
    (s : Split) (p : Placed) → m ≡ tokens_of s.main
    → Alike (machine.behind_when (st m cs None ss ws b v) h line p) (split.when_by k line s p)
alike-when m cs ss ws b v h k line s p e =
    both (not (p.line == line)) _ _ _ _ (alike-after m cs ss ws true v h k (split.to_clauses s k split.Broken) p e)
    (both (is_word (codes "any") p) _ _ _ _ (record { main = e; place = refl })
    (both (is_word (codes "strict") p) _ _ _ _ (record { main = e; place = refl })
    (both (is_differs p) _ _ _ _ (record { main = e; place = refl }) (alike-after m cs ss ws true v h k (split.to_clauses s k split.Broken) p e))))

-- in code the tokens outside clauses stay
main-pick : (m : List Token) (x : Bool) (a b : Cutting) → a.main ≡ m → b.main ≡ m → (if x then a else b).main ≡ m
main-pick m x a b k l = pick (λ (d : Cutting). d.main ≡ m) x a b k l

main-in : (v : Where) (m : List Token) (cs : List Code) (o : OpenCode) (ss : List WhenFlags) (ws : List ℕ) (b : Bool)
    (u : Where) (p : Placed) → (step_by v (st m cs (Some o) ss ws b u) p).main ≡ m
main-in Free m cs o ss ws b u p = refl
main-in (After h) m cs o ss ws b u p = main-pick m (is_word (codes "when") p) _ _ refl refl
main-in (When h line) m cs o ss ws b u p =
    let anew = main-pick m (is_word (codes "when") p) (machine.put_word (st m cs (Some o) ss ws true u) p (When h p.line))
    (machine.put (st m cs (Some o) ss ws true u) p) refl refl in
    main-pick m (not (p.line == line)) _ _ anew
    (main-pick m (is_word (codes "any") p) _ _ refl (main-pick m (is_word (codes "strict") p) _ _ refl (main-pick m (is_differs p) _ _ refl anew)))

place-kept : (o : OpenCode) (c : Cutting) → Kept o c → place_by c.inner c.next ≡ Inside o.line
place-kept o c k = ap (λ (i : Option OpenCode). place_by i c.next) k.inner ∙ ap (λ (l : ℕ). Inside l) k.line

alike-in : (v : Where) (m : List Token) (cs : List Code) (o : OpenCode) (ss : List WhenFlags) (ws : List ℕ) (b : Bool)
    (s : Split) (p : Placed) (k line : ℕ) (code : List Placed) (x : Bool)
    → m ≡ tokens_of s.main → o.line ≡ line → Alike (picked (st m cs (Some o) ss ws b v) p x)
    (if x then record {
      main = s.main;
      clauses = s.clauses;
      words = s.words;
      next =
          split.Code k line (code ++ p ∷ []);
    } else split.after k (split.to_clauses s k (split.Not code)) p)
alike-in v m cs o ss ws b s p k line code true e at = record {
  main = main-in v m cs o ss ws b v p ∙ e;
  place = place-kept o (step_by v (st m cs (Some o) ss ws b v) p) (kept_by v m cs o ss ws b v p) ∙ ap (λ (l : ℕ). Inside l) at;
}
alike-in v m cs o ss ws b s p k line code false e at =
    alike-after m (cs ++ o.code ∷ []) ss ws _ (After o.back) o.back k (split.to_clauses s k (split.Not code)) p e

alike-one : (i : Option OpenCode) (v : Where) (w : split.Where) (m : List Token) (cs : List Code) (ss : List WhenFlags)
    (ws : List ℕ) (b : Bool) (s : Split) (p : Placed)
    → m ≡ tokens_of s.main → place_by i v ≡ split_place w → Alike (step (st m cs i ss ws b v) p) (split_by w s p)
alike-one None Free split.Free m cs ss ws b s p e f = alike-own m cs ss ws b Free s p e
alike-one None (After h) (split.After k) m cs ss ws b s p e f = alike-after m cs ss ws b (After h) h k s p e
alike-one None (When h line) (split.When k other) m cs ss ws b s p e f =
    let same : line ≡ other = cc in
    let P : ℕ → Type 0 = λ l. Alike (machine.behind_when (st m cs None ss ws b (When h line)) h line p) (split.when_by k l s p) in
    subst P same (alike-when m cs ss ws b (When h line) h k line s p e)
alike-one (Some o) v (split.Code k line code) m cs ss ws b s p e f =
    let same : o.line ≡ line = cc in
    let test : (o.line == p.line) ≡ (p.line == line) = eqb-swap o.line p.line ∙ ap (λ (l : ℕ). p.line == l) same in
    let P : Bool → Type 0 = λ x. Alike (picked (st m cs (Some o) ss ws b v) p x) (split.code_by k line code s p) in
    subst P (sym test) (alike-in v m cs o ss ws b s p k line code (p.line == line) e same)
alike-one None Free (split.After k) m cs ss ws b s p e f = cc
alike-one None Free (split.When k other) m cs ss ws b s p e f = cc
alike-one None Free (split.Code k line code) m cs ss ws b s p e f = cc
alike-one None (After h) split.Free m cs ss ws b s p e f = cc
alike-one None (After h) (split.When k other) m cs ss ws b s p e f = cc
alike-one None (After h) (split.Code k line code) m cs ss ws b s p e f = cc
alike-one None (When h line) split.Free m cs ss ws b s p e f = cc
alike-one None (When h line) (split.After k) m cs ss ws b s p e f = cc
alike-one None (When h line) (split.Code k other code) m cs ss ws b s p e f = cc
alike-one (Some o) v split.Free m cs ss ws b s p e f = cc
alike-one (Some o) v (split.After k) m cs ss ws b s p e f = cc
alike-one (Some o) v (split.When k other) m cs ss ws b s p e f = cc

alike-all : (ps : List Placed) (c : Cutting) (s : Split) → Alike c s → (steps c ps).main ≡ tokens_of (split_all s ps).main
alike-all [] c s a = a.main
alike-all (p ∷ ps) c s a =
    alike-all ps (step c p) (split_by s.next s p) (alike-one c.inner c.next s.next c.main c.codes c.said c.words c.broken s p a.main a.place)

-- the end leaves them
end-main : (i : Option OpenCode) (c : Cutting) → (ended_by i c).main ≡ c.main
end-main None c = refl
end-main (Some o) c = refl

finished-main : (c : Cutting) → (finished c).main ≡ c.main
finished-main c = main-pick c.main (machine.is_when (ended_by c.inner c).next) _ _ (end-main c.inner c) (end-main c.inner c)

split-main : (w : split.Where) (s : Split) → (split.ended_by w s).main ≡ s.main
split-main split.Free s = refl
split-main (split.After h) s = refl
split-main (split.When h line) s = refl
split-main (split.Code h line code) s = refl

pub outside-is-split : (ps : List Placed) → (machine.cut ps).main ≡ tokens_of (split.split ps).main
outside-is-split ps =
    let start : Split = record { main = []; clauses = []; words = []; next = split.Free } in
    finished-main (steps (machine.begun ps) ps) ∙ alike-all ps (machine.begun ps) start (record { main = refl; place = refl })
    ∙ ap (λ (l : List Placed). tokens_of l) (sym (split-main (split_all start ps).next (split_all start ps)))
