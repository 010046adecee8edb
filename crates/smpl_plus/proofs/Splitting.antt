-- The tokens outside clauses are those that a split leaves outside its clauses.
use Rattle.std.proofs.Common.{◌≡◌, ℕ, ◌==◌, ◌||◌, not, Bool, true, false, if◌then◌else◌, List, [], ◌∷◌, ◌++◌, refl, sym, ap, ◌∙◌, append_assoc}
use Rattle.std.specs.Prelude.{codes}
use Rattle.std.proofs.lemmas.List.{append-nil}
use Rattle.smpl_meta.specs.declared.patterns.Placed.{Placed}
use Rattle.smpl_meta.specs.Patterns as split
use Rattle.smpl_meta.specs.Patterns.{Split, is_host_of, is_word, is_differs, split_by, split_all, ended_by}
use Rattle.smpl_plus.specs.declared.clauses.Where.{Where}
use Rattle.smpl_plus.specs.declared.clauses.Where.TheVariants.{Free, After, When, Code}
use Rattle.smpl_plus.specs.declared.clauses.Standing.{Standing}
use Rattle.smpl_plus.specs.Outside.{stand, outside, within, after, behind_when, in_code, outside_from}

abbrev place_of : split.Where → Where
place_of split.Free = Free
place_of (split.After host) = After
place_of (split.When host line) = When line
place_of (split.Code host line code) = Code line

abbrev taken : Standing → Placed → List Placed
taken s p = if s.outside then p ∷ [] else []

-- one token is treated the same way
record Alike (s r : Split) (p : Placed) (t : Standing) : Type 0 where
  pub main : r.main ≡ s.main ++ taken t p
  pub next : place_of r.next ≡ t.next

host_by : (b : Bool) (id : ℕ) → place_of (if b then split.After id else split.Free) ≡ (if b then After else Free)
host_by true id = refl
host_by false id = refl

to-main : (s : Split) (p : Placed) → Alike s (split.to_main s p) p (outside p)
to-main s p = record { main = refl; next = host_by (is_host_of p.token.kind p.token.text) p.token.id }

pick : (b : Bool) (s x y : Split) (p : Placed) (t u : Standing) → Alike s x p t → Alike s y p u → Alike s (if b then x else y) p (if b then t else u)
pick true s x y p t u a b = a
pick false s x y p t u a b = b

kept : (s r : Split) (p : Placed) (next : Where) → r.main ≡ s.main → place_of r.next ≡ next → Alike s r p (within next)
kept s r p next e n = record { main = e ∙ sym (append-nil s.main); next = n }

beside : (s q r : Split) (p : Placed) (t : Standing) → q.main ≡ s.main → Alike q r p t → Alike s r p t
beside s q r p t e a = record { main = a.main ∙ ap (λ (m : List Placed). m ++ taken t p) e; next = a.next }

after-host : (host : ℕ) (s : Split) (p : Placed) → Alike s (split.after host s p) p (after p)
after-host host s p = pick (is_word (codes "when") p) s _ _ p _ _ (kept s _ p (When p.line) refl refl) (to-main s p)

-- of three words in a row, the first two lead to one place
either_by : (a b c : Bool) (s x y z w : Split) (p : Placed) (t u v : Standing) → Alike s x p t → Alike s y p t → Alike s z p u → Alike s w p v
    → Alike s (if a then x else (if b then y else (if c then z else w))) p (if a || b then t else (if c then u else v))
either_by true b c s x y z w p t u v one two three four = one
either_by false true c s x y z w p t u v one two three four = two
either_by false false true s x y z w p t u v one two three four = three
either_by false false false s x y z w p t u v one two three four = four

when-host : (host line : ℕ) (s : Split) (p : Placed) → Alike s (split.when_by host line s p) p (behind_when line p)
when-host host line s p =
    pick (not (p.line == line)) s _ _ p _ _ (beside s (split.to_clauses s host split.Broken) _ p _ refl
    (after-host host (split.to_clauses s host split.Broken) p))
    (either_by (is_word (codes "any") p) (is_word (codes "strict") p) (is_differs p) s _ _ _ _ p _ _ _
    (kept s _ p After refl refl) (kept s _ p After refl refl) (kept s _ p (Code line) refl refl)
    (beside s (split.to_clauses s host split.Broken) _ p _ refl (after-host host (split.to_clauses s host split.Broken) p)))

code-host : (host line : ℕ) (code : List Placed) (s : Split) (p : Placed) → Alike s (split.code_by host line code s p) p (in_code line p)
code-host host line code s p = pick (p.line == line) s _ _ p _ _ (kept s _ p (Code line) refl refl)
    (beside s (split.to_clauses s host (split.Not code)) _ p _ refl (after-host host (split.to_clauses s host (split.Not code)) p))

one : (w : split.Where) (s : Split) (p : Placed) → Alike s (split_by w s p) p (stand (place_of w) p)
one split.Free s p = to-main s p
one (split.After host) s p = after-host host s p
one (split.When host line) s p = when-host host line s p
one (split.Code host line code) s p = code-host host line code s p

front_by : (b : Bool) (p : Placed) (ps : List Placed) → (if b then p ∷ [] else []) ++ ps ≡ (if b then p ∷ ps else ps)
front_by true p ps = refl
front_by false p ps = refl

all : (ps : List Placed) (s : Split) → (split_all s ps).main ≡ s.main ++ outside_from (place_of s.next) ps
all [] s = sym (append-nil s.main)
all (p ∷ ps) s =
    let step = one s.next s p in
    let t = stand (place_of s.next) p in
    all ps (split_by s.next s p)
    ∙ ap (λ (m : List Placed). m ++ outside_from (place_of (split_by s.next s p).next) ps) step.main
    ∙ ap (λ (w : Where). (s.main ++ taken t p) ++ outside_from w ps) step.next
    ∙ append_assoc s.main (taken t p) (outside_from t.next ps)
    ∙ ap (λ (l : List Placed). s.main ++ l) (front_by t.outside p (outside_from t.next ps))

same-main : (w : split.Where) (s : Split) → (ended_by w s).main ≡ s.main
same-main split.Free s = refl
same-main (split.After host) s = refl
same-main (split.When host line) s = refl
same-main (split.Code host line code) s = refl

pub outside-is-main : (ps : List Placed) → (split.split ps).main ≡ outside_from Free ps
outside-is-main ps =
    let start : Split = record { main = []; clauses = []; words = []; next = split.Free } in
    same-main (split_all start ps).next (split_all start ps) ∙ all ps start
