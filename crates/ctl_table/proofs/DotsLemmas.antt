-- Dots as reached from a scope, their parts made one after another.
use Rattle.std.proofs.Common.{◌≡◌, ℕ, ◌<◌, Bool, true, false, if◌then◌else◌, refl, sym, ap, ◌∙◌, List, [], ◌∷◌, ◌++◌, length}
use Rattle.std.proofs.Common.{append_assoc, append-nil, nat_lt, Option, None, Some, Result}
use Rattle.std.specs.Result.{IfOk}
use Rattle.smpl_terms.specs.declared.var.Var.{Var}
use Rattle.ctl_formula.specs.Plain.{Plain, Inside, Not}
use Rattle.ctl_formula.specs.declared.node.Node.{Node}
use Rattle.ctl_formula.specs.Tables.{at, plains, Makes}
use Rattle.ctl_formula.proofs.TableLemmas.{grows-refl, grows-trans}
use Rattle.ctl_table.specs.Table as table
use Rattle.ctl_table.specs.declared.follow.DotsContinuation.{DotsContinuation}
use Rattle.ctl_table.specs.Settings.{some_below}
use Rattle.ctl_table.specs.Settings.{all_below, parts_at, some_at, dots_below, passed, dots_at, MakesAll, MakesSome}
use Rattle.ctl_table.proofs.MakingLemmas.{made-up, stays, all-stay, all-stand, lt-test, both-true}
use Rattle.ctl_table.proofs.FollowLemmas.{some-stays, passed-stays, dots-nest}
use Rattle.ctl_table.proofs.RowLemmas.{all-as, all-next, one-more}

-- unchanged parts
pub all-there : (a : List Node) (is : List ℕ) → all_below (length a) is ≡ true → MakesAll a a is (parts_at a is)
all-there a is h = record { within = h; are = refl; grows = grows-refl a }

-- one more, `not` a part
pub not-made : (a b : List Node) (is next : List ℕ) (o : Option ℕ) (i j : ℕ) → o ≡ Some i → all_below (length a) is ≡ true
    → Makes a b j (Not (at (plains a) i)) → next ≡ is ++ j ∷ []
    → MakesAll a b next (parts_at a is ++ table.nots (some_at (plains a) o))
not-made a b is next o i j e h m n =
    all-next a b is next j (parts_at a is ++ table.nots (some_at (plains a) o)) n
    (all-as a b (is ++ j ∷ []) (parts_at a is ++ Not (at (plains a) i) ∷ []) (parts_at a is ++ table.nots (some_at (plains a) o))
    (ap (λ (z : Option ℕ). parts_at a is ++ table.nots (some_at (plains a) z)) (sym e))
    (one-more a a b is j (parts_at a is) (Not (at (plains a) i)) (all-there a is h) m))

-- `when any`: nothing more
pub last_atoms-none : (a : List Node) (is : List ℕ) (any : Bool) (more : List Plain) → any ≡ true → all_below (length a) is ≡ true
    → MakesAll a a is (parts_at a is ++ (if any then [] else more))
last_atoms-none a is any more e h =
    all-as a a is (parts_at a is) (parts_at a is ++ (if any then [] else more))
    (sym (append-nil (parts_at a is)) ∙ ap (λ (z : Bool). parts_at a is ++ (if z then [] else more)) (sym e)) (all-there a is h)

pub last_atoms-made : (a b c d : List Node) (is js ks : List ℕ) (before after : Option ℕ) (ends_of : Option Plain) (any : Bool) → any ≡ false
    → all_below (length a) is ≡ true → some_below (length a) after ≡ true
    → MakesSome a b before ends_of
    → MakesAll b c js (parts_at b is ++ table.nots (some_at (plains b) before))
    → MakesAll c d ks (parts_at c js ++ table.nots (some_at (plains c) after))
    → MakesAll a d ks (parts_at a is ++ (if any then [] else (table.nots ends_of ++ table.nots (some_at (plains a) after))))
last_atoms-made a b c d is js ks before after ends_of any f h k x y z =
    let ac = grows-trans a b c x.grows y.grows in
    let first : parts_at c js ≡ parts_at a is ++ table.nots ends_of =
    y.are ∙ ap (λ (v : List Plain). v ++ table.nots (some_at (plains b) before)) (all-stay a b is x.grows h)
    ∙ ap (λ (v : Option Plain). parts_at a is ++ table.nots v) x.is in
    record {
      within = z.within;
      are = z.are ∙ ap (λ (v : List Plain). v ++ table.nots (some_at (plains c) after)) first
          ∙ ap (λ (v : Option Plain). (parts_at a is ++ table.nots ends_of) ++ table.nots v) (some-stays a c after ac k)
          ∙ append_assoc (parts_at a is) (table.nots ends_of) (table.nots (some_at (plains a) after))
          ∙ ap (λ (v : Bool). parts_at a is ++ (if v then [] else (table.nots ends_of ++ table.nots (some_at (plains a) after)))) (sym f);
      grows = grows-trans a c d ac z.grows;
    }

-- dots that are in no block
pub staying-none : (a : List Node) (o : Option Var) (is whens : List ℕ) → o ≡ None → all_below (length a) whens ≡ true → is ≡ whens
    → MakesAll a a is (table.stays o ++ parts_at a whens)
staying-none a o is whens n h e = record {
  within = ap (all_below (length a)) e ∙ h;
  are = ap (parts_at a) e ∙ ap (λ (z : Option Var). table.stays z ++ parts_at a whens) (sym n);
  grows = grows-refl a;
}

-- dots in a block: first that they stay in it
pub staying-made : (a b : List Node) (o : Option Var) (v : Var) (i : ℕ) (one is whens : List ℕ) → o ≡ Some v
    → all_below (length a) whens ≡ true → Makes a b i (Inside v) → one ≡ i ∷ [] → is ≡ one ++ whens
    → MakesAll a b is (table.stays o ++ parts_at a whens)
staying-made a b o v i one is whens e h m p q =
    let whole : is ≡ i ∷ whens = q ∙ ap (λ (z : List ℕ). z ++ whens) p in
    record {
      within = ap (all_below (length b)) whole
          ∙ both-true (nat_lt i (length b)) (all_below (length b) whens) (lt-test i (length b) m.within) (all-stand a b whens m.grows h);
      are = ap (parts_at b) whole ∙ ap (λ (z : Plain). z ∷ parts_at b whens) m.is
          ∙ ap (λ (z : List Plain). Inside v ∷ z) (all-stay a b whens m.grows h)
          ∙ ap (λ (z : Option Var). table.stays z ++ parts_at a whens) (sym e);
      grows = m.grows;
    }

pub condition-made : {E : Type 0} (a b c : List Node) (is js ks vs : List ℕ) (any : Bool) (ends_of after : Option Plain) (r : Result ℕ E) → vs ≡ is → ks ≡ js
    → MakesAll a b js (parts_at a vs ++ (if any then [] else (table.nots ends_of ++ table.nots after)))
    → IfOk r (λ i. Makes b c i (table.all_of (parts_at b ks)))
    → IfOk r (λ i. Makes a c i (table.condition any (parts_at a is) ends_of after))
condition-made a b c is js ks vs any ends_of after r v k x y =
    made-up a b c r (table.all_of (parts_at b ks)) (table.condition any (parts_at a is) ends_of after) x.grows
    (ap table.all_of (ap (parts_at b) k ∙ x.are ∙ ap (λ (z : List ℕ). parts_at a z ++ (if any then [] else (table.nots ends_of ++ table.nots after))) v)) y

pub dots_at-made : {E : Type 0} (forall_walks : Bool) (a b c d : List Node) (before : List Var → Option Plain)
    (e : DotsContinuation) (target : ℕ) (t here around : List Var) (through f : ℕ) (r : Result ℕ E)
    → dots_below (length a) e ≡ true → target < length a → here ≡ e.here → around ≡ t ++ here
    → Makes a b through (table.condition e.any (parts_at a e.firsts.items) (before around) (some_at (plains a) e.after))
    → Makes b c f (passed (plains b) forall_walks e.nest e.strict (at (plains b) through) (at (plains b) target))
    → IfOk r (λ i. Makes c d i (table.exists_all here (at (plains c) f)))
    → IfOk r (λ i. Makes a d i (dots_at (plains a) forall_walks before e target t))
dots_at-made forall_walks a b c d before e target t here around through f r n l h o x y z =
    let pass = λ (u v : Plain). passed (plains a) forall_walks e.nest e.strict u v in
    let test = λ (v : List Var). table.condition e.any (parts_at a e.firsts.items) (before v) (some_at (plains a) e.after) in
    let f_is : at (plains c) f ≡ pass (test around) (at (plains a) target) =
    y.is
    ∙ passed-stays a b forall_walks e.nest e.strict (at (plains b) through) (at (plains b) target) x.grows (dots-nest (length a) e n)
    ∙ ap (λ (u : Plain). pass u (at (plains b) target)) x.is
    ∙ ap (pass (test around)) (stays a b target x.grows l) in
    made-up a c d r (table.exists_all here (at (plains c) f)) (dots_at (plains a) forall_walks before e target t) (grows-trans a b c x.grows y.grows)
    (ap (table.exists_all here) (f_is ∙ ap (λ (v : List Var). pass (test v) (at (plains a) target)) o)
    ∙ ap (λ (v : List Var). table.exists_all v (pass (test (t ++ v)) (at (plains a) target))) h) z
