-- Two edits meet at a token exactly if each has an act there and the two acts conflict.
use Rattle.std.proofs.Common.{◌≡◌, ◌<◌, ◌+◌, ◌⊎◌, ◌==◌, ◌||◌, ◌&&◌, ℕ, zero, suc, Bool, true, false, refl, sym, ap, ◌∙◌, arith}
use Rattle.std.proofs.Common.{inl, inr, List, [], ◌∷◌, subst, slice_get}
use Rattle.std.specs.Prelude.{Some, not}
use Rattle.std.specs.Cmp.{first_so, second_so}
use Rattle.std.specs.List.{list_any}
use Rattle.std.proofs.lemmas.Bool.Decides.{Decides-eqb}
use Rattle.edit_marks.specs.declared.edit_conflict.edit.Side.{Side}
use Rattle.edit_marks.specs.declared.edit_conflict.edit.Side.TheVariants.{Before, After}
use Rattle.edit_marks.specs.declared.edit_conflict.edit.Insert.{Insert as Added}
use Rattle.edit_marks.specs.declared.edit_conflict.edit.Edit.{Edit}
use Rattle.edit_marks.specs.declared.edit_conflict.mark.Act.{Act}
use Rattle.edit_marks.specs.declared.edit_conflict.mark.Act.TheVariants.{Remove, Insert}
use Rattle.edit_marks.specs.declared.edit_conflict.mark.Mark.{Mark}
use Rattle.edit_marks.specs.declared.edit_conflict.clash.Clash.{Clash}
use Rattle.edit_marks.specs.EditConflict.Same.{side_number}
use Rattle.edit_marks.specs.EditConflict.Once.{Differ}
use Rattle.edit_marks.specs.EditConflict.Marks.{removal_marks, insert_marks, marks_of, marks_from}
use Rattle.edit_marks.specs.EditConflict.Clashes.{removes, inserts, inserts_alone, inserts_at, meet_on, meet_at, IsClash}
use Rattle.edit_marks.proofs.EditConflict.Members.{In, In-left, In-right, In-either}
use Rattle.edit_marks.proofs.EditConflict.Ordered.{own_edit}

abbrev pub conflict : Act → Act → Bool
conflict Remove b = true
conflict (Insert s many n) Remove = true
conflict (Insert s many n) (Insert t more m) = side_number s == side_number t && not (many && more)

-- conflicting acts of these two edits at this token
pub record MarkClash (marks : List Mark) (c : Clash) : Type 0 where
  pub one : Mark
  pub two : Mark
  pub one_in : In one marks
  pub two_in : In two marks
  pub one_token : one.token ≡ c.token
  pub two_token : two.token ≡ c.token
  pub one_edit : one.edit ≡ c.first
  pub two_edit : two.edit ≡ c.second
  pub rise : c.first < c.second
  pub meet : conflict one.act two.act ≡ true

-- what an act says about its edit
abbrev pub Does : Edit → ℕ → Act → Type 0
Does e token Remove = removes token e ≡ true
Does e token (Insert s many n) = (inserts s token e ≡ true) × (many ≡ false → inserts_alone s token e ≡ true)

or_first : (a b : Bool) → a ≡ true → (a || b) ≡ true
or_first a b e = ap (λ c. c || b) e

or_second : (a b : Bool) → b ≡ true → (a || b) ≡ true
or_second true b e = refl
or_second false b e = e

either : (a b : Bool) → (a || b) ≡ true → (a ≡ true) ⊎ (b ≡ true)
either true b e = inl refl
either false b e = inr e

both : (a b : Bool) → a ≡ true → b ≡ true → (a && b) ≡ true
both a b h k = ap (λ c. c && b) h ∙ k

same : (a b : ℕ) → (a == b) ≡ true → a ≡ b
same a b = (Decides-eqb a b).0

equal : (a b : ℕ) → a ≡ b → (a == b) ≡ true
equal a b = (Decides-eqb a b).1

-- from acts to edits

removal_does : (edit : ℕ) (tokens : List ℕ) (m : Mark) → In m (removal_marks edit tokens) → (m.act ≡ Remove) × (list_any (λ n. n == m.token) tokens ≡ true)
removal_does edit [] m h = absurd h
removal_does edit (t ∷ tokens) m h = elim h [
  | inl e ↦ (ap (λ (x : Mark). x.act) e, or_first _ _ (equal t m.token (sym (ap (λ (x : Mark). x.token) e))))
  | inr k ↦ let r = removal_does edit tokens m k in (r.0, or_second (t == m.token) _ r.1)
]

abbrev put : Side → ℕ → List Added → Bool
put s token is = list_any (λ i. i.token == token && side_number i.side == side_number s) is

abbrev put_alone : Side → ℕ → List Added → Bool
put_alone s token is = list_any (λ i. i.token == token && side_number i.side == side_number s && not i.many) is

record InsertOf (m : Mark) (is : List Added) : Type 0 where
  side : Side
  many : Bool
  number : ℕ
  act_is : m.act ≡ Insert side many number
  there : put side m.token is ≡ true
  alone : many ≡ false → put_alone side m.token is ≡ true

insert_does : (edit n : ℕ) (is : List Added) (m : Mark) → In m (insert_marks edit n is) → InsertOf m is
insert_does edit n [] m h = absurd h
insert_does edit n (i ∷ is) m h = elim h [
  | inl e ↦
      let here = both _ _ (equal i.token m.token (sym (ap (λ (x : Mark). x.token) e))) (equal (side_number i.side) (side_number i.side) refl) in
      record {
        side = i.side;
        many = i.many;
        number = n;
        act_is = ap (λ (x : Mark). x.act) e;
        there = or_first _ _ here;
        alone = λ f. or_first _ _ (both _ _ here (ap not f));
      }
  | inr k ↦ let r = insert_does edit (n + 1) is m k in record {
    side = r.side;
    many = r.many;
    number = r.number;
    act_is = r.act_is;
    there = or_second (i.token == m.token && side_number i.side == side_number r.side) _ r.there;
    alone = λ f. or_second (i.token == m.token && side_number i.side == side_number r.side && not i.many) _ (r.alone f);
  }
]

mark_does : (edit : ℕ) (e : Edit) (m : Mark) → In m (marks_of edit e) → Does e m.token m.act
mark_does edit e m h = elim (In-either m (removal_marks edit e.removed) (insert_marks edit 0 e.inserts) h) [
  | inl k ↦ let r = removal_does edit e.removed m k in subst (Does e m.token) (sym r.0) r.1
  | inr k ↦ let r = insert_does edit 0 e.inserts m k in subst (Does e m.token) (sym r.act_is) (r.there, r.alone)
]

-- the edit of an act
pub record Source (edits : List Edit) (place : ℕ) (m : Mark) : Type 0 where
  pub source : Edit
  pub at : slice_get edits place ≡ Some source
  pub does : Does source m.token m.act

pub source_of : (n : ℕ) (es : List Edit) (m : Mark) → In m (marks_from n es) → (k : ℕ) × ((m.edit ≡ n + k) × Source es k m)
source_of n [] m h = absurd h
source_of n (e ∷ es) m h = elim (In-either m (marks_of n e) (marks_from (n + 1) es) h) [
  | inl k ↦ let o = own_edit n e m k in (0, (omega arith, record { source = e; at = refl; does = mark_does n e m k }))
  | inr k ↦ let r = source_of (n + 1) es m k in (suc r.0, (omega (arith, r.1.0), record { source = r.1.1.source; at = r.1.1.at; does = r.1.1.does }))
]

-- from edits to acts

removal_mark : (edit token : ℕ) (tokens : List ℕ) → list_any (λ n. n == token) tokens ≡ true
    → In (record { token = token; edit = edit; act = Remove }) (removal_marks edit tokens)
removal_mark edit token [] h = absurd cc
removal_mark edit token (t ∷ tokens) h = elim (either (t == token) (list_any (λ n. n == token) tokens) h) [
  | inl e ↦ inl (ap (λ (x : ℕ). record { token = x; edit = edit; act = Remove }) (sym (same t token e)))
  | inr k ↦ inr (removal_mark edit token tokens k)
]

-- an act of the edit at the token, on a side
pub record Placed (edit token : ℕ) (s : Side) (marks : List Mark) : Type 0 where
  pub number : ℕ
  pub side : Side
  pub many : Bool
  pub same_side : side_number side ≡ side_number s
  pub among : In (record { token = token; edit = edit; act = Insert side many number }) marks

first_mark : (edit n token : ℕ) (s : Side) (i : Added) (is : List Added) → (i.token == token && side_number i.side == side_number s) ≡ true
    → Placed edit token s (insert_marks edit n (i ∷ is))
first_mark edit n token s i is e = record {
  number = n;
  side = i.side;
  many = i.many;
  same_side = same _ _ (second_so _ _ e);
  among = inl (ap (λ (x : ℕ). record { token = x; edit = edit; act = Insert i.side i.many n }) (sym (same i.token token (first_so _ _ e))));
}

later_mark : (edit n token : ℕ) (s : Side) (i : Added) (is : List Added) → Placed edit token s (insert_marks edit (n + 1) is)
    → Placed edit token s (insert_marks edit n (i ∷ is))
later_mark edit n token s i is r = record { number = r.number; side = r.side; many = r.many; same_side = r.same_side; among = inr r.among }

insert_mark : (edit n token : ℕ) (s : Side) (is : List Added) → put s token is ≡ true → Placed edit token s (insert_marks edit n is)
insert_mark edit n token s [] h = absurd cc
insert_mark edit n token s (i ∷ is) h = elim (either (i.token == token && side_number i.side == side_number s) (put s token is) h) [
  | inl e ↦ first_mark edit n token s i is e
  | inr k ↦ later_mark edit n token s i is (insert_mark edit (n + 1) token s is k)
]

-- an insert that must be alone
abbrev AlonePlaced : ℕ → ℕ → Side → List Mark → Type 0
AlonePlaced edit token s marks = (p : Placed edit token s marks) × (p.many ≡ false)

not_many : (b : Bool) → not b ≡ true → b ≡ false
not_many true e = absurd cc
not_many false e = refl

alone_mark : (edit n token : ℕ) (s : Side) (is : List Added) → put_alone s token is ≡ true → AlonePlaced edit token s (insert_marks edit n is)
unfolding first_mark later_mark
alone_mark edit n token s [] h = absurd cc
alone_mark edit n token s (i ∷ is) h =
    elim (either (i.token == token && side_number i.side == side_number s && not i.many) (put_alone s token is) h) [
      | inl e ↦ (first_mark edit n token s i is (first_so _ _ e), not_many i.many (second_so _ _ e))
      | inr k ↦ let r = alone_mark edit (n + 1) token s is k in (later_mark edit n token s i is r.0, r.1)
    ]

from_edits : (n k : ℕ) (es : List Edit) (e : Edit) (m : Mark) → slice_get es k ≡ Some e → In m (marks_of (n + k) e) → In m (marks_from n es)
from_edits n k [] e m at h = absurd cc
from_edits n zero (x ∷ es) e m at h =
    let here : x ≡ e = cc in
    let zero_more : n + 0 ≡ n = omega arith in
    In-left m (marks_of n x) (marks_from (n + 1) es)
    (subst (λ (j : ℕ). In m (marks_of j x)) zero_more (subst (λ (y : Edit). In m (marks_of (n + 0) y)) (sym here) h))
from_edits n (suc k) (x ∷ es) e m at h =
    let next : n + suc k ≡ n + 1 + k = omega arith in
    In-right m (marks_of n x) (marks_from (n + 1) es) (from_edits (n + 1) k es e m at (subst (λ (j : ℕ). In m (marks_of j e)) next h))

-- a removal and an insert of an edit as acts
pub record Acting (edit token : ℕ) (marks : List Mark) (a : Act) : Type 0 where
  pub among : In (record { token = token; edit = edit; act = a }) marks

removed_act : (edits : List Edit) (k token : ℕ) (e : Edit) → slice_get edits k ≡ Some e → removes token e ≡ true → Acting k token (marks_from 0 edits) Remove
removed_act edits k token e at h =
    let zero_plus : 0 + k ≡ k = omega arith in
    record {
      among = from_edits 0 k edits e _ at
          (subst (λ (j : ℕ). In (record { token = token; edit = k; act = Remove }) (marks_of j e)) (sym zero_plus)
          (In-left _ (removal_marks k e.removed) (insert_marks k 0 e.inserts) (removal_mark k token e.removed h)));
    }

placed_act : (edits : List Edit) (k token : ℕ) (e : Edit) (s : Side) → slice_get edits k ≡ Some e
    → Placed k token s (insert_marks k 0 e.inserts) → Placed k token s (marks_from 0 edits)
placed_act edits k token e s at p =
    let zero_plus : 0 + k ≡ k = omega arith in
    let m : Mark = record { token = token; edit = k; act = Insert p.side p.many p.number } in
    record {
      number = p.number;
      side = p.side;
      many = p.many;
      same_side = p.same_side;
      among = from_edits 0 k edits e m at (subst (λ (j : ℕ). In m (marks_of j e)) (sym zero_plus)
          (In-right _ (removal_marks k e.removed) (insert_marks k 0 e.inserts) p.among));
    }

inserted_act : (edits : List Edit) (k token : ℕ) (e : Edit) (s : Side) → slice_get edits k ≡ Some e → inserts s token e ≡ true
    → Placed k token s (marks_from 0 edits)
inserted_act edits k token e s at h = placed_act edits k token e s at (insert_mark k 0 token s e.inserts h)

alone_act : (edits : List Edit) (k token : ℕ) (e : Edit) (s : Side) → slice_get edits k ≡ Some e → inserts_alone s token e ≡ true
    → AlonePlaced k token s (marks_from 0 edits)
unfolding placed_act
alone_act edits k token e s at h =
    let r = alone_mark k 0 token s e.inserts h in (placed_act edits k token e s at r.0, r.1)

some_insert : (edits : List Edit) (k token : ℕ) (e : Edit) → slice_get edits k ≡ Some e → inserts_at token e ≡ true
    → (s : Side) × Placed k token s (marks_from 0 edits)
some_insert edits k token e at h = elim (either (inserts Before token e) (inserts After token e) h) [
  | inl b ↦ (Before, inserted_act edits k token e Before at b)
  | inr a ↦ (After, inserted_act edits k token e After at a)
]

remove_first : (b : Act) → conflict Remove b ≡ true
remove_first b = refl

remove_second : (a : Act) → conflict a Remove ≡ true
remove_second Remove = refl
remove_second (Insert s many n) = refl

abbrev removal : ℕ → Edit → Edit → Bool
removal t a b = removes t a && removes t b

abbrev sides : ℕ → Edit → Edit → Bool
sides t a b = meet_on Before t a b || meet_on After t a b

abbrev into : ℕ → Edit → Edit → Bool
into t a b = inserts_at t a && removes t b

abbrev out : ℕ → Edit → Edit → Bool
out t a b = removes t a && inserts_at t b

-- two inserts on one side, one of which must be alone
two_there : (edits : List Edit) (c : Clash) (is : IsClash edits c) (s : Side) (p : Placed c.first c.token s (marks_from 0 edits))
    (q : Placed c.second c.token s (marks_from 0 edits)) → not (p.many && q.many) ≡ true → MarkClash (marks_from 0 edits) c
two_there edits c is s p q alone = record {
  one = record { token = c.token; edit = c.first; act = Insert p.side p.many p.number };
  two = record { token = c.token; edit = c.second; act = Insert q.side q.many q.number };
  one_in = p.among;
  two_in = q.among;
  one_token = refl;
  two_token = refl;
  one_edit = refl;
  two_edit = refl;
  rise = is.rise;
  meet = both _ _ (equal (side_number p.side) (side_number q.side) (p.same_side ∙ sym q.same_side)) alone;
}

alone_first : (a b : Bool) → a ≡ false → not (a && b) ≡ true
alone_first true b e = absurd cc
alone_first false b e = refl

alone_second : (a b : Bool) → b ≡ false → not (a && b) ≡ true
alone_second true b e = ap not e
alone_second false b e = refl

one_side : (edits : List Edit) (c : Clash) (is : IsClash edits c) (s : Side) → meet_on s c.token is.first is.second ≡ true → MarkClash (marks_from 0 edits) c
one_side edits c is s h =
    let t = c.token in
    let front = first_so (inserts s t is.first && inserts s t is.second) (inserts_alone s t is.first || inserts_alone s t is.second) h in
    let one = first_so (inserts s t is.first) (inserts s t is.second) front in
    let two = second_so (inserts s t is.first) (inserts s t is.second) front in
    elim (either (inserts_alone s t is.first) (inserts_alone s t is.second) (second_so (inserts s t is.first && inserts s t is.second) _ h)) [
      | inl k ↦
          let p = alone_act edits c.first t is.first s is.first_is k in
          let q = inserted_act edits c.second t is.second s is.second_is two in
          two_there edits c is s p.0 q (alone_first p.0.many q.many p.1)
      | inr k ↦
          let p = inserted_act edits c.first t is.first s is.first_is one in
          let q = alone_act edits c.second t is.second s is.second_is k in
          two_there edits c is s p q.0 (alone_second p.many q.0.many q.1)
    ]

pub found : (edits : List Edit) (c : Clash) → IsClash edits c → MarkClash (marks_from 0 edits) c
found edits c is =
    let t = c.token in
    let a = is.first in
    let b = is.second in
    elim (either (removal t a b || sides t a b) (into t a b || out t a b) is.clash.meet) [
      | inl front ↦ elim (either (removal t a b) (sides t a b) front) [
        | inl h ↦ record {
          one = record { token = t; edit = c.first; act = Remove };
          two = record { token = t; edit = c.second; act = Remove };
          one_in = (removed_act edits c.first t a is.first_is (first_so (removes t a) (removes t b) h)).among;
          two_in = (removed_act edits c.second t b is.second_is (second_so (removes t a) (removes t b) h)).among;
          one_token = refl;
          two_token = refl;
          one_edit = refl;
          two_edit = refl;
          rise = is.rise;
          meet = refl;
        }
        | inr h ↦ elim (either (meet_on Before t a b) (meet_on After t a b) h) [ inl k ↦ one_side edits c is Before k | inr k ↦ one_side edits c is After k ]
      ]
      | inr cross ↦ elim (either (into t a b) (out t a b) cross) [
        | inl h ↦
            let p = some_insert edits c.first t a is.first_is (first_so (inserts_at t a) (removes t b) h) in
            record {
              one = record { token = t; edit = c.first; act = Insert p.1.side p.1.many p.1.number };
              two = record { token = t; edit = c.second; act = Remove };
              one_in = p.1.among;
              two_in = (removed_act edits c.second t b is.second_is (second_so (inserts_at t a) (removes t b) h)).among;
              one_token = refl;
              two_token = refl;
              one_edit = refl;
              two_edit = refl;
              rise = is.rise;
              meet = refl;
            }
        | inr h ↦
            let q = some_insert edits c.second t b is.second_is (second_so (removes t a) (inserts_at t b) h) in
            record {
              one = record { token = t; edit = c.first; act = Remove };
              two = record { token = t; edit = c.second; act = Insert q.1.side q.1.many q.1.number };
              one_in = (removed_act edits c.first t a is.first_is (first_so (removes t a) (inserts_at t b) h)).among;
              two_in = q.1.among;
              one_token = refl;
              two_token = refl;
              one_edit = refl;
              two_edit = refl;
              rise = is.rise;
              meet = refl;
            }
      ]
    ]

at_side : (s : Side) (token : ℕ) (e : Edit) → inserts s token e ≡ true → inserts_at token e ≡ true
at_side Before token e h = or_first _ _ h
at_side After token e h = or_second (inserts Before token e) _ h

module _ (token : ℕ) (a b : Edit) where
  on_side : (s : Side) → inserts s token a ≡ true → inserts s token b ≡ true → (inserts_alone s token a || inserts_alone s token b) ≡ true
      → meet_on s token a b ≡ true
  on_side s h k alone = both _ _ (both _ _ h k) alone

  together : (s t : Side) → side_number s ≡ side_number t → inserts s token a ≡ true → inserts t token b ≡ true
      → (inserts_alone s token a || inserts_alone t token b) ≡ true → sides token a b ≡ true
  together Before Before e h k alone = or_first _ _ (on_side Before h k alone)
  together Before After e h k alone = absurd cc
  together After Before e h k alone = absurd cc
  together After After e h k alone = or_second (meet_on Before token a b) _ (on_side After h k alone)

  one_alone : (s t : Side) (many more : Bool) → not (many && more) ≡ true → (many ≡ false → inserts_alone s token a ≡ true)
      → (more ≡ false → inserts_alone t token b ≡ true) → (inserts_alone s token a || inserts_alone t token b) ≡ true
  one_alone s t false more e h k = or_first _ _ (h refl)
  one_alone s t true false e h k = or_second (inserts_alone s token a) _ (k refl)
  one_alone s t true true e h k = absurd cc

  meets : (x y : Act) → Does a token x → Does b token y → conflict x y ≡ true → meet_at token a b ≡ true
  meets Remove Remove h k e = or_first _ _ (or_first _ _ (both _ _ h k))
  meets Remove (Insert t more m) h k e =
      or_second (removal token a b || sides token a b) _ (or_second (into token a b) _ (both _ _ h (at_side t token b k.0)))
  meets (Insert s many n) Remove h k e =
      or_second (removal token a b || sides token a b) _ (or_first _ _ (both _ _ (at_side s token a h.0) k))
  meets (Insert s many n) (Insert t more m) h k e =
      let alone = one_alone s t many more (second_so _ _ e) h.1 k.1 in
      or_first _ _ (or_second (removal token a b) _ (together s t (same _ _ (first_so _ _ e)) h.0 k.0 alone))

pub clash_of : (edits : List Edit) (c : Clash) → Differ edits → MarkClash (marks_from 0 edits) c → IsClash edits c
clash_of edits c differ m =
    let p = source_of 0 edits m.one m.one_in in
    let q = source_of 0 edits m.two m.two_in in
    let first : p.0 ≡ c.first = omega (arith, p.1.0, m.one_edit) in
    let second : q.0 ≡ c.second = omega (arith, q.1.0, m.two_edit) in
    let first_is = subst (λ (k : ℕ). slice_get edits k ≡ Some p.1.1.source) first p.1.1.at in
    let second_is = subst (λ (k : ℕ). slice_get edits k ≡ Some q.1.1.source) second q.1.1.at in
    record {
      rise = m.rise;
      first = p.1.1.source;
      second = q.1.1.source;
      first_is = first_is;
      second_is = second_is;
      clash = record {
        differ = differ c.first c.second p.1.1.source q.1.1.source m.rise first_is second_is;
        meet = meets c.token p.1.1.source q.1.1.source m.one.act m.two.act
            (subst (λ (t : ℕ). Does p.1.1.source t m.one.act) m.one_token p.1.1.does)
            (subst (λ (t : ℕ). Does q.1.1.source t m.two.act) m.two_token q.1.1.does) m.meet;
      };
    }

-- the same for a list that has the same acts
pub along : (xs ys : List Mark) (c : Clash) → ((m : Mark) → In m xs → In m ys) → MarkClash xs c → MarkClash ys c
along xs ys c into m = record {
  one = m.one;
  two = m.two;
  one_in = into m.one m.one_in;
  two_in = into m.two m.two_in;
  one_token = m.one_token;
  two_token = m.two_token;
  one_edit = m.one_edit;
  two_edit = m.two_edit;
  rise = m.rise;
  meet = m.meet;
}
