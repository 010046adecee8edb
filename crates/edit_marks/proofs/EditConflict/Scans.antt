-- The search through sorted acts.
use Rattle.std.proofs.Common.{◌≡◌, ◌<◌, ◌≤◌, ◌+◌, ◌⊎◌, ◌==◌, ◌||◌, ◌&&◌, ℕ, suc, Bool, true, false, refl, sym, ap, ◌∙◌, arith}
use Rattle.std.proofs.Common.{inl, inr, List, [], ◌∷◌, subst, take, drop, fold, cond}
use Rattle.std.specs.Prelude.{Some, None, if◌then◌else◌}
use Rattle.std.specs.Cmp.{first_so, second_so}
use Rattle.std.specs.List.{list_any, prefix_len}
use Rattle.std.proofs.lemmas.Bool.Decides.{Decides-eqb}
use Rattle.edit_marks.specs.declared.edit_conflict.edit.Side.TheVariants.{Before, After}
use Rattle.edit_marks.specs.declared.edit_conflict.mark.Act.{Act}
use Rattle.edit_marks.specs.declared.edit_conflict.mark.Act.TheVariants.{Remove, Insert}
use Rattle.edit_marks.specs.declared.edit_conflict.mark.Mark.{Mark}
use Rattle.edit_marks.specs.declared.edit_conflict.clash.Clash.{Clash}
use Rattle.edit_marks.specs.declared.edit_conflict.clash.Acts.{Acts}
use Rattle.edit_marks.specs.declared.edit_conflict.clash.Settled.{Settled}
use Rattle.edit_marks.specs.EditConflict.Clashes.{NotAfter}
use Rattle.edit_marks.specs.EditConflict.Scan.{acts_with, acts_of_both, no_acts, conflicts, conflicts_on, implies, are_among, settled_at, first_met, is_of}
use Rattle.edit_marks.proofs.EditConflict.Members.{In, In-take, In-drop, In-split, In-any, any-In}
use Rattle.edit_marks.proofs.EditConflict.Ordered.{NoLater, Ordered, Ordered-drop}
use Rattle.edit_marks.proofs.EditConflict.Meets.{conflict, MarkClash}

-- acts taken together

or_assoc : (a b c : Bool) → ((a || b) || c) ≡ (a || (b || c))
or_assoc true b c = refl
or_assoc false b c = refl

or_true : (b : Bool) → (b || true) ≡ true
or_true true = refl
or_true false = refl

or_false : (b : Bool) → b ≡ (b || false)
or_false true = refl
or_false false = refl

joins : (x y : Act) (acts : Acts) → conflicts (acts_with acts x) y ≡ (conflicts acts y || conflict x y)
joins Remove Remove acts = sym (or_true (conflicts acts Remove))
joins Remove (Insert Before more m) acts = sym (or_true (conflicts acts (Insert Before more m)))
joins Remove (Insert After more m) acts = sym (or_true (conflicts acts (Insert After more m)))
joins (Insert Before many n) Remove acts = ap (λ b. b || acts.after) (or_true acts.removes) ∙ sym (or_true (conflicts acts Remove))
joins (Insert After many n) Remove acts = or_true (acts.removes || acts.before) ∙ sym (or_true (conflicts acts Remove))
joins (Insert Before many n) (Insert After more m) acts = or_false (conflicts acts (Insert After more m))
joins (Insert After many n) (Insert Before more m) acts = or_false (conflicts acts (Insert Before more m))
joins (Insert Before true n) (Insert Before true m) acts = sym (or_assoc acts.removes acts.alone_before false)
joins (Insert Before false n) (Insert Before true m) acts = sym (or_assoc acts.removes acts.alone_before true)
joins (Insert Before true n) (Insert Before false m) acts = or_true acts.removes ∙ sym (or_true (acts.removes || acts.before))
joins (Insert Before false n) (Insert Before false m) acts = or_true acts.removes ∙ sym (or_true (acts.removes || acts.before))
joins (Insert After true n) (Insert After true m) acts = sym (or_assoc acts.removes acts.alone_after false)
joins (Insert After false n) (Insert After true m) acts = sym (or_assoc acts.removes acts.alone_after true)
joins (Insert After true n) (Insert After false m) acts = or_true acts.removes ∙ sym (or_true (acts.removes || acts.after))
joins (Insert After false n) (Insert After false m) acts = or_true acts.removes ∙ sym (or_true (acts.removes || acts.after))

all_acts : (acts : Acts) (ms : List Mark) (y : Act)
    → conflicts (fold (λ acts m. acts_with acts m.act) acts ms) y ≡ (conflicts acts y || list_any (λ m. conflict m.act y) ms)
all_acts acts [] y = or_false (conflicts acts y)
all_acts acts (m ∷ ms) y =
    all_acts (acts_with acts m.act) ms y
    ∙ ap (λ b. b || list_any (λ m. conflict m.act y) ms) (joins m.act y acts)
    ∙ or_assoc (conflicts acts y) (conflict m.act y) (list_any (λ m. conflict m.act y) ms)

none_met : (y : Act) → conflicts no_acts y ≡ false
none_met Remove = refl
none_met (Insert Before true n) = refl
none_met (Insert Before false n) = refl
none_met (Insert After true n) = refl
none_met (Insert After false n) = refl

-- a run of acts conflicts if one of them does
pub run_conflicts : (ms : List Mark) (y : Act) → conflicts (fold (λ acts m. acts_with acts m.act) no_acts ms) y ≡ list_any (λ m. conflict m.act y) ms
run_conflicts ms y = all_acts no_acts ms y ∙ ap (λ b. b || list_any (λ m. conflict m.act y) ms) (none_met y)

-- ---- acts that are settled

or_swap : (a b c d : Bool) → ((a || b) || (c || d)) ≡ ((a || c) || (b || d))
or_swap true b c d = refl
or_swap false true c d = sym (or_true c)
or_swap false false c d = refl

-- what conflicts with the acts of both conflicts with those of one
both_conflict : (a b : Acts) (y : Act) → conflicts (acts_of_both a b) y ≡ (conflicts a y || conflicts b y)
both_conflict a b Remove =
    ap (λ s. s || (a.after || b.after)) (or_swap a.removes b.removes a.before b.before)
    ∙ or_swap (a.removes || a.before) (b.removes || b.before) a.after b.after
both_conflict a b (Insert Before true n) = or_swap a.removes b.removes a.alone_before b.alone_before
both_conflict a b (Insert Before false n) = or_swap a.removes b.removes a.before b.before
both_conflict a b (Insert After true n) = or_swap a.removes b.removes a.alone_after b.alone_after
both_conflict a b (Insert After false n) = or_swap a.removes b.removes a.after b.after

-- `those` holds if `these` does
implied : (these those : Bool) → implies these those ≡ true → these ≡ true → those ≡ true
implied true those h e = h
implied false those h e = absurd cc

either_implied : (a b c d : Bool) → implies a c ≡ true → implies b d ≡ true → (a || b) ≡ true → (c || d) ≡ true
either_implied true b c d h k e = ap (λ s. s || d) h
either_implied false b true d h k e = refl
either_implied false b false d h k e = implied b d k e

or_implied : (a b c d : Bool) → implies a c ≡ true → implies b d ≡ true → implies (a || b) (c || d) ≡ true
or_implied true b c d h k = ap (λ s. s || d) h
or_implied false true c d h k = ap (λ s. c || s) k ∙ or_true c
or_implied false false c d h k = refl

-- what conflicts with these acts conflicts with any acts that they are among
among : (those these : Acts) (y : Act) → are_among those these ≡ true → conflicts these y ≡ true → conflicts those y ≡ true
among those these y h e =
    let four = first_so _ _ h in
    let three = first_so _ _ four in
    let two = first_so _ _ three in
    let r = first_so _ _ two in
    let b = second_so _ _ two in
    let a = second_so _ _ three in
    let ob = second_so _ _ four in
    let oa = second_so _ _ h in
    by y r b a ob oa e
  where
    by : (y : Act) → implies these.removes those.removes ≡ true → implies these.before those.before ≡ true → implies these.after those.after ≡ true
        → implies these.alone_before those.alone_before ≡ true → implies these.alone_after those.alone_after ≡ true
        → conflicts these y ≡ true → conflicts those y ≡ true
    by Remove r b a ob oa e =
        either_implied (these.removes || these.before) these.after (those.removes || those.before) those.after
        (or_implied these.removes these.before those.removes those.before r b) a e
    by (Insert Before true n) r b a ob oa e = either_implied these.removes these.alone_before those.removes those.alone_before r ob e
    by (Insert Before false n) r b a ob oa e = either_implied these.removes these.before those.removes those.before r b e
    by (Insert After true n) r b a ob oa e = either_implied these.removes these.alone_after those.removes those.alone_after r oa e
    by (Insert After false n) r b a ob oa e = either_implied these.removes these.after those.removes those.after r a e

not_true : (a : Bool) → (a ≡ true → ⊥) → a ≡ false
not_true true h = absurd (h refl)
not_true false h = refl

-- if no act at the token passes, none is met
pub none_passes : (test : Act → Bool) (token : ℕ) (ms : List Mark)
    → ((d : Mark) → In d ms → d.token ≡ token → test d.act ≡ true → ⊥) → first_met test token ms ≡ None
none_passes test token [] h = refl
none_passes test token (m ∷ ms) h = by (m.token == token) refl (none_passes test token ms (λ d k. h d (inr k)))
  where
    by : (s : Bool) → (m.token == token) ≡ s → first_met test token ms ≡ None
        → (if s then (if test m.act then Some m.edit else first_met test token ms) else None) ≡ None
    by false e rest = refl
    by true e rest =
        let fails = not_true (test m.act) (h m (inl refl) ((Decides-eqb m.token token).0 e)) in
        ap (λ t. if t then Some m.edit else first_met test token ms) fails ∙ rest

-- if nothing is met by some acts, nothing is met by acts that are among them
pub met_less : (those these : Acts) (token : ℕ) (ms : List Mark) → are_among those these ≡ true
    → first_met (conflicts those) token ms ≡ None → first_met (conflicts these) token ms ≡ None
met_less those these token [] h none = refl
met_less those these token (m ∷ ms) h none = by (m.token == token) refl (conflicts those m.act) refl (met_less those these token ms h)
  where
    by : (s : Bool) → (m.token == token) ≡ s → (t : Bool) → conflicts those m.act ≡ t
        → (first_met (conflicts those) token ms ≡ None → first_met (conflicts these) token ms ≡ None)
        → (if s then (if conflicts these m.act then Some m.edit else first_met (conflicts these) token ms) else None) ≡ None
    by false e t f less = refl
    by true e true f less =
        let some : Some m.edit ≡ None = sym (λ i. if e i then (if f i then Some m.edit else first_met (conflicts those) token ms) else None) ∙ none in
        absurd cc
    by true e false f less =
        let rest = sym (λ i. if e i then (if f i then Some m.edit else first_met (conflicts those) token ms) else None) ∙ none in
        let fails = not_true (conflicts these m.act) (λ yes. let no : conflicts those m.act ≡ true = among those these m.act h yes in absurd cc) in
        ap (λ t. if t then Some m.edit else first_met (conflicts these) token ms) fails ∙ less rest

-- no act at this token conflicts with these
abbrev pub Quiet : Acts → ℕ → List Mark → Type 0
Quiet acts token ms = (d : Mark) → In d ms → d.token ≡ token → conflicts acts d.act ≡ true → ⊥

pub quiet_none : (token : ℕ) (ms : List Mark) → Quiet no_acts token ms
quiet_none token ms d k same e = let no : conflicts no_acts d.act ≡ false = none_met d.act in absurd cc

pub quiet_both : (a b : Acts) (token : ℕ) (ms : List Mark) → Quiet a token ms → Quiet b token ms → Quiet (acts_of_both a b) token ms
quiet_both a b token ms h k d l same e = by (conflicts a d.act) refl (conflicts b d.act) refl (sym (both_conflict a b d.act) ∙ e)
  where
    by : (s : Bool) → conflicts a d.act ≡ s → (t : Bool) → conflicts b d.act ≡ t → (conflicts a d.act || conflicts b d.act) ≡ true → ⊥
    by true f t g is = h d l same f
    by false f true g is = k d l same g
    by false f false g is = let no : (conflicts a d.act || conflicts b d.act) ≡ false = λ i. f i || g i in absurd cc

-- what is settled is settled only at its token
pub quiet_at : (s : Settled) (token : ℕ) (ms : List Mark) → Quiet s.acts s.token ms → Quiet (settled_at s token) token ms
quiet_at s token ms h = by (s.token == token) refl
  where
    by : (b : Bool) → (s.token == token) ≡ b → Quiet (if b then s.acts else no_acts) token ms
    by true e = λ d k same. h d k (same ∙ sym ((Decides-eqb s.token token).0 e))
    by false e = quiet_none token ms

-- the first act that is met

pub record Met (test : Act → Bool) (token edit : ℕ) (ms : List Mark) : Type 0 where
  pub mark : Mark
  pub among : In mark ms
  pub token_is : mark.token ≡ token
  pub edit_is : mark.edit ≡ edit
  pub passes : test mark.act ≡ true
  pub least : (d : Mark) → In d ms → d.token ≡ token → test d.act ≡ true → edit ≤ d.edit

same_token : (a b : ℕ) → (a == b) ≡ true → a ≡ b
same_token a b = (Decides-eqb a b).0

other_token : (a b : ℕ) → (a == b) ≡ false → a ≡ b → ⊥
other_token a b f e = let t : (a == b) ≡ true = (Decides-eqb a b).1 e in cc

pub met : (test : Act → Bool) (token edit : ℕ) (ms : List Mark) → Ordered ms → first_met test token ms ≡ Some edit → Met test token edit ms
met test token edit [] o h = absurd cc
met test token edit (m ∷ ms) o h = by (m.token == token) refl (test m.act) refl (met test token edit ms o.1)
  where
    by : (s : Bool) → (m.token == token) ≡ s → (t : Bool) → test m.act ≡ t
        → (first_met test token ms ≡ Some edit → Met test token edit ms) → Met test token edit (m ∷ ms)
    by false e t f rest =
        let none : None ≡ Some edit = sym (ap (λ s. if s then (if test m.act then Some m.edit else first_met test token ms) else None) e) ∙ h in
        absurd cc
    by true e true f rest =
        let is : Some m.edit ≡ Some edit = sym (λ i. if e i then (if f i then Some m.edit else first_met test token ms) else None) ∙ h in
        let edit_is : m.edit ≡ edit = cc in
        let token_is = same_token m.token token e in
        record {
          mark = m;
          among = inl refl;
          token_is = token_is;
          edit_is = edit_is;
          passes = f;
          least = λ d k same passes. elim k [
            | inl here ↦ let same_edit : d.edit ≡ m.edit = ap (λ (x : Mark). x.edit) here in omega arith
            | inr later ↦ elim (o.0 d later) [ inl less ↦ absurd (omega arith) | inr both ↦ omega (arith, both.1) ]
          ];
        }
    by true e false f rest =
        let r = rest (sym (λ i. if e i then (if f i then Some m.edit else first_met test token ms) else None) ∙ h) in
        record {
          mark = r.mark;
          among = inr r.among;
          token_is = r.token_is;
          edit_is = r.edit_is;
          passes = r.passes;
          least = λ d k same passes. elim k [
            | inl here ↦ let yes : test m.act ≡ true = ap (λ (x : Mark). test x.act) (sym here) ∙ passes in absurd cc
            | inr later ↦ r.least d later same passes
          ];
        }

pub not_met : (test : Act → Bool) (token : ℕ) (ms : List Mark) → Ordered ms → ((x : Mark) → In x ms → token ≤ x.token)
    → first_met test token ms ≡ None → (d : Mark) → In d ms → d.token ≡ token → test d.act ≡ true → ⊥
not_met test token [] o up h d k same passes = k
not_met test token (m ∷ ms) o up h d k same passes = by (m.token == token) refl (test m.act) refl (not_met test token ms o.1 (λ x l. up x (inr l)))
  where
    by : (s : Bool) → (m.token == token) ≡ s → (t : Bool) → test m.act ≡ t
        → (first_met test token ms ≡ None → (d : Mark) → In d ms → d.token ≡ token → test d.act ≡ true → ⊥) → ⊥
    by false e t f rest =
        let more = up m (inl refl) in
        let apart : m.token ≡ token → ⊥ = other_token m.token token e in
        elim k [
          | inl here ↦ apart (ap (λ (x : Mark). x.token) (sym here) ∙ same)
          | inr later ↦ elim (o.0 d later) [ inl less ↦ omega arith | inr both ↦ apart (both.0 ∙ same) ]
        ]
    by true e true f rest =
        let some : Some m.edit ≡ None = sym (λ i. if e i then (if f i then Some m.edit else first_met test token ms) else None) ∙ h in
        cc
    by true e false f rest = elim k [
      | inl here ↦ let yes : test m.act ≡ true = ap (λ (x : Mark). test x.act) (sym here) ∙ passes in cc
      | inr later ↦ rest (sym (λ i. if e i then (if f i then Some m.edit else first_met test token ms) else None) ∙ h) d later same passes
    ]

-- a run of one edit at one token

one_more : (n : ℕ) → 1 + n ≡ suc n
one_more n = omega arith

pub in_run : (t p : ℕ) (ms : List Mark) (x : Mark) → In x (take (prefix_len (is_of t p) ms) ms) → (x.token ≡ t) × (x.edit ≡ p)
in_run t p [] x h = absurd h
in_run t p (m ∷ ms) x h = by (is_of t p m) refl (in_run t p ms x) h
  where
    by : (b : Bool) → is_of t p m ≡ b → (In x (take (prefix_len (is_of t p) ms) ms) → (x.token ≡ t) × (x.edit ≡ p))
        → In x (take (cond b (1 + prefix_len (is_of t p) ms) 0) (m ∷ ms)) → (x.token ≡ t) × (x.edit ≡ p)
    by false e rest h = absurd h
    by true e rest h = elim (taken h) [
      | inl here ↦ (
        ap (λ (y : Mark). y.token) here ∙ same_token m.token t (first_so _ _ e),
        ap (λ (y : Mark). y.edit) here ∙ same_token m.edit p (second_so _ _ e),
      )
      | inr later ↦ rest later
    ]
      where
        taken : In x (take (1 + prefix_len (is_of t p) ms) (m ∷ ms)) → (x ≡ m) ⊎ In x (take (prefix_len (is_of t p) ms) ms)
        taken h = subst (λ (n : ℕ). In x (take n (m ∷ ms))) (one_more (prefix_len (is_of t p) ms)) h

-- a is before b
abbrev pub Earlier : ℕ → ℕ → Mark → Type 0
Earlier t p x = (t < x.token) ⊎ ((t ≡ x.token) × (p < x.edit))

below : (n p : ℕ) → (n ≡ p → ⊥) → p ≤ n → p < n
below n p other le = grind (arith, other)

strict : (t p : ℕ) (m : Mark) → is_of t p m ≡ false → (t < m.token) ⊎ ((t ≡ m.token) × (p ≤ m.edit)) → Earlier t p m
strict t p m e le = elim le [
  | inl less ↦ inl less
  | inr both ↦ inr (both.0, apart (m.edit == p) refl both.0 both.1)
]
  where
    apart : (b : Bool) → (m.edit == p) ≡ b → t ≡ m.token → p ≤ m.edit → p < m.edit
    apart true f same le =
        let here : (m.token == t) ≡ true = (Decides-eqb m.token t).1 (sym same) in
        let yes : is_of t p m ≡ true = λ i. here i && f i in
        absurd cc
    apart false f same le =
        below m.edit p (other_token m.edit p f) le

earlier_on : (t p : ℕ) (m x : Mark) → Earlier t p m → NoLater m x → Earlier t p x
earlier_on t p m x h k = elim h [
  | inl less ↦ elim k [ inl more ↦ inl (omega arith) | inr both ↦ inl (omega (arith, both.0)) ]
  | inr same ↦ elim k [ inl more ↦ inl (omega (arith, same.0)) | inr both ↦ inr (same.0 ∙ both.0, omega (arith, same.1, both.1)) ]
]

pub after_run : (t p : ℕ) (ms : List Mark) → Ordered ms
    → ((x : Mark) → In x ms → (t < x.token) ⊎ ((t ≡ x.token) × (p ≤ x.edit))) → (x : Mark) → In x (drop (prefix_len (is_of t p) ms) ms) → Earlier t p x
after_run t p [] o up x h = absurd h
after_run t p (m ∷ ms) o up x h = by (is_of t p m) refl (after_run t p ms o.1 (λ y k. up y (inr k)) x) h
  where
    by : (b : Bool) → is_of t p m ≡ b → (In x (drop (prefix_len (is_of t p) ms) ms) → Earlier t p x)
        → In x (drop (cond b (1 + prefix_len (is_of t p) ms) 0) (m ∷ ms)) → Earlier t p x
    by true e rest h = rest (subst (λ (n : ℕ). In x (drop n (m ∷ ms))) (one_more (prefix_len (is_of t p) ms)) h)
    by false e rest h =
        let here = strict t p m e (up m (inl refl)) in
        elim h [
          | inl is ↦ subst (Earlier t p) (sym is) here
          | inr later ↦ earlier_on t p m x here (o.0 x later)
        ]

-- the remaining acts begin with a run
module _ (m : Mark) (ms : List Mark) (o : Ordered (m ∷ ms)) where
  abbrev pub run : ℕ
  run = prefix_len (is_of m.token m.edit) (m ∷ ms)

  abbrev pub front : List Mark
  front = take run (m ∷ ms)

  abbrev pub back : List Mark
  back = drop run (m ∷ ms)

  up : (x : Mark) → In x (m ∷ ms) → (m.token < x.token) ⊎ ((m.token ≡ x.token) × (m.edit ≤ x.edit))
  up x h = elim h [
    | inl e ↦ inr (sym (ap (λ (y : Mark). y.token) e), let s : x.edit ≡ m.edit = ap (λ (y : Mark). y.edit) e in omega arith)
    | inr k ↦ o.0 x k
  ]

  later : (x : Mark) → In x back → Earlier m.token m.edit x
  later = after_run m.token m.edit (m ∷ ms) o up

  pub back_up : (x : Mark) → In x back → m.token ≤ x.token
  back_up x h = elim (later x h) [ inl less ↦ omega arith | inr both ↦ omega (arith, both.0) ]

  -- of two conflicting acts whose edits are ascending
  record Halves (d : Clash) : Type 0 where
    one : Mark
    two : Mark
    one_front : In one front
    two_back : In two back
    token : m.token ≡ d.token
    two_token : two.token ≡ m.token
    two_edit : two.edit ≡ d.second
    first : m.edit ≡ d.first
    meet : conflict one.act two.act ≡ true

  split : (d : Clash) → MarkClash (m ∷ ms) d → Halves d ⊎ MarkClash back d
  split d c = elim (In-split c.one run (m ∷ ms) c.one_in) [
    | inl one ↦
        let o1 = in_run m.token m.edit (m ∷ ms) c.one one in
        elim (In-split c.two run (m ∷ ms) c.two_in) [
          | inl two ↦ let o2 = in_run m.token m.edit (m ∷ ms) c.two two in absurd (omega (arith, c.rise, c.one_edit, c.two_edit, o1.1, o2.1))
          | inr two ↦ inl (record {
            one = c.one;
            two = c.two;
            one_front = one;
            two_back = two;
            token = sym o1.0 ∙ c.one_token;
            two_token = c.two_token ∙ sym c.one_token ∙ o1.0;
            two_edit = c.two_edit;
            first = sym o1.1 ∙ c.one_edit;
            meet = c.meet;
          })
        ]
    | inr one ↦ elim (In-split c.two run (m ∷ ms) c.two_in) [
      | inl two ↦
          let o2 = in_run m.token m.edit (m ∷ ms) c.two two in
          absurd (elim (later c.one one) [
            | inl less ↦ omega (arith, less, o2.0, c.one_token, c.two_token)
            | inr both ↦ omega (arith, both.1, o2.1, c.rise, c.one_edit, c.two_edit)
          ])
      | inr two ↦ inr (record {
        one = c.one;
        two = c.two;
        one_in = one;
        two_in = two;
        one_token = c.one_token;
        two_token = c.two_token;
        one_edit = c.one_edit;
        two_edit = c.two_edit;
        rise = c.rise;
        meet = c.meet;
      })
    ]
  ]

  tests : (d : Clash) (h : Halves d) → conflicts (fold (λ acts m. acts_with acts m.act) no_acts front) h.two.act ≡ true
  tests d h = run_conflicts front h.two.act ∙ In-any (λ (x : Mark). conflict x.act h.two.act) h.one front h.one_front h.meet

  -- if nothing is met, the remaining acts come after the run
  pub go_on : first_met (conflicts (fold (λ acts m. acts_with acts m.act) no_acts front)) m.token back ≡ None → (d : Clash)
      → MarkClash (m ∷ ms) d → MarkClash back d
  go_on none d c = elim (split d c) [
    | inl h ↦ absurd (not_met (conflicts (fold (λ acts m. acts_with acts m.act) no_acts front)) m.token back
        (Ordered-drop run (m ∷ ms) o) back_up none h.two h.two_back h.two_token (tests d h))
    | inr rest ↦ rest
  ]

  -- what is met is a clash, and no clash comes before it
  pub is_met : (q : ℕ) → first_met (conflicts (fold (λ acts m. acts_with acts m.act) no_acts front)) m.token back ≡ Some q
      → MarkClash (m ∷ ms) (record { token = m.token; first = m.edit; second = q })
      × ((d : Clash) → MarkClash (m ∷ ms) d → NotAfter (record { token = m.token; first = m.edit; second = q }) d)
  is_met q some =
      let found = met (conflicts (fold (λ acts m. acts_with acts m.act) no_acts front)) m.token q back (Ordered-drop run (m ∷ ms) o) some in
      let first = any-In (λ (x : Mark). conflict x.act found.mark.act) front (sym (run_conflicts front found.mark.act) ∙ found.passes) in
      let place = in_run m.token m.edit (m ∷ ms) first.mark first.among in
      let rise : m.edit < q = elim (later found.mark found.among) [
        | inl less ↦ absurd (omega (arith, less, found.token_is))
        | inr both ↦ omega (arith, both.1, found.edit_is)
      ] in (
        record {
          one = first.mark;
          two = found.mark;
          one_in = In-take first.mark run (m ∷ ms) first.among;
          two_in = In-drop found.mark run (m ∷ ms) found.among;
          one_token = place.0;
          two_token = found.token_is;
          one_edit = place.1;
          two_edit = found.edit_is;
          rise = rise;
          meet = first.passes;
        },
        λ d c. elim (split d c) [
          | inl h ↦ inr (h.token, inr (h.first, subst (λ (k : ℕ). q ≤ k) h.two_edit (found.least h.two h.two_back h.two_token (tests d h))))
          | inr rest ↦ elim (later rest.one rest.one_in) [
            | inl less ↦ inl (omega (arith, less, rest.one_token))
            | inr both ↦ inr (both.0 ∙ rest.one_token, inl (omega (arith, both.1, rest.one_edit)))
          ]
        ],
      )
