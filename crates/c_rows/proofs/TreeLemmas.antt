-- The trees of a range are those that the rows allow over its tokens as they are seen.
use Rattle.std.proofs.Common.{◌≡◌, ◌≤◌, length, ℕ, zero, suc, List, [], ◌∷◌, refl, subst, sym, arith}
use Rattle.std.specs.Prelude.{Bool, true, false, not, ◌&&◌, IsTrue}
use Rattle.c_terms.specs.declared.token.Token.{Token}
use Rattle.c_terms.specs.declared.tree.Tree.{Tree}
use Rattle.c_terms.specs.Trees.{levels}
use Rattle.c_rows.specs.declared.class.Class.{Class}
use Rattle.c_rows.specs.declared.class.Class.TheVariants as class
use Rattle.c_rows.specs.declared.kind.Kind.{Kind}
use Rattle.c_rows.specs.declared.kind.Kind.TheVariants as kind
use Rattle.c_rows.specs.Kinds.{family_of}
use Rattle.c_rows.specs.Look.{Names, look}
use Rattle.c_rows.specs.Seen.{Seen, front, front_typed}
use Rattle.c_rows.specs.Spells.{Spells}
use Rattle.c_rows.specs.Words.{ends_member}
use Rattle.c_rows.specs.Derives.{Derives}
use Rattle.c_rows.specs.Trees.{stands_alone, NoRival, IsTreeOf}
use Rattle.c_rows.specs.Range.{NoMember, AreSeenAs}
use Rattle.c_rows.specs.Choice.{implies, after, stops}
use Rattle.c_rows.proofs.Checks.{and_left, and_right, modus, member_after}
use Rattle.c_rows.proofs.DerivesLemmas.{tree_first}
use Rattle.c_rows.proofs.BracketLemmas.{same_end}
use Rattle.c_rows.proofs.MemberLemmas.{is_args, never_needs}
use Rattle.c_rows.proofs.SeenLemmas.{flag_free}
use Rattle.c_rows.proofs.SightLemmas.{front_is, take_tree, keep_tree, some_token}

abbrev alone_at : Kind → Bool
alone_at k = implies (stands_alone k) (after k class.End && not (is_args (family_of k)))

alone_test : (k : Kind) → IsTrue (alone_at k)
alone_test kind.Post = refl
alone_test _ = refl

abbrev stops_at : Kind → Bool
stops_at k = implies (stands_alone k) (stops k class.End)

stops_test : (k : Kind) → IsTrue (stops_at k)
stops_test kind.Post = refl
stops_test _ = refl

-- A tree that is read by itself ends at the end of the tokens.
pub alone_stops : (k : Kind) → IsTrue (stands_alone k) → IsTrue (stops k class.End)
alone_stops k = modus (stands_alone k) (stops k class.End) (stops_test k)

alone : (k : Kind) → IsTrue (stands_alone k) → IsTrue (after k class.End && not (is_args (family_of k)))
alone k o = modus (stands_alone k) (after k class.End && not (is_args (family_of k))) (alone_test k) o

pub alone_after : (k : Kind) → IsTrue (stands_alone k) → IsTrue (after k class.End)
alone_after k o = and_left (after k class.End) (not (is_args (family_of k))) (alone k o)

alone_args : (k : Kind) {A : Type 0} → IsTrue (stands_alone k) → IsTrue (is_args (family_of k)) → A
alone_args k o = never_needs (is_args (family_of k)) (and_right (after k class.End) (not (is_args (family_of k))) (alone k o))

module _ (names : Names) where
  front_end : (l : Bool) (us : List Token) (ys : List Seen) → AreSeenAs names l us ys → IsTrue (ends_member (front ys)) → IsTrue (ends_member (look names us))
  front_end l us ys a h = subst (λ (c : Class). IsTrue (ends_member c)) (front_is names l us ys a) h

  end_front : (l : Bool) (us : List Token) (ys : List Seen) → AreSeenAs names l us ys → IsTrue (ends_member (look names us)) → IsTrue (ends_member (front ys))
  end_front l us ys a h = subst (λ (c : Class). IsTrue (ends_member c)) (sym (front_is names l us ys a)) h

  nothing_left : (l : Bool) (ss : List Seen) → AreSeenAs names l [] ss → ss ≡ []
  nothing_left l [] a = refl
  nothing_left l (s ∷ ss) a = absurd a

  no_tokens : (l : Bool) (ts : List Token) → AreSeenAs names l ts [] → ts ≡ []
  no_tokens l [] a = refl
  no_tokens l (t ∷ ts) a = absurd a

  flag_none : (l : Bool) (ts : List Token) (ss : List Seen) → AreSeenAs names l ts ss → IsTrue (front_typed ss) → NoMember ss
  flag_none l ts [] a h = let never : ⊥ = cc in absurd never
  flag_none l [] (s ∷ ss) a h = absurd a
  flag_none l (t ∷ ts) (s ∷ ss) a h = flag_free s ss (a.0.marked h).3

  no_args : {A : Type 0} → IsTrue (is_args (family_of kind.AssignLevel)) → A
  no_args h = let never : ⊥ = cc in absurd never

  -- A whole tree that is seen, from a reading of types.
  module _ (may : List Token → List Token → Type 0) (Wide Narrow : List Token → Type 0) (fall : (t : Token) (ts : List Token)
      → Wide (t ∷ ts) → Narrow ts) (widen : (ts : List Token) → Narrow ts → Wide ts) where
    whole_taken : ((l : Bool) (ts us : List Token) (ss ys : List Seen) (t : Tree) → AreSeenAs names l ts ss
        → IsTrue (front_typed ss) → Derives names may kind.TypeArg ts t us
        → IsTrue (ends_member (look names us)) → Narrow ts → may ts us)
        → (k : Kind) (ts : List Token) (t : Tree) (ss : List Seen) → IsTrue (stands_alone k) → AreSeenAs names false ts ss
        → Wide ts → Spells k ss t [] → Derives names may k ts t []
    whole_taken allowed k ts t ss o a p d =
        let x = take_tree names may Wide Narrow fall widen allowed d false ts a p (alone_args k o) (alone_after k o) in
        subst (λ (r : List Token). Derives names may k ts t r) (no_tokens x.leads x.rest x.right) x.derived

    whole_kept : ((l : Bool) (ts us : List Token) (ss : List Seen) (t : Tree) → AreSeenAs names l ts ss → may ts us → Derives names may kind.TypeArg ts t us
        → IsTrue (ends_member (look names us)) → Narrow ts → NoMember ss)
        → (k : Kind) (ts : List Token) (t : Tree) (ss : List Seen) → IsTrue (stands_alone k) → AreSeenAs names false ts ss
        → Wide ts → Derives names may k ts t [] → levels t ≤ 1000 → Spells k ss t []
    unfolding look
    whole_kept barred k ts t ss o a p d n =
        let x = keep_tree names Wide Narrow fall widen may barred d false ss a p (alone_args k o) (alone_after k o) n in
        subst (λ (r : List Seen). Spells k ss t r) (nothing_left x.leads x.rest x.right) x.spelled

  -- ---- the rule, applied to the rivals too

  abbrev Short : ℕ → List Token → Type 0
  Short n ts = length ts ≤ n

  fall_short : (n : ℕ) (t : Token) (ts : List Token) → Short (suc n) (t ∷ ts) → Short n ts
  fall_short n t ts h = omega arith

  widen_short : (n : ℕ) (ts : List Token) → Short n ts → Short (suc n) ts
  widen_short n ts h = omega arith

  none_short : (t : Token) (ts : List Token) → Short 0 (t ∷ ts) → ⊥
  none_short t ts h = omega arith

  mutual
    rule_allowed : (n : ℕ) (l : Bool) (ts us : List Token) (ss ys : List Seen) (t : Tree) → AreSeenAs names l ts ss
        → IsTrue (front_typed ss) → Derives names (NoRival names n) kind.TypeArg ts t us
        → IsTrue (ends_member (look names us)) → Short n ts → NoRival names n ts us
    rule_allowed zero l ts us ss ys t a o d h p = tt
    rule_allowed (suc n) l ts us ss ys t a o d h p = λ u e low.
        let y = keep_tree names (Short (suc n)) (Short n) (fall_short n) (widen_short n) (NoRival names n)
        (rule_barred n) e l ss a p no_args (member_after false (look names us) h) low in
        flag_none l ts ss a o u y.rest y.spelled (end_front y.leads us y.rest y.right h) low

    rule_barred : (n : ℕ) (l : Bool) (ts us : List Token) (ss : List Seen) (t : Tree) → AreSeenAs names l ts ss
        → NoRival names n ts us → Derives names (NoRival names n) kind.TypeArg ts t us
        → IsTrue (ends_member (look names us)) → Short n ts → NoMember ss
    rule_barred zero l [] us ss t a none d h p =
        λ u ys x g low. some_token names [] (tree_first names (NoRival names 0) d (member_after true (look names us) h)) refl
    rule_barred zero l (x ∷ ts) us ss t a none d h p = absurd (none_short x ts p)
    rule_barred (suc n) l ts us ss t a none d h p = λ u ys x g low.
        let e = take_tree names (NoRival names n) (Short (suc n)) (Short n) (fall_short n) (widen_short n)
        (rule_allowed n) x l ts a p no_args (member_after false (front ys) g) in
        let same : us ≡ e.rest = same_end names (NoRival names (suc n)) (NoRival names n) d e.derived h (front_end e.leads e.rest ys e.right g) in
        none u (subst (λ (zs : List Token). Derives names (NoRival names n) kind.AssignLevel ts u zs) (sym same) e.derived) low

  all_short : (ts : List Token) → Short (suc (length ts)) ts
  all_short ts = omega arith

  -- A tree of the range is one that the rows allow over the tokens as they are seen,
  pub tree_spelled : (k : Kind) (ts : List Token) (t : Tree) (ss : List Seen) → IsTrue (stands_alone k)
      → AreSeenAs names false ts ss → IsTreeOf k names ts t → Spells k ss t []
  tree_spelled k ts t ss o a h =
      whole_kept (NoRival names (length ts)) (Short (suc (length ts))) (Short (length ts)) (fall_short (length ts))
      (widen_short (length ts)) (rule_barred (length ts)) k ts t ss o a (all_short ts) h.derived h.shallow

  -- and conversely.
  pub spelled_tree : (k : Kind) (ts : List Token) (t : Tree) (ss : List Seen) → IsTrue (stands_alone k)
      → AreSeenAs names false ts ss → Spells k ss t [] → levels t ≤ 1000 → IsTreeOf k names ts t
  spelled_tree k ts t ss o a d n = record {
    derived = whole_taken (NoRival names (length ts)) (Short (suc (length ts))) (Short (length ts)) (fall_short (length ts))
        (widen_short (length ts)) (rule_allowed (length ts)) k ts t ss o a (all_short ts) d;
    shallow = n;
  }
