-- What the rows allow over the tokens as they are seen, and what they derive from the tokens.
use Rattle.std.proofs.Common.{◌≡◌, ◌≤◌, ◌+◌, ℕ, List, [], ◌∷◌, refl, subst, sym, arith}
use Rattle.std.specs.Prelude.{Bool, true, false, not, IsTrue}
use Rattle.c_terms.specs.declared.token.Token.{Token}
use Rattle.c_terms.specs.declared.tree.Tree.{Tree}
use Rattle.c_terms.specs.declared.tree.Tree.TheVariants as tree
use Rattle.c_terms.specs.Trees.{levels, levels_of_all}
use Rattle.c_terms.proofs.TreeLemmas.{levels-Branch}
use Rattle.c_rows.specs.declared.class.Class.{Class}
use Rattle.c_rows.specs.declared.word.Word.{Word}
use Rattle.c_rows.specs.declared.kind.Kind.{Kind}
use Rattle.c_rows.specs.declared.kind.Kind.TheVariants as kind
use Rattle.c_rows.specs.declared.kind.Family.{Family}
use Rattle.c_rows.specs.declared.rule.Rule.{Rule}
use Rattle.c_rows.specs.declared.symbol.Symbol.TheVariants as symbol
use Rattle.c_rows.specs.Words.{fits, ends_member}
use Rattle.c_rows.specs.Kinds.{family_of, has_leaf}
use Rattle.c_rows.specs.Rows.{Row, row, kind_of, label_of}
use Rattle.c_rows.specs.Branches.{begins, may_go}
use Rattle.c_rows.specs.Look.{Names, look}
use Rattle.c_rows.specs.Seen.{Seen, front, front_typed}
use Rattle.c_rows.specs.Spells.{member_kind, Spells, Runs}
use Rattle.c_rows.specs.Spells as seen
use Rattle.c_rows.specs.Range.{leads_member, begins_member, second, may_be_type, NoMember, IsSeenAs, AreSeenAs}
use Rattle.c_rows.specs.Derives.{Derives, leaf, branch, DerivesRow, done, word, child, argument, type_argument, fork}
use Rattle.c_rows.specs.Choice.{every, implies, after, first}
use Rattle.c_rows.specs.Scan.{ends_as_member}
use Rattle.c_rows.proofs.Checks.{and_left, and_right, modus, every_at, closes, joins, joins_at, member_at, joins_rule}
use Rattle.c_rows.proofs.Checks.{joins_way, closes_rule, closes_way, member_after}
use Rattle.c_rows.proofs.FirstLemmas.{within_family, after_mono, runs_first}
use Rattle.c_rows.proofs.DerivesLemmas.{tree_first, member_end, child_end, joins_rest, joins_member, closes_rest, closes_member}
use Rattle.c_rows.proofs.MemberLemmas.{is_args, needs, needs_test, lead_word, word_leads, led, led_rule, led_way, needs_way, never_needs}
use Rattle.c_rows.proofs.LeadLemmas.{token_leads}
use Rattle.c_rows.proofs.TypeLemmas.{behind, type_front}
use Rattle.c_rows.proofs.BracketLemmas.{type_ends}
use Rattle.c_rows.proofs.SeenLemmas.{flag_free, flag_set}

-- ---- levels

part_low : (t : Tree) (cs : List Tree) (n : ℕ) → levels_of_all (t ∷ cs) ≤ n → levels t ≤ n
part_low t cs n h = omega arith

rest_low : (t : Tree) (cs : List Tree) (n : ℕ) → levels_of_all (t ∷ cs) ≤ n → levels_of_all cs ≤ n
rest_low t cs n h = omega arith

parts_low : (r : Rule) (cs : List Tree) (n : ℕ) → levels (tree.Branch (label_of r cs) cs) ≤ n → levels_of_all cs ≤ n
parts_low r cs n h = let e : levels (tree.Branch (label_of r cs) cs) ≡ levels_of_all cs + 1 = levels-Branch (label_of r cs) cs in omega arith

-- ---- tokens and what is seen of them

true_false : true ≡ false → ⊥
true_false e = cc

is_false : (b : Bool) → (IsTrue b → ⊥) → b ≡ false
is_false true h = absurd (h refl)
is_false false h = refl

child_after : (k : Kind) (ps : Row) {us ys : List Seen} {cs : List Tree} → Runs ps us cs ys
    → IsTrue (joins (symbol.Child k ∷ ps)) → IsTrue (closes (symbol.Child k ∷ ps) (front ys)) → IsTrue (after k (front us))
child_after k [] seen.done j c = c
child_after k (p ∷ ps) {us} rest j c =
    modus _ _ (every_at (joins_at k (p ∷ ps)) (and_left (every (joins_at k (p ∷ ps))) (joins (p ∷ ps)) j) (front us))
    (runs_first rest (and_right (every (joins_at k (p ∷ ps))) (joins (p ∷ ps)) j) c)

member_before : (ps : Row) {us ys : List Seen} {cs : List Tree} → Runs ps us cs ys → IsTrue (joins (symbol.Argument ∷ ps))
    → IsTrue (closes (symbol.Argument ∷ ps) (front ys)) → IsTrue (ends_member (front us))
member_before [] seen.done j c = c
member_before (p ∷ ps) {us} rest j c =
    modus _ _ (every_at (member_at (p ∷ ps)) (and_left (every (member_at (p ∷ ps))) (joins (p ∷ ps)) j) (front us))
    (runs_first rest (and_right (every (member_at (p ∷ ps))) (joins (p ∷ ps)) j) c)

module _ (names : Names) where
  pub front_is : (l : Bool) (ts : List Token) (ss : List Seen) → AreSeenAs names l ts ss → front ss ≡ look names ts
  unfolding look
  front_is l [] [] a = refl
  front_is l [] (s ∷ ss) a = absurd a
  front_is l (t ∷ ts) [] a = absurd a
  front_is l (t ∷ ts) (s ∷ ss) a = a.0.class

  -- ---- from what is seen to the tokens

  -- `Wide` holds for the remaining tokens, and `Narrow` for those after a word.
  module _ (may : List Token → List Token → Type 0) (Wide Narrow : List Token → Type 0) (fall : (t : Token) (ts : List Token)
      → Wide (t ∷ ts) → Narrow ts) (widen : (ts : List Token) → Narrow ts → Wide ts) where
    pub record Taken (k : Kind) (ts : List Token) (t : Tree) (ys : List Seen) : Type 0 where
      pub leads : Bool
      pub rest : List Token
      pub right : AreSeenAs names leads rest ys
      pub wide : Wide rest
      pub derived : Derives names may k ts t rest

    record TakenRow (ps : Row) (ts : List Token) (cs : List Tree) (ys : List Seen) : Type 0 where
      leads : Bool
      rest : List Token
      right : AreSeenAs names leads rest ys
      wide : Wide rest
      derived : DerivesRow names may ps ts cs rest

    take_leaf : (k : Kind) (s : Seen) (ys : List Seen) (l : Bool) (ts : List Token) → IsTrue (has_leaf (family_of k) s.class)
        → AreSeenAs names l ts (s ∷ ys) → Wide ts → Taken k ts (tree.Leaf s.token) ys
    take_leaf k s ys l [] h a p = absurd a
    take_leaf k s ys l (t ∷ ts) h a p = record {
      leads = leads_member t;
      rest = ts;
      right = a.1;
      wide = widen ts (fall t ts p);
      derived = subst (λ (x : Token). Derives names may k (t ∷ ts) (tree.Leaf x) ts) (sym a.0.token)
          (leaf (subst (λ (c : Class). IsTrue (has_leaf (family_of k) c)) a.0.class h));
    }

    take_word : (w : Word) (ps : Row) (s : Seen) (xs ys : List Seen) (cs : List Tree) (l : Bool) (ts : List Token)
        → IsTrue (fits w s.class) → AreSeenAs names l ts (s ∷ xs) → Wide ts
        → ((m : Bool) (us : List Token) → AreSeenAs names m us xs → Narrow us → TakenRow ps us cs ys)
        → TakenRow (symbol.Word w ∷ ps) ts (tree.Leaf s.token ∷ cs) ys
    take_word w ps s xs ys cs l [] h a p go = absurd a
    take_word w ps s xs ys cs l (t ∷ ts) h a p go =
        let g = go (leads_member t) ts a.1 (fall t ts p) in
        record {
          leads = g.leads;
          rest = g.rest;
          right = g.right;
          wide = g.wide;
          derived = subst (λ (x : Token). DerivesRow names may (symbol.Word w ∷ ps) (t ∷ ts) (tree.Leaf x ∷ cs) g.rest) (sym a.0.token)
              (word (subst (λ (c : Class). IsTrue (fits w c)) a.0.class h) g.derived);
        }

    -- `allowed`: if what is seen says that there is a type, the type may be there
    module _ (allowed : (l : Bool) (ts us : List Token) (ss ys : List Seen) (t : Tree) → AreSeenAs names l ts ss
        → IsTrue (front_typed ss) → Derives names may kind.TypeArg ts t us
        → IsTrue (ends_member (look names us)) → Narrow ts → may ts us) where
      take_member : (b : Bool) (l : Bool) (ps : Row) (ts us zs : List Token) (ss ys : List Seen) (t : Tree) (cs : List Tree)
          → front_typed ss ≡ b → AreSeenAs names l ts ss
          → Derives names may (member_kind b) ts t us → IsTrue (ends_member (look names us)) → Narrow ts
          → DerivesRow names may ps us cs zs → DerivesRow names may (symbol.Argument ∷ ps) ts (t ∷ cs) zs
      take_member true l ps ts us zs ss ys t cs e a d g p rest = type_argument (allowed l ts us ss ys t a e d g p) d rest
      take_member false l ps ts us zs ss ys t cs e a d g p rest = argument d rest

      mutual
        pub take_tree : {k : Kind} {ss ys : List Seen} {t : Tree} → Spells k ss t ys → (l : Bool) (ts : List Token)
            → AreSeenAs names l ts ss → Wide ts → (IsTrue (is_args (family_of k)) → Narrow ts)
            → IsTrue (after k (front ys)) → Taken k ts t ys
        take_tree {k} (seen.leaf {s = s} {ys = ys} h) l ts a p m f = take_leaf k s ys l ts h a p
        take_tree {k} {ss} {ys} (seen.branch {cs = cs} r w b al runs) l ts a p m f =
            let args : IsTrue (needs (row r)) → Narrow ts =
            λ h. m (subst (λ (o : Family). IsTrue (is_args o)) (within_family (kind_of r) k w)
            (modus (needs (row r)) (is_args (family_of (kind_of r))) (needs_test r) h)) in
            let g = take_row runs l ts a p args (led_rule r) (joins_rule r) (closes_rule r (front ys) (after_mono (kind_of r) k (front ys) w f)) in
            record {
              leads = g.leads;
              rest = g.rest;
              right = g.right;
              wide = g.wide;
              derived = branch r w (subst (λ (c : Class). IsTrue (begins r c)) (front_is l ts ss a) b) al g.derived;
            }

        take_row : {ps : Row} {ss ys : List Seen} {cs : List Tree} → Runs ps ss cs ys → (l : Bool) (ts : List Token)
            → AreSeenAs names l ts ss → Wide ts → (IsTrue (needs ps) → Narrow ts) → IsTrue (led ps)
            → IsTrue (joins ps) → IsTrue (closes ps (front ys)) → TakenRow ps ts cs ys
        take_row seen.done l ts a p m e j c = record { leads = l; rest = ts; right = a; wide = p; derived = done }
        take_row (seen.word {w = w} {ps = ps} {s = s} {xs = xs} {ys = ys} {cs = cs} h rest) l ts a p m e j c =
            take_word w ps s xs ys cs l ts h a p (λ i us b q. take_row rest i us b (widen us q) (λ x. q)
            (and_right (implies (needs ps) (lead_word w)) (led ps) e) j c)
        take_row (seen.child {k = k} {ps = ps} {ys = us} {zs = ys} {t = t} {cs = cs} d rest) l ts a p m e j c =
            let x = take_tree d l ts a p m (child_after k ps rest j c) in
            let y = take_row rest x.leads x.rest x.right x.wide (never_needs (needs ps) (and_left (not (needs ps)) (led ps) e))
            (and_right (not (needs ps)) (led ps) e) (joins_rest k ps j) (closes_rest k ps (front ys) c) in
            record { leads = y.leads; rest = y.rest; right = y.right; wide = y.wide; derived = child x.derived y.derived }
        take_row (seen.argument {ps = ps} {xs = ss} {ys = us} {zs = ys} {t = t} {cs = cs} d rest) l ts a p m e j c =
            let h : IsTrue (ends_member (front us)) = member_before ps rest j c in
            let x = take_tree d l ts a p (λ i. m refl) (member_after (front_typed ss) (front us) h) in
            let y = take_row rest x.leads x.rest x.right x.wide (never_needs (needs ps) (and_left (not (needs ps)) (led ps) e))
            (and_right (not (needs ps)) (led ps) e) (joins_member ps j) (closes_member ps (front ys) c) in
            record {
              leads = y.leads;
              rest = y.rest;
              right = y.right;
              wide = y.wide;
              derived = take_member (front_typed ss) l ps ts x.rest y.rest ss us t cs refl a x.derived
                  (subst (λ (o : Class). IsTrue (ends_member o)) (front_is x.leads x.rest us x.right) h) (m refl) y.derived;
            }
        take_row (seen.fork {f = f} {ps = ps} {ys = ys} i w v way) l ts a p m e j c =
            let y = take_row way l ts a p (λ b. m (needs_way f i ps w b)) (led_way f i ps w) (joins_way f i ps w) (closes_way f i ps (front ys) w c) in
            record {
              leads = y.leads;
              rest = y.rest;
              right = y.right;
              wide = y.wide;
              derived =
                  fork i w (subst (λ (c : Class). IsTrue (may_go f ps c)) (front_is l ts _ a) v) y.derived;
            }

  -- ---- from the tokens to what is seen

  second_is : (l : Bool) (ts : List Token) (ss : List Seen) → AreSeenAs names l ts ss → second ss ≡ look names (behind ts)
  unfolding look
  second_is l [] [] a = refl
  second_is l [] (s ∷ ss) a = absurd a
  second_is l (t ∷ ts) [] a = absurd a
  second_is l (t ∷ ts) (s ∷ ss) a = front_is (leads_member t) ts ss a.1

  -- the first three classes are seen as they are
  type_seen : (t : Token) (ts : List Token) (s : Seen) (ss : List Seen) (l m : Bool) → IsSeenAs names l t ts s ss
      → AreSeenAs names m ts ss → IsTrue (begins_member (look names (t ∷ ts)) (look names ts) (look names (behind ts)))
      → IsTrue (may_be_type (s ∷ ss))
  type_seen t ts s ss l m h a b =
      subst (λ (c : Class). IsTrue (begins_member c (front ss) (second ss))) (sym h.class)
      (subst (λ (d : Class). IsTrue (begins_member (look names (t ∷ ts)) d (second ss))) (sym (front_is m ts ss a))
      (subst (λ (e : Class). IsTrue (begins_member (look names (t ∷ ts)) (look names ts) e)) (sym (second_is m ts ss a)) b))

  flag_true : (l : Bool) (ts : List Token) (ss : List Seen) → AreSeenAs names l ts ss → IsTrue l → NoMember ss
      → IsTrue (begins_member (look names ts) (look names (behind ts)) (look names (behind (behind ts)))) → IsTrue (ends_as_member names ts)
      → (ts ≡ [] → ⊥) → front_typed ss ≡ true
  flag_true l [] ss a h n b z e = absurd (e refl)
  flag_true l (t ∷ ts) [] a h n b z e = absurd a
  flag_true l (t ∷ ts) (s ∷ ss) a h n b z e = a.0.unmarked_else h (type_seen t ts s ss l (leads_member t) a.0 a.1 b) z (flag_set s ss n)

  flag_false : (l : Bool) (ts : List Token) (ss ys : List Seen) (u : Tree) → AreSeenAs names l ts ss
      → Spells kind.AssignLevel ss u ys → IsTrue (ends_member (front ys)) → levels u ≤ 1000 → front_typed ss ≡ false
  flag_false l ts [] ys u a d e n = refl
  flag_false l [] (s ∷ ss) ys u a d e n = absurd a
  flag_false l (t ∷ ts) (s ∷ ss) ys u a d e n = is_false s.typed (λ h. flag_free s ss (a.0.marked h).3 u ys d e n)

  pub some_token : (ts : List Token) → IsTrue (first (family_of kind.TypeArg) (look names ts)) → ts ≡ [] → ⊥
  unfolding look
  some_token [] h e = cc
  some_token (t ∷ ts) h e = cc

  pub some_expression : (ts : List Token) → IsTrue (first (family_of kind.AssignLevel) (look names ts)) → ts ≡ [] → ⊥
  unfolding look
  some_expression [] h e = cc
  some_expression (t ∷ ts) h e = cc

  module _ (Wide Narrow : List Token → Type 0) (fall : (t : Token) (ts : List Token) → Wide (t ∷ ts) → Narrow ts)
      (widen : (ts : List Token) → Narrow ts → Wide ts) where
    pub record Kept (k : Kind) (ss : List Seen) (t : Tree) (us : List Token) : Type 0 where
      pub leads : Bool
      pub rest : List Seen
      pub right : AreSeenAs names leads us rest
      pub wide : Wide us
      pub spelled : Spells k ss t rest

    record KeptRow (ps : Row) (ss : List Seen) (cs : List Tree) (us : List Token) : Type 0 where
      leads : Bool
      rest : List Seen
      right : AreSeenAs names leads us rest
      wide : Wide us
      spelled : Runs ps ss cs rest

    keep_leaf : (k : Kind) (t : Token) (us : List Token) (l : Bool) (ss : List Seen)
        → IsTrue (has_leaf (family_of k) (look names (t ∷ us))) → AreSeenAs names l (t ∷ us) ss → Wide (t ∷ us) → Kept k ss (tree.Leaf t) us
    keep_leaf k t us l [] h a p = absurd a
    keep_leaf k t us l (s ∷ ss) h a p = record {
      leads = leads_member t;
      rest = ss;
      right = a.1;
      wide = widen us (fall t us p);
      spelled = subst (λ (x : Token). Spells k (s ∷ ss) (tree.Leaf x) ss) a.0.token
          (seen.leaf (subst (λ (c : Class). IsTrue (has_leaf (family_of k) c)) (sym a.0.class) h));
    }

    keep_word : (w : Word) (ps : Row) (t : Token) (xs ys : List Token) (cs : List Tree) (l : Bool) (ss : List Seen)
        → IsTrue (fits w (look names (t ∷ xs))) → AreSeenAs names l (t ∷ xs) ss → Wide (t ∷ xs)
        → IsTrue (implies (needs ps) (lead_word w))
        → ((m : Bool) (rest : List Seen) → AreSeenAs names m xs rest → Narrow xs → (IsTrue (needs ps) → IsTrue m) → KeptRow ps rest cs ys)
        → KeptRow (symbol.Word w ∷ ps) ss (tree.Leaf t ∷ cs) ys
    keep_word w ps t xs ys cs l [] h a p n go = absurd a
    keep_word w ps t xs ys cs l (s ∷ ss) h a p n go =
        let f : IsTrue (fits w s.class) = subst (λ (c : Class). IsTrue (fits w c)) (sym a.0.class) h in
        let g = go (leads_member t) ss a.1 (fall t xs p)
        (λ b. token_leads names t xs (word_leads w (look names (t ∷ xs)) (modus (needs ps) (lead_word w) n b) h)) in
        record {
          leads = g.leads;
          rest = g.rest;
          right = g.right;
          wide = g.wide;
          spelled = subst (λ (x : Token). Runs (symbol.Word w ∷ ps) (s ∷ ss) (tree.Leaf x ∷ cs) g.rest) a.0.token (seen.word f g.spelled);
        }

    module _ (may : List Token → List Token → Type 0) where
      -- `barred`: where a type may be and is, no expression can be
      module _ (barred : (l : Bool) (ts us : List Token) (ss : List Seen) (t : Tree) → AreSeenAs names l ts ss → may ts us
          → Derives names may kind.TypeArg ts t us
          → IsTrue (ends_member (look names us)) → Narrow ts → NoMember ss) where
        mutual
          pub keep_tree : {k : Kind} {ts us : List Token} {t : Tree} → Derives names may k ts t us → (l : Bool) (ss : List Seen)
              → AreSeenAs names l ts ss → Wide ts → (IsTrue (is_args (family_of k)) → IsTrue l × Narrow ts)
              → IsTrue (after k (look names us)) → levels t ≤ 1000 → Kept k ss t us
          keep_tree {k} (leaf {t = t} {ys = us} h) l ss a p m f n = keep_leaf k t us l ss h a p
          keep_tree {k} {ts} {us} (branch {cs = cs} r w b al parts) l ss a p m f n =
              let args : IsTrue (needs (row r)) → IsTrue l × Narrow ts =
              λ h. m (subst (λ (o : Family). IsTrue (is_args o)) (within_family (kind_of r) k w)
              (modus (needs (row r)) (is_args (family_of (kind_of r))) (needs_test r) h)) in
              let g = keep_row parts l ss a p args (led_rule r) (joins_rule r)
              (closes_rule r (look names us) (after_mono (kind_of r) k (look names us) w f)) (parts_low r cs 1000 n) in
              record {
                leads = g.leads;
                rest = g.rest;
                right = g.right;
                wide = g.wide;
                spelled = seen.branch r w (subst (λ (c : Class). IsTrue (begins r c)) (sym (front_is l ts ss a)) b) al g.spelled;
              }

          keep_row : {ps : Row} {ts us : List Token} {cs : List Tree} → DerivesRow names may ps ts cs us
              → (l : Bool) (ss : List Seen) → AreSeenAs names l ts ss → Wide ts → (IsTrue (needs ps) → IsTrue l × Narrow ts) → IsTrue (led ps)
              → IsTrue (joins ps) → IsTrue (closes ps (look names us)) → levels_of_all cs ≤ 1000 → KeptRow ps ss cs us
          keep_row done l ss a p m e j c n = record { leads = l; rest = ss; right = a; wide = p; spelled = seen.done }
          keep_row (word {w = w} {ps = ps} {t = t} {xs = xs} {ys = ys} {cs = cs} h rest) l ss a p m e j c n =
              keep_word w ps t xs ys cs l ss h a p (and_left (implies (needs ps) (lead_word w)) (led ps) e)
              (λ i zs b q k. keep_row rest i zs b (widen xs q) (λ x. (k x, q))
              (and_right (implies (needs ps) (lead_word w)) (led ps) e) j c (rest_low (tree.Leaf t) cs 1000 n))
          keep_row (child {k = k} {ps = ps} {ys = mid} {zs = ys} {t = t} {cs = cs} d rest) l ss a p m e j c n =
              let x = keep_tree d l ss a p m (child_end names may k rest j c) (part_low t cs 1000 n) in
              let y = keep_row rest x.leads x.rest x.right x.wide
              (never_needs (needs ps) (and_left (not (needs ps)) (led ps) e)) (and_right (not (needs ps)) (led ps) e)
              (joins_rest k ps j) (closes_rest k ps (look names ys) c) (rest_low t cs 1000 n) in
              record { leads = y.leads; rest = y.rest; right = y.right; wide = y.wide; spelled = seen.child x.spelled y.spelled }
          keep_row (argument {ps = ps} {xs = ts} {ys = mid} {zs = ys} {t = t} {cs = cs} d rest) l ss a p m e j c n =
              let h : IsTrue (ends_member (look names mid)) = member_end names may rest j c in
              let x = keep_tree d l ss a p (λ b. m refl) (member_after false (look names mid) h) (part_low t cs 1000 n) in
              let y = keep_row rest x.leads x.rest x.right x.wide
              (never_needs (needs ps) (and_left (not (needs ps)) (led ps) e)) (and_right (not (needs ps)) (led ps) e)
              (joins_member ps j) (closes_member ps (look names ys) c) (rest_low t cs 1000 n) in
              let g : IsTrue (ends_member (front x.rest)) = subst (λ (o : Class). IsTrue (ends_member o)) (sym (front_is x.leads mid x.rest x.right)) h in
              let f : front_typed ss ≡ false = flag_false l ts ss x.rest t a x.spelled g (part_low t cs 1000 n) in
              record {
                leads = y.leads;
                rest = y.rest;
                right = y.right;
                wide = y.wide;
                spelled = seen.argument (subst (λ (b : Bool). Spells (member_kind b) ss t x.rest) (sym f) x.spelled) y.spelled;
              }
          keep_row (type_argument {ps = ps} {xs = ts} {ys = mid} {zs = ys} {t = t} {cs = cs} o d rest) l ss a p m e j c n =
              let h : IsTrue (ends_member (look names mid)) = member_end names may rest j c in
              let x = keep_tree d l ss a p (λ b. m refl) (member_after true (look names mid) h) (part_low t cs 1000 n) in
              let y = keep_row rest x.leads x.rest x.right x.wide
              (never_needs (needs ps) (and_left (not (needs ps)) (led ps) e)) (and_right (not (needs ps)) (led ps) e)
              (joins_member ps j) (closes_member ps (look names ys) c) (rest_low t cs 1000 n) in
              let f : front_typed ss ≡ true = flag_true l ts ss a (m refl).0 (barred l ts mid ss t a o d h (m refl).1)
              (type_front names may d h) (type_ends names may d h) (some_token ts (tree_first names may d (member_after true (look names mid) h))) in
              record {
                leads = y.leads;
                rest = y.rest;
                right = y.right;
                wide = y.wide;
                spelled = seen.argument (subst (λ (b : Bool). Spells (member_kind b) ss t x.rest) (sym f) x.spelled) y.spelled;
              }
          keep_row (fork {f = f} {ps = ps} {xs = ts} {ys = us} i w v way) l ss a p m e j c n =
              let y = keep_row way l ss a p (λ b. m (needs_way f i ps w b)) (led_way f i ps w) (joins_way f i ps w) (closes_way f i ps (look names us) w c) n in
              record {
                leads = y.leads;
                rest = y.rest;
                right = y.right;
                wide = y.wide;
                spelled =
                    seen.fork i w (subst (λ (c : Class). IsTrue (may_go f ps c)) (sym (front_is l ts ss a)) v) y.spelled;
              }
