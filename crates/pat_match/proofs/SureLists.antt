-- The same for lists, and so for all forms.
use Rattle.std.proofs.Common.{◌≡◌, ℕ, suc, zero, ◌+◌, ◌<◌, Bool, true, false, ◌&&◌, ◌||◌, cond, refl, sym, ap, ◌∙◌, subst}
use Rattle.std.proofs.Common.{arith, List, [], ◌∷◌, ◌++◌, map, length, take, drop, Option, Some, None, slice_get, inl, inr, ◌⊎◌}
use Rattle.std.proofs.Common.{⊎_elim, if◌then◌else◌}
use Rattle.std.specs.List.{list_any}
use Rattle.std.proofs.lemmas.Bool.Decides.{nat_tests}
use Rattle.c_terms.specs.declared.token.Token.{Token}
use Rattle.c_terms.specs.declared.token.TokenKind.{TokenKind}
use Rattle.c_terms.specs.declared.token.TokenKind.TheVariants as kind
use Rattle.c_terms.specs.declared.label.Label.{Label}
use Rattle.c_terms.specs.declared.list.Member.{Member}
use Rattle.c_terms.specs.declared.shape.Shape.TheVariants as shape
use Rattle.c_terms.specs.declared.tree.Tree.{Tree, out-Tree}
use Rattle.c_terms.specs.declared.tree.Tree.TheVariants.{Leaf, Branch}
use Rattle.c_terms.specs.Trees.{leaves, join}
use Rattle.c_terms.specs.Shapes.{shape_of}
use Rattle.c_terms.specs.Lists.{is_punct, is_comma, comma, comma_at, members, members_from, comma_kids, more_kids, run_kids, run}
use Rattle.c_terms.specs.Same.{same_label}
use Rattle.c_terms.proofs.NumberLaws.{label_number-injective}
use Rattle.c_terms.proofs.TreeLemmas.{leaves-Leaf, leaves-Branch}
use Rattle.c_terms.proofs.SameLemmas.{out-Leaf, out-Branch}
use Rattle.c_terms.proofs.Induct.{Each, tree_cases}
use Rattle.c_types.specs.Tables.{ItemTypes}
use Rattle.smpl_terms.specs.declared.var.Var.{Var}
use Rattle.smpl_terms.specs.declared.value.Value.{Value}
use Rattle.smpl_terms.specs.declared.value.Value.TheVariants as value
use Rattle.smpl_terms.specs.Values.{same}
use Rattle.smpl_terms.specs.Environments.{Environment}
use Rattle.smpl_terms.proofs.VarLaws.{same_var-equal}
use Rattle.smpl_patch.specs.declared.pattern.VarDecl.{VarDecl}
use Rattle.smpl_patch.specs.declared.pattern.PatToken.{PatToken}
use Rattle.smpl_patch.specs.Patterns.{declared_as, is_var_of, is_meta_of, is_position_of, is_own, is_sure}
use Rattle.smpl_patch.proofs.SureLemmas.{sure-Leaf}
use Rattle.pat_match.specs.Tokens.{id_of, first_id, value_is, run_is}
use Rattle.pat_match.specs.Runs.{is_wild, comma_fits, run_fits, single_fits, takes, some_below, runs_from, list_fits}
use Rattle.pat_match.specs.Fitting.{leaf_of, kids_fit, piece, fits_tree}
use Rattle.pat_match.specs.Valued.{has_value}
use Rattle.pat_match.proofs.Pieces.{piece-token}
use Rattle.pat_match.proofs.RowLemmas.{choice}
use Rattle.pat_match.proofs.CountLemmas.{drop_more}
use Rattle.pat_match.proofs.ValueLemmas.{and_left, and_right, or_cases, or_left, or_right, has-first, has-kid, has-run}
use Rattle.pat_match.proofs.SureLaw.{position_at, any_sure, Law, Fit, ListLaw, sure_law}

pub below_elim : (test : ℕ → Bool) (n : ℕ) → some_below test n ≡ true → (k : ℕ) × (k < n) × (test k ≡ true)
below_elim test zero h = absurd (cc)
below_elim test (suc n) h = ⊎_elim
    (λ a. let r = below_elim test n a in (r.0, omega (arith, r.1), r.2)) (λ b. (n, omega arith, b)) (or_cases (some_below test n) (test n) h)

pub any_drop : {X : Type 0} (q : X → Bool) (xs : List X) (i : ℕ) → list_any q (drop i xs) ≡ true → list_any q xs ≡ true
any_drop q xs zero h = h
any_drop q [] (suc i) h = absurd (cc)
any_drop q (x ∷ xs) (suc i) h = or_right _ _ (any_drop q xs i h)

pub any_take : {X : Type 0} (q : X → Bool) (xs : List X) (i : ℕ) → list_any q (take i xs) ≡ true → list_any q xs ≡ true
any_take q xs zero h = absurd (cc)
any_take q [] (suc i) h = absurd (cc)
any_take q (x ∷ xs) (suc i) h = ⊎_elim (λ a. or_left _ _ a) (λ b. or_right _ _ (any_take q xs i b)) (or_cases (q x) (list_any q (take i xs)) h)

abbrev is_id : Option ℕ → Value → Bool
is_id None v = false
is_id (Some id) v = same (value.Place id) v

abbrev tree_has : Value → Member → Bool
tree_has v m = has_value m.tree v

abbrev comma_is : Value → Member → Bool
comma_is v m = is_id (id_of m.comma) v

-- a claim that follows from what a list says of a value
record Given (l : Label) (v : Value) (Q : Type 0) (ms : List Member) : Type 0 where
  member : list_any (tree_has v) ms ≡ true → Q
  comma : list_any (comma_is v) ms ≡ true → Q
  runs : (j k : ℕ) → same (value.Term (run l (take k (drop j ms)))) v ≡ true → Q

given_drop : (l : Label) (v : Value) (Q : Type 0) (ms : List Member) (i : ℕ) → Given l v Q ms → Given l v Q (drop i ms)
given_drop l v Q ms i g = record {
  member = λ h. g.member (any_drop (tree_has v) ms i h);
  comma = λ h. g.comma (any_drop (comma_is v) ms i h);
  runs = λ j k h. g.runs (i + j) k (ap (λ ns. same (value.Term (run l (take k ns))) v) (sym (drop_more ms i j)) ∙ h);
}

-- the first token of a run is one of a member or a comma

abbrev first_of : List Token → Option ℕ
first_of ts = id_of (slice_get ts 0)

first-more : (xs ys : List Token) (id : ℕ) → first_of (xs ++ ys) ≡ Some id → (first_of xs ≡ Some id) ⊎ (first_of ys ≡ Some id)
first-more [] ys id h = inr h
first-more (x ∷ xs) ys id h = inl h

place_at : (a b : ℕ) (v : Value) → Some a ≡ Some b → same (value.Place b) v ≡ true → same (value.Place a) v ≡ true
place_at a b v e h = let s : a ≡ b = cc in ap (λ n. same (value.Place n) v) s ∙ h

abbrev leaves_of : List Tree → List Token
leaves_of ts = join (map leaves ts)

after_first : (o : Option Token) (t : Tree) (rest : List Tree) (v : Value) (id : ℕ) → same (value.Place id) v ≡ true
    → first_of (leaves_of (comma_kids o ++ t ∷ rest)) ≡ Some id
    → (is_id (id_of o) v ≡ true) ⊎ ((has_value t v ≡ true) ⊎ (first_of (leaves_of rest) ≡ Some id))
after_first None t rest v id s h = ⊎_elim (λ f. inr (inl (has-first t id v f s))) (λ g. inr (inr g)) (first-more (leaves t) (leaves_of rest) id h)
after_first (Some c) t rest v id s h =
    let e : first_of ((c ∷ []) ++ leaves_of (t ∷ rest)) ≡ Some id = ap (λ ts. first_of (ts ++ leaves_of (t ∷ rest))) (sym (leaves-Leaf c)) ∙ h in
    inl (place_at c.id id v e s)

more_first : (ms : List Member) (v : Value) (id : ℕ) → same (value.Place id) v ≡ true → first_of (leaves_of (more_kids ms)) ≡ Some id
    → (list_any (tree_has v) ms ≡ true) ⊎ (list_any (comma_is v) ms ≡ true)
more_first [] v id s h = absurd (cc)
more_first (m ∷ ms) v id s h = ⊎_elim (λ a. inr (or_left _ _ a))
    (λ b. ⊎_elim (λ a. inl (or_left _ _ a)) (λ f. ⊎_elim (λ a. inl (or_right _ _ a)) (λ a. inr (or_right _ _ a)) (more_first ms v id s f)) b)
    (after_first m.comma m.tree (more_kids ms) v id s h)

run_first : (ms : List Member) (v : Value) (id : ℕ) → same (value.Place id) v ≡ true → first_of (leaves_of (run_kids ms)) ≡ Some id
    → (list_any (tree_has v) ms ≡ true) ⊎ (list_any (comma_is v) ms ≡ true)
run_first [] v id s h = absurd (cc)
run_first (m ∷ ms) v id s h = ⊎_elim (λ f. inl (or_left _ _ (has-first m.tree id v f s)))
    (λ f. ⊎_elim (λ a. inl (or_right _ _ a)) (λ a. inr (or_right _ _ a)) (more_first ms v id s f))
    (first-more (leaves m.tree) (leaves_of (more_kids ms)) id h)

-- the members and commas of a list are among its children

kid_step : (b : Option Token) (u : Tree) (us : List Tree) (v : Value) (o : Option Token)
    → ((c : Option Token) → list_any (tree_has v) (members_from c us) ≡ true → list_any (λ u. has_value u v) us ≡ true)
    → list_any (tree_has v) (elim o as (λ o. List Member) [
      | None ↦ record { comma = b; tree = u } ∷ members_from None us
      | Some c ↦ members_from (Some c) us
    ]) ≡ true
    → list_any (λ u. has_value u v) (u ∷ us) ≡ true
kid_step b u us v None ih h = ⊎_elim (λ a. or_left _ _ a) (λ a. or_right _ _ (ih None a))
    (or_cases (has_value u v) (list_any (tree_has v) (members_from None us)) h)
kid_step b u us v (Some c) ih h = or_right _ _ (ih (Some c) h)

kid_of : (us : List Tree) (v : Value) (b : Option Token) → list_any (tree_has v) (members_from b us) ≡ true → list_any (λ u. has_value u v) us ≡ true
kid_of [] v b h = absurd (cc)
kid_of (u ∷ us) v b h = kid_step b u us v (comma u) (kid_of us v) h

chosen : (a c : Token) (b : Bool) → (if b then Some a else None) ≡ Some c → (a ≡ c) × (b ≡ true)
chosen a c true h = (cc, refl)
chosen a c false h = absurd (cc)

comma_leaf : (a c : Token) → comma (Leaf a) ≡ Some c → (a ≡ c) × (is_comma a ≡ true)
comma_leaf a c h = chosen a c (is_comma a) (sym (ap comma_at (out-Leaf a)) ∙ h)

leaf_first : (a : Token) → first_id (Leaf a) ≡ Some a.id
leaf_first a = ap first_of (leaves-Leaf a)

comma_has : (v : Value) (c : Token) (u : Tree) → comma u ≡ Some c → same (value.Place c.id) v ≡ true → has_value u v ≡ true
comma_has v c = tree_cases (λ u. comma u ≡ Some c → same (value.Place c.id) v ≡ true → has_value u v ≡ true)
    (λ a h s. let p = comma_leaf a c h in has-first (Leaf a) c.id v (leaf_first a ∙ ap (λ (t : Token). Some t.id) p.0) s)
    (λ l cs h s. let f = sym (ap comma_at (out-Branch l cs)) ∙ h in absurd (cc))

comma_step : (b : Option Token) (u : Tree) (us : List Tree) (v : Value) (o : Option Token) → comma u ≡ o
    → ((c : Option Token) → list_any (comma_is v) (members_from c us) ≡ true → (is_id (id_of c) v ≡ true) ⊎ (list_any (λ u. has_value u v) us ≡ true))
    → list_any (comma_is v) (elim o as (λ o. List Member) [
      | None ↦ record { comma = b; tree = u } ∷ members_from None us
      | Some c ↦ members_from (Some c) us
    ]) ≡ true
    → (is_id (id_of b) v ≡ true) ⊎ (list_any (λ u. has_value u v) (u ∷ us) ≡ true)
comma_step b u us v None e ih h = ⊎_elim (λ a. inl a) (λ a. ⊎_elim (λ n. absurd (cc)) (λ r. inr (or_right _ _ r)) (ih None a))
    (or_cases (is_id (id_of b) v) (list_any (comma_is v) (members_from None us)) h)
comma_step b u us v (Some c) e ih h = ⊎_elim (λ a. inr (or_left _ _ (comma_has v c u e a))) (λ r. inr (or_right _ _ r)) (ih (Some c) h)

comma_kid : (us : List Tree) (v : Value) (b : Option Token) → list_any (comma_is v) (members_from b us) ≡ true
    → (is_id (id_of b) v ≡ true) ⊎ (list_any (λ u. has_value u v) us ≡ true)
comma_kid [] v b h = absurd (cc)
comma_kid (u ∷ us) v b h = comma_step b u us v (comma u) refl (comma_kid us v) h

given_members : (l : Label) (us : List Tree) (v : Value) → shape_of l ≡ shape.List → Given l v (has_value (Branch l us) v ≡ true) (members us)
given_members l us v e = record {
  member = λ h. has-kid l us v (kid_of us v None h);
  comma = λ h. ⊎_elim (λ n. absurd (cc)) (λ r. has-kid l us v r) (comma_kid us v None h);
  runs = λ j k h. has-run l us v j k e h;
}

punct_meta : (decls : List VarDecl) (a : Token) (k : TokenKind) (x : Var) → is_punct k ≡ true → is_meta_of decls a k x ≡ false
punct_meta decls a (kind.Meta k) x h = absurd (cc)
punct_meta decls a _ x h = refl

module _ (decls : List VarDecl) (tokens : List PatToken) (types : ItemTypes) (env : Environment) (x : Var) (l : Label) (Q : Type 0) where
  abbrev before_sure : Option Token → Bool
  before_sure None = false
  before_sure (Some a) = is_position_of (slice_get tokens a.id) x

  comma_own : (d : Token) (c : Tree) → comma c ≡ Some d → is_sure decls tokens x c ≡ true → before_sure (Some d) ≡ true
  comma_own d = tree_cases (λ c. comma c ≡ Some d → is_sure decls tokens x c ≡ true → before_sure (Some d) ≡ true)
      (λ a h s. let p = comma_leaf a d h in ⊎_elim
      (λ m. let n = punct_meta decls a a.kind x (and_left _ _ p.1) in absurd (cc))
      (λ q. subst (λ (t : Token). is_position_of (slice_get tokens t.id) x ≡ true) p.0 q)
      (or_cases (is_meta_of decls a a.kind x) (is_position_of (slice_get tokens a.id) x) (sym (sure-Leaf decls tokens x a) ∙ s)))
      (λ k cs h s. let f = sym (ap comma_at (out-Branch k cs)) ∙ h in absurd (cc))

  comma_law : (o : Option Token) (ms : List Member) (k : ℕ) → Given l (env x) Q ms → comma_fits decls tokens env o (take k ms) ≡ true → before_sure o ≡ true → Q
  comma_law None ms k g h s = absurd (cc)
  comma_law (Some a) ms zero g h s = let p = position_at decls tokens types env x (slice_get tokens a.id) None h s in let e = p.1 in absurd (cc)
  comma_law (Some a) [] (suc k) g h s = let p = position_at decls tokens types env x (slice_get tokens a.id) None h s in let e = p.1 in absurd (cc)
  comma_law (Some a) (m ∷ ms) (suc k) g h s =
      let p = position_at decls tokens types env x (slice_get tokens a.id) (id_of m.comma) h s in
      g.comma (or_left _ _ (ap (λ o. is_id o (env x)) p.1 ∙ p.2))

  single_law : (c : Tree) (ms : List Member) → Law decls tokens types env x c → single_fits (fits_tree decls tokens types env c) ms ≡ true
      → is_sure decls tokens x c ≡ true
      → list_any (tree_has (env x)) ms ≡ true
  single_law c [] w h s = absurd (cc)
  single_law c (m ∷ []) w h s = or_left _ _ (w m.tree h s)
  single_law c (m ∷ n ∷ ms) w h s = absurd (cc)

  value_law : (o : Option VarDecl) (t : Tree) → value_is decls env o t ≡ true → is_var_of o x ≡ true → same (value.Term t) (env x) ≡ true
  value_law None t h s = absurd (cc)
  value_law (Some d) t h s = subst (λ z. same (value.Term t) (env z) ≡ true) (same_var-equal d.var x s) h

  meta_run : (k : TokenKind) (a : Token) (t : Tree) → run_is decls env k a t ≡ true → is_meta_of decls a k x ≡ true → same (value.Term t) (env x) ≡ true
  meta_run (kind.Meta k) a t h s = value_law (declared_as decls a.text) t h s
  meta_run _ a t h s = absurd (cc)

  run_law : (a : Token) (ms : List Member) (k : ℕ) → Given l (env x) Q ms
      → run_fits decls tokens env l (Some a) (take k ms) ≡ true → is_own decls tokens x a ≡ true → Q
  run_law a ms k g h s = ⊎_elim
      (λ m. g.runs 0 k (meta_run a.kind a (run l (take k ms)) (and_left _ _ h) m))
      (λ p.
      let q = position_at decls tokens types env x (slice_get tokens a.id) (first_id (run l (take k ms))) (and_right _ _ h) p in
      ⊎_elim (λ f. g.member (any_take (tree_has (env x)) ms k f)) (λ f. g.comma (any_take (comma_is (env x)) ms k f))
      (run_first (take k ms) (env x) q.0 q.2 (ap first_of (sym (leaves-Branch l (run_kids (take k ms)))) ∙ q.1)))
      (or_cases (is_meta_of decls a a.kind x) (is_position_of (slice_get tokens a.id) x) s)

  wild_law : (ms : List Member) (k : ℕ) → Given l (env x) Q ms → (c : Tree)
      → run_fits decls tokens env l (leaf_of (out-Tree c)) (take k ms) ≡ true → is_sure decls tokens x c ≡ true → Q
  wild_law ms k g = tree_cases (λ c. run_fits decls tokens env l (leaf_of (out-Tree c)) (take k ms) ≡ true → is_sure decls tokens x c ≡ true → Q)
      (λ a h s. run_law a ms k g (sym (ap (λ y. run_fits decls tokens env l (leaf_of y) (take k ms)) (out-Leaf a)) ∙ h) (sym (sure-Leaf decls tokens x a) ∙ s))
      (λ j cs h s. let f = sym (ap (λ y. run_fits decls tokens env l (leaf_of y) (take k ms)) (out-Branch j cs)) ∙ h in absurd (cc))

  member_law : (c : Tree) (ms : List Member) (k : ℕ) (w : Bool) → Law decls tokens types env x c → Given l (env x) Q ms
      → cond w (run_fits decls tokens env l (piece decls tokens types env c).token (take k ms)) (single_fits (fits_tree decls tokens types env c) (take k ms))
      ≡ true
      → is_sure decls tokens x c ≡ true → Q
  member_law c ms k true law g h s = wild_law ms k g c (sym (ap (λ o. run_fits decls tokens env l o (take k ms)) (piece-token decls tokens types env c)) ∙ h) s
  member_law c ms k false law g h s = g.member (any_take (tree_has (env x)) ms k (single_law c (take k ms) law h s))

  abbrev RunsLaw : List Tree → Type 0
  RunsLaw cs = (before : Option Token) (ms : List Member) → Given l (env x) Q ms
      → runs_from decls tokens env l before (map (piece decls tokens types env) cs) ms ≡ true
      → (before_sure before || any_sure decls tokens types env x cs) ≡ true → Q

  runs_step : (c : Tree) (cs : List Tree) → Law decls tokens types env x c → RunsLaw cs → (before : Option Token) (ms : List Member) (o : Option Token)
      → comma c ≡ o
      → Given l (env x) Q ms
      → elim o as (λ o. Bool) [
        | None ↦ some_below (λ k. takes decls tokens env l before (piece decls tokens types env c) (take k ms)
            && runs_from decls tokens env l None (map (piece decls tokens types env) cs) (drop k ms)) (suc (length ms))
        | Some d ↦ comma_fits decls tokens env before [] && runs_from decls tokens env l (Some d) (map (piece decls tokens types env) cs) ms
      ] ≡ true
      → (before_sure before || (is_sure decls tokens x c || any_sure decls tokens types env x cs)) ≡ true → Q
  runs_step c cs law ih before ms None e g h s =
      let r = below_elim _ (suc (length ms)) h in
      ⊎_elim (λ a. comma_law before ms r.0 g (and_left _ _ (and_left _ _ r.2)) a)
      (λ b. ⊎_elim (λ a. member_law c ms r.0 (is_wild l (piece decls tokens types env c).token) law g (and_right _ _ (and_left _ _ r.2)) a)
      (λ a. ih None (drop r.0 ms) (given_drop l (env x) Q ms r.0 g) (and_right _ _ r.2) a)
      (or_cases (is_sure decls tokens x c) (any_sure decls tokens types env x cs) b))
      (or_cases (before_sure before) (is_sure decls tokens x c || any_sure decls tokens types env x cs) s)
  runs_step c cs law ih before ms (Some d) e g h s =
      ⊎_elim (λ a. comma_law before ms 0 g (and_left _ _ h) a)
      (λ b. ⊎_elim (λ a. ih (Some d) ms g (and_right _ _ h) (or_left _ _ (comma_own d c e a)))
      (λ a. ih (Some d) ms g (and_right _ _ h) (or_right _ _ a)) (or_cases (is_sure decls tokens x c) (any_sure decls tokens types env x cs) b))
      (or_cases (before_sure before) (is_sure decls tokens x c || any_sure decls tokens types env x cs) s)

  runs_law : (cs : List Tree) → Each (Law decls tokens types env x) cs → RunsLaw cs
  runs_law [] e before [] g h s = comma_law before [] 0 g h (⊎_elim (λ a. a) (λ n. absurd (cc)) (or_cases (before_sure before) false s))
  runs_law [] e before (m ∷ ms) g h s = absurd (cc)
  runs_law (c ∷ cs) e before ms g h s =
      runs_step c cs e.0 (runs_law cs e.1) before ms (comma c) refl g (sym (choice decls tokens types l env before c cs ms (comma c) refl) ∙ h) s

label-equal : (l k : Label) → same_label l k ≡ true → l ≡ k
label-equal l k h = label_number-injective l k (grind (arith, nat_tests))

module _ (decls : List VarDecl) (tokens : List PatToken) (types : ItemTypes) (env : Environment) (x : Var) where
  list_law : ListLaw decls tokens types env x
  list_law l e cs laws = tree_cases (Fit decls tokens types env x (list_fits decls tokens env l) l cs)
      (λ b h s. let f = sym (ap (kids_fit (list_fits decls tokens env l) l (map (piece decls tokens types env) cs)) (out-Leaf b)) ∙ h in absurd (cc))
      (λ k us h s.
      let f = sym (ap (kids_fit (list_fits decls tokens env l) l (map (piece decls tokens types env) cs)) (out-Branch k us)) ∙ h in
      let n : has_value (Branch k us) (env x) ≡ has_value (Branch l us) (env x) =
      ap (λ j. has_value (Branch j us) (env x)) (sym (label-equal l k (and_left _ _ f))) in
      n ∙ runs_law decls tokens types env x l (has_value (Branch l us) (env x) ≡ true) cs laws None (members us) (given_members l us (env x) e)
      (and_right _ _ f) s)

  -- if the form fits the tree, each of its sure variables has a value of the tree
  pub sure_has_value : (form t : Tree) → fits_tree decls tokens types env form t ≡ true → is_sure decls tokens x form ≡ true → has_value t (env x) ≡ true
  sure_has_value form = sure_law decls tokens types env x list_law form
