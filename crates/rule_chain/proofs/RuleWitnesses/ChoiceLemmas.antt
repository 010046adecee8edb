-- The environments with a choice of values under which a set has them, variable by variable.
use Rattle.std.proofs.Common.{◌≡◌, ℕ, suc, zero, Bool, true, false, ◌&&◌, ◌||◌, cond, Option, Some, None, refl, sym, ap, ◌∙◌}
use Rattle.std.proofs.Common.{subst, List, [], ◌∷◌, ◌++◌, map, append_assoc}
use Rattle.std.specs.Prelude.{unwrap_or, option_map}
use Rattle.std.specs.List.{filter, flat_map, list_all, insert}
use Rattle.std.specs.Ordering.{is_lt}
use Rattle.std.proofs.lemmas.List.Elements.{filter-append}
use Rattle.std.proofs.lemmas.List.{map-append}
use Rattle.smpl_terms.specs.declared.var.Var.{Var}
use Rattle.smpl_terms.specs.declared.value.Value.{Value}
use Rattle.smpl_terms.specs.declared.value.Value.TheVariants.{Place}
use Rattle.smpl_terms.specs.Vars.{same_var, var_order, place_of, with_pair}
use Rattle.smpl_terms.specs.Values.{same}
use Rattle.smpl_terms.specs.Environments.{Environment, change, value_in, over, total}
use Rattle.smpl_terms.proofs.VarLaws.{same_var-equal, same_var-sym, same_var-refl}
use Rattle.smpl_terms.proofs.ValueLaws.{same-refl}
use Rattle.smpl_terms.proofs.EnvLemmas.{value_in-insert}
use Rattle.env_parts.specs.Parts.{Pairs, bare_value, bare_pair, bare_env}
use Rattle.env_parts.specs.Parts as parts
use Rattle.env_parts.proofs.PartLemmas.{value_in-bare, bare_value-same}
use Rattle.env_sets.specs.Rising.{Rise}
use Rattle.env_sets.specs.Sets.{Entries, set_denotes}
use Rattle.env_sets.specs.Laws.{IsProjection}
use Rattle.env_sets.proofs.AlikeLemmas.{Alike, set_alike, change_alike}
use Rattle.ctl_fixpoint.specs.CtlHolds.Values.{is_among}
use Rattle.wit_forest.specs.WitTrees.Rules.{choices}
use Rattle.rule_chain.specs.RuleWitnesses.Choices.{AreNew}
use Rattle.rule_chain.specs.RuleWitnesses.Opened.{AgreeBut, CanHold, IsOpen}
use Rattle.rule_chain.proofs.RuleWitnesses.ValueLists.{one_list, Rise-filter, among-filter}

-- ---- booleans

neither : (a b : Bool) → (a || b) ≡ false → (a ≡ false) × (b ≡ false)
neither true b h = absurd cc
neither false b h = (refl, h)

none_of : (a b : Bool) → a ≡ false → b ≡ false → (a || b) ≡ false
none_of a b h k = ap (λ c. c || b) h ∙ k

both : (a b : Bool) → (a && b) ≡ true → (a ≡ true) × (b ≡ true)
both true b h = (refl, h)
both false b h = absurd cc

absorbed : (a b : Bool) → (a ≡ true → b ≡ true) → (a && b) ≡ a
absorbed true b h = h refl
absorbed false b h = refl

-- ---- one more pair

module _ (env : Pairs) (x : Var) (v : Value) (none : value_in env x ≡ None) where
  look_up : (y : Var) → value_in (with_pair env x v) y ≡ cond (same_var x y) (Some v) (value_in env y)
  look_up y = value_in-insert env (place_of x env) x y v none

  pub over_with : (d : Environment) (y : Var) → over (with_pair env x v) d y ≡ over env (change d x v) y
  over_with d y =
      ap (λ o. unwrap_or o (d y)) (look_up y ∙ ap (λ b. cond b (Some v) (value_in env y)) (same_var-sym x y))
      ∙ at (same_var y x) refl
    where
      at : (b : Bool) → same_var y x ≡ b
          → unwrap_or (cond b (Some v) (value_in env y)) (d y) ≡ unwrap_or (value_in env y) (cond b v (d y))
      at true e = sym (ap (λ o. unwrap_or o v) (ap (value_in env) (same_var-equal y x e) ∙ none))
      at false e = refl

  pub total_with : (y : Var) → total (with_pair env x v) y ≡ change (total env) x v y
  total_with y = ap (λ o. unwrap_or o (Place 0)) (look_up y ∙ ap (λ b. cond b (Some v) (value_in env y)) (same_var-sym x y)) ∙ at (same_var y x)
    where
      at : (b : Bool) → unwrap_or (cond b (Some v) (value_in env y)) (Place 0) ≡ cond b v (unwrap_or (value_in env y) (Place 0))
      at true = refl
      at false = refl

  pub new_after : (xs : List Var) → parts.is_among xs x ≡ false → AreNew xs env → AreNew xs (with_pair env x v)
  new_after [] out n = tt
  new_after (y ∷ ys) out n =
      let p = neither (same_var y x) (parts.is_among ys x) out in
      (look_up y ∙ ap (λ b. cond b (Some v) (value_in env y)) (same_var-sym x y ∙ p.0) ∙ n.0, n.1, new_after ys p.1 n.2)

-- a variable that has a value is none of the new ones
has_none : (xs : List Var) (env : Pairs) (y : Var) (w : Value) → AreNew xs env → value_in env y ≡ Some w → parts.is_among xs y ≡ false
has_none [] env y w n h = refl
has_none (x ∷ xs) env y w n h = none_of (same_var x y) (parts.is_among xs y) (at (same_var x y) refl) (has_none xs env y w n.2 h)
  where
    at : (b : Bool) → same_var x y ≡ b → b ≡ false
    at true e = let clash : None ≡ Some w = sym n.0 ∙ ap (value_in env) (same_var-equal x y e) ∙ h in absurd cc
    at false e = refl

-- ---- environments without ids

place_of-bare : (x : Var) (env : Pairs) → place_of x (bare_env env) ≡ place_of x env
place_of-bare x [] = refl
place_of-bare x (p ∷ ps) = ap (λ (n : ℕ). cond (is_lt (var_order p.0 x)) (suc n) 0) (place_of-bare x ps)

insert-bare : (env : Pairs) (n : ℕ) (p : Var × Value) → insert (bare_env env) n (bare_pair p) ≡ bare_env (insert env n p)
insert-bare [] zero p = refl
insert-bare [] (suc n) p = refl
insert-bare (q ∷ qs) zero p = refl
insert-bare (q ∷ qs) (suc n) p = ap (λ (r : Pairs). bare_pair q ∷ r) (insert-bare qs n p)

with_pair-bare : (env : Pairs) (x : Var) (v : Value) → with_pair (bare_env env) x (bare_value v) ≡ bare_env (with_pair env x v)
with_pair-bare env x v =
    ap (λ (n : ℕ). insert (bare_env env) n (x, bare_value v)) (place_of-bare x env) ∙ insert-bare env (place_of x env) (x, v)

pub bare_with : (e f : Pairs) (x : Var) (v w : Value) → bare_env e ≡ bare_env f → bare_value v ≡ bare_value w
    → bare_env (with_pair e x v) ≡ bare_env (with_pair f x w)
bare_with e f x v w h k = sym (with_pair-bare e x v) ∙ (λ i. with_pair (h i) x (k i)) ∙ with_pair-bare f x w

same_at : (o p : Option Value) → option_map bare_value o ≡ option_map bare_value p → same (unwrap_or o (Place 0)) (unwrap_or p (Place 0)) ≡ true
same_at None None h = same-refl (Place 0)
same_at None (Some w) h = absurd cc
same_at (Some v) None h = absurd cc
same_at (Some v) (Some w) h = let e : bare_value v ≡ bare_value w = cc in bare_value-same v w e

-- environments that are equal without ids give each variable the same value
pub bare_alike : (e f : Pairs) → bare_env e ≡ bare_env f → Alike (total e) (total f)
bare_alike e f h y = same_at (value_in e y) (value_in f y) (sym (value_in-bare e y) ∙ ap (λ d. value_in d y) h ∙ value_in-bare f y)

-- ---- lists

flat_map-append : {A B : Type 0} (f : A → List B) (xs ys : List A) → flat_map f (xs ++ ys) ≡ flat_map f xs ++ flat_map f ys
flat_map-append f [] ys = refl
flat_map-append f (x ∷ xs) ys = ap (λ r. f x ++ r) (flat_map-append f xs ys) ∙ sym (append_assoc (f x) (flat_map f xs) (flat_map f ys))

-- a part that fails the test yields nothing
flat_map-filter : {A B : Type 0} (test : A → Bool) (f : A → List B) → ((x : A) → test x ≡ false → f x ≡ []) → (xs : List A)
    → flat_map f (filter test xs) ≡ flat_map f xs
flat_map-filter test f none [] = refl
flat_map-filter test f none (x ∷ xs) = at (test x) refl (flat_map-filter test f none xs)
  where
    at : (b : Bool) → test x ≡ b → flat_map f (filter test xs) ≡ flat_map f xs
        → flat_map f (cond b (x ∷ filter test xs) (filter test xs)) ≡ f x ++ flat_map f xs
    at true e r = ap (λ r. f x ++ r) r
    at false e r = r ∙ ap (λ h. h ++ flat_map f xs) (sym (none x e))

-- a map over the elements that pass, part by part
map-filter-flat_map : {A B C : Type 0} (h : B → C) (test : B → Bool) (f : A → List B) (xs : List A)
    → flat_map (λ x. map h (filter test (f x))) xs ≡ map h (filter test (flat_map f xs))
map-filter-flat_map h test f [] = refl
map-filter-flat_map h test f (x ∷ xs) =
    ap (λ r. map h (filter test (f x)) ++ r) (map-filter-flat_map h test f xs)
    ∙ sym (map-append h (filter test (f x)) (filter test (flat_map f xs)))
    ∙ ap (map h) (sym (filter-append test (f x) (flat_map f xs)))

-- values that are equal without ids yield the same
flat_map-bare : {B : Type 0} (f : Value → List B) → ((v w : Value) → bare_value v ≡ bare_value w → f v ≡ f w) → (vs ws : List Value)
    → map bare_value vs ≡ map bare_value ws → flat_map f vs ≡ flat_map f ws
flat_map-bare f alike [] [] h = refl
flat_map-bare f alike [] (w ∷ ws) h = absurd cc
flat_map-bare f alike (v ∷ vs) [] h = absurd cc
flat_map-bare f alike (v ∷ vs) (w ∷ ws) h =
    let first : bare_value v ≡ bare_value w = cc in
    let rest : map bare_value vs ≡ map bare_value ws = cc in
    λ i. alike v w first i ++ flat_map-bare f alike vs ws rest i

-- ---- choices that pass a test which doesn't distinguish equal values

module _ (test : Environment → Bool) (alike : (d e : Environment) → Alike d e → test d ≡ test e) (values : List Value) where
  -- ids aside
  abbrev pub passing : List Var → Pairs → List Pairs
  passing xs env = map bare_env (filter (λ e. test (total e)) (choices values xs env))

  pub passing_alike : (xs : List Var) (e f : Pairs) → bare_env e ≡ bare_env f → passing xs e ≡ passing xs f
  passing_alike [] e f h =
      at (test (total e)) ∙ ap (λ b. cond b (bare_env f ∷ []) []) (alike (total e) (total f) (bare_alike e f h)) ∙ sym (end (test (total f)) f)
    where
      end : (b : Bool) (d : Pairs) → map bare_env (cond b (d ∷ []) []) ≡ cond b (bare_env d ∷ []) []
      end true d = refl
      end false d = refl

      at : (b : Bool) → map bare_env (cond b (e ∷ []) []) ≡ cond b (bare_env f ∷ []) []
      at true = ap (λ d. d ∷ []) h
      at false = refl
  passing_alike (x ∷ xs) e f h =
      split e values ∙ parts_of (λ v. passing_alike xs (with_pair e x v) (with_pair f x v) (bare_with e f x v v h refl)) values
      ∙ sym (split f values)
    where
      split : (d : Pairs) (vs : List Value)
          → map bare_env (filter (λ e. test (total e)) (flat_map (λ v. choices values xs (with_pair d x v)) vs))
          ≡ flat_map (λ v. passing xs (with_pair d x v)) vs
      split d vs = sym (map-filter-flat_map bare_env (λ e. test (total e)) (λ v. choices values xs (with_pair d x v)) vs)

      parts_of : ((v : Value) → passing xs (with_pair e x v) ≡ passing xs (with_pair f x v)) → (vs : List Value)
          → flat_map (λ v. passing xs (with_pair e x v)) vs ≡ flat_map (λ v. passing xs (with_pair f x v)) vs
      parts_of k [] = refl
      parts_of k (v ∷ vs) = λ i. k v i ++ parts_of k vs i

-- ---- sets in which some variables are left open

module _ (set : Entries) where
  abbrev D : Environment → Bool
  D = set_denotes set

  pub opens_none : IsOpen set [] set
  opens_none d = (λ h. (d, (λ y out. refl, h)), λ some. ap D (λ i y. some.1.0 y refl i) ∙ some.1.1)

  pub opens_more : (xs : List Var) (x : Var) (o p : Entries) → IsOpen set xs o → IsProjection x o p → IsOpen set (x ∷ xs) p
  opens_more xs x o p opens projects d = (there, back)
    where
      agrees : (w : Value) (e : Environment) → AgreeBut xs (change d x w) e → AgreeBut (x ∷ xs) d e
      agrees w e a y out =
          let p = neither (same_var x y) (parts.is_among xs y) out in
          sym (ap (λ b. cond b w (d y)) (same_var-sym y x ∙ p.0)) ∙ a y p.1

      there : set_denotes p d ≡ true → CanHold set (x ∷ xs) d
      there h =
          let value = (projects d).0 h in
          let some = (opens (change d x value.0)).0 value.1 in
          (some.0, (agrees value.0 some.0 some.1.0, some.1.1))

      own : (e : Environment) → AgreeBut (x ∷ xs) d e → AgreeBut xs (change d x (e x)) e
      own e a y out = at (same_var y x) refl
        where
          at : (b : Bool) → same_var y x ≡ b → cond b (e x) (d y) ≡ e y
          at true s = sym (ap e (same_var-equal y x s))
          at false s = a y (none_of (same_var x y) (parts.is_among xs y) (same_var-sym x y ∙ s) out)

      back : CanHold set (x ∷ xs) d → set_denotes p d ≡ true
      back some = (projects d).1 (some.0 x, (opens (change d x (some.0 x))).1 (some.0, (own some.0 some.1.0, some.1.1)))

  -- ---- an environment that is given values of the variables one by one

  -- the environment has none of the variables, D leaves them these values, and D has it for some of them
  pub record IsReady (values : List Value) (xs : List Var) (env : Pairs) : Type 0 where
    pub new : AreNew xs env
    pub leaves : (d : Environment) → D (over env d) ≡ true → list_all (λ x. is_among values (over env d x)) xs ≡ true
    pub can : CanHold set xs (total env)

  module _ (values : List Value) where
    pub ready_more : (xs : List Var) (x : Var) (env : Pairs) (v : Value) (o : Entries) → IsOpen set xs o
        → IsReady values (x ∷ xs) env → set_denotes o (change (total env) x v) ≡ true → IsReady values xs (with_pair env x v)
    ready_more xs x env v o opens r h = record {
      new = new_after env x v r.new.0 xs r.new.1 r.new.2;
      leaves = λ d k.
          let same_env : over (with_pair env x v) d ≡ over env (change d x v) = λ i y. over_with env x v r.new.0 d y i in
          ap (λ e. list_all (λ y. is_among values (e y)) xs) same_env
          ∙ (both (is_among values (over env (change d x v) x)) _ (r.leaves (change d x v) (ap D (sym same_env) ∙ k))).1;
      can =
          let same_env : change (total env) x v ≡ total (with_pair env x v) = λ i y. sym (total_with env x v r.new.0 y) i in
          subst (CanHold set xs) same_env ((opens (change (total env) x v)).0 h);
    }

    -- x can have no other values
    pub finite : (xs : List Var) (x : Var) (env : Pairs) (o : Entries) → IsOpen set xs o → IsReady values (x ∷ xs) env
        → (u : Value) → set_denotes o (change (total env) x u) ≡ true → is_among values u ≡ true
    finite xs x env o opens r u h =
        let some = (opens (change (total env) x u)).0 h in
        let e = some.0 in
        let own : over env e ≡ e = λ i y. stays e some.1.0 y i in
        let value : over env e x ≡ u = ap (λ d. d x) own ∙ sym (some.1.0 x r.new.1) ∙ ap (λ b. cond b u (total env x)) (same_var-refl x) in
        sym (ap (is_among values) value)
        ∙ (both (is_among values (over env e x)) _ (r.leaves e (ap D own ∙ some.1.1))).0
      where
        stays : (e : Environment) → AgreeBut xs (change (total env) x u) e → (y : Var) → over env e y ≡ e y
        stays e a y = at (value_in env y) refl
          where
            apart : (w : Value) → value_in env y ≡ Some w → same_var y x ≡ false
            apart w s = case (same_var y x) refl
              where
                case : (b : Bool) → same_var y x ≡ b → b ≡ false
                case true t = let clash : Some w ≡ None = sym s ∙ ap (value_in env) (same_var-equal y x t) ∙ r.new.0 in absurd cc
                case false t = refl

            at : (o : Option Value) → value_in env y ≡ o → unwrap_or o (e y) ≡ e y
            at None s = refl
            at (Some w) s =
                sym (ap (λ p. unwrap_or p (Place 0)) s) ∙ sym (ap (λ b. cond b u (total env y)) (apart w s))
                ∙ a y (has_none xs env y w r.new.2 s)

    -- no choice passes a test that fails for every environment
    module _ (test : Pairs → Bool) where
      pub none_left : (xs : List Var) (env : Pairs) → AreNew xs env
          → ((e : Pairs) → AgreeBut xs (total env) (total e) → test e ≡ false) → filter test (choices values xs env) ≡ []
      none_left [] env n fails = ap (λ b. cond b (env ∷ []) []) (fails env (λ y out. refl))
      none_left (x ∷ xs) env n fails =
          all (λ v. none_left xs (with_pair env x v) (new_after env x v n.0 xs n.1 n.2) (λ e a. fails e (agrees v e a))) values
        where
          agrees : (v : Value) (e : Pairs) → AgreeBut xs (total (with_pair env x v)) (total e) → AgreeBut (x ∷ xs) (total env) (total e)
          agrees v e a y out =
              let p = neither (same_var x y) (parts.is_among xs y) out in
              sym (ap (λ b. cond b v (total env y)) (same_var-sym y x ∙ p.0)) ∙ sym (total_with env x v n.0 y) ∙ a y p.1

          all : ((v : Value) → filter test (choices values xs (with_pair env x v)) ≡ []) → (vs : List Value)
              → filter test (flat_map (λ v. choices values xs (with_pair env x v)) vs) ≡ []
          all h [] = refl
          all h (v ∷ vs) =
              filter-append test (choices values xs (with_pair env x v)) (flat_map (λ v. choices values xs (with_pair env x v)) vs)
              ∙ (λ i. h v i ++ all h vs i)

    -- the choices that are in D, ids aside
    abbrev pub left : List Var → Pairs → List Pairs
    left xs env = map bare_env (filter (λ e. D (total e)) (choices values xs env))

    left_alike : (xs : List Var) (e f : Pairs) → bare_env e ≡ bare_env f → left xs e ≡ left xs f
    left_alike = passing_alike D (λ d e a. set_alike d e a set) values

    -- the values that the open set leaves x yield all choices
    pub one_env : (rise : Rise values) (xs : List Var) (x : Var) (env : Pairs) (o : Entries) → IsOpen set xs o
        → IsReady values (x ∷ xs) env → (vs : List Value) → Rise vs
        → ((z : Value) → is_among vs z ≡ set_denotes o (change (total env) x z))
        → flat_map (λ v. left xs (with_pair env x v)) vs ≡ left (x ∷ xs) env
    one_env rise xs x env o opens r vs v_rise told =
        flat_map-bare (λ v. left xs (with_pair env x v)) (λ v w h. left_alike xs (with_pair env x v) (with_pair env x w) (bare_with env env x v w refl h))
        vs (filter test values) (one_list vs (filter test values) v_rise (Rise-filter test values rise) have)
        ∙ flat_map-filter test (λ v. left xs (with_pair env x v)) nothing values
        ∙ map-filter-flat_map bare_env (λ e. D (total e)) (λ v. choices values xs (with_pair env x v)) values
      where
        test : Value → Bool
        test z = set_denotes o (change (total env) x z)

        have : (z : Value) → is_among vs z ≡ is_among (filter test values) z
        have z =
            told z ∙ sym (among-filter test (λ v w h. set_alike (change (total env) x v) (change (total env) x w) (change_alike (total env) x v w h) o) values z
            ∙ absorbed (test z) (is_among values z) (finite xs x env o opens r z))

        nothing : (v : Value) → test v ≡ false → left xs (with_pair env x v) ≡ []
        nothing v h = ap (map bare_env) (none_left (λ e. D (total e)) xs (with_pair env x v) (new_after env x v r.new.0 xs r.new.1 r.new.2) fails)
          where
            fails : (e : Pairs) → AgreeBut xs (total (with_pair env x v)) (total e) → D (total e) ≡ false
            fails e a = case (D (total e)) refl
              where
                case : (b : Bool) → D (total e) ≡ b → b ≡ false
                case true k =
                    let yes : set_denotes o (change (total env) x v) ≡ true =
                    (opens (change (total env) x v)).1 (total e, ((λ y out. sym (total_with env x v r.new.0 y) ∙ a y out), k)) in
                    let clash : true ≡ false = sym yes ∙ h in absurd cc
                case false k = refl
