-- Environments that are given values one variable after another contain each choice under which the set has them.
use Rattle.std.proofs.Common.{◌≡◌, ℕ, suc, zero, ◌+◌, ◌-◌, ◌<◌, ◌≤◌, inl, inr, Bool, true, false, ◌||◌, cond, None, refl, sym}
use Rattle.std.proofs.Common.{ap, ◌∙◌, subst, arith, List, [], ◌∷◌, ◌++◌, map, append_assoc, length, get_or, take, drop}
use Rattle.std.specs.List.{All, filter, flat_map, list_all}
use Rattle.std.proofs.lemmas.Bool.{cases_lt}
use Rattle.std.proofs.lemmas.List.{append-nil, drop_more, drop_all, take_more, get_or_append_left, get_or_push, get_or_read}
use Rattle.std.proofs.lemmas.List.Concat.{flat_map-append}
use Rattle.std.proofs.lemmas.List.Folds.{flat_map-map}
use Rattle.smpl_terms.specs.declared.var.Var.{Var}
use Rattle.smpl_terms.specs.declared.value.Value.{Value}
use Rattle.smpl_terms.specs.Vars.{with_pair}
use Rattle.smpl_terms.specs.Values.{same}
use Rattle.smpl_terms.specs.Environments.{change, over, total, value_in}
use Rattle.smpl_terms.proofs.ValueLaws.{same-refl}
use Rattle.env_parts.specs.Parts.{Pairs, bare_env}
use Rattle.env_sets.specs.Rising.{Rise}
use Rattle.env_sets.specs.Sets.{Entries, set_denotes}
use Rattle.env_sets.specs.Laws.{IsProjection}
use Rattle.ctl_fixpoint.specs.CtlHolds.Values.{is_among}
use Rattle.wit_forest.specs.WitTrees.Rules.{choices, in_order}
use Rattle.wit_forest.proofs.WitSteps.ChoiceLemmas.{all_chosen}
use Rattle.rule_chain.specs.RuleWitnesses.Choices.{AreNew, Leaves}
use Rattle.rule_chain.specs.RuleWitnesses.Opened.{AgreeBut, IsOpen, AreOpen}
use Rattle.rule_chain.specs.RuleWitnesses.Extended.{AreChosen, Adds, AreExtended, AreChoices}
use Rattle.rule_chain.proofs.RuleWitnesses.ValueLists.{Rise-in_order, among-in_order}
use Rattle.rule_chain.proofs.RuleWitnesses.ChoiceLemmas.{IsReady, ready_more, new_after, finite, left, one_env, none_left, opens_none, opens_more}

-- ---- environments without values of the variables

abbrev pub AllNew : List Var → List Pairs → Type 0
AllNew xs [] = Unit {0}
AllNew xs (e ∷ es) = AreNew xs e × AllNew xs es

pub new_at : (x : Var) (xs : List Var) (es : List Pairs) → AllNew (x ∷ xs) es → All (λ e. value_in e x ≡ None) es
new_at x xs [] n k d lt = absurd (omega (arith, lt))
new_at x xs (e ∷ es) n zero d lt = n.0.0
new_at x xs (e ∷ es) n (suc k) d lt = new_at x xs es n.1 k d (omega (arith, lt))

new_given : (x : Var) (xs : List Var) (e : Pairs) → AreNew (x ∷ xs) e → (vs : List Value) → AllNew xs (map (with_pair e x) vs)
new_given x xs e n [] = tt
new_given x xs e n (v ∷ vs) = (new_after e x v n.0 xs n.1 n.2, new_given x xs e n vs)

new_append : (xs : List Var) (ds es : List Pairs) → AllNew xs ds → AllNew xs es → AllNew xs (ds ++ es)
new_append xs [] es n m = m
new_append xs (d ∷ ds) es n m = (n.0, new_append xs ds es n.1 m)

pub new_extended : (o : Entries) (x : Var) (xs : List Var) (es more : List Pairs) → AllNew (x ∷ xs) es → AreExtended o x es more
    → AllNew xs more
new_extended o x xs [] more n h = subst (AllNew xs) (sym h) tt
new_extended o x xs (e ∷ es) more n h =
    subst (AllNew xs) (sym h.3) (new_append xs (map (with_pair e x) h.0) h.1 (new_given x xs e n.0 h.0) (new_extended o x xs es h.1 n.1 h.4))

-- one more environment
pub extended_more : (o : Entries) (x : Var) (es : List Pairs) (e : Pairs) (more : List Pairs) (vs : List Value) → AreExtended o x es more
    → AreChosen o x e vs → AreExtended o x (es ++ e ∷ []) (more ++ map (with_pair e x) vs)
extended_more o x [] e more vs h c = (vs, [], c, ap (λ m. m ++ map (with_pair e x) vs) h ∙ sym (append-nil (map (with_pair e x) vs)), refl)
extended_more o x (d ∷ ds) e more vs h c = (
  h.0,
  h.1 ++ map (with_pair e x) vs,
  h.2,
  ap (λ m. m ++ map (with_pair e x) vs) h.3 ∙ append_assoc (map (with_pair d x) h.0) h.1 (map (with_pair e x) vs),
  extended_more o x ds e h.1 vs h.4 c,
)

-- ---- all choices

or_first : (a b : Bool) → a ≡ true → (a || b) ≡ true
or_first true b h = refl
or_first false b h = absurd cc

or_rest : (a b : Bool) → b ≡ true → (a || b) ≡ true
or_rest true b h = refl
or_rest false b h = h

module _ (set : Entries) (values : List Value) (rise : Rise values) where
  abbrev AllReady : List Var → List Pairs → Type 0
  AllReady xs [] = Unit {0}
  AllReady xs (e ∷ es) = IsReady set values xs e × AllReady xs es

  ready_append : (xs : List Var) (ds es : List Pairs) → AllReady xs ds → AllReady xs es → AllReady xs (ds ++ es)
  ready_append xs [] es n m = m
  ready_append xs (d ∷ ds) es n m = (n.0, ready_append xs ds es n.1 m)

  module _ (x : Var) (xs : List Var) (o : Entries) (opens : IsOpen set xs o) where
    ready_given : (e : Pairs) → IsReady set values (x ∷ xs) e → (vs : List Value)
        → ((v : Value) → is_among vs v ≡ true → set_denotes o (change (total e) x v) ≡ true) → AllReady xs (map (with_pair e x) vs)
    ready_given e r [] h = tt
    ready_given e r (v ∷ vs) h = (
      ready_more set values xs x e v o opens r (h v (or_first (same v v) (is_among vs v) (same-refl v))),
      ready_given e r vs (λ u k. h u (or_rest (same v u) (is_among vs u) k)),
    )

    told : (e : Pairs) → IsReady set values (x ∷ xs) e → (vs : List Value) → AreChosen o x e vs
        → (z : Value) → is_among vs z ≡ set_denotes o (change (total e) x z)
    told e r vs c z = c.among z ∙ all_chosen x (total e) values z o c.entries (finite set values xs x e o opens r)

    extended_ready : (es more : List Pairs) → AllReady (x ∷ xs) es → AreExtended o x es more → AllReady xs more
    extended_ready [] more r h = subst (AllReady xs) (sym h) tt
    extended_ready (e ∷ es) more r h =
        subst (AllReady xs) (sym h.3) (ready_append xs (map (with_pair e x) h.0) h.1
        (ready_given e r.0 h.0 (λ v k. sym (told e r.0 h.0 h.2 v) ∙ k)) (extended_ready es h.1 r.1 h.4))

    extended_left : (es more : List Pairs) → AllReady (x ∷ xs) es → AreExtended o x es more
        → flat_map (left set values xs) more ≡ flat_map (left set values (x ∷ xs)) es
    extended_left [] more r h = ap (flat_map (left set values xs)) h
    extended_left (e ∷ es) more r h =
        ap (flat_map (left set values xs)) h.3
        ∙ flat_map-append (left set values xs) (map (with_pair e x) h.0) h.1
        ∙ (λ i. (flat_map-map (left set values xs) (with_pair e x) h.0
        ∙ one_env set values rise xs x e o opens r.0 h.0 h.2.rise (told e r.0 h.0 h.2)) i ++ extended_left es h.1 r.1 h.4 i)

  each_left : (es : List Pairs) → AllReady [] es → map bare_env es ≡ flat_map (left set values []) es
  each_left [] r = refl
  each_left (e ∷ es) r =
      let holds : set_denotes set (total e) ≡ true = (opens_none set (total e)).1 r.0.can in
      let first : bare_env e ∷ [] ≡ left set values [] e = ap (λ b. map bare_env (cond b (e ∷ []) [])) (sym holds) in
      λ i. first i ++ each_left es r.1 i

  whole : (xs : List Var) (es result : List Pairs) → AllReady xs es → AreChoices set xs es result
      → map bare_env result ≡ flat_map (left set values xs) es
  whole [] es result r h = ap (map bare_env) (sym h) ∙ each_left es r
  whole (x ∷ xs) es result r h =
      whole xs h.1 result (extended_ready x xs h.0 h.2 es h.1 r h.3) h.4 ∙ extended_left x xs h.0 h.2 es h.1 r h.3

module _ (set : Entries) (vars : List Var) (env : Pairs) (o : Entries) (opens : IsOpen set vars o) where
  -- the set has the environment for some values
  pub all_choices : (result : List Pairs) → AreNew vars env → set_denotes o (total env) ≡ true → AreChoices set vars (env ∷ []) result
      → (values : List Value) → Leaves values vars set env
      → map bare_env result ≡ map bare_env (filter (λ e. set_denotes set (total e)) (choices (in_order values) vars env))
  all_choices result n h c values leaves =
      whole set (in_order values) (Rise-in_order values) vars (env ∷ []) result (
        record {
          new = n;
          leaves = λ d k. (λ i. list_all (λ x. among-in_order values (over env d x) i) vars) ∙ leaves d k;
          can = (opens (total env)).0 h;
        },
        tt,
      ) c
      ∙ append-nil (left set (in_order values) vars env)

  -- it has the environment for no values
  pub no_choices : AreNew vars env → set_denotes o (total env) ≡ false → (values : List Value)
      → [] ≡ map bare_env (filter (λ e. set_denotes set (total e)) (choices (in_order values) vars env))
  no_choices n h values = ap (map bare_env) (sym (none_left set (in_order values) (λ e. set_denotes set (total e)) vars env n fails))
    where
      fails : (e : Pairs) → AgreeBut vars (total env) (total e) → set_denotes set (total e) ≡ false
      fails e a = case (set_denotes set (total e)) refl
        where
          case : (b : Bool) → set_denotes set (total e) ≡ b → b ≡ false
          case true k = let clash : true ≡ false = sym ((opens (total env)).1 (total e, (a, k))) ∙ h in absurd cc
          case false k = refl

none_pass : (es : List Pairs) → filter (λ e. false) es ≡ []
none_pass [] = refl
none_pass (e ∷ es) = none_pass es

-- no entry gives no choice
pub empty_set : (set : Entries) → set ≡ [] → (es : List Pairs) → [] ≡ map bare_env (filter (λ e. set_denotes set (total e)) es)
empty_set set h es = ap (map bare_env) (sym (ap (λ s. filter (λ e. set_denotes s (total e)) es) h ∙ none_pass es))

-- ---- loops

pub open_first : (set : Entries) (xs : List Var) (sets : List Entries) → sets ≡ set ∷ [] → (k : ℕ) → k ≤ 0
    → IsOpen set (drop (length xs - k) xs) (get_or sets k [])
open_first set xs sets h k le =
    let none : k ≡ 0 = omega (arith, le) in
    let rest : drop (length xs - 0) xs ≡ [] = drop_all (length xs - 0) xs (omega arith) in
    subst (λ (n : ℕ). IsOpen set (drop (length xs - n) xs) (get_or sets n [])) (sym none)
    (subst (λ l. IsOpen set (drop (length xs - 0) xs) (get_or l 0 [])) (sym h) (subst (λ ys. IsOpen set ys set) (sym rest) (opens_none set)))

-- all variables are left open in the last set
pub all_open : (set : Entries) (xs : List Var) (sets : List Entries) (o : Entries) → AreOpen set xs sets → o ≡ get_or sets (length xs) o
    → IsOpen set xs o
all_open set xs sets o h at =
    let none : length xs - length xs ≡ 0 = omega arith in
    let low : length xs < length sets = omega (arith, h.len) in
    subst (IsOpen set xs) (sym (get_or_read sets (length xs) o low at []))
    (subst (λ (n : ℕ). IsOpen set (drop n xs) (get_or sets (length xs) [])) none (h.each (length xs) (omega arith)))

pub extended_next : (o : Entries) (x : Var) (es : List Pairs) (i : ℕ) (e : Pairs) (more next : List Pairs) → i < length es → e ≡ get_or es i e
    → AreExtended o x (take i es) more → Adds o x e more next → AreExtended o x (take (i + 1) es) next
extended_next o x es i e more next lt is h a =
    let parted : take (i + 1) es ≡ take i es ++ e ∷ [] = take_more es i e lt ∙ (λ k. take i es ++ sym is k ∷ []) in
    subst (λ l. AreExtended o x l next) (sym parted)
    (subst (AreExtended o x (take i es ++ e ∷ [])) (sym a.2) (extended_more o x (take i es) e more a.0 h a.1))

-- one more variable left sets
pub open_step : (set : Entries) (xs : List Var) (sets : List Entries) (next : Entries) (i : ℕ) (x : Var) → i < length xs
    → x ≡ get_or xs (length xs - 1 - i) x → length sets ≡ i + 1
    → ((k : ℕ) → k ≤ i → IsOpen set (drop (length xs - k) xs) (get_or sets k [])) → IsProjection x (get_or sets i []) next
    → (k : ℕ) → k ≤ i + 1 → IsOpen set (drop (length xs - k) xs) (get_or (sets ++ next ∷ []) k [])
open_step set xs sets next i x lt is len each p k le =
    elim (cases_lt k (i + 1)) as (λ _. IsOpen set (drop (length xs - k) xs) (get_or (sets ++ next ∷ []) k [])) [
      | inl low ↦ subst (IsOpen set (drop (length xs - k) xs)) (sym (get_or_append_left sets (next ∷ []) [] k (omega arith))) (each k (omega arith))
      | inr high ↦ last high
    ]
  where
    place : length xs - 1 - i ≡ length xs - (i + 1)
    place = omega arith

    after : length xs - 1 - i + 1 ≡ length xs - i
    after = omega (arith, lt)

    parted : drop (length xs - (i + 1)) xs ≡ x ∷ drop (length xs - i) xs
    parted =
        ap (λ (n : ℕ). drop n xs) (sym place) ∙ drop_more xs (length xs - 1 - i) x (omega (arith, lt))
        ∙ (λ n. sym is n ∷ drop (after n) xs)

    opened : IsOpen set (drop (length xs - (i + 1)) xs) next
    opened = subst (λ ys. IsOpen set ys next) (sym parted) (opens_more set (drop (length xs - i) xs) x (get_or sets i []) next (each i (omega arith)) p)

    last : i + 1 ≤ k → IsOpen set (drop (length xs - k) xs) (get_or (sets ++ next ∷ []) k [])
    last high =
        let e : k ≡ i + 1 = omega (arith, le, high) in
        subst (λ (n : ℕ). IsOpen set (drop (length xs - n) xs) (get_or (sets ++ next ∷ []) n [])) (sym e)
        (subst (IsOpen set (drop (length xs - (i + 1)) xs)) (sym (get_or_push sets next [] (i + 1) len)) opened)

-- one more variable given values
pub choices_step : (set : Entries) (xs : List Var) (sets : List Entries) (i : ℕ) (x : Var) (o : Entries) (envs more result : List Pairs)
    → i < length xs → x ≡ get_or xs i x → o ≡ get_or sets (length xs - 1 - i) o → AreOpen set xs sets → AreExtended o x envs more
    → AreChoices set (drop (i + 1) xs) more result → AreChoices set (drop i xs) envs result
choices_step set xs sets i x o envs more result lt is at opens h c =
    let parted : drop i xs ≡ x ∷ drop (i + 1) xs = drop_more xs i x lt ∙ (λ n. sym is n ∷ drop (i + 1) xs) in
    let place : length xs - (length xs - 1 - i) ≡ i + 1 = omega (arith, lt) in
    let low : length xs - 1 - i < length sets = omega (arith, lt, opens.len) in
    let here : o ≡ get_or sets (length xs - 1 - i) [] = get_or_read sets (length xs - 1 - i) o low at [] in
    let own : IsOpen set (drop (i + 1) xs) o =
    subst (λ (n : ℕ). IsOpen set (drop n xs) o) place (subst (IsOpen set (drop (length xs - (length xs - 1 - i)) xs)) (sym here)
    (opens.each (length xs - 1 - i) (omega arith))) in
    subst (λ ys. AreChoices set ys envs result) (sym parted) (o, more, own, h, c)

-- the rest of the variables
pub new_rest : (xs : List Var) (i : ℕ) (x : Var) (envs : List Pairs) → i < length xs → x ≡ get_or xs i x → AllNew (drop i xs) envs
    → AllNew (x ∷ drop (i + 1) xs) envs
new_rest xs i x envs lt is n = subst (λ ys. AllNew ys envs) (drop_more xs i x lt ∙ (λ k. sym is k ∷ drop (i + 1) xs)) n
