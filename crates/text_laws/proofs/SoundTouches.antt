-- If plus code and the values of witnesses consist of tokens of C, they do so at each touch.
use Rattle.std.proofs.Common.{◌≡◌, ℕ, zero, suc, Bool, true, false, cond, sym, ap, subst, ◌∙◌, List, [], ◌∷◌, ◌++◌, map, take, drop}
use Rattle.std.specs.Prelude.{Option, None, Some, IfSome, All, slice_get, option_and_then}
use Rattle.std.specs.List.{flat_map}
use Rattle.std.proofs.lemmas.List.Elements.{All-nil, All-cons, All-head, All-tail, All-append, All-weaker}
use Rattle.c_terms.specs.declared.token.Token.{Token}
use Rattle.c_terms.specs.Trees.{join}
use Rattle.smpl_terms.specs.declared.var.Var.{Var}
use Rattle.smpl_terms.specs.declared.value.Value.{Value}
use Rattle.smpl_terms.specs.declared.value.Value.TheVariants.{Term, Place}
use Rattle.smpl_terms.specs.Vars.{same_var, place_of, with_pair}
use Rattle.smpl_terms.specs.Environments.{value_in, has_value}
use Rattle.smpl_patch.specs.declared.pattern.VarDecl.{VarDecl}
use Rattle.smpl_patch.specs.declared.pattern.PatToken.{PatToken}
use Rattle.smpl_patch.specs.declared.pattern.PlusLine.{PlusLine}
use Rattle.smpl_patch.specs.declared.pattern.PlusBlock.{PlusBlock}
use Rattle.smpl_patch.specs.declared.rule.Rule.{Rule}
use Rattle.smpl_patch.specs.declared.witness.Witness.{Witness}
use Rattle.smpl_patch.specs.declared.witness.Witness.TheVariants.{Touch, Bind, rolls-Touch, rolls-Bind}
use Rattle.smpl_patch.specs.declared.witness.Witness.TheFolds.{fold-roll-Witness}
use Rattle.smpl_patch.specs.declared.witness.RuleWitness.{RuleWitness}
use Rattle.smpl_patch.specs.Patterns.{declared_as}
use Rattle.wit_forest.proofs.WitOrder.Induct.{Each, witness_induction}
use Rattle.edit_marks.specs.Blocks.{term_of, is_meta}
use Rattle.edit_marks.specs.Plain.{IsCTerm, IsSoundToken, AreSoundTokens, AreSoundLines}
use Rattle.edit_marks.specs.Edits.{side_block, block_of, HaveSoundBlocks}
use Rattle.edit_marks.specs.EditWalk.Touches.{Values, Touched, bound, touches_in, touches_of, touches}
use Rattle.edit_marks.specs.EditWalk.Fit.{HaveSoundTouches}
use Rattle.edit_marks.proofs.EditWalk.TouchLemmas.{touches-Touch, touches-Bind}
use Rattle.text_laws.specs.OutputLaws.Values.{IsCValue, AreCValues}
use Rattle.text_laws.specs.Sound.{IsPlusToken, ArePlusTokens, ArePlusLines, IsPlusBlock, HasPlusCode, HavePlusCode, HaveCValues}
use Rattle.text_laws.specs.Sound.{bind_step, bind_values, HasCTerms}

-- ---- plus code under values

abbrev SomeC : Option Value → Type 0
SomeC None = Unit {0}
SomeC (Some v) = IsCValue v

cond_c : (b : Bool) (v : Value) (o : Option Value) → IsCValue v → SomeC o → SomeC (cond b (Some v) o)
cond_c true v o h k = h
cond_c false v o h k = k

value_c : (env : Values) (x : Var) → HaveCValues env → SomeC (value_in env x)
value_c [] x h = tt
value_c (p ∷ env) x h = cond_c (same_var p.0 x) p.1 (value_in env x) h.0 (value_c env x h.1)

some_term : (o : Option Value) → SomeC o → IsCTerm (option_and_then term_of o)
some_term None h = tt
some_term (Some (Term t)) h = h
some_term (Some (Place id)) h = tt

module _ (decls : List VarDecl) (env : Values) (c : HaveCValues env) where
  decl_term : (o : Option VarDecl) → IsCTerm (option_and_then (λ d. option_and_then term_of (value_in env d.var)) o)
  decl_term None = tt
  decl_term (Some d) = some_term (value_in env d.var) (value_c env d.var c)

  token_sound : (b : Bool) (t : Token) → IsPlusToken b t → IsSoundToken b decls env t
  token_sound true t h = decl_term (declared_as decls t.text)
  token_sound false t h = h

  tokens_sound : (ts : List Token) → ArePlusTokens ts → AreSoundTokens decls env ts
  tokens_sound [] h = tt
  tokens_sound (t ∷ ts) h = (token_sound (is_meta t.kind) t h.0, tokens_sound ts h.1)

  lines_sound : (lines : List PlusLine) → ArePlusLines lines → AreSoundLines decls env lines
  lines_sound [] h = tt
  lines_sound (line ∷ lines) h = ((h.0.0, tokens_sound line.tokens h.0.1), lines_sound lines h.1)

  block_sound : (o : Option PlusBlock) → IsPlusBlock o → IfSome o (λ block. AreSoundLines decls env block.lines)
  block_sound None h = tt
  block_sound (Some block) h = lines_sound block.lines h

  side_sound : (after : Bool) (t : PatToken) → HasPlusCode t → IsPlusBlock (side_block after t)
  side_sound true t h = h.1
  side_sound false t h = h.0

  block_at : (after : Bool) (tokens : List PatToken) (n : ℕ) → HavePlusCode tokens → IsPlusBlock (option_and_then (side_block after) (slice_get tokens n))
  block_at after [] n h = tt
  block_at after (t ∷ tokens) zero h = side_sound after t (All-head HasPlusCode t tokens h)
  block_at after (t ∷ tokens) (suc n) h = block_at after tokens n (All-tail HasPlusCode t tokens h)

  blocks_sound : (tokens : List PatToken) → HavePlusCode tokens → HaveSoundBlocks decls tokens env
  blocks_sound tokens h = λ s. block_sound (block_of tokens s) (block_at s.after tokens s.pattern h)

-- ---- the values at touches

values_left : (xs ys : List Value) → AreCValues (xs ++ ys) → AreCValues xs
values_left [] ys h = tt
values_left (x ∷ xs) ys h = (h.0, values_left xs ys h.1)

values_right : (xs ys : List Value) → AreCValues (xs ++ ys) → AreCValues ys
values_right [] ys h = h
values_right (x ∷ xs) ys h = values_right xs ys h.1

take_c : (n : ℕ) (env : Values) → HaveCValues env → HaveCValues (take n env)
take_c zero env h = tt
take_c (suc n) [] h = tt
take_c (suc n) (p ∷ env) h = (h.0, take_c n env h.1)

drop_c : (n : ℕ) (env : Values) → HaveCValues env → HaveCValues (drop n env)
drop_c zero env h = h
drop_c (suc n) [] h = tt
drop_c (suc n) (p ∷ env) h = drop_c n env h.1

both_c : (xs ys : Values) → HaveCValues xs → HaveCValues ys → HaveCValues (xs ++ ys)
both_c [] ys h k = k
both_c (p ∷ xs) ys h k = (h.0, both_c xs ys h.1 k)

bound_by : (b : Bool) (env : Values) (x : Var) (v : Value) → HaveCValues env → IsCValue v → HaveCValues (cond b env (with_pair env x v))
bound_by true env x v h k = h
bound_by false env x v h k =
    both_c (take (place_of x env) env) ((x, v) ∷ drop (place_of x env) env) (take_c (place_of x env) env h) (k, drop_c (place_of x env) env h)

bound_c : (env : Values) (x : Var) (v : Value) → HaveCValues env → IsCValue v → HaveCValues (bound env x v)
bound_c env x v h k = bound_by (has_value env x) env x v h k

values-Touch : (node atom : ℕ) (path : List ℕ) → bind_values (Touch node atom path) ≡ []
values-Touch node atom path = ap bind_values (sym (rolls-Touch node atom path)) ∙ fold-roll-Witness (List Value) bind_step _

values-Bind : (node : ℕ) (x : Var) (v : Value) (under : List Witness) → bind_values (Bind node x v under) ≡ v ∷ join (map bind_values under)
values-Bind node x v under = ap bind_values (sym (rolls-Bind node x v under)) ∙ fold-roll-Witness (List Value) bind_step _

abbrev HasC : Touched → Type 0
HasC t = HaveCValues t.env

module _ (item : ℕ) where
  abbrev Own : Witness → Type 0
  Own w = (env : Values) → HaveCValues env → AreCValues (bind_values w) → All HasC (touches_in item env w)

  under_own : (ws : List Witness) → Each Own ws → (env : Values) → HaveCValues env → AreCValues (join (map bind_values ws))
      → All HasC (flat_map (touches_in item env) ws)
  under_own [] h env c k = All-nil HasC
  under_own (w ∷ ws) h env c k =
      All-append HasC (touches_in item env w) (flat_map (touches_in item env) ws)
      (h.0 env c (values_left (bind_values w) (join (map bind_values ws)) k))
      (under_own ws h.1 env c (values_right (bind_values w) (join (map bind_values ws)) k))

  tree_own : (w : Witness) → Own w
  tree_own = witness_induction Own
      (λ node atom path env c k. subst (All HasC) (sym (touches-Touch item node atom path env)) (All-cons HasC _ [] c (All-nil HasC)))
      (λ node x v ws h env c k.
      let values : AreCValues (v ∷ join (map bind_values ws)) = subst AreCValues (values-Bind node x v ws) k in
      subst (All HasC) (sym (touches-Bind item node x v ws env)) (under_own ws h (bound env x v) (bound_c env x v c values.0) values.1))

  trees_own : (ws : List Witness) (env : Values) → HaveCValues env → AreCValues (flat_map bind_values ws) → All HasC (flat_map (touches_in item env) ws)
  trees_own [] env c k = All-nil HasC
  trees_own (w ∷ ws) env c k =
      All-append HasC (touches_in item env w) (flat_map (touches_in item env) ws)
      (tree_own w env c (values_left (bind_values w) (flat_map bind_values ws) k))
      (trees_own ws env c (values_right (bind_values w) (flat_map bind_values ws) k))

all_own : (ws : List RuleWitness) → All HasCTerms ws → All HasC (touches ws)
all_own [] h = All-nil HasC
all_own (w ∷ ws) h =
    let own : HasCTerms w = All-head HasCTerms w ws h in
    All-append HasC (touches_of w) (touches ws) (trees_own w.item w.forest w.env own.0 own.1) (all_own ws (All-tail HasCTerms w ws h))

pub sound_touches : (rule : Rule) (ws : List RuleWitness) → HavePlusCode rule.tokens → All HasCTerms ws → HaveSoundTouches rule (touches ws)
sound_touches rule ws plus h =
    All-weaker HasC (λ t. HaveSoundBlocks rule.vars rule.tokens t.env) (λ t c. blocks_sound rule.vars t.env c rule.tokens plus) (touches ws) (all_own ws h)
