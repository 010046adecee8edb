-- The edits of witnesses are those of the witnesses without the ids of their values.
use Rattle.std.proofs.Common.{◌≡◌, ◌==◌, ℕ, refl, sym, ap, subst, ◌∙◌, List, [], ◌∷◌, ◌++◌, map}
use Rattle.std.specs.Prelude.{Option, None, Some, option_and_then, slice_get}
use Rattle.std.proofs.lemmas.List.{map-append}
use Rattle.std.specs.List.{flat_map, list_any, AllZip}
use Rattle.c_lexer.specs.Pieces.{TextPiece}
use Rattle.c_lexer.specs.Ids.{ids_of}
use Rattle.cpp_lines.specs.declared.reading.Item.{Item}
use Rattle.edit_marks.specs.declared.edit_walk.nodes.ItemNodes.{ItemNodes}
use Rattle.smpl_terms.specs.declared.var.Var.{Var}
use Rattle.smpl_terms.specs.declared.value.Value.{Value}
use Rattle.smpl_terms.specs.Environments.{total}
use Rattle.smpl_patch.specs.declared.pattern.VarDecl.{VarDecl}
use Rattle.smpl_patch.specs.declared.pattern.PatToken.{PatToken}
use Rattle.smpl_patch.specs.declared.pattern.Pattern.{Pattern}
use Rattle.smpl_patch.specs.declared.pattern.PlusBlock.{PlusBlock}
use Rattle.smpl_patch.specs.declared.rule.Rule.{Rule}
use Rattle.smpl_patch.specs.declared.witness.Witness.{Witness}
use Rattle.smpl_patch.specs.declared.witness.Witness.TheVariants.{Touch, Bind, rolls-Touch, rolls-Bind}
use Rattle.smpl_patch.specs.declared.witness.Witness.TheFolds.{fold-roll-Witness}
use Rattle.smpl_patch.specs.declared.witness.RuleWitness.{RuleWitness}
use Rattle.smpl_patch.specs.Bodies.{body}
use Rattle.smpl_patch.specs.Shapes.{patterns_body}
use Rattle.wit_forest.proofs.WitOrder.Induct.{Each, witness_induction}
use Rattle.env_parts.specs.Parts.{bare_value, bare_env}
use Rattle.edit_marks.specs.declared.edit_conflict.edit.Insert.{Insert}
use Rattle.edit_marks.specs.declared.edit_conflict.edit.Edit.{Edit}
use Rattle.edit_marks.specs.declared.removals.Aligned.{Aligned}
use Rattle.edit_marks.specs.declared.spot.PlusSpot.{PlusSpot}
use Rattle.edit_marks.specs.declared.file_tokens.FileToken.{FileToken}
use Rattle.edit_marks.specs.Blocks.{block_ends}
use Rattle.edit_marks.specs.Inserts.{insert_of, line_end}
use Rattle.edit_marks.specs.Edits.{block_of, side_of, anchor_of, insert_if, inserts_at, EditOf}
use Rattle.edit_marks.specs.Tokens.{file_tokens}
use Rattle.edit_marks.specs.EditWalk.Touches.{Values, Touched, bound, touches_in, touches_of, touches}
use Rattle.edit_marks.specs.EditWalk.Named.{pattern_of, tree_at, pairs_of, pairs_at}
use Rattle.edit_marks.specs.EditWalk.Nodes.{kind_at, types_at}
use Rattle.edit_marks.specs.EditWalk.Edited.{IsEditAt, AreEdits}
use Rattle.edit_marks.proofs.EditWalk.TouchLemmas.{touches-Touch, touches-Bind}
use Rattle.rule_chain.specs.RuleWitnesses.Bare.{bare_step, bare_tree, bare_witness}
use Rattle.pat_match.specs.Roles.{role_at}
use Rattle.rule_chain.proofs.EditLaws.AlignLemmas.{aligned_alike}
use Rattle.rule_chain.proofs.EditLaws.ValueLemmas.{bare_alike, bare_bound, block_alike, end_alike}

-- ---- touches

abbrev pub bare_touch : Touched → Touched
bare_touch t = record t { env = bare_env t.env }

bare-Touch : (node atom : ℕ) (path : List ℕ) → bare_tree (Touch node atom path) ≡ Touch node atom path
bare-Touch node atom path = ap bare_tree (sym (rolls-Touch node atom path)) ∙ fold-roll-Witness Witness bare_step _

bare-Bind : (node : ℕ) (x : Var) (v : Value) (under : List Witness) → bare_tree (Bind node x v under) ≡ Bind node x (bare_value v) (map bare_tree under)
bare-Bind node x v under = ap bare_tree (sym (rolls-Bind node x v under)) ∙ fold-roll-Witness Witness bare_step _

module _ (item : ℕ) where
  abbrev Alike : Witness → Type 0
  Alike w = (env : Values) → touches_in item (bare_env env) (bare_tree w) ≡ map bare_touch (touches_in item env w)

  all_alike : (ws : List Witness) → Each Alike ws → (env : Values)
      → flat_map (touches_in item (bare_env env)) (map bare_tree ws) ≡ map bare_touch (flat_map (touches_in item env) ws)
  all_alike [] h env = refl
  all_alike (w ∷ ws) h env =
      (λ i. h.0 env i ++ all_alike ws h.1 env i) ∙ sym (map-append bare_touch (touches_in item env w) (flat_map (touches_in item env) ws))

  tree_alike : (w : Witness) → Alike w
  tree_alike = witness_induction Alike
      (λ node atom path env. ap (touches_in item (bare_env env)) (bare-Touch node atom path) ∙ touches-Touch item node atom path (bare_env env)
      ∙ sym (ap (map bare_touch) (touches-Touch item node atom path env)))
      (λ node x v ws h env. ap (touches_in item (bare_env env)) (bare-Bind node x v ws)
      ∙ touches-Bind item node x (bare_value v) (map bare_tree ws) (bare_env env)
      ∙ ap (λ (more : Values). flat_map (touches_in item more) (map bare_tree ws)) (bare_bound env x v)
      ∙ all_alike ws h (bound env x v)
      ∙ sym (ap (map bare_touch) (touches-Bind item node x v ws env)))

each_tree : (item : ℕ) (ws : List Witness) → Each (Alike item) ws
each_tree item [] = tt
each_tree item (w ∷ ws) = (tree_alike item w, each_tree item ws)

pub bare_touches : (ws : List RuleWitness) → touches (map bare_witness ws) ≡ map bare_touch (touches ws)
bare_touches [] = refl
bare_touches (w ∷ ws) =
    (λ i. all_alike w.item w.forest (each_tree w.item w.forest) w.env i ++ bare_touches ws i) ∙ sym (map-append bare_touch (touches_of w) (touches ws))

-- ---- the edit of a touch

module _ (decls : List VarDecl) (tokens : List PatToken) (env : Values) (files : List FileToken) where
  if_alike : (removed : List ℕ) (s : PlusSpot) (block : Option PlusBlock) (file : Option FileToken)
      → insert_if decls (bare_env env) removed s block file ≡ insert_if decls env removed s block file
  if_alike removed s None file = refl
  if_alike removed s (Some block) None = refl
  if_alike removed s (Some block) (Some file) = λ i.
      (let insert : Insert = record {
        token = s.token;
        side = side_of s.after;
        many = block.many;
        text = insert_of (anchor_of (list_any (λ n. n == s.token) removed) s.after file.text) (line_end file.returns ++ file.indent)
            (block_alike decls env (line_end file.returns ++ file.indent) block i)
            (block_ends (end_alike decls env None block.lines i));
      } in insert) ∷ []

  inserts_alike : (removed : List ℕ) (spots : List PlusSpot)
      → inserts_at decls tokens (bare_env env) files removed spots ≡ inserts_at decls tokens env files removed spots
  inserts_alike removed [] = refl
  inserts_alike removed (s ∷ spots) = λ i. if_alike removed s (block_of tokens s) (slice_get files s.token) i ++ inserts_alike removed spots i

  without : (pairs : List Aligned) (edit : Edit) → EditOf decls tokens (bare_env env) files pairs edit → EditOf decls tokens env files pairs edit
  without pairs edit is = record {
    rise = is.rise;
    removed = is.removed;
    spots = is.spots;
    all = is.all;
    sorted = is.sorted;
    inserts = is.inserts ∙ inserts_alike edit.removed is.spots;
  }

  back : (pairs : List Aligned) (edit : Edit) → EditOf decls tokens env files pairs edit → EditOf decls tokens (bare_env env) files pairs edit
  back pairs edit is = record {
    rise = is.rise;
    removed = is.removed;
    spots = is.spots;
    all = is.all;
    sorted = is.sorted;
    inserts = is.inserts ∙ sym (inserts_alike edit.removed is.spots);
  }

-- ---- the edits of all

module _ (rule : Rule) (items : List Item) (nodes : List ItemNodes) (pieces : List TextPiece) where
  abbrev pub patterns : List Pattern
  patterns = patterns_body (body rule.body)

  abbrev pub pairs_here : Touched → List Aligned
  pairs_here = pairs_at patterns rule.vars rule.tokens items nodes (ids_of pieces)

  pub same_pairs : (t : Touched) → pairs_here (bare_touch t) ≡ pairs_here t
  same_pairs t = λ i. pairs_of (ids_of pieces)
      (option_and_then (λ p. option_and_then (λ k. option_and_then
      (λ tree. aligned_alike rule.vars rule.tokens (types_at nodes t.item) (total (bare_env t.env)) (total t.env) (bare_alike t.env) p
      (role_at k t.path) tree i)
      (tree_at items t.item t.path)) (kind_at nodes t.item t.node)) (pattern_of patterns t.atom))

  without_ids : (t : Touched) (e : Edit) → IsEditAt rule items nodes pieces (bare_touch t) e → IsEditAt rule items nodes pieces t e
  without_ids t e is =
      without rule.vars rule.tokens t.env (file_tokens pieces) (pairs_here t) e
      (subst (λ (ps : List Aligned). EditOf rule.vars rule.tokens (bare_env t.env) (file_tokens pieces) ps e) (same_pairs t) is)

  with_ids : (t : Touched) (e : Edit) → IsEditAt rule items nodes pieces t e → IsEditAt rule items nodes pieces (bare_touch t) e
  with_ids t e is =
      subst (λ (ps : List Aligned). EditOf rule.vars rule.tokens (bare_env t.env) (file_tokens pieces) ps e) (sym (same_pairs t))
      (back rule.vars rule.tokens t.env (file_tokens pieces) (pairs_here t) e is)

  abbrev R : Touched → Edit → Type 0
  R = IsEditAt rule items nodes pieces

  all_without : (ts : List Touched) (es : List Edit) → AllZip R (map bare_touch ts) es → AllZip R ts es
  all_without [] [] h = tt
  all_without [] (e ∷ es) h = absurd h
  all_without (t ∷ ts) [] h = absurd h
  all_without (t ∷ ts) (e ∷ es) h = (without_ids t e h.0, all_without ts es h.1)

  all_with : (ts : List Touched) (es : List Edit) → AllZip R ts es → AllZip R (map bare_touch ts) es
  all_with [] [] h = tt
  all_with [] (e ∷ es) h = absurd h
  all_with (t ∷ ts) [] h = absurd h
  all_with (t ∷ ts) (e ∷ es) h = (with_ids t e h.0, all_with ts es h.1)

  pub edits_without : (ws : List RuleWitness) (es : List Edit) → AreEdits (map bare_witness ws) rule items nodes pieces es
      → AreEdits ws rule items nodes pieces es
  edits_without ws es h = record {
    all = h.all;
    each = all_without (touches ws) h.all (subst (λ (ts : List Touched). AllZip R ts h.all) (bare_touches ws) h.each);
    distinct = h.distinct;
  }

  pub edits_with : (ws : List RuleWitness) (es : List Edit) → AreEdits ws rule items nodes pieces es → AreEdits (map bare_witness ws) rule items nodes pieces es
  edits_with ws es h = record {
    all = h.all;
    each = subst (λ (ts : List Touched). AllZip R ts h.all) (sym (bare_touches ws)) (all_with (touches ws) h.all h.each);
    distinct = h.distinct;
  }
