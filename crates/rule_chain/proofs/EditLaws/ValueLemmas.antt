-- Values without ids: how they are looked up and written out, and the texts of plus code that has them.
use Rattle.std.proofs.Common.{◌≡◌, ◌+◌, ◌-◌, ℕ, suc, Bool, true, false, cond, refl, sym, ap, ◌∙◌, List, [], ◌∷◌, ◌++◌, map, length, take, drop}
use Rattle.std.specs.Prelude.{Option, None, Some, unwrap_or, option_map, option_and_then, slice_get, if◌then◌else◌}
use Rattle.std.proofs.lemmas.List.{map-append, length-map, take-map, drop-map}
use Rattle.std.proofs.lemmas.Option.{slice_get-map}
use Rattle.std.specs.List.{insert}
use Rattle.std.specs.Ordering.{is_lt}
use Rattle.c_terms.specs.declared.token.Token.{Token}
use Rattle.c_terms.specs.declared.label.Label.{Label}
use Rattle.c_terms.specs.declared.tree.Tree.{Tree}
use Rattle.c_terms.specs.declared.tree.Tree.TheVariants.{Branch}
use Rattle.c_terms.specs.Trees.{leaves, join}
use Rattle.c_terms.specs.Bare.{bare}
use Rattle.c_terms.proofs.Induct.{Each, tree_induction}
use Rattle.c_terms.proofs.TreeLemmas.{leaves-Leaf, leaves-Branch}
use Rattle.c_terms.proofs.BareLaws.{bare-Leaf, bare-Branch, bare-same}
use Rattle.smpl_terms.specs.declared.var.Var.{Var}
use Rattle.smpl_terms.specs.declared.value.Value.{Value}
use Rattle.smpl_terms.specs.declared.value.Value.TheVariants.{Term, Place}
use Rattle.smpl_terms.specs.Vars.{var_order, place_of, with_pair}
use Rattle.smpl_terms.specs.Values.{same}
use Rattle.smpl_terms.specs.Environments.{value_in, has_value, total}
use Rattle.smpl_terms.proofs.ValueLaws.{same-refl}
use Rattle.smpl_patch.specs.declared.pattern.VarDecl.{VarDecl}
use Rattle.smpl_patch.specs.declared.pattern.PlusLine.{PlusLine}
use Rattle.smpl_patch.specs.declared.pattern.PlusBlock.{PlusBlock}
use Rattle.smpl_patch.specs.Patterns.{declared_as}
use Rattle.c_show.specs.declared.page.Role.{Role}
use Rattle.c_show.specs.declared.page.Role.TheVariants.{Plain}
use Rattle.c_show.specs.Show.{shown_kids, shown, role_of, joined}
use Rattle.c_show.proofs.Pages.{shown-Leaf, shown-Branch}
use Rattle.env_parts.specs.Parts.{Pairs, bare_value, bare_pair, bare_env}
use Rattle.env_parts.proofs.PartLemmas.{value_in-bare, has_value-bare}
use Rattle.edit_marks.specs.declared.line.Chunk.{Chunk}
use Rattle.edit_marks.specs.Blocks.{Environment, term_of, term, is_meta, text_of_token, value_chunk, term_chunk, chunk_of}
use Rattle.edit_marks.specs.Blocks.{left_at, left_after, chunk_text, tokens_text, without_lead, line_text, more_lines}
use Rattle.edit_marks.specs.Blocks.{lines_text, lead_of, least_lead, block_text, last_token, last_of_lines}
use Rattle.edit_marks.specs.EditWalk.Touches.{bound}
use Rattle.wit_forest.specs.WitTrees.Alike.{Alike}

-- ---- trees

abbrev bare_token : Token → Token
bare_token a = record a { id = 0 }

bare_kids : (cs : List Tree) → Each (λ t. bare (bare t) ≡ bare t) cs → map bare (map bare cs) ≡ map bare cs
bare_kids [] h = refl
bare_kids (c ∷ cs) h = λ i. h.0 i ∷ bare_kids cs h.1 i

bare_bare : (t : Tree) → bare (bare t) ≡ bare t
bare_bare = tree_induction (λ t. bare (bare t) ≡ bare t)
    (λ a. ap bare (bare-Leaf a) ∙ bare-Leaf (bare_token a) ∙ sym (bare-Leaf a))
    (λ l cs h. ap bare (bare-Branch l cs) ∙ bare-Branch l (map bare cs) ∙ ap (Branch l) (bare_kids cs h) ∙ sym (bare-Branch l cs))

leaves_kids : (cs : List Tree) → Each (λ t. leaves (bare t) ≡ map bare_token (leaves t)) cs
    → join (map leaves (map bare cs)) ≡ map bare_token (join (map leaves cs))
leaves_kids [] h = refl
leaves_kids (c ∷ cs) h = (λ i. h.0 i ++ leaves_kids cs h.1 i) ∙ sym (map-append bare_token (leaves c) (join (map leaves cs)))

bare_leaves : (t : Tree) → leaves (bare t) ≡ map bare_token (leaves t)
bare_leaves = tree_induction (λ t. leaves (bare t) ≡ map bare_token (leaves t))
    (λ a. ap leaves (bare-Leaf a) ∙ leaves-Leaf (bare_token a) ∙ sym (ap (map bare_token) (leaves-Leaf a)))
    (λ l cs h. ap leaves (bare-Branch l cs) ∙ leaves-Branch l (map bare cs) ∙ leaves_kids cs h ∙ sym (ap (map bare_token) (leaves-Branch l cs)))

abbrev ShowsAlike : Tree → Type 0
ShowsAlike t = (role : Role) → shown (bare t) role ≡ shown t role

shown_alike : (l : Label) (n : ℕ) (cs : List Tree) → Each ShowsAlike cs → shown_kids l n (map shown (map bare cs)) ≡ shown_kids l n (map shown cs)
shown_alike l n [] h = refl
shown_alike l n (c ∷ cs) h = λ i. h.0 (role_of l n) i ++ shown_alike l (n + 1) cs h.1 i

bare_shown : (t : Tree) → ShowsAlike t
bare_shown = tree_induction ShowsAlike
    (λ a role. ap (λ t. shown t role) (bare-Leaf a) ∙ shown-Leaf (bare_token a) role ∙ sym (shown-Leaf a role))
    (λ l cs h role. ap (λ t. shown t role) (bare-Branch l cs) ∙ shown-Branch l (map bare cs) role ∙ shown_alike l 0 cs h ∙ sym (shown-Branch l cs role))

text_bare : (o : Option Token) → text_of_token (option_map bare_token o) ≡ text_of_token o
text_bare None = refl
text_bare (Some a) = refl

text_at : (t : Tree) (n : ℕ) → text_of_token (slice_get (leaves (bare t)) n) ≡ text_of_token (slice_get (leaves t) n)
text_at t n = ap (λ (l : List Token). text_of_token (slice_get l n)) (bare_leaves t)
    ∙ ap text_of_token (slice_get-map bare_token (leaves t) n) ∙ text_bare (slice_get (leaves t) n)

leaf_count : (t : Tree) → length (leaves (bare t)) ≡ length (leaves t)
leaf_count t = ap length (bare_leaves t) ∙ length-map (leaves t) bare_token

bare_chunk : (t : Tree) → value_chunk (bare t) ≡ value_chunk t
bare_chunk t =
    let last : text_of_token (slice_get (leaves (bare t)) (length (leaves (bare t)) - 1)) ≡ text_of_token (slice_get (leaves t) (length (leaves t) - 1)) =
    ap (λ (n : ℕ). text_of_token (slice_get (leaves (bare t)) (n - 1))) (leaf_count t) ∙ text_at t (length (leaves t) - 1) in
    λ i. record { text = joined None (bare_shown t Plain i); first = text_at t 0 i; last = last i }

-- ---- values

same_value : (v : Value) → same (bare_value v) v ≡ true
same_value (Term t) = bare-same (bare t) t (bare_bare t)
same_value (Place p) = same-refl (Place p)

same_or : (o p : Option Value) → p ≡ option_map bare_value o → same (unwrap_or p (Place 0)) (unwrap_or o (Place 0)) ≡ true
same_or None p e = ap (λ (q : Option Value). same (unwrap_or q (Place 0)) (Place 0)) e ∙ same-refl (Place 0)
same_or (Some v) p e = ap (λ (q : Option Value). same (unwrap_or q (Place 0)) v) e ∙ same_value v

pub bare_alike : (env : Pairs) → Alike (total (bare_env env)) (total env)
bare_alike env = λ x. same_or (value_in env x) (value_in (bare_env env) x) (value_in-bare env x)

place_bare : (x : Var) (env : Pairs) → place_of x (bare_env env) ≡ place_of x env
place_bare x [] = refl
place_bare x (p ∷ env) = ap (λ (n : ℕ). cond (is_lt (var_order p.0 x)) (suc n) 0) (place_bare x env)

insert_bare : (env : Pairs) (n : ℕ) (x : Var) (v : Value) → insert (bare_env env) n (x, bare_value v) ≡ bare_env (insert env n (x, v))
insert_bare env n x v =
    (λ i. take-map bare_pair n env i ++ (x, bare_value v) ∷ drop-map bare_pair n env i) ∙ sym (map-append bare_pair (take n env) ((x, v) ∷ drop n env))

bound_by : (b : Bool) (env : Pairs) (x : Var) (v : Value)
    → cond b (bare_env env) (with_pair (bare_env env) x (bare_value v)) ≡ bare_env (cond b env (with_pair env x v))
bound_by true env x v = refl
bound_by false env x v = ap (λ (n : ℕ). insert (bare_env env) n (x, bare_value v)) (place_bare x env) ∙ insert_bare env (place_of x env) x v

-- one more value
pub bare_bound : (env : Pairs) (x : Var) (v : Value) → bound (bare_env env) x (bare_value v) ≡ bare_env (bound env x v)
bare_bound env x v =
    ap (λ (b : Bool). cond b (bare_env env) (with_pair (bare_env env) x (bare_value v))) (has_value-bare env x)
    ∙ bound_by (has_value env x) env x v

-- ---- plus code

module _ (decls : List VarDecl) (env : Environment) where
  value_term : (o : Option Value) → option_and_then term_of (option_map bare_value o) ≡ option_map bare (option_and_then term_of o)
  value_term None = refl
  value_term (Some (Term t)) = refl
  value_term (Some (Place p)) = refl

  decl_term : (o : Option VarDecl) → option_and_then (λ d. option_and_then term_of (value_in (bare_env env) d.var)) o
      ≡ option_map bare (option_and_then (λ d. option_and_then term_of (value_in env d.var)) o)
  decl_term None = refl
  decl_term (Some d) = ap (option_and_then term_of) (value_in-bare env d.var) ∙ value_term (value_in env d.var)

  bare_term_chunk : (o : Option Tree) → term_chunk (option_map bare o) ≡ term_chunk o
  bare_term_chunk None = refl
  bare_term_chunk (Some t) = bare_chunk t

  pub term_alike : (t : Token) → term decls (bare_env env) t.text ≡ option_map bare (term decls env t.text)
  term_alike t = decl_term (declared_as decls t.text)

  pub chunk : (t : Token) → chunk_of decls (bare_env env) t ≡ chunk_of decls env t
  chunk t =
      ap (λ (c : Chunk). if is_meta t.kind then c else record { text = t.text; first = Some t.text; last = Some t.text })
      (ap term_chunk (decl_term (declared_as decls t.text)) ∙ bare_term_chunk (term decls env t.text))

  tokens_alike : (left : Option (List ℕ)) (gaps : List (List ℕ)) (tokens : List Token)
      → tokens_text decls (bare_env env) left gaps tokens ≡ tokens_text decls env left gaps tokens
  tokens_alike left gaps [] = refl
  tokens_alike left [] (t ∷ tokens) = refl
  tokens_alike left (gap ∷ gaps) (t ∷ tokens) =
      λ i. chunk_text left gap (chunk t i) ++ tokens_alike (left_after (left_at left gap) (chunk t i).last) gaps tokens i

  line_alike : (m : ℕ) (line : PlusLine) → line_text decls (bare_env env) m line ≡ line_text decls env m line
  line_alike m line = tokens_alike None (without_lead m line.gaps) line.tokens

  more_alike : (m : ℕ) (joint : List ℕ) (lines : List PlusLine) → more_lines decls (bare_env env) m joint lines ≡ more_lines decls env m joint lines
  more_alike m joint [] = refl
  more_alike m joint (line ∷ lines) = λ i. joint ++ (line_alike m line i ++ more_alike m joint lines i)

  lines_alike : (m : ℕ) (joint : List ℕ) (lines : List PlusLine) → lines_text decls (bare_env env) m joint lines ≡ lines_text decls env m joint lines
  lines_alike m joint [] = refl
  lines_alike m joint (line ∷ lines) = λ i. line_alike m line i ++ more_alike m joint lines i

  pub block_alike : (joint : List ℕ) (block : PlusBlock) → block_text decls (bare_env env) joint block ≡ block_text decls env joint block
  block_alike joint block = lines_alike (lead_of (least_lead None block.lines)) joint block.lines

  last_alike : (left : Option (List ℕ)) (tokens : List Token) → last_token decls (bare_env env) left tokens ≡ last_token decls env left tokens
  last_alike left [] = refl
  last_alike left (t ∷ tokens) = λ i. last_alike (left_after left (chunk t i).last) tokens i

  pub end_alike : (left : Option (List ℕ)) (lines : List PlusLine) → last_of_lines decls (bare_env env) left lines ≡ last_of_lines decls env left lines
  end_alike left [] = refl
  end_alike left (line ∷ lines) = λ i. end_alike (last_alike left line.tokens i) lines i
