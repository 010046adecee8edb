-- The faults of what the bytes spell have bytes, or are those of rules of the text.
use Rattle.std.proofs.Common.{◌≡◌, ◌<◌, ◌+◌, ℕ, Bool, true, false, cond, List, [], ◌∷◌, ◌++◌, map, Option, Some, None, subst}
use Rattle.std.specs.Prelude.{◌==◌, ◌&&◌, length, slice_get}
use Rattle.c_terms.specs.declared.tree.Tree.{Tree}
use Rattle.c_rows.specs.Depth.{step}
use Rattle.smpl_patch.specs.declared.fault.PatchFault.{PatchFault}
use Rattle.smpl_patch.specs.declared.fault.PatchFault.TheVariants.{BadMetavariable, TwiceNamed, KindDiffers, StarWithEdit, MinusDots, TooDeep}
use Rattle.smpl_patch.specs.declared.pattern.VarDecl.{VarDecl}
use Rattle.smpl_patch.specs.Faults.{first_of}
use Rattle.smpl_lexer.specs.declared.token.PatchToken.{PatchToken}
use Rattle.smpl_lexer.specs.declared.section.Section.{Section}
use Rattle.smpl_lexer.specs.declared.section.Section.TheVariants as section
use Rattle.smpl_lexer.specs.declared.section.Role.{Role}
use Rattle.smpl_lexer.specs.declared.section.Role.TheVariants as role
use Rattle.smpl_lexer.specs.declared.text.BodyLine.{BodyLine}
use Rattle.smpl_lexer.specs.declared.text.RuleText.{RuleText}
use Rattle.smpl_lexer.specs.Lines.{end_of}
use Rattle.smpl_lexer.specs.Sections.{is_plus}
use Rattle.smpl_lexer.specs.Pieces.{LinePiece, is_bad}
use Rattle.smpl_lexer.specs.Tokens.{put_bad, bad_from}
use Rattle.smpl_lexer.specs.Headers.{stop_faults, script_faults, second_faults, is_second, has_script, header_stop, virtual_stop}
use Rattle.smpl_lexer.specs.CutLines.{CutLine, role_faults, faults_of, place_in, plain_tokens}
use Rattle.smpl_lexer.specs.Texts.{line_faults, end_faults, text_faults, section_of}
use Rattle.smpl_meta.specs.declared.head.RuleHead.{RuleHead}
use Rattle.smpl_meta.specs.declared.item.Item.{Item}
use Rattle.smpl_meta.specs.declared.item.Named.{Named}
use Rattle.smpl_meta.specs.declared.item.DeclKind.{DeclKind}
use Rattle.smpl_meta.specs.declared.patterns.Placed.{Placed}
use Rattle.smpl_meta.specs.Patterns.{pattern_tokens}
use Rattle.smpl_meta.specs.Forms.{is_keyword, parts}
use Rattle.smpl_meta.specs.Known.{var_of}
use Rattle.smpl_meta.specs.Decls as decls
use Rattle.smpl_meta.specs.Heads as heads
use Rattle.smpl_plus.specs.Blocks.{Block, blocks_of, is_many}
use Rattle.smpl_plus.specs.Anchors as anchors
use Rattle.smpl_plus.specs.declared.anchors.Anchor.{Anchor}
use Rattle.smpl_body.specs.Bodies as bodies
use Rattle.smpl_body.specs.Bodies.IsBodyFault.{deep, unspelled, misplaced}
use Rattle.smpl_body.specs.Deep.{deep_from}
use Rattle.smpl_body.specs.declared.smpl_when.cutting.Cutting.{Cutting}
use Rattle.smpl_body.specs.SmplWhen.Cutting.{cut}
use Rattle.smpl_body.specs.DotsOf.{statement_dots}
use Rattle.smpl_file.specs.Patches.{IsRuleFault}
use Rattle.smpl_file.specs.Patches.IsRuleFault.{in_plus, in_body}
use Rattle.c_terms.specs.Trees.{join}
use Rattle.place_laws.proofs.Below.{Below, AllBelow, both_below, first_below}

module _ (n : ℕ) where
  -- ---- texts

  put_bad_below : (b : Bool) (at : ℕ) (fs : List PatchFault) → AllBelow n fs → AllBelow n (put_bad b at fs)
  put_bad_below true at fs all = (tt, all)
  put_bad_below false at fs all = all

  bad_below : (plus : Bool) (at : ℕ) (ps : List LinePiece) → AllBelow n (bad_from plus at ps)
  bad_below plus at [] = tt
  bad_below plus at (p ∷ ps) =
      put_bad_below (is_bad plus p.kind p.text) at (bad_from plus (at + length p.text) ps) (bad_below plus (at + length p.text) ps)

  stop_below : (o : Option ℕ) → AllBelow n (stop_faults o)
  stop_below None = tt
  stop_below (Some at) = (tt, tt)

  script_below : (b : Bool) (at : ℕ) → AllBelow n (script_faults b at)
  script_below true at = (tt, tt)
  script_below false at = tt

  second_below : (b : Bool) (at : ℕ) → AllBelow n (second_faults b at)
  second_below true at = tt
  second_below false at = (tt, tt)

  role_below : (r : Role) (start : ℕ) (ts : List PatchToken) (end : ℕ) → AllBelow n (role_faults r start ts end)
  role_below role.Virtual start ts end = stop_below (virtual_stop ts end)
  role_below role.Header start ts end =
      both_below n (script_faults (has_script ts) start) (stop_faults (header_stop ts end)) (script_below (has_script ts) start)
      (stop_below (header_stop ts end))
  role_below role.Declaration start ts end = tt
  role_below role.Second start ts end = second_below (is_second ts) start
  role_below role.Body start ts end = tt

  cut_below : (c : CutLine) → AllBelow n (faults_of c)
  cut_below c =
      both_below n (bad_from (is_plus c.role c.line.bytes) (place_in c) c.pieces)
      (role_faults c.role c.line.start (plain_tokens c) (end_of c.line))
      (bad_below (is_plus c.role c.line.bytes) (place_in c) c.pieces)
      (role_below c.role c.line.start (plain_tokens c) (end_of c.line))

  lines_below : (cs : List CutLine) → AllBelow n (line_faults cs)
  lines_below [] = tt
  lines_below (c ∷ cs) = both_below n (faults_of c) (line_faults cs) (cut_below c) (lines_below cs)

  end_below : (s : Section) (end : ℕ) → AllBelow n (end_faults s end)
  end_below section.Declarations end = (tt, tt)
  end_below section.Before end = tt
  end_below section.Body end = tt

  pub text_below : (end : ℕ) (cs : List CutLine) (f : PatchFault) → first_of (text_faults end cs) ≡ Some f → Below n f
  text_below end cs f e =
      first_below n (text_faults end cs) f
      (both_below n (line_faults cs) (end_faults (section_of section.Before cs) end) (lines_below cs)
      (end_below (section_of section.Before cs) end)) e

  -- ---- heads

  name_below : (virtuals : List (List ℕ)) (earlier : List RuleHead) (o : Option PatchToken) → AllBelow n (heads.name_fault virtuals earlier o)
  name_below virtuals earlier None = tt
  name_below virtuals earlier (Some t) = by (heads.is_taken virtuals earlier t.token.text)
    where
      by : (b : Bool) → AllBelow n (cond b (TwiceNamed t.at ∷ []) [])
      by true = (tt, tt)
      by false = tt

  unknown_by : (b : Bool) (at : ℕ) → AllBelow n (heads.unknown_fault b at)
  unknown_by true at = (tt, tt)
  unknown_by false at = tt

  unknown_below : (virtuals : List (List ℕ)) (earlier : List RuleHead) (ts : List PatchToken) → AllBelow n (heads.unknown_faults virtuals earlier ts)
  unknown_below virtuals earlier [] = tt
  unknown_below virtuals earlier (t ∷ ts) =
      both_below n (heads.unknown_fault (heads.is_unknown virtuals earlier t) t.at) (heads.unknown_faults virtuals earlier ts)
      (unknown_by (heads.is_unknown virtuals earlier t) t.at) (unknown_below virtuals earlier ts)

  form_below : (part : List PatchToken) (o : Option (List Item)) → AllBelow n (decls.form_fault part o)
  form_below part (Some items) = tt
  form_below [] None = tt
  form_below (t ∷ ts) None = (tt, tt)

  forms_below : (ps : List (List PatchToken)) (answers : List (Option (List Item))) → AllBelow n (decls.form_faults ps answers)
  forms_below [] answers = tt
  forms_below (part ∷ more) [] = tt
  forms_below (part ∷ more) (answer ∷ answers) =
      both_below n (decls.form_fault part answer) (decls.form_faults more answers) (form_below part answer) (forms_below more answers)

  word_by : (b : Bool) (at : ℕ) → AllBelow n (cond b (BadMetavariable at ∷ []) [])
  word_by true at = (tt, tt)
  word_by false at = tt

  word_below : (t : PatchToken) → AllBelow n (decls.word_fault t)
  word_below t = word_by (is_keyword t) t.at

  from_word_below : (o : Option PatchToken) → AllBelow n (decls.from_word o)
  from_word_below None = tt
  from_word_below (Some r) = word_below r

  twice_below : (b : Bool) (i : Item) → AllBelow n (decls.twice_by b i)
  twice_below true i = (tt, tt)
  twice_below false i = tt

  found_by : (b : Bool) (at : ℕ) → AllBelow n (cond b [] (KindDiffers at ∷ []))
  found_by true at = tt
  found_by false at = (tt, tt)

  found_below : (kind : DeclKind) (r : PatchToken) (o : Option VarDecl) → AllBelow n (decls.found_fault kind r o)
  found_below kind r None = (tt, tt)
  found_below kind r (Some d) = found_by (decls.is_kind kind d.kind) r.at

  from_below : (earlier : List RuleHead) (kind : DeclKind) (o : Option PatchToken) (x : PatchToken) → AllBelow n (decls.from_fault earlier kind o x)
  from_below earlier kind None x = tt
  from_below earlier kind (Some r) x = found_below kind r (var_of earlier r.token.text x.token.text)

  named_below : (earlier : List RuleHead) (kind : DeclKind) (m : Named) → AllBelow n (decls.named_faults earlier kind m)
  named_below earlier kind m =
      both_below n (decls.from_word m.from) (decls.word_fault m.name ++ decls.from_fault earlier kind m.from m.name) (from_word_below m.from)
      (both_below n (decls.word_fault m.name) (decls.from_fault earlier kind m.from m.name) (word_below m.name)
      (from_below earlier kind m.from m.name))

  nots_below : (earlier : List RuleHead) (kind : DeclKind) (ms : List Named) → AllBelow n (decls.nots_faults earlier kind ms)
  nots_below earlier kind [] = tt
  nots_below earlier kind (m ∷ ms) =
      both_below n (decls.named_faults earlier kind m) (decls.nots_faults earlier kind ms) (named_below earlier kind m) (nots_below earlier kind ms)

  item_below : (again : Bool) (earlier : List RuleHead) (i : Item) → AllBelow n (decls.item_faults_by again earlier i)
  item_below again earlier i =
      both_below n (decls.twice_by again i) (decls.named_faults earlier i.kind i.named ++ decls.nots_faults earlier i.kind i.nots)
      (twice_below again i)
      (both_below n (decls.named_faults earlier i.kind i.named) (decls.nots_faults earlier i.kind i.nots)
      (named_below earlier i.kind i.named) (nots_below earlier i.kind i.nots))

  items_below : (earlier : List RuleHead) (before is : List Item) → AllBelow n (decls.items_faults earlier before is)
  items_below earlier before [] = tt
  items_below earlier before (i ∷ is) =
      both_below n (decls.item_faults earlier before i) (decls.items_faults earlier (before ++ i ∷ []) is)
      (item_below (decls.is_known before i) earlier i) (items_below earlier (before ++ i ∷ []) is)

  decls_below : (earlier : List RuleHead) (answers : List (Option (List Item))) (ts : List PatchToken)
      → AllBelow n (decls.decl_faults earlier answers ts)
  decls_below earlier answers ts =
      both_below n (decls.form_faults (parts ts) answers) (decls.items_faults earlier [] (decls.items_of answers))
      (forms_below (parts ts) answers) (items_below earlier [] (decls.items_of answers))

  pub head_below : (virtuals : List (List ℕ)) (earlier : List RuleHead) (r : RuleText) (f : PatchFault)
      → heads.IsHeadFault virtuals earlier r f → Below n f
  head_below virtuals earlier r f e =
      first_below n (heads.head_faults virtuals earlier e.answers r) f
      (both_below n (heads.name_fault virtuals earlier (heads.name_token r.header))
      (heads.unknown_faults virtuals earlier (heads.depends_tokens r.header) ++ decls.decl_faults earlier e.answers r.decls)
      (name_below virtuals earlier (heads.name_token r.header))
      (both_below n (heads.unknown_faults virtuals earlier (heads.depends_tokens r.header)) (decls.decl_faults earlier e.answers r.decls)
      (unknown_below virtuals earlier (heads.depends_tokens r.header)) (decls_below earlier e.answers r.decls))) e.first

  -- ---- plus code

  no_anchor_below : (o : Option Anchor) (at : ℕ) → AllBelow n (anchors.no_anchor o at)
  no_anchor_below None at = (tt, tt)
  no_anchor_below (Some a) at = tt

  mixed_below : (o : Option ℕ) → AllBelow n (anchors.mixed_at o)
  mixed_below None = tt
  mixed_below (Some at) = (tt, tt)

  blocks_below : (ps : List Placed) (bs : List Block) → AllBelow n (anchors.anchor_faults ps bs)
  blocks_below ps [] = tt
  blocks_below ps (b ∷ bs) =
      both_below n (anchors.block_faults ps b) (anchors.anchor_faults ps bs)
      (both_below n (anchors.no_anchor (anchors.anchor_of ps b) (anchors.place_of_block b.lines))
      (anchors.mixed_at (anchors.other_in (is_many b.lines) b.lines))
      (no_anchor_below (anchors.anchor_of ps b) (anchors.place_of_block b.lines))
      (mixed_below (anchors.other_in (is_many b.lines) b.lines)))
      (blocks_below ps bs)

  star_by : (b : Bool) (rule : ℕ) → rule < n → AllBelow n (cond b (StarWithEdit rule ∷ []) [])
  star_by true rule lt = (lt, tt)
  star_by false rule lt = tt

  phase_below : (one other : List PatchFault) (f : PatchFault) → AllBelow n one → AllBelow n other
      → anchors.first_phase (one ∷ other ∷ []) ≡ Some f → Below n f
  phase_below [] [] f first second e = absurd cc
  phase_below [] (g ∷ gs) f first second e = first_below n (g ∷ gs) f second e
  phase_below (g ∷ gs) other f first second e = first_below n (g ∷ gs) f first e

  plus_below : (vars : List VarDecl) (rule : ℕ) (body : List BodyLine) (f : PatchFault) → rule < n
      → anchors.first_phase (anchors.plus_faults vars rule body) ≡ Some f → Below n f
  plus_below vars rule body f lt e =
      phase_below (anchors.star_faults rule body) (anchors.anchor_faults (pattern_tokens vars body) (blocks_of (pattern_tokens vars body) body)) f
      (star_by (anchors.has_star body && heads.has_edit body) rule lt)
      (blocks_below (pattern_tokens vars body) (blocks_of (pattern_tokens vars body) body)) e

  -- ---- bodies

  deep_below : (depth : ℕ) (ps : List Placed) (f : PatchFault) → deep_from depth ps ≡ Some f → Below n f
  deep_below depth [] f e = absurd cc
  deep_below depth (p ∷ ps) f e = by (step p.token depth == 201) (λ h. deep_below (step p.token depth) ps f h) e
    where
      by : (b : Bool) → (deep_from (step p.token depth) ps ≡ Some f → Below n f)
          → cond b (Some (TooDeep p.at)) (deep_from (step p.token depth) ps) ≡ Some f → Below n f
      by true later h = let same : TooDeep p.at ≡ f = cc in subst (Below n) same tt
      by false later h = later h

  edges_below : (ps : List Placed) (ids : List ℕ) → AllBelow n (bodies.edge_faults ps ids)
  edges_below ps [] = tt
  edges_below ps (id ∷ ids) = (tt, edges_below ps ids)

  minus_by : (b : Bool) (at : ℕ) → AllBelow n (cond b (MinusDots at ∷ []) [])
  minus_by true at = (tt, tt)
  minus_by false at = tt

  minus_dots_below : (ps : List Placed) (ids : List ℕ) → AllBelow n (bodies.minus_dots ps ids)
  minus_dots_below ps [] = tt
  minus_dots_below ps (id ∷ ids) =
      both_below n (bodies.minus_dot ps id) (bodies.minus_dots ps ids)
      (minus_by (bodies.sign_of (slice_get ps id) == 45) (bodies.at_of (slice_get ps id))) (minus_dots_below ps ids)

  minus_signs_below : (ps : List Placed) → AllBelow n (bodies.minus_signs ps)
  minus_signs_below [] = tt
  minus_signs_below (p ∷ ps) =
      both_below n (bodies.minus_sign p) (bodies.minus_signs ps) (minus_by (p.sign == 45 && bodies.is_nest_sign p) p.at) (minus_signs_below ps)

  some_below : (one other : Option PatchFault) (f : PatchFault) → (one ≡ Some f → Below n f) → (other ≡ Some f → Below n f)
      → bodies.first_some one other ≡ Some f → Below n f
  some_below None other f first second e = second e
  some_below (Some g) other f first second e = first e

  tree_below : (ps : List Placed) (c : Cutting) (ts : List Tree) (f : PatchFault) → bodies.tree_fault ps c ts ≡ Some f → Below n f
  tree_below ps c ts f e =
      some_below (first_of (bodies.edge_faults ps (bodies.all_edges c ts))) (first_of (bodies.minus_faults ps ts)) f
      (λ h. first_below n (bodies.edge_faults ps (bodies.all_edges c ts)) f (edges_below ps (bodies.all_edges c ts)) h)
      (λ h. first_below n (bodies.minus_faults ps ts) f
      (both_below n (bodies.minus_dots ps (join (map statement_dots ts))) (bodies.minus_signs ps)
      (minus_dots_below ps (join (map statement_dots ts))) (minus_signs_below ps)) h) e

  body_below : (ps : List Placed) (end : ℕ) (f : PatchFault) → bodies.IsBodyFault ps end f → Below n f
  body_below ps end f (deep e) = deep_below 0 ps f e
  body_below ps end f (unspelled shallow never) = tt
  body_below ps end f (misplaced shallow t cs is e) = tree_below ps (cut ps) (t ∷ cs) f e

  pub rule_below : (rule : ℕ) (r : RuleText) (h : RuleHead) (f : PatchFault) → rule < n → IsRuleFault rule r h f → Below n f
  rule_below rule r h f lt (in_plus e) = plus_below h.vars rule r.body f lt e
  rule_below rule r h f lt (in_body none e) = body_below (pattern_tokens h.vars r.body) r.end f e
