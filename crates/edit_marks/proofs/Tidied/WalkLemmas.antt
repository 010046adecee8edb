-- The touches of a walk, apart: their edits, and their statements.
use Rattle.std.proofs.Common.{◌≡◌, ℕ, refl, subst, List, [], ◌∷◌, Bool, ap, sym, ◌∙◌}
use Rattle.std.specs.Prelude.{All, map}
use Rattle.std.specs.List.{AllZip}
use Rattle.std.proofs.lemmas.List.Elements.{All-head, All-tail}
use Rattle.cpp_lines.specs.declared.reading.Item.{Item}
use Rattle.edit_marks.specs.declared.edit_walk.nodes.ItemNodes.{ItemNodes}
use Rattle.smpl_patch.specs.declared.pattern.VarDecl.{VarDecl}
use Rattle.smpl_patch.specs.declared.pattern.PatToken.{PatToken}
use Rattle.smpl_patch.specs.declared.pattern.Pattern.{Pattern}
use Rattle.edit_marks.specs.declared.edit_conflict.edit.Edit.{Edit}
use Rattle.edit_marks.specs.declared.file_tokens.FileToken.{FileToken}
use Rattle.edit_marks.specs.declared.tidy.depth.AtomDepth.{AtomDepth}
use Rattle.edit_marks.specs.declared.tidy.touch.PatternStatement.{PatternStatement}
use Rattle.edit_marks.specs.declared.tidy.touch.TouchEdit.{TouchEdit}
use Rattle.edit_marks.specs.EditWalk.Touches.{Touched}
use Rattle.edit_marks.specs.Tidy.Bodies.{AreFlags, without, without_flagged}
use Rattle.edit_marks.specs.Tidy.Touch.{IsTidyEdit, IsTidyTouch, statement_at}
use Rattle.edit_marks.specs.Tidy.Walk.{without_staying}
use Rattle.edit_marks.proofs.Tidied.GoesLemmas.{without_same}
use Rattle.std.specs.List.{flat_map, list_any, zip}
use Rattle.std.proofs.Common.{◌<◌, ◌==◌, ◌++◌, length}
use Rattle.std.specs.Prelude.{Option, None, Some, if◌then◌else◌}
use Rattle.std.proofs.lemmas.List.Elements.{All-nil, All-append, All-map, All-weaker}
use Rattle.c_terms.specs.declared.tree.Tree.{Tree}
use Rattle.c_terms.specs.Trees.{leaves}
use Rattle.c_lexer.specs.Pieces.{TextPiece}
use Rattle.c_lexer.specs.Ids.{ids_of}
use Rattle.smpl_patch.specs.declared.rule.Rule.{Rule}
use Rattle.smpl_patch.specs.declared.witness.RuleWitness.{RuleWitness}
use Rattle.edit_marks.specs.declared.tidy.bodies.Changes.{Changes}
use Rattle.edit_marks.specs.declared.tidy.shape.Outline.{Outline}
use Rattle.edit_marks.specs.declared.tidy.walk.TidiedEdits.{TidiedEdits}
use Rattle.edit_marks.specs.EditConflict.Once.{number_in, once}
use Rattle.edit_marks.specs.EditWalk.Fit.{FitsText, HaveSoundTouches}
use Rattle.edit_marks.specs.EditWalk.Named.{alignment, pairs_at, tree_of}
use Rattle.edit_marks.specs.EditWalk.Touches.{touches}
use Rattle.edit_marks.specs.Tokens.{file_tokens}
use Rattle.edit_marks.specs.Tidy.Bodies.{AreChanges, acts_in, acts_of, staying}
use Rattle.edit_marks.specs.Tidy.Outlines.{IsOutline, tokens_of, tokens_of_item, tokens_of_items}
use Rattle.edit_marks.specs.Tidy.Touch.{touch_at}
use Rattle.edit_marks.specs.Tidy.Walk.{AreInOrder, AreTidyEdits, IsTidyEditAt, IsTidyTouchAt, patterns_of, depths_of, is_empty, items_of, touched_of}
use Rattle.edit_marks.proofs.EditWalk.FitLemmas.{each_all, each_all_with, files_below, once_all}
use Rattle.edit_marks.proofs.EditWalk.PlainLemmas.{blank_indents}
use Rattle.edit_marks.proofs.Tidied.SoundLemmas.{tidy_edit_plain}
use Rattle.edit_marks.specs.Edits.{ArePlainInserts, HaveSoundBlocks}
use Rattle.edit_marks.proofs.Tidied.FitLemmas.{tidy_edit_fits, all_fit}
use Rattle.edit_marks.proofs.Tidied.GoesLemmas.{staying_same}

abbrev pub edits_of : List TouchEdit → List Edit
edits_of = map (λ t. t.edit)

module _ (patterns : List Pattern) (decls : List VarDecl) (tokens : List PatToken) (items : List Item) (nodes : List ItemNodes) (ids : List ℕ)
    (files : List FileToken) (depths : List AtomDepth) where
  pub each_edit : (ts : List Touched) (es : List TouchEdit) → AllZip (IsTidyTouch patterns decls tokens items nodes ids files depths) ts es
      → AllZip (IsTidyEdit patterns decls tokens items nodes ids files depths) ts (edits_of es)
  each_edit [] [] h = tt
  each_edit [] (e ∷ es) h = absurd h
  each_edit (t ∷ ts) [] h = absurd h
  each_edit (t ∷ ts) (e ∷ es) h = (h.0.edit, each_edit ts es h.1)

  pub all_statements : (ts : List Touched) (es : List TouchEdit) → AllZip (IsTidyTouch patterns decls tokens items nodes ids files depths) ts es
      → map (λ (e : TouchEdit). e.statement) es ≡ map (statement_at patterns depths) ts
  all_statements [] [] h = refl
  all_statements [] (e ∷ es) h = absurd h
  all_statements (t ∷ ts) [] h = absurd h
  all_statements (t ∷ ts) (e ∷ es) h = λ i. h.0.statement i ∷ all_statements ts es h.1 i

  pub all_items : (ts : List Touched) (es : List TouchEdit) → AllZip (IsTidyTouch patterns decls tokens items nodes ids files depths) ts es
      → touched_of es ≡ items_of ts (edits_of es)
  all_items [] [] h = refl
  all_items [] (e ∷ es) h = absurd h
  all_items (t ∷ ts) [] h = absurd h
  all_items (t ∷ ts) (e ∷ es) h = λ i. (if is_empty e.edit then [] else (h.0.statement i).item ∷ []) ++ all_items ts es h.1 i

-- the edits without the removal of flagged tokens
pub all_without : (count : ℕ) (stays : List ℕ) (flags : List Bool) → AreFlags count (λ n. list_any (λ m. m == n) stays) flags
    → (es : List TouchEdit) → All (λ (e : Edit). All (λ n. n < count) e.removed) (edits_of es)
    → map (λ (t : TouchEdit). without_flagged flags t.edit) es ≡ without_staying stays (edits_of es)
all_without count stays flags are [] h = refl
all_without count stays flags are (e ∷ es) h =
    let P = λ (x : Edit). All (λ n. n < count) x.removed in
    λ i. without_same count stays flags are e.edit (All-head P e.edit (edits_of es) h) i
    ∷ all_without count stays flags are es (All-tail P e.edit (edits_of es) h) i

-- the touches in a context are those of the rule and the text that it was made from
pub same_touches : (items : List Item) (nodes : List ItemNodes) (ts : List Touched) (es : List TouchEdit)
    (patterns patterns' : List Pattern) (decls decls' : List VarDecl) (tokens tokens' : List PatToken) (ids ids' : List ℕ) (files files' : List FileToken)
    (depths depths' : List AtomDepth) → patterns ≡ patterns' → decls ≡ decls' → tokens ≡ tokens' → ids ≡ ids' → files ≡ files' → depths ≡ depths'
    → AllZip (IsTidyTouch patterns decls tokens items nodes ids files depths) ts es
    → AllZip (IsTidyTouch patterns' decls' tokens' items nodes ids' files' depths') ts es
same_touches items nodes ts es patterns patterns' decls decls' tokens tokens' ids ids' files files' depths depths' p d t n f a h =
    subst (λ (x : List AtomDepth). AllZip (IsTidyTouch patterns' decls' tokens' items nodes ids' files' x) ts es) a
    (subst (λ (x : List FileToken). AllZip (IsTidyTouch patterns' decls' tokens' items nodes ids' x depths) ts es) f
    (subst (λ (x : List ℕ). AllZip (IsTidyTouch patterns' decls' tokens' items nodes x files depths) ts es) n
    (subst (λ (x : List PatToken). AllZip (IsTidyTouch patterns' decls' x items nodes ids files depths) ts es) t
    (subst (λ (x : List VarDecl). AllZip (IsTidyTouch patterns' x tokens items nodes ids files depths) ts es) d
    (subst (λ (x : List Pattern). AllZip (IsTidyTouch x decls tokens items nodes ids files depths) ts es) p h)))))

-- ---- the tokens of items are in the text

item_below : (ids : List ℕ) (o : Option Tree) → All (λ n. n < length ids) (tokens_of_item ids o)
item_below ids None = All-nil (λ n. n < length ids)
item_below ids (Some t) = files_below ids (map (λ l. l.id) (leaves t))

pub items_below : (ids : List ℕ) (items : List Item) (touched : List ℕ) → All (λ n. n < length ids) (tokens_of_items ids items touched)
items_below ids items [] = All-nil (λ n. n < length ids)
items_below ids items (n ∷ touched) =
    All-append (λ n. n < length ids) (tokens_of_item ids (tree_of items n)) (tokens_of_items ids items touched) (item_below ids (tree_of items n))
    (items_below ids items touched)

-- ---- the edits that the walk makes

module _ (witnesses : List RuleWitness) (rule : Rule) (items : List Item) (nodes : List ItemNodes) (pieces : List TextPiece) where
  fits_at : (t : Touched) (e : Edit) → IsTidyEditAt rule items nodes pieces t e → FitsText (length (ids_of pieces)) e
  fits_at t e is =
      tidy_edit_fits rule.vars rule.tokens t.env pieces (touch_at (patterns_of rule) items (depths_of rule) t)
      (alignment (patterns_of rule) rule.vars rule.tokens items nodes (ids_of pieces) t) e is

  pub all_edits_fit : (es : List Edit) → AllZip (IsTidyEditAt rule items nodes pieces) (touches witnesses) es → All (FitsText (length (ids_of pieces))) es
  all_edits_fit es zip = each_all (FitsText (length (ids_of pieces))) (IsTidyEditAt rule items nodes pieces) (touches witnesses) es fits_at zip

  pub made_are : (made : TidiedEdits) (es : List TouchEdit) (ids own : List ℕ) (outline : Outline) (count : ℕ) (changes : Changes) (flags : List Bool)
      → AllZip (IsTidyTouchAt rule items nodes pieces) (touches witnesses) es → ids ≡ ids_of pieces → AreInOrder (touched_of es) own
      → IsOutline ids items own outline → count ≡ length (ids_of pieces) → AreChanges count (edits_of es) changes
      → AreFlags count (λ n. list_any (λ m. m == n) (staying (acts_in changes) outline)) flags
      → made.outline ≡ outline → made.list ≡ once (map (λ (t : TouchEdit). without_flagged flags t.edit) es)
      → made.statements.items ≡ zip (map (number_in made.list) (map (λ (t : TouchEdit). without_flagged flags t.edit) es)) (map (λ (t : TouchEdit). t.statement) es)
      → AreTidyEdits witnesses rule items nodes pieces made
  made_are made es ids own outline count changes flags each is_ids in_order outlined is_count ch are is_outline is_list is_named =
      let all = edits_of es in
      let stays = staying (acts_of all) made.outline in
      let own_edits =
      each_edit (patterns_of rule) rule.vars rule.tokens items nodes (ids_of pieces) (file_tokens pieces) (depths_of rule) (touches witnesses) es each in
      let drawn : IsOutline (ids_of pieces) items own outline = subst (λ (l : List ℕ). IsOutline l items own outline) is_ids outlined in
      let below : All (λ n. n < count) outline.leaves.items =
      subst (λ (l : List ℕ). All (λ n. n < count) l) (sym drawn.leaves)
      (subst (λ (m : ℕ). All (λ n. n < m) (tokens_of_items (ids_of pieces) items own)) (sym is_count) (items_below (ids_of pieces) items own)) in
      let same : staying (acts_in changes) outline ≡ stays =
      staying_same count all changes ch outline below ∙ ap (λ (o : Outline). staying (acts_of all) o) (sym is_outline) in
      let flagged : AreFlags count (λ n. list_any (λ m. m == n) stays) flags = record {
        long = are.long;
        each = λ n less. are.each n less ∙ ap (list_any (λ m. m == n)) same;
      } in
      let removed : All (λ (e : Edit). All (λ n. n < count) e.removed) all =
      All-weaker (FitsText (length (ids_of pieces))) (λ (e : Edit). All (λ n. n < count) e.removed)
      (λ e fit. subst (λ (m : ℕ). All (λ n. n < m) e.removed) (sym is_count) fit.removed) all (all_edits_fit all own_edits) in
      let left : map (λ (t : TouchEdit). without_flagged flags t.edit) es ≡ without_staying stays all = all_without count stays flags flagged es removed in
      let names = all_statements (patterns_of rule) rule.vars rule.tokens items nodes (ids_of pieces) (file_tokens pieces) (depths_of rule) (touches witnesses) es each in
      let items_are = all_items (patterns_of rule) rule.vars rule.tokens items nodes (ids_of pieces) (file_tokens pieces) (depths_of rule) (touches witnesses) es each in
      record {
        all = all;
        each = own_edits;
        touched = own;
        ordered = subst (λ (l : List ℕ). AreInOrder l own) items_are in_order;
        outlined = subst (λ (o : Outline). IsOutline (ids_of pieces) items own o) (sym is_outline) drawn;
        distinct = is_list ∙ ap once left;
        statements = is_named ∙ (λ i. zip (map (number_in made.list) (left i)) (names i));
      }

  pub made_fit : (made : TidiedEdits) → AreTidyEdits witnesses rule items nodes pieces made → All (FitsText (length (ids_of pieces))) made.list
  made_fit made h =
      subst (λ (l : List Edit). All (FitsText (length (ids_of pieces))) l) (sym h.distinct)
      (once_all (FitsText (length (ids_of pieces))) (without_staying (staying (acts_of h.all) made.outline) h.all)
      (all_fit (length (ids_of pieces)) (staying (acts_of h.all) made.outline) h.all (all_edits_fit h.all h.each)))

  pub made_plain : (made : TidiedEdits) → AreTidyEdits witnesses rule items nodes pieces made → HaveSoundTouches rule (touches witnesses)
      → All (λ (e : Edit). ArePlainInserts e.inserts) made.list
  made_plain made h sound =
      let P = λ (e : Edit). ArePlainInserts e.inserts in
      let stays = staying (acts_of h.all) made.outline in
      subst (λ (l : List Edit). All P l) (sym h.distinct) (once_all P (without_staying stays h.all) (all_plain stays h.all
      (each_all_with P (IsTidyEditAt rule items nodes pieces) (λ t. HaveSoundBlocks rule.vars rule.tokens t.env) (touches witnesses) h.all
      (λ t e own is. tidy_edit_plain rule.vars rule.tokens t.env (ids_of pieces) (file_tokens pieces) (touch_at (patterns_of rule) items (depths_of rule) t)
      (pairs_at (patterns_of rule) rule.vars rule.tokens items nodes (ids_of pieces) t) e is own (blank_indents pieces)) sound h.each)))
    where
      all_plain : (stays : List ℕ) (es : List Edit) → All (λ (e : Edit). ArePlainInserts e.inserts) es
          → All (λ (e : Edit). ArePlainInserts e.inserts) (without_staying stays es)
      all_plain stays es all = All-map (λ (e : Edit). ArePlainInserts e.inserts) (without stays) es all
