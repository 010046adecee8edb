-- The tidied edits of witnesses are those of the witnesses without the ids of their values.
use Rattle.std.proofs.Common.{◌≡◌, ◌+◌, ◌&&◌, ℕ, refl, sym, ap, subst, ◌∙◌, List, [], ◌∷◌, ◌++◌, map, length}
use Rattle.std.specs.Prelude.{Option, None, Some, if◌then◌else◌, is_some, not, option_map}
use Rattle.std.specs.List.{AllZip, zip}
use Rattle.c_lexer.specs.Pieces.{TextPiece}
use Rattle.c_lexer.specs.Ids.{ids_of}
use Rattle.c_terms.specs.declared.label.Label.{Label}
use Rattle.c_terms.specs.declared.token.Token.{Token}
use Rattle.c_terms.specs.declared.token.TokenKind.{TokenKind}
use Rattle.c_terms.specs.declared.token.TokenKind.TheVariants as kind
use Rattle.c_terms.specs.declared.token.MetaKind.TheVariants as meta
use Rattle.c_terms.specs.declared.tree.Tree.{Tree}
use Rattle.c_terms.specs.declared.tree.Tree.TheVariants.{Leaf, Branch}
use Rattle.c_terms.specs.Bare.{bare}
use Rattle.c_terms.proofs.BareLaws.{bare-Leaf, bare-Branch}
use Rattle.c_terms.proofs.Induct.{tree_induction}
use Rattle.c_terms.proofs.SameLemmas.{out-Leaf, out-Branch}
use Rattle.cpp_lines.specs.declared.reading.Item.{Item}
use Rattle.smpl_patch.specs.declared.pattern.VarDecl.{VarDecl}
use Rattle.smpl_patch.specs.declared.pattern.PatToken.{PatToken}
use Rattle.smpl_patch.specs.declared.pattern.PlusBlock.{PlusBlock}
use Rattle.smpl_patch.specs.declared.pattern.PlusLine.{PlusLine}
use Rattle.smpl_patch.specs.declared.rule.Rule.{Rule}
use Rattle.smpl_patch.specs.declared.witness.RuleWitness.{RuleWitness}
use Rattle.env_parts.specs.Parts.{bare_env}
use Rattle.edit_marks.specs.declared.edit_conflict.edit.Edit.{Edit}
use Rattle.edit_marks.specs.declared.edit_walk.nodes.ItemNodes.{ItemNodes}
use Rattle.edit_marks.specs.declared.file_tokens.FileToken.{FileToken}
use Rattle.edit_marks.specs.declared.removals.Aligned.{Aligned}
use Rattle.edit_marks.specs.declared.spot.PlusSpot.{PlusSpot}
use Rattle.edit_marks.specs.declared.tidy.edges.PlacedBlock.{PlacedBlock}
use Rattle.edit_marks.specs.declared.tidy.touch.PatternStatement.{PatternStatement}
use Rattle.edit_marks.specs.declared.tidy.walk.TidiedEdits.{TidiedEdits}
use Rattle.edit_marks.specs.declared.tidy.words.BlockWord.{BlockWord}
use Rattle.edit_marks.specs.declared.tidy.words.Hold.TheVariants as hold
use Rattle.edit_marks.specs.Blocks.{lead_of, least_lead, term}
use Rattle.edit_marks.specs.Edits.{block_of}
use Rattle.edit_marks.specs.EditConflict.Once.{number_in}
use Rattle.edit_marks.specs.EditWalk.Touches.{Values, Touched, touches}
use Rattle.edit_marks.specs.Tokens.{file_tokens}
use Rattle.edit_marks.specs.Tidy.Bodies.{acts_of, staying}
use Rattle.edit_marks.specs.Tidy.Edits.{TouchAt, TidyEditOf, block_if, blocks_at, tidy_inserts}
use Rattle.edit_marks.specs.Tidy.Touch.{statement_at, touch_at}
use Rattle.edit_marks.specs.Tidy.Walk.{AreInOrder, AreTidyEdits, IsTidyEditAt, depths_of, is_empty, items_of, patterns_of, without_staying}
use Rattle.edit_marks.specs.Tidy.Words.{hold_of, hold_of_label, hold_of_shape, hold_of_tree, hold_of_term, is_list, is_comma}
use Rattle.edit_marks.specs.Tidy.Words.{word_of, words_of_line, words_from, without_lists}
use Rattle.rule_chain.specs.RuleWitnesses.Bare.{bare_witness}
use Rattle.rule_chain.proofs.EditLaws.BareEdits.{bare_touch, bare_touches, pairs_here, same_pairs}
use Rattle.rule_chain.proofs.EditLaws.ValueLemmas.{chunk, term_alike}

-- ---- words

hold_leaf : (a : Token) → hold_of_tree (Leaf a) ≡ hold.Firm
hold_leaf a = ap hold_of_shape (out-Leaf a)

hold_branch : (l : Label) (cs : List Tree) → hold_of_tree (Branch l cs) ≡ hold_of_label l
hold_branch l cs = ap hold_of_shape (out-Branch l cs)

hold_alike : (t : Tree) → hold_of_tree (bare t) ≡ hold_of_tree t
hold_alike = tree_induction (λ t. hold_of_tree (bare t) ≡ hold_of_tree t)
    (λ a. ap hold_of_tree (bare-Leaf a) ∙ hold_leaf (record a { id = 0 }) ∙ sym (hold_leaf a))
    (λ l cs h. ap hold_of_tree (bare-Branch l cs) ∙ hold_branch l (map bare cs) ∙ sym (hold_branch l cs))

hold_term : (o : Option Tree) → hold_of_term (option_map bare o) ≡ hold_of_term o
hold_term None = refl
hold_term (Some t) = hold_alike t

hold_by : (k : TokenKind) (o : Option Tree) → hold_of k (option_map bare o) ≡ hold_of k o
hold_by (kind.Meta meta.Expr) o = hold_term o
hold_by k o = refl

module _ (decls : List VarDecl) (env : Values) where
  word_alike : (line : ℕ) (gap : List ℕ) (t : Token) → word_of decls (bare_env env) line gap t ≡ word_of decls env line gap t
  word_alike line gap t = λ i.
      let word : BlockWord = record {
        line = line;
        gap = gap;
        chunk = chunk decls env t i;
        hold = (ap (hold_of t.kind) (term_alike decls env t) ∙ hold_by t.kind (term decls env t.text)) i;
        is_empty_list = is_list t.kind && not (is_some (chunk decls env t i).first);
        is_comma = is_comma t;
      } in word

  line_alike : (line : ℕ) (gaps : List (List ℕ)) (tokens : List Token)
      → words_of_line decls (bare_env env) line gaps tokens ≡ words_of_line decls env line gaps tokens
  line_alike line gaps [] = refl
  line_alike line [] (t ∷ tokens) = refl
  line_alike line (gap ∷ gaps) (t ∷ tokens) = λ i. word_alike line gap t i ∷ line_alike line gaps tokens i

  words_alike : (line : ℕ) (lines : List PlusLine) → words_from decls (bare_env env) line lines ≡ words_from decls env line lines
  words_alike line [] = refl
  words_alike line (l ∷ lines) = λ i. line_alike line l.gaps l.tokens i ++ words_alike (line + 1) lines i

  block_alike : (s : PlusSpot) (b : Option PlusBlock) → block_if decls (bare_env env) s b ≡ block_if decls env s b
  block_alike s None = refl
  block_alike s (Some b) = λ i.
      (let block : PlacedBlock = record {
        spot = s;
        many = b.many;
        lines = length b.lines;
        lead = lead_of (least_lead None b.lines);
        words = without_lists (words_alike 0 b.lines i);
      } in block) ∷ []

  blocks_alike : (tokens : List PatToken) (spots : List PlusSpot) → blocks_at decls tokens (bare_env env) spots ≡ blocks_at decls tokens env spots
  blocks_alike tokens [] = refl
  blocks_alike tokens (s ∷ spots) = λ i. block_alike s (block_of tokens s) i ++ blocks_alike tokens spots i

-- ---- the edit of a touch

module _ (decls : List VarDecl) (tokens : List PatToken) (env : Values) (ids : List ℕ) (files : List FileToken) (t : TouchAt) where
  inserts_alike : (removed : List ℕ) (spots : List PlusSpot)
      → tidy_inserts ids files t removed (blocks_at decls tokens (bare_env env) spots) 0 (blocks_at decls tokens (bare_env env) spots)
      ≡ tidy_inserts ids files t removed (blocks_at decls tokens env spots) 0 (blocks_at decls tokens env spots)
  inserts_alike removed spots =
      ap (λ (blocks : List PlacedBlock). tidy_inserts ids files t removed blocks 0 blocks) (blocks_alike decls env tokens spots)

  without : (pairs : List Aligned) (edit : Edit) → TidyEditOf decls tokens (bare_env env) ids files t pairs edit
      → TidyEditOf decls tokens env ids files t pairs edit
  without pairs edit is = record {
    rise = is.rise;
    removed = is.removed;
    spots = is.spots;
    all = is.all;
    sorted = is.sorted;
    inserts = is.inserts ∙ inserts_alike edit.removed is.spots;
  }

  back : (pairs : List Aligned) (edit : Edit) → TidyEditOf decls tokens env ids files t pairs edit
      → TidyEditOf decls tokens (bare_env env) ids files t pairs edit
  back pairs edit is = record {
    rise = is.rise;
    removed = is.removed;
    spots = is.spots;
    all = is.all;
    sorted = is.sorted;
    inserts = is.inserts ∙ sym (inserts_alike edit.removed is.spots);
  }

-- ---- the edits of all

items_alike : (ts : List Touched) (edits : List Edit) → items_of (map bare_touch ts) edits ≡ items_of ts edits
items_alike [] edits = refl
items_alike (t ∷ ts) [] = refl
items_alike (t ∷ ts) (e ∷ edits) = ap (λ (items : List ℕ). (if is_empty e then [] else t.item ∷ []) ++ items) (items_alike ts edits)

module _ (rule : Rule) where
  statements_alike : (ts : List Touched)
      → map (statement_at (patterns_of rule) (depths_of rule)) (map bare_touch ts) ≡ map (statement_at (patterns_of rule) (depths_of rule)) ts
  statements_alike [] = refl
  statements_alike (t ∷ ts) = ap (λ (more : List PatternStatement). statement_at (patterns_of rule) (depths_of rule) t ∷ more) (statements_alike ts)

module _ (rule : Rule) (items : List Item) (nodes : List ItemNodes) (pieces : List TextPiece) where
  abbrev R : Touched → Edit → Type 0
  R = IsTidyEditAt rule items nodes pieces

  abbrev location : Touched → TouchAt
  location t = touch_at (patterns_of rule) items (depths_of rule) t

  without_ids : (t : Touched) (e : Edit) → R (bare_touch t) e → R t e
  without_ids t e is =
      without rule.vars rule.tokens t.env (ids_of pieces) (file_tokens pieces) (location t) (pairs_here rule items nodes pieces t) e
      (subst (λ (ps : List Aligned). TidyEditOf rule.vars rule.tokens (bare_env t.env) (ids_of pieces) (file_tokens pieces) (location t) ps e)
      (same_pairs rule items nodes pieces t) is)

  with_ids : (t : Touched) (e : Edit) → R t e → R (bare_touch t) e
  with_ids t e is =
      subst (λ (ps : List Aligned). TidyEditOf rule.vars rule.tokens (bare_env t.env) (ids_of pieces) (file_tokens pieces) (location t) ps e)
      (sym (same_pairs rule items nodes pieces t))
      (back rule.vars rule.tokens t.env (ids_of pieces) (file_tokens pieces) (location t) (pairs_here rule items nodes pieces t) e is)

  all_without : (ts : List Touched) (es : List Edit) → AllZip R (map bare_touch ts) es → AllZip R ts es
  all_without [] [] h = tt
  all_without [] (e ∷ es) h = absurd h
  all_without (t ∷ ts) [] h = absurd h
  all_without (t ∷ ts) (e ∷ es) h = (without_ids t e h.0, all_without ts es h.1)

  all_with : (ts : List Touched) (es : List Edit) → AllZip R ts es → AllZip R (map bare_touch ts) es
  all_with [] [] h = tt
  all_with [] (e ∷ es) h = absurd h
  all_with (t ∷ ts) [] h = absurd h
  all_with (t ∷ ts) (e ∷ es) h = (with_ids t e h.0, all_with ts es h.1)

  pub tidy_edits_without : (ws : List RuleWitness) (made : TidiedEdits) → AreTidyEdits (map bare_witness ws) rule items nodes pieces made
      → AreTidyEdits ws rule items nodes pieces made
  tidy_edits_without ws made h =
      let same = bare_touches ws in
      record {
        all = h.all;
        each = all_without (touches ws) h.all (subst (λ (ts : List Touched). AllZip R ts h.all) same h.each);
        touched = h.touched;
        ordered = subst (λ (all : List ℕ). AreInOrder all h.touched) (ap (λ (ts : List Touched). items_of ts h.all) same ∙ items_alike (touches ws) h.all)
            h.ordered;
        outlined = h.outlined;
        distinct = h.distinct;
        statements = h.statements
            ∙ ap (zip (map (number_in made.list) (without_staying (staying (acts_of h.all) made.outline) h.all)))
            (ap (map (statement_at (patterns_of rule) (depths_of rule))) same ∙ statements_alike rule (touches ws));
      }

  pub tidy_edits_with : (ws : List RuleWitness) (made : TidiedEdits) → AreTidyEdits ws rule items nodes pieces made
      → AreTidyEdits (map bare_witness ws) rule items nodes pieces made
  tidy_edits_with ws made h =
      let same = bare_touches ws in
      record {
        all = h.all;
        each = subst (λ (ts : List Touched). AllZip R ts h.all) (sym same) (all_with (touches ws) h.all h.each);
        touched = h.touched;
        ordered = subst (λ (all : List ℕ). AreInOrder all h.touched)
            (sym (ap (λ (ts : List Touched). items_of ts h.all) same ∙ items_alike (touches ws) h.all)) h.ordered;
        outlined = h.outlined;
        distinct = h.distinct;
        statements = h.statements
            ∙ ap (zip (map (number_in made.list) (without_staying (staying (acts_of h.all) made.outline) h.all)))
            (sym (ap (map (statement_at (patterns_of rule) (depths_of rule))) same ∙ statements_alike rule (touches ws)));
      }
