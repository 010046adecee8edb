-- Nothing happens to a text in which each rule lacks a word.
use Rattle.std.proofs.Common.{◌≡◌, ◌<◌, ◌≤◌, ◌^◌, ◌||◌, ◌&&◌, ℕ, zero, suc, Bool, true, false, refl, sym, ap, ◌∙◌, subst, arith, inl, inr}
use Rattle.std.proofs.Common.{List, [], ◌∷◌, ◌++◌, Some, None, length, map}
use Rattle.std.proofs.Math.Path.{subst₂}
use Rattle.std.specs.Prelude.{nat_lt, All, Option, IfSome, slice_get, slice_range}
use Rattle.std.specs.Option.{option_map_or}
use Rattle.std.specs.List.{AllZip, list_any, flat_map}
use Rattle.std.proofs.lemmas.List.Elements.{All-nil, All-head, All-tail, All-push}
use Rattle.std.proofs.lemmas.List.{append_assoc}
use Rattle.run_choices.specs.declared.unread.Unread.{Unread}
use Rattle.run_choices.specs.declared.unread.Unread.TheVariants as unread
use Rattle.c_terms.specs.declared.token.Token.{Token}
use Rattle.c_terms.specs.Same.{same_bytes}
use Rattle.c_terms.proofs.BareLaws.{same_bytes-equal}
use Rattle.c_rows.specs.declared.kind.Kind.TheVariants as kind
use Rattle.c_rows.specs.Look.{Names}
use Rattle.c_rows.proofs.RangeLemmas.{tree_leaves}
use Rattle.c_lexer.specs.Pieces.{TextPiece, text_of, most_bytes}
use Rattle.c_lexer.specs.Ids.{ids_of}
use Rattle.cpp_lines.specs.declared.span.ItemSpan.{ItemSpan}
use Rattle.cpp_lines.specs.declared.reading.Item.{Item}
use Rattle.cpp_lines.specs.declared.reading.Item.TheVariants.{Parsed, Skipped}
use Rattle.cpp_lines.specs.Visible.{signs_of}
use Rattle.cpp_lines.specs.Items.{items_of}
use Rattle.cfg_build.specs.Graphs.{node_count}
use Rattle.c_terms.specs.Names.{listed_names}
use Rattle.c_file.specs.File.{FileItems}
use Rattle.c_file.specs.Tokens.{token_of, token_at, tokens_in}
use Rattle.c_file.specs.Reads.{Reads, ReadsFrom, names_after}
use Rattle.c_file.specs.ItemGraphs.Trees.{item_tree}
use Rattle.c_file.specs.ItemGraphs.Typed.{graphs_from, graph_in}
use Rattle.smpl_patch.specs.declared.rule.Rule.{Rule}
use Rattle.smpl_patch.specs.declared.witness.RuleWitness.{RuleWitness}
use Rattle.smpl_patch.specs.Wants.{ask_types}
use Rattle.ctl_fixpoint.specs.RequiredWords.Words.{is_word_kind, is_word, has_word, needs}
use Rattle.ctl_fixpoint.proofs.RequiredWords.WordLemmas.{and_right}
use Rattle.ctl_translate.specs.Rules.{formula_of}
use Rattle.edit_marks.specs.declared.edit_conflict.edit.Edit.{Edit}
use Rattle.edit_marks.specs.declared.tidy.walk.TidiedEdits.{TidiedEdits}
use Rattle.edit_marks.specs.EditConflict.Once.{once}
use Rattle.edit_marks.specs.EditWalk.Edited.{AreEdits, IsEditAt}
use Rattle.env_parts.specs.Parts.{Pairs}
use Rattle.rule_envs.specs.declared.file_env.FileEnv.{FileEnv}
use Rattle.rule_envs.specs.Shares.{bare_file_env}
use Rattle.rule_envs.specs.FileEnvs as envs
use Rattle.rule_envs.specs.FileEnvs.{first_file_envs, most_environments}
use Rattle.wit_forest.specs.WitOrder.Sizes.{most_nodes}
use Rattle.rule_chain.specs.RuleWitnesses.Bare.{bare_witness}
use Rattle.rule_chain.specs.RuleWitnesses.Jobs.{touches_and_binds}
use Rattle.rule_chain.specs.declared.rule_edits.fault.EditFault.{EditFault}
use Rattle.rule_chain.specs.RuleEdits.Nodes.{nodes_of}
use Rattle.rule_chain.specs.RuleEdits.Faults.{IsEditFault}
use Rattle.rule_chain.specs.RuleEdits.Faults.IsEditFault.{conflict, too_long}
use Rattle.rule_chain.specs.RuleEdits.Pages.{Page, is_edited}
use Rattle.rule_chain.specs.FileWitnesses.Seen.{seen_graph}
use Rattle.rule_chain.specs.FileWitnesses.Found.{witnesses_in, is_large, found_from, is_large_from, found_under, is_large_under, brings}
use Rattle.rule_chain.specs.RuleMatches.Matching.{rule_share, rule_projections}
use Rattle.rule_chain.specs.declared.rule_run.fault.FileFault.{FileFault}
use Rattle.rule_chain.specs.RuleRun.Needed.{is_word_at, holds_words, may_match, ran_after}
use Rattle.rule_chain.specs.declared.rule_run.state.FileState.{FileState}
use Rattle.rule_chain.specs.RuleRun.Outcomes.{AreFindingsOf}
use Rattle.rule_chain.specs.RuleRun.States.{Chained, first_state, told_notes}
use Rattle.rule_chain.specs.RuleRun.OneRule.{had_after, MayRead, file_witnesses, rule_file_envs, is_too_much, RuleEdits, state_after, state_with}
use Rattle.rule_chain.specs.RuleRun.Tidied.{TidyRuleEdits, IsTidyFault, IsFaultBy, LeadsBy}
use Rattle.rule_chain.specs.RuleRun.OneRule.IsFault.{too_many_witnesses, too_many_environments, in_edits}
use Rattle.rule_chain.specs.Chain.{Outcome, Done, Runs, Chain, is_followed}
use Rattle.rule_chain.specs.Passed.{StandsIn, LacksWord, IsUntouched}
use Rattle.rule_chain.proofs.FileWitnesses.LackLemmas.{nothing_without}
use Rattle.rule_chain.proofs.NoteLemmas.{none_where}
use Rattle.rule_chain.proofs.WordLemmas.{formula_needs, lacks_words}
use Rattle.rule_chain.proofs.RuleEdits.TidyLemmas.{page_stays, no_tidy_fault, no_tidy_edit}

-- ---- what the pieces of a text are stands in it

piece_stands : (pieces : List TextPiece) (n : ℕ) (p : TextPiece) → slice_get pieces n ≡ Some p → StandsIn (text_of pieces) p.text
piece_stands [] n p h = absurd (cc)
piece_stands (q ∷ pieces) zero p h =
    let same : q ≡ p = cc in
    ([], (text_of pieces, ap (λ (r : TextPiece). r.text ++ text_of pieces) same))
piece_stands (q ∷ pieces) (suc n) p h =
    let later = piece_stands pieces n p h in
    (q.text ++ later.0, (later.1.0, ap (λ (x : List ℕ). q.text ++ x) later.1.1 ∙ sym (append_assoc q.text later.0 (p.text ++ later.1.0))))

module _ (pieces : List TextPiece) (w : List ℕ) (absent : StandsIn (text_of pieces) w → ⊥) where
  not_piece : (n : ℕ) (p : TextPiece) → slice_get pieces n ≡ Some p → same_bytes p.text w ≡ true → ⊥
  not_piece n p is h = absent (subst (StandsIn (text_of pieces)) (same_bytes-equal p.text w h) (piece_stands pieces n p is))

  false_if : (b : Bool) → (b ≡ true → ⊥) → b ≡ false
  false_if true h = absurd (h refl)
  false_if false h = refl

  no_token_by : (n : ℕ) (o : Option TextPiece) → slice_get pieces n ≡ o → is_word w (token_of o) ≡ false
  no_token_by n None is = refl
  no_token_by n (Some p) is = false_if (is_word w (token_of (Some p)))
      (λ h. not_piece n p is (and_right (is_word_kind (token_of (Some p)).kind) (same_bytes p.text w) h))

  no_token : (n : ℕ) → is_word w (token_at pieces n) ≡ false
  no_token n = no_token_by n (slice_get pieces n) refl

  no_tokens : (numbers : List ℕ) → list_any (is_word w) (map (token_at pieces) numbers) ≡ false
  no_tokens [] = refl
  no_tokens (n ∷ numbers) = (λ i. no_token n i || no_tokens numbers i)

  no_word_by : (n : ℕ) (o : Option TextPiece) → slice_get pieces n ≡ o
      → option_map_or (λ (p : TextPiece). same_bytes p.text w) o false ≡ false
  no_word_by n None is = refl
  no_word_by n (Some p) is = false_if (same_bytes p.text w) (not_piece n p is)

  no_words : (numbers : List ℕ) → list_any (is_word_at pieces w) numbers ≡ false
  no_words [] = refl
  no_words (n ∷ numbers) = (λ i. no_word_by n (slice_get pieces n) refl i || no_words numbers i)

  -- so an item has a tree that lacks the word, or none
  abbrev Lacks : Option Item → Type 0
  Lacks o = IfSome (item_tree o) (λ t. (node_count t < 2 ^ 32) × (has_word w t ≡ false))

  items_lack : (shown : List ℕ) (names : Names) (spans : List ItemSpan) (items : List Item)
      → ReadsFrom (record { pieces = pieces; shown = shown }) names spans items → (i : ℕ) → Lacks (slice_get items i)
  items_lack shown names [] [] reads i = tt
  items_lack shown names [] (item ∷ items) reads i = absurd reads
  items_lack shown names (span ∷ spans) [] reads i = absurd reads
  items_lack shown names (span ∷ spans) (Parsed t ∷ items) reads zero =
      let few : node_count t ≤ 20000 = reads.0.2 in (
        omega arith,
        ap (λ (tokens : List Token). list_any (is_word w) tokens)
            (tree_leaves kind.External names (tokens_in (record { pieces = pieces; shown = shown }) span) t reads.0.1)
            ∙ no_tokens (slice_range shown span.first span.last),
      )
  items_lack shown names (span ∷ spans) (Skipped s why ∷ items) reads zero = tt
  items_lack shown names (span ∷ spans) (item ∷ items) reads (suc i) = items_lack shown (names_after names item) spans items reads.1 i

-- ---- what a rule finds

module _ (number : ℕ) (rule : Rule) (w : List ℕ) (needed : needs w (formula_of rule) ≡ true) (items : List Item)
    (lacks : (i : ℕ) → IfSome (item_tree (slice_get items i)) (λ t. (node_count t < 2 ^ 32) × (has_word w t ≡ false))) where
  none_in : (i : ℕ) (env : Pairs) → witnesses_in number rule i (seen_graph rule items i) env ≡ []
  none_in i env = nothing_without number rule w needed i env items i (lacks i)

  none_from : (at : ℕ) (more : List Item) (env : Pairs) → found_from number rule at (graphs_from (ask_types rule.vars) items at more) env ≡ []
  none_from at [] env = refl
  none_from at (item ∷ more) env = (λ i. map bare_witness (none_in at env i) ++ none_from (suc at) more env i)

  small_from : (at : ℕ) (more : List Item) (env : Pairs) → is_large_from number rule at (graphs_from (ask_types rule.vars) items at more) env ≡ false
  small_from at [] env = refl
  small_from at (item ∷ more) env =
      let here : is_large number rule at (graph_in (ask_types rule.vars) items at) env ≡ false =
      ap (λ (ws : List RuleWitness). nat_lt most_nodes (touches_and_binds ws)) (none_in at env) in
      (λ i. here i || small_from (suc at) more env i)

  none_under : (env : Pairs) → found_under number rule items env ≡ []
  none_under env = none_from 0 items env

  none_large : (projections : List Pairs) → list_any (is_large_under number rule items) projections ≡ false
  none_large [] = refl
  none_large (env ∷ projections) = (λ i. small_from 0 items env i || none_large projections i)

  none_found : (projections : List Pairs) → flat_map (found_under number rule items) projections ≡ []
  none_found [] = refl
  none_found (env ∷ projections) = (λ i. none_under env i ++ none_found projections i)

  none_brought : (env : Pairs) → brings number rule items env ≡ []
  none_brought env = ap (λ (ws : List RuleWitness). envs.exported rule.exports (map (λ (v : RuleWitness). v.env) ws)) (none_under env)

  module _ (share : FileEnv → Option Pairs) where
    one_stays : (c : FileEnv) (o : Option Pairs) → envs.becomes_by number share (brings number rule items) c o ≡ c ∷ []
    one_stays c None = refl
    one_stays c (Some env) = ap (envs.replaced number c) (none_brought env)

    all_stay : (file_envs : List FileEnv) → envs.next_file_envs number share (brings number rule items) file_envs ≡ file_envs
    all_stay [] = refl
    all_stay (c ∷ file_envs) = (λ i. one_stays c (share c) i ++ all_stay file_envs i)

-- ---- one rule over a text to which nothing has happened

-- no edit meets a fault
no_fault : (next : ℕ) (pieces : List TextPiece) (fault : EditFault) → length (text_of pieces) ≤ most_bytes → IsEditFault next pieces [] fault → ⊥
no_fault next pieces _ short (conflict c id first second clash at one two) = absurd (cc)
no_fault next pieces _ short (too_long apart long) = omega (arith, short, long)

-- without a witness there is no edit
no_edit : (rule : Rule) (items : List Item) (pieces : List TextPiece) (ws : List RuleWitness) (edits : List Edit) → ws ≡ []
    → AreEdits ws rule items (nodes_of rule items) pieces edits → edits ≡ []
no_edit rule items pieces ws edits none are =
    by (subst (λ (x : List RuleWitness). AreEdits x rule items (nodes_of rule items) pieces edits) none are)
  where
    by : AreEdits [] rule items (nodes_of rule items) pieces edits → edits ≡ []
    by e = e.distinct ∙ all_none e.all e.each
      where
        all_none : (all : List Edit) → AllZip (IsEditAt rule items (nodes_of rule items) pieces) [] all → once all ≡ []
        all_none [] h = refl
        all_none (x ∷ all) h = absurd h

module _ (bytes : List ℕ) (pieces : List TextPiece) (text : text_of pieces ≡ bytes) (short : length bytes ≤ most_bytes) (items : List Item)
    (reads : Reads pieces items) (defined : List (List ℕ)) where
  -- the state just after the reading, when these rules ran
  abbrev still : List Rule → Chained
  still ran = record (first_state pieces reads.0 items) { needed = record { shown = reads.0; ran = ran; earlier = [] } }

  short_text : length (text_of pieces) ≤ most_bytes
  short_text = subst (λ (b : List ℕ). length b ≤ most_bytes) (sym text) short

  lacks_all : (w : List ℕ) → (StandsIn bytes w → ⊥) → (i : ℕ) → IfSome (item_tree (slice_get items i)) (λ t. (node_count t < 2 ^ 32) × (has_word w t ≡ false))
  lacks_all w absent i =
      items_lack pieces w (λ h. absent (subst (λ (b : List ℕ). StandsIn b w) text h)) reads.0 listed_names
      (items_of (signs_of (record { pieces = pieces; shown = reads.0 }))) items reads.2 i

  module _ (number : ℕ) (rule : Rule) (lacks : LacksWord bytes rule) (ran : List Rule) where
    needed : needs lacks.0 (formula_of rule) ≡ true
    needed = formula_needs rule lacks.0 lacks.1.0

    calm : is_too_much defined number rule (still ran) ≡ false
    calm = none_large number rule lacks.0 needed items (lacks_all lacks.0 lacks.1.1) (rule_projections defined [] number rule items first_file_envs)

    nothing : file_witnesses defined number rule (still ran) ≡ []
    nothing = none_found number rule lacks.0 needed items (lacks_all lacks.0 lacks.1.1) (rule_projections defined [] number rule items first_file_envs)

    envs_stay : rule_file_envs defined number rule (still ran) ≡ first_file_envs
    envs_stay =
        all_stay number rule lacks.0 needed items (lacks_all lacks.0 lacks.1.1) (rule_share defined [] number rule items first_file_envs)
        first_file_envs

    edits_none : (edits : List Edit) → RuleEdits defined number rule (still ran) edits → edits ≡ []
    edits_none edits are = no_edit rule items pieces (file_witnesses defined number rule (still ran)) edits nothing are

    tidy_none : (made : TidiedEdits) → TidyRuleEdits defined number rule (still ran) made → is_edited made.list ≡ false
    tidy_none made are = ap is_edited (no_tidy_edit rule items pieces (file_witnesses defined number rule (still ran)) made nothing are)

    much_never : is_too_much defined number rule (still ran) ≡ true → ⊥
    much_never much = let e : false ≡ true = sym calm ∙ much in absurd (cc)

    many_never : most_environments < length (rule_file_envs defined number rule (still ran)) → ⊥
    many_never many = let e : length (rule_file_envs defined number rule (still ran)) ≡ 1 = ap length envs_stay in omega (arith, e, many)

    abbrev ran_now : List Rule
    ran_now = ran_after ran rule (rule_projections defined [] number rule items first_file_envs)

    -- it leaves the text as it is
    left : state_after defined number rule (still ran) [] ≡ still ran_now
    left = (λ i. record (still ran_now) { file_envs = envs_stay i; had = had_after [] number (nothing i); found = nothing i })

    leads_still : (tidy followed : Bool) (next : Chained) → LeadsBy tidy defined number rule followed (still ran) next → next ≡ still ran_now
    leads_still false followed next leads =
        subst (λ (edits : List Edit). MayRead (is_edited edits && followed) (state_after defined number rule (still ran) edits) next)
        (edits_none leads.edits leads.are) leads.reads ∙ left
    leads_still true followed next leads =
        let none = tidy_none leads.made leads.are in
        let page = page_stays (length (ids_of pieces)) pieces items leads.made leads.page none leads.fine.after in
        subst₂ (λ (b : Bool) (p : Page). MayRead (b && followed) (state_with defined number rule (still ran) p) next) none page leads.reads ∙ left

    never_faults : (tidy : Bool) (fault : FileFault) → IsFaultBy tidy defined number rule (still ran) fault → ⊥
    never_faults false _ (too_many_witnesses much) = much_never much
    never_faults false _ (too_many_environments few many) = many_never many
    never_faults false _ (in_edits edits fault few are is) =
        no_fault (length (ids_of pieces)) pieces fault short_text
        (subst (λ (e : List Edit). IsEditFault (length (ids_of pieces)) pieces e fault) (edits_none edits are) is)
    never_faults true _ (IsTidyFault.too_many_witnesses much) = much_never much
    never_faults true _ (IsTidyFault.too_many_environments few many) = many_never many
    never_faults true _ (IsTidyFault.in_edits made fault few are is) =
        no_tidy_fault (length (ids_of pieces)) pieces items made fault short_text
        (no_tidy_edit rule items pieces (file_witnesses defined number rule (still ran))
        made nothing are) is

    still_lack : All (LacksWord bytes) ran → All (LacksWord bytes) ran_now
    still_lack all = by (rule_projections defined [] number rule items first_file_envs)
      where
        by : (envs : List Pairs) → All (LacksWord bytes) (ran_after ran rule envs)
        by [] = all
        by (env ∷ envs) = All-push (LacksWord bytes) ran rule all lacks

  -- ---- all rules

  -- an item that can't be read lacks a word of each rule
  no_match : (span : ItemSpan) (ran : List Rule) → All (LacksWord bytes) ran
      → may_match (record { pieces = pieces; shown = reads.0; items = items }) span ran ≡ false
  no_match span [] all = refl
  no_match span (rule ∷ ran) all =
      let lacks = All-head (LacksWord bytes) rule ran all in
      let file : FileItems = record { pieces = pieces; shown = reads.0; items = items } in
      let here : holds_words file span rule ≡ false = lacks_words file span rule lacks.0 lacks.1.0
      (no_words pieces lacks.0 (λ h. lacks.1.1 (subst (λ (b : List ℕ). StandsIn b lacks.0) text h)) (slice_range reads.0 span.first span.last)) in
      (λ i. here i || no_match span ran (All-tail (LacksWord bytes) rule ran all) i)

  untouched : (ran : List Rule) → All (LacksWord bytes) ran → IsUntouched bytes (still ran)
  untouched ran all = record {
    text = text;
    found = refl;
    file_envs = refl;
    needed = none_where (λ span. may_match file_now span ran) (λ span. no_match span ran all) (length (ids_of pieces)) 0 file_now 0 items;
  }
    where
      file_now : FileItems
      file_now = record { pieces = pieces; shown = reads.0; items = items }

  runs_still : (tidy : Bool) (number : ℕ) (rules : List Rule) → All (LacksWord bytes) rules → (ran : List Rule) → All (LacksWord bytes) ran → (end : Outcome)
      → Runs tidy defined number rules (still ran) end → (s : Chained) × ((end ≡ Done s) × IsUntouched bytes s)
  runs_still tidy number [] all ran lack end is = (still ran, (is, untouched ran lack))
  runs_still tidy number (rule ∷ rules) all ran lack end (inl fault) =
      absurd (never_faults number rule (All-head (LacksWord bytes) rule rules all) ran tidy fault.0 fault.1.0)
  runs_still tidy number (rule ∷ rules) all ran lack end (inr on) =
      let own = All-head (LacksWord bytes) rule rules all in
      runs_still tidy (suc number) rules (All-tail (LacksWord bytes) rule rules all) (ran_now number rule own ran) (still_lack number rule own ran lack) end
      (subst (λ (x : Chained). Runs tidy defined (suc number) rules x end) (leads_still number rule own ran tidy (is_followed rules) on.0 on.1.0) on.1.1)

-- the chain leaves such a text as it is
pub chain_still : (tidy : Bool) (rules : List Rule) (defined : List (List ℕ)) (bytes : List ℕ) (end : Outcome) → length bytes ≤ most_bytes
    → All (LacksWord bytes) rules → Chain tidy rules defined bytes end → (s : Chained) × ((end ≡ Done s) × IsUntouched bytes s)
chain_still tidy rules defined bytes end short all chain =
    runs_still bytes chain.pieces chain.cut.0 short chain.items chain.reads defined tidy 0 rules all [] (All-nil (LacksWord bytes)) end chain.runs

-- ---- a state in which nothing has happened, and nothing was read

pub resting : List ℕ → Chained
resting bytes = record {
  page = record { bytes = bytes; ids = []; next = 0 };
  reading = 0;
  pieces = [];
  items = [];
  file_envs = first_file_envs;
  had = [];
  found = [];
  loaded = 0;
  skipped = [];
  needed = record { shown = []; ran = []; earlier = [] };
}

pub resting_untouched : (bytes : List ℕ) → IsUntouched bytes (resting bytes)
unfolding resting
resting_untouched bytes = record { text = refl; found = refl; file_envs = refl; needed = refl }

pub resting_text : (bytes : List ℕ) → bytes ≡ (resting bytes).page.bytes
unfolding resting
resting_text bytes = refl

pub resting_told : (bytes : List ℕ) (choice : Unread) → told_notes choice (resting bytes) ≡ []
unfolding resting
resting_told bytes unread.All = refl
resting_told bytes unread.Needed = refl
resting_told bytes unread.None = refl

pub resting_findings : (bytes : List ℕ) (f : FileState) → map bare_file_env f.file_envs ≡ first_file_envs → f.had ≡ [] → f.found ≡ []
    → AreFindingsOf f (resting bytes)
unfolding resting
resting_findings bytes f file_envs had found = record {
  seen = record { had_is = sym had; file_envs_is = sym file_envs };
  found_is = ap (map bare_witness) (sym found);
}
