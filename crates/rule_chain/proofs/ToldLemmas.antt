-- The notes that are told are some of all.
use Rattle.std.proofs.Common.{◌≡◌, ℕ, suc, Bool, true, false, cond, refl, sym, subst, inl, inr, List, [], ◌∷◌, ◌++◌}
use Rattle.run_choices.specs.declared.unread.Unread.{Unread}
use Rattle.run_choices.specs.declared.unread.Unread.TheVariants as unread
use Rattle.cpp_lines.specs.declared.span.ItemSpan.{ItemSpan}
use Rattle.cpp_lines.specs.declared.reading.Item.{Item}
use Rattle.cpp_lines.specs.declared.reading.Item.TheVariants.{Parsed, Skipped}
use Rattle.c_file.specs.File.{FileItems}
use Rattle.smpl_patch.specs.declared.rule.Rule.{Rule}
use Rattle.rule_chain.specs.declared.rule_run.state.SkipNote.{SkipNote}
use Rattle.rule_chain.specs.RuleRun.Notes.{item_token, notes_from, notes_on}
use Rattle.rule_chain.specs.RuleRun.Needed.{may_match, notes_where}
use Rattle.rule_chain.specs.RuleRun.States.{Chained, first_state, told_notes, needed_notes}
use Rattle.rule_chain.specs.RuleRun.OneRule.{MayRead, state_after, state_with}
use Rattle.rule_chain.specs.RuleRun.Tidied.{LeadsBy}
use Rattle.rule_chain.specs.Chain.{Done, Runs, Chain, is_followed}
use Rattle.rule_chain.specs.Told.{AreSome}
use Rattle.rule_chain.specs.Told.AreSome.{nothing, with_note, without_note}

all_told : (notes : List SkipNote) → AreSome notes notes
all_told [] = nothing
all_told (note ∷ notes) = with_note note notes notes (all_told notes)

none_told : (notes : List SkipNote) → AreSome [] notes
none_told [] = nothing
none_told (note ∷ notes) = without_note note [] notes (none_told notes)

some_append : (notes all more rest : List SkipNote) → AreSome notes all → AreSome more rest → AreSome (notes ++ more) (all ++ rest)
some_append _ _ more rest nothing are = are
some_append _ _ more rest (with_note note notes all some) are = with_note note (notes ++ more) (all ++ rest) (some_append notes all more rest some are)
some_append _ _ more rest (without_note note notes all some) are = without_note note (notes ++ more) (all ++ rest) (some_append notes all more rest some are)

module _ (test : ItemSpan → Bool) (loaded reading : ℕ) (file : FileItems) where
  where_some : (at : ℕ) (items : List Item) → AreSome (notes_where test loaded reading file at items) (notes_from loaded reading file at items)
  where_some at [] = nothing
  where_some at (Parsed t ∷ items) = where_some (suc at) items
  where_some at (Skipped span why ∷ items) = by (test span) (where_some (suc at) items)
    where
      note : SkipNote
      note = record { reading = reading; item = at; why = why; token = item_token loaded file span }

      by : (b : Bool) → AreSome (notes_where test loaded reading file (suc at) items) (notes_from loaded reading file (suc at) items)
          → AreSome (cond b (note ∷ notes_where test loaded reading file (suc at) items) (notes_where test loaded reading file (suc at) items))
          (note ∷ notes_from loaded reading file (suc at) items)
      by true some = with_note note (notes_where test loaded reading file (suc at) items) (notes_from loaded reading file (suc at) items) some
      by false some = without_note note (notes_where test loaded reading file (suc at) items) (notes_from loaded reading file (suc at) items) some

-- what all notes of a state consist of, and the needed ones of earlier readings
record Kept (s : Chained) : Type 0 where
  before : List SkipNote
  are : s.skipped ≡ before ++ notes_on s.loaded s.reading (record { pieces = s.pieces; shown = s.needed.shown; items = s.items })
  some : AreSome s.needed.earlier before

needed_some : (s : Chained) → Kept s → AreSome (needed_notes s) s.skipped
needed_some s k =
    let file : FileItems = record { pieces = s.pieces; shown = s.needed.shown; items = s.items } in
    subst (λ (all : List SkipNote). AreSome (needed_notes s) all) (sym k.are)
    (some_append s.needed.earlier k.before _ (notes_on s.loaded s.reading file) k.some
    (where_some (λ span. may_match file span s.needed.ran) s.loaded s.reading file 0 s.items))

read_keeps : (b : Bool) (left next : Chained) → Kept left → MayRead b left next → Kept next
read_keeps false left next k same = subst Kept (sym same) k
read_keeps true left next k reads = subst Kept (sym reads.is) (record { before = left.skipped; are = refl; some = needed_some left k })

leads_keep : (tidy : Bool) (defined : List (List ℕ)) (number : ℕ) (rule : Rule) (followed : Bool) (s next : Chained) → Kept s
    → LeadsBy tidy defined number rule followed s next → Kept next
leads_keep true defined number rule followed s next k leads =
    read_keeps _ (state_with defined number rule s leads.page) next (record { before = k.before; are = k.are; some = k.some }) leads.reads
leads_keep false defined number rule followed s next k leads =
    read_keeps _ (state_after defined number rule s leads.edits) next (record { before = k.before; are = k.are; some = k.some }) leads.reads

runs_keep : (tidy : Bool) (defined : List (List ℕ)) (number : ℕ) (rules : List Rule) (s last : Chained) → Kept s
    → Runs tidy defined number rules s (Done last) → Kept last
runs_keep tidy defined number [] s last k is = let same : s ≡ last = cc in subst Kept same k
runs_keep tidy defined number (rule ∷ rules) s last k (inl fault) = let e = fault.1.1 in absurd (cc)
runs_keep tidy defined number (rule ∷ rules) s last k (inr on) =
    runs_keep tidy defined (suc number) rules on.0 last (leads_keep tidy defined number rule (is_followed rules) s on.0 k on.1.0) on.1.1

pub chain_some : (tidy : Bool) (choice : Unread) (rules : List Rule) (defined : List (List ℕ)) (bytes : List ℕ) (s : Chained)
    → Chain tidy rules defined bytes (Done s)
    → AreSome (told_notes choice s) s.skipped
chain_some tidy unread.All rules defined bytes s chain = all_told s.skipped
chain_some tidy unread.Needed rules defined bytes s chain =
    needed_some s (runs_keep tidy defined 0 rules (first_state chain.pieces chain.reads.0 chain.items) s
    (record { before = []; are = refl; some = nothing }) chain.runs)
chain_some tidy unread.None rules defined bytes s chain = none_told s.skipped
