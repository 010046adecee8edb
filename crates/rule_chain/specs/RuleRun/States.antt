-- The states of the chain.
use Rattle.std.specs.Prelude.{ℕ, ◌≡◌, suc, List, [], ◌++◌, length}
use Rattle.run_choices.specs.declared.unread.Unread.{Unread}
use Rattle.run_choices.specs.declared.unread.Unread.TheVariants as unread
use Rattle.c_lexer.specs.Pieces.{TextPiece, text_of}
use Rattle.c_lexer.specs.Lexes.{Cuts}
use Rattle.c_lexer.specs.Ids.{ids_of}
use Rattle.c_file.specs.Reads.{Reads}
use Rattle.cpp_lines.specs.declared.reading.Item.{Item}
use Rattle.smpl_patch.specs.declared.witness.RuleWitness.{RuleWitness}
use Rattle.rule_envs.specs.declared.file_env.FileEnv.{FileEnv}
use Rattle.rule_envs.specs.FileEnvs.{first_file_envs}
use Rattle.rule_chain.specs.RuleEdits.Pages.{Page}
use Rattle.rule_chain.specs.declared.rule_run.state.SkipNote.{SkipNote}
use Rattle.rule_chain.specs.RuleRun.Notes.{notes_on}
use Rattle.rule_chain.specs.RuleRun.Needed.{NeededNotes, none_needed, needed_on}

-- The state of the chain between two rules, before the first, or after the last. The pieces and the items are those of the last
-- reading. Terms in environments and witnesses have no ids.
pub record Chained : Type 0 where
  pub page : Page
  pub reading : ℕ
  pub pieces : List TextPiece
  pub items : List Item
  pub file_envs : List FileEnv
  -- the rules that have had a witness
  pub had : List ℕ
  pub found : List RuleWitness
  -- how many tokens the text that was loaded has
  pub loaded : ℕ
  pub skipped : List SkipNote
  -- what is told of these if only needed ones are; nothing else depends on it
  pub needed : NeededNotes

-- the page is cut into these pieces
pub record IsCut (page : Page) (pieces : List TextPiece) : Type 0 where
  pub text : text_of pieces ≡ page.bytes
  pub cuts : Cuts pieces
  pub ids : ids_of pieces ≡ page.ids

abbrev pub first_page : List TextPiece → Page
first_page pieces = record { bytes = text_of pieces; ids = ids_of pieces; next = length (ids_of pieces) }

-- the chain begins with one empty environment, which carries no rule; `shown` are the numbers of the pieces that are shown
abbrev pub first_state : List TextPiece → (shown : List ℕ) → List Item → Chained
first_state pieces shown items = record {
  page = first_page pieces;
  reading = 0;
  pieces = pieces;
  items = items;
  file_envs = first_file_envs;
  had = [];
  found = [];
  loaded = length (ids_of pieces);
  skipped = notes_on (length (ids_of pieces)) 0 (record { pieces = pieces; shown = shown; items = items });
  needed = none_needed shown;
}

-- the notes on the items that are needed: those on earlier readings, and those on the last
abbrev pub needed_notes : Chained → List SkipNote
needed_notes s = s.needed.earlier
    ++ needed_on s.needed.ran s.loaded s.reading (record { pieces = s.pieces; shown = s.needed.shown; items = s.items })

-- the text is read again
pub record ReadsAgain (s next : Chained) : Type 0 where
  pub pieces : List TextPiece
  pub cut : IsCut s.page pieces
  pub items : List Item
  pub reads : Reads pieces items
  pub is : next ≡ record s {
    reading = suc s.reading;
    pieces = pieces;
    items = items;
    skipped = s.skipped ++ notes_on s.loaded (suc s.reading) (record { pieces = pieces; shown = reads.0; items = items });
    needed = record { shown = reads.0; ran = []; earlier = needed_notes s };
  }

-- the notes that are told: all, those on needed items, or none
abbrev pub told_notes : Unread → Chained → List SkipNote
told_notes unread.All s = s.skipped
told_notes unread.Needed s = needed_notes s
told_notes unread.None s = []
