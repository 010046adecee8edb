-- The definitions at small values, above all where two readings differ.
use Rattle.std.proofs.Common.{◌≡◌, ℕ, Bool, true, false, Some, None, List, [], ◌∷◌, refl, codes}
use Rattle.run_acts.specs.Acts.{Report}
use Rattle.run_choices.specs.declared.unread.Unread.TheVariants as unread
use Rattle.run_words.specs.declared.order.Mode.{Mode}
use Rattle.run_words.specs.Orders.{OnFiles, OnText}
use Rattle.smpl_patch.specs.declared.pattern.Mark.{Mark}
use Rattle.smpl_patch.specs.declared.pattern.Mark.TheVariants as mark
use Rattle.smpl_patch.specs.declared.pattern.PatToken.{PatToken}
use Rattle.smpl_patch.specs.declared.rule.Dep.TheVariants.{Always}
use Rattle.smpl_patch.specs.declared.rule.Mode.TheVariants as rule_mode
use Rattle.smpl_patch.specs.declared.rule.Rule.{Rule}
use Rattle.smpl_patch.specs.declared.rule.Patch.{Patch}
use Rattle.smpl_patch.specs.declared.witness.RuleWitness.{RuleWitness}
use Rattle.smpl_notes.specs.declared.note.Slip.TheVariants as slip
use Rattle.smpl_notes.specs.declared.kind_word.KindWord.TheVariants as kind
use Rattle.smpl_notes.specs.declared.note.Note.{Note}
use Rattle.smpl_notes.specs.declared.note.Note.TheVariants.{NoSign, InRule}
use Rattle.rule_chain.specs.RuleRun.Needed.{none_needed}
use Rattle.rule_chain.specs.RuleRun.States.{Chained}
use Rattle.run_files.specs.declared.tally.Tally.{Tally}
use Rattle.run_files.specs.declared.run_lines.notes.NoteLines.{NoteLines}
use Rattle.run_files.specs.RunLines.Further.{further, told_place}
use Rattle.run_files.specs.RunLines.Names.{quoted_name}
use Rattle.run_files.specs.RunLines.Notes.{unplaced_line, rule_text, note_line, no_lines, note_lines}
use Rattle.run_files.specs.Treatment.{is_hit, naming}
use Rattle.run_files.specs.RunStages.Stages.{end_status, first_course, after_file, told}

-- ---- names

-- a blank needs no quotes, nor do bytes above 127
plain_names : quoted_name (codes "my k.c") ∷ quoted_name (195 ∷ 164 ∷ []) ∷ [] ≡ codes "my k.c" ∷ (195 ∷ 164 ∷ []) ∷ []
plain_names = refl

with_quotes : quoted_name (codes "my \"k\".c") ≡ codes "\"my \\\"k\\\".c\""
with_quotes = refl

-- bytes that have no letter are three octal digits
octal : quoted_name (1 ∷ 9 ∷ 92 ∷ 127 ∷ []) ≡ codes "\"\\001\\t\\\\\\177\""
octal = refl

not_hit : naming (codes "a.c") false ≡ []
not_hit = refl

-- ---- notes

abbrev plain_e : Note
plain_e = InRule 0 (Some (record { line = 3; column = 5 })) (slip.PlainName (codes "e"))

abbrev unplaced_e : Note
unplaced_e = InRule 0 None (slip.PlainName (codes "e"))

-- `expresion e;`
abbrev misspelt : Note
misspelt = InRule 0 (Some (record { line = 2; column = 1 })) (slip.MisspeltKind (codes "expresion") kind.Expression)

placed_kind : note_line (codes "p") misspelt
    ≡ further (codes "p") (record { line = 2; column = 1 }) (codes "note: expresion is taken for a type; is it expression?")
placed_kind = refl

placed_line : note_line (codes "p") plain_e
    ≡ further (codes "p") (record { line = 3; column = 5 }) (codes "note: e is a plain name here; is it a metavariable?")
placed_line = refl

in_no_place : note_line (codes "p") unplaced_e
    ≡ unplaced_line (codes "p") (rule_text 0) (codes "note: e is a plain name here; is it a metavariable?")
in_no_place = refl

on_the_patch : note_line (codes "p") NoSign ≡ codes "  p: note: no line has -, + or * in its first column, so nothing is changed or reported\n"
on_the_patch = refl

abbrev mode : (witnesses quiet : Bool) → Mode
mode witnesses quiet = record { witnesses = witnesses; in_place = false; check = false; quiet = quiet; unread = unread.All; tidy = false }

-- a report needs no sign
of_report : (note_lines (codes "p") false (OnFiles (mode true false) []) (NoSign ∷ plain_e ∷ [])).all ≡ note_line (codes "p") plain_e ∷ []
of_report = refl

of_quiet : note_lines (codes "p") false (OnFiles (mode false true) []) (misspelt ∷ []) ≡ no_lines
of_quiet = refl

of_generated : note_lines (codes "p") false (OnText 1 2 false unread.All false) (misspelt ∷ []) ≡ no_lines
of_generated = refl

-- a misspelt kind is told where something was found too, and nothing else is
of_kinds : (note_lines (codes "p") false (OnFiles (mode false false) []) (NoSign ∷ plain_e ∷ misspelt ∷ [])).always
    ≡ note_line (codes "p") misspelt ∷ []
of_kinds = refl

quiet_place : told_place true (Some (record { line = 3; column = 5 })) ≡ None
quiet_place = refl

-- ---- the end

abbrev tally : (refused hit found : Bool) → Tally
tally refused hit found = record { refused = refused; hit = hit; found = found }

-- a refusal comes before a hit, and what is found isn't a hit by itself
statuses : end_status (tally false true true) ∷ end_status (tally false false true) ∷ end_status (tally true true true) ∷ [] ≡ 8 ∷ 0 ∷ 4 ∷ []
statuses = refl

-- all notes are told where nothing was found in any file and none was refused
abbrev notes : NoteLines
notes = record { all = codes "x" ∷ codes "y" ∷ []; always = codes "y" ∷ [] }

told_after : told (after_file (first_course notes) (tally false false false)) ≡ Report (codes "x") ∷ Report (codes "y") ∷ []
told_after = refl

-- where something was found, those that are always told
found_after : told (after_file (after_file (first_course notes) (tally false false true)) (tally false false false)) ≡ Report (codes "y") ∷ []
found_after = refl

-- and where a file was refused, none
refused_untold : told (after_file (after_file (first_course notes) (tally false false true)) (tally true false false)) ≡ []
refused_untold = refl

-- ---- hits

abbrev token : Mark → PatToken
token m = record { mark = m; positions = []; before = None; after = None }

abbrev rule : Mark → Rule
rule m = record { name = []; depends = Always; mode = rule_mode.Forall; vars = []; exports = []; body = []; tokens = token mark.Context ∷ token m ∷ [] }

-- a rule of context alone, and one with a star
abbrev patch : Patch
patch = record { virtuals = []; rules = rule mark.Context ∷ rule mark.Star ∷ rule mark.Minus ∷ [] }

abbrev of_rule : ℕ → RuleWitness
of_rule n = record { rule = n; item = 0; node = 1; env = []; forest = [] }

abbrev after_rules : List ℕ → List RuleWitness → Chained
after_rules bytes found = record {
  page = record { bytes = bytes; ids = []; next = 0 };
  reading = 1;
  pieces = [];
  items = [];
  file_envs = [];
  had = [];
  found = found;
  loaded = 0;
  skipped = [];
  needed = none_needed [];
}

-- what a rule of context finds is no hit, and neither is an edit after which the text is the same
of_context : is_hit patch (codes "h();") (after_rules (codes "h();") (of_rule 0 ∷ of_rule 2 ∷ [])) ≡ false
of_context = refl

of_star : is_hit patch (codes "h();") (after_rules (codes "h();") (of_rule 0 ∷ of_rule 1 ∷ [])) ≡ true
of_star = refl

of_change : is_hit patch (codes "h();") (after_rules (codes ";") (of_rule 2 ∷ [])) ≡ true
of_change = refl
