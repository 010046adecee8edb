-- Texts that needn't be read, since each rule needs a word that stands nowhere in them.
use Rattle.std.specs.Prelude.{ℕ, ◌≡◌, ◌⊎◌, Bool, true, All, List, [], ◌++◌}
use Rattle.run_choices.specs.declared.unread.Unread.{Unread}
use Rattle.run_choices.specs.declared.unread.Unread.TheVariants as unread
use Rattle.smpl_patch.specs.declared.rule.Rule.{Rule}
use Rattle.ctl_translate.specs.Rules.{formula_of}
use Rattle.rule_envs.specs.FileEnvs.{first_file_envs}
use Rattle.rule_chain.specs.RuleRun.Needed.{needs_word}
use Rattle.rule_chain.specs.RuleRun.States.{Chained, told_notes, needed_notes}
use Rattle.rule_chain.specs.Chain.{Outcome, Done, Refused, Chain}

-- the word stands somewhere in the bytes, be it a token there or a part of one
abbrev pub StandsIn : List ℕ → List ℕ → Type 0
StandsIn bytes w = (before : List ℕ) × ((after : List ℕ) × (bytes ≡ before ++ (w ++ after)))

-- the rule needs a word that stands nowhere in the bytes
abbrev pub LacksWord : List ℕ → Rule → Type 0
LacksWord bytes rule = (w : List ℕ) × ((needs_word rule.tokens (formula_of rule) w ≡ true) × (StandsIn bytes w → ⊥))

-- a state in which nothing has happened to a text: nothing is found, and no item is needed
pub record IsUntouched (bytes : List ℕ) (s : Chained) : Type 0 where
  pub text : s.page.bytes ≡ bytes
  pub found : s.found ≡ []
  pub file_envs : s.file_envs ≡ first_file_envs
  pub needed : needed_notes s ≡ []

-- each rule lacks a word, and the text is left as it is
abbrev pub IsPassed : List Rule → List ℕ → Outcome → Type 0
IsPassed rules bytes (Done s) = All (LacksWord bytes) rules × IsUntouched bytes s
IsPassed rules bytes (Refused fault) = ⊥

-- How the rules over a text end. If not all notes are told, the text may be passed over; law `unread_changes_notes_alone` says
-- that this is how the chain ends.
abbrev pub EndsBy : (tidy : Bool) → Unread → List Rule → List (List ℕ) → List ℕ → Outcome → Type 0
EndsBy tidy unread.All rules defined bytes end = Chain tidy rules defined bytes end
EndsBy tidy unread.Needed rules defined bytes end = Chain tidy rules defined bytes end ⊎ IsPassed rules bytes end
EndsBy tidy unread.None rules defined bytes end = Chain tidy rules defined bytes end ⊎ IsPassed rules bytes end

-- ---- ends that differ only in notes

-- the same text, witnesses and environments, or the same fault
abbrev pub AreAlike : Outcome → Outcome → Type 0
AreAlike (Done s) (Done t) = (s.page.bytes ≡ t.page.bytes) × (s.found ≡ t.found) × (s.file_envs ≡ t.file_envs)
AreAlike (Refused f) (Refused g) = f ≡ g
AreAlike (Done s) (Refused g) = ⊥
AreAlike (Refused f) (Done t) = ⊥

-- the same notes are told
abbrev pub AreToldAlike : Unread → Outcome → Outcome → Type 0
AreToldAlike choice (Done s) (Done t) = told_notes choice s ≡ told_notes choice t
AreToldAlike choice (Refused f) other = Unit {0}
AreToldAlike choice (Done s) (Refused g) = Unit {0}
