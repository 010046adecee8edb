-- The state before each rule that the run of a patch reaches is sound.
use Rattle.std.proofs.Common.{ℕ, Bool, List, ◌∷◌}
use Rattle.std.specs.Prelude.{All}
use Rattle.std.proofs.lemmas.List.Elements.{All-head, All-tail}
use Rattle.c_lexer.specs.Pieces.{TextPiece}
use Rattle.c_lexer.specs.Lexes.{Lexes}
use Rattle.cpp_lines.specs.declared.reading.Item.{Item}
use Rattle.c_file.specs.Reads.{Reads}
use Rattle.smpl_patch.specs.declared.rule.Rule.{Rule}
use Rattle.rule_chain.specs.RuleRun.States.{Chained, first_state}
use Rattle.rule_chain.specs.RuleRun.OneRule.{Leads}
use Rattle.rule_chain.specs.Chain.{is_followed}
use Rattle.text_laws.specs.Sound.{HavePlusCode}
use Rattle.text_laws.specs.TokenLaws.States.{IsSoundState}
use Rattle.text_laws.specs.AgainLaws.Reached.{IsBefore}
use Rattle.text_laws.specs.AgainLaws.Reached.IsBefore.{first, later}

abbrev pub FirstLaw : Type 0
FirstLaw = (bytes : List ℕ) (pieces : List TextPiece) (items : List Item) → Lexes bytes pieces → (reads : Reads pieces items)
    → IsSoundState (first_state pieces reads.0 items)

abbrev pub StateLaw : Type 0
StateLaw = (defined : List (List ℕ)) (number : ℕ) (rule : Rule) (followed : Bool) (s next : Chained) → HavePlusCode rule.tokens → IsSoundState s
    → Leads defined number rule followed s next → IsSoundState next

abbrev pub RuleHasCode : Rule → Type 0
RuleHasCode r = HavePlusCode r.tokens

module _ (first_law : FirstLaw) (state_law : StateLaw) (defined : List (List ℕ)) (rules : List Rule) (text : List ℕ) (plus : All RuleHasCode rules) where
  before_sound : {number : ℕ} {rest : List Rule} {s : Chained} → IsBefore defined rules text number rest s → IsSoundState s × All RuleHasCode rest
  before_sound (first pieces items lexes reads) = (first_law text pieces items lexes reads, plus)
  before_sound (later n rule more old new before leads) =
      let one = before_sound before in (
        state_law defined n rule (is_followed more) old new (All-head RuleHasCode rule more one.1) one.0 leads,
        All-tail RuleHasCode rule more one.1,
      )

  -- at a rule: its state is sound, and its plus code is of tokens of C
  pub at_rule : (number : ℕ) (rule : Rule) (rest : List Rule) (s : Chained) → IsBefore defined rules text number (rule ∷ rest) s
      → IsSoundState s × HavePlusCode rule.tokens
  at_rule number rule rest s before =
      let one = before_sound before in
      (one.0, All-head RuleHasCode rule rest one.1)
