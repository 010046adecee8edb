-- If a state is sound, so is the next one.
use Rattle.std.proofs.Common.{◌≡◌, ℕ, ◌<◌, ◌≤◌, Bool, true, false, sym, subst, arith, List, [], length}
use Rattle.std.specs.Prelude.{All}
use Rattle.std.proofs.lemmas.List.Elements.{All-nil, All-cons, All-weaker}
use Rattle.c_lexer.specs.Pieces.{TextPiece}
use Rattle.c_lexer.specs.Lexes.{Cuts, Lexes}
use Rattle.c_lexer.specs.Ids.{ids_of}
use Rattle.cpp_lines.specs.declared.reading.Item.{Item}
use Rattle.c_file.specs.Reads.{Reads}
use Rattle.rule_chain.specs.RuleEdits.Pages.{Page}
use Rattle.rule_chain.specs.RuleRun.States.{Chained, first_state, ReadsAgain}
use Rattle.rule_chain.specs.RuleRun.OneRule.{MayRead}
use Rattle.text_laws.specs.OutputLaws.Differ.{AllDiffer}
use Rattle.text_laws.specs.ValueLaws.Carried.{CarriesTerms}
use Rattle.text_laws.specs.TokenLaws.States.{IsSoundState}

pub first_sound : (bytes : List ℕ) (pieces : List TextPiece) (items : List Item) → Lexes bytes pieces → (reads : Reads pieces items)
    → AllDiffer (ids_of pieces) → All (λ id. id < length (ids_of pieces)) (ids_of pieces) → IsSoundState (first_state pieces reads.0 items)
first_sound bytes pieces items lexes reads differ below = record {
  cuts = lexes.1.0;
  reads = reads;
  differ = differ;
  below = below;
  carried = All-cons CarriesTerms (record { env = []; rules = [] }) [] tt (All-nil CarriesTerms);
}

-- what is known of the page that a rule leaves
pub record IsSoundPage (page : Page) : Type 0 where
  pub differ : AllDiffer page.ids
  pub below : All (λ id. id < page.next) page.ids

lower : (n m : ℕ) → n ≤ m → (ids : List ℕ) → All (λ id. id < n) ids → All (λ id. id < m) ids
lower n m le ids h = All-weaker (λ id. id < n) (λ id. id < m) (λ id lt. omega (arith, lt, le)) ids h

-- the state that a rule leaves, before its text is read
pub left_sound : (s left : Chained) → IsSoundState s → left.pieces ≡ s.pieces → left.items ≡ s.items → s.page.next ≤ left.page.next
    → All CarriesTerms left.file_envs → IsSoundState left
left_sound s left sound pieces items rises carried = record {
  cuts = subst (λ (ps : List TextPiece). Cuts ps) (sym pieces) sound.cuts;
  reads = subst (λ (ps : List TextPiece). Reads ps left.items) (sym pieces) (subst (λ (is : List Item). Reads s.pieces is) (sym items) sound.reads);
  differ = subst (λ (ps : List TextPiece). AllDiffer (ids_of ps)) (sym pieces) sound.differ;
  below = subst (λ (ps : List TextPiece). All (λ id. id < left.page.next) (ids_of ps)) (sym pieces)
      (lower s.page.next left.page.next rises (ids_of s.pieces) sound.below);
  carried = carried;
}

again_sound : (left next : Chained) → IsSoundPage left.page → All CarriesTerms left.file_envs → ReadsAgain left next → IsSoundState next
again_sound left next page carried again = subst IsSoundState (sym again.is) (record {
  cuts = again.cut.cuts;
  reads = again.reads;
  differ = subst AllDiffer (sym again.cut.ids) page.differ;
  below = subst (All (λ id. id < left.page.next)) (sym again.cut.ids) page.below;
  carried = carried;
})

pub read_sound : (b : Bool) (left next : Chained) → IsSoundState left → IsSoundPage left.page → MayRead b left next → IsSoundState next
read_sound true left next sound page reads = again_sound left next page sound.carried reads
read_sound false left next sound page reads = subst IsSoundState (sym reads) sound
