-- What is found under several environments, a list for each.
use Rattle.std.proofs.Common.{◌≡◌, ℕ, zero, suc, Bool, true, false, ◌||◌, refl, sym, ap, ap₂, ◌∙◌, arith, List, [], ◌∷◌, ◌++◌, map}
use Rattle.std.specs.List.{flat_map, list_any}
use Rattle.std.proofs.lemmas.List.{append-nil, map-append}
use Rattle.std.proofs.lemmas.List.Concat.{flat_map-append}
use Rattle.cpp_lines.specs.declared.reading.Item.{Item}
use Rattle.smpl_patch.specs.declared.rule.Rule.{Rule}
use Rattle.smpl_terms.specs.declared.var.Var.{Var}
use Rattle.smpl_patch.specs.declared.witness.RuleWitness.{RuleWitness}
use Rattle.env_parts.specs.Parts.{Pairs, bare_env}
use Rattle.rule_chain.specs.RuleWitnesses.Bare.{bare_witness}
use Rattle.rule_chain.specs.FileWitnesses.Found.{brings, file_witnesses}
use Rattle.rule_chain.specs.FileWitnesses.Lists.{AreSmall, IsLargeSomewhere, AreFound, brought}
use Rattle.rule_chain.proofs.FileWitnesses.FoundLemmas.{one_brings}

-- ---- the lists joined

module _ (number : ℕ) (rule : Rule) (items : List Item) where
  pub joined_found : (envs : List Pairs) (lists : List (List RuleWitness)) → AreFound number rule items envs lists
      → map bare_witness (flat_map (λ list. list) lists) ≡ file_witnesses number rule items (map bare_env envs)
  joined_found [] [] are = refl
  joined_found [] (l ∷ ls) are = absurd (omega (arith, are.count))
  joined_found (e ∷ es) [] are = absurd (omega (arith, are.count))
  joined_found (e ∷ es) (l ∷ ls) are =
      map-append bare_witness l (flat_map (λ list. list) ls)
      ∙ ap₂ (λ a b. a ++ b) (are.each 0 (omega arith))
      (joined_found es ls (record { count = omega (arith, are.count); each = λ k lt. are.each (suc k) (omega (arith, lt)) }))

  pub joined_parts : (envs : List Pairs) (lists : List (List RuleWitness)) → AreFound number rule items envs lists
      → map (map bare_env) (map (brought rule.exports) lists) ≡ map (brings number rule items) (map bare_env envs)
  joined_parts [] [] are = refl
  joined_parts [] (l ∷ ls) are = absurd (omega (arith, are.count))
  joined_parts (e ∷ es) [] are = absurd (omega (arith, are.count))
  joined_parts (e ∷ es) (l ∷ ls) are =
      ap₂ (λ a b. a ∷ b) (one_brings number rule items e l (brought rule.exports l) refl (are.each 0 (omega arith)))
      (joined_parts es ls (record { count = omega (arith, are.count); each = λ k lt. are.each (suc k) (omega (arith, lt)) }))

pub none_many : (is_large : Pairs → Bool) (envs : List Pairs) → AreSmall is_large envs → list_any is_large (map bare_env envs) ≡ false
none_many is_large [] small = refl
none_many is_large (e ∷ es) small =
    ap₂ (λ a b. a || b) (small 0 (omega arith)) (none_many is_large es (λ k lt. small (suc k) (omega (arith, lt))))

pub one_many : (is_large : Pairs → Bool) (envs : List Pairs) → IsLargeSomewhere is_large envs → list_any is_large (map bare_env envs) ≡ true
one_many is_large [] (k, (lt, many)) = absurd (omega (arith, lt))
one_many is_large (e ∷ es) (zero, (lt, many)) = ap (λ b. b || list_any is_large (map bare_env es)) many
one_many is_large (e ∷ es) (suc k, (lt, many)) = either (is_large (bare_env e)) (one_many is_large es (k, (omega (arith, lt), many)))
  where
    either : (b : Bool) → list_any is_large (map bare_env es) ≡ true → (b || list_any is_large (map bare_env es)) ≡ true
    either true h = refl
    either false h = h

-- ---- one more list

pub join_next : (ws now list : List RuleWitness) (lists : List (List RuleWitness)) → ws ≡ flat_map (λ l. l) lists → now ≡ ws ++ list
    → now ≡ flat_map (λ l. l) (lists ++ list ∷ [])
join_next ws now list lists h is =
    is ∙ ap (λ us. us ++ list) h ∙ ap (λ us. flat_map (λ l. l) lists ++ us) (sym (append-nil list)) ∙ sym (flat_map-append (λ l. l) lists (list ∷ []))

pub part_next : (exports : List Var) (ps now : List (List Pairs)) (part : List Pairs) (list : List RuleWitness) (lists : List (List RuleWitness))
    → ps ≡ map (brought exports) lists → now ≡ ps ++ part ∷ [] → part ≡ brought exports list → now ≡ map (brought exports) (lists ++ list ∷ [])
part_next exports ps now part list lists h is own =
    is ∙ ap₂ (λ a b. a ++ b ∷ []) h own ∙ sym (map-append (brought exports) lists (list ∷ []))
