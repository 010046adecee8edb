-- What a search of bytes for words says.
use Rattle.std.proofs.Common.{◌≡◌, ◌<◌, ◌+◌, ℕ, zero, suc, Bool, true, false, sym, ◌∙◌, subst, arith}
use Rattle.std.proofs.Common.{List, [], ◌∷◌, ◌++◌, length, take, get_or, None, Some}
use Rattle.std.specs.Prelude.{All, Option, is_some}
use Rattle.std.specs.List.{AllZip}
use Rattle.std.proofs.lemmas.List.{length-append, get_or-append-add, get_or_append_left}
use Rattle.std.proofs.lemmas.List.Elements.{All-more, All-nil, All-cons, All-head, All-tail}
use Rattle.memchr.specs.Find.{OccursAt, FindsNeedle}
use Rattle.run_choices.specs.declared.unread.Unread.{Unread}
use Rattle.run_choices.specs.declared.unread.Unread.TheVariants as unread
use Rattle.c_terms.specs.Same.{same_bytes}
use Rattle.c_terms.proofs.SameLaws.{bytes-refl}
use Rattle.smpl_patch.specs.declared.rule.Rule.{Rule}
use Rattle.ctl_fixpoint.specs.RequiredWords.Words.{is_among}
use Rattle.ctl_fixpoint.proofs.RequiredWords.WordLemmas.{or_left, or_right}
use Rattle.rule_envs.specs.declared.rule_formulas.prepared.PreparedRule.{PreparedRule}
use Rattle.rule_envs.specs.RuleFormulas.Prepared.{IsPrepared}
use Rattle.rule_chain.specs.RuleRun.Needed.{needs_word}
use Rattle.rule_chain.specs.Passed.{StandsIn, LacksWord}
use Rattle.rule_chain.specs.RuleWords.{AreWordsOf, AreRuleWords, LacksOne}

-- ---- one word

occurs : (before w after : List ℕ) → OccursAt (before ++ (w ++ after)) w (length before)
occurs before w after =
    let whole : length (before ++ (w ++ after)) ≡ length before + length (w ++ after) = length-append before (w ++ after) in
    let rest : length (w ++ after) ≡ length w + length after = length-append w after in
    record {
      fits = omega (arith, whole, rest);
      reads = λ j lt. get_or-append-add before (w ++ after) j 0 ∙ get_or_append_left w after 0 j lt;
    }

-- a search that finds nothing
pub absent : (bytes w : List ℕ) (r : Option ℕ) → is_some r ≡ false → FindsNeedle bytes w 0 r → StandsIn bytes w → ⊥
absent bytes w (Some k) none finds stands = absurd (cc)
absent bytes w None none nowhere stands =
    let here : OccursAt bytes w (length stands.0) = subst (λ (b : List ℕ). OccursAt b w (length stands.0)) (sym stands.1.1) (occurs stands.0 w stands.1.0) in
    let fits = here.fits in
    nowhere (length stands.0) (omega arith) (omega (arith, fits)) here

-- ---- the words of rules

among_at : (words : List (List ℕ)) (i : ℕ) (d : List ℕ) → i < length words → is_among words (get_or words i d) ≡ true
among_at [] i d lt = absurd (omega (arith, lt))
among_at (x ∷ words) zero d lt = or_left (same_bytes x x) (is_among words x) (bytes-refl x)
among_at (x ∷ words) (suc i) d lt = or_right (same_bytes x (get_or words i d)) (is_among words (get_or words i d)) (among_at words i d (omega (arith, lt)))

-- a word of the list whose search finds nothing
pub lacks_at : (bytes : List ℕ) (words : List (List ℕ)) (i : ℕ) (w read : List ℕ) (r : Option ℕ) → i < length words → w ≡ get_or words i w
    → read ≡ w → is_some r ≡ false → FindsNeedle bytes read 0 r → LacksOne bytes words
lacks_at bytes words i w read r lt is same none finds = (
  w,
  (
    subst (λ (v : List ℕ). is_among words v ≡ true) (sym is) (among_at words i w lt),
    absent bytes w r none (subst (λ (v : List ℕ). FindsNeedle bytes v 0 r) same finds),
  ),
)

rule_lacks : (bytes : List ℕ) (rule : Rule) (p : PreparedRule) (words : List (List ℕ)) → IsPrepared rule p → AreWordsOf p words
    → LacksOne bytes words → LacksWord bytes rule
rule_lacks bytes rule p words is exact lacks =
    (lacks.0, (sym (λ i. needs_word (is.formula.tokens i) (is.formula.formula i) lacks.0) ∙ sym (exact lacks.0) ∙ lacks.1.0, lacks.1.1))

pub rules_lack : (bytes : List ℕ) (rules : List Rule) (prepared : List PreparedRule) (words : List (List (List ℕ))) → AllZip IsPrepared rules prepared
    → AllZip AreWordsOf prepared words → All (LacksOne bytes) words → All (LacksWord bytes) rules
rules_lack bytes [] prepared words are exact all = All-nil (LacksWord bytes)
rules_lack bytes (rule ∷ rules) [] words are exact all = absurd are
rules_lack bytes (rule ∷ rules) (p ∷ prepared) [] are exact all = absurd exact
rules_lack bytes (rule ∷ rules) (p ∷ prepared) (ws ∷ words) are exact all =
    All-cons (LacksWord bytes) rule rules (rule_lacks bytes rule p ws are.0 exact.0 (All-head (LacksOne bytes) ws words all))
    (rules_lack bytes rules prepared words are.1 exact.1 (All-tail (LacksOne bytes) ws words all))

-- one more list of words
pub one_more : (bytes : List ℕ) (lists : List (List (List ℕ))) (i : ℕ) (list read : List (List ℕ)) (b : Bool) → i < length lists → list ≡ get_or lists i list
    → read ≡ list → b ≡ true → (b ≡ true → LacksOne bytes read) → All (LacksOne bytes) (take i lists) → All (LacksOne bytes) (take (i + 1) lists)
one_more bytes lists i list read b lt is same found lacks all =
    All-more (LacksOne bytes) lists i list lt all
    (subst (LacksOne bytes) is (subst (LacksOne bytes) same (lacks found)))

-- ---- by which notes are told

module _ (bytes : List ℕ) (rules : List Rule) (prepared : List PreparedRule) (words : List (List (List ℕ))) (choice : Unread) where
  pub needed_lack : choice ≡ unread.Needed → AllZip IsPrepared rules prepared → AreRuleWords choice prepared words → All (LacksOne bytes) words
      → All (LacksWord bytes) rules
  needed_lack is are kept all = rules_lack bytes rules prepared words are (subst (λ (u : Unread). AreRuleWords u prepared words) is kept) all

  pub none_lack : choice ≡ unread.None → AllZip IsPrepared rules prepared → AreRuleWords choice prepared words → All (LacksOne bytes) words
      → All (LacksWord bytes) rules
  none_lack is are kept all = rules_lack bytes rules prepared words are (subst (λ (u : Unread). AreRuleWords u prepared words) is kept) all

pub not_all_needed : (choice : Unread) → choice ≡ unread.Needed → choice ≡ unread.All → ⊥
not_all_needed choice is all = let e : unread.Needed ≡ unread.All = sym is ∙ all in cc

pub not_all_none : (choice : Unread) → choice ≡ unread.None → choice ≡ unread.All → ⊥
not_all_none choice is all = let e : unread.None ≡ unread.All = sym is ∙ all in cc
