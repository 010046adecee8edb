-- Words that a formula needs, words that are kept of a rule, and items that hold them.
use Rattle.std.proofs.Common.{◌≡◌, ℕ, zero, suc, Bool, true, false, not, ◌&&◌, ◌||◌, cond, refl, sym, ap, ◌∙◌, subst, ⊎_elim, ◌⊎◌, inl, inr}
use Rattle.std.proofs.Common.{List, [], ◌∷◌, ◌++◌, length, drop, get_or, ◌<◌, ◌≤◌, ◌+◌, Some}
use Rattle.std.specs.Prelude.{Option, slice_get}
use Rattle.std.proofs.lemmas.List.{append_assoc, append-nil, drop_all}
use Rattle.std.specs.Option.{option_map_or}
use Rattle.std.specs.List.{AllZip, list_any, list_all}
use Rattle.run_choices.specs.declared.unread.Unread.{Unread}
use Rattle.run_choices.specs.declared.unread.Unread.TheVariants as unread
use Rattle.c_terms.specs.declared.token.Token.{Token}
use Rattle.c_terms.specs.declared.tree.Tree.{Tree}
use Rattle.c_terms.specs.Trees.{leaves}
use Rattle.c_terms.specs.Same.{same_bytes}
use Rattle.c_terms.proofs.BareLaws.{same_bytes-equal}
use Rattle.c_terms.proofs.SameLaws.{bytes-refl}
use Rattle.cpp_lines.specs.declared.span.ItemSpan.{ItemSpan}
use Rattle.c_file.specs.File.{FileItems}
use Rattle.smpl_patch.specs.declared.pattern.Pattern.{Pattern}
use Rattle.smpl_patch.specs.declared.rule.Rule.{Rule}
use Rattle.smpl_patch.specs.Patterns.{in_first}
use Rattle.ctl_formula.specs.Plain.{Plain, True, Atom, EarlyExit, BraceOpen, BraceClose, Inside, Outside, Not, And, Or, AX, EX, AU}
use Rattle.ctl_formula.specs.Plain.{EU, After, InBranch, Exists}
use Rattle.ctl_formula.specs.declared.node.Node.TheVariants as node
use Rattle.ctl_fixpoint.specs.RequiredWords.Words.{is_word_kind, is_word, has_word, spelled, needs, is_among}
use Rattle.ctl_fixpoint.specs.RequiredWords.Standing.{stands}
use Rattle.ctl_fixpoint.proofs.RequiredWords.StandLemmas.{needed_stands}
use Rattle.ctl_fixpoint.proofs.RequiredWords.WordLemmas.{and_left, and_right, or_cases, or_left, or_right, or_nothing}
use Rattle.ctl_translate.specs.Rules.{formula_of}
use Rattle.rule_envs.specs.declared.rule_formulas.prepared.PreparedRule.{PreparedRule}
use Rattle.rule_envs.specs.RuleFormulas.Prepared.{IsPrepared}
use Rattle.rule_chain.specs.declared.rule_run.state.SkipNote.{SkipNote}
use Rattle.rule_chain.specs.RuleRun.Needed.{words_among, words_of_first, words_in, is_long, needs_word, holds_word, holds_needed, holds_words}
use Rattle.rule_chain.specs.RuleRun.Needed.{may_match, notes_where, needed_on}
use Rattle.rule_chain.specs.RuleWords.{AreWordsOf, AreRuleWords, holds_kept, holds_some, kept_on}
use Rattle.rule_chain.specs.Stops.{AreNumbered, told_last}
use Rattle.rule_chain.proofs.RunLemmas.{left_of}

-- ---- what a formula needs is among its words

among_left : (xs ys : List (List ℕ)) (w : List ℕ) → is_among xs w ≡ true → is_among (xs ++ ys) w ≡ true
among_left [] ys w h = absurd (cc)
among_left (x ∷ xs) ys w h = ⊎_elim
    (λ a. or_left (same_bytes x w) (is_among (xs ++ ys) w) a)
    (λ a. or_right (same_bytes x w) (is_among (xs ++ ys) w) (among_left xs ys w a))
    (or_cases (same_bytes x w) (is_among xs w) h)

among_right : (xs ys : List (List ℕ)) (w : List ℕ) → is_among ys w ≡ true → is_among (xs ++ ys) w ≡ true
among_right [] ys w h = h
among_right (x ∷ xs) ys w h = or_right (same_bytes x w) (is_among (xs ++ ys) w) (among_right xs ys w h)

among_by : (w : List ℕ) (a : Token) (rest : List (List ℕ)) (b : Bool) → ((b && same_bytes a.text w) ≡ true) ⊎ (is_among rest w ≡ true)
    → is_among (cond b (a.text ∷ rest) rest) w ≡ true
among_by w a rest true (inl h) = or_left (same_bytes a.text w) (is_among rest w) h
among_by w a rest true (inr h) = or_right (same_bytes a.text w) (is_among rest w) h
among_by w a rest false (inl h) = absurd (cc)
among_by w a rest false (inr h) = h

tokens_own : (w : List ℕ) (tokens : List Token) → list_any (is_word w) tokens ≡ true → is_among (words_among tokens) w ≡ true
tokens_own w [] h = absurd (cc)
tokens_own w (a ∷ tokens) h = among_by w a (words_among tokens) (is_word_kind a.kind) (⊎_elim
    (λ here. inl here)
    (λ later. inr (tokens_own w tokens later))
    (or_cases (is_word w a) (list_any (is_word w) tokens) h))

first_own : (w : List ℕ) (forms : List Tree) → in_first (has_word w) forms ≡ true → is_among (words_of_first forms) w ≡ true
first_own w [] h = absurd (cc)
first_own w (form ∷ forms) h = tokens_own w (leaves form) h

pattern_own : (w : List ℕ) (p : Pattern) → spelled w p ≡ true → is_among (words_of_first p.forms) w ≡ true
pattern_own w p h = first_own w p.forms (sym (or_nothing (stands w p)) ∙ needed_stands w (node.Atom p ∷ []) 0 h)

pub needed_own : (w : List ℕ) (f : Plain) → needs w f ≡ true → is_among (words_in f) w ≡ true
needed_own w True h = absurd (cc)
needed_own w (Atom p) h = pattern_own w p h
needed_own w EarlyExit h = absurd (cc)
needed_own w (BraceOpen p b) h = pattern_own w p h
needed_own w (BraceClose p b) h = pattern_own w p h
needed_own w (Inside b) h = absurd (cc)
needed_own w (Outside b) h = absurd (cc)
needed_own w (Not f) h = absurd (cc)
needed_own w (And f g) h = ⊎_elim
    (λ a. among_left (words_in f) (words_in g) w (needed_own w f a))
    (λ a. among_right (words_in f) (words_in g) w (needed_own w g a))
    (or_cases (needs w f) (needs w g) h)
needed_own w (Or f g) h = among_left (words_in f) (words_in g) w (needed_own w f (and_left (needs w f) (needs w g) h))
needed_own w (AX f) h = needed_own w f h
needed_own w (EX f) h = needed_own w f h
needed_own w (AU f g) h = among_right (words_in f) (words_in g) w (needed_own w g h)
needed_own w (EU f g) h = among_right (words_in f) (words_in g) w (needed_own w g h)
needed_own w (After f) h = needed_own w f h
needed_own w (InBranch i f) h = needed_own w f h
needed_own w (Exists x f) h = needed_own w f h

-- ---- tests of all words of a list

module _ (test : List ℕ → Bool) where
  each_told : (words : List (List ℕ)) → list_all test words ≡ true → (w : List ℕ) → is_among words w ≡ true → test w ≡ true
  each_told [] all w h = absurd (cc)
  each_told (x ∷ words) all w h = ⊎_elim
      (λ here. subst (λ (v : List ℕ). test v ≡ true) (same_bytes-equal x w here) (and_left (test x) (list_all test words) all))
      (λ later. each_told words (and_right (test x) (list_all test words) all) w later)
      (or_cases (same_bytes x w) (is_among words w) h)

  both_hold : (a b : Bool) → a ≡ true → b ≡ true → (a && b) ≡ true
  both_hold true b h k = k
  both_hold false b h k = absurd (cc)

  each_tells : (words : List (List ℕ)) → ((w : List ℕ) → is_among words w ≡ true → test w ≡ true) → list_all test words ≡ true
  each_tells [] h = refl
  each_tells (x ∷ words) h = both_hold (test x) (list_all test words)
      (h x (or_left (same_bytes x x) (is_among words x) (bytes-refl x)))
      (each_tells words (λ w among. h w (or_right (same_bytes x w) (is_among words w) among)))

same_test : (a b : Bool) → (a ≡ true → b ≡ true) → (b ≡ true → a ≡ true) → a ≡ b
same_test true b there back = sym (there refl)
same_test false true there back = back refl
same_test false false there back = refl

not_needed : (a b : Bool) → (a ≡ true → b ≡ true) → (not a || b) ≡ true
not_needed true b h = h refl
not_needed false b h = refl

if_needed : (a b : Bool) → (not a || b) ≡ true → a ≡ true → b ≡ true
if_needed true b h needed = h
if_needed false b h needed = absurd (cc)

-- what a rule needs, its formula needs
pub formula_needs : (rule : Rule) (w : List ℕ) → needs_word rule.tokens (formula_of rule) w ≡ true → needs w (formula_of rule) ≡ true
formula_needs rule w h = and_right (not (is_long rule.tokens)) (needs w (formula_of rule)) h

short_needs : (long needed : Bool) → long ≡ false → needed ≡ true → (not long && needed) ≡ true
short_needs true needed h k = absurd (cc)
short_needs false needed h k = k

long_needs : (long needed : Bool) → long ≡ true → (not long && needed) ≡ true → ⊥
long_needs true needed h k = absurd (cc)
long_needs false needed h k = absurd (cc)

module _ (file : FileItems) (span : ItemSpan) (rule : Rule) where
  abbrev own : Plain
  own = formula_of rule

  abbrev each_needed : List ℕ → Bool
  each_needed w = not (needs w own) || holds_word file span w

  -- an item that holds all words of a rule holds each of them
  pub each_held : holds_words file span rule ≡ true → (w : List ℕ) → needs_word rule.tokens own w ≡ true → holds_word file span w ≡ true
  each_held h w needed = ⊎_elim
      (λ long. absurd (long_needs (is_long rule.tokens) (needs w own) long needed))
      (λ all. if_needed (needs w own) (holds_word file span w)
      (each_told each_needed (words_in own) all w (needed_own w own (formula_needs rule w needed))) (formula_needs rule w needed))
      (or_cases (is_long rule.tokens) (holds_needed file span own) h)

  pub all_held : ((w : List ℕ) → needs_word rule.tokens own w ≡ true → holds_word file span w ≡ true) → holds_words file span rule ≡ true
  all_held held = by (is_long rule.tokens) refl
    where
      by : (long : Bool) → is_long rule.tokens ≡ long → holds_words file span rule ≡ true
      by true h = or_left (is_long rule.tokens) (holds_needed file span own) h
      by false h = or_right (is_long rule.tokens) (holds_needed file span own) (each_tells each_needed (words_in own)
          (λ w among. not_needed (needs w own) (holds_word file span w)
          (λ needed. held w (short_needs (is_long rule.tokens) (needs w own) h needed))))

  -- it is asked whether the item holds exactly the words that the rule needs
  pub rule_words : (words : List (List ℕ)) → ((w : List ℕ) → is_among words w ≡ needs_word rule.tokens own w)
      → list_all (holds_word file span) words ≡ holds_words file span rule
  rule_words words exact = same_test (list_all (holds_word file span) words) (holds_words file span rule)
      (λ all. all_held (λ w needed. each_told (holds_word file span) words all w (exact w ∙ needed)))
      (λ all. each_tells (holds_word file span) words (λ w among. each_held all w (sym (exact w) ∙ among)))

  -- an item that lacks a word of the rule doesn't hold all
  pub lacks_words : (w : List ℕ) → needs_word rule.tokens own w ≡ true → holds_word file span w ≡ false → holds_words file span rule ≡ false
  lacks_words w needed none = by (holds_words file span rule) refl
    where
      by : (b : Bool) → holds_words file span rule ≡ b → holds_words file span rule ≡ false
      by true h = let e : false ≡ true = sym none ∙ each_held h w needed in absurd (cc)
      by false h = h

-- ---- rules with their words

-- the words that are kept of a rule are those that its formula needs
pub kept_of : (rules : List Rule) (prepared : List PreparedRule) (words : List (List (List ℕ))) (n : ℕ) (rule : Rule)
    → AllZip IsPrepared rules prepared → AllZip AreWordsOf prepared words → slice_get rules n ≡ Some rule
    → (kept : List (List ℕ)) × ((slice_get words n ≡ Some kept) × ((w : List ℕ) → is_among kept w ≡ needs_word rule.tokens (formula_of rule) w))
kept_of [] prepared words n rule are kept h = absurd (cc)
kept_of (r ∷ rules) [] words n rule are kept h = absurd are
kept_of (r ∷ rules) (p ∷ prepared) [] n rule are kept h = absurd kept
kept_of (r ∷ rules) (p ∷ prepared) (ws ∷ words) zero rule are kept h =
    let same : r ≡ rule = cc in (
      ws,
      (
        refl,
        λ w. kept.0 w ∙ (λ i. needs_word (are.0.formula.tokens i) (are.0.formula.formula i) w)
            ∙ ap (λ (x : Rule). needs_word x.tokens (formula_of x) w) same,
      ),
    )
kept_of (r ∷ rules) (p ∷ prepared) (ws ∷ words) (suc n) rule are kept h = kept_of rules prepared words n rule are.1 kept.1 h

module _ (rules : List Rule) (prepared : List PreparedRule) (words : List (List (List ℕ))) (are : AllZip IsPrepared rules prepared)
    (kept : AllZip AreWordsOf prepared words) (file : FileItems) where
  pub same_match : (span : ItemSpan) (ran : List Rule) (numbers : List ℕ) → AreNumbered rules ran numbers
      → holds_some words numbers file span ≡ may_match file span ran
  same_match span [] [] h = refl
  same_match span [] (n ∷ numbers) h = absurd h
  same_match span (rule ∷ ran) [] h = absurd h
  same_match span (rule ∷ ran) (n ∷ numbers) h =
      let own = kept_of rules prepared words n rule are kept h.0 in
      let here : holds_kept (holds_word file span) words n ≡ holds_words file span rule =
      ap (λ (o : Option (List (List ℕ))). option_map_or (λ (ws : List (List ℕ)). list_all (holds_word file span) ws) o false) own.1.0
      ∙ rule_words file span rule own.0 own.1.1 in
      (λ i. here i || same_match span ran numbers h.1 i)

  pub same_notes : (loaded reading : ℕ) (ran : List Rule) (numbers : List ℕ) → AreNumbered rules ran numbers
      → kept_on words numbers loaded reading file ≡ needed_on ran loaded reading file
  same_notes loaded reading ran numbers h =
      ap (λ (test : ItemSpan → Bool). notes_where test loaded reading file 0 file.items) (λ i span. same_match span ran numbers h i)

-- ---- the notes that are told last

module _ (choice : Unread) (rules : List Rule) (prepared : List PreparedRule) (words : List (List (List ℕ))) (file : FileItems) (loaded reading : ℕ)
    (ran : List Rule) (before now : List SkipNote) where
  pub last_needed : choice ≡ unread.Needed → AllZip IsPrepared rules prepared → AreRuleWords choice prepared words → (numbers : List ℕ)
      → AreNumbered rules ran numbers → now ≡ before ++ kept_on words numbers loaded reading file
      → now ≡ before ++ told_last choice ran loaded reading file
  last_needed is are kept numbers numbered e =
      subst (λ (u : Unread). now ≡ before ++ told_last u ran loaded reading file) (sym is)
      (e ∙ ap (λ (notes : List SkipNote). before ++ notes)
      (same_notes rules prepared words are (subst (λ (u : Unread). AreRuleWords u prepared words) is kept) file loaded reading ran numbers numbered))

  pub last_all : choice ≡ unread.All → now ≡ before → now ≡ before ++ told_last choice ran loaded reading file
  last_all is e =
      subst (λ (u : Unread). now ≡ before ++ told_last u ran loaded reading file) (sym is) (e ∙ sym (append-nil before))

  pub last_none : choice ≡ unread.None → now ≡ before → now ≡ before ++ told_last choice ran loaded reading file
  last_none is e =
      subst (λ (u : Unread). now ≡ before ++ told_last u ran loaded reading file) (sym is) (e ∙ sym (append-nil before))

-- ---- the words of each rule, rule by rule

module _ (all : List PreparedRule) where
  -- with the words of the remaining rules, these are those of all
  abbrev pub Completes : ℕ → List (List (List ℕ)) → Type 0
  Completes i done = (rest : List (List (List ℕ))) → AllZip AreWordsOf (drop i all) rest → AllZip AreWordsOf all (done ++ rest)

  pub one_more : (i : ℕ) (p : PreparedRule) → i < length all → p ≡ get_or all i p → (done : List (List (List ℕ))) (words : List (List ℕ))
      → AreWordsOf p words → Completes i done → Completes (i + 1) (done ++ words ∷ [])
  one_more i p lt at done words are so_far rest h =
      subst (λ (xs : List (List (List ℕ))). AllZip AreWordsOf all xs) (sym (append_assoc done (words ∷ []) rest))
      (so_far (words ∷ rest) (subst (λ (ps : List PreparedRule). AllZip AreWordsOf ps (words ∷ rest)) (sym (left_of all i p lt at)) (are, h)))

  pub whole : (i : ℕ) (done : List (List (List ℕ))) (choice : Unread) → length all ≤ i → Completes i done → AreRuleWords choice all done
  whole i done choice past so_far = by choice
    where
      every : AllZip AreWordsOf all done
      every = subst (AllZip AreWordsOf all) (append-nil done)
          (so_far [] (subst (λ (ps : List PreparedRule). AllZip AreWordsOf ps []) (sym (drop_all i all past)) tt))

      by : (u : Unread) → AreRuleWords u all done
      by unread.All = tt
      by unread.Needed = every
      by unread.None = every
