-- Properties of each rule of a patch that is read, with forms or without.
use Rattle.std.proofs.Common.{◌≡◌, ℕ, ◌*◌, Bool, true, false, not, ◌&&◌, refl, sym, ap, ◌∙◌, subst, ⊎_elim, List, [], ◌∷◌, ◌++◌, map, length, Option}
use Rattle.std.proofs.Common.{None, Some, slice_get}
use Rattle.std.specs.Prelude.{All, nat_eq, is_some}
use Rattle.std.specs.List.{list_all}
use Rattle.std.proofs.lemmas.List.Elements.{All-nil, All-cons, All-head, All-tail, All-weaker}
use Rattle.c_terms.specs.declared.token.Token.{Token}
use Rattle.c_terms.specs.declared.tree.Tree.{Tree}
use Rattle.smpl_terms.specs.declared.var.Var.{Var}
use Rattle.smpl_patch.specs.declared.pattern.VarDecl.{VarDecl}
use Rattle.smpl_patch.specs.declared.pattern.PatToken.{PatToken}
use Rattle.smpl_patch.specs.declared.pattern.PlusBlock.{PlusBlock}
use Rattle.smpl_patch.specs.declared.pattern.Pattern.{Pattern}
use Rattle.smpl_patch.specs.declared.pattern.Spot.{Spot}
use Rattle.smpl_patch.specs.declared.rule.Iso.{Iso}
use Rattle.smpl_patch.specs.declared.rule.Rule.{Rule}
use Rattle.smpl_patch.specs.declared.rule.Patch.{Patch}
use Rattle.smpl_patch.specs.Bodies.{body}
use Rattle.smpl_patch.specs.Shapes.{patterns_body}
use Rattle.smpl_patch.specs.Patterns.{is_position_of, in_first, in_block, in_plus}
use Rattle.smpl_patch.specs.Sound.{none_alike, is_sound_token, AreSoundRules}
use Rattle.smpl_meta.specs.declared.patterns.Placed.{Placed}
use Rattle.smpl_body.specs.SmplWhen.Cutting.{cut}
use Rattle.smpl_body.specs.SmplWhen.Grammar.{IsCut}
use Rattle.sound_laws.specs.SmplFormed.Bodies.{tokens_of}
use Rattle.sound_laws.proofs.SmplFormed.PatternLemmas.{any_tokens}
use Rattle.sound_laws.proofs.SmplFormed.ReadLemmas.{body_patterns}
use Rattle.sound_laws.proofs.SmplFormed.SequenceLemmas.{AllGood}
use Rattle.smpl_file.specs.Patches.{IsSpelled}
use Rattle.sound_laws.specs.SmplSound.Parts.{EachHas}
use Rattle.sound_laws.proofs.SmplSound.RuleLemmas.{SmallLaw, patch-has, ps, short}
use Rattle.ctl_formula.specs.Plain.{fits}
use Rattle.ctl_translate.specs.Rules.{formula_of, first_unbound}
use Rattle.ctl_fixpoint.proofs.CtlHolds.TestLemmas.{or_cases, or_left, or_right, not_both}
use Rattle.wit_forest.specs.WitTrees.Forest.{is_hidden}
use Rattle.iso_expand.specs.IsoForms.Replacing.{is_plain}
use Rattle.iso_expand.specs.IsoForms.Forms.{forms}
use Rattle.iso_expand.specs.Bodies.{forms_of_first, expanded_pattern}
use Rattle.iso_expand.specs.Patches.{IsExpandedRule, AreExpanded}
use Rattle.rule_laws.specs.Ready.{IsReady}
use Rattle.insert_laws.specs.AlignedLaws.Compared.{compared}
use Rattle.insert_laws.specs.TouchLaws.Metas.{AreMetas}
use Rattle.insert_laws.proofs.KindLemmas.{is_meta_in, is_meta_of_some, all_metas}
use Rattle.insert_laws.proofs.NamedLemmas.{KeepsPlus}

-- what is asked of a rule
pub record IsFit (metas : Var → Bool) (r : Rule) : Type 0 where
  pub are : AreMetas metas r
  pub ready : IsReady r
  pub unbound : first_unbound r ≡ None
  pub distinct : none_alike (λ (p q : Pattern). nat_eq p.atom q.atom) (patterns_body (body r.body)) ≡ true
  pub plus : list_all (is_sound_token r.vars) r.tokens ≡ true
  pub metas_are : (x : Var) → is_meta_in r.vars x ≡ true → metas x ≡ true
  pub keeps : All (KeepsPlus r.vars r.tokens) (patterns_body (body r.body))

-- ---- patterns with one form

pub record HasOneForm (p : Pattern) : Type 0 where
  pub form : Tree
  pub are : p.forms ≡ form ∷ []

abbrev pub HaveOneForm : Rule → Type 0
HaveOneForm r = All HasOneForm (patterns_body (body r.body))

good_ones : (ok : Token → Bool) (most : ℕ) (qs : List Pattern) → AllGood ok most qs → All HasOneForm qs
good_ones ok most [] g = All-nil HasOneForm
good_ones ok most (q ∷ qs) g = All-cons HasOneForm q qs (record { form = g.0.form; are = g.0.are }) (good_ones ok most qs g.1)

abbrev pub CutLaw : Type 0
CutLaw = (words : List Placed) → IsCut words (cut words)

each_rule : (Q : Rule → Type 0) (rs : List Rule) → EachHas Q rs → All Q rs
each_rule Q [] h = All-nil Q
each_rule Q (r ∷ rs) h = All-cons Q r rs h.0 (each_rule Q rs h.1)

-- each pattern of a patch that bytes spell has one form
pub one_form : CutLaw → SmallLaw → (bytes : List ℕ) (patch : Patch) → IsSpelled bytes patch → All HaveOneForm patch.rules
one_form cuts small bytes patch s =
    each_rule HaveOneForm patch.rules
    (patch-has HaveOneForm
    (λ known n t h x earlier made vars of.
    let words : List Placed = ps known n t h x made of in
    good_ones (λ (a : Token). true) (2 * length words) (patterns_body (body x.body))
    (body_patterns (λ (a : Token). true) words x.body (cuts words) (short known n t h x made of) (any_tokens (tokens_of words)) made.body))
    small bytes patch s)

one_keeps : (vars : List VarDecl) (tokens : List PatToken) (p : Pattern) → HasOneForm p → KeepsPlus vars tokens p
one_keeps vars tokens p h =
    subst (λ (fs : List Tree). All (λ (f : Tree). (x : Var) → compared (λ a. in_plus vars (slice_get tokens a.id) x) p.spot f ≡ true
    → in_first (compared (λ a. in_plus vars (slice_get tokens a.id) x) p.spot) fs ≡ true) fs) (sym h.are)
    (All-cons (λ (f : Tree). (x : Var) → compared (λ a. in_plus vars (slice_get tokens a.id) x) p.spot f ≡ true
    → in_first (compared (λ a. in_plus vars (slice_get tokens a.id) x) p.spot) (h.form ∷ []) ≡ true) h.form [] (λ x k. k)
    (All-nil (λ (f : Tree). (x : Var) → compared (λ a. in_plus vars (slice_get tokens a.id) x) p.spot f ≡ true
    → in_first (compared (λ a. in_plus vars (slice_get tokens a.id) x) p.spot) (h.form ∷ []) ≡ true)))

-- ---- patterns with all forms

abbrev pub KeepLaw : Type 0
KeepLaw = (isos : List Iso) (tokens : List PatToken) (q : Token → Bool) → ((a : Token) → q a ≡ true → is_plain (slice_get tokens a.id) ≡ false)
    → (s : Spot) (t : Tree) → All (λ (f : Tree). compared q s f ≡ true → compared q s t ≡ true) (forms tokens isos t)

abbrev pub FirstLaw : Type 0
FirstLaw = (tokens : List PatToken) (isos : List Iso) (t : Tree) → slice_get (forms tokens isos t) 0 ≡ Some t

-- where plus code stands, a token is not plain

some_block : (vars : List VarDecl) (x : Var) (b : Option PlusBlock) → in_block vars x b ≡ true → not (is_some b) ≡ false
some_block vars x None h = not_both false h refl
some_block vars x (Some b) h = refl

not_alone : (a b c : Bool) → b ≡ false → ((a && b) && c) ≡ false
not_alone true true c e = not_both true refl e
not_alone true false c e = refl
not_alone false b c e = refl

not_last : (a c : Bool) → c ≡ false → (a && c) ≡ false
not_last true c e = e
not_last false c e = refl

marked_at : (vars : List VarDecl) (x : Var) (o : Option PatToken) → in_plus vars o x ≡ true → is_plain o ≡ false
marked_at vars x None h = not_both false h refl
marked_at vars x (Some p) h = ⊎_elim
    (λ a. not_alone (nat_eq (length p.positions) 0) (not (is_some p.before)) (not (is_some p.after)) (some_block vars x p.before a))
    (λ a. not_last (nat_eq (length p.positions) 0 && not (is_some p.before)) (not (is_some p.after)) (some_block vars x p.after a))
    (or_cases (in_block vars x p.before) (in_block vars x p.after) h)

at_first : (q : Token → Bool) (s : Spot) (fs : List Tree) (t : Tree) → slice_get fs 0 ≡ Some t → compared q s t ≡ true → in_first (compared q s) fs ≡ true
at_first q s [] t e h = absurd (cc)
at_first q s (f ∷ fs) t e h = let same : f ≡ t = cc in ap (compared q s) same ∙ h

module _ (keep_law : KeepLaw) (first_law : FirstLaw) (isos : List Iso) (vars : List VarDecl) (tokens : List PatToken) where
  abbrev shows : Var → Token → Bool
  shows x a = in_plus vars (slice_get tokens a.id) x

  abbrev Kept : Spot → List Tree → Tree → Type 0
  Kept s fs f = (x : Var) → compared (shows x) s f ≡ true → in_first (compared (shows x) s) fs ≡ true

  each_kept : (s : Spot) (t : Tree) (fs gs : List Tree) → slice_get fs 0 ≡ Some t
      → ((x : Var) → All (λ (f : Tree). compared (shows x) s f ≡ true → compared (shows x) s t ≡ true) gs) → All (Kept s fs) gs
  each_kept s t fs [] e h = All-nil (Kept s fs)
  each_kept s t fs (g ∷ gs) e h =
      All-cons (Kept s fs) g gs
      (λ x k. at_first (shows x) s fs t e (All-head (λ (f : Tree). compared (shows x) s f ≡ true → compared (shows x) s t ≡ true) g gs (h x) k))
      (each_kept s t fs gs e (λ x. All-tail (λ (f : Tree). compared (shows x) s f ≡ true → compared (shows x) s t ≡ true) g gs (h x)))

  forms_kept : (s : Spot) (fs : List Tree) → All (Kept s (forms_of_first isos tokens fs)) (forms_of_first isos tokens fs)
  forms_kept s [] = All-nil (Kept s [])
  forms_kept s (t ∷ ts) =
      each_kept s t (forms tokens isos t) (forms tokens isos t) (first_law tokens isos t)
      (λ x. keep_law isos tokens (shows x) (λ a m. marked_at vars x (slice_get tokens a.id) m) s t)

  pub all_kept : (qs : List Pattern) → All (KeepsPlus vars tokens) (map (expanded_pattern isos tokens) qs)
  all_kept [] = All-nil (KeepsPlus vars tokens)
  all_kept (p ∷ qs) =
      All-cons (KeepsPlus vars tokens) (expanded_pattern isos tokens p) (map (expanded_pattern isos tokens) qs) (forms_kept p.spot p.forms) (all_kept qs)

-- ---- rules

-- what soundness says of each rule
record IsSoundHere (r : Rule) : Type 0 where
  distinct : none_alike (λ (p q : Pattern). nat_eq p.atom q.atom) (patterns_body (body r.body)) ≡ true
  plus : list_all (is_sound_token r.vars) r.tokens ≡ true

sound_here : (earlier rs : List Rule) → AreSoundRules earlier rs → All IsSoundHere rs
sound_here earlier [] s = All-nil IsSoundHere
sound_here earlier (r ∷ rs) s =
    All-cons IsSoundHere r rs (record { distinct = s.0.atoms; plus = s.0.tokens }) (sound_here (earlier ++ r ∷ []) rs s.1)

-- each rule's metavariables are some rule's
some_metas : (all : List Rule) → All (λ (r : Rule). (x : Var) → is_meta_in r.vars x ≡ true → is_meta_of_some all x ≡ true) all
some_metas [] = All-nil (λ (r : Rule). (x : Var) → is_meta_in r.vars x ≡ true → is_meta_of_some [] x ≡ true)
some_metas (r ∷ rs) =
    All-cons (λ (s : Rule). (x : Var) → is_meta_in s.vars x ≡ true → is_meta_of_some (r ∷ rs) x ≡ true) r rs
    (λ x h. or_left (is_meta_in r.vars x) (is_meta_of_some rs x) h)
    (All-weaker (λ (s : Rule). (x : Var) → is_meta_in s.vars x ≡ true → is_meta_of_some rs x ≡ true)
    (λ (s : Rule). (x : Var) → is_meta_in s.vars x ≡ true → is_meta_of_some (r ∷ rs) x ≡ true)
    (λ s f x h. or_right (is_meta_in r.vars x) (is_meta_of_some rs x) (f x h)) rs (some_metas rs))

-- what is known of a rule, its patterns aside
pub record IsKnown (metas : Var → Bool) (r : Rule) : Type 0 where
  pub are : AreMetas metas r
  pub distinct : none_alike (λ (p q : Pattern). nat_eq p.atom q.atom) (patterns_body (body r.body)) ≡ true
  pub plus : list_all (is_sound_token r.vars) r.tokens ≡ true
  pub metas_are : (x : Var) → is_meta_in r.vars x ≡ true → metas x ≡ true

zip_known : (metas : Var → Bool) (rs : List Rule) → All (AreMetas metas) rs → All IsSoundHere rs
    → All (λ (r : Rule). (x : Var) → is_meta_in r.vars x ≡ true → metas x ≡ true) rs → All (IsKnown metas) rs
zip_known metas [] a s m = All-nil (IsKnown metas)
zip_known metas (r ∷ rs) a s m =
    let here = All-head IsSoundHere r rs s in
    All-cons (IsKnown metas) r rs
    (record {
      are = All-head (AreMetas metas) r rs a;
      distinct = here.distinct;
      plus = here.plus;
      metas_are = All-head (λ (r : Rule). (x : Var) → is_meta_in r.vars x ≡ true → metas x ≡ true) r rs m;
    })
    (zip_known metas rs (All-tail (AreMetas metas) r rs a) (All-tail IsSoundHere r rs s)
    (All-tail (λ (r : Rule). (x : Var) → is_meta_in r.vars x ≡ true → metas x ≡ true) r rs m))

pub rules_known : (all : List Rule) → AreSoundRules [] all → All (λ (r : Rule). All (λ (d : VarDecl). is_hidden d.var ≡ false) r.vars) all
    → All (IsKnown (is_meta_of_some all)) all
rules_known all sound names =
    zip_known (is_meta_of_some all) all (all_metas all sound names) (sound_here [] all sound) (some_metas all)

abbrev pub Right : Rule → Type 0
Right r = (fits (formula_of r) ≡ true) × (first_unbound r ≡ None)

-- the rules of a patch that is read
pub read_fit : (metas : Var → Bool) (rs : List Rule) → All (IsKnown metas) rs → All IsReady rs → All Right rs → All HaveOneForm rs → All (IsFit metas) rs
read_fit metas [] k y u o = All-nil (IsFit metas)
read_fit metas (r ∷ rs) k y u o =
    let known = All-head (IsKnown metas) r rs k in
    let ones = All-head HaveOneForm r rs o in
    let right = All-head Right r rs u in
    All-cons (IsFit metas) r rs
    (record {
      are = known.are;
      ready = All-head IsReady r rs y;
      unbound = right.1;
      distinct = known.distinct;
      plus = known.plus;
      metas_are = known.metas_are;
      keeps = All-weaker HasOneForm (KeepsPlus r.vars r.tokens) (λ p h. one_keeps r.vars r.tokens p h) (patterns_body (body r.body)) ones;
    })
    (read_fit metas rs (All-tail (IsKnown metas) r rs k) (All-tail IsReady r rs y) (All-tail Right r rs u) (All-tail HaveOneForm r rs o))

abbrev pub PatternsLaw : Type 0
PatternsLaw = (isos : List Iso) (r s : Rule) → IsExpandedRule isos r s
    → patterns_body (body s.body) ≡ map (expanded_pattern isos r.tokens) (patterns_body (body r.body))

abbrev pub AtomsLaw : Type 0
AtomsLaw = (isos : List Iso) (r s : Rule) → IsExpandedRule isos r s
    → none_alike (λ (p q : Pattern). nat_eq p.atom q.atom) (patterns_body (body s.body))
    ≡ none_alike (λ (p q : Pattern). nat_eq p.atom q.atom) (patterns_body (body r.body))

-- the rules of such a patch with all forms
module _ (keep_law : KeepLaw) (first_law : FirstLaw) (patterns_law : PatternsLaw) (atoms_law : AtomsLaw) (isos : List Iso) (metas : Var → Bool) where
  rule_metas : (r s : Rule) → IsExpandedRule isos r s → AreMetas metas r → AreMetas metas s
  rule_metas r s is a = record {
    no_positions = λ x m. subst (λ (ts : List PatToken). (n : ℕ) → is_position_of (slice_get ts n) x ≡ false) (sym is.tokens) (a.no_positions x m);
    not_hidden = a.not_hidden;
  }

  rule_fit : (r s : Rule) → IsExpandedRule isos r s → IsKnown metas r → IsReady s → Right s → IsFit metas s
  rule_fit r s is k y u =
      let own : All (KeepsPlus s.vars r.tokens) (map (expanded_pattern isos r.tokens) (patterns_body (body r.body))) =
      all_kept keep_law first_law isos s.vars r.tokens (patterns_body (body r.body)) in
      let there : All (KeepsPlus s.vars r.tokens) (patterns_body (body s.body)) =
      subst (All (KeepsPlus s.vars r.tokens)) (sym (patterns_law isos r s is)) own in
      let plus : list_all (is_sound_token r.vars) s.tokens ≡ true = ap (list_all (is_sound_token r.vars)) is.tokens ∙ k.plus in
      record {
        are = rule_metas r s is k.are;
        ready = y;
        unbound = u.1;
        distinct = atoms_law isos r s is ∙ k.distinct;
        plus = subst (λ (ds : List VarDecl). list_all (is_sound_token ds) s.tokens ≡ true) (sym is.vars) plus;
        metas_are = λ x m. k.metas_are x (ap (λ (ds : List VarDecl). is_meta_in ds x) (sym is.vars) ∙ m);
        keeps = subst (λ (ts : List PatToken). All (KeepsPlus s.vars ts) (patterns_body (body s.body))) (sym is.tokens) there;
      }

  pub forms_fit : (rs ss : List Rule) → AreExpanded isos rs ss → All (IsKnown metas) rs → All IsReady ss → All Right ss → All (IsFit metas) ss
  forms_fit [] [] is k y u = All-nil (IsFit metas)
  forms_fit [] (s ∷ ss) is k y u = absurd is
  forms_fit (r ∷ rs) [] is k y u = absurd is
  forms_fit (r ∷ rs) (s ∷ ss) is k y u =
      All-cons (IsFit metas) s ss
      (rule_fit r s is.0 (All-head (IsKnown metas) r rs k) (All-head IsReady s ss y) (All-head Right s ss u))
      (forms_fit rs ss is.1 (All-tail (IsKnown metas) r rs k) (All-tail IsReady s ss y) (All-tail Right s ss u))
