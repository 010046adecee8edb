-- Rules and patches remain sound when their patterns are given their forms.
use Rattle.std.proofs.Common.{◌≡◌, ℕ, ◌+◌, ◌≤◌, Bool, true, ◌&&◌, ◌||◌, List, [], ◌∷◌, ◌++◌, length, map, refl, sym, ap}
use Rattle.std.proofs.Common.{◌∙◌, arith, nat_eq}
use Rattle.std.specs.Prelude.{nat_lt, cond}
use Rattle.std.specs.List.{list_all, list_any}
use Rattle.std.specs.Str.{bytes_eq}
use Rattle.c_terms.specs.Trees.{join}
use Rattle.c_terms.specs.declared.token.MetaKind.TheVariants as meta
use Rattle.smpl_terms.specs.declared.var.Var.{Var}
use Rattle.smpl_terms.specs.Vars.{same_var}
use Rattle.smpl_patch.specs.declared.pattern.VarKind.{VarKind}
use Rattle.smpl_patch.specs.declared.pattern.VarKind.TheVariants as var_kind
use Rattle.smpl_patch.specs.declared.pattern.VarDecl.{VarDecl}
use Rattle.smpl_patch.specs.declared.pattern.Pattern.{Pattern}
use Rattle.smpl_patch.specs.declared.pattern.PatToken.{PatToken}
use Rattle.smpl_patch.specs.declared.rule.Dep.{Dep}
use Rattle.smpl_patch.specs.declared.rule.Iso.{Iso}
use Rattle.smpl_patch.specs.declared.rule.Rule.{Rule}
use Rattle.smpl_patch.specs.declared.rule.Patch.{Patch}
use Rattle.smpl_patch.specs.Bodies.{Body, body}
use Rattle.smpl_patch.specs.Shapes.{is_formed_body, patterns_body, lengths_body, members}
use Rattle.smpl_patch.specs.Wants.{is_anything}
use Rattle.smpl_patch.specs.Sound.{same_kind, none_alike, declares, exported_from, is_sound_decl, is_own_var, is_below, is_sound_pattern}
use Rattle.smpl_patch.specs.Sound.{is_declared_with, wanted_in, is_sound_wanted}
use Rattle.smpl_patch.specs.Sound.{is_sound_token, lengths_block, lengths, IsSoundRule, AreSoundRules, IsSound}
use Rattle.iso_expand.specs.Bodies.{expanded_pattern, forms_body}
use Rattle.iso_expand.specs.Patches.{IsExpandedRule, AreExpanded, IsExpanded}
use Rattle.iso_expand.proofs.ShapeLemmas.{formed-same, patterns-body, atoms-differ}
use Rattle.sound_laws.specs.IsoLaws.Fine.{AreFine}
use Rattle.sound_laws.proofs.IsoLaws.GoodLemmas.{both_true, left_true, right_true}
use Rattle.sound_laws.proofs.IsoLaws.FormLaws.{AllFine}
use Rattle.sound_laws.proofs.IsoLaws.PatternLaws.{most, small, fits_rule, ids_fit, lengths_pattern, patterns_kept, total, total-body, members-same}
use Rattle.sound_laws.proofs.IsoLaws.PatternLaws.{members_are, lengths-body}

-- ---- lists of lengths

tail_of : (xs ys : List ℕ) → list_all small (xs ++ ys) ≡ true → list_all small ys ≡ true
tail_of [] ys h = h
tail_of (x ∷ xs) ys h = tail_of xs ys (right_true (small x) (list_all small (xs ++ ys)) h)

tail_for : (xs ys zs : List ℕ) → (list_all small ys ≡ true → list_all small zs ≡ true) → list_all small (xs ++ ys) ≡ true
    → list_all small (xs ++ zs) ≡ true
tail_for [] ys zs f h = f h
tail_for (x ∷ xs) ys zs f h =
    both_true (small x) (list_all small (xs ++ zs)) (left_true (small x) (list_all small (xs ++ ys)) h)
    (tail_for xs ys zs f (right_true (small x) (list_all small (xs ++ ys)) h))

abbrev of_vars : List VarDecl → List ℕ
of_vars vars = join (map (λ d. length d.not_names ∷ length d.not_places ∷ []) vars)

abbrev of_tokens : List PatToken → List ℕ
of_tokens tokens = join (map (λ p. length p.positions ∷ lengths_block p.before ++ lengths_block p.after) tokens)

abbrev of_patterns : Body → List ℕ
of_patterns b = join (map lengths_pattern (patterns_body b))

-- the lengths of a rule
abbrev all_lengths : List VarDecl → List Var → ℕ → List PatToken → List ℕ → List ℕ → List ℕ
all_lengths vars exports n tokens inner last =
    length vars ∷ length exports ∷ n ∷ length tokens ∷ inner ++ of_vars vars ++ of_tokens tokens ++ last

last_of : (vars : List VarDecl) (exports : List Var) (n : ℕ) (tokens : List PatToken) (inner last : List ℕ)
    → list_all small (all_lengths vars exports n tokens inner last) ≡ true → list_all small last ≡ true
last_of vars exports n tokens inner last h =
    tail_of (length vars ∷ length exports ∷ n ∷ length tokens ∷ inner ++ of_vars vars ++ of_tokens tokens) last h

other_last : (vars : List VarDecl) (exports : List Var) (n : ℕ) (tokens : List PatToken) (inner last more : List ℕ)
    → list_all small (all_lengths vars exports n tokens inner last) ≡ true → list_all small more ≡ true
    → list_all small (all_lengths vars exports n tokens inner more) ≡ true
other_last vars exports n tokens inner last more h m =
    tail_for (length vars ∷ length exports ∷ n ∷ length tokens ∷ inner ++ of_vars vars ++ of_tokens tokens) last more (λ q. m) h

-- ---- fine isomorphisms

all_fine : (vars : List VarDecl) (tokens : List PatToken) (isos : List Iso) → AreFine isos
    → AllFine (fits_rule vars tokens) most (ids_fit vars tokens) tokens isos
all_fine vars tokens [] f = tt
all_fine vars tokens (iso ∷ isos) f = ((f.0.covered, f.0.narrow), all_fine vars tokens isos f.1)

-- ---- what earlier rules declare and export

module _ (isos : List Iso) where
  exported-same : (n : ℕ) (rs ss : List Rule) → AreExpanded isos rs ss → (x : Var) (k : VarKind) → exported_from n ss x k ≡ exported_from n rs x k
  exported-same n [] [] h x k = refl
  exported-same n [] (s ∷ ss) h x k = absurd h
  exported-same n (r ∷ rs) [] h x k = absurd h
  exported-same n (r ∷ rs) (s ∷ ss) h x k =
      ap (λ (es : List Var). (nat_eq n x.rule && (list_any (λ y. same_var y x) es && declares s.vars x k)) || exported_from (n + 1) ss x k) h.0.exports
      ∙ ap (λ (vs : List VarDecl). (nat_eq n x.rule && (list_any (λ y. same_var y x) r.exports && declares vs x k)) || exported_from (n + 1) ss x k) h.0.vars
      ∙ ap (λ (b : Bool). (nat_eq n x.rule && (list_any (λ y. same_var y x) r.exports && declares r.vars x k)) || b) (exported-same (n + 1) rs ss h.1 x k)

  wanted-same : (n : ℕ) (rs ss : List Rule) → AreExpanded isos rs ss → (d : VarDecl) → wanted_in n ss d ≡ wanted_in n rs d
  wanted-same n [] [] h d = refl
  wanted-same n [] (s ∷ ss) h d = absurd h
  wanted-same n (r ∷ rs) [] h d = absurd h
  wanted-same n (r ∷ rs) (s ∷ ss) h d =
      ap (λ (vs : List VarDecl). (nat_eq n d.var.rule && is_declared_with vs d) || wanted_in (n + 1) ss d) h.0.vars
      ∙ ap (λ (b : Bool). (nat_eq n d.var.rule && is_declared_with r.vars d) || b) (wanted-same (n + 1) rs ss h.1 d)

  pub length-same : (rs ss : List Rule) → AreExpanded isos rs ss → length ss ≡ length rs
  length-same [] [] h = refl
  length-same [] (s ∷ ss) h = absurd h
  length-same (r ∷ rs) [] h = absurd h
  length-same (r ∷ rs) (s ∷ ss) h = let e = length-same rs ss h.1 in omega (arith, e)

  expanded-push : (rs ss : List Rule) (r s : Rule) → AreExpanded isos rs ss → IsExpandedRule isos r s → AreExpanded isos (rs ++ r ∷ []) (ss ++ s ∷ [])
  expanded-push [] [] r s h k = (k, tt)
  expanded-push [] (t ∷ ss) r s h k = absurd h
  expanded-push (q ∷ rs) [] r s h k = absurd h
  expanded-push (q ∷ rs) (t ∷ ss) r s h k = (h.0, expanded-push rs ss r s h.1 k)

  all-same : {A : Type 0} (f g : A → Bool) → ((x : A) → f x ≡ g x) → (xs : List A) → list_all f xs ≡ list_all g xs
  all-same f g h [] = refl
  all-same f g h (x ∷ xs) = let a = h x in let b = all-same f g h xs in cc

  decl-same : (rs ss : List Rule) → AreExpanded isos rs ss → (d : VarDecl) → is_sound_decl ss d ≡ is_sound_decl rs d
  decl-same rs ss h d =
      let a : exported_from 0 ss d.var d.kind ≡ exported_from 0 rs d.var d.kind = exported-same 0 rs ss h d.var d.kind in
      let b : length ss ≡ length rs = length-same rs ss h in
      let c : list_all (λ (y : Var). exported_from 0 ss y var_kind.Position) d.not_places
      ≡ list_all (λ (y : Var). exported_from 0 rs y var_kind.Position) d.not_places =
      all-same (λ (y : Var). exported_from 0 ss y var_kind.Position) (λ (y : Var). exported_from 0 rs y var_kind.Position)
      (λ y. exported-same 0 rs ss h y var_kind.Position) d.not_places in
      ap (λ (x : Bool). cond d.inherited x (nat_eq d.var.rule (length ss)) && list_all (λ (y : Var). exported_from 0 ss y var_kind.Position) d.not_places) a
      ∙ ap (λ (n : ℕ). cond d.inherited (exported_from 0 rs d.var d.kind) (nat_eq d.var.rule n)
      && list_all (λ (y : Var). exported_from 0 ss y var_kind.Position) d.not_places) b
      ∙ ap (λ (x : Bool). cond d.inherited (exported_from 0 rs d.var d.kind) (nat_eq d.var.rule (length rs)) && x) c

  takes-same : (rs ss : List Rule) → AreExpanded isos rs ss → (d : VarDecl) → is_sound_wanted ss d ≡ is_sound_wanted rs d
  takes-same rs ss h d =
      ap (λ (b : Bool). (is_anything d.wanted || same_kind d.kind (var_kind.Meta meta.Expr)) && cond d.inherited b true) (wanted-same 0 rs ss h d)

  -- ---- a rule

  module _ (fine : AreFine isos) (earlier before : List Rule) (are : AreExpanded isos earlier before) (r s : Rule) (h : IsExpandedRule isos r s)
      (q : IsSoundRule earlier r) where
    abbrev X : Pattern → Pattern
    X = expanded_pattern isos r.tokens

    patterns_are : patterns_body (body s.body) ≡ map X (patterns_body (body r.body))
    patterns_are = ap patterns_body h.body_is ∙ patterns-body isos r.tokens (body r.body)

    length_is : length s.body ≡ length r.body
    length_is = sym (members_are s.body) ∙ ap members h.body_is ∙ members-same isos r.tokens (body r.body) ∙ members_are r.body

    lengths_are : lengths_body (body s.body) ≡ lengths_body (body r.body)
    lengths_are = ap lengths_body h.body_is ∙ lengths-body isos r.tokens (body r.body)

    few_forms : total r.vars r.tokens isos (all_fine r.vars r.tokens isos fine) (patterns_body (body r.body)) ≤ 10000
    few_forms =
        let e = total-body r.vars r.tokens isos (all_fine r.vars r.tokens isos fine) (body r.body) in
        let f : forms_body isos r.tokens (body r.body) ≤ 10000 = h.few in
        omega (arith, e, f)

    kept : (list_all (is_sound_pattern r.vars r.tokens) (map X (patterns_body (body r.body))) ≡ true)
        × (list_all small (join (map lengths_pattern (map X (patterns_body (body r.body))))) ≡ true)
    kept = patterns_kept r.vars r.tokens isos (all_fine r.vars r.tokens isos fine) (patterns_body (body r.body)) q.patterns
        (last_of r.vars r.exports (length r.body) r.tokens (lengths_body (body r.body)) (of_patterns (body r.body)) q.few) few_forms

    lengths-same : lengths s ≡ all_lengths r.vars r.exports (length r.body) r.tokens (lengths_body (body r.body))
        (join (map lengths_pattern (map X (patterns_body (body r.body)))))
    lengths-same =
        ap (λ (vs : List VarDecl). all_lengths vs s.exports (length s.body) s.tokens (lengths_body (body s.body)) (of_patterns (body s.body))) h.vars
        ∙ ap (λ (es : List Var). all_lengths r.vars es (length s.body) s.tokens (lengths_body (body s.body)) (of_patterns (body s.body))) h.exports
        ∙ ap (λ (n : ℕ). all_lengths r.vars r.exports n s.tokens (lengths_body (body s.body)) (of_patterns (body s.body))) length_is
        ∙ ap (λ (ts : List PatToken). all_lengths r.vars r.exports (length r.body) ts (lengths_body (body s.body)) (of_patterns (body s.body))) h.tokens
        ∙ ap (λ (ns : List ℕ). all_lengths r.vars r.exports (length r.body) r.tokens ns (of_patterns (body s.body))) lengths_are
        ∙ ap (λ (ps : List Pattern). all_lengths r.vars r.exports (length r.body) r.tokens (lengths_body (body r.body)) (join (map lengths_pattern ps)))
        patterns_are

    rule_sound : IsSoundRule before s
    rule_sound = record {
      names = ap (none_alike (λ (d : VarDecl) (e : VarDecl). bytes_eq d.var.name e.var.name)) h.vars ∙ q.names;
      exports = ap (λ (vs : List VarDecl). list_all (is_own_var vs) s.exports) h.vars ∙ ap (list_all (is_own_var r.vars)) h.exports ∙ q.exports;
      vars = ap (list_all (is_sound_decl before)) h.vars
          ∙ all-same (is_sound_decl before) (is_sound_decl earlier) (decl-same earlier before are) r.vars ∙ q.vars;
      wanted = ap (list_all (is_sound_wanted before)) h.vars
          ∙ all-same (is_sound_wanted before) (is_sound_wanted earlier) (takes-same earlier before are) r.vars ∙ q.wanted;
      depends = ap (λ (d : Dep). is_below (length before) d) h.depends ∙ ap (λ (n : ℕ). is_below n r.depends) (length-same earlier before are) ∙ q.depends;
      atoms = ap (none_alike (λ (p : Pattern) (u : Pattern). nat_eq p.atom u.atom)) patterns_are
          ∙ atoms-differ X (λ p. refl) (patterns_body (body r.body)) ∙ q.atoms;
      patterns = ap (λ (vs : List VarDecl). list_all (is_sound_pattern vs s.tokens) (patterns_body (body s.body))) h.vars
          ∙ ap (λ (ts : List PatToken). list_all (is_sound_pattern r.vars ts) (patterns_body (body s.body))) h.tokens
          ∙ ap (list_all (is_sound_pattern r.vars r.tokens)) patterns_are ∙ kept.0;
      tokens = ap (λ (vs : List VarDecl). list_all (is_sound_token vs) s.tokens) h.vars ∙ ap (list_all (is_sound_token r.vars)) h.tokens ∙ q.tokens;
      formed = ap is_formed_body h.body_is ∙ formed-same isos r.tokens (body r.body) ∙ q.formed;
      few = ap (list_all small) lengths-same
          ∙ other_last r.vars r.exports (length r.body) r.tokens (lengths_body (body r.body)) (of_patterns (body r.body))
          (join (map lengths_pattern (map X (patterns_body (body r.body))))) q.few kept.1;
    }

  -- ---- a patch

  rules_sound : AreFine isos → (rs ss earlier before : List Rule) → AreExpanded isos earlier before → AreExpanded isos rs ss → AreSoundRules earlier rs
      → AreSoundRules before ss
  rules_sound f [] [] earlier before a h q = tt
  rules_sound f [] (s ∷ ss) earlier before a h q = absurd h
  rules_sound f (r ∷ rs) [] earlier before a h q = absurd h
  rules_sound f (r ∷ rs) (s ∷ ss) earlier before a h q = (
    rule_sound f earlier before a r s h.0 q.0,
    rules_sound f rs ss (earlier ++ r ∷ []) (before ++ s ∷ []) (expanded-push earlier before r s a h.0) h.1 q.1,
  )

  pub patch_sound : AreFine isos → (p o : Patch) → IsExpanded isos p o → IsSound p → IsSound o
  patch_sound f p o h q = record {
    virtuals = ap (λ (n : ℕ). nat_lt n 4294967296) (ap length h.virtuals) ∙ q.virtuals;
    count = ap (λ (n : ℕ). nat_lt n 4294967296) (length-same p.rules o.rules h.rules) ∙ q.count;
    rules = rules_sound f p.rules o.rules [] [] tt h.rules q.rules;
  }
