-- The rules of the built command: which argument belongs to a name, a position or a short name.
use Rattle.std.proofs.Common.{◌≡◌, ◌∙◌, refl, sym, subst, ℕ, Bool, true, false, cond, ◌||◌, List, [], ◌∷◌, Option, Some, None, codes, inl, inr}
use Rattle.std.specs.Str.{bytes_eq}
use Rattle.std.proofs.lemmas.Bool.{or_cases, or_parts, false_from_ne_true}
use Rattle.std.proofs.lemmas.Slice.Eq.{bytes_eq-Decides}
use Rattle.c_lexer.specs.Words.{is_in}
use Rattle.clap.specs.Walk.{Rule, arg_by_id, arg_by_long, arg_by_index, arg_by_short}
use Rattle.clap.specs.Simple.{Shape, built, filled, is_simple, with_index}
use Rattle.clap.specs.Faults.{is_simple_and_free}
use Rattle.run_words.specs.Parts.{valued_options, flag_options}
use Rattle.run_words.specs.Commands.{valued_new, flag_new, files_new, spatch_app}

abbrev pub valued_rule : List ℕ → Rule
valued_rule name = filled (valued_new name)

abbrev pub flag_rule : List ℕ → Rule
flag_rule name = filled (flag_new name)

abbrev pub file_rule : Rule
file_rule = with_index 1 (filled files_new)

-- what the walk requires of a command
pub record Serves (s : Shape) : Type 0 where
  pub once : s.args_override_self ≡ false
  pub valued_long : (name : List ℕ) → is_in valued_options name ≡ true → arg_by_long s.rules name ≡ Some (valued_rule name)
  pub flag_long : (name : List ℕ) → is_in flag_options name ≡ true → arg_by_long s.rules name ≡ Some (flag_rule name)
  pub other_long : (name : List ℕ) → is_in valued_options name ≡ false → is_in flag_options name ≡ false → arg_by_long s.rules name ≡ None
  pub valued_id : (name : List ℕ) → is_in valued_options name ≡ true → arg_by_id s.rules name ≡ Some (valued_rule name)
  pub file_id : arg_by_id s.rules (codes "FILE") ≡ Some file_rule
  pub place : arg_by_index s.rules 1 ≡ Some file_rule
  pub no_short : (x : ℕ) → arg_by_short s.rules x ≡ None

pub bytes_eq_sym : (s t : List ℕ) → bytes_eq s t ≡ bytes_eq t s
bytes_eq_sym s t = elim (bytes_eq s t) as (λ b. bytes_eq s t ≡ b → b ≡ bytes_eq t s) [
  | true ↦ λ e. sym ((bytes_eq-Decides t s).1 (sym ((bytes_eq-Decides s t).0 e)))
  | false ↦ λ e. sym (false_from_ne_true (bytes_eq t s) (λ h. let both : true ≡ false = sym ((bytes_eq-Decides s t).1 (sym
      ((bytes_eq-Decides t s).0 h))) ∙ e in cc))
] refl

-- what holds for each name of a list holds for one that is in it
abbrev pub OfEach : (List ℕ → Type 0) → List (List ℕ) → Type 0
OfEach P [] = Unit {0}
OfEach P (name ∷ names) = P name × OfEach P names

pub of_one : (P : List ℕ → Type 0) (names : List (List ℕ)) (name : List ℕ) → OfEach P names → is_in names name ≡ true → P name
of_one P [] name each h = let bad : false ≡ true = h in cc
of_one P (x ∷ xs) name each h = elim (or_cases (bytes_eq name x) (is_in xs name) h) [
  | inl e ↦ subst P (sym ((bytes_eq-Decides name x).0 e)) each.0
  | inr rest ↦ of_one P xs name each.1 rest
]

abbrev pub spatch : Shape
spatch = (built spatch_app).top

abbrev pub spatch_rules : List Rule
spatch_rules = valued_rule (codes "sp-file") ∷ valued_rule (codes "iso-file") ∷ valued_rule (codes "define") ∷ valued_rule (codes "jobs")
    ∷ valued_rule (codes "generate") ∷ valued_rule (codes "functions") ∷ valued_rule (codes "unread")
    ∷ flag_rule (codes "witnesses") ∷ flag_rule (codes "in-place")
    ∷ flag_rule (codes "check") ∷ flag_rule (codes "quiet") ∷ flag_rule (codes "tidy") ∷ flag_rule (codes "help")
    ∷ flag_rule (codes "version") ∷ file_rule ∷ []

differs : (word name : List ℕ) → bytes_eq name word ≡ false → bytes_eq word name ≡ false
differs word name h = bytes_eq_sym word name ∙ h

valued_long : (name : List ℕ) → is_in valued_options name ≡ true → arg_by_long spatch.rules name ≡ Some (valued_rule name)
unfolding spatch_app
valued_long name = of_one (λ n. arg_by_long spatch.rules n ≡ Some (valued_rule n)) valued_options name
    (refl, (refl, (refl, (refl, (refl, (refl, (refl, tt)))))))

flag_long : (name : List ℕ) → is_in flag_options name ≡ true → arg_by_long spatch.rules name ≡ Some (flag_rule name)
unfolding spatch_app
flag_long name = of_one (λ n. arg_by_long spatch.rules n ≡ Some (flag_rule n)) flag_options name
    (refl, (refl, (refl, (refl, (refl, (refl, (refl, tt)))))))

valued_id : (name : List ℕ) → is_in valued_options name ≡ true → arg_by_id spatch.rules name ≡ Some (valued_rule name)
unfolding spatch_app
valued_id name = of_one (λ n. arg_by_id spatch.rules n ≡ Some (valued_rule n)) valued_options name
    (refl, (refl, (refl, (refl, (refl, (refl, (refl, tt)))))))

-- the first argument is another
passed : (a : Bool) (x : Rule) (rest : Option Rule) → a ≡ false → rest ≡ None → cond (a || false) (Some x) rest ≡ None
passed a x rest e none = rw (e, none) refl

other_long : (name : List ℕ) → is_in valued_options name ≡ false → is_in flag_options name ≡ false → arg_by_long spatch.rules name ≡ None
unfolding spatch_app
other_long name v f =
    let v1 = or_parts _ _ v in
    let v2 = or_parts _ _ v1.1 in
    let v3 = or_parts _ _ v2.1 in
    let v4 = or_parts _ _ v3.1 in
    let v5 = or_parts _ _ v4.1 in
    let v6 = or_parts _ _ v5.1 in
    let v7 = or_parts _ _ v6.1 in
    let f1 = or_parts _ _ f in
    let f2 = or_parts _ _ f1.1 in
    let f3 = or_parts _ _ f2.1 in
    let f4 = or_parts _ _ f3.1 in
    let f5 = or_parts _ _ f4.1 in
    let f6 = or_parts _ _ f5.1 in
    let f7 = or_parts _ _ f6.1 in
    passed _ _ _ (differs (codes "sp-file") name v1.0) (passed _ _ _ (differs (codes "iso-file") name v2.0) (passed _ _ _ (differs (codes "define") name v3.0)
    (passed _ _ _ (differs (codes "jobs") name v4.0) (passed _ _ _ (differs (codes "generate") name v5.0)
    (passed _ _ _ (differs (codes "functions") name v6.0) (passed _ _ _ (differs (codes "unread") name v7.0)
    (passed _ _ _ (differs (codes "witnesses") name f1.0)
    (passed _ _ _ (differs (codes "in-place") name f2.0) (passed _ _ _ (differs (codes "check") name f3.0)
    (passed _ _ _ (differs (codes "quiet") name f4.0) (passed _ _ _ (differs (codes "tidy") name f5.0)
    (passed _ _ _ (differs (codes "help") name f6.0) (passed _ _ _ (differs (codes "version") name f7.0) refl)))))))))))))

pub spatch_serves : Serves spatch
unfolding spatch_app
spatch_serves = record {
  once = refl;
  valued_long = valued_long;
  flag_long = flag_long;
  other_long = other_long;
  valued_id = valued_id;
  file_id = refl;
  place = refl;
  no_short = λ x. refl;
}

pub spatch_is_simple : is_simple spatch_app ≡ true
unfolding spatch_app
spatch_is_simple = refl

pub spatch_is_free : is_simple_and_free spatch_app ≡ true
unfolding spatch_app
spatch_is_free = refl
