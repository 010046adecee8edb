-- The head of a rule: its name, what it depends on, its mode, and its variables.
use Rattle.std.specs.Prelude.{ℕ, ◌≡◌, ◌==◌, ◌||◌, ◌&&◌, not, Bool, true, false, if◌then◌else◌, List, [], ◌∷◌, ◌++◌, length}
use Rattle.std.specs.Prelude.{take, ◌<◌, slice_get, IfSome, ⊤, Option, Some, None, codes}
use Rattle.std.specs.Str.{bytes_eq}
use Rattle.smpl_patch.specs.declared.rule.Dep.{Dep}
use Rattle.smpl_patch.specs.declared.rule.Dep.TheVariants as dep
use Rattle.smpl_patch.specs.declared.rule.Mode.{Mode}
use Rattle.smpl_patch.specs.declared.rule.Mode.TheVariants as mode
use Rattle.smpl_patch.specs.declared.fault.PatchFault.{PatchFault}
use Rattle.smpl_patch.specs.declared.fault.PatchFault.TheVariants.{TwiceNamed, UnknownRule}
use Rattle.smpl_patch.specs.Faults.{first_of}
use Rattle.smpl_lexer.specs.declared.token.PatchToken.{PatchToken}
use Rattle.smpl_lexer.specs.declared.text.BodyLine.{BodyLine}
use Rattle.smpl_lexer.specs.declared.text.RuleText.{RuleText}
use Rattle.smpl_lexer.specs.declared.text.PatchText.{PatchText}
use Rattle.smpl_lexer.specs.Tokens.{is_word, is_sign, is_at}
use Rattle.smpl_lexer.specs.Headers.{is_rule_name, is_mode}
use Rattle.smpl_lexer.specs.Sections.{minus, plus}
use Rattle.smpl_meta.specs.declared.head.RuleHead.{RuleHead}
use Rattle.smpl_meta.specs.declared.depends.Mark.{Mark}
use Rattle.smpl_meta.specs.declared.depends.Mark.TheVariants as mark
use Rattle.smpl_meta.specs.Known.{number_from}
use Rattle.smpl_meta.specs.declared.item.Item.{Item}
use Rattle.smpl_meta.specs.Decls.{decl_faults, vars_of, AreAnswers}

-- ---- names

abbrev pub is_virtual : List (List ℕ) → List ℕ → Bool
is_virtual [] name = false
is_virtual (v ∷ vs) name = if bytes_eq v name then true else is_virtual vs name

abbrev pub is_some_rule : Option ℕ → Bool
is_some_rule None = false
is_some_rule (Some n) = true

-- an earlier rule or a `virtual` line has the name
abbrev pub is_taken : List (List ℕ) → List RuleHead → List ℕ → Bool
is_taken virtuals earlier name = is_some_rule (number_from 0 name earlier) || is_virtual virtuals name

-- the rule's name, if it has one
abbrev pub name_token : List PatchToken → Option PatchToken
name_token (first ∷ t ∷ ts) = if is_rule_name t then Some t else None
name_token _ = None

abbrev pub name_text : Option PatchToken → List ℕ
name_text None = []
name_text (Some t) = t.token.text

abbrev pub name_fault : List (List ℕ) → List RuleHead → Option PatchToken → List PatchFault
name_fault virtuals earlier None = []
name_fault virtuals earlier (Some t) = if is_taken virtuals earlier t.token.text then TwiceNamed t.at ∷ [] else []

-- ---- what follows `depends on`

-- the tokens after the word `on`, or none if it is missing
abbrev pub behind_on : List PatchToken → List PatchToken
behind_on [] = []
behind_on (t ∷ ts) = if is_word (codes "on") t then ts else behind_on ts

-- the tokens up to `exists`, `forall` or `@`
abbrev pub condition : List PatchToken → List PatchToken
condition [] = []
condition (t ∷ ts) = if is_mode t || is_at t then [] else t ∷ condition ts

abbrev pub depends_tokens : List PatchToken → List PatchToken
depends_tokens header = condition (behind_on header)

-- a name that neither an earlier rule nor a `virtual` line has
abbrev pub is_unknown : List (List ℕ) → List RuleHead → PatchToken → Bool
is_unknown virtuals earlier t = is_rule_name t && not (is_taken virtuals earlier t.token.text)

abbrev pub unknown_fault : Bool → ℕ → List PatchFault
unknown_fault true at = UnknownRule at ∷ []
unknown_fault false at = []

abbrev pub unknown_faults : List (List ℕ) → List RuleHead → List PatchToken → List PatchFault
unknown_faults virtuals earlier [] = []
unknown_faults virtuals earlier (t ∷ ts) =
    unknown_fault (is_unknown virtuals earlier t) t.at ++ unknown_faults virtuals earlier ts

-- what a token is in a condition
abbrev pub mark_of : PatchToken → Mark
mark_of t =
    if is_sign (codes "!") t then mark.Not
    else (if is_sign (codes "(") t then mark.Open
    else (if is_sign (codes ")") t then mark.Close
    else (if is_sign (codes "||") t then mark.Or
    else (if is_sign (codes "&&") t then mark.And
    else (if is_word (codes "ever") t then mark.Ever
    else (if is_word (codes "never") t then mark.Never
    else (if is_rule_name t then mark.Name else mark.Other)))))))

-- a rule's number, or a virtual name, for which `ever` makes no difference
abbrev pub plain_dep : List ℕ → Option ℕ → Dep
plain_dep name None = dep.Defined name
plain_dep name (Some r) = dep.Had r

abbrev pub ever_dep : List ℕ → Option ℕ → Dep
ever_dep name None = dep.Defined name
ever_dep name (Some r) = dep.Ever r

-- what a name means after `ever`, after `never`, or after neither
abbrev pub named_dep : List RuleHead → Mark → List ℕ → Dep
named_dep earlier mark.Ever name = ever_dep name (number_from 0 name earlier)
named_dep earlier mark.Never name = dep.Not (ever_dep name (number_from 0 name earlier))
named_dep earlier _ name = plain_dep name (number_from 0 name earlier)

-- the levels of a condition, loosest first: `||`, `&&`, and what starts with `!`, `(` or a name
pub data Level : Type 0 where
  Either : Level
  Both : Level
  Prefix : Level

-- The tokens from the first list to the second spell the condition. `||` and `&&` associate to the left.
module _ (earlier : List RuleHead) where
  pub data Spells : Level → List PatchToken → Dep → List PatchToken → Type 0 where
    either : {xs ys zs : List PatchToken} {a b : Dep} (t : PatchToken) → Spells Either xs a (t ∷ ys)
        → mark_of t ≡ mark.Or → Spells Both ys b zs → Spells Either xs (dep.Either a b) zs
    one_both : {xs zs : List PatchToken} {a : Dep} → Spells Both xs a zs → Spells Either xs a zs
    both : {xs ys zs : List PatchToken} {a b : Dep} (t : PatchToken) → Spells Both xs a (t ∷ ys)
        → mark_of t ≡ mark.And → Spells Prefix ys b zs → Spells Both xs (dep.Both a b) zs
    one_prefix : {xs zs : List PatchToken} {a : Dep} → Spells Prefix xs a zs → Spells Both xs a zs
    negated : {xs zs : List PatchToken} {a : Dep} (t : PatchToken) → mark_of t ≡ mark.Not → Spells Prefix xs a zs
        → Spells Prefix (t ∷ xs) (dep.Not a) zs
    group : {xs zs : List PatchToken} {a : Dep} (t u : PatchToken) → mark_of t ≡ mark.Open
        → Spells Either xs a (u ∷ zs) → mark_of u ≡ mark.Close → Spells Prefix (t ∷ xs) a zs
    name : {zs : List PatchToken} (t : PatchToken) → mark_of t ≡ mark.Name
        → Spells Prefix (t ∷ zs) (named_dep earlier mark.Name t.token.text) zs
    ever : {zs : List PatchToken} (w t : PatchToken) → mark_of w ≡ mark.Ever → mark_of t ≡ mark.Name
        → Spells Prefix (w ∷ t ∷ zs) (named_dep earlier mark.Ever t.token.text) zs
    never : {zs : List PatchToken} (w t : PatchToken) → mark_of w ≡ mark.Never → mark_of t ≡ mark.Name
        → Spells Prefix (w ∷ t ∷ zs) (named_dep earlier mark.Never t.token.text) zs

-- the condition of a header: none, or the one that its tokens spell
abbrev pub DependsOn : List RuleHead → List PatchToken → Dep → Type 0
DependsOn earlier [] d = d ≡ dep.Always
DependsOn earlier (t ∷ ts) d = Spells earlier Either (t ∷ ts) d []

-- ---- the mode

abbrev pub has_word : List ℕ → List PatchToken → Bool
has_word text [] = false
has_word text (t ∷ ts) = if is_word text t then true else has_word text ts

-- a `-` or `+` line
abbrev pub is_edit : BodyLine → Bool
is_edit l = l.sign == minus || l.sign == plus

abbrev pub has_edit : List BodyLine → Bool
has_edit [] = false
has_edit (l ∷ ls) = if is_edit l then true else has_edit ls

abbrev pub mode_of : RuleText → Mode
mode_of r =
    if has_word (codes "exists") r.header then mode.Exists
    else (if has_word (codes "forall") r.header then mode.Forall
    else (if has_edit r.body then mode.Forall else mode.Exists))

-- ---- the head

-- all faults of a rule's header and declarations
abbrev pub head_faults : List (List ℕ) → List RuleHead → List (Option (List Item)) → RuleText → List PatchFault
head_faults virtuals earlier answers r =
    name_fault virtuals earlier (name_token r.header)
    ++ (unknown_faults virtuals earlier (depends_tokens r.header) ++ decl_faults earlier answers r.decls)

-- They have no fault, and this is the head.
pub record IsHead (virtuals : List (List ℕ)) (earlier : List RuleHead) (rule : ℕ) (r : RuleText) (h : RuleHead)
    : Type 0 where
  pub answers : List (Option (List Item))
  pub read : AreAnswers r.decls answers
  pub faultless : head_faults virtuals earlier answers r ≡ []
  pub name : h.name ≡ name_text (name_token r.header)
  pub mode : h.mode ≡ mode_of r
  pub vars : h.vars ≡ vars_of earlier rule answers
  -- The condition that the header spells is the rule's.
  pub depends : (d : Dep) → DependsOn earlier (depends_tokens r.header) d → h.depends ≡ d

-- their first fault
pub record IsHeadFault (virtuals : List (List ℕ)) (earlier : List RuleHead) (r : RuleText) (f : PatchFault) : Type 0 where
  pub answers : List (Option (List Item))
  pub read : AreAnswers r.decls answers
  pub first : first_of (head_faults virtuals earlier answers r) ≡ Some f

-- the same for the rule with a given number
abbrev pub IsHeadIn : PatchText → List RuleHead → ℕ → RuleHead → Type 0
IsHeadIn text earlier rule h = IfSome (slice_get text.rules rule) (λ r. IsHead text.virtuals earlier rule r h)

abbrev pub IsHeadFaultIn : PatchText → List RuleHead → ℕ → PatchFault → Type 0
IsHeadFaultIn text earlier rule f = IfSome (slice_get text.rules rule) (λ r. IsHeadFault text.virtuals earlier r f)

-- These are the heads of the rules from a number on, each read after the heads before it.
abbrev pub AreHeads : PatchText → List RuleHead → List RuleText → List RuleHead → Type 0
AreHeads text earlier [] [] = ⊤
AreHeads text earlier [] (h ∷ hs) = ⊥
AreHeads text earlier (r ∷ rs) [] = ⊥
AreHeads text earlier (r ∷ rs) (h ∷ hs) =
    IsHead text.virtuals earlier (length earlier) r h × AreHeads text (earlier ++ h ∷ []) rs hs

-- A rule has this first fault, after the heads of the earlier rules, which have no fault.
pub record IsFirstHeadFault (text : PatchText) (f : PatchFault) : Type 0 where
  pub rule : ℕ
  pub within : rule < length text.rules
  pub heads : List RuleHead
  pub before : AreHeads text [] (take rule text.rules) heads
  pub here : IsHeadFaultIn text heads rule f
