-- No variable of a rule has a name that begins with `{`.
use Rattle.std.proofs.Common.{◌≡◌, ℕ, suc, false, sym, ap, ◌∙◌, subst, List, [], ◌∷◌, ◌++◌, length}
use Rattle.std.specs.Prelude.{All}
use Rattle.std.proofs.lemmas.List.Elements.{All-nil, All-cons, All-append}
use Rattle.smpl_terms.specs.declared.var.Var.{Var as Variable}
use Rattle.smpl_patch.specs.declared.pattern.VarDecl.{VarDecl}
use Rattle.smpl_patch.specs.declared.rule.Rule.{Rule}
use Rattle.smpl_patch.specs.declared.rule.Patch.{Patch}
use Rattle.smpl_lexer.specs.declared.text.RuleText.{RuleText}
use Rattle.smpl_lexer.specs.declared.text.PatchText.{PatchText}
use Rattle.smpl_meta.specs.declared.head.RuleHead.{RuleHead}
use Rattle.smpl_meta.specs.declared.item.Item.{Item}
use Rattle.smpl_meta.specs.Forms.{parts}
use Rattle.smpl_meta.specs.Decls.{items_of, vars_in, vars_of_items}
use Rattle.smpl_meta.specs.Heads.{AreHeads}
use Rattle.smpl_file.specs.Exports.{taken}
use Rattle.smpl_file.specs.Patches.{AreRules, IsSpelled}
use Rattle.sound_laws.proofs.SmplSound.NameLemmas.{Gives, gives}
use Rattle.sound_laws.proofs.SmplSound.NameLemmas.Gives.{none, one}
use Rattle.wit_forest.specs.WitTrees.Forest.{is_hidden_name, is_hidden}
use Rattle.insert_laws.proofs.NameLaws.WordLemmas.{NameLaw, KeywordLaw, AllRules, rules_open}
use Rattle.insert_laws.proofs.NameLaws.ItemLemmas.{HasOpen, HaveOpen, parts_open, items_open}

abbrev IsOpenVar : VarDecl → Type 0
IsOpenVar d = is_hidden d.var ≡ false

abbrev pub HasOpenVars : Rule → Type 0
HasOpenVars r = All IsOpenVar r.vars

given_open : (i : Item) (ds : List VarDecl) → Gives i ds → HasOpen i → All IsOpenVar ds
given_open i _ none h = All-nil IsOpenVar
given_open i _ (one d e s) h = All-cons IsOpenVar d [] (ap is_hidden_name e ∙ h) (All-nil IsOpenVar)

vars_open : (earlier : List RuleHead) (rule : ℕ) (items : List Item) → HaveOpen items → All IsOpenVar (vars_of_items earlier rule items)
vars_open earlier rule [] h = All-nil IsOpenVar
vars_open earlier rule (i ∷ items) h =
    All-append IsOpenVar (vars_in earlier rule i.kind i) (vars_of_items earlier rule items)
    (given_open i (vars_in earlier rule i.kind i) (gives earlier rule i) h.0) (vars_open earlier rule items h.1)

abbrev AllHeads : List RuleHead → Type 0
AllHeads [] = Unit {0}
AllHeads (h ∷ hs) = All IsOpenVar h.vars × AllHeads hs

module _ (names : NameLaw) (words : KeywordLaw) where
  heads_open : (text : PatchText) (earlier : List RuleHead) (rs : List RuleText) (hs : List RuleHead) → AreHeads text earlier rs hs
      → AllRules names words rs → AllHeads hs
  heads_open text earlier [] [] are a = tt
  heads_open text earlier [] (h ∷ hs) are a = absurd are
  heads_open text earlier (r ∷ rs) [] are a = absurd are
  heads_open text earlier (r ∷ rs) (h ∷ hs) are a = (
    subst (All IsOpenVar) (sym are.0.vars) (vars_open earlier (length earlier) (items_of are.0.answers)
        (items_open [] (parts r.decls) are.0.answers are.0.read (parts_open r.decls a.0))),
    heads_open text (earlier ++ h ∷ []) rs hs are.1 a.1,
  )

  rules_have : (known : List Variable) (n : ℕ) (ts : List RuleText) (hs : List RuleHead) (rs : List Rule) → AreRules known n ts hs rs → AllHeads hs
      → All HasOpenVars rs
  rules_have known n [] [] [] are a = All-nil HasOpenVars
  rules_have known n [] [] (r ∷ rs) are a = absurd are
  rules_have known n [] (h ∷ hs) [] are a = absurd are
  rules_have known n [] (h ∷ hs) (r ∷ rs) are a = absurd are
  rules_have known n (t ∷ ts) [] [] are a = absurd are
  rules_have known n (t ∷ ts) [] (r ∷ rs) are a = absurd are
  rules_have known n (t ∷ ts) (h ∷ hs) [] are a = absurd are
  rules_have known n (t ∷ ts) (h ∷ hs) (r ∷ rs) are a =
      All-cons HasOpenVars r rs (subst (All IsOpenVar) (sym are.0.vars) a.0) (rules_have known (suc n) ts hs rs are.1 a.1)

  pub patch_open : (bytes : List ℕ) (patch : Patch) → IsSpelled bytes patch → All HasOpenVars patch.rules
  patch_open bytes patch s =
      rules_have (taken s.heads) 0 s.text.rules s.heads patch.rules s.are_rules.rules
      (heads_open s.text [] s.text.rules s.heads s.are_heads (rules_open names words bytes s.text s.is_text))
