-- An operand with what is pending before it, the innermost last.
use Rattle.std.proofs.Common.{◌≡◌, List, [], ◌∷◌, ◌++◌, Option, refl, sym, ap, ◌∙◌}
use Rattle.std.specs.Prelude.{reverse}
use Rattle.std.proofs.lemmas.List.{reverse-append}
use Rattle.smpl_patch.specs.declared.rule.Dep.{Dep}
use Rattle.smpl_patch.specs.declared.rule.Dep.TheVariants as dep
use Rattle.smpl_meta.specs.declared.depends.Pending.{Pending}
use Rattle.smpl_meta.specs.declared.depends.Pending.TheVariants as pending
use Rattle.smpl_meta.specs.Shunting.{take_on, settled}

pub reverse_last : (ps : List Pending) (p : Pending) → reverse (ps ++ p ∷ []) ≡ p ∷ reverse ps
reverse_last ps p = reverse-append ps (p ∷ [])

-- taking one operand equals taking the other
pub record TakesAs (from : List Pending) (operand : Dep) (to : List Pending) (d : Dep) : Type 0 where
  pub same : (a b : Option Dep) → take_on a b (reverse from) operand ≡ take_on a b (reverse to) d

pub takes_itself : (ps : List Pending) (d : Dep) → TakesAs ps d ps d
takes_itself ps d = record { same = λ a b. refl }

pub takes_not : (from to rest : List Pending) (operand d : Dep) → TakesAs from operand to d
    → to ≡ rest ++ pending.Not ∷ [] → TakesAs from operand rest (dep.Not d)
takes_not from to rest operand d t is = record {
  same = λ a b. t.same a b ∙ ap (λ (ps : List Pending). take_on a b ps d) (ap reverse is ∙ reverse_last rest pending.Not);
}

pub takes_open : (from to rest : List Pending) (operand d : Dep) (x y : Option Dep) → TakesAs from operand to d
    → to ≡ rest ++ pending.Open x y ∷ []
    → (a b : Option Dep) → take_on a b (reverse from) operand ≡ settled a b (reverse (rest ++ pending.Open x y ∷ [])) d
takes_open from to rest operand d x y t is a b = t.same a b
    ∙ (ap (λ (ps : List Pending). take_on a b ps d) (ap reverse is ∙ reverse_last rest (pending.Open x y))
    ∙ ap (λ (ps : List Pending). settled a b ps d) (sym (reverse_last rest (pending.Open x y))))

pub takes_none : (from to : List Pending) (operand d : Dep) → TakesAs from operand to d → to ≡ [] → (a b : Option Dep)
    → take_on a b (reverse from) operand ≡ settled a b [] d
takes_none from to operand d t is a b = t.same a b ∙ ap (λ (ps : List Pending). take_on a b ps d) (ap reverse is)
