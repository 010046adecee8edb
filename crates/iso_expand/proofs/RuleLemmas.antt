-- Rules one after another.
use Rattle.std.proofs.Common.{◌≡◌, ℕ, ◌+◌, ◌<◌, ◌≤◌, List, [], ◌∷◌, ◌++◌, length, get_or, take, drop, refl, sym, ap, subst, ◌∙◌, arith, length-take, zero, suc}
use Rattle.smpl_patch.specs.declared.rule.Iso.{Iso}
use Rattle.smpl_patch.specs.declared.rule.Rule.{Rule}
use Rattle.iso_expand.specs.declared.iso_forms.fault.FormsFault.{FormsFault}
use Rattle.iso_expand.specs.declared.iso_forms.fault.FormsFault.TheVariants as forms_fault
use Rattle.iso_expand.specs.Patches.{IsExpandedRule, AreExpanded, AllFew, IsFirstMany, IsFaultOf, fault_at, forms_rule, most_forms}
use Rattle.iso_expand.specs.Stepped.{NoRoom}
use Rattle.iso_expand.proofs.BodyLemmas.{take_item}

module _ (isos : List Iso) where
  expanded-push : (rs ss : List Rule) (r s : Rule) → AreExpanded isos rs ss → IsExpandedRule isos r s → AreExpanded isos (rs ++ r ∷ []) (ss ++ s ∷ [])
  expanded-push [] [] r s all one = (one, tt)
  expanded-push [] (y ∷ ss) r s all one = absurd all
  expanded-push (x ∷ rs) [] r s all one = absurd all
  expanded-push (x ∷ rs) (y ∷ ss) r s all one = (all.0, expanded-push rs ss r s all.1 one)

  -- one more rule
  pub rules_more : (rules out new : List Rule) (n : ℕ) (r s : Rule) → n < length rules → r ≡ get_or rules n r → new ≡ out ++ s ∷ []
      → IsExpandedRule isos r s → AreExpanded isos (take n rules) out → AreExpanded isos (take (n + 1) rules) new
  rules_more rules out new n r s h q e one all =
      subst (λ (rs : List Rule). AreExpanded isos rs new) (sym (take_item rules n r h q))
      (subst (λ (ss : List Rule). AreExpanded isos (take n rules ++ r ∷ []) ss) (sym e) (expanded-push (take n rules) out r s all one))

  few_of : (rs ss : List Rule) → AreExpanded isos rs ss → AllFew isos rs
  few_of [] ss all = tt
  few_of (r ∷ rs) [] all = absurd all
  few_of (r ∷ rs) (s ∷ ss) all = (all.0.few, few_of rs ss all.1)

  parted : (rules : List Rule) (n : ℕ) (r : Rule) → n < length rules → r ≡ get_or rules n r → rules ≡ take n rules ++ r ∷ drop (n + 1) rules
  parted [] n r h q = absurd (omega arith)
  parted (x ∷ rules) zero r h q = ap (λ (y : Rule). y ∷ rules) (sym q)
  parted (x ∷ rules) (suc n) r h q =
      let e : suc (n + 1) ≡ suc n + 1 = omega arith in
      ap (λ (rs : List Rule). x ∷ rs) (parted rules n r (omega arith) q) ∙ ap (λ (m : ℕ). x ∷ (take n rules ++ r ∷ drop m (x ∷ rules))) e

  -- the first rule that is refused
  pub rule_refused : (rules out : List Rule) (n : ℕ) (r : Rule) (f : FormsFault) → n < length rules → r ≡ get_or rules n r → AreExpanded isos (take n rules) out
      → NoRoom most_forms (forms_rule isos r) f → IsFaultOf isos rules (fault_at f n)
  rule_refused rules out n r forms_fault.TooMany h q all many = record {
    before = take n rules;
    rule = r;
    after = drop (n + 1) rules;
    rules_are = parted rules n r h q;
    number = omega (arith, length-take n rules);
    few = few_of (take n rules) out all;
    many = many;
  }
  rule_refused rules out n r forms_fault.NoMemory h q all many = tt
