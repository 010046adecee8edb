use Rattle.std.proofs.Common.{◌≡◌, List, Some, [], ◌∷◌, map, nat_eq, refl, ap, ◌∙◌}
use Rattle.std.specs.Prelude.{slice_get}
use Rattle.c_terms.specs.declared.tree.Tree.{Tree}
use Rattle.smpl_patch.specs.declared.pattern.Pattern.{Pattern}
use Rattle.smpl_patch.specs.declared.pattern.PatToken.{PatToken}
use Rattle.smpl_patch.specs.declared.rule.Iso.{Iso}
use Rattle.smpl_patch.specs.Bodies.{body}
use Rattle.smpl_patch.specs.Shapes.{is_formed_body, patterns_body}
use Rattle.smpl_patch.specs.Sound.{none_alike}
use Rattle.iso_expand.proofs.IsoForms.FirstLemmas.{first_form}
use Rattle.iso_expand.specs.Bodies.{expanded_pattern, forms_of_first}
use Rattle.iso_expand.proofs.ShapeLemmas.{formed-same, patterns-body, atoms-differ}
use Rattle.iso_expand.proofs.laws.rules_keep_their_shape.Goals as goal

pub returns-clause-patterns : goal.returns-clause-patterns
returns-clause-patterns c = λ isos r s h. ap patterns_body h.body_is ∙ patterns-body isos r.tokens (body r.body)

first_of : (isos : List Iso) (tokens : List PatToken) (written : List Tree) (t : Tree) → slice_get written 0 ≡ Some t
    → slice_get (forms_of_first isos tokens written) 0 ≡ Some t
first_of isos tokens [] t h = absurd cc
first_of isos tokens (u ∷ us) t h = first_form tokens isos u ∙ h

pub returns-clause-first : goal.returns-clause-first
returns-clause-first c = λ isos tokens p t h. first_of isos tokens p.forms t h

pub returns-clause-atoms : goal.returns-clause-atoms
returns-clause-atoms c = λ isos r s h.
    ap (none_alike (λ (p : Pattern) (q : Pattern). nat_eq p.atom q.atom)) (ap patterns_body h.body_is ∙ patterns-body isos r.tokens (body r.body))
    ∙ atoms-differ (expanded_pattern isos r.tokens) (λ p. refl) (patterns_body (body r.body))

pub returns-clause-formed : goal.returns-clause-formed
returns-clause-formed c = λ isos r s h. ap is_formed_body h.body_is ∙ formed-same isos r.tokens (body r.body)
