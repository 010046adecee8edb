-- How many more forms are allowed.
use Rattle.std.proofs.Common.{◌≡◌, ℕ, ◌+◌, ◌<◌, ◌≤◌, List, [], ◌∷◌, length, refl, ap, arith, Option, Some, None}
use Rattle.std.specs.Prelude.{slice_get}
use Rattle.c_terms.specs.declared.tree.Tree.{Tree}
use Rattle.smpl_patch.specs.declared.pattern.PatToken.{PatToken}
use Rattle.smpl_patch.specs.declared.rule.Iso.{Iso}
use Rattle.iso_expand.specs.declared.iso_forms.fault.FormsFault.{FormsFault}
use Rattle.iso_expand.specs.declared.iso_forms.fault.FormsFault.TheVariants as fault
use Rattle.iso_expand.specs.IsoForms.Forms.{forms, Refused}
use Rattle.iso_expand.proofs.IsoForms.FormLemmas.{has_form}
use Rattle.iso_expand.specs.Bodies.{forms_of_first}
use Rattle.iso_expand.specs.Stepped.{NoRoom}

pub no_room : (room : ℕ) (list : List Tree) (f : FormsFault) → Refused room list f → NoRoom room (length list) f
no_room room list fault.TooMany h = h
no_room room list fault.NoMemory h = tt

-- if too many forms are left for a part, there are too many for the whole
pub no_room_more : (room left used n all : ℕ) (f : FormsFault) → left + used ≡ room → used + n ≤ all → NoRoom left n f → NoRoom room all f
no_room_more room left used n all fault.TooMany e h r = omega arith
no_room_more room left used n all fault.NoMemory e h r = tt

pub first_forms : (isos : List Iso) (tokens : List PatToken) (written : List Tree) (t : Tree) → slice_get written 0 ≡ Some t
    → forms_of_first isos tokens written ≡ forms tokens isos t
first_forms isos tokens [] t e = absurd cc
first_forms isos tokens (u ∷ us) t e = let p : u ≡ t = cc in ap (forms tokens isos) p

pub none_forms : (isos : List Iso) (tokens : List PatToken) (written : List Tree) → slice_get written 0 ≡ None → [] ≡ forms_of_first isos tokens written
none_forms isos tokens [] e = refl
none_forms isos tokens (u ∷ us) e = absurd cc

pub no_room_at_all : (isos : List Iso) (tokens : List PatToken) (written : List Tree) (t : Tree) (room : ℕ) → slice_get written 0 ≡ Some t → room ≡ 0
    → room < length (forms_of_first isos tokens written)
no_room_at_all isos tokens written t room e z =
    let l : length (forms_of_first isos tokens written) ≡ length (forms tokens isos t) = ap length (first_forms isos tokens written t e) in
    omega (arith, has_form tokens isos t)
