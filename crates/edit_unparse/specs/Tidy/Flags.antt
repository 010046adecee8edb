-- For internal use: flags of tokens.
use Rattle.std.specs.Prelude.{ℕ, zero, suc, ◌≡◌, ◌<◌, ◌&&◌, ◌||◌, Bool, false, List, [], ◌∷◌, length, get_or, nat_le, if◌then◌else◌}
use Rattle.std.specs.List.{list_any}
use Rattle.c_lexer.specs.declared.piece.PieceKind.{PieceKind}
use Rattle.c_lexer.specs.declared.piece.PieceKind.TheVariants.{Word, Blank, Comment, Line}
use Rattle.edit_marks.specs.declared.edit_conflict.edit.Edit.{Edit}
use Rattle.edit_marks.specs.EditConflict.Clashes.{removes}
use Rattle.edit_unparse.specs.declared.tidy.flags.Extent.{Extent}
use Rattle.edit_unparse.specs.declared.tidy.flags.Owners.{Owners}
use Rattle.tidy_flags.specs.Flags.{flag_before}
use Rattle.edit_unparse.specs.Output.{is_removed}

-- the edit removes the token and the one before it
abbrev pub removes_both : ℕ → Edit → Bool
removes_both zero e = false
removes_both (suc n) e = removes n e && removes (suc n) e

-- the statement has the token
abbrev pub holds : ℕ → Extent → Bool
holds n x = nat_le x.first n && nat_le n x.last

-- the statement has the token and the one before it
abbrev pub reaches : ℕ → Extent → Bool
reaches n x = nat_le (suc x.first) n && nat_le n x.last

-- the flags of so many tokens
pub record IsOwners (count : ℕ) (edits : List Edit) (gone : List Extent) (o : Owners) : Type 0 where
  pub lengths : (length o.removed.items ≡ count) × (length o.shared.items ≡ count)
  pub removed : (n : ℕ) → n < count → get_or o.removed.items n false ≡ is_removed n edits
  pub shared : (n : ℕ) → n < count → get_or o.shared.items n false ≡ list_any (removes_both n) edits
  pub held : (n : ℕ) → n < count → get_or o.held.items n false ≡ list_any (holds n) gone
  pub reached : (n : ℕ) → n < count → get_or o.reached.items n false ≡ list_any (reaches n) gone

-- one edit removes the token and the one before it, as the flags have it
abbrev pub are_one : Owners → ℕ → Bool
are_one o n = if get_or o.held.items n false || flag_before o.held.items n
    then get_or o.removed.items n false && (flag_before o.removed.items n && get_or o.reached.items n false)
    else get_or o.shared.items n false

-- whether a piece that is a token is joined to the one before it, as the flags have it
abbrev pub joint_with : Owners → PieceKind → Bool → ℕ → List Bool
joint_with o (Word kind id) plain token = (plain && are_one o token) ∷ []
joint_with o Blank plain token = []
joint_with o Comment plain token = []
joint_with o Line plain token = []
