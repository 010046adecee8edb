-- A token that is joined to the one before it goes, and so does that one.
use Rattle.std.proofs.Common.{◌≡◌, ◌<◌, ◌+◌, ◌&&◌, ◌||◌}
use Rattle.std.proofs.Common.{ℕ, zero, suc, Bool, true, false, refl, sym, ap, ◌∙◌, arith, subst}
use Rattle.std.proofs.Common.{List, [], ◌∷◌, ◌++◌, length, get_or}
use Rattle.std.specs.Prelude.{if◌then◌else◌}
use Rattle.std.specs.List.{list_any}
use Rattle.c_lexer.specs.declared.piece.PieceKind.{PieceKind}
use Rattle.c_lexer.specs.declared.piece.PieceKind.TheVariants.{Word, Blank, Comment, Line}
use Rattle.c_lexer.specs.Pieces.{TextPiece}
use Rattle.c_lexer.specs.Lexes.{id_after}
use Rattle.edit_marks.specs.declared.edit_conflict.edit.Edit.{Edit}
use Rattle.edit_marks.specs.EditConflict.Clashes.{removes}
use Rattle.edit_unparse.specs.declared.tidy.flags.Extent.{Extent}
use Rattle.edit_unparse.specs.Output.{is_removed}
use Rattle.edit_unparse.specs.Tidy.Places.{are_gone, has_one_owner, is_joined, is_within, joint_of}
use Rattle.edit_unparse.specs.Tidy.Places.{joints, joints_from, plain_after}
use Rattle.edit_unparse.proofs.PlacementLemmas.{RunsGo}

-- which tokens are joined

second : (a b : Bool) → (a && b) ≡ true → b ≡ true
second true b e = e
second false b e = absurd cc

first : (a b : Bool) → (a && b) ≡ true → a ≡ true
first true b e = refl
first false b e = absurd cc

module _ (edits : List Edit) (gone : List Extent) where
  abbrev OwnerAt : ℕ → Type 0
  OwnerAt zero = ⊥
  OwnerAt (suc t) = has_one_owner edits gone t (suc t) ≡ true

  owner : (plain : Bool) (t : ℕ) → is_joined edits gone plain t ≡ true → OwnerAt t
  owner plain zero e = absurd cc
  owner plain (suc t) e = second plain (has_one_owner edits gone t (suc t)) e

  owners : (pieces : List TextPiece) (t : ℕ) (plain : Bool) (k : ℕ) → get_or (joints_from edits gone t plain pieces) k false ≡ true → OwnerAt (t + k)
  owners [] t plain k e = absurd cc
  owners (p ∷ pieces) t plain k e = by p.kind k (λ u q j f. owners pieces u q j f) e
    where
      by : (kind : PieceKind) (k : ℕ) → ((u : ℕ) (q : Bool) (j : ℕ) → get_or (joints_from edits gone u q pieces) j false ≡ true → OwnerAt (u + j))
          → get_or (joint_of kind edits gone plain t ++ joints_from edits gone (id_after kind t) (plain_after kind plain p.text) pieces) k false ≡ true
          → OwnerAt (t + k)
      by (Word kind id) zero more e = let same : t ≡ t + 0 = omega arith in subst OwnerAt same (owner plain t e)
      by (Word kind id) (suc k) more e = let same : t + 1 + k ≡ t + suc k = omega arith in subst OwnerAt same (more (t + 1) true k e)
      by Blank k more e = more t (plain_after Blank plain p.text) k e
      by Comment k more e = more t false k e
      by Line k more e = more t false k e

  any_both : (a b : ℕ) (es : List Edit) → list_any (λ e. removes a e && removes b e) es ≡ true → (is_removed a es ≡ true) × (is_removed b es ≡ true)
  any_both a b [] e = absurd cc
  any_both a b (x ∷ es) e = by (removes a x) (removes b x) (λ h. any_both a b es h) e
    where
      rest_second : (c : Bool) → is_removed b es ≡ true → (c || is_removed b es) ≡ true
      rest_second true h = refl
      rest_second false h = h

      by : (c d : Bool) → (list_any (λ y. removes a y && removes b y) es ≡ true → (is_removed a es ≡ true) × (is_removed b es ≡ true))
          → ((c && d) || list_any (λ y. removes a y && removes b y) es) ≡ true → ((c || is_removed a es) ≡ true) × ((d || is_removed b es) ≡ true)
      by true true more h = (refl, refl)
      by true false more h = (refl, (more h).1)
      by false d more h = ((more h).0, rest_second d (more h).1)

  pub both_go : (a b : ℕ) → has_one_owner edits gone a b ≡ true → (is_removed a edits ≡ true) × (is_removed b edits ≡ true)
  both_go a b e = by (list_any (λ x. is_within a x || is_within b x) gone) e
    where
      by : (c : Bool) → (if c then is_removed a edits && is_removed b edits && are_gone gone a b else list_any (λ y. removes a y && removes b y) edits) ≡ true
          → (is_removed a edits ≡ true) × (is_removed b edits ≡ true)
      by true h =
          let front = first (is_removed a edits && is_removed b edits) (are_gone gone a b) h in
          (first (is_removed a edits) (is_removed b edits) front, second (is_removed a edits) (is_removed b edits) front)
      by false h = any_both a b edits h

  none_past : (flags : List Bool) (m : ℕ) → get_or flags m false ≡ true → m < length flags
  none_past [] m e = absurd cc
  none_past (f ∷ flags) zero e = omega arith
  none_past (f ∷ flags) (suc m) e = let less = none_past flags m e in omega arith

  -- by flags of the tokens that go
  pub runs_go : (pieces : List TextPiece) (removed joined : List Bool) (count : ℕ) → joined ≡ joints edits gone pieces → length joined ≡ count
      → ((m : ℕ) → m < count → get_or removed m false ≡ is_removed m edits) → RunsGo removed joined
  runs_go pieces removed joined count are long flags =
      let at = λ (m : ℕ) (e : get_or joined m false ≡ true). owners pieces 0 true m (ap (λ (l : List Bool). get_or l m false) (sym are) ∙ e) in
      let within = λ (m : ℕ) (e : get_or joined m false ≡ true). none_past joined m e in
      record {
        some = λ m e. some_by m (at_zero m (at m e));
        own = λ m e. own_by m (at_zero m (at m e)) (within m e);
        before = λ m e. before_by m (at_zero (suc m) (at (suc m) e)) (within (suc m) e);
      }
    where
      at_zero : (m : ℕ) → OwnerAt (0 + m) → OwnerAt m
      at_zero m h = let same : 0 + m ≡ m = omega arith in subst OwnerAt same h

      some_by : (m : ℕ) → OwnerAt m → 0 < m
      some_by zero h = absurd h
      some_by (suc m) h = omega arith

      own_by : (m : ℕ) → OwnerAt m → m < length joined → get_or removed m false ≡ true
      own_by zero h less = absurd h
      own_by (suc m) h less = flags (suc m) (omega arith) ∙ (both_go m (suc m) h).1

      before_by : (m : ℕ) → OwnerAt (suc m) → suc m < length joined → get_or removed m false ≡ true
      before_by m h less = flags m (omega arith) ∙ (both_go m (suc m) h).0
