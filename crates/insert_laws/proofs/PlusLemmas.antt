-- Each metavariable of a block of plus code has a term, if the metavariables of the patch in the block have terms.
use Rattle.std.proofs.Common.{◌≡◌, ℕ, zero, suc, Bool, true, false, not, ◌&&◌, cond, refl, sym, ap, ◌∙◌, subst, ⊎_elim, List, [], ◌∷◌, Option, None}
use Rattle.std.proofs.Common.{Some, slice_get, if◌then◌else◌}
use Rattle.std.specs.Prelude.{All, option_and_then, nat_lt, length, slice_index, is_some, ◌-◌}
use Rattle.std.specs.List.{list_any, list_all}
use Rattle.std.specs.Str.{bytes_eq}
use Rattle.std.proofs.lemmas.Slice.Eq.{bytes_eq-Decides}
use Rattle.std.proofs.lemmas.List.Elements.{All-nil, All-cons, All-head, All-tail, All-append}
use Rattle.c_terms.specs.declared.token.Token.{Token}
use Rattle.c_terms.specs.declared.token.TokenKind.{TokenKind}
use Rattle.c_terms.specs.declared.token.TokenKind.TheVariants as token
use Rattle.c_terms.specs.declared.token.MetaKind.{MetaKind}
use Rattle.c_terms.specs.declared.tree.Tree.{Tree}
use Rattle.c_terms.specs.Same.{same_bytes}
use Rattle.c_terms.proofs.SameLaws.{bytes-refl}
use Rattle.smpl_terms.specs.declared.var.Var.{Var}
use Rattle.smpl_terms.specs.declared.value.Value.TheVariants.{Term}
use Rattle.smpl_terms.specs.Vars.{same_var}
use Rattle.smpl_terms.specs.Environments.{value_in}
use Rattle.smpl_terms.proofs.VarLaws.{same_var-refl}
use Rattle.smpl_patch.specs.declared.pattern.VarDecl.{VarDecl}
use Rattle.smpl_patch.specs.declared.pattern.VarKind.{VarKind}
use Rattle.smpl_patch.specs.declared.pattern.VarKind.TheVariants as var_kind
use Rattle.smpl_patch.specs.declared.pattern.PatToken.{PatToken}
use Rattle.smpl_patch.specs.declared.pattern.PlusLine.{PlusLine}
use Rattle.smpl_patch.specs.declared.pattern.PlusBlock.{PlusBlock}
use Rattle.smpl_patch.specs.Patterns.{is_position_kind, declared_as, is_var_of, is_meta_of, in_line, in_block, in_plus}
use Rattle.smpl_patch.specs.Sound.{same_kind, declares_name, is_plus_token, is_sound_line, is_sound_block, is_sound_token}
use Rattle.pattern_vars.specs.Reads.{is_declared}
use Rattle.ctl_fixpoint.proofs.CtlHolds.TestLemmas.{or_cases, or_left, or_right, and_left, and_right, and_both, not_both}
use Rattle.edit_marks.specs.Blocks.{Environment, is_meta, term_of, term}
use Rattle.edit_marks.specs.declared.removals.Aligned.{Aligned}
use Rattle.edit_marks.specs.declared.spot.PlusSpot.{PlusSpot}
use Rattle.edit_marks.specs.Spots.{token_spots, spots_of, all_spots}
use Rattle.edit_marks.specs.Edits.{side_block, block_of}
use Rattle.insert_laws.specs.Instantiated.{IsInstantiatedToken, AreInstantiatedTokens, AreInstantiatedLines, IsInstantiatedBlock}
use Rattle.insert_laws.proofs.KindLemmas.{is_meta_in}

-- ---- what a name is declared as

record IsFound (ds : List VarDecl) (name : List ℕ) : Type 0 where
  decl : VarDecl
  is : declared_as ds name ≡ Some decl
  declared : is_declared ds decl.var ≡ true
  meta : is_meta_in ds decl.var ≡ true

not_position : (k : VarKind) (m : MetaKind) → same_kind k (var_kind.Meta m) ≡ true → not (is_position_kind k) ≡ true
not_position (var_kind.Meta j) m h = refl
not_position var_kind.Position m h = not_both false h refl

same_name : (a b : List ℕ) → bytes_eq a b ≡ true → same_bytes a b ≡ true
same_name a b h = ap (same_bytes a) (sym ((bytes_eq-Decides a b).0 h)) ∙ bytes-refl a

later : (d : VarDecl) (ds : List VarDecl) (name : List ℕ) → IsFound ds name → (not (is_position_kind d.kind) && same_bytes d.var.name name) ≡ false
    → IsFound (d ∷ ds) name
later d ds name f e = record {
  decl = f.decl;
  is = ap (λ b. cond b (Some d) (declared_as ds name)) e ∙ f.is;
  declared = or_right (same_var d.var f.decl.var) (is_declared ds f.decl.var) f.declared;
  meta = or_right (same_var d.var f.decl.var && not (is_position_kind d.kind)) (is_meta_in ds f.decl.var) f.meta;
}

found : (ds : List VarDecl) (name : List ℕ) (m : MetaKind) → declares_name ds name m ≡ true → IsFound ds name
found [] name m h = not_both false h refl
found (d ∷ ds) name m h = by (not (is_position_kind d.kind) && same_bytes d.var.name name) refl (λ k. found ds name m k)
  where
    by : (b : Bool) → (not (is_position_kind d.kind) && same_bytes d.var.name name) ≡ b
        → (declares_name ds name m ≡ true → IsFound ds name) → IsFound (d ∷ ds) name
    by true e more = record {
      decl = d;
      is = ap (λ b. cond b (Some d) (declared_as ds name)) e;
      declared = or_left (same_var d.var d.var) (is_declared ds d.var) (same_var-refl d.var);
      meta = or_left (same_var d.var d.var && not (is_position_kind d.kind)) (is_meta_in ds d.var)
          (and_both (same_var d.var d.var) (not (is_position_kind d.kind)) (same_var-refl d.var)
          (and_left (not (is_position_kind d.kind)) (same_bytes d.var.name name) e));
    }
    by false e more =
        later d ds name
        (more (⊎_elim
        (λ a. not_both (not (is_position_kind d.kind) && same_bytes d.var.name name)
        (and_both (not (is_position_kind d.kind)) (same_bytes d.var.name name)
        (not_position d.kind m (and_right (bytes_eq d.var.name name) (same_kind d.kind (var_kind.Meta m)) a))
        (same_name d.var.name name (and_left (bytes_eq d.var.name name) (same_kind d.kind (var_kind.Meta m)) a))) e)
        (λ a. a)
        (or_cases (bytes_eq d.var.name name && same_kind d.kind (var_kind.Meta m)) (declares_name ds name m) h)))
        e

-- ---- blocks

module _ (vars : List VarDecl) (env : Environment) where
  -- each metavariable that is declared here and passes has a term
  abbrev pub GivesTerms : (Var → Bool) → Type 0
  GivesTerms test = (x : Var) → test x ≡ true → is_meta_in vars x ≡ true → is_declared vars x ≡ true → (u : Tree) × (value_in env x ≡ Some (Term u))

  named_term : (name : List ℕ) (f : IsFound vars name) (u : Tree) → value_in env f.decl.var ≡ Some (Term u) → term vars env name ≡ Some u
  named_term name f u e =
      ap (option_and_then (λ (d : VarDecl). option_and_then term_of (value_in env d.var))) f.is ∙ ap (option_and_then term_of) e

  meta_token : (m : MetaKind) (t : Token) → declares_name vars t.text m ≡ true → GivesTerms (λ x. is_var_of (declared_as vars t.text) x)
      → (u : Tree) × (term vars env t.text ≡ Some u)
  meta_token m t h has =
      let f = found vars t.text m h in
      let v = has f.decl.var (ap (λ o. is_var_of o f.decl.var) f.is ∙ same_var-refl f.decl.var) f.meta f.declared in
      (v.0, named_term t.text f v.0 v.1)

  by_kind : (k : TokenKind) (t : Token) → is_plus_token vars k t.text ≡ true → GivesTerms (λ x. is_meta_of vars t k x)
      → IsInstantiatedToken vars env (is_meta k) t
  by_kind (token.Meta m) t h has = meta_token m t h has
  by_kind token.Name t h has = tt
  by_kind token.Keyword t h has = tt
  by_kind token.Number t h has = tt
  by_kind token.Char t h has = tt
  by_kind token.Str t h has = tt
  by_kind token.Punct t h has = tt
  by_kind token.Stray t h has = tt
  by_kind token.Dots t h has = tt
  by_kind token.Pat t h has = tt

  tokens_instantiated : (ts : List Token) → list_all (λ t. is_plus_token vars t.kind t.text) ts ≡ true
      → GivesTerms (λ x. list_any (λ (t : Token). is_meta_of vars t t.kind x) ts) → AreInstantiatedTokens vars env ts
  tokens_instantiated [] h has = tt
  tokens_instantiated (t ∷ ts) h has = (
    by_kind t.kind t (and_left (is_plus_token vars t.kind t.text) (list_all (λ (t : Token). is_plus_token vars t.kind t.text) ts) h)
        (λ x m. has x (or_left (is_meta_of vars t t.kind x) (list_any (λ (t : Token). is_meta_of vars t t.kind x) ts) m)),
    tokens_instantiated ts (and_right (is_plus_token vars t.kind t.text) (list_all (λ (t : Token). is_plus_token vars t.kind t.text) ts) h)
        (λ x m. has x (or_right (is_meta_of vars t t.kind x) (list_any (λ (t : Token). is_meta_of vars t t.kind x) ts) m)),
  )

  lines_instantiated : (ls : List PlusLine) → list_all (is_sound_line vars) ls ≡ true → GivesTerms (λ x. list_any (in_line vars x) ls)
      → AreInstantiatedLines vars env ls
  lines_instantiated [] h has = tt
  lines_instantiated (l ∷ ls) h has = (
    tokens_instantiated l.tokens (and_left (list_all (λ (t : Token). is_plus_token vars t.kind t.text) l.tokens) _
        (and_left (is_sound_line vars l) (list_all (is_sound_line vars) ls) h))
        (λ x m. has x (or_left (in_line vars x l) (list_any (in_line vars x) ls) m)),
    lines_instantiated ls (and_right (is_sound_line vars l) (list_all (is_sound_line vars) ls) h)
        (λ x m. has x (or_right (in_line vars x l) (list_any (in_line vars x) ls) m)),
  )

  block_instantiated : (b : Option PlusBlock) → is_sound_block vars b ≡ true → GivesTerms (λ x. in_block vars x b) → IsInstantiatedBlock vars env b
  block_instantiated None h has = tt
  block_instantiated (Some b) h has = lines_instantiated b.lines h has

  -- ---- the blocks at spots

  side_instantiated : (after : Bool) (p : PatToken) → is_sound_token vars p ≡ true → GivesTerms (λ x. in_plus vars (Some p) x)
      → IsInstantiatedBlock vars env (side_block after p)
  side_instantiated true p h has =
      block_instantiated p.after
      (and_right (is_sound_block vars p.before) (is_sound_block vars p.after) (and_right _ (is_sound_block vars p.before && is_sound_block vars p.after) h))
      (λ x m. has x (or_right (in_block vars x p.before) (in_block vars x p.after) m))
  side_instantiated false p h has =
      block_instantiated p.before
      (and_left (is_sound_block vars p.before) (is_sound_block vars p.after) (and_right _ (is_sound_block vars p.before && is_sound_block vars p.after) h))
      (λ x m. has x (or_left (in_block vars x p.before) (in_block vars x p.after) m))

  module _ (tokens : List PatToken) (sound : list_all (is_sound_token vars) tokens ≡ true) where
    get_sound : (ts : List PatToken) (n : ℕ) (p : PatToken) → slice_get ts n ≡ Some p → list_all (is_sound_token vars) ts ≡ true → is_sound_token vars p ≡ true
    get_sound [] n p e a = absurd (cc)
    get_sound (t ∷ ts) zero p e a =
        let same : t ≡ p = cc in
        subst (λ (u : PatToken). is_sound_token vars u ≡ true) same (and_left (is_sound_token vars t) (list_all (is_sound_token vars) ts) a)
    get_sound (t ∷ ts) (suc n) p e a = get_sound ts n p e (and_right (is_sound_token vars t) (list_all (is_sound_token vars) ts) a)

    -- each metavariable in plus code at the token of this number has a term
    abbrev pub HasAt : ℕ → Type 0
    HasAt n = GivesTerms (λ x. in_plus vars (slice_get tokens n) x)

    spot_instantiated : (s : PlusSpot) → HasAt s.pattern → IsInstantiatedBlock vars env (block_of tokens s)
    spot_instantiated s has = by (slice_get tokens s.pattern) refl
      where
        by : (o : Option PatToken) → slice_get tokens s.pattern ≡ o → IsInstantiatedBlock vars env (option_and_then (side_block s.after) o)
        by None e = tt
        by (Some p) e =
            side_instantiated s.after p (get_sound tokens s.pattern p e sound)
            (λ x m. has x (ap (λ o. in_plus vars o x) e ∙ m))

    abbrev IsShown : PlusSpot → Type 0
    IsShown s = IsInstantiatedBlock vars env (block_of tokens s)

    if_shown : (b : Bool) (s : PlusSpot) → IsShown s → All IsShown (if b then s ∷ [] else [])
    if_shown true s h = All-cons IsShown s [] h (All-nil IsShown)
    if_shown false s h = All-nil IsShown

    token_shown : (t : PatToken) (q : Aligned) → HasAt q.pattern → All IsShown (token_spots t q)
    token_shown t q has =
        let first : PlusSpot = record { token = slice_index q.files 0; after = false; pattern = q.pattern } in
        let last : PlusSpot = record { token = slice_index q.files (length q.files - 1); after = true; pattern = q.pattern } in
        All-append IsShown (if is_some t.before && nat_lt 0 (length q.files) then first ∷ [] else [])
        (if is_some t.after && nat_lt 0 (length q.files) then last ∷ [] else [])
        (if_shown (is_some t.before && nat_lt 0 (length q.files)) first (spot_instantiated first has))
        (if_shown (is_some t.after && nat_lt 0 (length q.files)) last (spot_instantiated last has))

    spots_shown : (o : Option PatToken) (q : Aligned) → HasAt q.pattern → All IsShown (spots_of o q)
    spots_shown None q has = All-nil IsShown
    spots_shown (Some t) q has = token_shown t q has

    pub all_shown : (qs : List Aligned) → All (λ (q : Aligned). HasAt q.pattern) qs → All IsShown (all_spots tokens qs)
    all_shown [] h = All-nil IsShown
    all_shown (q ∷ qs) h =
        All-append IsShown (spots_of (slice_get tokens q.pattern) q) (all_spots tokens qs)
        (spots_shown (slice_get tokens q.pattern) q (All-head (λ (q : Aligned). HasAt q.pattern) q qs h))
        (all_shown qs (All-tail (λ (q : Aligned). HasAt q.pattern) q qs h))
