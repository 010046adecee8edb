-- The positions at the tokens of patterns are declared.
use Rattle.std.proofs.Common.{◌≡◌, ℕ, suc, ◌==◌, Bool, true, false, ◌&&◌, ◌||◌, refl, sym, ap, ◌∙◌, true≢false, List, [], ◌∷◌}
use Rattle.std.proofs.Common.{◌++◌, length, map, Option, Some, None, if◌then◌else◌}
use Rattle.std.specs.List.{list_all}
use Rattle.std.specs.Str.{bytes_eq}
use Rattle.smpl_terms.specs.declared.var.Var.{Var as Variable}
use Rattle.smpl_terms.specs.Vars.{same_var}
use Rattle.smpl_terms.proofs.VarLaws.{same_var-refl}
use Rattle.smpl_patch.specs.declared.pattern.VarDecl.{VarDecl}
use Rattle.smpl_patch.specs.declared.pattern.VarKind.{VarKind}
use Rattle.smpl_patch.specs.declared.pattern.VarKind.TheVariants.{Meta, Position}
use Rattle.smpl_patch.specs.declared.pattern.PatToken.{PatToken}
use Rattle.smpl_patch.specs.Sound.{same_kind, declares}
use Rattle.smpl_lexer.specs.declared.token.PatchToken.{PatchToken}
use Rattle.smpl_lexer.specs.declared.text.BodyLine.{BodyLine}
use Rattle.smpl_lexer.specs.Tokens.{is_name, is_at}
use Rattle.smpl_meta.specs.declared.patterns.Placed.{Placed}
use Rattle.smpl_meta.specs.Known.{var_named}
use Rattle.smpl_meta.specs.Patterns.{made, position_of, declared_position, with_position, at_position, put, put_tokens, put_line, put_lines, pattern_tokens}
use Rattle.sound_laws.proofs.SmplSound.ExportLemmas.{both-true}

or-right : (a b : Bool) → b ≡ true → (a || b) ≡ true
or-right true b e = refl
or-right false b e = e

or-left : (a b : Bool) → a ≡ true → (a || b) ≡ true
or-left true b e = refl
or-left false b e = absurd (true≢false (sym e))

-- ---- a position that is found

position-is : (d : VarDecl) (k : VarKind) (v : Variable) → (elim k as (λ q. Option Variable) [ Meta m ↦ None | Position ↦ Some d.var ]) ≡ Some v
    → (d.var ≡ v) × (same_kind k Position ≡ true)
position-is d (Meta m) v e = absurd (cc)
position-is d Position v e = (cc, refl)

found-by : (d : VarDecl) (ds : List VarDecl) (name : List ℕ) (v : Variable) (b : Bool) → position_of (if b then Some d else var_named name ds) ≡ Some v
    → (position_of (var_named name ds) ≡ Some v → declares ds v Position ≡ true) → declares (d ∷ ds) v Position ≡ true
found-by d ds name v true e more =
    let q = position-is d d.kind v e in
    or-left (same_var d.var v && same_kind d.kind Position) (declares ds v Position)
    (both-true (same_var d.var v) (same_kind d.kind Position) (ap (λ (y : Variable). same_var y v) q.0 ∙ same_var-refl v) q.1)
found-by d ds name v false e more = or-right (same_var d.var v && same_kind d.kind Position) (declares ds v Position) (more e)

found : (ds : List VarDecl) (name : List ℕ) (v : Variable) → position_of (var_named name ds) ≡ Some v → declares ds v Position ≡ true
found [] name v e = absurd (cc)
found (d ∷ ds) name v e = found-by d ds name v (bytes_eq d.var.name name) e (found ds name v)

module _ (vars : List VarDecl) where
  abbrev AllAt : List Variable → Type 0
  AllAt xs = list_all (λ x. declares vars x Position) xs ≡ true

  abbrev pub AllPlaced : List Placed → Type 0
  AllPlaced [] = Unit {0}
  AllPlaced (p ∷ ps) = AllAt p.positions × AllPlaced ps

  behind-by : (t : PatchToken) (v : Variable) (b : Bool)
      → (if b then position_of (var_named t.token.text vars) else None) ≡ Some v → declares vars v Position ≡ true
  behind-by t v true e = found vars t.token.text v e
  behind-by t v false e = absurd (cc)

  behind : (t : PatchToken) (v : Variable) → declared_position vars t ≡ Some v → declares vars v Position ≡ true
  behind t v e = behind-by t v (is_name t) e

  at-by : (n : PatchToken) (v : Variable) (b : Bool) → (if b then declared_position vars n else None) ≡ Some v → declares vars v Position ≡ true
  at-by n v true e = behind n v e
  at-by n v false e = absurd (cc)

  at-declared : (out : List Placed) (t n : PatchToken) (v : Variable) → at_position vars out t n ≡ Some v → declares vars v Position ≡ true
  at-declared [] t n v e = absurd (cc)
  at-declared (p ∷ ps) t n v e = at-by n v (is_at t) e

  -- ---- one more position, one more token

  all-last : (xs : List Variable) (v : Variable) → AllAt xs → declares vars v Position ≡ true → AllAt (xs ++ v ∷ [])
  all-last [] v a d = both-true (declares vars v Position) true d refl
  all-last (x ∷ xs) v a d = by (declares vars x Position) refl a (λ r. all-last xs v r d)
    where
      by : (b : Bool) → declares vars x Position ≡ b → (b && list_all (λ y. declares vars y Position) xs) ≡ true → (AllAt xs → AllAt (xs ++ v ∷ []))
          → (declares vars x Position && list_all (λ y. declares vars y Position) (xs ++ v ∷ [])) ≡ true
      by true h a more = both-true (declares vars x Position) (list_all (λ y. declares vars y Position) (xs ++ v ∷ [])) h (more a)
      by false h a more = absurd (true≢false (sym a))

  with-placed : (v : Variable) (ps : List Placed) → declares vars v Position ≡ true → AllPlaced ps → AllPlaced (with_position v ps)
  with-placed v [] d a = tt
  with-placed v (p ∷ []) d a = (all-last p.positions v a.0 d, tt)
  with-placed v (p ∷ q ∷ ps) d a = (a.0, with-placed v (q ∷ ps) d a.1)

  placed-last : (ps : List Placed) (p : Placed) → AllPlaced ps → AllAt p.positions → AllPlaced (ps ++ p ∷ [])
  placed-last [] p a b = (b, tt)
  placed-last (q ∷ ps) p a b = (a.0, placed-last ps p a.1 b)

  put-placed : (sign line : ℕ) (out : List Placed) (t : PatchToken) → AllPlaced out → AllPlaced (put vars sign line out t)
  put-placed sign line out t a = placed-last out (record { token = made vars (length out) t; at = t.at; sign = sign; line = line; positions = [] }) a refl

  tokens-placed : (sign line : ℕ) (out : List Placed) (ts : List PatchToken) → AllPlaced out → AllPlaced (put_tokens vars sign line out ts)
  tokens-placed sign line out [] a = a
  tokens-placed sign line out (t ∷ []) a = put-placed sign line out t a
  tokens-placed sign line out (t ∷ n ∷ ts) a =
      by (at_position vars out t n) refl (λ v d. tokens-placed sign line (with_position v out) ts (with-placed v out d a))
      (tokens-placed sign line (put vars sign line out t) (n ∷ ts) (put-placed sign line out t a))
    where
      by : (o : Option Variable) → at_position vars out t n ≡ o
          → ((v : Variable) → declares vars v Position ≡ true → AllPlaced (put_tokens vars sign line (with_position v out) ts))
          → AllPlaced (put_tokens vars sign line (put vars sign line out t) (n ∷ ts))
          → AllPlaced (elim o as (λ q. List Placed) [
            | Some v ↦ put_tokens vars sign line (with_position v out) ts
            | None ↦
                put_tokens vars sign line (put vars sign line out t) (n ∷ ts)
          ])
      by None e two one = one
      by (Some v) e two one = two v (at-declared out t n v e)

  line-by : (sign line : ℕ) (out : List Placed) (ts : List PatchToken) (b : Bool) → AllPlaced out
      → AllPlaced (if b then out else put_tokens vars sign line out ts)
  line-by sign line out ts true a = a
  line-by sign line out ts false a = tokens-placed sign line out ts a

  lines-placed : (line : ℕ) (out : List Placed) (ls : List BodyLine) → AllPlaced out → AllPlaced (put_lines vars line out ls)
  lines-placed line out [] a = a
  lines-placed line out (l ∷ ls) a = lines-placed (suc line) (put_line vars line out l) ls (line-by l.sign line out l.tokens (l.sign == 43) a)

  -- ---- the tokens of a rule

  same-positions : (ts : List PatToken) (ps : List Placed) → map (λ (t : PatToken). t.positions) ts ≡ map (λ (p : Placed). p.positions) ps → AllPlaced ps
      → list_all (λ (t : PatToken). list_all (λ x. declares vars x Position) t.positions) ts ≡ true
  same-positions [] ps e a = refl
  same-positions (t ∷ ts) [] e a = absurd (cc)
  same-positions (t ∷ ts) (p ∷ ps) e a =
      let here : t.positions ≡ p.positions = cc in
      let there : map (λ (u : PatToken). u.positions) ts ≡ map (λ (q : Placed). q.positions) ps = cc in
      both-true (list_all (λ x. declares vars x Position) t.positions) (list_all (λ (u : PatToken). list_all (λ x. declares vars x Position) u.positions) ts)
      (ap (list_all (λ x. declares vars x Position)) here ∙ a.0) (same-positions ts ps there a.1)

  pub positions-declared : (ls : List BodyLine) (ts : List PatToken)
      → map (λ (t : PatToken). t.positions) ts ≡ map (λ (p : Placed). p.positions) (pattern_tokens vars ls)
      → list_all (λ (t : PatToken). list_all (λ x. declares vars x Position) t.positions) ts ≡ true
  positions-declared ls ts e = same-positions ts (pattern_tokens vars ls) e (lines-placed 0 [] ls tt)
