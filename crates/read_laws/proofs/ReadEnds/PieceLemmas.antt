-- Every text is cut: as C text, like plus code and isomorphisms, and as lines of patches, which contain signs.
use Rattle.std.proofs.Common.{◌≡◌, ◌<◌, ◌≤◌, ◌||◌, ℕ, zero, suc, Bool, true, false, Option, Some, None, IsSomeAnd, List}
use Rattle.std.proofs.Common.{[], ◌∷◌, ◌++◌, length, take, drop, inl, inr, refl, sym, ap, ◌∙◌, subst, arith, codes}
use Rattle.std.proofs.Common.{if◌then◌else◌, length-append, length-take, take-append-drop}
use Rattle.std.proofs.lemmas.Bool.{or_cases}
use Rattle.std.proofs.lemmas.Slice.Eq.{bytes_eq-Decides}
use Rattle.c_lexer.specs.declared.state.Kind.{Kind}
use Rattle.c_lexer.specs.First.{IsFirst}
use Rattle.c_lexer.specs.Pieces.{TextPiece, text_of}
use Rattle.c_lexer.specs.Lexes.{Cuts, Lexes}
use Rattle.smpl_lexer.specs.declared.piece.LineKind.{LineKind}
use Rattle.smpl_lexer.specs.declared.piece.LineKind.TheVariants as line
use Rattle.smpl_lexer.specs.Pieces as lines
use Rattle.smpl_lexer.proofs.Once.{none_empty}
use Rattle.smpl_plus.specs.Blocks as plus
use Rattle.iso_file.specs.Lines as isos

abbrev pub CutLaw : Type 0
CutLaw = (bytes : List ℕ) → (pieces : List TextPiece) × Lexes bytes pieces

-- ---- the first piece

record First (bytes : List ℕ) : Type 0 where
  kind : Kind
  text : List ℕ
  rest : List ℕ
  joins : text ++ rest ≡ bytes
  is : IsFirst kind text rest

some_kind : (P : Kind → Type 0) (o : Option Kind) → IsSomeAnd o P → (k : Kind) × P k
some_kind P None h = absurd h
some_kind P (Some k) h = (k, h)

first_by : (b : ℕ) (bs : List ℕ) (ps : List TextPiece) → text_of ps ≡ b ∷ bs → Cuts ps → First (b ∷ bs)
first_by b bs [] e cuts = absurd cc
first_by b bs (p ∷ ps) e cuts =
    let k = some_kind (λ (kind : Kind). IsFirst kind p.text (text_of ps)) _ cuts.0 in
    record { kind = k.0; text = p.text; rest = text_of ps; joins = e; is = k.1 }

not_empty : (k : Kind) (text rest : List ℕ) → IsFirst k text rest → 0 < length text
not_empty k [] rest is = absurd (none_empty k rest is)
not_empty k (b ∷ bs) rest is = omega arith

-- what is left is shorter
left_shorter : (text rest bytes : List ℕ) → text ++ rest ≡ bytes → 0 < length text → length rest < length bytes
left_shorter text rest bytes e some =
    let long : length (text ++ rest) ≡ length bytes = ap length e in
    omega (arith, some, long, length-append text rest)

module _ (law : CutLaw) where
  first : (b : ℕ) (bs : List ℕ) → First (b ∷ bs)
  first b bs = let cut = law (b ∷ bs) in first_by b bs cut.0 cut.1.0 cut.1.1.0

  -- ---- plus code

  pub record PlusCut (bytes : List ℕ) : Type 0 where
    pub pieces : List plus.Piece
    pub joins : plus.joined pieces ≡ bytes
    pub cut : plus.Cut pieces

  plus_by : (fuel : ℕ) (bytes : List ℕ) → length bytes ≤ fuel → PlusCut bytes
  plus_by fuel [] enough = record { pieces = []; joins = refl; cut = tt }
  plus_by zero (b ∷ bs) enough = absurd (omega (arith, enough))
  plus_by (suc fuel) (b ∷ bs) enough =
      let one = first b bs in
      let shorter : length one.rest < length (b ∷ bs) = left_shorter one.text one.rest (b ∷ bs) one.joins (not_empty one.kind one.text one.rest one.is) in
      let more = plus_by fuel one.rest (omega (arith, shorter, enough)) in
      let piece : plus.Piece = record { kind = one.kind; text = one.text } in
      record {
        pieces = piece ∷ more.pieces;
        joins = ap (λ (l : List ℕ). one.text ++ l) more.joins ∙ one.joins;
        cut = (subst (λ (l : List ℕ). IsFirst one.kind one.text l) (sym more.joins) one.is, more.cut);
      }

  pub plus_cut : (bytes : List ℕ) → PlusCut bytes
  plus_cut bytes = plus_by (length bytes) bytes (omega arith)

  -- ---- isomorphisms

  pub record IsoCut (bytes : List ℕ) : Type 0 where
    pub pieces : List isos.Piece
    pub joins : isos.joined pieces ≡ bytes
    pub cut : isos.Cut pieces

  iso_by : (fuel : ℕ) (bytes : List ℕ) → length bytes ≤ fuel → IsoCut bytes
  iso_by fuel [] enough = record { pieces = []; joins = refl; cut = tt }
  iso_by zero (b ∷ bs) enough = absurd (omega (arith, enough))
  iso_by (suc fuel) (b ∷ bs) enough =
      let one = first b bs in
      let shorter : length one.rest < length (b ∷ bs) = left_shorter one.text one.rest (b ∷ bs) one.joins (not_empty one.kind one.text one.rest one.is) in
      let more = iso_by fuel one.rest (omega (arith, shorter, enough)) in
      let piece : isos.Piece = record { kind = one.kind; text = one.text } in
      record {
        pieces = piece ∷ more.pieces;
        joins = ap (λ (l : List ℕ). one.text ++ l) more.joins ∙ one.joins;
        cut = (subst (λ (l : List ℕ). IsFirst one.kind one.text l) (sym more.joins) one.is, more.cut);
      }

  pub iso_cut : (bytes : List ℕ) → IsoCut bytes
  iso_cut bytes = iso_by (length bytes) bytes (omega arith)

-- ---- lines of patches

-- bytes that begin with a text are as long as it
begins_long : (text bytes : List ℕ) → lines.begins text bytes ≡ true → length text ≤ length bytes
begins_long text bytes e =
    let same : take (length text) bytes ≡ text = (bytes_eq-Decides (take (length text) bytes) text).0 e in
    let long : length (take (length text) bytes) ≡ length text = ap length same in
    omega (arith, long, length-take (length text) bytes)

either_long : (n : ℕ) (one other bytes : List ℕ) → length one ≡ n → length other ≡ n
    → (lines.begins one bytes || lines.begins other bytes) ≡ true → n ≤ length bytes
either_long n one other bytes a b e = elim (or_cases (lines.begins one bytes) (lines.begins other bytes) e) [
  | inl f ↦ omega (arith, a, begins_long one bytes f)
  | inr f ↦ omega (arith, b, begins_long other bytes f)
]

branch_long : (bytes : List ℕ) → lines.begins_branch bytes ≡ true → 2 ≤ length bytes
branch_long bytes e =
    let long : (text : List ℕ) → length text ≡ 2 → lines.begins text bytes ≡ true → 2 ≤ length bytes =
    λ text two f. omega (arith, two, begins_long text bytes f) in
    elim (or_cases (lines.begins (92 ∷ codes "(") bytes || lines.begins (92 ∷ codes "|") bytes || lines.begins (92 ∷ codes "&") bytes)
    (lines.begins (92 ∷ codes ")") bytes) e) [
      | inr f ↦ long (92 ∷ codes ")") refl f
      | inl f ↦ elim (or_cases (lines.begins (92 ∷ codes "(") bytes || lines.begins (92 ∷ codes "|") bytes) (lines.begins (92 ∷ codes "&") bytes) f) [
        | inr g ↦ long (92 ∷ codes "&") refl g
        | inl g ↦ either_long 2 (92 ∷ codes "(") (92 ∷ codes "|") bytes refl refl g
      ]
    ]

branch_by : (b : Bool) (bytes : List ℕ) → lines.begins_branch bytes ≡ b → (if b then 2 else 0) ≤ length bytes
branch_by true bytes e = branch_long bytes e
branch_by false bytes e = omega arith

sign_long : (bytes : List ℕ) → lines.sign_length bytes ≤ length bytes
sign_long bytes = five (lines.begins (codes "...+>") bytes || lines.begins (codes "<+...") bytes) refl
  where
    three : (b : Bool) → lines.begins (codes "...") bytes ≡ b → (if b then 3 else (if lines.begins_branch bytes then 2 else 0)) ≤ length bytes
    three true e = begins_long (codes "...") bytes e
    three false e = branch_by (lines.begins_branch bytes) bytes refl

    four : (b : Bool) → (lines.begins (codes "...>") bytes || lines.begins (codes "<...") bytes) ≡ b
        → (if b then 4 else (if lines.begins (codes "...") bytes then 3 else (if lines.begins_branch bytes then 2 else 0))) ≤ length bytes
    four true e = either_long 4 (codes "...>") (codes "<...") bytes refl refl e
    four false e = three (lines.begins (codes "...") bytes) refl

    five : (b : Bool) → (lines.begins (codes "...+>") bytes || lines.begins (codes "<+...") bytes) ≡ b
        → (if b then 5 else (if lines.begins (codes "...>") bytes || lines.begins (codes "<...") bytes then 4
        else (if lines.begins (codes "...") bytes then 3 else (if lines.begins_branch bytes then 2 else 0)))) ≤ length bytes
    five true e = either_long 5 (codes "...+>") (codes "<+...") bytes refl refl e
    five false e = four (lines.begins (codes "...>") bytes || lines.begins (codes "<...") bytes) refl

sign_within : (signs : Bool) (bytes : List ℕ) → lines.sign_at signs bytes ≤ length bytes
sign_within true bytes = sign_long bytes
sign_within false bytes = omega arith

record FirstLine (signs : Bool) (bytes : List ℕ) : Type 0 where
  kind : LineKind
  text : List ℕ
  rest : List ℕ
  joins : text ++ rest ≡ bytes
  is : lines.IsFirstBy (lines.sign_at signs bytes) kind text rest
  some : 0 < length text

module _ (law : CutLaw) where
  line_by : (signs : Bool) (b : ℕ) (bs : List ℕ) (n : ℕ) → lines.sign_at signs (b ∷ bs) ≡ n → FirstLine signs (b ∷ bs)
  line_by signs b bs zero e =
      let one = first law b bs in
      record {
        kind = line.Plain one.kind;
        text = one.text;
        rest = one.rest;
        joins = one.joins;
        is = subst (λ (k : ℕ). lines.IsFirstBy k (line.Plain one.kind) one.text one.rest) (sym e) one.is;
        some = not_empty one.kind one.text one.rest one.is;
      }
  line_by signs b bs (suc n) e =
      let bytes : List ℕ = b ∷ bs in
      let long : suc n ≤ length bytes = subst (λ (k : ℕ). k ≤ length bytes) e (sign_within signs bytes) in
      let whole : length (take (suc n) bytes) ≡ suc n = omega (arith, long, length-take (suc n) bytes) in
      record {
        kind = lines.sign_kind (suc n);
        text = take (suc n) bytes;
        rest = drop (suc n) bytes;
        joins = take-append-drop (suc n) bytes;
        is = subst (λ (k : ℕ). lines.IsFirstBy k (lines.sign_kind (suc n)) (take (suc n) bytes) (drop (suc n) bytes)) (sym e) (refl, whole);
        some = omega (arith, whole);
      }

  pub record LineCut (signs : Bool) (bytes : List ℕ) : Type 0 where
    pub pieces : List lines.LinePiece
    pub joins : lines.joined pieces ≡ bytes
    pub cut : lines.Cut signs pieces

  pieces_by : (signs : Bool) (fuel : ℕ) (bytes : List ℕ) → length bytes ≤ fuel → LineCut signs bytes
  pieces_by signs fuel [] enough = record { pieces = []; joins = refl; cut = tt }
  pieces_by signs zero (b ∷ bs) enough = absurd (omega (arith, enough))
  pieces_by signs (suc fuel) (b ∷ bs) enough =
      let one = line_by signs b bs (lines.sign_at signs (b ∷ bs)) refl in
      let shorter : length one.rest < length (b ∷ bs) = left_shorter one.text one.rest (b ∷ bs) one.joins one.some in
      let more = pieces_by signs fuel one.rest (omega (arith, shorter, enough)) in
      let piece : lines.LinePiece = record { kind = one.kind; text = one.text } in
      let here : lines.IsFirstPiece signs one.kind one.text one.rest =
      subst (λ (l : List ℕ). lines.IsFirstBy (lines.sign_at signs l) one.kind one.text one.rest) (sym one.joins) one.is in
      record {
        pieces = piece ∷ more.pieces;
        joins = ap (λ (l : List ℕ). one.text ++ l) more.joins ∙ one.joins;
        cut = (subst (λ (l : List ℕ). lines.IsFirstPiece signs one.kind one.text l) (sym more.joins) here, more.cut);
      }

  pub line_cut : (signs : Bool) (bytes : List ℕ) → LineCut signs bytes
  line_cut signs bytes = pieces_by signs (length bytes) bytes (omega arith)
