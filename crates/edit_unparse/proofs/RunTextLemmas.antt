-- The texts of runs of pieces: what is written of them.
use Rattle.std.proofs.Common.{◌≡◌, ◌<◌, ◌≤◌, ◌+◌, ◌-◌, ◌&&◌, ℕ, zero, suc, Bool, true, false, not, refl, sym, ap, ◌∙◌, arith}
use Rattle.std.proofs.Common.{List, [], ◌∷◌, ◌++◌, append_assoc, length, length-append, take, drop, subst}
use Rattle.std.specs.Prelude.{Option, Some, None, slice_get, if◌then◌else◌}
use Rattle.std.proofs.lemmas.List.{append-nil, take-append-drop}
use Rattle.std.proofs.Math.Seq.{take-append_seam, drop-append_seam}
use Rattle.std.proofs.lemmas.Bool.Decides.{Decides-eqb}
use Rattle.c_lexer.specs.declared.piece.PieceKind.{PieceKind}
use Rattle.c_lexer.specs.Pieces.{TextPiece, text_of, most_bytes}
use Rattle.c_lexer.specs.Ids.{ids_of}
use Rattle.edit_marks.specs.declared.edit_conflict.edit.Edit.{Edit}
use Rattle.edit_unparse.specs.declared.draft.Draft.{Draft}
use Rattle.edit_unparse.specs.declared.draft.Place.{Place}
use Rattle.edit_unparse.specs.Output.{Part, Left, left_of, is_word, space, gap, needs_space, were_beside, spaced, old_part}
use Rattle.edit_unparse.specs.Output.{placed}
use Rattle.edit_unparse.specs.Written.{left, Writes, Overflows}
use Rattle.edit_unparse.specs.Runs.{run_of, old_parts, Untouched, Passes, SameButIds}
use Rattle.edit_unparse.proofs.WrittenLemmas.{text_of-append, ids_of-append, gap_ids, overflows_more}
use Rattle.edit_unparse.proofs.RunLemmas.{run_more, run_none, run_length, get_drop, get_there}

-- pieces after their old neighbour need no space

no_gap : (p : TextPiece) (n : ℕ) (text : List ℕ) → gap (Some (left_of (old_part n p))) (Some (n + 1)) text ≡ []
no_gap p n text =
    let beside : were_beside (Some n) (Some (n + 1)) ≡ true = (Decides-eqb (n + 1) (n + 1)).1 refl in
    elim (is_word p.kind) as (λ b. gap (Some (record { from = Some n; is_word = b; text = p.text })) (Some (n + 1)) text ≡ []) [
      | true ↦ ap (λ b. if (not b && Rattle.c_show.specs.Joint.runs_together p.text text) then Rattle.edit_unparse.specs.Output.space ∷ [] else []) beside
      | false ↦ refl
    ]

-- the last piece of a run, as what is to the left of what comes next
abbrev pub end_of : ℕ → TextPiece → List TextPiece → Left
end_of n p [] = left_of (old_part n p)
end_of n p (q ∷ ps) = end_of (n + 1) q ps

spaced_run : (n next : ℕ) (p : TextPiece) (ps : List TextPiece) (more : List Part)
    → spaced (Some (left_of (old_part n p))) next (old_parts (n + 1) ps ++ more) ≡ ps ++ spaced (Some (end_of n p ps)) next more
spaced_run n next p [] more = refl
spaced_run n next p (q ∷ ps) more =
    ap (λ (g : List TextPiece). g ++ q ∷ spaced (Some (left_of (old_part (n + 1) q))) next (old_parts (n + 1 + 1) ps ++ more)) (no_gap p n q.text)
    ∙ ap (λ (l : List TextPiece). q ∷ l) (spaced_run (n + 1) next q ps more)

end_is : (n : ℕ) (p : TextPiece) (ps : List TextPiece) (last : TextPiece) → slice_get (p ∷ ps) (length ps) ≡ Some last
    → end_of n p ps ≡ left_of (old_part (n + length ps) last)
end_is n p [] last at = let same : p ≡ last = cc in let e : n ≡ n + 0 = omega arith in λ i. left_of (old_part (e i) (same i))
end_is n p (q ∷ ps) last at = let e : n + 1 + length ps ≡ n + length (q ∷ ps) = omega arith in
    end_is (n + 1) q ps last at ∙ ap (λ (m : ℕ). left_of (old_part m last)) e

-- a run of pieces was written
run_writes : (old new : Draft) (n : ℕ) (p last : TextPiece) (ps : List TextPiece)
    → slice_get (p ∷ ps) (length ps) ≡ Some last
    → new.bytes.items ≡ old.bytes.items ++ (text_of (gap (left old) (Some n) p.text) ++ text_of (p ∷ ps))
    → left new ≡ Some (left_of (old_part (n + length ps) last)) → new.next ≡ old.next
    → new.ids.items ≡ old.ids.items ++ ids_of (p ∷ ps) → Writes old new (old_parts n (p ∷ ps))
run_writes old new n p last ps at bytes end next ids =
    let g = gap (left old) (Some n) p.text in
    let rest = λ (more : List Part). spaced (left new) new.next more in
    let all = λ (more : List Part). spaced (left old) old.next (old_parts n (p ∷ ps) ++ more) in
    let same : (more : List Part) → all more ≡ g ++ ((p ∷ ps) ++ rest more) = λ more.
    ap (λ (l : List TextPiece). g ++ p ∷ l) (spaced_run n old.next p ps more)
    ∙ (λ i. g ++ (p ∷ (ps ++ spaced ((ap (λ (l : Left). Some l) (end_is n p ps last at) ∙ sym end) i) (sym next i) more))) in
    record {
      bytes = λ more.
          ap (λ (l : List ℕ). l ++ text_of (rest more)) bytes
          ∙ append_assoc old.bytes.items (text_of g ++ text_of (p ∷ ps)) (text_of (rest more))
          ∙ ap (λ (l : List ℕ). old.bytes.items ++ l)
          (append_assoc (text_of g) (text_of (p ∷ ps)) (text_of (rest more))
          ∙ ap (λ (l : List ℕ). text_of g ++ l) (sym (text_of-append (p ∷ ps) (rest more)))
          ∙ sym (text_of-append g ((p ∷ ps) ++ rest more)) ∙ ap text_of (sym (same more)));
      ids = λ more.
          ap (λ (l : List ℕ). l ++ ids_of (rest more)) ids
          ∙ append_assoc old.ids.items (ids_of (p ∷ ps)) (ids_of (rest more))
          ∙ ap (λ (l : List ℕ). old.ids.items ++ l)
          (sym (ids_of-append (p ∷ ps) (rest more))
          ∙ ap (λ (l : List ℕ). l ++ ids_of ((p ∷ ps) ++ rest more)) (sym (gap_ids (left old) (Some n) p.text))
          ∙ sym (ids_of-append g ((p ∷ ps) ++ rest more)) ∙ ap ids_of (sym (same more)));
    }

-- the same for the pieces from one number up to another

non_empty : (xs : List TextPiece) (n : ℕ) → length xs ≡ suc n → (p : TextPiece) × ((ps : List TextPiece) × ((xs ≡ p ∷ ps) × (length ps ≡ n)))
non_empty [] n e = absurd cc
non_empty (p ∷ ps) n e = (p, (ps, (refl, omega (arith, e))))

get_take : (n i : ℕ) (ps : List TextPiece) → i < n → slice_get (take n ps) i ≡ slice_get ps i
get_take zero i ps less = absurd (omega arith)
get_take (suc n) i [] less = refl
get_take (suc n) zero (q ∷ ps) less = refl
get_take (suc n) (suc i) (q ∷ ps) less = get_take n i ps (omega (arith, less))

get_run : (pieces : List TextPiece) (a b i : ℕ) → i < b - a → slice_get (run_of pieces a b) i ≡ slice_get pieces (a + i)
get_run pieces a b i less = get_take (b - a) i (drop a pieces) less ∙ get_drop a i pieces

module _ (pieces : List TextPiece) (old mid new : Draft) (a b : ℕ) (less : a < b) (within : b ≤ length pieces) (same : SameButIds old mid)
    (ids : mid.ids.items ≡ old.ids.items ++ ids_of (run_of pieces a b)) where
  first : (p : TextPiece) × (slice_get pieces a ≡ Some p)
  first = get_there pieces a (omega (arith, less, within))

  last : (p : TextPiece) × (slice_get pieces (b - 1) ≡ Some p)
  last = get_there pieces (b - 1) (omega (arith, less, within))

  parts : (p : TextPiece) × ((ps : List TextPiece) × ((run_of pieces a b ≡ p ∷ ps) × (length ps ≡ b - a - 1)))
  parts = non_empty (run_of pieces a b) (b - a - 1) (omega (arith, run_length pieces a b (omega (arith, less)) within, less))

  first_is : first.0 ≡ parts.0
  first_is =
      let at : slice_get (run_of pieces a b) 0 ≡ slice_get pieces (a + 0) = get_run pieces a b 0 (omega (arith, less)) in
      let here : a + 0 ≡ a = omega arith in
      let both : Some parts.0 ≡ Some first.0 = sym (ap (λ (l : List TextPiece). slice_get l 0) parts.1.1.0) ∙ at ∙ ap (slice_get pieces) here ∙ first.1 in
      let same : parts.0 ≡ first.0 = cc in sym same

  last_at : slice_get (parts.0 ∷ parts.1.0) (length parts.1.0) ≡ Some last.0
  last_at =
      let at : slice_get (run_of pieces a b) (length parts.1.0) ≡ slice_get pieces (a + length parts.1.0) =
      get_run pieces a b (length parts.1.0) (omega (arith, less, parts.1.1.1)) in
      let here : a + length parts.1.0 ≡ b - 1 = omega (arith, less, parts.1.1.1) in
      sym (ap (λ (l : List TextPiece). slice_get l (length parts.1.0)) parts.1.1.0) ∙ at ∙ ap (slice_get pieces) here ∙ last.1

  pub pieces_written : ((p : TextPiece) → slice_get pieces a ≡ Some p
      → new.bytes.items ≡ mid.bytes.items ++ (text_of (gap (left mid) (Some a) p.text) ++ text_of (run_of pieces a b)))
      → ((p : TextPiece) → slice_get pieces (b - 1) ≡ Some p → left new ≡ Some (left_of (old_part (b - 1) p)))
      → (new.ids.items ≡ mid.ids.items) × (new.next ≡ mid.next) → Writes old new (old_parts a (run_of pieces a b))
  pieces_written bytes end others =
      let there : b - 1 ≡ a + length parts.1.0 = omega (arith, less, parts.1.1.1) in
      subst (λ (l : List TextPiece). Writes old new (old_parts a l)) (sym parts.1.1.0)
      (run_writes old new a parts.0 last.0 parts.1.0 last_at
      (bytes first.0 first.1 ∙ (λ i. same.bytes i ++ (text_of (gap (same.left i) (Some a) (first_is i).text) ++ text_of (parts.1.1.0 i))))
      (end last.0 last.1 ∙ ap (λ (m : ℕ). Some (left_of (old_part m last.0))) there)
      (others.1 ∙ same.next)
      (others.0 ∙ ids ∙ ap (λ (l : List TextPiece). old.ids.items ++ ids_of l) parts.1.1.0))

  -- a text that is already too long stays too long, whatever comes
  longer : (xs ys zs : List ℕ) → most_bytes < length (xs ++ ys) → most_bytes < length (xs ++ (ys ++ zs))
  longer xs ys zs h = omega (arith, h, length-append xs ys, length-append xs (ys ++ zs), length-append ys zs)

  pub pieces_overflow : ((p : TextPiece) → slice_get pieces a ≡ Some p
      → most_bytes < length (mid.bytes.items ++ (text_of (gap (left mid) (Some a) p.text) ++ text_of (run_of pieces a b))))
      → Overflows old (old_parts a (run_of pieces a b))
  pieces_overflow over =
      let p = parts.0 in
      let ps = parts.1.0 in
      let g = gap (left old) (Some a) p.text in
      let there : most_bytes < length (old.bytes.items ++ (text_of g ++ text_of (p ∷ ps))) =
      subst (λ (l : List ℕ). most_bytes < length l)
      (λ i. same.bytes i ++ (text_of (gap (same.left i) (Some a) (first_is i).text) ++ text_of (parts.1.1.0 i))) (over first.0 first.1) in
      subst (λ (l : List TextPiece). Overflows old (old_parts a l)) (sym parts.1.1.0) (record {
        over = λ more.
            let rest = spaced (Some (end_of a p ps)) old.next more in
            let all : text_of (spaced (left old) old.next (old_parts a (p ∷ ps) ++ more)) ≡ (text_of g ++ text_of (p ∷ ps)) ++ text_of rest =
            ap (λ (l : List TextPiece). text_of (g ++ p ∷ l)) (spaced_run a old.next p ps more)
            ∙ text_of-append g ((p ∷ ps) ++ rest) ∙ ap (λ (l : List ℕ). text_of g ++ l) (text_of-append (p ∷ ps) rest)
            ∙ sym (append_assoc (text_of g) (text_of (p ∷ ps)) (text_of rest)) in
            subst (λ (l : List ℕ). most_bytes < length (old.bytes.items ++ l)) (sym all)
            (longer old.bytes.items (text_of g ++ text_of (p ∷ ps)) (text_of rest) there);
      })

-- no piece was written
pub none_written : (pieces : List TextPiece) (old new : Draft) (a b : ℕ) → b ≡ a → SameButIds old new
    → new.ids.items ≡ old.ids.items ++ ids_of (run_of pieces a b) → Writes old new (old_parts a (run_of pieces a b))
none_written pieces old new a b e same ids =
    let none : run_of pieces a b ≡ [] = ap (run_of pieces a) e ∙ run_none pieces a in
    let no_ids : new.ids.items ≡ old.ids.items = ids ∙ ap (λ (l : List TextPiece). old.ids.items ++ ids_of l) none ∙ append-nil old.ids.items in
    subst (λ (l : List TextPiece). Writes old new (old_parts a l)) (sym none) (record {
      bytes = λ more i. same.bytes i ++ text_of (spaced (same.left i) (same.next i) more);
      ids = λ more i. no_ids i ++ ids_of (spaced (same.left i) (same.next i) more);
    })

-- texts as spans

take_nil : (n : ℕ) → take n (let none : List TextPiece = [] in none) ≡ []
take_nil zero = refl
take_nil (suc n) = refl

take_split : (a b : ℕ) (ps : List TextPiece) → a ≤ b → take b ps ≡ take a ps ++ take (b - a) (drop a ps)
take_split zero b ps le = let e : b ≡ b - 0 = omega arith in ap (λ (n : ℕ). take n ps) e
take_split (suc a) zero ps le = absurd (omega (arith, le))
take_split (suc a) (suc b) [] le = sym (take_nil (suc b - suc a))
take_split (suc a) (suc b) (q ∷ ps) le =
    let e : b - a ≡ suc b - suc a = omega arith in
    ap (λ (l : List TextPiece). q ∷ l) (take_split a b ps (omega (arith, le)) ∙ ap (λ (n : ℕ). take a ps ++ take n (drop a ps)) e)

span_length : (pieces : List TextPiece) (a b : ℕ) → a ≤ b
    → length (text_of (take b pieces)) - length (text_of (take a pieces)) ≡ length (text_of (run_of pieces a b))
span_length pieces a b le =
    let both : length (text_of (take b pieces)) ≡ length (text_of (take a pieces) ++ text_of (run_of pieces a b)) =
    ap (λ (l : List TextPiece). length (text_of l)) (take_split a b pieces le) ∙ ap length (text_of-append (take a pieces) (run_of pieces a b)) in
    omega (arith, both, length-append (text_of (take a pieces)) (text_of (run_of pieces a b)))

pub span_text : (pieces : List TextPiece) (a b : ℕ) → a ≤ b
    → take (length (text_of (take b pieces)) - length (text_of (take a pieces)))
    (drop (length (text_of (take a pieces))) (text_of pieces)) ≡ text_of (run_of pieces a b)
span_text pieces a b le =
    let r = run_of pieces a b in
    let rest = drop (b - a) (drop a pieces) in
    let whole : text_of pieces ≡ text_of (take a pieces) ++ (text_of r ++ text_of rest) =
    ap text_of (sym (take-append-drop a pieces)) ∙ text_of-append (take a pieces) (drop a pieces)
    ∙ ap (λ (l : List ℕ). text_of (take a pieces) ++ l) (ap text_of (sym (take-append-drop (b - a) (drop a pieces))) ∙ text_of-append r rest) in
    (λ i. take (span_length pieces a b le i) (drop (length (text_of (take a pieces))) (whole i)))
    ∙ ap (take (length (text_of r))) (drop-append_seam (text_of (take a pieces)) (text_of r ++ text_of rest))
    ∙ take-append_seam (text_of r) (text_of rest)

-- the last text of a run comes after the texts before it
pub end_text : (pieces : List TextPiece) (xs : List ℕ) (a b : ℕ) (p : TextPiece) → a < b → slice_get pieces (b - 1) ≡ Some p
    → drop (length xs + (length (text_of (take (b - 1) pieces)) - length (text_of (take a pieces)))) (xs ++ text_of (run_of pieces a b)) ≡ p.text
end_text pieces xs a b p less at =
    let r = run_of pieces a (b - 1) in
    let e : b - 1 + 1 ≡ b = omega (arith, less) in
    let run : text_of (run_of pieces a b) ≡ text_of r ++ p.text =
    ap (λ (n : ℕ). text_of (run_of pieces a n)) (sym e) ∙ ap text_of (run_more pieces a (b - 1) p (omega (arith, less)) at)
    ∙ text_of-append r (p ∷ []) ∙ ap (λ (l : List ℕ). text_of r ++ l) (append-nil p.text) in
    let len = span_length pieces a (b - 1) (omega (arith, less)) in
    (λ i. drop (length xs + len i) (xs ++ run i))
    ∙ (λ i. drop (sym (length-append xs (text_of r)) i) (sym (append_assoc xs (text_of r) p.text) i))
    ∙ drop-append_seam (xs ++ text_of r) p.text

-- spans are ascending
pub text_rises : (pieces : List TextPiece) (a b : ℕ) → a ≤ b → length (text_of (take a pieces)) ≤ length (text_of (take b pieces))
text_rises pieces a b le =
    let both : length (text_of (take b pieces)) ≡ length (text_of (take a pieces) ++ text_of (run_of pieces a b)) =
    ap (λ (l : List TextPiece). length (text_of l)) (take_split a b pieces le) ∙ ap length (text_of-append (take a pieces) (run_of pieces a b)) in
    omega (arith, both, length-append (text_of (take a pieces)) (text_of (run_of pieces a b)))

-- if a text is too long at the end of a run, the whole is too long
pub run_overflow : (pieces : List TextPiece) (from to : Place) (stop : ℕ) (old : Draft) (edits : List Edit)
    → Passes pieces from stop to.piece to.token → Untouched edits from.token stop
    → Overflows old (old_parts from.piece (run_of pieces from.piece to.piece)) → Overflows old (placed edits from.token from.piece (drop from.piece pieces))
run_overflow pieces from to stop old edits h none over = subst (Overflows old) (sym (h.same edits none)) (overflows_more old _ _ over)

-- the texts of a run and of its first piece, as they are in the bytes

pub run_text : (pieces : List TextPiece) (bytes : List ℕ) (a b s e : ℕ) → a < b → bytes ≡ text_of pieces
    → s ≡ length (text_of (take a pieces)) → e ≡ length (text_of (take (b - 1 + 1) pieces))
    → take (e - s) (drop s bytes) ≡ text_of (run_of pieces a b)
run_text pieces bytes a b s e less is start end =
    let same : b - 1 + 1 ≡ b = omega (arith, less) in
    let ends : e ≡ length (text_of (take b pieces)) = end ∙ ap (λ (n : ℕ). length (text_of (take n pieces))) same in
    (λ i. take (ends i - start i) (drop (start i) (is i))) ∙ span_text pieces a b (omega (arith, less))

pub first_text : (pieces : List TextPiece) (bytes : List ℕ) (a s e : ℕ) (k : PieceKind) (p : TextPiece) → bytes ≡ text_of pieces
    → slice_get pieces a ≡ Some (record { kind = k; text = take (e - s) (drop s (text_of pieces)) })
    → slice_get pieces a ≡ Some p → take (e - s) (drop s bytes) ≡ p.text
first_text pieces bytes a s e k p is here at =
    let q : TextPiece = record { kind = k; text = take (e - s) (drop s (text_of pieces)) } in
    let both : Some q ≡ Some p = sym here ∙ at in
    let same : q ≡ p = cc in
    ap (λ (l : List ℕ). take (e - s) (drop s l)) is ∙ ap (λ (x : TextPiece). x.text) same

pub last_kind : (pieces : List TextPiece) (b : ℕ) (k : PieceKind) (text : List ℕ) (p : TextPiece)
    → slice_get pieces b ≡ Some (record { kind = k; text = text }) → slice_get pieces b ≡ Some p → k ≡ p.kind
last_kind pieces b k text p here at =
    let q : TextPiece = record { kind = k; text = text } in
    let both : Some q ≡ Some p = sym here ∙ at in
    let same : q ≡ p = cc in
    ap (λ (x : TextPiece). x.kind) same

-- a gap by its length
pub gap_is : (l : Option Left) (from : Option ℕ) (text : List ℕ) (n : ℕ) → n ≡ length (text_of (gap l from text)) → take n (32 ∷ []) ≡ text_of (gap l from text)
gap_is l from text n e = ap (λ (m : ℕ). take m (32 ∷ [])) e ∙ own l
  where
    own : (l : Option Left) → take (length (text_of (gap l from text))) (32 ∷ []) ≡ text_of (gap l from text)
    own None = refl
    own (Some l) = elim (needs_space l from text) as (λ b. take (length (text_of (if b then space ∷ [] else []))) (32 ∷ [])
        ≡ text_of (if b then space ∷ [] else [])) [ true ↦ refl | false ↦ refl ]

pub bytes_more : (old mid new g text : List ℕ) → mid ≡ old ++ g → new ≡ mid ++ text → new ≡ old ++ (g ++ text)
bytes_more old mid new g text h k = k ∙ ap (λ (l : List ℕ). l ++ text) h ∙ append_assoc old g text

pub end_is_last : (pieces : List TextPiece) (mid new text : List ℕ) (a b s t n : ℕ) (p : TextPiece) → a < b → slice_get pieces (b - 1) ≡ Some p
    → n ≡ length mid → t ≡ length (text_of (take (b - 1) pieces)) → s ≡ length (text_of (take a pieces)) → new ≡ mid ++ text
    → text ≡ text_of (run_of pieces a b)
    → drop (n + (t - s)) new ≡ p.text
end_is_last pieces mid new text a b s t n p less at len end start is run =
    (λ i. drop (len i + (end i - start i)) ((is ∙ ap (λ (l : List ℕ). mid ++ l) run) i)) ∙ end_text pieces mid a b p less at

pub left_is : (n : ℕ) (w : Bool) (text : List ℕ) (p : TextPiece) → w ≡ is_word p.kind → text ≡ p.text
    → Some (let l : Left = record { from = Some n; is_word = w; text = text } in l) ≡ Some (left_of (old_part n p))
left_is n w text p h k = λ i. Some (record { from = Some n; is_word = h i; text = k i })

-- the piece at a place, as it is in the bytes
pub piece_is : (pieces : List TextPiece) (bytes : List ℕ) (i s e : ℕ) (k : PieceKind) (p : TextPiece) → bytes ≡ text_of pieces
    → slice_get pieces i ≡ Some (record { kind = k; text = take (e - s) (drop s (text_of pieces)) }) → slice_get pieces i ≡ Some p
    → (let q : TextPiece = record { kind = k; text = take (e - s) (drop s bytes) } in q) ≡ p
piece_is pieces bytes i s e k p is here at =
    let q : TextPiece = record { kind = k; text = take (e - s) (drop s (text_of pieces)) } in
    let both : Some q ≡ Some p = sym here ∙ at in
    let same : q ≡ p = cc in
    ap (λ (l : List ℕ). let x : TextPiece = record { kind = k; text = take (e - s) (drop s l) } in x) is ∙ same
