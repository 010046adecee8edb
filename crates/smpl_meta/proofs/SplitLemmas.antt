-- Parts and chunks of tokens.
use Rattle.std.proofs.Common.{◌≡◌, ℕ, zero, suc, ◌+◌, ◌<◌, ◌≤◌, ◌⊎◌, inl, inr, ◌&&◌, not, Bool, true, false, List, [], ◌∷◌}
use Rattle.std.proofs.Common.{◌++◌, length, take, drop, Option, Some, None, option_map, option_and_then, refl, sym, ap, ◌∙◌}
use Rattle.std.proofs.Common.{get_or, arith, if◌then◌else◌, append_assoc, codes}
use Rattle.std.proofs.lemmas.List.{take_all, length-drop, drop-drop}
use Rattle.std.proofs.lemmas.Bool.Decides.{eqb_tells}
use Rattle.smpl_lexer.specs.declared.token.PatchToken.{PatchToken}
use Rattle.smpl_lexer.specs.Tokens.{is_sign}
use Rattle.smpl_lexer.proofs.Stops.{at_token}
use Rattle.smpl_meta.specs.Forms.{put, chunks, within_after, before_sign, all_of}
use Rattle.smpl_meta.specs.Splits.{chunk_length, part_length}

-- ---- the last token

map_if : (t : PatchToken) (b : Bool) (front : List PatchToken)
    → option_map (λ (front : List PatchToken). t ∷ front) (if b then Some front else None) ≡ (if b then Some (t ∷ front) else None)
map_if t true front = refl
map_if t false front = refl

pub before_last : (text : List ℕ) (last : PatchToken) (ts : List PatchToken) (n : ℕ) → length ts ≡ suc n
    → last ≡ get_or ts n last
    → before_sign text ts ≡ (if is_sign text last then Some (take n ts) else None)
before_last text last [] n e is = absurd (omega arith)
before_last text last (t ∷ []) zero e is = ap (λ (x : PatchToken). if is_sign text x then Some [] else None) (sym is)
before_last text last (t ∷ []) (suc n) e is = absurd (omega arith)
before_last text last (t ∷ u ∷ ts) zero e is = absurd (omega arith)
before_last text last (t ∷ u ∷ ts) (suc n) e is =
    ap (option_map (λ (front : List PatchToken). t ∷ front)) (before_last text last (u ∷ ts) n (omega arith) is)
    ∙ map_if t (is_sign text last) (take n (u ∷ ts))

-- ---- parts

pub part-ends : (ts : List PatchToken) (i : ℕ) (t : PatchToken) → i < length ts → t ≡ get_or ts i t
    → is_sign (codes ";") t ≡ true → part_length (drop i ts) ≡ 1
part-ends ts i t within is e = ap part_length (at_token ts i t within is)
    ∙ ap (λ (b : Bool). if b then 1 else suc (part_length (drop (i + 1) ts))) e

pub part-goes : (ts : List PatchToken) (i : ℕ) (t : PatchToken) → i < length ts → t ≡ get_or ts i t
    → is_sign (codes ";") t ≡ false
    → part_length (drop i ts) ≡ suc (part_length (drop (i + 1) ts))
part-goes ts i t within is e = ap part_length (at_token ts i t within is)
    ∙ ap (λ (b : Bool). if b then 1 else suc (part_length (drop (i + 1) ts))) e

-- ---- chunks

pub chunk-ends : (w : Bool) (ts : List PatchToken) (i : ℕ) (t : PatchToken) → i < length ts → t ≡ get_or ts i t
    → (is_sign (codes ",") t && not w) ≡ true → chunk_length w (drop i ts) ≡ 0
chunk-ends w ts i t within is e = ap (chunk_length w) (at_token ts i t within is)
    ∙ ap (λ (b : Bool). if b then 0 else suc (chunk_length (within_after w t) (drop (i + 1) ts))) e

pub chunk-goes : (w : Bool) (ts : List PatchToken) (i : ℕ) (t : PatchToken) → i < length ts → t ≡ get_or ts i t
    → (is_sign (codes ",") t && not w) ≡ false
    → chunk_length w (drop i ts) ≡ suc (chunk_length (within_after w t) (drop (i + 1) ts))
chunk-goes w ts i t within is e = ap (chunk_length w) (at_token ts i t within is)
    ∙ ap (λ (b : Bool). if b then 0 else suc (chunk_length (within_after w t) (drop (i + 1) ts))) e

not_within : (w b : Bool) → (b && not w) ≡ true → w ≡ false
not_within true true e = absurd (cc)
not_within true false e = absurd (cc)
not_within false b e = refl

last_by : (w : Bool) (t : PatchToken) (ts : List PatchToken) (b : Bool) → (is_sign (codes ",") t && not w) ≡ b
    → (if b then 0 else suc (chunk_length (within_after w t) ts)) ≡ suc (length ts)
    → (chunk_length (within_after w t) ts ≡ length ts → chunks (within_after w t) ts ≡ ts ∷ [])
    → (if b then [] ∷ chunks w ts else put t (chunks (within_after w t) ts)) ≡ (t ∷ ts) ∷ []
last_by w t ts true is e after = absurd (omega arith)
last_by w t ts false is e after = ap (put t) (after (omega arith))

more_by : (w : Bool) (t : PatchToken) (ts : List PatchToken) (b : Bool) → (is_sign (codes ",") t && not w) ≡ b
    → (if b then 0 else suc (chunk_length (within_after w t) ts)) < suc (length ts)
    → (chunk_length (within_after w t) ts < length ts
    → chunks (within_after w t) ts ≡ take (chunk_length (within_after w t) ts) ts ∷ chunks false (drop (suc (chunk_length (within_after w t) ts)) ts))
    → (if b then [] ∷ chunks w ts else put t (chunks (within_after w t) ts))
    ≡ take (if b then 0 else suc (chunk_length (within_after w t) ts)) (t ∷ ts)
    ∷ chunks false (drop (suc (if b then 0 else suc (chunk_length (within_after w t) ts))) (t ∷ ts))
more_by w t ts true is e after = ap (λ (v : Bool). [] ∷ chunks v ts) (not_within w (is_sign (codes ",") t) is)
more_by w t ts false is e after = ap (put t) (after (omega arith))

-- after the last comma
pub chunks_last : (w : Bool) (ts : List PatchToken) → chunk_length w ts ≡ length ts → chunks w ts ≡ ts ∷ []
chunks_last w [] e = refl
chunks_last w (t ∷ ts) e = last_by w t ts (is_sign (codes ",") t && not w) refl e (λ e. chunks_last (within_after w t) ts e)

pub chunks_more : (w : Bool) (ts : List PatchToken) → chunk_length w ts < length ts
    → chunks w ts ≡ take (chunk_length w ts) ts ∷ chunks false (drop (suc (chunk_length w ts)) ts)
chunks_more w [] e = absurd (omega arith)
chunks_more w (t ∷ ts) e = more_by w t ts (is_sign (codes ",") t && not w) refl e (λ e. chunks_more (within_after w t) ts e)

-- ---- all chunks, read one by one

pub with_chunks : {A : Type 0} (read : List PatchToken → Option A) (x : A) (c : List PatchToken) (cs : List (List PatchToken))
    → read c ≡ Some x
    → all_of read (c ∷ cs) ≡ option_map (λ (more : List A). x ∷ more) (all_of read cs)
with_chunks {A} read x c cs e = ap (option_and_then (λ (a : A). option_map (λ (more : List A). a ∷ more) (all_of read cs))) e

pub no_chunks : {A : Type 0} (read : List PatchToken → Option A) (c : List PatchToken) (cs : List (List PatchToken))
    → read c ≡ None → all_of read (c ∷ cs) ≡ None
no_chunks {A} read c cs e = ap (option_and_then (λ (a : A). option_map (λ (more : List A). a ∷ more) (all_of read cs))) e

pub le_cases : (m n : ℕ) → m ≤ n → (m < n) ⊎ (m ≡ n)
le_cases m n le = elim (eqb_tells m n) [
  | inl same ↦ inr same.1
  | inr other ↦ inl (omega (arith, other.1))
]

map_twice : {A : Type 0} (items : List A) (x : A) (o : Option (List A))
    → option_map (λ (more : List A). items ++ more) (option_map (λ (more : List A). x ∷ more) o) ≡ option_map (λ (more : List A). (items ++ x ∷ []) ++ more) o
map_twice items x None = refl
map_twice {A} items x (Some more) = ap (λ (l : List A). Some l) (sym (append_assoc items (x ∷ []) more))

pub chunk_none : {A : Type 0} (read : List PatchToken → Option A) (ts : List PatchToken) (n : ℕ)
    → n ≡ chunk_length false ts → n ≤ length ts
    → read (take n ts) ≡ None → all_of read (chunks false ts) ≡ None
chunk_none read ts n n_is within none = elim (le_cases n (length ts) within) [
  | inl less ↦ ap (all_of read) (chunks_more false ts (omega (arith, n_is, less)))
      ∙ no_chunks read (take (chunk_length false ts) ts) (chunks false (drop (suc (chunk_length false ts)) ts)) (rw (← n_is) none)
  | inr same ↦ ap (all_of read) (chunks_last false ts (sym n_is ∙ same))
      ∙ no_chunks read ts [] (rw (take_all n ts (omega (arith, same))) at none)
]

pub chunk_last : {A : Type 0} (read : List PatchToken → Option A) (items : List A) (x : A) (ts : List PatchToken) (n : ℕ)
    → n ≡ chunk_length false ts → n ≡ length ts
    → read (take n ts) ≡ Some x → option_map (λ (more : List A). items ++ more) (all_of read (chunks false ts)) ≡ Some (items ++ x ∷ [])
chunk_last {A} read items x ts n n_is same some = ap (λ (o : Option (List A)). option_map (λ (more : List A). items ++ more) o)
    (ap (all_of read) (chunks_last false ts (sym n_is ∙ same)) ∙ with_chunks read x ts [] (rw (take_all n ts (omega (arith, same))) at some))

pub chunk_more : {A : Type 0} (read : List PatchToken → Option A) (items : List A) (x : A) (ts : List PatchToken) (n : ℕ)
    → n ≡ chunk_length false ts → n < length ts
    → read (take n ts) ≡ Some x
    → option_map (λ (more : List A). items ++ more) (all_of read (chunks false ts))
    ≡ option_map (λ (more : List A). (items ++ x ∷ []) ++ more) (all_of read (chunks false (drop (suc n) ts)))
chunk_more {A} read items x ts n n_is less some = ap (λ (o : Option (List A)). option_map (λ (more : List A). items ++ more) o)
    (ap (all_of read) (rw (← n_is) at (chunks_more false ts (omega (arith, n_is, less))))
    ∙ with_chunks read x (take n ts) (chunks false (drop (suc n) ts)) some)
    ∙ map_twice items x (all_of read (chunks false (drop (suc n) ts)))

-- the chunks that were read are the items, and the rest of the tokens is left
pub record SoFar {A : Type 0} (read : List PatchToken → Option A) (tokens : List PatchToken) (start : ℕ) (items : List A) : Type 0 where
  pub within : start ≤ length tokens
  pub same : all_of read (chunks false tokens) ≡ option_map (λ (more : List A). items ++ more) (all_of read (chunks false (drop start tokens)))

map_nothing : {A : Type 0} (o : Option (List A)) → o ≡ option_map (λ (more : List A). [] ++ more) o
map_nothing None = refl
map_nothing (Some more) = refl

pub so_far_first : {A : Type 0} (read : List PatchToken → Option A) (tokens : List PatchToken) → SoFar read tokens 0 []
so_far_first read tokens = record { within = omega arith; same = map_nothing (all_of read (chunks false tokens)) }

pub so_far_none : {A : Type 0} (read : List PatchToken → Option A) (tokens : List PatchToken) (start : ℕ) (items : List A) (n : ℕ)
    → SoFar read tokens start items
    → n ≡ chunk_length false (drop start tokens) → n ≤ length (drop start tokens) → read (take n (drop start tokens)) ≡ None
    → all_of read (chunks false tokens) ≡ None
so_far_none {A} read tokens start items n s n_is within none = s.same
    ∙ ap (λ (o : Option (List A)). option_map (λ (more : List A). items ++ more) o) (chunk_none read (drop start tokens) n n_is within none)

pub so_far_last : {A : Type 0} (read : List PatchToken → Option A) (tokens : List PatchToken) (start : ℕ) (items : List A) (x : A) (n : ℕ)
    → SoFar read tokens start items
    → n ≡ chunk_length false (drop start tokens) → n ≡ length (drop start tokens) → read (take n (drop start tokens)) ≡ Some x
    → all_of read (chunks false tokens) ≡ Some (items ++ x ∷ [])
so_far_last read tokens start items x n s n_is same some = s.same
    ∙ chunk_last read items x (drop start tokens) n n_is same some

pub so_far_more : {A : Type 0} (read : List PatchToken → Option A) (tokens : List PatchToken) (start : ℕ) (items : List A) (x : A) (n : ℕ)
    → SoFar read tokens start items
    → n ≡ chunk_length false (drop start tokens) → n < length (drop start tokens) → read (take n (drop start tokens)) ≡ Some x
    → SoFar read tokens (start + (n + 1)) (items ++ x ∷ [])
so_far_more {A} read tokens start items x n s n_is less some = record {
  within = omega (arith, less, s.within, length-drop start tokens);
  same = s.same ∙ (chunk_more read items x (drop start tokens) n n_is less some
      ∙ ap (λ (l : List PatchToken). option_map (λ (more : List A). (items ++ x ∷ []) ++ more) (all_of read (chunks false l)))
      (drop-drop (suc n) start tokens ∙ ap (λ (k : ℕ). drop k tokens) (let e : start + suc n ≡ start + (n + 1) = omega arith in e)));
}
