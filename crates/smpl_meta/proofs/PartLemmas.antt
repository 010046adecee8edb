-- Declarations that are read up to some declaration.
use Rattle.std.proofs.Common.{◌≡◌, ℕ, suc, ◌+◌, ◌<◌, ◌≤◌, Bool, true, false, List, [], ◌∷◌, ◌++◌, length, take, drop, Option}
use Rattle.std.proofs.Common.{refl, sym, ap, ◌∙◌, subst, append_assoc, if◌then◌else◌, codes, arith}
use Rattle.std.proofs.lemmas.List.{drop-drop, length-drop, append-nil}
use Rattle.smpl_patch.specs.declared.fault.PatchFault.{PatchFault}
use Rattle.smpl_patch.specs.Faults.{first_from}
use Rattle.smpl_lexer.specs.declared.token.PatchToken.{PatchToken}
use Rattle.smpl_lexer.specs.Tokens.{is_sign}
use Rattle.smpl_meta.specs.declared.item.Item.{Item}
use Rattle.smpl_meta.specs.declared.decls.Parsed.{Parsed}
use Rattle.smpl_meta.specs.Forms.{parts, put}
use Rattle.smpl_meta.specs.Splits.{part_length}
use Rattle.smpl_meta.specs.TypeNames.{with_type_names}
use Rattle.smpl_meta.specs.Declarations.{IsDeclared, AreDeclared, items_or_none}
use Rattle.smpl_meta.specs.Decls.{items_of, form_fault, form_faults, AreParsed}
use Rattle.smpl_meta.proofs.FirstLemmas.{first_append}

-- the first part, and the parts after it
abbrev Split : List PatchToken → Type 0
Split ts = parts ts ≡ take (part_length ts) ts ∷ parts (drop (part_length ts) ts)

split_by : (t u : PatchToken) (ts : List PatchToken) (b : Bool) → Split (u ∷ ts)
    → (if b then (t ∷ []) ∷ parts (u ∷ ts) else put t (parts (u ∷ ts)))
    ≡ take (if b then 1 else suc (part_length (u ∷ ts))) (t ∷ u ∷ ts) ∷ parts (drop (if b then 1 else suc (part_length (u ∷ ts))) (t ∷ u ∷ ts))
split_by t u ts true split = refl
split_by t u ts false split = ap (put t) split

split_one : (t : PatchToken) (b : Bool) → (if b then (t ∷ []) ∷ parts [] else put t (parts []))
    ≡ take (if b then 1 else suc (part_length [])) (t ∷ []) ∷ parts (drop (if b then 1 else suc (part_length [])) (t ∷ []))
split_one t true = refl
split_one t false = refl

pub split_parts : (t : PatchToken) (ts : List PatchToken) → Split (t ∷ ts)
split_parts t [] = split_one t (is_sign (codes ";") t)
split_parts t (u ∷ ts) = split_by t u ts (is_sign (codes ";") t) (split_parts u ts)

split_some : (ts : List PatchToken) → 0 < length ts → Split ts
split_some [] some = absurd (omega arith)
split_some (t ∷ ts) some = split_parts t ts

items_append : (xs ys : List (Option (List Item))) → items_of (xs ++ ys) ≡ items_of xs ++ items_of ys
items_append [] ys = refl
items_append (x ∷ xs) ys =
    ap (λ (l : List Item). items_or_none x ++ l) (items_append xs ys) ∙ sym (append_assoc (items_or_none x) (items_of xs) (items_of ys))

-- what the declarations before a place declare, however those after it are read
pub record PartsSoFar (tokens : List PatchToken) (before : Option PatchFault) (start : ℕ) (items : List Item) (first : Option PatchFault)
    (types : List (List ℕ)) : Type 0 where
  pub answers : List (Option (List Item))
  pub within : start ≤ length tokens
  pub read : (more : List (Option (List Item))) → AreDeclared types (parts (drop start tokens)) more → AreDeclared [] (parts tokens) (answers ++ more)
  pub items_are : items ≡ items_of answers
  pub first_is : (more : List (Option (List Item)))
      → first_from before (form_faults (parts tokens) (answers ++ more)) ≡ first_from first (form_faults (parts (drop start tokens)) more)

pub parts_first : (tokens : List PatchToken) (before : Option PatchFault) → PartsSoFar tokens before 0 [] before []
parts_first tokens before = record { answers = []; within = omega arith; read = λ more are. are; items_are = refl; first_is = λ more. refl }

pub parts_more : (tokens : List PatchToken) (before : Option PatchFault) (start : ℕ) (items new : List Item) (first now : Option PatchFault)
    (types later : List (List ℕ)) (n : ℕ) (answer : Option (List Item))
    → PartsSoFar tokens before start items first types → 0 < length (drop start tokens) → n ≡ part_length (drop start tokens) → n ≤ length (drop start tokens)
    → IsDeclared types (take n (drop start tokens)) answer → later ≡ with_type_names types (items_or_none answer)
    → new ≡ items ++ items_or_none answer → now ≡ first_from first (form_fault (take n (drop start tokens)) answer)
    → PartsSoFar tokens before (start + n) new now later
parts_more tokens before start items new first now types later n answer s some n_is within is later_is new_is now_is =
    let part = take n (drop start tokens) in
    let rest = parts (drop (start + n) tokens) in
    let split : parts (drop start tokens) ≡ take n (drop start tokens) ∷ parts (drop (start + n) tokens)
    = rw (← drop-drop n start tokens, n_is) (split_some (drop start tokens) some) in
    record {
      answers = s.answers ++ answer ∷ [];
      within = omega (arith, s.within, within, length-drop start tokens);
      read = λ more are.
          let there : AreDeclared (with_type_names types (items_or_none answer)) (parts (drop (start + n) tokens)) more
          = subst (λ (ts : List (List ℕ)). AreDeclared ts (parts (drop (start + n) tokens)) more) later_is are in
          let all : AreDeclared types (parts (drop start tokens)) (answer ∷ more)
          = subst (λ (ps : List (List PatchToken)). AreDeclared types ps (answer ∷ more)) (sym split) (is, there) in
          subst (λ (l : List (Option (List Item))). AreDeclared [] (parts tokens) l) (sym (append_assoc s.answers (answer ∷ []) more))
          (s.read (answer ∷ more) all);
      items_are = new_is ∙ (ap (λ (l : List Item). l ++ items_or_none answer) s.items_are
          ∙ (ap (λ (l : List Item). items_of s.answers ++ l) (sym (append-nil (items_or_none answer))) ∙ sym (items_append s.answers (answer ∷ []))));
      first_is = λ more.
          ap (λ (l : List (Option (List Item))). first_from before (form_faults (parts tokens) l)) (append_assoc s.answers (answer ∷ []) more)
          ∙ (s.first_is (answer ∷ more) ∙ (ap (λ (ps : List (List PatchToken)). first_from first (form_faults ps (answer ∷ more))) split
          ∙ (first_append first (form_fault part answer) (form_faults rest more)
          ∙ ap (λ (o : Option PatchFault). first_from o (form_faults rest more)) (sym now_is))));
    }

pub parts_last : (tokens : List PatchToken) (before : Option PatchFault) (start : ℕ) (p : Parsed) (types : List (List ℕ))
    → PartsSoFar tokens before start p.items p.first types → drop start tokens ≡ [] → AreParsed before tokens p
parts_last tokens before start p types s none =
    let all = append-nil s.answers in
    record {
      answers = s.answers;
      read = subst (λ (l : List (Option (List Item))). AreDeclared [] (parts tokens) l) all
          (s.read [] (subst (λ (ts : List PatchToken). AreDeclared types (parts ts) []) (sym none) tt));
      items_are = s.items_are;
      first_is = sym (ap (λ (l : List (Option (List Item))). first_from before (form_faults (parts tokens) l)) (sym all)
          ∙ (s.first_is [] ∙ ap (λ (ts : List PatchToken). first_from p.first (form_faults (parts ts) [])) none));
    }
