-- Bodies that grow at their ends.
use Rattle.std.proofs.Common.{◌≡◌, ℕ, ◌+◌, ◌<◌, ◌≤◌, List, [], ◌∷◌, ◌++◌, length, get_or, take, map, refl, sym, ap, ◌∙◌, arith, zero, suc}
use Rattle.std.proofs.lemmas.List.{take_more}
use Rattle.smpl_patch.specs.declared.pattern.PatToken.{PatToken}
use Rattle.smpl_patch.specs.declared.elem.Elem.{Elem}
use Rattle.smpl_patch.specs.declared.rule.Iso.{Iso}
use Rattle.smpl_patch.specs.Bodies.{Element, Body, End, Then, Bodies, NoMore, More, element, body}
use Rattle.smpl_patch.proofs.BodyLemmas.{bodies}
use Rattle.iso_expand.specs.Bodies.{expanded_element, expanded_body, expanded_bodies, forms_element, forms_body, forms_bodies}

pub take_item : {A : Type 0} (xs : List A) (i : ℕ) (x : A) → i < length xs → x ≡ get_or xs i x → take (i + 1) xs ≡ take i xs ++ x ∷ []
take_item xs i x h e = take_more xs i x h ∙ ap (λ y. take i xs ++ y ∷ []) (sym e)

-- ---- sequences

abbrev snoc : Body → Element → Body
snoc End e = Then e End
snoc (Then d rest) e = Then d (snoc rest e)

body-snoc : (es : List Elem) (e : Elem) → body (es ++ e ∷ []) ≡ snoc (body es) (element e)
body-snoc [] e = refl
body-snoc (d ∷ es) e = ap (λ (b : Body). Then (element d) b) (body-snoc es e)

-- ---- lists of sequences

abbrev push : Bodies → Body → Bodies
push NoMore b = More b NoMore
push (More c bs) b = More c (push bs b)

bodies-push : (bs : List (List Elem)) (b : List Elem) → bodies (bs ++ b ∷ []) ≡ push (bodies bs) (body b)
bodies-push [] b = refl
bodies-push (c ∷ bs) b = ap (λ (x : Bodies). More (body c) x) (bodies-push bs b)

module _ (isos : List Iso) (tokens : List PatToken) where
  expanded-snoc : (b : Body) (e : Element) → expanded_body isos tokens (snoc b e) ≡ snoc (expanded_body isos tokens b) (expanded_element isos tokens e)
  expanded-snoc End e = refl
  expanded-snoc (Then d rest) e = ap (λ (b : Body). Then (expanded_element isos tokens d) b) (expanded-snoc rest e)

  forms-snoc : (b : Body) (e : Element) → forms_body isos tokens (snoc b e) ≡ forms_body isos tokens b + forms_element isos tokens e
  forms-snoc End e = omega arith
  forms-snoc (Then d rest) e = omega (arith, forms-snoc rest e)

  expanded-push : (bs : Bodies) (b : Body) → expanded_bodies isos tokens (push bs b) ≡ push (expanded_bodies isos tokens bs) (expanded_body isos tokens b)
  expanded-push NoMore b = refl
  expanded-push (More c bs) b = ap (λ (x : Bodies). More (expanded_body isos tokens c) x) (expanded-push bs b)

  forms-push : (bs : Bodies) (b : Body) → forms_bodies isos tokens (push bs b) ≡ forms_bodies isos tokens bs + forms_body isos tokens b
  forms-push NoMore b = omega arith
  forms-push (More c bs) b = omega (arith, forms-push bs b)

  taken : (es : List Elem) (i : ℕ) (e : Elem) → i < length es → e ≡ get_or es i e → body (take (i + 1) es) ≡ snoc (body (take i es)) (element e)
  taken es i e h q = ap body (take_item es i e h q) ∙ body-snoc (take i es) e

  -- one more element
  pub body_more : (es out new : List Elem) (i : ℕ) (e f : Elem) → i < length es → e ≡ get_or es i e → new ≡ out ++ f ∷ []
      → element f ≡ expanded_element isos tokens (element e) → body out ≡ expanded_body isos tokens (body (take i es))
      → body new ≡ expanded_body isos tokens (body (take (i + 1) es))
  body_more es out new i e f h q n is done =
      ap body n ∙ body-snoc out f ∙ ap (λ (b : Body). snoc b (element f)) done
      ∙ ap (λ (x : Element). snoc (expanded_body isos tokens (body (take i es))) x) is
      ∙ sym (expanded-snoc (body (take i es)) (element e)) ∙ ap (expanded_body isos tokens) (sym (taken es i e h q))

  pub body_spent : (es : List Elem) (i : ℕ) (e : Elem) (room left less : ℕ) → i < length es → e ≡ get_or es i e
      → less + forms_element isos tokens (element e) ≡ left
      → left + forms_body isos tokens (body (take i es)) ≡ room → less + forms_body isos tokens (body (take (i + 1) es)) ≡ room
  body_spent es i e room left less h q s t =
      let a : forms_body isos tokens (body (take (i + 1) es)) ≡ forms_body isos tokens (snoc (body (take i es)) (element e)) =
      ap (forms_body isos tokens) (taken es i e h q) in
      omega (arith, forms-snoc (body (take i es)) (element e))

  pub body_part : (es : List Elem) (i : ℕ) (e : Elem) → i < length es → e ≡ get_or es i e
      → forms_body isos tokens (body (take i es)) + forms_element isos tokens (element e) ≤ forms_body isos tokens (body es)
  body_part [] i e h q = absurd (omega arith)
  body_part (d ∷ es) zero e h q = let a : forms_element isos tokens (element e) ≡ forms_element isos tokens (element d) =
      ap (λ (x : Elem). forms_element isos tokens (element x)) q in omega arith
  body_part (d ∷ es) (suc i) e h q = let r = body_part es i e (omega arith) q in omega (arith, r)

  takens : (bs : List (List Elem)) (i : ℕ) (b : List Elem) → i < length bs → b ≡ get_or bs i b → bodies (take (i + 1) bs) ≡ push (bodies (take i bs)) (body b)
  takens bs i b h q = ap bodies (take_item bs i b h q) ∙ bodies-push (take i bs) b

  -- one more sequence
  pub bodies_more : (bs out new : List (List Elem)) (i : ℕ) (b c : List Elem) → i < length bs → b ≡ get_or bs i b → new ≡ out ++ c ∷ []
      → body c ≡ expanded_body isos tokens (body b) → bodies out ≡ expanded_bodies isos tokens (bodies (take i bs))
      → bodies new ≡ expanded_bodies isos tokens (bodies (take (i + 1) bs))
  bodies_more bs out new i b c h q n is done =
      ap bodies n ∙ bodies-push out c ∙ ap (λ (x : Bodies). push x (body c)) done
      ∙ ap (λ (x : Body). push (expanded_bodies isos tokens (bodies (take i bs))) x) is
      ∙ sym (expanded-push (bodies (take i bs)) (body b)) ∙ ap (expanded_bodies isos tokens) (sym (takens bs i b h q))

  pub bodies_spent : (bs : List (List Elem)) (i : ℕ) (b : List Elem) (room left less : ℕ) → i < length bs → b ≡ get_or bs i b
      → less + forms_body isos tokens (body b) ≡ left
      → left + forms_bodies isos tokens (bodies (take i bs)) ≡ room → less + forms_bodies isos tokens (bodies (take (i + 1) bs)) ≡ room
  bodies_spent bs i b room left less h q s t =
      let a : forms_bodies isos tokens (bodies (take (i + 1) bs))
      ≡ forms_bodies isos tokens (push (bodies (take i bs)) (body b)) = ap (forms_bodies isos tokens) (takens bs i b h q) in
      omega (arith, forms-push (bodies (take i bs)) (body b))

  pub bodies_part : (bs : List (List Elem)) (i : ℕ) (b : List Elem) → i < length bs → b ≡ get_or bs i b
      → forms_bodies isos tokens (bodies (take i bs)) + forms_body isos tokens (body b) ≤ forms_bodies isos tokens (bodies bs)
  bodies_part [] i b h q = absurd (omega arith)
  bodies_part (c ∷ bs) zero b h q = let a : forms_body isos tokens (body b) ≡ forms_body isos tokens (body c) =
      ap (λ (x : List Elem). forms_body isos tokens (body x)) q in omega arith
  bodies_part (c ∷ bs) (suc i) b h q = let r = bodies_part bs i b (omega arith) q in omega (arith, r)
