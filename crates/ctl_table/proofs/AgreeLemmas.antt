-- The table depends on what follows only at scopes that begin with the current scope.
use Rattle.std.proofs.Common.{◌≡◌, not, refl, sym, ap, ◌∙◌, List, [], ◌∷◌, ◌++◌, append_assoc, append-nil, Option, None, Some}
use Rattle.std.specs.List.{filter}
use Rattle.smpl_terms.specs.declared.var.Var.{Var}
use Rattle.smpl_patch.specs.Bodies.{Element, Compound, Block, Gap, Nest, AnyOf, AllOf, Body, End, Then, Bodies, NoMore, More}
use Rattle.smpl_patch.specs.Bodies as bodies
use Rattle.ctl_formula.specs.Plain.{Plain, Atom}
use Rattle.pattern_vars.specs.VarPlaces.Placing.{occurs_element, occurs_body, at_suffix}
use Rattle.ctl_table.specs.Table as table
use Rattle.ctl_table.specs.Settings.{Agree}

-- an equation at this scope with further variables, when there are no further ones
agree-end : (f g : List Var → Plain) (s : List Var) → f (s ++ []) ≡ g (s ++ []) → f s ≡ g s
agree-end f g s e = sym (ap f (append-nil s)) ∙ e ∙ ap g (append-nil s)

pub agree-here : (k h : table.Follow) (s : List Var) → Agree s k h → k.at s ≡ h.at s
agree-here k h s a = agree-end k.at h.at s (a.same [])

-- with more variables
pub agree-later : (k h : table.Follow) (s here : List Var) → Agree s k h → Agree (s ++ here) k h
agree-later k h s here a = record {
  starts = a.starts;
  same = λ more. ap k.at (append_assoc s here more) ∙ a.same (here ++ more) ∙ sym (ap h.at (append_assoc s here more));
}

-- a row that depends on how what follows begins, and on its formula at this scope
agree-row : (row : table.Start → Plain → Plain) (k h : table.Follow) (s : List Var) → Agree s k h
    → row k.start (k.at s) ≡ row h.start (h.at s)
agree-row row k h s a = ap (λ (z : table.Start). row z (k.at s)) a.starts ∙ ap (row h.start) (agree-here k h s a)

mutual
  pub elem-agrees : (m : table.Setting) (before after : Option Element) (e : Element) (k h : table.Follow) (w s t : List Var)
      → Agree s k h → table.elem m before after e k w s t ≡ table.elem m before after e h w s t
  elem-agrees m before after (bodies.Atom p) k h w s t a =
      agree-row (table.joined m.forall_walks (m.reading.is_statement p) (table.own m w p (Atom p))) k h s a
  elem-agrees m before after (Compound p bs tail) k h w s t a =
      ap (λ (z : Plain). table.elem m before after (Compound p bs tail) (record { start = k.start; at = λ u. z }) w s t)
      (agree-here k h s a)
  elem-agrees m before after (Block o b c) k h w s t a =
      ap (λ (z : Plain). table.elem m before after (Block o b c) (record { start = k.start; at = λ u. z }) w s t)
      (agree-here k h s a)
  elem-agrees m before after (Gap ws any strict) k h w s t a =
      agree-row (λ start f. table.elem m before after (Gap ws any strict) (record { start = start; at = λ u. f }) w s t) k h s a
  elem-agrees m before after (Nest plus b ws any strict) k h w s t a =
      agree-row (λ start f. table.elem m before after (Nest plus b ws any strict) (record { start = start; at = λ u. f }) w s t) k h s a
  elem-agrees m before after (AnyOf bs) k h w s t a =
      ap (λ (z : List Plain). table.any_of (table.choices [] z (table.each m bs table.nothing w s)))
      (each-agrees m bs k h w s a)
  elem-agrees m before after (AllOf bs) k h w s t a = first-agrees m bs k h w s a

  pub seq-agrees : (m : table.Setting) (before : Option Element) (b : Body) (k h : table.Follow) (w s more : List Var)
      → Agree s k h → table.seq m before b k w s (s ++ more) ≡ table.seq m before b h w s (s ++ more)
  seq-agrees m before End k h w s more a = a.same more
  seq-agrees m before (Then e rest) k h w s more a =
      let here = filter (at_suffix m.reading e rest) w in
      let inside = filter (λ x. not (at_suffix m.reading e rest x)) w in
      let later = filter (λ x. not (occurs_element m.reading e x)) inside in
      let next = λ (f : table.Follow). table.seq m (Some e) rest f later (s ++ here) in
      let k1 : table.Follow = record { start = table.start_of rest k.start; at = next k } in
      let h1 : table.Follow = record { start = table.start_of rest h.start; at = next h } in
      let a1 : Agree (s ++ here) k1 h1 = record {
        starts = ap (table.start_of rest) a.starts;
        same = λ more. seq-agrees m (Some e) rest k h later (s ++ here) more (agree-later k h s here a);
      } in
      ap (table.exists_all here)
      (elem-agrees m before (table.first_of rest) e k1 h1 (filter (occurs_element m.reading e) inside) (s ++ here)
      ((s ++ more) ++ here) a1)

  pub each-agrees : (m : table.Setting) (bs : Bodies) (k h : table.Follow) (w s : List Var) → Agree s k h
      → table.each m bs k w s ≡ table.each m bs h w s
  each-agrees m NoMore k h w s a = refl
  each-agrees m (More b bs) k h w s a =
      let v = filter (occurs_body m.reading b) w in
      ap (λ (z : Plain). z ∷ table.each m bs k w s)
      (agree-end (table.seq m None b k v s) (table.seq m None b h v s) s (seq-agrees m None b k h v s [] a))
      ∙ ap (λ (z : List Plain). table.seq m None b h v s s ∷ z) (each-agrees m bs k h w s a)

  pub first-agrees : (m : table.Setting) (bs : Bodies) (k h : table.Follow) (w s : List Var) → Agree s k h
      → table.first_and m bs k w s ≡ table.first_and m bs h w s
  first-agrees m NoMore k h w s a = agree-here k h s a
  first-agrees m (More b bs) k h w s a =
      let v = filter (occurs_body m.reading b) w in
      ap (λ (z : Plain). table.and_all z (table.each m bs table.nothing w s))
      (agree-end (table.seq m None b k v s) (table.seq m None b h v s) s (seq-agrees m None b k h v s [] a))
