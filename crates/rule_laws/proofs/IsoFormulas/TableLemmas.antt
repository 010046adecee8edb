-- The table translates a body with all forms to the formula of the body with all forms.
-- Proof: by recursion on the body, row by row. The induction covers what follows an element and what is next to dots.
use Rattle.std.proofs.Common.{◌≡◌, ℕ, Bool, true, false, not, ◌&&◌, cond, refl, sym, ap, ap₂, ◌∙◌, Option, None, Some, List, [], ◌∷◌, ◌++◌, map}
use Rattle.std.specs.List.{filter}
use Rattle.smpl_terms.specs.declared.var.Var.{Var}
use Rattle.smpl_patch.specs.declared.pattern.PatToken.{PatToken}
use Rattle.smpl_patch.specs.declared.pattern.Pattern.{Pattern}
use Rattle.smpl_patch.specs.declared.rule.Iso.{Iso}
use Rattle.smpl_patch.specs.Bodies.{Element, Compound, Block, Gap, Nest, AnyOf, AllOf, Body, End, Then, Bodies, NoMore, More}
use Rattle.smpl_patch.specs.Bodies as bodies
use Rattle.ctl_formula.specs.Plain.{Plain, Atom, BraceOpen, BraceClose, Not, And, After, InBranch, Exists}
use Rattle.pattern_vars.specs.VarPlaces.Placing.{Reading, any_body, occurs_element, occurs_body, at_suffix, is_alone}
use Rattle.ctl_table.specs.Blocks.{blocks}
use Rattle.ctl_table.specs.Table.{Setting, Follow, Start, Dots, Other, nothing, start_of, first_of, in_scope}
use Rattle.ctl_table.specs.Table.{exists_all, and_all, any_of, or_some, option_list, own, copy, hidden, ends_of}
use Rattle.ctl_table.specs.Table.{ends_of_body, ends_of_each, ends_of_first, ends_of_option, is_end, joined, target, stays, within, until, nested}
use Rattle.ctl_table.specs.Table.{condition, lone, closing, with_tail, in_branches, choices, seq, elem, each, first_and, when_parts}
use Rattle.ctl_table.specs.Table.{setting, formula}
use Rattle.iso_expand.specs.Bodies.{expanded_pattern, expanded_option, expanded_element, expanded_body, expanded_bodies}
use Rattle.rule_laws.specs.IsoFormulas.Formulas.{expanded_formula}
use Rattle.rule_laws.proofs.IsoFormulas.PlacingLemmas.{filter-same, dots-same, blocks-same, Agree}
use Rattle.rule_laws.proofs.IsoFormulas.PlacingLemmas as placing
use Rattle.rule_laws.proofs.IsoFormulas.ImageLemmas.{map-append, expanded_some, exists-image, and-image, any-image, some-image, list-image, choice-image}
use Rattle.rule_laws.proofs.IsoFormulas.ImageLemmas.{joined-image, target-image, firsts-image, until-image, nested-image}
use Rattle.rule_laws.proofs.IsoFormulas.ImageLemmas.{condition-image, in_branches-image, choices-image}

module _ (isos : List Iso) (tokens : List PatToken) where
  abbrev X : Pattern → Pattern
  X = expanded_pattern isos tokens

  abbrev XE : Element → Element
  XE = expanded_element isos tokens

  abbrev XB : Body → Body
  XB = expanded_body isos tokens

  abbrev XS : Bodies → Bodies
  XS = expanded_bodies isos tokens

  abbrev XO : Option Element → Option Element
  XO None = None
  XO (Some e) = Some (XE e)

  abbrev F : Plain → Plain
  F = expanded_formula isos tokens

  abbrev FO : Option Plain → Option Plain
  FO = expanded_some isos tokens

  start-same : (b : Body) (s t : Start) → t ≡ s → start_of (XB b) t ≡ start_of b s
  start-same End s t e = e
  start-same (Then e rest) s t h = ap (λ (b : Bool). cond b Dots Other) (dots-same isos tokens e)

  first-same : (b : Body) → first_of (XB b) ≡ XO (first_of b)
  first-same End = refl
  first-same (Then e rest) = refl

  end-same : (b : Body) → is_end (XB b) ≡ is_end b
  end-same End = refl
  end-same (Then e rest) = refl

  joined-same : (forall_walks : Bool) {a b : Bool} {f g : Plain} {s t : Start} {h k : Plain} → a ≡ b → f ≡ g → s ≡ t → h ≡ k
      → joined forall_walks a f s h ≡ joined forall_walks b g t k
  joined-same forall_walks {a} {b} {f} {g} {s} {t} {h} {k} e1 e2 e3 e4 =
      ap₂ (λ (x : Bool) (y : Plain). joined forall_walks x y s h) e1 e2 ∙ ap₂ (λ (x : Start) (y : Plain). joined forall_walks b g x y) e3 e4

  condition-same : (any : Bool) {ws vs : List Plain} {a b c d : Option Plain} → ws ≡ vs → a ≡ b → c ≡ d
      → condition any ws a c ≡ condition any vs b d
  condition-same any {ws} {vs} {a} {b} {c} {d} e1 e2 e3 =
      ap₂ (λ (x : List Plain) (y : Option Plain). condition any x y c) e1 e2 ∙ ap (λ (x : Option Plain). condition any vs b x) e3

  nested-same : (forall_walks plus strict : Bool) {d e p q t u : Plain} → d ≡ e → p ≡ q → t ≡ u
      → nested forall_walks plus strict d p t ≡ nested forall_walks plus strict e q u
  nested-same forall_walks plus strict {d} {e} {p} {q} {t} {u} e1 e2 e3 =
      ap₂ (λ (x y : Plain). nested forall_walks plus strict x y t) e1 e2 ∙ ap (λ (x : Plain). nested forall_walks plus strict e q x) e3

  -- the same setting, in which patterns are read so
  abbrev reread : Reading → Setting → Setting
  reread read m = record {
    reading = read;
    forall_walks = m.forall_walks;
    locals = m.locals;
    alone = m.alone;
    blocks = m.blocks;
    around = m.around;
  }

  module _ (m : Setting) (read : Reading) (agree : Agree isos tokens m.reading read) where
    abbrev n : Setting
    n = reread read m

    own-image : (w : List Var) (p : Pattern) (f : Plain) → own n w (X p) (F f) ≡ F (own m w p f)
    own-image w p f =
        ap (λ (xs : List Var). exists_all xs (F f))
        (filter-same (λ x. read.used (X p) x) (λ x. m.reading.used p x) (λ x. agree.used p x) w)
        ∙ exists-image isos tokens (filter (λ x. m.reading.used p x) w) f

    copy-image : (p : Pattern) (s : List Var) → copy n (X p) s ≡ F (copy m p s)
    copy-image p s =
        ap (λ (xs : List Var). exists_all xs (F (Atom p)))
        (filter-same (λ x. read.stands (X p) x && not (in_scope s x)) (λ x. m.reading.stands p x && not (in_scope s x))
        (λ x. ap (λ (b : Bool). b && not (in_scope s x)) (agree.stands p x)) m.locals)
        ∙ exists-image isos tokens (filter (λ x. m.reading.stands p x && not (in_scope s x)) m.locals) (Atom p)

    mutual
      ends_of-same : (last : Bool) (e : Element) (s : List Var) → ends_of n last (XE e) s ≡ FO (ends_of m last e s)
      ends_of-same last (bodies.Atom p) s =
          ap₂ (λ (b : Bool) (f : Plain). cond b None (Some f)) (agree.statement p) (copy-image p s)
          ∙ choice-image isos tokens (m.reading.is_statement p) None (Some (copy m p s))
      ends_of-same last (Compound h bs t) s = ap Some (copy-image h s)
      ends_of-same last (Block o b c) s = refl
      ends_of-same last (Gap ws any strict) s = refl
      ends_of-same last (Nest plus b ws any strict) s = refl
      ends_of-same last (AnyOf bs) s = ap or_some (ends_of-each last bs s) ∙ some-image isos tokens (ends_of_each m last bs s)
      ends_of-same last (AllOf bs) s = ends_of-first last bs s

      ends_of-body : (last : Bool) (b : Body) (s : List Var) → ends_of_body n last (XB b) s ≡ FO (ends_of_body m last b s)
      ends_of-body last End s = refl
      ends_of-body last (Then e rest) s =
          ap (λ (b : Bool). cond (last && not b) (ends_of_body n last (XB rest) s) (ends_of n last (XE e) s)) (end-same rest)
          ∙ ap₂ (λ (o p : Option Plain). cond (last && not (is_end rest)) o p) (ends_of-body last rest s) (ends_of-same last e s)
          ∙ choice-image isos tokens (last && not (is_end rest)) (ends_of_body m last rest s) (ends_of m last e s)

      ends_of-each : (last : Bool) (bs : Bodies) (s : List Var) → ends_of_each n last (XS bs) s ≡ map F (ends_of_each m last bs s)
      ends_of-each last NoMore s = refl
      ends_of-each last (More b bs) s =
          ap₂ (λ (fs gs : List Plain). fs ++ gs) (ap option_list (ends_of-body last b s) ∙ list-image isos tokens (ends_of_body m last b s))
          (ends_of-each last bs s)
          ∙ sym (map-append F (option_list (ends_of_body m last b s)) (ends_of_each m last bs s))

      ends_of-first : (last : Bool) (bs : Bodies) (s : List Var) → ends_of_first n last (XS bs) s ≡ FO (ends_of_first m last bs s)
      ends_of-first last NoMore s = refl
      ends_of-first last (More b bs) s = ends_of-body last b s

    ends_of-option : (last : Bool) (o : Option Element) (s : List Var) → ends_of_option n last (XO o) s ≡ FO (ends_of_option m last o s)
    ends_of-option last None s = refl
    ends_of-option last (Some e) s = ends_of-same last e s

    tail-image : (w : List Var) (t : Option Pattern) (f : Plain) → with_tail n w (expanded_option isos tokens t) (F f) ≡ F (with_tail m w t f)
    tail-image w None f = refl
    tail-image w (Some p) f = ap (λ (g : Plain). And (F f) (InBranch 1 g)) (own-image w p (Atom p))

    lone-same : (w : Body) → lone n (XB w) ≡ lone m w
    lone-same w =
        filter-same (λ x. any_body true (λ p. read.stands p x) (XB w)) (λ x. any_body true (λ p. m.reading.stands p x) w)
        (λ x. placing.lone-body isos tokens m.reading read agree w x) m.alone

    inner-same : (b : Body) (w : List Var) → filter (occurs_body read (XB b)) w ≡ filter (occurs_body m.reading b) w
    inner-same b w =
        filter-same (occurs_body read (XB b)) (occurs_body m.reading b) (λ x. placing.occurs-body isos tokens m.reading read agree b x) w

    here-same : (e : Element) (rest : Body) (w : List Var)
        → filter (at_suffix read (XE e) (XB rest)) w ≡ filter (at_suffix m.reading e rest) w
    here-same e rest w =
        filter-same (at_suffix read (XE e) (XB rest)) (at_suffix m.reading e rest)
        (λ x. placing.suffix-same isos tokens m.reading read agree e rest x) w

    rest-same : (e : Element) (rest : Body) (w : List Var)
        → filter (λ x. not (at_suffix read (XE e) (XB rest) x)) w ≡ filter (λ x. not (at_suffix m.reading e rest x)) w
    rest-same e rest w =
        filter-same (λ x. not (at_suffix read (XE e) (XB rest) x)) (λ x. not (at_suffix m.reading e rest x))
        (λ x. ap not (placing.suffix-same isos tokens m.reading read agree e rest x)) w

    part-same : (e : Element) (w v : List Var) → w ≡ v → filter (occurs_element read (XE e)) w ≡ filter (occurs_element m.reading e) v
    part-same e w v h =
        ap (filter (occurs_element read (XE e))) h
        ∙ filter-same (occurs_element read (XE e)) (occurs_element m.reading e)
        (λ x. placing.occurs-element isos tokens m.reading read agree e x) v

    later-same : (e : Element) (w v : List Var) → w ≡ v
        → filter (λ x. not (occurs_element read (XE e) x)) w ≡ filter (λ x. not (occurs_element m.reading e x)) v
    later-same e w v h =
        ap (filter (λ x. not (occurs_element read (XE e) x))) h
        ∙ filter-same (λ x. not (occurs_element read (XE e) x)) (λ x. not (occurs_element m.reading e x))
        (λ x. ap not (placing.occurs-element isos tokens m.reading read agree e x)) v

  mutual
    seq-image : (m : Setting) (read : Reading) (agree : Agree isos tokens m.reading read)
        (before : Option Element) (b : Body) (k l : Follow) (w s t : List Var) → l.start ≡ k.start
        → ((u : List Var) → l.at u ≡ F (k.at u)) → seq (reread read m) (XO before) (XB b) l w s t ≡ F (seq m before b k w s t)
    seq-image m read agree before End k l w s t e g = g t
    seq-image m read agree before (Then e rest) k l w s t h g =
        let here = filter (at_suffix m.reading e rest) w in
        let inside = filter (λ x. not (at_suffix m.reading e rest x)) w in
        let later = filter (λ x. not (occurs_element m.reading e x)) inside in
        let part = filter (occurs_element m.reading e) inside in
        let new_here = filter (at_suffix read (XE e) (XB rest)) w in
        let new_inside = filter (λ x. not (at_suffix read (XE e) (XB rest) x)) w in
        let new_later = filter (λ x. not (occurs_element read (XE e) x)) new_inside in
        let new_part = filter (occurs_element read (XE e)) new_inside in
        let follow : Follow = record { start = start_of rest k.start; at = λ u. seq m (Some e) rest k later (s ++ here) u } in
        let new_follow : Follow =
        record { start = start_of (XB rest) l.start; at = λ u. seq (reread read m) (Some (XE e)) (XB rest) l later (s ++ here) u } in
        ap (λ (hs : List Var).
        exists_all hs
        (elem (reread read m) (XO before) (first_of (XB rest)) (XE e)
        (record { start = start_of (XB rest) l.start; at = λ u. seq (reread read m) (Some (XE e)) (XB rest) l new_later (s ++ hs) u })
        new_part (s ++ hs) (t ++ hs)))
        (here-same m read agree e rest w)
        ∙ ap (λ (ls : List Var).
        exists_all here
        (elem (reread read m) (XO before) (first_of (XB rest)) (XE e)
        (record { start = start_of (XB rest) l.start; at = λ u. seq (reread read m) (Some (XE e)) (XB rest) l ls (s ++ here) u })
        new_part (s ++ here) (t ++ here)))
        (later-same m read agree e new_inside inside (rest-same m read agree e rest w))
        ∙ ap₂ (λ (a : Option Element) (ps : List Var). exists_all here (elem (reread read m) (XO before) a (XE e) new_follow ps (s ++ here) (t ++ here)))
        (first-same rest) (part-same m read agree e new_inside inside (rest-same m read agree e rest w))
        ∙ ap (exists_all here)
        (elem-image m read agree before (first_of rest) e follow new_follow part (s ++ here) (t ++ here) (start-same rest k.start l.start h)
        (λ u. seq-image m read agree (Some e) rest k l later (s ++ here) u h g))
        ∙ exists-image isos tokens here (elem m before (first_of rest) e follow part (s ++ here) (t ++ here))

    elem-image : (m : Setting) (read : Reading) (agree : Agree isos tokens m.reading read)
        (before after : Option Element) (e : Element) (k l : Follow) (w s t : List Var) → l.start ≡ k.start
        → ((u : List Var) → l.at u ≡ F (k.at u)) → elem (reread read m) (XO before) (XO after) (XE e) l w s t ≡ F (elem m before after e k w s t)
    elem-image m read agree before after (bodies.Atom p) k l w s t h g =
        joined-same m.forall_walks (agree.statement p) (own-image m read agree w p (Atom p)) h (g s)
        ∙ joined-image isos tokens m.forall_walks (m.reading.is_statement p) (own m w p (Atom p)) k.start (k.at s)
    elem-image m read agree before after (Compound p bs tail) k l w s t h g =
        let head = own m w p (Atom p) in
        let parts = each m bs nothing w s in
        ap₂ (λ (f q : Plain). And f (After q))
        (ap (with_tail (reread read m) w (expanded_option isos tokens tail))
        (ap₂ (λ (f : Plain) (fs : List Plain). and_all f (in_branches 0 fs)) (own-image m read agree w p (Atom p))
        (each-image m read agree bs nothing nothing w s refl (λ u. refl))
        ∙ ap (and_all (F head)) (in_branches-image isos tokens 0 parts)
        ∙ and-image isos tokens head (in_branches 0 parts))
        ∙ tail-image m read agree w tail (and_all head (in_branches 0 parts)))
        (g s)
    elem-image m read agree before after (Block p b c) k l w s t h g =
        let v = hidden m p in
        let part = filter (occurs_body m.reading b) w in
        ap₂ (λ (f q : Plain). And f (After q))
        (ap₂ (λ (f q : Plain). Exists v (And f (InBranch 0 q))) (own-image m read agree w p (BraceOpen p v))
        (ap (λ (vs : List Var). seq (reread read (within m v)) None (XB b) (closing (reread read m) w (X c) v) vs s s) (inner-same m read agree b w)
        ∙ seq-image (within m v) read agree None b (closing m w c v) (closing (reread read m) w (X c) v) part s s refl
        (λ u. own-image m read agree w c (BraceClose c v))))
        (g s)
    elem-image m read agree before after (Gap ws any strict) k l w s t h g =
        let passed = condition any (stays m.around ++ when_parts m ws s) (ends_of_option m true before t) (ends_of_option m false after s) in
        ap₂ (until m.forall_walks strict)
        (condition-same any (firsts-image isos tokens m.around (when_parts (reread read m) (XS ws) s) (when_parts m ws s) (when-image m read agree ws s))
        (ends_of-option m read agree true before t) (ends_of-option m read agree false after s)
        ∙ condition-image isos tokens any (stays m.around ++ when_parts m ws s) (ends_of_option m true before t) (ends_of_option m false after s))
        (ap₂ (target m.around) h (g s) ∙ target-image isos tokens m.around k.start (k.at s))
        ∙ until-image isos tokens m.forall_walks strict passed (target m.around k.start (k.at s))
    elem-image m read agree before after (Nest plus b ws any strict) k l w s t h g =
        let passed = condition any (stays m.around ++ when_parts m ws s) (ends_of_option m true before t) (ends_of_option m false after s) in
        let part = filter (occurs_body m.reading b) w in
        nested-same m.forall_walks plus strict
        (condition-same any (firsts-image isos tokens m.around (when_parts (reread read m) (XS ws) s) (when_parts m ws s) (when-image m read agree ws s))
        (ends_of-option m read agree true before t) (ends_of-option m read agree false after s)
        ∙ condition-image isos tokens any (stays m.around ++ when_parts m ws s) (ends_of_option m true before t) (ends_of_option m false after s))
        (ap (λ (vs : List Var). seq (reread read m) None (XB b) nothing vs s s) (inner-same m read agree b w)
        ∙ seq-image m read agree None b nothing nothing part s s refl (λ u. refl))
        (ap₂ (target m.around) h (g s) ∙ target-image isos tokens m.around k.start (k.at s))
        ∙ nested-image isos tokens m.forall_walks plus strict passed (seq m None b nothing part s s) (target m.around k.start (k.at s))
    elem-image m read agree before after (AnyOf bs) k l w s t h g =
        ap₂ (λ (fs gs : List Plain). any_of (choices [] fs gs)) (each-image m read agree bs k l w s h g)
        (each-image m read agree bs nothing nothing w s refl (λ u. refl))
        ∙ ap any_of (choices-image isos tokens [] (each m bs k w s) (each m bs nothing w s))
        ∙ any-image isos tokens (choices [] (each m bs k w s) (each m bs nothing w s))
    elem-image m read agree before after (AllOf bs) k l w s t h g = first-image m read agree bs k l w s h g

    each-image : (m : Setting) (read : Reading) (agree : Agree isos tokens m.reading read)
        (bs : Bodies) (k l : Follow) (w s : List Var) → l.start ≡ k.start → ((u : List Var) → l.at u ≡ F (k.at u))
        → each (reread read m) (XS bs) l w s ≡ map F (each m bs k w s)
    each-image m read agree NoMore k l w s h g = refl
    each-image m read agree (More b bs) k l w s h g =
        ap₂ (λ (f : Plain) (fs : List Plain). f ∷ fs)
        (ap (λ (vs : List Var). seq (reread read m) None (XB b) l vs s s) (inner-same m read agree b w)
        ∙ seq-image m read agree None b k l (filter (occurs_body m.reading b) w) s s h g)
        (each-image m read agree bs k l w s h g)

    first-image : (m : Setting) (read : Reading) (agree : Agree isos tokens m.reading read)
        (bs : Bodies) (k l : Follow) (w s : List Var) → l.start ≡ k.start → ((u : List Var) → l.at u ≡ F (k.at u))
        → first_and (reread read m) (XS bs) l w s ≡ F (first_and m bs k w s)
    first-image m read agree NoMore k l w s h g = g s
    first-image m read agree (More b bs) k l w s h g =
        let part = filter (occurs_body m.reading b) w in
        ap₂ and_all
        (ap (λ (vs : List Var). seq (reread read m) None (XB b) l vs s s) (inner-same m read agree b w) ∙ seq-image m read agree None b k l part s s h g)
        (each-image m read agree bs nothing nothing w s refl (λ u. refl))
        ∙ and-image isos tokens (seq m None b k part s s) (each m bs nothing w s)

    when-image : (m : Setting) (read : Reading) (agree : Agree isos tokens m.reading read)
        (ws : Bodies) (s : List Var) → when_parts (reread read m) (XS ws) s ≡ map F (when_parts m ws s)
    when-image m read agree NoMore s = refl
    when-image m read agree (More w ws) s =
        let alone = lone m w in
        ap₂ (λ (f : Plain) (fs : List Plain). Not f ∷ fs)
        (ap (λ (vs : List Var). exists_all vs (seq (reread read m) None (XB w) nothing [] (s ++ vs) (s ++ vs))) (lone-same m read agree w)
        ∙ ap (exists_all alone) (seq-image m read agree None w nothing nothing [] (s ++ alone) (s ++ alone) refl (λ u. refl))
        ∙ exists-image isos tokens alone (seq m None w nothing [] (s ++ alone) (s ++ alone)))
        (when-image m read agree ws s)

  -- the formula of a body
  pub formula-image : (r s : Reading) → Agree isos tokens r s → (forall_walks : Bool) (locals : List Var) (b : Body)
      → formula s forall_walks locals (XB b) ≡ F (formula r forall_walks locals b)
  formula-image r s agree forall_walks locals b =
      let old : Setting = setting r forall_walks locals b in
      let vars = filter (λ x. not (is_alone r b x)) locals in
      let new_vars = filter (λ x. not (is_alone s (XB b) x)) locals in
      ap (λ (vs : List Var).
      seq (record { reading = s; forall_walks = forall_walks; locals = locals; alone = vs; blocks = blocks (XB b); around = None }) None (XB b) nothing
      new_vars [] [])
      (filter-same (is_alone s (XB b)) (is_alone r b) (λ x. placing.alone-same isos tokens r s agree b x) locals)
      ∙ ap₂ (λ (ns : List ℕ) (vs : List Var).
      seq (record { reading = s; forall_walks = forall_walks; locals = locals; alone = filter (is_alone r b) locals; blocks = ns; around = None }) None
      (XB b) nothing vs [] [])
      (blocks-same isos tokens b)
      (filter-same (λ x. not (is_alone s (XB b) x)) (λ x. not (is_alone r b x))
      (λ x. ap not (placing.alone-same isos tokens r s agree b x)) locals)
      ∙ seq-image old s agree None b nothing nothing vars [] [] refl (λ u. refl)
