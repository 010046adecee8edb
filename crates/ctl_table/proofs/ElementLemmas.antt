-- Elements as what follows, and dots whose parts are made.
use Rattle.std.proofs.Common.{◌≡◌, ℕ, Bool, true, false, ◌&&◌, nat_lt, cond, if◌then◌else◌, refl, sym, ap, ◌∙◌, List, ◌++◌}
use Rattle.std.proofs.Common.{length, Option, None}
use Rattle.smpl_terms.specs.declared.var.Var.{Var}
use Rattle.smpl_patch.specs.Bodies.{Element}
use Rattle.ctl_formula.specs.Plain.{Plain}
use Rattle.ctl_formula.specs.declared.node.Node.{Node}
use Rattle.ctl_formula.specs.Tables.{at, plains, Grows, Makes}
use Rattle.ctl_formula.proofs.TableLemmas.{grows-trans}
use Rattle.pattern_vars.specs.VarPlaces.Placing.{is_dots}
use Rattle.ctl_table.specs.Table as table
use Rattle.pattern_vars.specs.declared.var_places.place.Place.{Place}
use Rattle.ctl_table.specs.declared.follow.NestPart.{NestPart}
use Rattle.ctl_table.specs.declared.follow.DotsContinuation.{DotsContinuation}
use Rattle.ctl_table.specs.declared.follow.Continuation.{Continuation}
use Rattle.ctl_table.specs.declared.follow.Continuation.TheVariants as made
use Rattle.ctl_table.specs.declared.follow.Start.TheVariants as start
use Rattle.ctl_table.specs.Settings.{parts_at, some_at, dots_below, passed, suffix_at, start_with, dots_row, dots_before, MakesFollow}
use Rattle.ctl_table.proofs.MakingLemmas.{all-stay, lt-test, both-true}
use Rattle.ctl_table.proofs.FollowLemmas.{some-stays, passed-stays, dots-firsts, dots-after, dots-nest, dots-stand}

pub part-made : (m : table.Setting) (a b : List Node) (f i : ℕ) (here : List Var) → Makes a b i (table.exists_all here (at (plains a) f))
    → MakesFollow m a b (made.Part start.Other i) table.Other (λ before t. table.exists_all here (at (plains a) f))
part-made m a b f i here x = record { within = lt-test i (length b) x.within; starts = refl; first = refl; is = λ before t. x.is; grows = x.grows }

pub condition-skip : (any : Bool) (ws : List Plain) (b n : Option Plain) → table.condition any ws b (if any then None else n) ≡ table.condition any ws b n
condition-skip true ws b n = refl
condition-skip false ws b n = refl

-- dots whose parts are made, before what follows them
pub dots-made : (m : table.Setting) (a b e : List Node) (d : DotsContinuation) (k : table.Follow) (s : List Var) (g i : ℕ)
    → dots_below (length a) d ≡ true → Makes a b g (k.at s) → Makes b e i (table.target m.around k.start (at (plains b) g))
    → MakesFollow m a e (made.Dots d i None) table.Dots (dots_before (plains a) m d k s)
dots-made m a b e d k s g i w y z =
    let ae = grows-trans a b e y.grows z.grows in
    let stand = dots-stand a e d ae w in
    let firsts_are : parts_at e d.firsts.items ≡ parts_at a d.firsts.items = all-stay a e d.firsts.items ae (dots-firsts (length a) d w) in
    let after_is : some_at (plains e) d.after ≡ some_at (plains a) d.after = some-stays a e d.after ae (dots-after (length a) d w) in
    let target_is : at (plains e) i ≡ table.target m.around k.start (k.at s) = z.is ∙ ap (table.target m.around k.start) y.is in
    record {
      within = both-true (dots_below (length e) d && nat_lt i (length e)) true
          (both-true (dots_below (length e) d) (nat_lt i (length e)) stand (lt-test i (length e) z.within)) refl;
      starts = refl;
      first = refl;
      is = λ before t.
          let ends_of = table.ends_of_option m true before (t ++ d.here) in
          ap (λ (v : List Plain). table.exists_all d.here
          (passed (plains e) m.forall_walks d.nest d.strict (table.condition d.any v ends_of (some_at (plains e) d.after)) (at (plains e) i))) firsts_are
          ∙ ap (λ (v : Option Plain). table.exists_all d.here
          (passed (plains e) m.forall_walks d.nest d.strict (table.condition d.any (parts_at a d.firsts.items) ends_of v) (at (plains e) i))) after_is
          ∙ ap (λ (v : Plain). table.exists_all d.here
          (passed (plains e) m.forall_walks d.nest d.strict
          (table.condition d.any (parts_at a d.firsts.items) ends_of (some_at (plains a) d.after)) v)) target_is
          ∙ ap (table.exists_all d.here) (passed-stays a e m.forall_walks d.nest d.strict
          (table.condition d.any (parts_at a d.firsts.items) ends_of (some_at (plains a) d.after))
          (table.target m.around k.start (k.at s)) ae (dots-nest (length a) d w));
      grows = ae;
    }

-- an element other than dots, as the suffix that begins with it
pub part-row : (m : table.Setting) (a b c : List Node) (after : Option Element) (x y : Element) (k : table.Follow) (p : Place)
    (f : ℕ) (g : Continuation) (h : Plain) → x ≡ y → is_dots y ≡ false
    → Makes a b f h → ((before : Option Element) (t : List Var) → h ≡ table.elem m before after y k p.inside p.scope t)
    → MakesFollow m b c g table.Other (λ before t. table.exists_all p.here (at (plains b) f))
    → MakesFollow m a c g (start_with x) (suffix_at m after x k p)
part-row m a b c after x y k p f g h q n u e z = record {
  within = z.within;
  first = z.first;
  starts = z.starts ∙ sym (ap start_with q ∙ ap (λ (v : Bool). cond v table.Dots table.Other) n);
  is = λ before t. z.is before t ∙ ap (table.exists_all p.here) (u.is ∙ e before (t ++ p.here))
      ∙ sym (ap (λ (v : Element). suffix_at m after v k p before t) q);
  grows = grows-trans a b c u.grows z.grows;
}

-- dots, as the suffix that begins with them
pub dots-row : (m : table.Setting) (a b c : List Node) (after : Option Element) (x y : Element) (k l : table.Follow) (p : Place)
    (g : Continuation) (vs ws : List Plain) (any strict : Bool) (nest : Option NestPart) → x ≡ y → is_dots y ≡ true
    → Grows a b → vs ≡ ws → l ≡ k
    → ((before : Option Element) (t : List Var) → dots_row m b before after ws any strict nest k p t ≡ suffix_at m after y k p before t)
    → MakesFollow m b c g table.Dots (λ before t. dots_row m b before after vs any strict nest l p t)
    → MakesFollow m a c g (start_with x) (suffix_at m after x k p)
dots-row m a b c after x y k l p g vs ws any strict nest q n s v f e z = record {
  within = z.within;
  first = z.first;
  starts = z.starts ∙ sym (ap start_with q ∙ ap (λ (w : Bool). cond w table.Dots table.Other) n);
  is = λ before t. z.is before t ∙ ap (λ (w : List Plain). dots_row m b before after w any strict nest l p t) v
      ∙ ap (λ (w : table.Follow). dots_row m b before after ws any strict nest w p t) f
      ∙ e before t ∙ sym (ap (λ (w : Element). suffix_at m after w k p before t) q);
  grows = grows-trans a b c s z.grows;
}
