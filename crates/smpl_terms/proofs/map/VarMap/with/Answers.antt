use Rattle.std.proofs.Common.{◌≡◌, sym, ap, subst, ◌∙◌, arith}
use Rattle.std.specs.List.{insert}
use Rattle.smpl_terms.specs.Vars.{Rising, place_of}
use Rattle.smpl_terms.proofs.PairLemmas.{place-le-length, absent_at, Rising-insert_at}
use Rattle.smpl_terms.proofs.map.VarMap.with.Goals as goal

pub insert-requires : goal.insert-requires
insert-requires g c = let h = place-le-length c.args.v.now c.deref.result.now in omega (arith, c.deref.ensures.len, c.place-at.ensures)

-- the copies are the pairs
copies : (g : _) (c : goal.In_ok-insert g) → c.in_ok-pairs.pairs.items ≡ c.args.self.now
copies g c = c.in_ok-pairs.ensures ∙ c.pairs.ensures.pairs

pub of-requires : goal.of-requires
of-requires g c =
    let at : c.place-at.result ≡ place_of c.args.v.now c.args.self.now = c.place-at.ensures ∙ ap (place_of c.args.v.now) (c.deref.ensures.value ∙ copies g c) in
    record {
      rising =
          subst Rising (sym (c.in_ok-insert.ensures.items
          ∙ (λ i. insert (copies g c i) c.place-at.result (c.in_ok-copy.ensures.same i, c.in_ok-copied.field-0))))
          (Rising-insert_at c.args.v.now c.in_ok-copied.field-0 (c.args.v.now, c.in_ok-copied.field-0) c.args.self.now c.place-at.result at
          c.pairs.ensures.rising
          (absent_at c.args.self.now c.place-at.result c.args.v.now (c.args.v.now, c.in_ok-copied.field-0) c.requires.absent));
    }
