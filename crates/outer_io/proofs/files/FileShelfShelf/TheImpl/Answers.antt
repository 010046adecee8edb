-- A shelf that reveals nothing satisfies the clauses about the content that is stored.
use Rattle.std.proofs.Common.{◌≡◌, Result, Ok, Err, OnOk, OnErr, refl, false, true}
use Rattle.outer_io.proofs.files.FileShelfShelf.TheImpl.Goals as goal

at_ok : {T E : Type 0} (result : Result T E) (P : Type 0) → P → OnOk result P
at_ok (Ok value) P holds = holds
at_ok (Err error) P holds = tt

at_err : {T E : Type 0} (result : Result T E) (P : Type 0) → P → OnErr result P
at_err (Ok value) P holds = tt
at_err (Err error) P holds = holds

pub store-tells : goal.store-tells
store-tells g c = record {
  ok = at_ok c.result _ refl;
  err = at_err c.result _ refl;
  counts_ok = c.ensures.counts_ok;
  counts_failed = c.ensures.counts_failed;
  no_memory = c.ensures.no_memory;
  changed = λ told. let never : false ≡ true = told in absurd (cc);
  not_absent = c.ensures.not_absent;
  not_too_long = c.ensures.not_too_long;
  cause = c.ensures.cause;
}
