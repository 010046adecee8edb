-- A shelf that reveals nothing satisfies the clauses about the content that is loaded.
use Rattle.std.proofs.Common.{Result, Ok, Err, IfOk, refl}
use Rattle.outer_io.proofs.files.FileShelfLoads.TheImpl.Goals as goal

at_ok : {T E : Type 0} (result : Result T E) (P : T → Type 0) → ((value : T) → P value) → IfOk result P
at_ok (Ok value) P holds = holds value
at_ok (Err error) P holds = tt

pub load-tells : goal.load-tells
load-tells g c = record {
  same = refl;
  no_store = c.ensures.no_store;
  bytes = at_ok c.result _ (λ _. tt);
  within = c.ensures.within;
  absent = c.ensures.not_absent;
  too_long = λ _. tt;
  cause = c.ensures.cause;
}
