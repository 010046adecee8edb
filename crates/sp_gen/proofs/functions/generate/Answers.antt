use Rattle.std.proofs.Common.{◌≡◌, ◌++◌, sym, ap, ◌∙◌, arith, add-one, zero-add}
use Rattle.sp_gen.specs.Generated.{first_state, function, functions_from, after_statements, generated}
use Rattle.sp_gen.proofs.Statements.{no_functions, no_function, functions_more, after_functions, after_functions_more}
use Rattle.sp_gen.proofs.Lengths.{short_enough}
use Rattle.sp_gen.proofs.functions.generate.Goals as goal

pub loop-k-init : goal.loop-k-init
loop-k-init c = record {
  text = c.new-text.ensures.items ∙ sym (no_functions 0 (first_state c.args.seed));
  state = c.new-draws.ensures ∙ sym (no_function (first_state c.args.seed));
}

pub loop-k-preserved : goal.loop-k-preserved
loop-k-preserved c =
    let s = first_state c.args.seed in
    let k = c.loop-k.k in
    record {
      text = c.in_ok-put_function.ensures.text
          ∙ ap (λ t. t ++ function k c.loop-k.draws.state) c.loop-k.invariant.text
          ∙ ap (λ d. functions_from k 0 s ++ function k d) c.loop-k.invariant.state
          ∙ ap (λ j. functions_from k 0 s ++ function j (after_functions k s)) (sym (zero-add k))
          ∙ sym (functions_more k 0 s)
          ∙ ap (λ n. functions_from n 0 s) (sym (add-one k));
      state = c.in_ok-put_function.ensures.state
          ∙ ap (after_statements 6) c.loop-k.invariant.state
          ∙ sym (after_functions_more k s)
          ∙ ap (λ n. after_functions n s) (sym (add-one k));
    }

pub returns-clause-fits_a_file : goal.returns-clause-fits_a_file
returns-clause-fits_a_file c few =
    let all : c.loop-k.k ≡ c.args.functions = omega arith in
    let whole : c.loop-k.text.items ≡ generated c.args.seed c.args.functions =
    c.loop-k.invariant.text ∙ ap (λ n. functions_from n 0 (first_state c.args.seed)) all in
    rw whole (short_enough c.args.seed c.args.functions few)
