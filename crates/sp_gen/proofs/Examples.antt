-- The statements of one function, computed.
use Rattle.std.specs.Prelude.{◌≡◌, [], ◌++◌, codes, refl}
use Rattle.std.specs.Fmt.{decimal}
use Rattle.sp_gen.specs.Generated.{statement, after_statement, statements}

-- the first function of seed 1: three calls, a loop, and two assignments of 9
six_statements : statements 6 1 ≡
    codes "\tx = p(a);\n" ++ (codes "\tx = p(a);\n" ++ (codes "\tx = p(a);\n" ++ (codes "\twhile (a)\n\t\th(a);\n"
    ++ ((codes "\ta = g(a, " ++ decimal 9 ++ codes ");\n") ++ ((codes "\ta = g(a, " ++ decimal 9 ++ codes ");\n") ++ [])))))
unfolding statement after_statement statements
six_statements = refl
