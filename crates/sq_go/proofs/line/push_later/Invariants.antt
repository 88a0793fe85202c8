use Rattle.std.proofs.Common.{◌≡◌, ◌++◌, take}
use Rattle.std.specs.List.{flat_map}
use Rattle.sq_shown.specs.Lines.{empty_line}
use Rattle.sq_go.proofs.line.push_later.Given as goal

-- the declarations so far are written
abbrev pub invariant-loop-declaration : goal.invariant-loop-declaration
invariant-loop-declaration l = l.out ≡ l.fn.out ++ flat_map (λ declaration. empty_line ++ declaration) (take l.declaration-index l.declarations)
