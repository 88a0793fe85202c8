use Rattle.std.proofs.Common.{◌≡◌, ◌++◌, map, take}
use Rattle.std.specs.List.{flat_map}
use Rattle.sq_shown.specs.Layout.{import_line}
use Rattle.sq_go.proofs.line.push_import_lines.Given as goal

-- the imports so far are written
abbrev pub invariant-loop-path : goal.invariant-loop-path
invariant-loop-path l = l.out ≡ l.fn.out ++ flat_map import_line (map (λ path. path.now) (take l.path-index l.paths))
