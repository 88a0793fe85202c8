use Rattle.std.proofs.Common.{◌≡◌, ◌∙◌, ◌+◌, ℕ, Some, None, drop, length, sym, ap, suc, arith, lit<, refl}
use Rattle.std.proofs.lemmas.List.{length-take}
use Rattle.std.proofs.lemmas.Str.Pattern.{rfind_char}
use Rattle.sq_config.specs.Paths.{folder_of}
use Rattle.sq_config.proofs.Folders.{folder_of-none, folder_of-last}
use Rattle.sq_run.proofs.declare.file_name.Goals as goal

pub returns-in-Some : goal.returns-in-Some
returns-in-Some c =
    let found = rfind_char 47 c.args.path.now (Some c.in-Some.last) c.in-Some.ensures.cases (lit< tt) in
    let folder = folder_of-last c.args.path.now c.in-Some.last found.0 found.1 found.2 in
    let size : length (folder_of c.args.path.now) ≡ c.in-Some.last + 1 = omega (arith, ap length folder, length-take (suc c.in-Some.last) c.args.path.now, found.0) in
    c.split_at.ensures.back ∙ ap (λ (n : ℕ). drop n c.args.path.now) (sym size)

pub returns-in-None : goal.returns-in-None
returns-in-None c = rw (folder_of-none c.args.path.now (rfind_char 47 c.args.path.now None c.in-None.ensures.cases (lit< tt))) refl
