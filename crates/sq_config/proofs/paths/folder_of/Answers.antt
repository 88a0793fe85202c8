use Rattle.std.proofs.Common.{◌∙◌, Some, None, sym, lit<, add-one}
use Rattle.std.proofs.lemmas.Str.Pattern.{rfind_char}
use Rattle.sq_config.proofs.Folders.{folder_of-none, folder_of-last}
use Rattle.sq_config.proofs.paths.folder_of.Goals as goal

pub returns-in-Some : goal.returns-in-Some
returns-in-Some c =
    let found = rfind_char 47 c.args.path.now (Some c.in-Some.last) c.in-Some.ensures.cases (lit< tt) in
    c.split_at.ensures.front ∙ sym (rw add-one (folder_of-last c.args.path.now c.in-Some.last found.0 found.1 found.2))

pub returns-in-None : goal.returns-in-None
returns-in-None c = sym (folder_of-none c.args.path.now (rfind_char 47 c.args.path.now None c.in-None.ensures.cases (lit< tt)))
