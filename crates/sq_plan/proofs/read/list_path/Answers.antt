use Rattle.sq_plan.proofs.Files.{list_folder, list_found, list_halted}
use Rattle.sq_plan.proofs.read.list_path.Goals as goal

pub returns-in-Ok-File : goal.returns-in-Ok-File
returns-in-Ok-File g c = let answered = rw c.in-Ok-File.field-0-is at c.in-Ok-File.ensures in list_found c.args.purpose c.found_file.result answered.call answered.answer c.found_file.ensures

pub returns-in-Ok-Folder : goal.returns-in-Ok-Folder
returns-in-Ok-Folder g c = let answered = rw c.in-Ok-Folder.field-0-is at c.in-Ok-Folder.ensures in list_folder c.args.purpose c.found_files.result answered.call answered.answer c.found_files.ensures

pub returns-in-Err : goal.returns-in-Err
returns-in-Err g c = list_halted c.args.purpose c.halt.result c.in-Err.ensures.call c.in-Err.ensures.answer c.halt.ensures
