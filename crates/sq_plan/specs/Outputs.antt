-- The outputs of a block's entries, which have no options so far.
use Rattle.std.specs.Prelude.{ℕ, List, [], ◌∷◌, Result, Ok, Err}
use Rattle.sq_config.specs.declared.configuration.Entry.{Entry}
use Rattle.sq_config.specs.declared.configuration.OptionPair.{OptionPair}
use Rattle.sq_shown.specs.Identifiers.{package_name}
use Rattle.sq_plan.specs.declared.halt.Finding.{Finding}
use Rattle.sq_plan.specs.declared.outputs.Output.{Output}
use Rattle.sq_plan.specs.declared.read.Role.TheVariants.{Configuration}
use Rattle.sq_plan.specs.Reading.{not_yet}

-- the output of an entry with these options
abbrev pub output_by : List ℕ → Entry → List OptionPair → Result (List Output) (List Finding)
output_by path entry [] = Ok (record { path = entry.path; package_name = package_name entry.options.out } ∷ [])
output_by path entry (pair ∷ pairs) = Err (not_yet Configuration path ∷ [])

-- the output of an entry
abbrev pub output_of_entry : List ℕ → Entry → Result (List Output) (List Finding)
output_of_entry path entry = output_by path entry entry.options.pairs
