-- The configuration that bytes are read as, or why they are refused.
use Rattle.std.specs.Prelude.{◌≡◌, ℕ, List, [], Option, None, Some, Result, Ok, Err}
use Rattle.std.specs.Option.{option_map, option_map_or, option_or}
use Rattle.serde_json.specs.Data.{Data}
use Rattle.sq_base.specs.declared.code.Code.{Code}
use Rattle.sq_base.specs.declared.code.Code.TheVariants.{BadJson, BadKey, NoWriter, SameOut}
use Rattle.sq_config.specs.declared.configuration.Block.{Block}
use Rattle.sq_config.specs.declared.configuration.Configuration.{Configuration}
use Rattle.sq_config.specs.declared.configuration.BadConfiguration.{BadConfiguration}
use Rattle.sq_config.specs.declared.configuration.Unread.{Unread}
use Rattle.sq_config.specs.declared.configuration.Unread.TheVariants.{Bad, Memory}
use Rattle.sq_config.specs.Json.{json_value}
use Rattle.sq_config.specs.Meaning.{meaning_of}
use Rattle.sq_config.specs.Outs.{all_entries, same_out, other_writer}
use Rattle.sq_config.specs.Shape.{bad_key}

-- a refusal with the text that it keeps
abbrev pub refused : Code → List ℕ → BadConfiguration
refused code first = record { code = code; first = first }

-- what is bad first in the outputs: an entry with the path of an earlier one, then a writer that is not there
abbrev pub bad_out : List Block → Option BadConfiguration
bad_out blocks = option_or (option_map (refused SameOut) (same_out (all_entries blocks))) (option_map (refused NoWriter) (other_writer (all_entries blocks)))

-- a refusal, unless there is nothing bad
abbrev pub unless_bad : Option BadConfiguration → Result Configuration BadConfiguration → Result Configuration BadConfiguration
unless_bad None answer = answer
unless_bad (Some bad) answer = Err bad

-- a configuration, unless its outputs are bad
abbrev pub with_good_outs : Configuration → Result Configuration BadConfiguration
with_good_outs configuration = unless_bad (bad_out configuration.blocks) (Ok configuration)

-- what a value in this folder is read as: its keys are judged before its outputs
abbrev pub read_value : List ℕ → Data → Result Configuration BadConfiguration
read_value folder value = unless_bad (option_map (refused BadKey) (bad_key value)) (with_good_outs (meaning_of folder value))

-- what the bytes of a configuration in this folder are read as
abbrev pub configuration_of : List ℕ → List ℕ → Result Configuration BadConfiguration
configuration_of folder bytes = option_map_or (read_value folder) (json_value bytes) (Err (refused BadJson []))

-- a call answers so, unless memory is wanting
abbrev pub Configures : Result Configuration BadConfiguration → Result Configuration Unread → Type 0
Configures answer (Ok configuration) = answer ≡ Ok configuration
Configures answer (Err (Bad bad)) = answer ≡ Err bad
Configures answer (Err Memory) = Unit {0}
