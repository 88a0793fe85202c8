use Rattle.std.proofs.Common.{◌≡◌, ℕ, Bool, true, false, List, None, refl, sym}
use Rattle.std.specs.Str.{IsUtf8, is_utf8}
use Rattle.std.proofs.lemmas.Str.{IsUtf8-from_is_utf8, is_utf8-from_IsUtf8}
use Rattle.serde_json.specs.Read.{read}
use Rattle.sq_config.specs.Json.{json_value}
use Rattle.sq_config.proofs.configuration.json.json_value.Goals as goal

no_value : (bytes : List ℕ) (b : Bool) → is_utf8 bytes ≡ b → (IsUtf8 bytes → read bytes ≡ None) → None ≡ json_value bytes
no_value bytes true is none = rw is (sym (none (IsUtf8-from_is_utf8 bytes is)))
no_value bytes false is none = rw is refl

pub returns-in-Ok : goal.returns-in-Ok
returns-in-Ok c = rw (is_utf8-from_IsUtf8 c.args.bytes.now c.in-Ok.ensures.ok.0) (sym c.in-Ok.ensures.ok.1)

pub returns-else-is_memory : goal.returns-else-is_memory
returns-else-is_memory c = no_value c.args.bytes.now (is_utf8 c.args.bytes.now) refl (c.in-Err.ensures.err (λ memory. let is = c.is_memory.ensures.1 memory in cc))
