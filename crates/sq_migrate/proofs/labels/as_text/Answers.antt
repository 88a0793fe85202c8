use Rattle.std.proofs.Common.{◌≡◌, ◌∙◌, ℕ, Bool, true, false, List, [], refl}
use Rattle.std.specs.Str.{IsUtf8, is_utf8}
use Rattle.std.proofs.lemmas.Str.{IsUtf8-from_is_utf8, is_utf8-from_IsUtf8}
use Rattle.sq_migrate.specs.Labels.{as_text}
use Rattle.sq_migrate.proofs.labels.as_text.Goals as goal

whole : (bytes : List ℕ) → is_utf8 bytes ≡ true → bytes ≡ as_text bytes
whole bytes is = rw is refl

no_text : (bytes : List ℕ) (b : Bool) → is_utf8 bytes ≡ b → (IsUtf8 bytes → ⊥) → [] ≡ as_text bytes
no_text bytes true is none = absurd (none (IsUtf8-from_is_utf8 bytes is))
no_text bytes false is none = rw is refl

pub returns-in-Ok : goal.returns-in-Ok
returns-in-Ok c = c.in-Ok.ensures.cases.0 ∙ whole c.args.bytes.now (is_utf8-from_IsUtf8 c.args.bytes.now c.in-Ok.ensures.cases.1)

pub returns-in-Err : goal.returns-in-Err
returns-in-Err c = no_text c.args.bytes.now (is_utf8 c.args.bytes.now) refl c.in-Err.ensures.cases.0
