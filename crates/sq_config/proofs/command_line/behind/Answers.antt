use Rattle.std.proofs.Common.{◌≡◌, ℕ, true, false, List, drop, Option, None, Some, refl, ◌∙◌, ap, Bor}
use Rattle.std.specs.Option.{option_copied, MatchOption}
use Rattle.std.specs.Str.Pattern.{FindsTextPrefix, StripsPrefix}
use Rattle.std.proofs.lemmas.Str.Pattern.{starts_text}
use Rattle.sq_base.specs.Files.{behind}
use Rattle.sq_config.proofs.command_line.behind.Goals as goal

stripped : (start path : List ℕ) (r : Option (Bor (List ℕ))) → MatchOption r (FindsTextPrefix start path None) (λ x. StripsPrefix (FindsTextPrefix start) path x.now) → option_copied r ≡ behind start path
stripped start path None lacks = rw (← starts_text false start path lacks) refl
stripped start path (Some x) strips =
    rw (← starts_text true start path (strips.0, strips.1, rw strips.1.0 strips.1.2)) (ap Some (strips.2 ∙ ap (λ (n : ℕ). drop n path) strips.1.0))

pub returns : goal.returns
returns c = stripped c.args.start.now c.args.word.now c.strip_prefix.result c.strip_prefix.ensures.cases
