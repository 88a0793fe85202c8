-- Parts of the parser of schema statements under names of their own.
use Rattle.std.specs.Prelude.{ℕ, Bool, true, false, codes, List, []}
use Rattle.sq_syntax.specs.declared.symbol.Reading.{Reading}
use Rattle.sq_syntax.specs.declared.symbol.Symbol.TheVariants as s
use Rattle.sq_syntax.specs.declared.name.QualifiedName.{QualifiedName}
use Rattle.sq_syntax.specs.declared.ddl.Element.{Element}
use Rattle.sq_syntax.specs.declared.ddl.TableAction.{TableAction}
use Rattle.sq_syntax.specs.Schemas.{is_comma}
use Rattle.sq_grammar.specs.Reading.{Parser, ◌>>◌, pure, choose, sees, expect}
use Rattle.sq_grammar.specs.Names.{qualified_name}
use Rattle.sq_grammar.specs.Primaries.{a_text}
use Rattle.sq_grammar.specs.Schemas as spec
use Rattle.sq_grammar.specs.Statements.{sees_word, expect_word}

-- ---- what stands behind a comma

abbrev pub next_name : Parser QualifiedName
next_name = expect s.Comma >> qualified_name

abbrev pub next_label : Parser (List ℕ)
next_label = expect s.Comma >> a_text

abbrev pub next_element : Parser Element
next_element = expect s.Comma >> spec.element

abbrev pub next_action : Parser TableAction
next_action = expect s.Comma >> spec.action

-- ---- words

abbrev pub no_inherit : Parser Bool
no_inherit = choose (sees s.No) (expect s.No >> (expect_word (codes "inherit") >> pure true)) (pure false)

abbrev pub set_data : Parser Bool
set_data = choose (sees_word (codes "set")) (expect_word (codes "set") >> (expect_word (codes "data") >> pure true)) (pure false)

abbrev pub using : Parser (List Reading)
using = choose (sees s.Using) (expect s.Using >> spec.some_run is_comma) (pure [])

abbrev pub star : Parser Bool
star = choose (λ now. spec.begins_sign (codes "*") now.tokens) (expect s.Times >> pure true) (pure false)
