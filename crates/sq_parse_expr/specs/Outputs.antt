-- Parts of the parser of queries under names of their own.
use Rattle.std.specs.Prelude.{List, []}
use Rattle.sq_syntax.specs.declared.name.Identifier.{Identifier}
use Rattle.sq_syntax.specs.declared.symbol.Symbol.TheVariants as s
use Rattle.sq_syntax.specs.declared.query.Factor.{Factor}
use Rattle.sq_syntax.specs.declared.query.Operands.{Operands}
use Rattle.sq_syntax.specs.declared.query.Output.{Output}
use Rattle.sq_syntax.specs.declared.query.Output.TheVariants as output_kind
use Rattle.sq_syntax.specs.declared.query.Query.{Query}
use Rattle.sq_grammar.specs.Reading.{Parser, ◌>>=◌, ◌>>◌, pure, choose, sees, expect}
use Rattle.sq_grammar.specs.Levels.{Expr}
use Rattle.sq_grammar.specs.Queries.{names, begins_star_of, star_of, value, operands, tight_operation, factor}

-- the names behind OF
abbrev pub locked_names : Parser (List Identifier)
locked_names = choose (sees s.Of) (expect s.Of >> names) (pure [])

module _ (expr : Parser Expr) (inner : Parser Query) where
  abbrev pub output_form : Parser (Output Expr)
  output_form = choose (sees s.Times) (expect s.Times >> pure output_kind.Star)
      (choose (λ now. begins_star_of now.tokens) (star_of expr inner) (value expr inner))

  abbrev pub tight_operands : Parser (Operands Factor)
  tight_operands = operands (sees s.Intersect) tight_operation (factor expr inner)
