-- Chains and prefixes of expressions are read over the parser of their operands.
use Rattle.std.specs.Prelude.{ℕ, Bool, true, false, ◌&&◌, ◌||◌, not, List, [], ◌∷◌, Option, Some, None}
use Rattle.sq_base.specs.declared.place.Place.{Place}
use Rattle.sq_syntax.specs.declared.symbol.Symbol.TheVariants as s
use Rattle.sq_syntax.specs.declared.symbol.Reading.{Reading}
use Rattle.sq_syntax.specs.declared.symbol.Reading.TheVariants as reading
use Rattle.sq_syntax.specs.declared.expr.Node.{Node}
use Rattle.sq_syntax.specs.declared.expr.Conversion.{Conversion}
use Rattle.sq_syntax.specs.declared.expr.Sign.{Sign}
use Rattle.sq_syntax.specs.declared.expr.Collation.{Collation}
use Rattle.sq_syntax.specs.declared.expr.Joint.{Joint}
use Rattle.sq_syntax.specs.declared.expr.Link.{Link}
use Rattle.sq_syntax.specs.declared.expr.Operator.{Operator}
use Rattle.sq_syntax.specs.declared.expr.Expression.{Expression}
use Rattle.sq_syntax.specs.declared.expr.Expression.TheVariants as e
use Rattle.sq_syntax.specs.Facts.{Stream}
use Rattle.sq_syntax.specs.Symbols.{words}
use Rattle.sq_syntax.specs.ExpressionPieces.{chain_level, is_level}
use Rattle.sq_grammar.specs.Reading.{Parser, ◌>>=◌, ◌>>◌, pure, begins_both, sees, expect, token, here, node, many}
use Rattle.sq_grammar.specs.Ahead.{Lexemes, operator_of, begins_quantifier}
use Rattle.sq_grammar.specs.Names.{name, type}

abbrev pub Expr : Type 0
Expr = Node Expression

-- ---- chains and prefixes, over the parser of their operands

abbrev pub chained : {L : Type 0} → Stream → (L → Place) → (Expr → List L → Expression) → Expr → List L → Parser Expr
chained start place make first [] = pure first
chained start place make first (l ∷ links) = node start (place l) (make first (l ∷ links))

-- an operand and links, as long as one begins
abbrev pub chain : {L : Type 0} → (Stream → Bool) → Parser L → (L → Place) → (Expr → List L → Expression) → Parser Expr → Parser Expr
chain more link place make operand start = (operand >>= (λ first. many more link >>= (λ links. chained start place make first links))) start

abbrev pub prefixed : {L : Type 0} → Stream → (L → Place) → (List L → Expr → Expression) → List L → Expr → Parser Expr
prefixed start place make [] operand = pure operand
prefixed start place make (l ∷ marks) operand = node start (place l) (make (l ∷ marks) operand)

abbrev pub prefix : {L : Type 0} → (Stream → Bool) → Parser L → (L → Place) → (List L → Expr → Expression) → Parser Expr → Parser Expr
prefix more mark place make operand start = (many more mark >>= (λ marks. operand >>= (λ x. prefixed start place make marks x))) start

-- ---- levels over the parser of what stands higher

abbrev pub joint : Parser (Unit {0}) → Parser Expr → Parser (Joint Expr)
joint words operand now = (words >> (operand >>= (λ x. pure (record { place = here now; operand = x })))) now

abbrev pub joint_place : Joint Expr → Place
joint_place x = x.place

abbrev pub zone_words : Parser (Unit {0})
zone_words = do
  expect s.At
  expect s.Time
  expect s.Zone

abbrev pub zone_link : Parser Expr → Parser (Joint Expr)
zone_link = joint zone_words

unfoldable pub zoned : Parser Expr → Parser Expr
zoned operand = chain (λ now. begins_both s.At s.Time now.tokens) (zone_link operand) joint_place e.AtTimeZone operand

-- an operator of a chain of this level, with no quantifier behind it
abbrev pub links_at : ℕ → Option Operator → Lexemes → Bool
links_at level None rest = false
links_at level (Some x) rest = is_level level (chain_level x) && not (begins_quantifier rest)

abbrev pub begins_link : ℕ → Lexemes → Bool
begins_link level [] = false
begins_link level (x ∷ rest) = links_at level (operator_of x.reading) rest

unfoldable pub sees_link : ℕ → Stream → Bool
sees_link level now = begins_link level now.tokens

abbrev pub operator_at : Reading → Place → Option Operator
operator_at r place = operator_of r

unfoldable pub an_operator : Parser Operator
an_operator = token operator_at

abbrev pub link : Parser Expr → Parser (Link Expr)
link operand now = (an_operator >>= (λ x. operand >>= (λ y. pure (record { place = here now; operator = x; operand = y })))) now

abbrev pub link_place : Link Expr → Place
link_place x = x.place

unfoldable pub operation : ℕ → Parser Expr → Parser Expr
operation level operand = chain (sees_link level) (link operand) link_place e.Operation operand

unfoldable pub conjunction : Parser Expr → Parser Expr
conjunction operand = chain (sees s.And) (joint (expect s.And) operand) joint_place e.And operand

unfoldable pub disjunction : Parser Expr → Parser Expr
disjunction operand = chain (sees s.Or) (joint (expect s.Or) operand) joint_place e.Or operand

unfoldable pub collation : Parser Collation
collation now = (expect s.Collate >> (name >>= (λ x. pure (record { place = here now; name = x })))) now

abbrev pub collation_place : Collation → Place
collation_place x = x.place

unfoldable pub collated : Parser Expr → Parser Expr
collated operand = chain (sees s.Collate) collation collation_place e.Collated operand

unfoldable pub conversion : Parser Conversion
conversion now = (expect s.Colons >> (type >>= (λ x. pure (record { place = here now; to = x })))) now

abbrev pub conversion_place : Conversion → Place
conversion_place x = x.place

unfoldable pub converted : Parser Expr → Parser Expr
converted operand = chain (sees s.Colons) conversion conversion_place e.Converted operand

abbrev pub sees_sign : Stream → Bool
sees_sign now = sees s.Minus now || sees s.Plus now

abbrev pub sign_of : Reading → Place → Option Sign
sign_of (reading.Symbol s.Minus) place = Some (record { place = place; is_minus = true })
sign_of (reading.Symbol s.Plus) place = Some (record { place = place; is_minus = false })
sign_of _ place = None

unfoldable pub sign : Parser Sign
sign = token sign_of

abbrev pub sign_place : Sign → Place
sign_place x = x.place

unfoldable pub signed : Parser Expr → Parser Expr
signed operand = prefix sees_sign sign sign_place e.Signed operand

unfoldable pub negation : Parser Place
negation now = (expect s.Not >> pure (here now)) now

unfoldable pub negated : Parser Expr → Parser Expr
negated operand = prefix (sees s.Not) negation (λ place. place) e.Not operand
