-- Constants, names, parameters and brackets: what is read is spelled by the tokens.
use Rattle.std.proofs.Common.{◌≡◌, ℕ, ◌≤◌, List, [], ◌∷◌, ◌++◌, Option, Some, None, sym, ap, subst, ◌∙◌, arith, inl, inr}
use Rattle.std.specs.Prelude.{if◌then◌else◌}
use Rattle.sq_base.specs.declared.place.Place.{Place}
use Rattle.sq_syntax.specs.declared.symbol.Symbol.TheVariants as s
use Rattle.sq_syntax.specs.declared.symbol.Reading.{Reading}
use Rattle.sq_syntax.specs.declared.symbol.Reading.TheVariants as reading
use Rattle.sq_syntax.specs.declared.name.ColumnName.{ColumnName}
use Rattle.sq_syntax.specs.declared.name.ColumnName.TheVariants as column_name
use Rattle.sq_syntax.specs.declared.expr.Constant.{Constant}
use Rattle.sq_syntax.specs.declared.expr.Parameter.{Parameter}
use Rattle.sq_syntax.specs.declared.expr.Parameter.TheVariants as parameter
use Rattle.sq_syntax.specs.declared.expr.Purpose.{Purpose}
use Rattle.sq_syntax.specs.declared.expr.Moment.{Moment}
use Rattle.sq_syntax.specs.declared.expr.Expression.{Expression}
use Rattle.sq_syntax.specs.declared.expr.Expression.TheVariants as e
use Rattle.sq_syntax.specs.Facts.{Stream, Says, Piece, Sort, built, sorted, marks_of}
use Rattle.sq_syntax.specs.Pieces as p
use Rattle.sq_syntax.specs.Pieces.{at, say, sym as word}
use Rattle.sq_syntax.specs.ExpressionPieces as g
use Rattle.sq_syntax.specs.Grammar.{expression_facts}
use Rattle.sq_syntax.proofs.Equations as q
use Rattle.sq_grammar.specs.Reading.{choose, here, node, token}
use Rattle.sq_grammar.specs.Ahead.{Lexemes}
use Rattle.sq_grammar.specs.Levels.{Expr}
use Rattle.sq_grammar.specs.Primaries.{purpose_of, text_of, a_text, begins_text, constant_at, parameter_at, text_name, word_name, purposed, typed_text, column, moment_at}
use Rattle.sq_grammar.proofs.Complete.{same_some}
use Rattle.sq_grammar.proofs.Takes.{Took, Spells, tree, ◌then◌, said, reads, expected, behind, chosen, given, at_here, noded, tokens_of}
use Rattle.sq_grammar.proofs.TakeNames.{name_took, column_name_took}
use Rattle.sq_grammar.proofs.TakeTypes.{type_took}
use Rattle.sq_grammar.proofs.TakeAffixes.{one_right}

-- ---- the node of a primary

pub primary_took : (form : Expression) (sort : Sort) (pieces : List Piece) → 1 ≤ tokens_of (marks_of pieces) → {begun now next : Stream} {x : Expr} → expression_facts form (here begun) ≡ sorted sort (built 15 1 (at (here begun) ∷ pieces))
    → Took pieces begun now → node begun (here begun) form now ≡ Some (x, next) → Took (tree 15 x) begun next
primary_took form sort pieces one {begun} {now} {next} {x} e f h = noded begun (here begun) form sort 15 1 15 (at (here begun) ∷ pieces) (omega arith) e one (at_here one f) h

-- ---- constants

abbrev pub first_reading : Lexemes → Option Reading
first_reading [] = None
first_reading (x ∷ rest) = Some x.reading

first_said : (r k : Reading) (now next : Stream) → first_reading now.tokens ≡ Some k → Says r now next → r ≡ k
first_said r k now next e h = same_some (sym (ap first_reading h.first) ∙ e)

-- a token that was read as this, whatever it was
any_took : {A : Type 0} (a : A) (k : Reading) (now mid : Stream) (x : A) → first_reading now.tokens ≡ Some k → token (λ r place. Some a) now ≡ Some (x, mid) → (a ≡ x) × Took (say k ∷ []) now mid
any_took a k now mid x e h =
    let r = reads {f = λ reading place. Some a} h in
    (same_some r.is, subst (λ y. Took (say y ∷ []) now mid) (first_said r.reading k now mid e r.says) (said r.reading now mid r.says))

pub constant_took : (c : Constant) (now next : Stream) (x : Expr) → first_reading now.tokens ≡ Some (g.constant_reading c) → constant_at c now ≡ Some (x, next) → Took (tree 15 x) now next
constant_took c now next x ahead h =
    let one = behind h in
    let a = any_took c (g.constant_reading c) now one.mid one.value ahead one.first in
    primary_took (e.Constant one.value) Sort.plain (say (g.constant_reading one.value) ∷ []) (omega arith) (q.facts-constant one.value (here now)) (subst (λ y. Took (say (g.constant_reading y) ∷ []) now one.mid) a.0 a.1) one.second

pub parameter_took : (c : Parameter) (k : Reading) → g.parameter_pieces c ≡ say k ∷ [] → (now next : Stream) (x : Expr) → first_reading now.tokens ≡ Some k → parameter_at c now ≡ Some (x, next) → Took (tree 15 x) now next
parameter_took c k is now next x ahead h =
    let one = behind h in
    let a = any_took c k now one.mid one.value ahead one.first in
    let same : g.parameter_pieces one.value ≡ say k ∷ [] = ap g.parameter_pieces (sym a.0) ∙ is in
    primary_took (e.Parameter one.value) Sort.indexable (say k ∷ []) (omega arith)
    (q.facts-parameter one.value (here now) ∙ ap (λ ps. sorted Sort.indexable (built 15 1 (at (here now) ∷ ps))) same) a.1 one.second

-- ---- names, and what begins with them

some_column : (c : ColumnName) → 1 ≤ tokens_of (marks_of (p.column_name c))
some_column (column_name.Bare x) = omega arith
some_column (column_name.OfRange range x) = omega arith
some_column (column_name.OfTable schema table x) = omega arith

pub column_took : Spells (tree 15) column
unfolding column
column_took now next x h =
    let one = behind h in
    primary_took (e.Column one.value) Sort.indexable (p.column_name one.value) (some_column one.value) (q.facts-column one.value (here now)) (column_name_took now one.mid one.value one.first) one.second

text_is : (r : Reading) (place : Place) (bytes : List ℕ) → text_of r place ≡ Some bytes → reading.Text bytes ≡ r
text_is (reading.Text bytes) place x h = ap (λ b. reading.Text b) (sym (same_some h))
text_is _ place x h = absurd (cc)

pub text_took : Spells (λ bytes. say (reading.Text bytes) ∷ []) a_text
unfolding a_text
text_took now next bytes h =
    let r = reads h in
    subst (λ y. Took (say y ∷ []) now next) (sym (text_is r.reading r.says.place bytes r.is)) (said r.reading now next r.says)

pub typed_text_took : Spells (tree 15) typed_text
unfolding typed_text
typed_text_took now next x h =
    let one = behind h in
    let two = behind one.second in
    let text = say (reading.Text two.value) ∷ [] in
    primary_took (e.TypedText one.value two.value) Sort.plain (p.type one.value ++ text) (one_right (p.type one.value) text (omega arith)) (q.facts-typed_text one.value two.value (here now))
    (type_took now one.mid one.value one.first then text_took one.mid two.mid two.value two.first) two.second

pub moment_took : (m : Moment) → Spells (tree 15) (moment_at m)
moment_took m now next x h =
    let one = behind h in
    primary_took (e.Moment m) Sort.plain (word (g.moment_symbol m) ∷ []) (omega arith) (q.facts-moment m (here now)) (expected one.first) one.second

-- ---- parameters with a name in brackets

purpose_is : (r : Reading) (place : Place) (x : Purpose) → purpose_of r place ≡ Some x → reading.Symbol (g.purpose_symbol x) ≡ r
purpose_is (reading.Symbol s.Arg) place x h = ap (λ y. reading.Symbol (g.purpose_symbol y)) (sym (same_some h))
purpose_is (reading.Symbol s.Narg) place x h = ap (λ y. reading.Symbol (g.purpose_symbol y)) (sym (same_some h))
purpose_is (reading.Symbol s.Slice) place x h = ap (λ y. reading.Symbol (g.purpose_symbol y)) (sym (same_some h))
purpose_is (reading.Symbol _) place x h = absurd (cc)
purpose_is _ place x h = absurd (cc)

purpose_took : Spells (λ x. word (g.purpose_symbol x) ∷ []) (token purpose_of)
purpose_took now next x h =
    let r = reads {f = purpose_of} h in
    subst (λ y. Took (say y ∷ []) now next) (sym (purpose_is r.reading r.says.place x r.is)) (said r.reading now next r.says)

parameter_name_took : Spells g.name_of_parameter (choose (λ now. begins_text now.tokens) text_name word_name)
parameter_name_took now next x h = elim (chosen {b = begins_text now.tokens} h) [
  | inl (b, k) ↦ let one = behind k in given g.name_of_parameter one.second (text_took now one.mid one.value one.first)
  | inr (b, k) ↦ let one = behind k in given g.name_of_parameter one.second (name_took now one.mid one.value one.first)
]

pub purposed_took : Spells (tree 15) purposed
unfolding purposed
purposed_took now next x h =
    let one = behind h in
    let two = behind one.second in
    let three = behind two.second in
    let four = behind three.second in
    let five = behind four.second in
    let six = behind five.second in
    let pieces = word s.Sqlc ∷ word s.Dot ∷ word (g.purpose_symbol three.value) ∷ word s.Open ∷ g.name_of_parameter five.value ++ word s.Close ∷ [] in
    let f : Took pieces now six.mid =
    expected one.first then expected two.first then purpose_took two.mid three.mid three.value three.first then expected four.first then parameter_name_took four.mid five.mid five.value five.first then expected six.first in
    primary_took (e.Parameter (parameter.Called three.value five.value)) Sort.indexable pieces (omega arith) (q.facts-parameter (parameter.Called three.value five.value) (here now)) f six.second
