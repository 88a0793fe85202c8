-- What a query begins with, and that brackets which hold one hold no names.
use Rattle.std.proofs.Common.{◌≡◌, Bool, true, false, List, [], ◌∷◌, refl, ap, subst, ◌∙◌}
use Rattle.std.specs.Prelude.{◌&&◌}
use Rattle.sq_syntax.specs.declared.symbol.Symbol.TheVariants as s
use Rattle.sq_syntax.specs.declared.symbol.Reading.{Reading}
use Rattle.sq_syntax.specs.declared.symbol.Reading.TheVariants as reading
use Rattle.sq_syntax.specs.declared.symbol.Lexeme.{Lexeme}
use Rattle.sq_syntax.specs.declared.expr.Expression.TheOpen.{Factor-F}
use Rattle.sq_syntax.specs.declared.query.Query.{Query, out-Query}
use Rattle.sq_syntax.specs.declared.query.Factor.{out-Factor}
use Rattle.sq_syntax.specs.declared.query.Select.{out-Select}
use Rattle.sq_syntax.specs.declared.query.With.{With}
use Rattle.sq_syntax.specs.Facts.{Mark, Stream, Says, Along, Facts, marks_of}
use Rattle.sq_syntax.specs.Symbols.{is_name}
use Rattle.sq_syntax.specs.Pieces as p
use Rattle.sq_syntax.specs.Pieces.{at}
use Rattle.sq_syntax.specs.QueryPieces.{query_layer, factor_layer, select_layer}
use Rattle.sq_syntax.specs.Grammar.{factor_facts, query_facts, select_facts}
use Rattle.sq_grammar.specs.Reading.{is, same}
use Rattle.sq_grammar.specs.Ahead.{Lexemes}
use Rattle.sq_grammar.specs.Statements.{begins_names}
use Rattle.sq_grammar.proofs.Runs.{along_split}
use Rattle.sq_grammar.proofs.Begins.{head_fits}
use Rattle.sq_grammar.proofs.Layers.{QueryLayer, FactorLayer, factor_parts, factor_out, query_out, select_out}
use Rattle.sq_grammar.proofs.QueryFacts.{query_with, query_parts_of, select_parts_of}
use Rattle.sq_grammar.proofs.HoldsQuery.{rest_of}

abbrev pub starts_query : Reading → Bool
starts_query (reading.Symbol s.Select) = true
starts_query (reading.Symbol s.With) = true
starts_query (reading.Symbol s.Open) = true
starts_query _ = false

unnamed_start : (r : Reading) → starts_query r ≡ true → is_name r ≡ false
unnamed_start (reading.Symbol s.Select) h = refl
unnamed_start (reading.Symbol s.With) h = refl
unnamed_start (reading.Symbol s.Open) h = refl
unnamed_start (reading.Symbol _) h = absurd (cc)
unnamed_start _ h = absurd (cc)

pub no_bracket : (x : Lexeme) (rest : Lexemes) → is s.Open x.reading ≡ false → begins_names (x ∷ rest) ≡ false
no_bracket x [] h = refl
no_bracket x (y ∷ rest) h = rw h refl

and_unnamed : (b c : Bool) → c ≡ false → b && c ≡ false
and_unnamed true c h = h
and_unnamed false c h = refl

query_in : (x : Lexeme) (rest : Lexemes) → head_fits starts_query rest ≡ true → begins_names (x ∷ rest) ≡ false
query_in x [] h = refl
query_in x (y ∷ rest) h = and_unnamed (is s.Open x.reading) (is_name y.reading) (unnamed_start y.reading h)

says_head : (r : Reading) (u v : Stream) → Says r u v → starts_query r ≡ true → head_fits starts_query u.tokens ≡ true
says_head r u v h e = ap (λ tokens. head_fits starts_query tokens) h.first ∙ e

-- ---- the first token

head_factor : (k : FactorLayer) (u w : Stream) → Along (factor_layer (factor_parts k)).marks u w → head_fits starts_query u.tokens ≡ true
head_factor (Factor-F.Core y) u w a =
    let t = along_split (select_facts y).marks [] u w a in
    let l = out-Select y in
    let e = select_out y ∙ ap select_layer (select_parts_of l) in
    let b = subst (λ (z : Facts). Along z.marks u t.0) e t.1 in
    says_head (reading.Symbol s.Select) u b.0 b.1 refl
head_factor (Factor-F.Nested y) u w a = says_head (reading.Symbol s.Open) u a.0 a.1 refl

-- the first factor of a query without WITH
first_factor : (l : QueryLayer) (u v : Stream) → Along (query_layer (query_with l.place l.first l.last [] l.body l.order l.limit l.offset l.locks)).marks u v → (w : Stream) × Along (factor_layer (factor_parts (out-Factor l.body.first.first))).marks u w
first_factor l u v along =
    let first = factor_facts l.body.first.first in
    let t = along_split (marks_of (at l.place ∷ p.whole first ∷ rest_of l)) (Mark.ends l.last ∷ []) u v along.1 in
    let r = along_split first.marks (marks_of (rest_of l)) u t.0 t.1.1 in
    (r.0, subst (λ (y : Facts). Along y.marks u r.0) (factor_out l.body.first.first) r.1)

head_layer : (l : QueryLayer) (ws : List (With Query)) (u v : Stream) → Along (query_layer (query_with l.place l.first l.last ws l.body l.order l.limit l.offset l.locks)).marks u v → head_fits starts_query u.tokens ≡ true
head_layer l (y ∷ ys) u v along = says_head (reading.Symbol s.With) u along.1.1.0 along.1.1.1 refl
head_layer l [] u v along = let f = first_factor l u v along in head_factor (out-Factor l.body.first.first) u f.0 f.1

layered : (x : Query) (u v : Stream) → Along (query_facts x).marks u v → let l = out-Query x in Along (query_layer (query_with l.place l.first l.last l.with l.body l.order l.limit l.offset l.locks)).marks u v
layered x u v a = let l = out-Query x in subst (λ (y : Facts). Along y.marks u v) (query_out x ∙ ap query_layer (query_parts_of l)) a

pub query_head : (x : Query) (u v : Stream) → Along (query_facts x).marks u v → head_fits starts_query u.tokens ≡ true
query_head x u v a = let l = out-Query x in head_layer l l.with u v (layered x u v a)

-- ---- the second token

says_unnamed : (r : Reading) (u v : Stream) → Says r u v → is s.Open r ≡ false → begins_names u.tokens ≡ false
says_unnamed r u v h e = ap begins_names h.first ∙ no_bracket (record { reading = r; place = h.place }) v.tokens e

unnamed_factor : (k : FactorLayer) (u w : Stream) → Along (factor_layer (factor_parts k)).marks u w → begins_names u.tokens ≡ false
unfolding same
unnamed_factor (Factor-F.Core y) u w a =
    let t = along_split (select_facts y).marks [] u w a in
    let l = out-Select y in
    let e = select_out y ∙ ap select_layer (select_parts_of l) in
    let b = subst (λ (z : Facts). Along z.marks u t.0) e t.1 in
    says_unnamed (reading.Symbol s.Select) u b.0 b.1 refl
unnamed_factor (Factor-F.Nested y) u w a =
    let t = along_split (query_facts y).marks (Mark.says (reading.Symbol s.Close) ∷ []) a.0 w a.2 in
    ap begins_names a.1.first ∙ query_in (record { reading = reading.Symbol s.Open; place = a.1.place }) a.0.tokens (query_head y a.0 t.0 t.1)

unnamed_layer : (l : QueryLayer) (ws : List (With Query)) (u v : Stream) → Along (query_layer (query_with l.place l.first l.last ws l.body l.order l.limit l.offset l.locks)).marks u v → begins_names u.tokens ≡ false
unfolding same
unnamed_layer l (y ∷ ys) u v along = says_unnamed (reading.Symbol s.With) u along.1.1.0 along.1.1.1 refl
unnamed_layer l [] u v along = let f = first_factor l u v along in unnamed_factor (out-Factor l.body.first.first) u f.0 f.1

-- where a query stands no names in brackets do
pub query_unnamed : (x : Query) (u v : Stream) → Along (query_facts x).marks u v → begins_names u.tokens ≡ false
query_unnamed x u v a = let l = out-Query x in unnamed_layer l l.with u v (layered x u v a)
