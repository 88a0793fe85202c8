-- What stands round an output ends it, and DISTINCT is read as it is spelled.
use Rattle.std.proofs.Common.{◌≡◌, ℕ, ◌-◌, Bool, true, false, List, [], ◌∷◌, ◌++◌, refl, ap, subst, ◌∙◌, arith, append_assoc, map}
use Rattle.std.specs.Prelude.{◌||◌}
use Rattle.sq_syntax.specs.declared.symbol.Symbol.{Symbol}
use Rattle.sq_syntax.specs.declared.symbol.Symbol.TheVariants as s
use Rattle.sq_syntax.specs.declared.symbol.Reading.{Reading}
use Rattle.sq_syntax.specs.declared.symbol.Reading.TheVariants as reading
use Rattle.sq_syntax.specs.declared.query.Query.{Query}
use Rattle.sq_syntax.specs.declared.query.Distinctness.{Distinctness}
use Rattle.sq_syntax.specs.declared.query.Distinctness.TheVariants as distinctness
use Rattle.sq_syntax.specs.declared.query.Label.{Label}
use Rattle.sq_syntax.specs.declared.query.Label.TheVariants as label_kind
use Rattle.sq_syntax.specs.Facts.{Stream, Says, Piece, from}
use Rattle.sq_syntax.specs.Symbols.{identifier_reading, is_bare_label}
use Rattle.sq_syntax.specs.Pieces as p
use Rattle.sq_syntax.specs.Pieces.{sym as word}
use Rattle.sq_syntax.specs.QueryPieces as f
use Rattle.sq_grammar.specs.Reading.{Parser, ◌>>=◌, ◌>>◌, pure, choose, begins, begins_both, sees, expect, same}
use Rattle.sq_grammar.specs.Ahead.{Lexemes, reading_binds}
use Rattle.sq_grammar.specs.Levels.{Expr}
use Rattle.sq_grammar.specs.Tests.{list}
use Rattle.sq_grammar.specs.Queries.{begins_label, begins_star_of, distinct}
use Rattle.sq_grammar.proofs.Runs.{Run, spent}
use Rattle.sq_grammar.proofs.Complete.{step, says_expect, goes_on}
use Rattle.sq_grammar.proofs.Chains.{Gives}
use Rattle.sq_grammar.proofs.Joints.{says_goes, false_true}
use Rattle.sq_grammar.proofs.Begins.{Starts, starts_negated, head_fits}
use Rattle.sq_grammar.proofs.Lists.{facts_of, ReadsTo, list_over, close_ends}
use Rattle.sq_grammar.proofs.QueryFacts.{distinct_facts}
use Rattle.sq_grammar.proofs.ReadNames.{chosen, passed}
use Rattle.sq_grammar.proofs.ReadTypes.{other_symbol, that_symbol, not_both, both_seen, back}
use Rattle.sq_grammar.proofs.Aliases.{apart, neither_of}
use Rattle.sq_grammar.proofs.WalkParts.{label_turn}
use Rattle.sq_grammar.proofs.Clauses.{EndsDistinct, unseen_first}

pub unseen_head : (k : Symbol) (tokens : Lexemes) → head_fits starts_negated tokens ≡ true → starts_negated (reading.Symbol k) ≡ false → begins k tokens ≡ false
unseen_head k [] h e = refl
unseen_head k (x ∷ rest) h e = apart starts_negated k x.reading h e

pub star_seen : (r : Reading) (now u v w : Stream) → Says r now u → Says (reading.Symbol s.Dot) u v → Says (reading.Symbol s.Times) v w → begins_star_of now.tokens ≡ true
unfolding same
star_seen r now u v w a b c =
    ap begins_star_of a.first
    ∙ ap (λ tokens. begins_star_of (record { reading = r; place = a.place } ∷ tokens)) b.first
    ∙ ap (λ tokens. begins_star_of (record { reading = r; place = a.place } ∷ record { reading = reading.Symbol s.Dot; place = b.place } ∷ tokens)) c.first

-- what goes on with an output
abbrev pub output_goes_on : Stream → Bool
output_goes_on u = goes_on 0 u || (sees s.As u || (begins_label u.tokens || sees s.Time u))

abbrev pub EndsOutput : List Piece → ℕ → Stream → Type 0
EndsOutput rest k next = (u : Stream) → Run rest k u next → output_goes_on u ≡ false

pub output_ends : (u : Stream) → output_goes_on u ≡ false → (goes_on 0 u ≡ false) × (sees s.As u ≡ false) × (begins_label u.tokens ≡ false) × (sees s.Time u ≡ false)
output_ends u h =
    let a = neither_of (goes_on 0 u) (sees s.As u || (begins_label u.tokens || sees s.Time u)) h in
    let b = neither_of (sees s.As u) (begins_label u.tokens || sees s.Time u) a.1 in
    let c = neither_of (begins_label u.tokens) (sees s.Time u) b.1 in
    (a.0, b.0, c.0, c.1)

-- a label does not go on with the expression before it
label_goes : (r : Reading) (rest : Lexemes) → is_bare_label r ≡ true → begins s.Time rest ≡ false → from 0 (reading_binds r rest) ≡ false
label_goes (reading.Symbol s.At) rest h time = rw time refl
label_goes (reading.Symbol s.Or) rest h time = absurd (cc)
label_goes (reading.Symbol s.And) rest h time = absurd (cc)
label_goes (reading.Symbol s.Is) rest h time = absurd (cc)
label_goes (reading.Symbol s.IsNull) rest h time = absurd (cc)
label_goes (reading.Symbol s.NotNull) rest h time = absurd (cc)
label_goes (reading.Symbol s.Not) rest h time = absurd (cc)
label_goes (reading.Symbol s.Between) rest h time = absurd (cc)
label_goes (reading.Symbol s.In) rest h time = absurd (cc)
label_goes (reading.Symbol s.Like) rest h time = absurd (cc)
label_goes (reading.Symbol s.Ilike) rest h time = absurd (cc)
label_goes (reading.Symbol s.Collate) rest h time = absurd (cc)
label_goes (reading.Symbol s.Colons) rest h time = absurd (cc)
label_goes (reading.Symbol s.OpenSquare) rest h time = absurd (cc)
label_goes (reading.Symbol s.Open) rest h time = absurd (cc)
label_goes (reading.Symbol s.Dot) rest h time = absurd (cc)
label_goes (reading.Symbol s.Filter) rest h time = absurd (cc)
label_goes (reading.Symbol s.With) rest h time = absurd (cc)
label_goes (reading.Symbol s.Without) rest h time = absurd (cc)
label_goes (reading.Symbol s.Precision) rest h time = absurd (cc)
label_goes (reading.Symbol s.Varying) rest h time = absurd (cc)
label_goes (reading.Symbol s.Power) rest h time = absurd (cc)
label_goes (reading.Symbol s.Times) rest h time = absurd (cc)
label_goes (reading.Symbol s.Divide) rest h time = absurd (cc)
label_goes (reading.Symbol s.Modulo) rest h time = absurd (cc)
label_goes (reading.Symbol s.Plus) rest h time = absurd (cc)
label_goes (reading.Symbol s.Minus) rest h time = absurd (cc)
label_goes (reading.Symbol s.Less) rest h time = absurd (cc)
label_goes (reading.Symbol s.Greater) rest h time = absurd (cc)
label_goes (reading.Symbol s.Equal) rest h time = absurd (cc)
label_goes (reading.Symbol s.LessEqual) rest h time = absurd (cc)
label_goes (reading.Symbol s.GreaterEqual) rest h time = absurd (cc)
label_goes (reading.Symbol s.NotEqual) rest h time = absurd (cc)
label_goes (reading.Symbol _) rest h time = refl
label_goes (reading.Operator bytes) rest h time = absurd (cc)
label_goes (reading.Text bytes) rest h time = absurd (cc)
label_goes _ rest h time = refl

pub value_stops : (k : ℕ) (x : Label) (rest : List Piece) (next : Stream) → EndsOutput rest k next → (u : Stream) → Run (f.output_label x ++ rest) k u next → goes_on 0 u ≡ false
value_stops k label_kind.Unsaid rest next ends u run = (output_ends u (ends u run)).0
value_stops k (label_kind.As x) rest next ends u run = says_goes 0 (reading.Symbol s.As) u run.0 run.1
value_stops k (label_kind.Bare x) rest next ends u run =
    let r = identifier_reading x in
    let v = run.1.1.0 in
    let past = subst (λ t. Run rest (spent t k) v next) (label_turn r run.0) run.1.1.3 in
    says_goes 0 r u v run.1.1.1 ∙ label_goes r v.tokens run.0 (output_ends v (ends v past)).3

module _ (expr : Parser Expr) (inner : Parser Query) (k : ℕ) (read : ReadsTo k expr) (starts : Starts starts_negated expr) where
  abbrev distinct_on : Parser (Distinctness Expr)
  distinct_on = expect s.Distinct >>= (λ _. expect s.On >>= (λ _. expect s.Open >>= (λ _. list expr inner >>= (λ ys. expect s.Close >> pure (distinctness.On ys)))))

  abbrev plain_distinct : Parser (Distinctness Expr)
  plain_distinct = choose (sees s.Distinct) (expect s.Distinct >> pure distinctness.Distinct) (pure distinctness.Unsaid)

  abbrev either_distinct : Parser (Distinctness Expr)
  either_distinct = choose (λ now. begins_both s.Distinct s.On now.tokens) distinct_on plain_distinct

  abbrev all_words : Parser (Distinctness Expr)
  all_words = expect s.All >> pure distinctness.All

  pub distinct_read : (x : Distinctness Expr) (rest : List Piece) (now next : Stream) → Run (f.distinct_words (distinct_facts x) ++ rest) k now next → EndsDistinct rest k next → Gives (distinct expr inner now) x rest k next
  unfolding distinct same
  distinct_read distinctness.Unsaid rest now next run ends = (
    now,
    passed (sees s.All) all_words either_distinct now (ends now run).0
        ∙ passed (λ u. begins_both s.Distinct s.On u.tokens) distinct_on plain_distinct now (unseen_first s.Distinct s.On now.tokens (ends now run).1)
        ∙ passed (sees s.Distinct) (expect s.Distinct >> pure distinctness.Distinct) (pure distinctness.Unsaid) now (ends now run).1,
    run,
  )
  distinct_read distinctness.All rest now next run ends = (
    run.0,
    chosen (sees s.All) all_words either_distinct now (that_symbol s.All now run.0 run.1) ∙ step (expect s.All) (λ _. pure distinctness.All) now run.0 tt (says_expect s.All now run.0 run.1),
    run.3,
  )
  distinct_read distinctness.Distinct rest now next run ends = (
    run.0,
    passed (sees s.All) all_words either_distinct now (other_symbol s.All s.Distinct now run.0 run.1 refl)
        ∙ passed (λ u. begins_both s.Distinct s.On u.tokens) distinct_on plain_distinct now (not_both s.Distinct s.On (reading.Symbol s.Distinct) now run.0 run.1 (ends run.0 run.3).2)
        ∙ chosen (sees s.Distinct) (expect s.Distinct >> pure distinctness.Distinct) (pure distinctness.Unsaid) now (that_symbol s.Distinct now run.0 run.1)
        ∙ step (expect s.Distinct) (λ _. pure distinctness.Distinct) now run.0 tt (says_expect s.Distinct now run.0 run.1),
    run.3,
  )
  distinct_read (distinctness.On []) rest now next run ends = absurd (false_true run.3.3.3.0)
  distinct_read (distinctness.On (x ∷ xs)) rest now next run ends =
      let u = run.0 in
      let v = run.3.0 in
      let w = run.3.3.0 in
      let tail = word s.Close ∷ rest in
      let inside = subst (λ ps. Run ps (k - 1) w next) (append_assoc (p.list (map facts_of (x ∷ xs))) (word s.Close ∷ []) rest) run.3.3.3.1 in
      let l = list_over expr inner (k - 1) (λ y a b h le along stop. read y a b h (omega (arith, le)) along stop) x xs tail w next inside (close_ends s.Close rest (k - 1) next (λ tokens. refl) refl) in
      let c = l.2 in (
        c.0,
        passed (sees s.All) all_words either_distinct now (other_symbol s.All s.Distinct now u run.1 refl)
            ∙ chosen (λ at. begins_both s.Distinct s.On at.tokens) distinct_on plain_distinct now (both_seen s.Distinct s.On now u v run.1 run.3.1)
            ∙ step (expect s.Distinct) (λ _. expect s.On >>= (λ _. expect s.Open >>= (λ _. list expr inner >>= (λ ys. expect s.Close >> pure (distinctness.On ys))))) now u tt (says_expect s.Distinct now u run.1)
            ∙ step (expect s.On) (λ _. expect s.Open >>= (λ _. list expr inner >>= (λ ys. expect s.Close >> pure (distinctness.On ys)))) u v tt (says_expect s.On u v run.3.1)
            ∙ step (expect s.Open) (λ _. list expr inner >>= (λ ys. expect s.Close >> pure (distinctness.On ys))) v w tt (says_expect s.Open v w run.3.3.1)
            ∙ step (list expr inner) (λ ys. expect s.Close >> pure (distinctness.On ys)) w l.0 (x ∷ xs) l.1
            ∙ step (expect s.Close) (λ _. pure (distinctness.On (x ∷ xs))) l.0 c.0 tt (says_expect s.Close l.0 c.0 c.1),
        subst (λ n. Run rest n c.0 next) (back k run.3.3.2) c.3,
      )
