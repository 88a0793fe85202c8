-- What begins with a name: columns and calls.
use Rattle.std.proofs.Common.{◌≡◌, ℕ, Bool, true, false, List, [], ◌∷◌, ◌++◌, Some, refl, sym, ap, subst, ◌∙◌}
use Rattle.std.specs.Prelude.{◌&&◌, if◌then◌else◌}
use Rattle.std.proofs.lemmas.List.{append-nil}
use Rattle.sq_base.specs.declared.place.Place.{Place}
use Rattle.sq_syntax.specs.declared.symbol.Symbol.TheVariants as s
use Rattle.sq_syntax.specs.declared.symbol.Reading.{Reading}
use Rattle.sq_syntax.specs.declared.symbol.Reading.TheVariants as reading
use Rattle.sq_syntax.specs.declared.symbol.Lexeme.{Lexeme}
use Rattle.sq_syntax.specs.declared.name.ColumnName.{ColumnName}
use Rattle.sq_syntax.specs.declared.name.ColumnName.TheVariants as column_name
use Rattle.sq_syntax.specs.declared.expr.Pool.TheVariants as pool
use Rattle.sq_syntax.specs.declared.expr.Expression.TheVariants as e
use Rattle.sq_syntax.specs.declared.query.Query.{Query}
use Rattle.sq_syntax.specs.Facts.{Mark, Stream, Says, Along, Piece, turn, from, marks_of, all_hold}
use Rattle.sq_syntax.specs.Symbols.{identifier_reading, is_name}
use Rattle.sq_syntax.specs.Pieces as p
use Rattle.sq_syntax.specs.Pieces.{sym as word, say, at}
use Rattle.sq_grammar.specs.Reading.{Parser, choose, sees, begins, same, here, node}
use Rattle.sq_grammar.specs.Ahead.{Lexemes, binding, reading_binds, closed, text_after_squares, skip_dots, skip_word, skip_brackets, skip_zone, types_text, is_some}
use Rattle.sq_grammar.specs.Levels.{Expr}
use Rattle.sq_grammar.specs.Names as n
use Rattle.sq_grammar.specs.Names.{word_of, call_of, if_call, call_name}
use Rattle.sq_grammar.specs.Primaries.{primary, by_reading, calls, column, call, typed_text, named, pooled, null_if, extract, purposed, begins_purpose, purpose_of}
use Rattle.sq_grammar.proofs.Runs.{Run, spent}
use Rattle.sq_grammar.proofs.Complete.{step, Framed, goes_on}
use Rattle.sq_grammar.proofs.Joints.{unsaid}
use Rattle.sq_grammar.proofs.ReadNames.{passed, column_read}
use Rattle.sq_grammar.proofs.ReadTypes.{other_symbol}
use Rattle.sq_grammar.proofs.Simple.{by_first, placed}
use Rattle.sq_grammar.proofs.Walks.{Counts}

pub closed_counts : Counts closed
closed_counts = record { one = λ x rest n. refl }

pub squares_count : Counts text_after_squares
squares_count = record { one = λ x rest n. refl }

pub joined : (a b : List Mark) (now u next : Stream) → Along a now u → Along b u next → Along (a ++ b) now next
joined [] b now u next h k = subst (λ v. Along b v next) (sym h) k
joined (Mark.says r ∷ a) b now u next h k = (h.0, h.1, joined a b h.0 u next h.2 k)
joined (Mark.stands_at place ∷ a) b now u next h k = (h.0, joined a b now u next h.1 k)
joined (Mark.begins m ∷ a) b now u next h k = (h.0, joined a b now u next h.1 k)
joined (Mark.ends m ∷ a) b now u next h k = (h.0, joined a b now u next h.1 k)

-- the tokens of some pieces, and of those behind them
pub run_part : (a b : List Piece) (d : ℕ) (now next : Stream) → Run (a ++ b) d now next → (u : Stream) × (rest : ℕ) × (all_hold a ≡ true) × Along (marks_of a) now u × Run b rest u next
run_part [] b d now next run = (now, d, refl, refl, run)
run_part (Piece.mark (Mark.says r) ∷ a) b d now next run = let m = run_part a b (spent (turn r) d) run.0 next run.3 in (m.0, m.1, m.2, (run.0, run.1, m.3), m.4)
run_part (Piece.mark (Mark.stands_at place) ∷ a) b d now next run = let m = run_part a b d now next run.1 in (m.0, m.1, m.2, (run.0, m.3), m.4)
run_part (Piece.mark (Mark.begins k) ∷ a) b d now next run = let m = run_part a b d now next run.1 in (m.0, m.1, m.2, (run.0, m.3), m.4)
run_part (Piece.mark (Mark.ends k) ∷ a) b d now next run = let m = run_part a b d now next run.1 in (m.0, m.1, m.2, (run.0, m.3), m.4)
run_part (Piece.need c ∷ a) b d now next run = let m = run_part a b d now next run.1 in (m.0, m.1, rw (run.0, m.2) refl, m.3, m.4)
run_part (Piece.part least x ∷ a) b d now next run =
    let m = run_part a b d run.0 next run.4 in
    (m.0, m.1, rw (run.1, m.2) refl, joined x.marks (marks_of a) now run.0 m.0 run.3 m.3, m.4)

-- ---- what stands behind a name

pub not_dot : (tokens : Lexemes) → begins s.Dot tokens ≡ false → skip_dots tokens ≡ tokens
not_dot [] h = refl
not_dot (x ∷ []) h = refl
not_dot (x ∷ y ∷ rest) h = rw h refl

by_squares : (c : Bool) → from 15 (Some (if c then 15 else 14)) ≡ false → c ≡ false
by_squares true h = absurd (cc)
by_squares false h = refl

no_zone : (r : Reading) (place : Place) (rest : Lexemes) → from 15 (reading_binds r rest) ≡ false → text_after_squares (skip_zone (record { reading = r; place = place } ∷ rest)) 0 ≡ false
unfolding same
no_zone (reading.Symbol s.OpenSquare) place rest h = by_squares (text_after_squares rest 1) h
no_zone (reading.Symbol s.With) place rest h = absurd (cc)
no_zone (reading.Symbol s.Without) place rest h = absurd (cc)
no_zone (reading.Text bytes) place rest h = absurd (cc)
no_zone (reading.Symbol _) place rest h = refl
no_zone _ place rest h = refl

-- no type and text end behind an expression that is over
pub zone_over : (tokens : Lexemes) → from 15 (binding tokens) ≡ false → text_after_squares (skip_zone tokens) 0 ≡ false
zone_over [] h = refl
zone_over (x ∷ rest) h = no_zone x.reading x.place rest h

no_brackets : (r : Reading) (place : Place) (rest : Lexemes) → from 15 (reading_binds r rest) ≡ false → skip_brackets (skip_word (record { reading = r; place = place } ∷ rest)) ≡ record { reading = r; place = place } ∷ rest
unfolding same
no_brackets (reading.Symbol s.Precision) place rest h = absurd (cc)
no_brackets (reading.Symbol s.Varying) place rest h = absurd (cc)
no_brackets (reading.Symbol s.Open) place rest h = absurd (cc)
no_brackets (reading.Symbol _) place rest h = refl
no_brackets _ place rest h = refl

pub brackets_over : (tokens : Lexemes) → from 15 (binding tokens) ≡ false → skip_brackets (skip_word tokens) ≡ tokens
brackets_over [] h = refl
brackets_over (x ∷ rest) h = no_brackets x.reading x.place rest h

abbrev pub text_behind : Lexemes → Bool
text_behind tokens = text_after_squares (skip_zone (skip_brackets (skip_word (skip_dots tokens)))) 0

pub text_over : (next : Stream) → goes_on 15 next ≡ false → text_behind next.tokens ≡ false
text_over next stop =
    ap (λ tokens. text_after_squares (skip_zone (skip_brackets (skip_word tokens))) 0) (not_dot next.tokens (unsaid 15 next s.Dot (λ rest. refl) stop))
    ∙ ap (λ tokens. text_after_squares (skip_zone tokens) 0) (brackets_over next.tokens stop)
    ∙ zone_over next.tokens stop

pub types_behind : (r : Reading) (now u : Stream) → Says r now u → types_text now.tokens ≡ text_behind u.tokens
unfolding types_text
types_behind r now u h = ap (λ tokens. types_text tokens) h.first

pub dot_skipped : (r : Reading) (u v w : Stream) → Says (reading.Symbol s.Dot) u v → Says r v w → text_behind u.tokens ≡ text_behind w.tokens
unfolding same
dot_skipped r u v w dot h = ap text_behind dot.first ∙ ap (λ tokens. text_behind (record { reading = reading.Symbol s.Dot; place = dot.place } ∷ tokens)) h.first

pub no_purpose : (r : Reading) (now u : Stream) → Says r now u → sees s.Dot u ≡ false → begins_purpose now.tokens ≡ false
no_purpose r now u h dot = ap begins_purpose h.first ∙ by_tokens (record { reading = r; place = h.place }) u.tokens dot
  where
    by_tokens : (x : Lexeme) (tokens : Lexemes) → begins s.Dot tokens ≡ false → begins_purpose (x ∷ tokens) ≡ false
    by_tokens x [] k = refl
    by_tokens x (y ∷ []) k = refl
    by_tokens x (y ∷ z ∷ rest) k = rw k refl

and_false : (a c : Bool) → c ≡ false → a && c ≡ false
and_false true c h = h
and_false false c h = refl

pub purpose_calls : (r q : Reading) (now u v w : Stream) → Says r now u → Says (reading.Symbol s.Dot) u v → Says q v w → sees s.Open w ≡ false → begins_purpose now.tokens ≡ false
purpose_calls r q now u v w h dot k open_ =
    ap begins_purpose h.first
    ∙ ap (λ tokens. begins_purpose (record { reading = r; place = h.place } ∷ tokens)) dot.first
    ∙ ap (λ tokens. begins_purpose (record { reading = r; place = h.place } ∷ record { reading = reading.Symbol s.Dot; place = dot.place } ∷ tokens)) k.first
    ∙ and_false _ _ (and_false (is_some (purpose_of q k.place)) (begins s.Open w.tokens) open_)

pub calls_behind : (r : Reading) (now u : Stream) → Says r now u → calls now.tokens ≡ sees s.Open u
calls_behind r now u h = ap calls h.first

-- ---- the first token of what begins with a name

-- a word that begins another form where a bracket follows
abbrev pub is_special : Reading → Bool
is_special (reading.Symbol s.Coalesce) = true
is_special (reading.Symbol s.Greatest) = true
is_special (reading.Symbol s.Least) = true
is_special (reading.Symbol s.NullIf) = true
is_special (reading.Symbol s.Extract) = true
is_special _ = false

no_open : (now u : Stream) → Says (reading.Symbol s.Dot) now u → sees s.Open now ≡ false
unfolding same
no_open now u h = other_symbol s.Open s.Dot now u h refl

module _ (nested : Parser Expr) (inner : Parser Query) where
  pub to_named : (r : Reading) (now : Stream) → is_name r ≡ true → (is_special r ≡ true → calls now.tokens ≡ false) → begins_purpose now.tokens ≡ false → by_reading nested inner r now ≡ named nested inner now
  to_named (reading.Symbol s.Coalesce) now h c k = passed (λ v. calls v.tokens) (pooled nested inner pool.Coalesce) (named nested inner) now (c refl)
  to_named (reading.Symbol s.Greatest) now h c k = passed (λ v. calls v.tokens) (pooled nested inner pool.Greatest) (named nested inner) now (c refl)
  to_named (reading.Symbol s.Least) now h c k = passed (λ v. calls v.tokens) (pooled nested inner pool.Least) (named nested inner) now (c refl)
  to_named (reading.Symbol s.NullIf) now h c k = passed (λ v. calls v.tokens) (null_if nested inner) (named nested inner) now (c refl)
  to_named (reading.Symbol s.Extract) now h c k = passed (λ v. calls v.tokens) (extract nested inner) (named nested inner) now (c refl)
  to_named (reading.Symbol s.Sqlc) now h c k = passed (λ v. begins_purpose v.tokens) purposed (named nested inner) now k
  to_named (reading.Symbol _) now h c k = cc
  to_named (reading.Word bytes) now h c k = refl
  to_named (reading.Quoted bytes) now h c k = refl
  to_named _ now h c k = cc

  to_column : (r : Reading) (now : Stream) → is_name r ≡ true → types_text now.tokens ≡ false → calls now.tokens ≡ false → begins_purpose now.tokens ≡ false → by_reading nested inner r now ≡ column now
  to_column r now h t c k =
      to_named r now h (λ q. c) k
      ∙ passed (λ v. types_text v.tokens) typed_text (choose (λ v. calls v.tokens) (call nested inner) column) now t
      ∙ passed (λ v. calls v.tokens) (call nested inner) column now c

  column_made : (d : ℕ) (c : ColumnName) (x : Expr) (now next : Stream) → x.form ≡ e.Column c → Framed x now next → Run (at x.place ∷ p.column_name c) d now next → goes_on 15 next ≡ false → column now ≡ Some (x, next)
  unfolding column
  column_made d c x now next form f run stop =
      let r = column_read d c [] now next (subst (λ ps. Run ps d now next) (sym (append-nil (p.column_name c))) run.1) (λ u w. subst (λ v. sees s.Dot v ≡ false) (sym w) (unsaid 15 next s.Dot (λ rest. refl) stop)) in
      step n.column_name (λ y. node now (here now) (e.Column y)) now r.0 c r.1
      ∙ ap (λ v. node now (here now) (e.Column c) v) r.2
      ∙ placed x now next (e.Column c) f form run.0

  pub reads_column : (d : ℕ) (c : ColumnName) (x : Expr) (now next : Stream) → x.form ≡ e.Column c → Framed x now next → Run (at x.place ∷ p.column_name c) d now next → goes_on 15 next ≡ false → primary nested inner now ≡ Some (x, next)
  reads_column d (column_name.Bare y) x now next form f run stop =
      let h = run.1.1.1 in
      let over = λ (u : Stream) (w : u ≡ next). subst (λ v. goes_on 15 v ≡ false) (sym w) stop in
      let stops = over h.0 h.3 in
      by_first nested inner (identifier_reading y) now h.0 h.1
      ∙ to_column (identifier_reading y) now run.1.0 (types_behind (identifier_reading y) now h.0 h.1 ∙ text_over h.0 stops)
      (calls_behind (identifier_reading y) now h.0 h.1 ∙ unsaid 15 h.0 s.Open (λ rest. refl) stops)
      (no_purpose (identifier_reading y) now h.0 h.1 (unsaid 15 h.0 s.Dot (λ rest. refl) stops))
      ∙ column_made d (column_name.Bare y) x now next form f run stop
  reads_column d (column_name.OfRange y z) x now next form f run stop =
      let h = run.1.1.1 in
      let dot = h.3 in
      let k = dot.3.1.1 in
      let stops = subst (λ v. goes_on 15 v ≡ false) (sym k.3) stop in
      by_first nested inner (identifier_reading y) now h.0 h.1
      ∙ to_column (identifier_reading y) now run.1.0 (types_behind (identifier_reading y) now h.0 h.1 ∙ dot_skipped (identifier_reading z) h.0 dot.0 k.0 dot.1 k.1 ∙ text_over k.0 stops)
      (calls_behind (identifier_reading y) now h.0 h.1 ∙ no_open h.0 dot.0 dot.1)
      (purpose_calls (identifier_reading y) (identifier_reading z) now h.0 dot.0 k.0 h.1 dot.1 k.1 (unsaid 15 k.0 s.Open (λ rest. refl) stops))
      ∙ column_made d (column_name.OfRange y z) x now next form f run stop
  reads_column d (column_name.OfTable y z t) x now next form f run stop =
      let h = run.1.1.1 in
      let dot = h.3 in
      let k = dot.3.1.1 in
      let dots = k.3 in
      let l = dots.3.1.1 in
      let stops = subst (λ v. goes_on 15 v ≡ false) (sym l.3) stop in
      by_first nested inner (identifier_reading y) now h.0 h.1
      ∙ to_column (identifier_reading y) now run.1.0
      (types_behind (identifier_reading y) now h.0 h.1 ∙ dot_skipped (identifier_reading z) h.0 dot.0 k.0 dot.1 k.1 ∙ dot_skipped (identifier_reading t) k.0 dots.0 l.0 dots.1 l.1 ∙ text_over l.0 stops)
      (calls_behind (identifier_reading y) now h.0 h.1 ∙ no_open h.0 dot.0 dot.1)
      (purpose_calls (identifier_reading y) (identifier_reading z) now h.0 dot.0 k.0 h.1 dot.1 k.1 (no_open k.0 dots.0 dots.1))
      ∙ column_made d (column_name.OfTable y z t) x now next form f run stop
