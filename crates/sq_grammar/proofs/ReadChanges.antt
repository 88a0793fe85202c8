-- The sources, conflicts, names and clauses of changes of data are read as they are spelled.
use Rattle.std.proofs.Common.{◌≡◌, ℕ, ◌-◌, ◌≤◌, Bool, true, false, List, [], ◌∷◌, ◌++◌, Option, Some, None, refl, ap, subst, ◌∙◌, arith, append_assoc, map}
use Rattle.std.specs.Prelude.{codes}
use Rattle.sq_syntax.specs.declared.symbol.Symbol.{Symbol}
use Rattle.sq_syntax.specs.declared.symbol.Symbol.TheVariants as s
use Rattle.sq_syntax.specs.declared.symbol.Reading.{Reading}
use Rattle.sq_syntax.specs.declared.symbol.Reading.TheVariants as reading
use Rattle.sq_syntax.specs.declared.name.Identifier.{Identifier}
use Rattle.sq_syntax.specs.declared.expr.Node.{Node}
use Rattle.sq_syntax.specs.declared.query.From.{From}
use Rattle.sq_syntax.specs.declared.query.Output.{Output}
use Rattle.sq_syntax.specs.declared.query.Output.TheVariants as output_kind
use Rattle.sq_syntax.specs.declared.query.Query.{Query}
use Rattle.sq_syntax.specs.declared.statement.Conflict.{Conflict}
use Rattle.sq_syntax.specs.declared.statement.Conflict.TheVariants as conflict_kind
use Rattle.sq_syntax.specs.declared.statement.ConflictTarget.{ConflictTarget}
use Rattle.sq_syntax.specs.declared.statement.ConflictTarget.TheVariants as target
use Rattle.sq_syntax.specs.declared.statement.InsertSource.{InsertSource}
use Rattle.sq_syntax.specs.declared.statement.InsertSource.TheVariants as source_kind
use Rattle.sq_syntax.specs.declared.statement.TableAlias.{TableAlias}
use Rattle.sq_syntax.specs.Facts.{Stream, Says, Piece, Turn, turn}
use Rattle.sq_syntax.specs.Symbols.{identifier_reading, is_bare_label}
use Rattle.sq_syntax.specs.Pieces as p
use Rattle.sq_syntax.specs.Pieces.{sym as word}
use Rattle.sq_syntax.specs.QueryPieces as f
use Rattle.sq_syntax.specs.Grammar.{from_facts}
use Rattle.sq_syntax.specs.Statements as c
use Rattle.sq_syntax.specs.Statements.{word as key_word, is_set}
use Rattle.sq_grammar.specs.Reading.{Parser, ◌>>=◌, ◌>>◌, pure, choose, begins, sees, expect, same, here}
use Rattle.sq_grammar.specs.Ahead.{Lexemes}
use Rattle.sq_grammar.specs.Levels.{Expr}
use Rattle.sq_grammar.specs.Names.{name}
use Rattle.sq_grammar.specs.Queries.{bare_name, in_brackets, from_item, output, clause, query}
use Rattle.sq_grammar.specs.Statements.{is_word, begins_word, sees_word, expect_word, listed, begins_names, columns, some_name, as_name, called, table_alias, rows, default_values, queried, values_row, source, assignments, target_columns, target_constraint, optional_target, do_nothing, do_update, on_conflict, conflict, returning, sources}
use Rattle.sq_grammar.proofs.Runs.{Run, spent}
use Rattle.sq_grammar.proofs.Complete.{step, says_expect, stands_here}
use Rattle.sq_grammar.proofs.Chains.{Gives}
use Rattle.sq_grammar.proofs.Begins.{Starts, starts_negated, head_fits}
use Rattle.sq_grammar.proofs.Stars.{Unstarred}
use Rattle.sq_grammar.proofs.Joints.{false_true}
use Rattle.sq_grammar.proofs.Lists.{ReadsTo}
use Rattle.sq_grammar.proofs.QueryFacts.{output_form, output_facts}
use Rattle.sq_grammar.proofs.ReadsBelow.{ReadsBelow}
use Rattle.sq_grammar.proofs.Ranks.{Behind, rank, reading_rank, symbol_rank, says_rank, lacks_before, stops_behind, behind_less, behind_word}
use Rattle.sq_grammar.proofs.ReadNames.{Lacks, chosen, passed, name_read}
use Rattle.sq_grammar.proofs.ReadTypes.{other_symbol, that_symbol}
use Rattle.sq_grammar.proofs.QueryWords.{bare_name_read}
use Rattle.sq_grammar.proofs.Aliases.{unseen_word, in_brackets_read}
use Rattle.sq_grammar.proofs.Clauses.{clause_read}
use Rattle.sq_grammar.proofs.Distinct.{output_goes_on}
use Rattle.sq_grammar.proofs.Outputs.{output_read, comma_ends}
use Rattle.sq_grammar.proofs.Selects.{output_behind}
use Rattle.sq_grammar.proofs.FromClauses.{from_goes_on, item_read, ends_from}
use Rattle.sq_grammar.proofs.ReadQueries.{query_before}
use Rattle.sq_grammar.proofs.KeyWords.{says_word, that_word, word_begins, symbol_no_word, word_no_symbol}
use Rattle.sq_grammar.proofs.CommaLists.{ListItem, listed_read}
use Rattle.sq_grammar.proofs.Unreserved.{unreserved}
use Rattle.sq_grammar.proofs.QueryStarts.{starts_query, query_head}
use Rattle.sq_grammar.proofs.ReadGiven.{assignments_read, row_item}

-- ---- names of tables

pub as_name_read : (d : ℕ) (x : Option Identifier) (rest : List Piece) (now next : Stream) → Run (c.as_name x ++ rest) d now next → Lacks s.As rest d next → Gives (as_name now) x rest d next
unfolding as_name
as_name_read d None rest now next run lacks = (now, passed (sees s.As) (expect s.As >> some_name) (pure None) now (lacks now run), run)
as_name_read d (Some x) rest now next run lacks =
    let n = name_read d x rest run.0 next run.3 in (
      n.0,
      chosen (sees s.As) (expect s.As >> some_name) (pure None) now (that_symbol s.As now run.0 run.1)
          ∙ step (expect s.As) (λ _. some_name) now run.0 tt (says_expect s.As now run.0 run.1)
          ∙ step name (λ y. pure (Some y)) run.0 n.0 x n.1,
      n.2,
    )

-- the names in brackets are seen
names_seen : (d : ℕ) (x : Identifier) (xs : List Identifier) (rest : List Piece) (now next : Stream) → Run (p.bracketed_names (x ∷ xs) ++ rest) d now next → begins_names now.tokens ≡ true
unfolding same
names_seen d x [] rest now next run =
    let u = run.0 in
    let n = run.3 in
    ap begins_names run.1.first ∙ ap (λ tokens. begins_names (record { reading = reading.Symbol s.Open; place = run.1.place } ∷ tokens)) n.1.1.1.first ∙ n.0
names_seen d x (y ∷ ys) rest now next run =
    let u = run.0 in
    let n = run.3 in
    ap begins_names run.1.first ∙ ap (λ tokens. begins_names (record { reading = reading.Symbol s.Open; place = run.1.place } ∷ tokens)) n.1.1.1.first ∙ n.0

pub columns_read : (d : ℕ) (xs : List Identifier) (rest : List Piece) (now next : Stream) → Run (p.bracketed_names xs ++ rest) d now next → ((u : Stream) → Run rest d u next → begins_names u.tokens ≡ false) → Gives (columns now) xs rest d next
unfolding columns
columns_read d [] rest now next run lacks = (now, passed (λ u. begins_names u.tokens) in_brackets (pure []) now (lacks now run), run)
columns_read d (x ∷ xs) rest now next run lacks =
    let r = subst (λ ps. Run ps d now next) (append_assoc (word s.Open ∷ p.names (x ∷ xs)) (word s.Close ∷ []) rest) run in
    let b = in_brackets_read d x xs rest now next r in
    (b.0, chosen (λ u. begins_names u.tokens) in_brackets (pure []) now (names_seen d x xs rest now next run) ∙ b.1, b.2)

abbrev alias_of : Bool → Identifier → TableAlias
alias_of has_as x = record { has_as = has_as; name = x }

-- what stands behind does not begin as a name of the table does
abbrev pub EndsAlias : (Lexemes → Bool) → List Piece → ℕ → Stream → Type 0
EndsAlias bare rest d next = (u : Stream) → Run rest d u next → (sees s.As u ≡ false) × (bare u.tokens ≡ false)

-- a name without AS is seen
abbrev pub Seen : (Lexemes → Bool) → Option TableAlias → Type 0
Seen bare x = (y : Identifier) (u v : Stream) → x ≡ Some (record { has_as = false; name = y }) → is_bare_label (identifier_reading y) ≡ true → Says (identifier_reading y) u v → bare u.tokens ≡ true

alias_read : (d : ℕ) (bare : Lexemes → Bool) (has_as : Bool) (x : Identifier) (rest : List Piece) (now next : Stream) → Run (c.table_alias (Some (alias_of has_as x)) ++ rest) d now next → Seen bare (Some (alias_of has_as x)) → Gives (table_alias bare now) (Some (alias_of has_as x)) rest d next
unfolding table_alias
alias_read d bare true x rest now next run seen =
    let n = name_read d x rest run.0 next run.3 in (
      n.0,
      chosen (sees s.As) (expect s.As >> called true name) (choose (λ u. bare u.tokens) (called false bare_name) (pure None)) now (that_symbol s.As now run.0 run.1)
          ∙ step (expect s.As) (λ _. called true name) now run.0 tt (says_expect s.As now run.0 run.1)
          ∙ step name (λ y. pure (Some (alias_of true y))) run.0 n.0 x n.1,
      n.2,
    )
alias_read d bare false x rest now next run seen =
    let r = identifier_reading x in
    let n = bare_name_read d x rest now next run in (
      n.0,
      passed (sees s.As) (expect s.As >> called true name) (choose (λ u. bare u.tokens) (called false bare_name) (pure None)) now (unseen_word is_bare_label s.As r now run.1.1.0 run.1.1.1 run.0 refl)
          ∙ chosen (λ u. bare u.tokens) (called false bare_name) (pure None) now (seen x now run.1.1.0 refl run.0 run.1.1.1)
          ∙ step bare_name (λ y. pure (Some (alias_of false y))) now n.0 x n.1,
      n.2,
    )

pub table_alias_read : (d : ℕ) (bare : Lexemes → Bool) (x : Option TableAlias) (rest : List Piece) (now next : Stream) → Run (c.table_alias x ++ rest) d now next → EndsAlias bare rest d next → Seen bare x → Gives (table_alias bare now) x rest d next
unfolding table_alias
table_alias_read d bare None rest now next run ends seen = (
  now,
  passed (sees s.As) (expect s.As >> called true name) (choose (λ u. bare u.tokens) (called false bare_name) (pure None)) now (ends now run).0
      ∙ passed (λ u. bare u.tokens) (called false bare_name) (pure None) now (ends now run).1,
  run,
)
table_alias_read d bare (Some x) rest now next run ends seen = alias_read d bare x.has_as x.name rest now next run seen

-- ---- clauses

-- nothing of a change stands behind
abbrev pub AtEnd : List Piece → ℕ → Stream → Type 0
AtEnd rest d next = (u : Stream) → Run rest d u next → u.tokens ≡ []

-- what stands behind a conflict clause
abbrev pub EndsConflict : List Piece → ℕ → Stream → Type 0
EndsConflict rest d next = (u : Stream) → Run rest d u next → (14 ≤ rank u.tokens) × (sees s.On u ≡ false)

end_rank : (tokens : Lexemes) → tokens ≡ [] → 14 ≤ rank tokens
end_rank tokens h = omega (arith, ap rank h)

pub behind_key : (letters : List ℕ) (now next : Stream) → Says (reading.Word letters) now next → reading_rank (reading.Word letters) ≡ 14 → 14 ≤ rank now.tokens
behind_key letters now next h e = omega (arith, says_rank (reading.Word letters) now next h, e)

pub returning_behind : (xs : List (Node (Output Expr))) (rest : List Piece) (d : ℕ) (next : Stream) → AtEnd rest d next → EndsConflict (c.returning xs ++ rest) d next
returning_behind [] rest d next end u run = (end_rank u.tokens (end u run), ap (λ tokens. begins s.On tokens) (end u run))
returning_behind (x ∷ xs) rest d next end u run = (behind_key (codes "returning") u run.0 run.1 refl, word_no_symbol s.On (codes "returning") u run.0 run.1)

pub conflict_behind : (x : Option Conflict) (rest : List Piece) (d : ℕ) (next : Stream) → EndsConflict rest d next → Behind 14 (c.conflict x ++ rest) d next
conflict_behind None rest d next ends u run = (ends u run).0
conflict_behind (Some (conflict_kind.Nothing place x)) rest d next ends u run = behind_word s.On 14 u run.1.0 run.1.1 (omega arith)
conflict_behind (Some (conflict_kind.Update place x sets y)) rest d next ends u run = behind_word s.On 14 u run.1.0 run.1.1 (omega arith)

pub condition_behind : (x : Option Expr) (rest : List Piece) (d n : ℕ) (next : Stream) → n ≤ 5 → Behind 14 rest d next → Behind n (c.condition x ++ rest) d next
condition_behind None rest d n next le behind u run = omega (arith, le, behind u run)
condition_behind (Some x) rest d n next le behind u run = behind_word s.Where n u run.0 run.1 le

pub sources_behind : (before : Symbol) (xs : List From) (rest : List Piece) (d n : ℕ) (next : Stream) → n ≤ symbol_rank before → n ≤ 5 → Behind 5 rest d next → Behind n (c.sources before xs ++ rest) d next
sources_behind before [] rest d n next low le behind u run = omega (arith, le, behind u run)
sources_behind before (x ∷ xs) rest d n next low le behind u run = behind_word before n u run.0 run.1 low

-- the facts of an output are the same in the grammar of changes
same_form : (x : Output Expr) → c.output_form x ≡ output_form x
same_form output_kind.Star = refl
same_form (output_kind.StarOf x) = refl
same_form (output_kind.Value x y) = refl

pub same_output : (x : Node (Output Expr)) → c.output_facts x ≡ output_facts x
same_output x = ap (λ form. record { place = x.place; first = x.first; last = x.last; form = form }) (same_form x.form)

module _ (expr : Parser Expr) (inner : Parser Query) (k : ℕ) (read : ReadsTo k expr) (starts : Starts starts_negated expr) (words : Starts unreserved expr) (unstarred : Unstarred expr) (queries : ReadsBelow k inner) where
  abbrev output_pieces : Node (Output Expr) → List Piece
  output_pieces x = f.output_pieces (c.output_facts x)

  output_item : ListItem k (output expr inner) output_pieces output_goes_on
  output_item = record {
    reads = λ x rest now next run stop. output_read expr inner k read starts unstarred x rest now next (subst (λ y. Run (f.output_pieces y ++ rest) k now next) (same_output x) run) stop;
    stops = λ now next h. comma_ends expr inner k read starts unstarred now next h;
  }

  pub returning_read : (xs : List (Node (Output Expr))) (rest : List Piece) (now next : Stream) → Run (c.returning xs ++ rest) k now next → AtEnd rest k next → Gives (returning expr inner now) xs rest k next
  unfolding returning
  returning_read [] rest now next run end = (
    now,
    passed (sees_word (codes "returning")) (expect_word (codes "returning") >> listed (output expr inner)) (pure []) now (ap (λ tokens. begins_word (codes "returning") tokens) (end now run)),
    run,
  )
  returning_read (x ∷ xs) rest now next run end =
      let u = run.0 in
      let behind : Behind 14 rest k next = λ v r. end_rank v.tokens (end v r) in
      let ends : (v : Stream) → Run rest k v next → (sees s.Comma v ≡ false) × (output_goes_on v ≡ false) =
      λ v r. (lacks_before s.Comma 14 rest k next behind (omega arith) v r, output_behind rest k next (behind_less 14 4 rest k next behind (omega arith)) v r) in
      let l = listed_read k (output expr inner) output_pieces output_goes_on output_item x xs rest u next run.3 ends in (
        l.0,
        chosen (sees_word (codes "returning")) (expect_word (codes "returning") >> listed (output expr inner)) (pure []) now (that_word (codes "returning") now u run.1)
            ∙ step (expect_word (codes "returning")) (λ _. listed (output expr inner)) now u tt (says_word (codes "returning") now u run.1)
            ∙ l.1,
        l.2,
      )

  abbrev source_pieces : From → List Piece
  source_pieces x = p.whole (from_facts x) ∷ []

  source_item : ListItem k (from_item expr inner) source_pieces from_goes_on
  source_item = record {
    reads = λ x rest now next run stop. item_read expr inner k read queries x rest now next run stop;
    stops = λ now next h. ends_from now (behind_word s.Comma 3 now next h (omega arith));
  }

  pub sources_read : (before : Symbol) (xs : List From) (rest : List Piece) (now next : Stream) → turn (reading.Symbol before) ≡ Turn.neither → Run (c.sources before xs ++ rest) k now next → Lacks before rest k next → Behind 5 rest k next
      → Gives (sources expr inner before now) xs rest k next
  unfolding sources
  sources_read before [] rest now next flat run lacks behind = (now, passed (sees before) (expect before >> listed (from_item expr inner)) (pure []) now (lacks now run), run)
  sources_read before (x ∷ xs) rest now next flat run lacks behind =
      let u = run.0 in
      let items = subst (λ t. Run (p.listed (map source_pieces (x ∷ xs)) ++ rest) (spent t k) u next) flat run.3 in
      let ends : (v : Stream) → Run rest k v next → (sees s.Comma v ≡ false) × (from_goes_on v ≡ false) = λ v r. (lacks_before s.Comma 5 rest k next behind (omega arith) v r, ends_from v (omega (arith, behind v r))) in
      let l = listed_read k (from_item expr inner) source_pieces from_goes_on source_item x xs rest u next items ends in (
        l.0,
        chosen (sees before) (expect before >> listed (from_item expr inner)) (pure []) now (that_symbol before now u run.1)
            ∙ step (expect before) (λ _. listed (from_item expr inner)) now u tt (says_expect before now u run.1)
            ∙ l.1,
        l.2,
      )

  -- ---- sources of an INSERT

  no_start : (letters : List ℕ) (tokens : Lexemes) → head_fits starts_query tokens ≡ true → begins_word letters tokens ≡ false
  no_start letters [] h = refl
  no_start letters (x ∷ rest) h = by_reading x.reading h
    where
      by_reading : (r : Reading) → starts_query r ≡ true → is_word letters r ≡ false
      by_reading (reading.Word w) g = absurd (cc)
      by_reading _ g = refl

  abbrev not_rows : Parser InsertSource
  not_rows = choose (sees_word (codes "default")) (default_values expr inner) (queried expr inner)

  pub source_read : (x : InsertSource) (rest : List Piece) (now next : Stream) → Run (c.source x ++ rest) k now next → Behind 14 rest k next → Gives (source expr inner now) x rest k next
  unfolding source
  source_read (source_kind.Values []) rest now next run behind = absurd (false_true run.3.0)
  source_read (source_kind.Values (x ∷ xs)) rest now next run behind =
      let u = run.0 in
      let l = listed_read k (values_row expr inner) c.values_row (λ v. false) (row_item expr inner k read words) x xs rest u next run.3.1 (λ v r. (lacks_before s.Comma 14 rest k next behind (omega arith) v r, refl)) in (
        l.0,
        chosen (sees_word (codes "values")) (rows expr inner) not_rows now (that_word (codes "values") now u run.1)
            ∙ step (expect_word (codes "values")) (λ _. listed (values_row expr inner) >>= (λ ys. pure (source_kind.Values ys))) now u tt (says_word (codes "values") now u run.1)
            ∙ step (listed (values_row expr inner)) (λ ys. pure (source_kind.Values ys)) u l.0 (x ∷ xs) l.1,
        l.2,
      )
  source_read (source_kind.Query x) rest now next run behind =
      let u = run.0 in
      let head = query_head x now u run.3 in
      let is_read = query_before expr inner k read starts unstarred queries x now u run.1 run.2 run.3 (behind u run.4) in (
        u,
        passed (sees_word (codes "values")) (rows expr inner) not_rows now (no_start (codes "values") now.tokens head)
            ∙ passed (sees_word (codes "default")) (default_values expr inner) (queried expr inner) now (no_start (codes "default") now.tokens head)
            ∙ step (query expr inner) (λ y. pure (source_kind.Query y)) now u x is_read,
        run.4,
      )
  source_read source_kind.DefaultValues rest now next run behind =
      let u = run.0 in
      let v = run.3.0 in (
        v,
        passed (sees_word (codes "values")) (rows expr inner) not_rows now (word_begins (codes "values") (reading.Word (codes "default")) now u run.1)
            ∙ chosen (sees_word (codes "default")) (default_values expr inner) (queried expr inner) now (that_word (codes "default") now u run.1)
            ∙ step (expect_word (codes "default")) (λ _. expect_word (codes "values") >> pure source_kind.DefaultValues) now u tt (says_word (codes "default") now u run.1)
            ∙ step (expect_word (codes "values")) (λ _. pure source_kind.DefaultValues) u v tt (says_word (codes "values") u v run.3.1),
        run.3.3,
      )

  -- ---- ON CONFLICT

  abbrev not_columns : Parser (Option ConflictTarget)
  not_columns = choose (sees s.On) (target_constraint expr inner) (pure None)

  target_read : (x : Option ConflictTarget) (rest : List Piece) (now next : Stream) → Run (c.optional_target x ++ key_word (codes "do") ∷ rest) k now next → Gives (optional_target expr inner now) x (key_word (codes "do") ∷ rest) k next
  unfolding optional_target same
  target_read None rest now next run = (
    now,
    passed (sees s.Open) (target_columns expr inner) not_columns now (word_no_symbol s.Open (codes "do") now run.0 run.1)
        ∙ passed (sees s.On) (target_constraint expr inner) (pure None) now (word_no_symbol s.On (codes "do") now run.0 run.1),
    run,
  )
  target_read (Some (target.Columns [] y)) rest now next run = absurd (false_true run.3.0)
  target_read (Some (target.Columns (x ∷ xs) y)) rest now next run =
      let tail = c.condition y ++ key_word (codes "do") ∷ rest in
      let parts = subst (λ ps. Run ps (k - 1) run.0 next) (append_assoc (p.names (x ∷ xs)) (word s.Close ∷ c.condition y) (key_word (codes "do") ∷ rest)) run.3.1 in
      let b = in_brackets_read k x xs tail now next (run.0, run.1, run.2, parts) in
      let w = clause_read expr inner k read s.Where y (key_word (codes "do") ∷ rest) b.0 next refl b.2 (λ u r. omega (arith, behind_key (codes "do") u r.0 r.1 refl)) in (
        w.0,
        chosen (sees s.Open) (target_columns expr inner) not_columns now (that_symbol s.Open now run.0 run.1)
            ∙ step in_brackets (λ ys. clause expr inner s.Where >>= (λ z. pure (Some (target.Columns ys z)))) now b.0 (x ∷ xs) b.1
            ∙ step (clause expr inner s.Where) (λ z. pure (Some (target.Columns (x ∷ xs) z))) b.0 w.0 y w.1,
        w.2,
      )
  target_read (Some (target.Constraint x)) rest now next run =
      let u = run.0 in
      let v = run.3.0 in
      let n = name_read k x (key_word (codes "do") ∷ rest) v next run.3.3 in (
        n.0,
        passed (sees s.Open) (target_columns expr inner) not_columns now (other_symbol s.Open s.On now u run.1 refl)
            ∙ chosen (sees s.On) (target_constraint expr inner) (pure None) now (that_symbol s.On now u run.1)
            ∙ step (expect s.On) (λ _. expect_word (codes "constraint") >>= (λ _. name >>= (λ y. pure (Some (target.Constraint y))))) now u tt (says_expect s.On now u run.1)
            ∙ step (expect_word (codes "constraint")) (λ _. name >>= (λ y. pure (Some (target.Constraint y)))) u v tt (says_word (codes "constraint") u v run.3.1)
            ∙ step name (λ y. pure (Some (target.Constraint y))) v n.0 x n.1,
        n.2,
      )

  -- what stands behind DO
  abbrev action : Stream → Option ConflictTarget → Parser (Option Conflict)
  action start x = choose (sees_word (codes "nothing")) (do_nothing expr inner start x) (do_update expr inner start x)

  -- ON CONFLICT, a target and DO
  conflict_begun : (x : Option ConflictTarget) (rest : List Piece) (now next : Stream) → Run (word s.On ∷ key_word (codes "conflict") ∷ c.optional_target x ++ key_word (codes "do") ∷ rest) k now next
      → (u : Stream) × (conflict expr inner now ≡ action now x u) × Run rest k u next
  unfolding conflict
  conflict_begun x rest now next run =
      let u = run.0 in
      let v = run.3.0 in
      let t = target_read x rest v next run.3.3 in
      let e = t.2 in (
        e.0,
        chosen (sees s.On) (on_conflict expr inner now) (pure None) now (that_symbol s.On now u run.1)
            ∙ step (expect s.On) (λ _. expect_word (codes "conflict") >>= (λ _. optional_target expr inner >>= (λ y. expect_word (codes "do") >>= (λ _. action now y)))) now u tt (says_expect s.On now u run.1)
            ∙ step (expect_word (codes "conflict")) (λ _. optional_target expr inner >>= (λ y. expect_word (codes "do") >>= (λ _. action now y))) u v tt (says_word (codes "conflict") u v run.3.1)
            ∙ step (optional_target expr inner) (λ y. expect_word (codes "do") >>= (λ _. action now y)) v t.0 x t.1
            ∙ step (expect_word (codes "do")) (λ _. action now x) t.0 e.0 tt (says_word (codes "do") t.0 e.0 e.1),
        e.3,
      )

  conflict_pieces : (x : Option ConflictTarget) (more rest : List Piece) → (word s.On ∷ key_word (codes "conflict") ∷ c.optional_target x ++ key_word (codes "do") ∷ more) ++ rest ≡ word s.On ∷ key_word (codes "conflict") ∷ c.optional_target x ++ key_word (codes "do") ∷ (more ++ rest)
  conflict_pieces x more rest = append_assoc (word s.On ∷ key_word (codes "conflict") ∷ c.optional_target x) (key_word (codes "do") ∷ more) rest

  pub conflict_read : (x : Option Conflict) (rest : List Piece) (now next : Stream) → Run (c.conflict x ++ rest) k now next → EndsConflict rest k next → Gives (conflict expr inner now) x rest k next
  unfolding conflict same
  conflict_read None rest now next run ends = (now, passed (sees s.On) (on_conflict expr inner now) (pure None) now (ends now run).1, run)
  conflict_read (Some (conflict_kind.Nothing place x)) rest now next run ends =
      let b = conflict_begun x (key_word (codes "nothing") ∷ rest) now next (subst (λ ps. Run ps k now next) (conflict_pieces x (key_word (codes "nothing") ∷ []) rest) run.1) in
      let u = b.0 in
      let e = b.2 in (
        e.0,
        b.1
            ∙ chosen (sees_word (codes "nothing")) (do_nothing expr inner now x) (do_update expr inner now x) u (that_word (codes "nothing") u e.0 e.1)
            ∙ step (expect_word (codes "nothing")) (λ _. pure (Some (conflict_kind.Nothing (here now) x))) u e.0 tt (says_word (codes "nothing") u e.0 e.1)
            ∙ ap (λ at. Some (Some (conflict_kind.Nothing at x), e.0)) (stands_here place now.tokens run.0),
        e.3,
      )
  conflict_read (Some (conflict_kind.Update place x sets y)) rest now next run ends =
      let tail = c.condition y ++ rest in
      let behind : Behind 14 rest k next = λ v r. (ends v r).0 in
      let before : Behind 5 tail k next = condition_behind y rest k 5 next (omega arith) behind in
      let front = word s.On ∷ key_word (codes "conflict") ∷ c.conflict_target x in
      let middle = key_word (codes "do") ∷ word s.Update ∷ c.assignments sets in
      let b = conflict_begun (Some x) (word s.Update ∷ c.assignments sets ++ tail) now next (subst (λ ps. Run ps k now next) (append_assoc (front ++ middle) (c.condition y) rest ∙ append_assoc front middle tail) run.1) in
      let u = b.0 in
      let e = b.2 in
      let a = assignments_read expr inner k read words sets tail e.0 next e.3 (λ v r. (lacks_before s.Comma 5 tail k next before (omega arith) v r, stops_behind 5 tail k next before (omega arith) v r)) in
      let w = clause_read expr inner k read s.Where y rest a.0 next refl a.2 (behind_less 14 6 rest k next behind (omega arith)) in (
        w.0,
        b.1
            ∙ passed (sees_word (codes "nothing")) (do_nothing expr inner now (Some x)) (do_update expr inner now (Some x)) u (symbol_no_word (codes "nothing") s.Update u e.0 e.1)
            ∙ step (expect s.Update) (λ _. assignments expr inner >>= (λ xs. clause expr inner s.Where >>= (λ z. pure (Some (conflict_kind.Update (here now) x xs z))))) u e.0 tt (says_expect s.Update u e.0 e.1)
            ∙ step (assignments expr inner) (λ xs. clause expr inner s.Where >>= (λ z. pure (Some (conflict_kind.Update (here now) x xs z)))) e.0 a.0 sets a.1
            ∙ step (clause expr inner s.Where) (λ z. pure (Some (conflict_kind.Update (here now) x sets z))) a.0 w.0 y w.1
            ∙ ap (λ at. Some (Some (conflict_kind.Update at x sets y), w.0)) (stands_here place now.tokens run.0),
        w.2,
      )
