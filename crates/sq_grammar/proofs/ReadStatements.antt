-- Statements are read as they are spelled.
use Rattle.std.proofs.Common.{◌≡◌, ℕ, suc, ◌-◌, ◌≤◌, Bool, true, false, List, [], ◌∷◌, ◌++◌, Option, Some, None, refl, sym, ap, subst, ◌∙◌, arith, append_assoc, map}
use Rattle.std.specs.Prelude.{◌||◌, codes, not, if◌then◌else◌}
use Rattle.std.proofs.lemmas.List.{append-nil}
use Rattle.sq_base.specs.declared.place.Place.{Place}
use Rattle.sq_syntax.specs.declared.symbol.Symbol.{Symbol}
use Rattle.sq_syntax.specs.declared.symbol.Symbol.TheVariants as s
use Rattle.sq_syntax.specs.declared.symbol.Reading.{Reading}
use Rattle.sq_syntax.specs.declared.symbol.Reading.TheVariants as reading
use Rattle.sq_syntax.specs.declared.name.Identifier.{Identifier}
use Rattle.sq_syntax.specs.declared.name.QualifiedName.{QualifiedName}
use Rattle.sq_syntax.specs.declared.expr.Node.{Node}
use Rattle.sq_syntax.specs.declared.query.Factor.{Factor}
use Rattle.sq_syntax.specs.declared.query.From.{From}
use Rattle.sq_syntax.specs.declared.query.Output.{Output}
use Rattle.sq_syntax.specs.declared.query.Query.{Query}
use Rattle.sq_syntax.specs.declared.query.With.{With}
use Rattle.sq_syntax.specs.declared.statement.Assignment.{Assignment}
use Rattle.sq_syntax.specs.declared.statement.Conflict.{Conflict}
use Rattle.sq_syntax.specs.declared.statement.Delete.{Delete}
use Rattle.sq_syntax.specs.declared.statement.Insert.{Insert}
use Rattle.sq_syntax.specs.declared.statement.InsertSource.{InsertSource}
use Rattle.sq_syntax.specs.declared.statement.InsertSource.TheVariants as source_kind
use Rattle.sq_syntax.specs.declared.statement.Statement.{Statement}
use Rattle.sq_syntax.specs.declared.statement.Statement.TheVariants as statement_kind
use Rattle.sq_syntax.specs.declared.statement.TableAlias.{TableAlias}
use Rattle.sq_syntax.specs.declared.statement.Update.{Update}
use Rattle.sq_syntax.specs.Facts.{Mark, Stream, Along, Says, Piece, from, marks_of}
use Rattle.sq_syntax.specs.Symbols.{identifier_reading, is_bare_label}
use Rattle.sq_syntax.specs.Pieces as p
use Rattle.sq_syntax.specs.Pieces.{sym as word}
use Rattle.sq_syntax.specs.QueryPieces as f
use Rattle.sq_syntax.specs.Statements as c
use Rattle.sq_syntax.specs.Statements.{word as key_word, is_set, leaves_set, changed, statement_facts}
use Rattle.sq_grammar.specs.Reading.{Parser, ◌>>=◌, pure, choose, is, begins, sees, expect, same, here}
use Rattle.sq_grammar.specs.Ahead.{Lexemes}
use Rattle.sq_grammar.specs.Levels.{Expr}
use Rattle.sq_grammar.specs.Names.{qualified_name}
use Rattle.sq_grammar.specs.Queries.{begins_label, clause, select, bracketed, core, factor, tight_operation, operands, with_queries, body, query}
use Rattle.sq_grammar.specs.Statements.{is_word, begins_word, expect_word, begins_names, columns, as_name, table_alias, begins_unset, source, assignments, conflict, returning, sources, insert, update, delete, whole_query, tokens_behind, behind_with, statement}
use Rattle.sq_grammar.proofs.Runs.{Run, along_split}
use Rattle.sq_grammar.proofs.Complete.{step, says_expect, stands_here}
use Rattle.sq_grammar.proofs.Begins.{Starts, starts_negated, head_fits, part_of}
use Rattle.sq_grammar.proofs.Stars.{Unstarred}
use Rattle.sq_grammar.proofs.Lists.{ReadsTo}
use Rattle.sq_grammar.proofs.ReadsBelow.{ReadsBelow}
use Rattle.sq_grammar.proofs.Ranks.{Behind, rank, lacks_before, stops_behind, label_behind, behind_less}
use Rattle.sq_grammar.proofs.ReadNames.{Lacks, chosen, passed, qualified_read}
use Rattle.sq_grammar.proofs.ReadTypes.{other_symbol, that_symbol}
use Rattle.sq_grammar.proofs.Aliases.{apart, unseen_word, label_seen}
use Rattle.sq_grammar.proofs.Clauses.{clause_read}
use Rattle.sq_grammar.proofs.FromFronts.{wholly}
use Rattle.sq_grammar.proofs.Withs.{withs_read}
use Rattle.sq_grammar.proofs.ReadQueries.{query_before}
use Rattle.sq_grammar.proofs.KeyWords.{says_word, that_word, word_begins, symbol_no_word, word_no_symbol}
use Rattle.sq_grammar.proofs.Unreserved.{unreserved, expect_begins}
use Rattle.sq_grammar.proofs.Unstarred.{symbol_is}
use Rattle.sq_grammar.proofs.QueryStarts.{starts_query, query_head, query_unnamed, no_bracket}
use Rattle.sq_grammar.proofs.ReadGiven.{assignments_read}
use Rattle.sq_grammar.proofs.ReadChanges.{as_name_read, columns_read, EndsAlias, Seen, table_alias_read, AtEnd, EndsConflict, returning_behind, conflict_behind, condition_behind, sources_behind, returning_read, sources_read, source_read, conflict_read}

-- ---- what a source of rows begins with

-- a source begins with a word or as a query does
abbrev starts_source : Reading → Bool
starts_source (reading.Word letters) = true
starts_source r = starts_query r

source_first : (r : Reading) (u v : Stream) → Says r u v → starts_source r ≡ true → head_fits starts_source u.tokens ≡ true
source_first r u v h e = ap (λ tokens. head_fits starts_source tokens) h.first ∙ e

query_source : (tokens : Lexemes) → head_fits starts_query tokens ≡ true → head_fits starts_source tokens ≡ true
query_source [] h = absurd (cc)
query_source (x ∷ rest) h = by_reading x.reading h
  where
    by_reading : (r : Reading) → starts_query r ≡ true → starts_source r ≡ true
    by_reading (reading.Word letters) g = refl
    by_reading (reading.Symbol y) g = g
    by_reading _ g = absurd (cc)

source_begins : (d : ℕ) (x : InsertSource) (rest : List Piece) (now next : Stream) → Run (c.source x ++ rest) d now next → head_fits starts_source now.tokens ≡ true
source_begins d (source_kind.Values xs) rest now next run = source_first (reading.Word (codes "values")) now run.0 run.1 refl
source_begins d (source_kind.Query x) rest now next run = query_source now.tokens (query_head x now run.0 run.3)
source_begins d source_kind.DefaultValues rest now next run = source_first (reading.Word (codes "default")) now run.0 run.1 refl

word_unnamed : (letters : List ℕ) (u v : Stream) → Says (reading.Word letters) u v → begins_names u.tokens ≡ false
word_unnamed letters u v h = ap begins_names h.first ∙ no_bracket (record { reading = reading.Word letters; place = h.place }) v.tokens refl

source_unnamed : (d : ℕ) (x : InsertSource) (rest : List Piece) (now next : Stream) → Run (c.source x ++ rest) d now next → begins_names now.tokens ≡ false
source_unnamed d (source_kind.Values xs) rest now next run = word_unnamed (codes "values") now run.0 run.1
source_unnamed d (source_kind.Query x) rest now next run = query_unnamed x now run.0 run.3
source_unnamed d source_kind.DefaultValues rest now next run = word_unnamed (codes "default") now run.0 run.1

no_source : (k : Symbol) (tokens : Lexemes) → starts_source (reading.Symbol k) ≡ false → head_fits starts_source tokens ≡ true → begins k tokens ≡ false
no_source k [] outside h = refl
no_source k (x ∷ rest) outside h = apart starts_source k x.reading h outside

-- neither a column list nor a source begins with another sign
past_columns : (k : Symbol) (d : ℕ) (xs : List Identifier) (x : InsertSource) (rest : List Piece) (next : Stream) → same s.Open k ≡ false → starts_source (reading.Symbol k) ≡ false → Lacks k (p.bracketed_names xs ++ (c.source x ++ rest)) d next
past_columns k d [] x rest next other outside u run = no_source k u.tokens outside (source_begins d x rest u next run)
past_columns k d (y ∷ ys) x rest next other outside u run = other_symbol k s.Open u run.0 run.1 other

past_name : (d : ℕ) (alias : Option Identifier) (xs : List Identifier) (x : InsertSource) (rest : List Piece) (next : Stream) → Lacks s.Dot (c.as_name alias ++ (p.bracketed_names xs ++ (c.source x ++ rest))) d next
unfolding same
past_name d None xs x rest next u run = past_columns s.Dot d xs x rest next refl refl u run
past_name d (Some y) xs x rest next u run = other_symbol s.Dot s.As u run.0 run.1 refl

-- ---- what stands behind the table of an UPDATE

set_ends : (d : ℕ) (xs : List Assignment) (rest : List Piece) (next : Stream) → EndsAlias begins_unset (c.assignments xs ++ rest) d next
set_ends d xs rest next u run = (word_no_symbol s.As (codes "set") u run.0 run.1, ap begins_unset run.1.first)

not_set : (b : Bool) → false || not b ≡ true → not b ≡ true
not_set true h = h
not_set false h = h

unset_of : (y : Identifier) (u v : Stream) → is_bare_label (identifier_reading y) ≡ true → not (is_set (identifier_reading y)) ≡ true → Says (identifier_reading y) u v → begins_unset u.tokens ≡ true
unset_of y u v h k says = ap begins_unset says.first ∙ rw (h, k) refl

unset_seen : (x : Option TableAlias) → leaves_set x ≡ true → Seen begins_unset x
unset_seen x h y u v is label says = unset_of y u v label (not_set (is_set (identifier_reading y)) (subst (λ z. leaves_set z ≡ true) is h)) says

label_seen_of : (x : Option TableAlias) → Seen begins_label x
label_seen_of x y u v is label says = label_seen (identifier_reading y) u v says ∙ label

-- a name of the table, or what stands behind it, is no dot
past_alias : (d : ℕ) (x : Option TableAlias) (rest : List Piece) (next : Stream) → Lacks s.Dot rest d next → Lacks s.Dot (c.table_alias x ++ rest) d next
unfolding same
past_alias d None rest next lacks u run = lacks u run
past_alias d (Some x) rest next lacks u run = by_as x.has_as x.name run
  where
    by_as : (has_as : Bool) (y : Identifier) → Run (c.table_alias (Some (record { has_as = has_as; name = y })) ++ rest) d u next → sees s.Dot u ≡ false
    by_as true y r = other_symbol s.Dot s.As u r.0 r.1 refl
    by_as false y r = unseen_word is_bare_label s.Dot (identifier_reading y) u r.1.1.0 r.1.1.1 r.0 refl

module _ (expr : Parser Expr) (inner : Parser Query) (k : ℕ) (read : ReadsTo k expr) (starts : Starts starts_negated expr) (words : Starts unreserved expr) (unstarred : Unstarred expr) (queries : ReadsBelow k inner) where
  -- ---- INSERT

  abbrev insert_of : Place → ℕ → ℕ → List (With Query) → QualifiedName → Option Identifier → List Identifier → InsertSource → Option Conflict → List (Node (Output Expr)) → Insert
  insert_of place first last withs table alias names found action outputs = record { place = place; first = first; last = last; with = withs; table = table; alias = alias; columns = names; source = found; conflict = action; returning = outputs }

  abbrev inserted : Stream → List (With Query) → QualifiedName → Option Identifier → List Identifier → InsertSource → Option Conflict → List (Node (Output Expr)) → Parser Statement
  inserted start withs table alias names found action outputs = λ now. Some (statement_kind.Insert (insert_of (here start) start.at (now.at - 1) withs table alias names found action outputs), now)

  abbrev to_outputs : Stream → List (With Query) → QualifiedName → Option Identifier → List Identifier → InsertSource → Option Conflict → Parser Statement
  to_outputs start withs table alias names found action = returning expr inner >>= inserted start withs table alias names found action

  abbrev to_action : Stream → List (With Query) → QualifiedName → Option Identifier → List Identifier → InsertSource → Parser Statement
  to_action start withs table alias names found = conflict expr inner >>= to_outputs start withs table alias names found

  abbrev to_source : Stream → List (With Query) → QualifiedName → Option Identifier → List Identifier → Parser Statement
  to_source start withs table alias names = source expr inner >>= to_action start withs table alias names

  abbrev to_columns : Stream → List (With Query) → QualifiedName → Option Identifier → Parser Statement
  to_columns start withs table alias = columns >>= to_source start withs table alias

  abbrev to_name : Stream → List (With Query) → QualifiedName → Parser Statement
  to_name start withs table = as_name >>= to_columns start withs table

  abbrev to_table : Stream → List (With Query) → Parser Statement
  to_table start withs = qualified_name >>= to_name start withs

  insert_regrouped : (x : Insert) → c.insert_pieces x ++ [] ≡ f.with_queries (map c.with_facts x.with) ++ (key_word (codes "insert") ∷ key_word (codes "into") ∷ p.qualified_name x.table ++
      (c.as_name x.alias ++ (p.bracketed_names x.columns ++ (c.source x.source ++ (c.conflict x.conflict ++ (c.returning x.returning ++ []))))))
  insert_regrouped x =
      let a = f.with_queries (map c.with_facts x.with) in
      let b = key_word (codes "insert") ∷ key_word (codes "into") ∷ p.qualified_name x.table in
      let n = c.as_name x.alias in
      let l = p.bracketed_names x.columns in
      let o = c.source x.source in
      let g = c.conflict x.conflict in
      let r = c.returning x.returning in
      append_assoc (a ++ b ++ n ++ l ++ o ++ g) r [] ∙ append_assoc (a ++ b ++ n ++ l ++ o) g (r ++ []) ∙ append_assoc (a ++ b ++ n ++ l) o (g ++ (r ++ [])) ∙ append_assoc (a ++ b ++ n) l (o ++ (g ++ (r ++ [])))
      ∙ append_assoc (a ++ b) n (l ++ (o ++ (g ++ (r ++ [])))) ∙ append_assoc a b (n ++ (l ++ (o ++ (g ++ (r ++ [])))))

  insert_read : (x : Insert) (now next : Stream) → Run (p.at x.place ∷ c.insert_pieces x ++ []) k now next → x.first ≡ now.at → suc x.last ≡ next.at → next.tokens ≡ []
      → (insert expr inner now ≡ Some (statement_kind.Insert x, next)) × (begins_word (codes "insert") (behind_with expr inner now) ≡ true)
  unfolding insert same
  insert_read x now next run begun ended over =
      let at_end : AtEnd [] k next = λ u r. ap (λ (v : Stream). v.tokens) r ∙ over in
      let outputs = c.returning x.returning ++ [] in
      let ends : EndsConflict outputs k next = returning_behind x.returning [] k next at_end in
      let actions = c.conflict x.conflict ++ outputs in
      let behind : Behind 14 actions k next = conflict_behind x.conflict outputs k next ends in
      let all = subst (λ ps. Run ps k now next) (insert_regrouped x) run.1 in
      let w = withs_read expr inner k queries x.with _ now next all (λ u r. word_no_symbol s.With (codes "insert") u r.0 r.1) (λ u r. word_no_symbol s.Comma (codes "insert") u r.0 r.1) in
      let i = w.2 in
      let j = i.3 in
      let t = qualified_read k x.table _ j.0 next j.3 (past_name k x.alias x.columns x.source actions next) in
      let a = as_name_read k x.alias _ t.0 next t.2 (past_columns s.As k x.columns x.source actions next refl refl) in
      let n = columns_read k x.columns _ a.0 next a.2 (λ u q. source_unnamed k x.source actions u next q) in
      let o = source_read expr inner k read starts words unstarred queries x.source actions n.0 next n.2 behind in
      let g = conflict_read expr inner k read starts words unstarred queries x.conflict outputs o.0 next o.2 ends in
      let r = returning_read expr inner k read starts words unstarred queries x.returning [] g.0 next g.2 at_end in
      let is_last : next.at - 1 ≡ x.last = omega (arith, ended) in (
        step (with_queries expr inner) (λ ws. expect_word (codes "insert") >>= (λ _. expect_word (codes "into") >>= (λ _. to_table now ws))) now w.0 x.with w.1
            ∙ step (expect_word (codes "insert")) (λ _. expect_word (codes "into") >>= (λ _. to_table now x.with)) w.0 i.0 tt (says_word (codes "insert") w.0 i.0 i.1)
            ∙ step (expect_word (codes "into")) (λ _. to_table now x.with) i.0 j.0 tt (says_word (codes "into") i.0 j.0 j.1)
            ∙ step qualified_name (to_name now x.with) j.0 t.0 x.table t.1
            ∙ step as_name (to_columns now x.with x.table) t.0 a.0 x.alias a.1
            ∙ step columns (to_source now x.with x.table x.alias) a.0 n.0 x.columns n.1
            ∙ step (source expr inner) (to_action now x.with x.table x.alias x.columns) n.0 o.0 x.source o.1
            ∙ step (conflict expr inner) (to_outputs now x.with x.table x.alias x.columns x.source) o.0 g.0 x.conflict g.1
            ∙ step (returning expr inner) (inserted now x.with x.table x.alias x.columns x.source x.conflict) g.0 r.0 x.returning r.1
            ∙ ap (λ u. inserted now x.with x.table x.alias x.columns x.source x.conflict x.returning u) r.2
            ∙ ap (λ m. Some (statement_kind.Insert (insert_of (here now) now.at m x.with x.table x.alias x.columns x.source x.conflict x.returning), next)) is_last
            ∙ ap (λ m. Some (statement_kind.Insert (insert_of (here now) m x.last x.with x.table x.alias x.columns x.source x.conflict x.returning), next)) (sym begun)
            ∙ ap (λ at. Some (statement_kind.Insert (insert_of at x.first x.last x.with x.table x.alias x.columns x.source x.conflict x.returning), next)) (stands_here x.place now.tokens run.0),
        ap (λ o. begins_word (codes "insert") (tokens_behind expr inner o)) w.1 ∙ that_word (codes "insert") w.0 i.0 i.1,
      )

  -- ---- UPDATE

  abbrev update_of : Place → ℕ → ℕ → List (With Query) → QualifiedName → Option TableAlias → List Assignment → List From → Option Expr → List (Node (Output Expr)) → Update
  update_of place first last withs table alias sets from condition outputs = record { place = place; first = first; last = last; with = withs; table = table; alias = alias; sets = sets; from = from; condition = condition; returning = outputs }

  abbrev updated : Stream → List (With Query) → QualifiedName → Option TableAlias → List Assignment → List From → Option Expr → List (Node (Output Expr)) → Parser Statement
  updated start withs table alias sets from condition outputs = λ now. Some (statement_kind.Update (update_of (here start) start.at (now.at - 1) withs table alias sets from condition outputs), now)

  abbrev update_to_outputs : Stream → List (With Query) → QualifiedName → Option TableAlias → List Assignment → List From → Option Expr → Parser Statement
  update_to_outputs start withs table alias sets from condition = returning expr inner >>= updated start withs table alias sets from condition

  abbrev update_to_condition : Stream → List (With Query) → QualifiedName → Option TableAlias → List Assignment → List From → Parser Statement
  update_to_condition start withs table alias sets from = clause expr inner s.Where >>= update_to_outputs start withs table alias sets from

  abbrev update_to_from : Stream → List (With Query) → QualifiedName → Option TableAlias → List Assignment → Parser Statement
  update_to_from start withs table alias sets = sources expr inner s.From >>= update_to_condition start withs table alias sets

  abbrev update_to_sets : Stream → List (With Query) → QualifiedName → Option TableAlias → Parser Statement
  update_to_sets start withs table alias = assignments expr inner >>= update_to_from start withs table alias

  abbrev update_to_alias : Stream → List (With Query) → QualifiedName → Parser Statement
  update_to_alias start withs table = table_alias begins_unset >>= update_to_sets start withs table

  abbrev update_to_table : Stream → List (With Query) → Parser Statement
  update_to_table start withs = qualified_name >>= update_to_alias start withs

  update_regrouped : (x : Update) → c.update_pieces x ++ [] ≡ f.with_queries (map c.with_facts x.with) ++ (word s.Update ∷ p.qualified_name x.table ++
      (Piece.need (leaves_set x.alias) ∷ c.table_alias x.alias ++ (c.assignments x.sets ++ (c.sources s.From x.from ++ (c.condition x.condition ++ (c.returning x.returning ++ []))))))
  update_regrouped x =
      let a = f.with_queries (map c.with_facts x.with) in
      let b = word s.Update ∷ p.qualified_name x.table in
      let n = Piece.need (leaves_set x.alias) ∷ c.table_alias x.alias in
      let l = c.assignments x.sets in
      let o = c.sources s.From x.from in
      let g = c.condition x.condition in
      let r = c.returning x.returning in
      append_assoc (a ++ b ++ n ++ l ++ o ++ g) r [] ∙ append_assoc (a ++ b ++ n ++ l ++ o) g (r ++ []) ∙ append_assoc (a ++ b ++ n ++ l) o (g ++ (r ++ [])) ∙ append_assoc (a ++ b ++ n) l (o ++ (g ++ (r ++ [])))
      ∙ append_assoc (a ++ b) n (l ++ (o ++ (g ++ (r ++ [])))) ∙ append_assoc a b (n ++ (l ++ (o ++ (g ++ (r ++ [])))))

  update_read : (x : Update) (now next : Stream) → Run (p.at x.place ∷ c.update_pieces x ++ []) k now next → x.first ≡ now.at → suc x.last ≡ next.at → next.tokens ≡ []
      → (update expr inner now ≡ Some (statement_kind.Update x, next)) × (begins_word (codes "insert") (behind_with expr inner now) ≡ false) × (begins s.Update (behind_with expr inner now) ≡ true)
  unfolding update same
  update_read x now next run begun ended over =
      let at_end : AtEnd [] k next = λ u r. ap (λ (v : Stream). v.tokens) r ∙ over in
      let outputs = c.returning x.returning ++ [] in
      let behind : Behind 14 outputs k next = λ u r. (returning_behind x.returning [] k next at_end u r).0 in
      let filtered = c.condition x.condition ++ outputs in
      let before_where : Behind 5 filtered k next = condition_behind x.condition outputs k 5 next (omega arith) behind in
      let tail = c.sources s.From x.from ++ filtered in
      let before_from : Behind 4 tail k next = sources_behind s.From x.from filtered k 4 next (omega arith) (omega arith) before_where in
      let all = subst (λ ps. Run ps k now next) (update_regrouped x) run.1 in
      let w = withs_read expr inner k queries x.with _ now next all (λ u r. other_symbol s.With s.Update u r.0 r.1 refl) (λ u r. other_symbol s.Comma s.Update u r.0 r.1 refl) in
      let i = w.2 in
      let t = qualified_read k x.table _ i.0 next i.3 (λ u r. past_alias k x.alias (c.assignments x.sets ++ tail) next (λ v q. word_no_symbol s.Dot (codes "set") v q.0 q.1) u r.1) in
      let a = table_alias_read k begins_unset x.alias _ t.0 next t.2.1 (set_ends k x.sets tail next) (unset_seen x.alias t.2.0) in
      let n = assignments_read expr inner k read words x.sets tail a.0 next a.2 (λ u r. (lacks_before s.Comma 4 tail k next before_from (omega arith) u r, stops_behind 4 tail k next before_from (omega arith) u r)) in
      let o = sources_read expr inner k read starts words unstarred queries s.From x.from filtered n.0 next refl n.2 (lacks_before s.From 5 filtered k next before_where (omega arith)) before_where in
      let g = clause_read expr inner k read s.Where x.condition outputs o.0 next refl o.2 (behind_less 14 6 outputs k next behind (omega arith)) in
      let r = returning_read expr inner k read starts words unstarred queries x.returning [] g.0 next g.2 at_end in
      let is_last : next.at - 1 ≡ x.last = omega (arith, ended) in (
        step (with_queries expr inner) (λ ws. expect s.Update >>= (λ _. update_to_table now ws)) now w.0 x.with w.1
            ∙ step (expect s.Update) (λ _. update_to_table now x.with) w.0 i.0 tt (says_expect s.Update w.0 i.0 i.1)
            ∙ step qualified_name (update_to_alias now x.with) i.0 t.0 x.table t.1
            ∙ step (table_alias begins_unset) (update_to_sets now x.with x.table) t.0 a.0 x.alias a.1
            ∙ step (assignments expr inner) (update_to_from now x.with x.table x.alias) a.0 n.0 x.sets n.1
            ∙ step (sources expr inner s.From) (update_to_condition now x.with x.table x.alias x.sets) n.0 o.0 x.from o.1
            ∙ step (clause expr inner s.Where) (update_to_outputs now x.with x.table x.alias x.sets x.from) o.0 g.0 x.condition g.1
            ∙ step (returning expr inner) (updated now x.with x.table x.alias x.sets x.from x.condition) g.0 r.0 x.returning r.1
            ∙ ap (λ u. updated now x.with x.table x.alias x.sets x.from x.condition x.returning u) r.2
            ∙ ap (λ m. Some (statement_kind.Update (update_of (here now) now.at m x.with x.table x.alias x.sets x.from x.condition x.returning), next)) is_last
            ∙ ap (λ m. Some (statement_kind.Update (update_of (here now) m x.last x.with x.table x.alias x.sets x.from x.condition x.returning), next)) (sym begun)
            ∙ ap (λ at. Some (statement_kind.Update (update_of at x.first x.last x.with x.table x.alias x.sets x.from x.condition x.returning), next)) (stands_here x.place now.tokens run.0),
        ap (λ o. begins_word (codes "insert") (tokens_behind expr inner o)) w.1 ∙ symbol_no_word (codes "insert") s.Update w.0 i.0 i.1,
        ap (λ o. begins s.Update (tokens_behind expr inner o)) w.1 ∙ that_symbol s.Update w.0 i.0 i.1,
      )

  -- ---- DELETE

  abbrev delete_of : Place → ℕ → ℕ → List (With Query) → QualifiedName → Option TableAlias → List From → Option Expr → List (Node (Output Expr)) → Delete
  delete_of place first last withs table alias using condition outputs = record { place = place; first = first; last = last; with = withs; table = table; alias = alias; using = using; condition = condition; returning = outputs }

  abbrev deleted : Stream → List (With Query) → QualifiedName → Option TableAlias → List From → Option Expr → List (Node (Output Expr)) → Parser Statement
  deleted start withs table alias using condition outputs = λ now. Some (statement_kind.Delete (delete_of (here start) start.at (now.at - 1) withs table alias using condition outputs), now)

  abbrev delete_to_outputs : Stream → List (With Query) → QualifiedName → Option TableAlias → List From → Option Expr → Parser Statement
  delete_to_outputs start withs table alias using condition = returning expr inner >>= deleted start withs table alias using condition

  abbrev delete_to_condition : Stream → List (With Query) → QualifiedName → Option TableAlias → List From → Parser Statement
  delete_to_condition start withs table alias using = clause expr inner s.Where >>= delete_to_outputs start withs table alias using

  abbrev delete_to_using : Stream → List (With Query) → QualifiedName → Option TableAlias → Parser Statement
  delete_to_using start withs table alias = sources expr inner s.Using >>= delete_to_condition start withs table alias

  abbrev delete_to_alias : Stream → List (With Query) → QualifiedName → Parser Statement
  delete_to_alias start withs table = table_alias begins_label >>= delete_to_using start withs table

  abbrev delete_to_table : Stream → List (With Query) → Parser Statement
  delete_to_table start withs = qualified_name >>= delete_to_alias start withs

  delete_regrouped : (x : Delete) → c.delete_pieces x ++ [] ≡ f.with_queries (map c.with_facts x.with) ++ (key_word (codes "delete") ∷ word s.From ∷ p.qualified_name x.table ++
      (c.table_alias x.alias ++ (c.sources s.Using x.using ++ (c.condition x.condition ++ (c.returning x.returning ++ [])))))
  delete_regrouped x =
      let a = f.with_queries (map c.with_facts x.with) in
      let b = key_word (codes "delete") ∷ word s.From ∷ p.qualified_name x.table in
      let n = c.table_alias x.alias in
      let o = c.sources s.Using x.using in
      let g = c.condition x.condition in
      let r = c.returning x.returning in
      append_assoc (a ++ b ++ n ++ o ++ g) r [] ∙ append_assoc (a ++ b ++ n ++ o) g (r ++ []) ∙ append_assoc (a ++ b ++ n) o (g ++ (r ++ []))
      ∙ append_assoc (a ++ b) n (o ++ (g ++ (r ++ []))) ∙ append_assoc a b (n ++ (o ++ (g ++ (r ++ []))))

  delete_read : (x : Delete) (now next : Stream) → Run (p.at x.place ∷ c.delete_pieces x ++ []) k now next → x.first ≡ now.at → suc x.last ≡ next.at → next.tokens ≡ []
      → (delete expr inner now ≡ Some (statement_kind.Delete x, next)) × (begins_word (codes "insert") (behind_with expr inner now) ≡ false) × (begins s.Update (behind_with expr inner now) ≡ false) × (begins_word (codes "delete") (behind_with expr inner now) ≡ true)
  unfolding delete same
  delete_read x now next run begun ended over =
      let at_end : AtEnd [] k next = λ u r. ap (λ (v : Stream). v.tokens) r ∙ over in
      let outputs = c.returning x.returning ++ [] in
      let behind : Behind 14 outputs k next = λ u r. (returning_behind x.returning [] k next at_end u r).0 in
      let filtered = c.condition x.condition ++ outputs in
      let before_where : Behind 5 filtered k next = condition_behind x.condition outputs k 5 next (omega arith) behind in
      let tail = c.sources s.Using x.using ++ filtered in
      let before_using : Behind 1 tail k next = sources_behind s.Using x.using filtered k 1 next (omega arith) (omega arith) before_where in
      let all = subst (λ ps. Run ps k now next) (delete_regrouped x) run.1 in
      let w = withs_read expr inner k queries x.with _ now next all (λ u r. word_no_symbol s.With (codes "delete") u r.0 r.1) (λ u r. word_no_symbol s.Comma (codes "delete") u r.0 r.1) in
      let i = w.2 in
      let j = i.3 in
      let t = qualified_read k x.table _ j.0 next j.3 (past_alias k x.alias tail next (lacks_before s.Dot 1 tail k next before_using (omega arith))) in
      let a = table_alias_read k begins_label x.alias tail t.0 next t.2 (label_behind 1 tail k next before_using (omega arith)) (label_seen_of x.alias) in
      let o = sources_read expr inner k read starts words unstarred queries s.Using x.using filtered a.0 next refl a.2 (lacks_before s.Using 5 filtered k next before_where (omega arith)) before_where in
      let g = clause_read expr inner k read s.Where x.condition outputs o.0 next refl o.2 (behind_less 14 6 outputs k next behind (omega arith)) in
      let r = returning_read expr inner k read starts words unstarred queries x.returning [] g.0 next g.2 at_end in
      let is_last : next.at - 1 ≡ x.last = omega (arith, ended) in (
        step (with_queries expr inner) (λ ws. expect_word (codes "delete") >>= (λ _. expect s.From >>= (λ _. delete_to_table now ws))) now w.0 x.with w.1
            ∙ step (expect_word (codes "delete")) (λ _. expect s.From >>= (λ _. delete_to_table now x.with)) w.0 i.0 tt (says_word (codes "delete") w.0 i.0 i.1)
            ∙ step (expect s.From) (λ _. delete_to_table now x.with) i.0 j.0 tt (says_expect s.From i.0 j.0 j.1)
            ∙ step qualified_name (delete_to_alias now x.with) j.0 t.0 x.table t.1
            ∙ step (table_alias begins_label) (delete_to_using now x.with x.table) t.0 a.0 x.alias a.1
            ∙ step (sources expr inner s.Using) (delete_to_condition now x.with x.table x.alias) a.0 o.0 x.using o.1
            ∙ step (clause expr inner s.Where) (delete_to_outputs now x.with x.table x.alias x.using) o.0 g.0 x.condition g.1
            ∙ step (returning expr inner) (deleted now x.with x.table x.alias x.using x.condition) g.0 r.0 x.returning r.1
            ∙ ap (λ u. deleted now x.with x.table x.alias x.using x.condition x.returning u) r.2
            ∙ ap (λ m. Some (statement_kind.Delete (delete_of (here now) now.at m x.with x.table x.alias x.using x.condition x.returning), next)) is_last
            ∙ ap (λ m. Some (statement_kind.Delete (delete_of (here now) m x.last x.with x.table x.alias x.using x.condition x.returning), next)) (sym begun)
            ∙ ap (λ at. Some (statement_kind.Delete (delete_of at x.first x.last x.with x.table x.alias x.using x.condition x.returning), next)) (stands_here x.place now.tokens run.0),
        ap (λ o. begins_word (codes "insert") (tokens_behind expr inner o)) w.1 ∙ word_begins (codes "insert") (reading.Word (codes "delete")) w.0 i.0 i.1,
        ap (λ o. begins s.Update (tokens_behind expr inner o)) w.1 ∙ word_no_symbol s.Update (codes "delete") w.0 i.0 i.1,
        ap (λ o. begins_word (codes "delete") (tokens_behind expr inner o)) w.1 ∙ that_word (codes "delete") w.0 i.0 i.1,
      )

  -- ---- a query

  starts_so : (j : Symbol) → starts_query (reading.Symbol j) ≡ true → (tokens : Lexemes) → begins j tokens ≡ true → head_fits starts_query tokens ≡ true
  starts_so j e [] h = absurd (cc)
  starts_so j e (x ∷ rest) h = ap starts_query (symbol_is j x.reading h) ∙ e

  factor_starts : (now next : Stream) (x : Factor) → factor expr inner now ≡ Some (x, next) → head_fits starts_query now.tokens ≡ true
  unfolding factor select
  factor_starts now next x h = by_open (sees s.Open now) refl h
    where
      by_open : (b : Bool) → sees s.Open now ≡ b → (if b then bracketed expr inner now else core expr inner now) ≡ Some (x, next) → head_fits starts_query now.tokens ≡ true
      by_open true e g = starts_so s.Open refl now.tokens e
      by_open false e g =
          let q = part_of (select expr inner now) _ (x, next) g in
          let t = part_of (expect s.Select now) _ (q.value, q.next) q.is in
          starts_so s.Select refl now.tokens (expect_begins s.Select now t.next t.value t.is)

  -- behind its WITH a query goes on as a query
  query_behind : (x : Query) (now next : Stream) → query expr inner now ≡ Some (x, next) → head_fits starts_query (behind_with expr inner now) ≡ true
  unfolding query body
  query_behind x now next h =
      let w = part_of (with_queries expr inner now) _ (x, next) h in
      let b = part_of (body expr inner w.next) _ (x, next) w.more in
      let t = part_of (operands (sees s.Intersect) tight_operation (factor expr inner) w.next) _ (b.value, b.next) b.is in
      let g = part_of (factor expr inner w.next) _ (t.value, t.next) t.is in
      ap (λ o. head_fits starts_query (tokens_behind expr inner o)) w.is ∙ factor_starts w.next g.next g.value g.is

  no_query_reading : (letters : List ℕ) (r : Reading) → starts_query r ≡ true → is_word letters r ≡ false
  no_query_reading letters (reading.Word word) h = absurd (cc)
  no_query_reading letters _ h = refl

  no_query_word : (letters : List ℕ) (tokens : Lexemes) → head_fits starts_query tokens ≡ true → begins_word letters tokens ≡ false
  no_query_word letters [] h = refl
  no_query_word letters (x ∷ rest) h = no_query_reading letters x.reading h

  no_query_symbol : (j : Symbol) (tokens : Lexemes) → starts_query (reading.Symbol j) ≡ false → head_fits starts_query tokens ≡ true → begins j tokens ≡ false
  no_query_symbol j [] outside h = refl
  no_query_symbol j (x ∷ rest) outside h = apart starts_query j x.reading h outside

  -- ---- all kinds

  abbrev but_update : Parser Statement
  but_update = choose (λ now. begins_word (codes "delete") (behind_with expr inner now)) (delete expr inner) (whole_query expr inner)

  abbrev but_insert : Parser Statement
  but_insert = choose (λ now. begins s.Update (behind_with expr inner now)) (update expr inner) but_update

  record Opened (place : Place) (first last : ℕ) (pieces : List Piece) (now next : Stream) : Type 0 where
    run : Run (p.at place ∷ pieces ++ []) k now next
    begun : first ≡ now.at
    ended : suc last ≡ next.at

  opened : (place : Place) (first last : ℕ) (pieces : List Piece) (now next : Stream) → from 0 (changed place first last pieces).level ≡ true → (changed place first last pieces).depth ≤ k → Along (changed place first last pieces).marks now next → Opened place first last pieces now next
  opened place first last pieces now next ok le a =
      let whole = p.at place ∷ pieces in
      let m = along_split (marks_of whole) (Mark.ends last ∷ []) now next a.1 in
      let run = subst (λ u. Run whole k now u) m.2.1 (wholly whole k now m.0 ok le m.1) in
      record { run = subst (λ ps. Run ps k now next) (sym (append-nil whole)) run; begun = a.0; ended = m.2.0 ∙ ap (λ (u : Stream). u.at) m.2.1 }

  pub statement_read : (x : Statement) (now next : Stream) → from 0 (statement_facts x).level ≡ true → (statement_facts x).depth ≤ k → Along (statement_facts x).marks now next → next.tokens ≡ [] → statement expr inner now ≡ Some (x, next)
  unfolding statement same
  statement_read (statement_kind.Query x) now next ok le a over =
      let is_read = query_before expr inner k read starts unstarred queries x now next ok le a (omega (arith, ap rank over)) in
      let head = query_behind x now next is_read in
      passed (λ u. begins_word (codes "insert") (behind_with expr inner u)) (insert expr inner) but_insert now (no_query_word (codes "insert") (behind_with expr inner now) head)
      ∙ passed (λ u. begins s.Update (behind_with expr inner u)) (update expr inner) but_update now (no_query_symbol s.Update (behind_with expr inner now) refl head)
      ∙ passed (λ u. begins_word (codes "delete") (behind_with expr inner u)) (delete expr inner) (whole_query expr inner) now (no_query_word (codes "delete") (behind_with expr inner now) head)
      ∙ step (query expr inner) (λ y. pure (statement_kind.Query y)) now next x is_read
  statement_read (statement_kind.Insert x) now next ok le a over =
      let o = opened x.place x.first x.last (c.insert_pieces x) now next ok le a in
      let r = insert_read x now next o.run o.begun o.ended over in
      chosen (λ u. begins_word (codes "insert") (behind_with expr inner u)) (insert expr inner) but_insert now r.1 ∙ r.0
  statement_read (statement_kind.Update x) now next ok le a over =
      let o = opened x.place x.first x.last (c.update_pieces x) now next ok le a in
      let r = update_read x now next o.run o.begun o.ended over in
      passed (λ u. begins_word (codes "insert") (behind_with expr inner u)) (insert expr inner) but_insert now r.1
      ∙ chosen (λ u. begins s.Update (behind_with expr inner u)) (update expr inner) but_update now r.2 ∙ r.0
  statement_read (statement_kind.Delete x) now next ok le a over =
      let o = opened x.place x.first x.last (c.delete_pieces x) now next ok le a in
      let r = delete_read x now next o.run o.begun o.ended over in
      passed (λ u. begins_word (codes "insert") (behind_with expr inner u)) (insert expr inner) but_insert now r.1
      ∙ passed (λ u. begins s.Update (behind_with expr inner u)) (update expr inner) but_update now r.2
      ∙ chosen (λ u. begins_word (codes "delete") (behind_with expr inner u)) (delete expr inner) (whole_query expr inner) now r.3 ∙ r.0
