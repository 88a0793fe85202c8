-- What a query is judged to be depends on the spelling of its tokens alone, and not on their places and gaps.
use Rattle.std.proofs.Common.{◌≡◌, ℕ, zero, suc, Bool, true, false, List, [], ◌∷◌, ◌++◌, cond, length, map, Option, None, Some, option_map, Result, Ok, Err, refl, sym, ◌∙◌, ap, inl, inr}
use Rattle.sq_base.specs.declared.code.Code.TheVariants as code
use Rattle.std.specs.Prelude.{codes}
use Rattle.std.proofs.lemmas.Bool.{cases_Bool}
use Rattle.std.proofs.lemmas.List.{length-map}
use Rattle.sq_base.specs.declared.refusal.Refusal.{Refusal}
use Rattle.sq_catalog.specs.Contents.{Contents}
use Rattle.sq_catalog.specs.Catalogue.{placed_table, placed_column}
use Rattle.sq_catalog.specs.declared.table.Column.{Column as TableColumn}
use Rattle.sq_catalog.specs.declared.table.Table.{Table}
use Rattle.sq_core.specs.declared.node.Node.{Node}
use Rattle.sq_shown.specs.declared.signature.Output.{Output}
use Rattle.sq_syntax.specs.declared.token.Token.{Token}
use Rattle.sq_syntax.specs.declared.token.TokenKind.{TokenKind}
use Rattle.sq_syntax.specs.declared.token.TokenKind.TheVariants.{Word, Punct}
use Rattle.sq_lexer.specs.Printed.{Spelling, spelling}
use Rattle.sq_syntax.specs.declared.token.Gap.TheVariants.{Nothing}
use Rattle.sq_run.specs.declared.statements.Named.{Named}
use Rattle.sq_run.specs.declared.statements.Select.{Select}
use Rattle.sq_run.specs.declared.judge.Judged.{Judged}
use Rattle.sq_plan.specs.Options.{◌>>=◌}
use Rattle.sq_run.specs.Statements.{Part, is, named, after, name_at, next, with_item, items_from, items_at, ended, select}
use Rattle.sq_run.specs.Names.{name_text}
use Rattle.sq_run.specs.Judged.{judged, judged_names, judged_select, after_these, node_of, output_of, unknown}
use Rattle.sq_run.specs.Headline.{accepted}

-- a token without its place
abbrev of_spelling : Spelling → Token
of_spelling spelt = record { kind = spelt.kind; bytes = spelt.bytes; place = record { file = 0; line = 0; column = 0 }; gap = Nothing }

abbrev plain : Token → Token
plain token = of_spelling (spelling token)

abbrev plain_named : Named → Named
plain_named named = record { name = named.name; place = record { file = 0; line = 0; column = 0 } }

abbrev plain_select : Select → Select
plain_select query = record { outputs = map plain_named query.outputs; table = plain_named query.table }

plain_are : (ts : List Token) → map plain ts ≡ map of_spelling (map spelling ts)
plain_are [] = refl
plain_are (t ∷ ts) = ap (λ (us : List Token). plain t ∷ us) (plain_are ts)

after_plain : (kind : TokenKind) (text : List ℕ) (ts : List Token) → after kind text (map plain ts) ≡ option_map (map plain) (after kind text ts)
unfolding after
after_plain kind text [] = refl
after_plain kind text (t ∷ ts) = elim (cases_Bool (is kind text t)) [
  | inl is ↦ rw is refl
  | inr not ↦ rw not refl
]

abbrev plain_part : Named × List Token → Named × List Token
plain_part r = (plain_named r.0, map plain r.1)

name_at_plain : (ts : List Token) → name_at (map plain ts) ≡ option_map plain_part (name_at ts)
unfolding name_at
name_at_plain [] = refl
name_at_plain (t ∷ ts) = by_name (name_text t.kind t.bytes)
  where
    by_name : (name : Option (List ℕ)) → option_map (λ n. (named (plain t) n, map plain ts)) name ≡ option_map plain_part (option_map (λ n. (named t n, ts)) name)
    by_name None = refl
    by_name (Some n) = refl

abbrev plain_next : Bool × List Token → Bool × List Token
plain_next r = (r.0, map plain r.1)

-- what follows an item, by what a comma and what the close leave
abbrev next_by : Option (List Token) → Option (List Token) → Part Bool
next_by (Some later) b = Some (true, later)
next_by None b = option_map (λ later. (false, later)) b

next_is : (kind : TokenKind) (close : List ℕ) (ts : List Token) → next kind close ts ≡ next_by (after Punct (codes ",") ts) (after kind close ts)
unfolding next
next_is kind close ts = by_comma (after Punct (codes ",") ts)
  where
    by_comma : (a : Option (List Token)) → elim a [ Some later ↦ Some (true, later) | None ↦ option_map (λ later. (false, later)) (after kind close ts) ] ≡ next_by a (after kind close ts)
    by_comma None = refl
    by_comma (Some later) = refl

next_by_plain : (a b : Option (List Token)) → next_by (option_map (map plain) a) (option_map (map plain) b) ≡ option_map plain_next (next_by a b)
next_by_plain None None = refl
next_by_plain None (Some later) = refl
next_by_plain (Some later) b = refl

next_plain : (kind : TokenKind) (close : List ℕ) (ts : List Token) → next kind close (map plain ts) ≡ option_map plain_next (next kind close ts)
next_plain kind close ts =
    next_is kind close (map plain ts)
    ∙ ap (λ (a : Option (List Token)). next_by a (after kind close (map plain ts))) (after_plain Punct (codes ",") ts)
    ∙ ap (λ (b : Option (List Token)). next_by (option_map (map plain) (after Punct (codes ",") ts)) b) (after_plain kind close ts)
    ∙ next_by_plain (after Punct (codes ",") ts) (after kind close ts)
    ∙ ap (option_map plain_next) (sym (next_is kind close ts))

abbrev plain_items : List Named × List Token → List Named × List Token
plain_items r = (map plain_named r.0, map plain r.1)

with_plain : (first : Named) (later : Part (List Named)) → with_item (plain_named first) (option_map plain_items later) ≡ option_map plain_items (with_item first later)
with_plain first None = refl
with_plain first (Some r) = refl

-- the items from the second on, by what follows the first
abbrev items_after : TokenKind → List ℕ → ℕ → Named → Bool × List Token → Part (List Named)
items_after kind close n first more = cond more.0 (with_item first (items_from name_at kind close n more.1)) (Some (first ∷ [], more.1))

items_plain : (kind : TokenKind) (close : List ℕ) (n : ℕ) (ts : List Token) → items_from name_at kind close n (map plain ts) ≡ option_map plain_items (items_from name_at kind close n ts)
items_plain kind close zero ts = refl
items_plain kind close (suc n) ts = rw (name_at_plain ts) (by_first (items_plain kind close n) (name_at ts))
  where
    by_more : ((us : List Token) → items_from name_at kind close n (map plain us) ≡ option_map plain_items (items_from name_at kind close n us)) → (first : Named) (more : Option (Bool × List Token))
        → (option_map plain_next more >>= items_after kind close n (plain_named first)) ≡ option_map plain_items (more >>= items_after kind close n first)
    by_more later first None = refl
    by_more later first (Some (true, us)) = rw (later us) (with_plain first (items_from name_at kind close n us))
    by_more later first (Some (false, us)) = refl

    by_first : ((us : List Token) → items_from name_at kind close n (map plain us) ≡ option_map plain_items (items_from name_at kind close n us)) → (first : Option (Named × List Token))
        → (option_map plain_part first >>= λ f. next kind close f.1 >>= items_after kind close n f.0) ≡ option_map plain_items (first >>= λ f. next kind close f.1 >>= items_after kind close n f.0)
    by_first later None = refl
    by_first later (Some f) = rw (next_plain kind close f.1) (by_more later f.0 (next kind close f.1))

items_at_plain : (kind : TokenKind) (close : List ℕ) (ts : List Token) → items_at name_at kind close (map plain ts) ≡ option_map plain_items (items_at name_at kind close ts)
items_at_plain kind close ts = rw length-map (items_plain kind close (length ts) ts)

ended_plain : (ts : List Token) → ended (map plain ts) ≡ ended ts
unfolding ended
ended_plain [] = refl
ended_plain (t ∷ ts) = refl

-- the query of these outputs and this table, where nothing follows
abbrev made : List Named → Named × List Token → Option Select
made outputs table = ended table.1 >>= λ end. Some (record { outputs = outputs; table = table.0 })

select_plain : (ts : List Token) → select (map plain ts) ≡ option_map plain_select (select ts)
unfolding select
select_plain ts = rw (after_plain Word (codes "select") ts) (by_select (after Word (codes "select") ts))
  where
    by_end : (outputs : List Named) (table : Named) (end : Option (Unit {0})) → (end >>= λ e. Some (record { outputs = map plain_named outputs; table = plain_named table })) ≡ option_map plain_select (end >>= λ e. Some (record { outputs = outputs; table = table }))
    by_end outputs table None = refl
    by_end outputs table (Some e) = refl

    by_table : (outputs : List Named) (table : Option (Named × List Token)) → (option_map plain_part table >>= made (map plain_named outputs)) ≡ option_map plain_select (table >>= made outputs)
    by_table outputs None = refl
    by_table outputs (Some t) = rw (ended_plain t.1) (by_end outputs t.0 (ended t.1))

    by_outputs : (outputs : Option (List Named × List Token)) → (option_map plain_items outputs >>= λ o. name_at o.1 >>= made o.0) ≡ option_map plain_select (outputs >>= λ o. name_at o.1 >>= made o.0)
    by_outputs None = refl
    by_outputs (Some o) = rw (name_at_plain o.1) (by_table o.0 (name_at o.1))

    by_select : (us : Option (List Token)) → (option_map (map plain) us >>= λ vs. items_at name_at Word (codes "from") vs >>= λ o. name_at o.1 >>= made o.0) ≡ option_map plain_select (us >>= λ vs. items_at name_at Word (codes "from") vs >>= λ o. name_at o.1 >>= made o.0)
    by_select None = refl
    by_select (Some vs) = rw (items_at_plain Word (codes "from") vs) (by_outputs (items_at name_at Word (codes "from") vs))

accepted_after : (nodes : List Node) (outputs : List Output) (x y : Result (List Node × List Output) Refusal) → accepted x ≡ accepted y → accepted (after_these nodes outputs x) ≡ accepted (after_these nodes outputs y)
accepted_after nodes outputs (Ok a) (Ok b) same = ap (λ (r : Option (List Node × List Output)). option_map (λ l. (nodes ++ l.0, outputs ++ l.1)) r) same
accepted_after nodes outputs (Ok a) (Err e) same = absurd (cc same)
accepted_after nodes outputs (Err e) (Ok b) same = absurd (cc same)
accepted_after nodes outputs (Err e) (Err f) same = refl

names_plain : (table : Table) (names : List Named) → accepted (judged_names table (map plain_named names)) ≡ accepted (judged_names table names)
names_plain table [] = refl
names_plain table (named ∷ names) = by_column (names_plain table names) (placed_column table named.name)
  where
    by_column : accepted (judged_names table (map plain_named names)) ≡ accepted (judged_names table names) → (found : Option (ℕ × TableColumn)) → accepted (elim found [ None ↦ Err (unknown code.UnknownColumn (plain_named named)) | Some c ↦ after_these (node_of c.0 c.1 ∷ []) (output_of c.1 ∷ []) (judged_names table (map plain_named names)) ])
        ≡ accepted (elim found [ None ↦ Err (unknown code.UnknownColumn named) | Some c ↦ after_these (node_of c.0 c.1 ∷ []) (output_of c.1 ∷ []) (judged_names table names) ])
    by_column later None = refl
    by_column later (Some c) = accepted_after (node_of c.0 c.1 ∷ []) (output_of c.1 ∷ []) (judged_names table (map plain_named names)) (judged_names table names) later

accepted_select : (place : ℕ) (table : Table) (x y : Result (List Node × List Output) Refusal) → accepted x ≡ accepted y → accepted (judged_select place table x) ≡ accepted (judged_select place table y)
accepted_select place table (Ok a) (Ok b) same = ap (λ (r : Option (List Node × List Output)). elim r [ None ↦ None | Some found ↦ accepted (judged_select place table (Ok found)) ]) same
accepted_select place table (Ok a) (Err e) same = absurd (cc same)
accepted_select place table (Err e) (Ok b) same = absurd (cc same)
accepted_select place table (Err e) (Err f) same = refl

judged_plain : (contents : Contents) (query : Select) → accepted (judged contents (plain_select query)) ≡ accepted (judged contents query)
unfolding judged
judged_plain contents query = by_table (placed_table contents (codes "public") query.table.name)
  where
    by_table : (found : Option (ℕ × Table)) → accepted (elim found [ None ↦ Err (unknown code.UnknownTable (plain_named query.table)) | Some t ↦ judged_select t.0 t.1 (judged_names t.1 (map plain_named query.outputs)) ])
        ≡ accepted (elim found [ None ↦ Err (unknown code.UnknownTable query.table) | Some t ↦ judged_select t.0 t.1 (judged_names t.1 query.outputs) ])
    by_table None = refl
    by_table (Some t) = accepted_select t.0 t.1 (judged_names t.1 (map plain_named query.outputs)) (judged_names t.1 query.outputs) (names_plain t.1 query.outputs)

-- tokens with the same spelling spell the same query, apart from places
same_query : (ts us : List Token) (query : Select) → map spelling us ≡ map spelling ts → select ts ≡ Some query → option_map plain_select (select us) ≡ Some (plain_select query)
same_query ts us query same is =
    sym (select_plain us) ∙ ap select (plain_are us ∙ ap (map of_spelling) same ∙ sym (plain_are ts)) ∙ select_plain ts ∙ ap (option_map plain_select) is

-- and are judged alike
pub same_judged : (contents : Contents) (ts us : List Token) (query : Select) (found : Judged) → map spelling us ≡ map spelling ts → select ts ≡ Some query → judged contents query ≡ Ok found → (select us >>= λ q. accepted (judged contents q)) ≡ Some found
same_judged contents ts us query found same is judges = by_query (select us) (same_query ts us query same is)
  where
    by_query : (other : Option Select) → option_map plain_select other ≡ Some (plain_select query) → (other >>= λ q. accepted (judged contents q)) ≡ Some found
    by_query None none = absurd (cc none)
    by_query (Some q) plain =
        sym (judged_plain contents q) ∙ ap (λ (s : Option Select). s >>= λ p. accepted (judged contents p)) plain ∙ judged_plain contents query ∙ ap accepted judges
