-- The grammar's parsers under one module, for the code.
pub use Rattle.sq_grammar.specs.Ahead.{holds_query, types_text}
pub use Rattle.sq_grammar.specs.Levels.{zoned, operation, conjunction, disjunction, collated, converted, signed, negated}
pub use Rattle.sq_grammar.specs.Tests.{testing, list, ranged, related}
pub use Rattle.sq_grammar.specs.Primaries.{purposed, typed_text, column, takes_index, scalar, bracketed, exists, array, arm, otherwise, case, cast, pooled, null_if, extract, sort, order_items, order, within_call, filter, call, primary, index, subscripted, expression}
pub use Rattle.sq_grammar.specs.Queries.{bare_name, alias, optional_alias, label, join_words, quantity_word, materialized_words, row_words, strength, waiting, lock, derived, table, condition, source, join, from_clause, output, distinct, clause, group, select, factor, body, with_query, with_queries, limit, offset, query}
