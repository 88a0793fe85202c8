-- The grammar's parsers under one module, for the code.
pub use Rattle.sq_grammar.specs.Reading.{same, expect, optional}
pub use Rattle.sq_grammar.specs.Names.{name, call_name, qualified_name, column_name, number, digits, next_number, numbers, size, time_zone, square, type_words, type as a_type}
pub use Rattle.sq_grammar.specs.Levels.{sees_link, an_operator, collation, conversion, sign, negation}
pub use Rattle.sq_grammar.specs.Tests.{a_quantifier, a_comparison}
pub use Rattle.sq_grammar.specs.Primaries.{a_text, a_field}
pub use Rattle.sq_grammar.specs.Queries.{names, bracketed_names}
