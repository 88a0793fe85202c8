-- The grammar's parsers under one module, for the code.
pub use Rattle.sq_grammar.specs.Names.{qualified_name}
pub use Rattle.sq_grammar.specs.Queries.{bare_name, query}
pub use Rattle.sq_grammar.specs.Statements.{columns, as_name, table_alias}
pub use Rattle.sq_grammar.specs.Statements.{given, values_row, source, assignment, assignments, optional_target, conflict, returning, sources, insert, update, delete, statement, statements}
pub use Rattle.sq_grammar.specs.Whole.{whole}
